-- What a payload of a kind that is held leaves of all five records, by the one that it fills.
-- Assumes nothing.
use Prim.Native.Nat.{ℕ}
use native.Mathlib.Omega.{arith}
use mathlib.Core.Path.{◌≡◌, refl, sym, ap, ◌∙◌, subst}
use mathlib.Core.Logic.{◌≢◌}
use mathlib.Core.Bool.{Bool, true, false}
use lib.Dec.{eqb}
use borrow.Author.Tests.{eqb-true, eqb-false}
use Rattle.std.specs.Prelude.{if◌then◌else◌}
use mathlib.Core.List.{List}
use lib.ListN.{take}
use Rattle.bits.specs.Out.{Out}
use Rattle.bits.specs.Out as out
use Rattle.bits.specs.Tail.{Ending}
use Rattle.std.specs.Prelude.{Ok, Err}
use Rattle.format.specs.Reading.{run_at}
use Rattle.format.specs.Whole.{Reading, taken, set_aside, refused, ended}
use Rattle.format.proofs.Whole.{ending_at, closed_at, whole-at}
use Rattle.kind_region_wise.specs.RegionWise.{BareCancel, region_wise as regionWiseTable}
use Rattle.kind_region_wise.proofs.Kept.{read_kept, zeros-bare}
use Rattle.kind_region_wise.specs.declared.RegionWise.{RegionWise}
use Rattle.answers.specs.Listed.{number, zeros, form, reading_of}
use Rattle.answers.specs.Answer.{outcome_number, brief_of, made, answer_for}
use Rattle.answers.specs.declared.kind.Kind.TheVariants as kinds
use Rattle.answers.specs.declared.kind.LastingMessage.{LastingMessage}
use Rattle.answers.specs.declared.kind.LastingMessage.TheVariants as lasting
use Rattle.answers.specs.declared.kind.Message.TheVariants.{Lasting as lastingMessage}
use Rattle.answers.specs.declared.Brief.{Brief}
use Rattle.reader.specs.Reader.{answer_to}
use Rattle.answers.specs.declared.Answer.{Answer}
use Rattle.answers.specs.declared.Outcome.{Outcome}
use Rattle.answers.specs.declared.Outcome.TheVariants.{Taken, SetAside, Refused}
use Rattle.reader.proofs.Calls.{of-kind}
use Rattle.held.specs.Lasting.{Lasting, frame_packing, orientation, equirectangular, rotation, region_wise, kind_of, RecordOf, HeldOf}
use Rattle.held.specs.Held.{none_of, taken_of, held_of, nothing, replaced, took}
use Rattle.held.specs.declared.Held.{Held}
use Rattle.held.proofs.HeldLaws.{of-nothing, other-replaced}
use Rattle.held.proofs.LastingLaws.{same_kind}
use Rattle.feeding.specs.Feed.{held_lasting, held_after}
use Rattle.feeding.specs.Filling.{reply_of, taken_mark, lasting_in, leaving, leaving_of, filling, filled_of, storing, left_by}
use Rattle.feeding.specs.declared.filling.Reply.{Reply}
use Rattle.feeding.specs.declared.filling.Filled as declared
use Rattle.feeding.proofs.FeedLaws.{untaken-keeps, took-after}

-- it is taken with a record of its kind, or not taken
pub data Filled (k : Lasting) (a : Answer) : Type 0 where
  fills : (b : RecordOf k) (e : ℕ) → a ≡ made (kind_of k) Taken b e → Filled k a
  leaves : a.outcome ≢ Taken → Filled k a

filled-reading : (k : Lasting) (x : Reading (RecordOf k)) → Filled k (answer_for (kind_of k) x)
filled-reading k (taken b e) = fills b e refl
filled-reading k (set_aside b e) = leaves (λ q. let z : ◌≡◌ {A = ℕ} 0 1 = cc in omega arith)
filled-reading k (refused r) = leaves (λ q. let z : ◌≡◌ {A = ℕ} 0 1 = cc in omega arith)

pub filled : (k : Lasting) (size : ℕ) (bytes : List ℕ) → Filled k (answer_to (number (kind_of k)) size bytes)
filled k size bytes =
    of-kind (kind_of k) (Filled k) size bytes (leaves (λ q. let z : ◌≡◌ {A = ℕ} 0 1 = cc in omega arith)) (filled-reading k (reading_of (kind_of k) (take size bytes)))

leaving-taken : (k : Lasting) (b : RecordOf k) (e : ℕ) → let a = made (kind_of k) Taken b e in leaving k (lasting_in a.message) a.beside.region_wise ≡ taken_of k b
leaving-taken frame_packing b e = refl
leaving-taken orientation b e = refl
leaving-taken equirectangular b e = refl
leaving-taken rotation b e = refl
leaving-taken region_wise b e = refl

-- with the record that it fills in its place, and without where it fills none
module _ (k : Lasting) (h : Held) (a : Answer) where
  pub fills-held : Filled k a → taken_mark a.outcome ≢ 0 → replaced k h (leaving k (lasting_in a.message) a.beside.region_wise) ≡ held_after h a
  fills-held (fills b e m) t =
      ap (λ (x : Answer). replaced k h (leaving k (lasting_in x.message) x.beside.region_wise)) m ∙ ap (replaced k h) (leaving-taken k b e) ∙ sym (took-after k h b e) ∙ ap (held_after h) (sym m)
  fills-held (leaves d) t = absurd (go a.outcome d t)
    where
      go : (o : Outcome) → o ≢ Taken → taken_mark o ≢ 0 → ⊥
      go Taken d t = d refl
      go SetAside d t = t refl
      go (Refused r) d t = t refl

  pub leaves-held : taken_mark a.outcome ≡ 0 → held_after h a ≡ h
  leaves-held z = untaken-keeps h a (λ q. omega (arith, sym (ap taken_mark q) ∙ z))

-- and so what code leaves that stores what it fills
pub stores : (k : Lasting) (h : Held) (size : ℕ) (bytes : List ℕ) → storing k h (filled_of k size bytes) ≡ left_by h (answer_to (number (kind_of k)) size bytes)
unfolding filled_of filling
stores k h size bytes = go (eqb (taken_mark a.outcome) 0) refl
  where
    a : Answer
    a = answer_to (number (kind_of k)) size bytes

    go : (b : Bool) → eqb (taken_mark a.outcome) 0 ≡ b
        → ◌≡◌ {A = Held × Reply} (if b then h else replaced k h (leaving k (lasting_in a.message) a.beside.region_wise), reply_of a) (left_by h a)
    go true e = ap (λ (x : Held). (x, reply_of a)) (sym (leaves-held k h a (eqb-true _ 0 e)))
    go false e = ap (λ (x : Held). (x, reply_of a)) (fills-held k h a (filled k size bytes) (eqb-false _ 0 e))

pub stores_kind : (k : Lasting) (h : Held) (kind size : ℕ) (bytes : List ℕ) (f : declared.Filled (HeldOf k)) (w : Held × Reply)
    → w ≡ storing k h f → f ≡ filled_of k size bytes → kind ≡ number (kind_of k) → w ≡ left_by h (answer_to kind size bytes)
stores_kind k h kind size bytes f w e g n = e ∙ ap (storing k h) g ∙ stores k h size bytes ∙ ap (λ (i : ℕ). left_by h (answer_to i size bytes)) (sym n)

-- ---- what a message of another kind leaves

abbrev message_of : (k : Lasting) → RecordOf k → LastingMessage
message_of frame_packing a = lasting.FramePacking a
message_of orientation a = lasting.Orientation a
message_of equirectangular a = lasting.Equirectangular a
message_of rotation a = lasting.Rotation a
message_of region_wise a = lasting.RegionWise

-- every message is of some kind
data Of (m : LastingMessage) : Type 0 where
  of : (j : Lasting) (a : RecordOf j) → m ≡ message_of j a → held_lasting nothing m (zeros kinds.RegionWise) ≡ took j nothing a → Of m

of_some : (m : LastingMessage) → Of m
of_some (lasting.FramePacking x) = of frame_packing x refl refl
of_some (lasting.Orientation x) = of orientation x refl refl
of_some (lasting.Equirectangular x) = of equirectangular x refl refl
of_some (lasting.Rotation x) = of rotation x refl refl
of_some lasting.RegionWise = of region_wise (zeros kinds.RegionWise) refl refl

pub another_leaves : (k : Lasting) (m : LastingMessage) → ((a : RecordOf k) → m ≢ message_of k a) → none_of k ≡ leaving_of k m
another_leaves k m d = go (of_some m)
  where
    go : Of m → none_of k ≡ leaving_of k m
    go (of j a e f) = apart (eqb (number (kind_of k)) (number (kind_of j))) refl
      where
        here : k ≡ j → (a : RecordOf j) → m ≢ message_of j a
        here q = subst (λ (i : Lasting). (a : RecordOf i) → m ≢ message_of i a) q d

        apart : (b : Bool) → eqb (number (kind_of k)) (number (kind_of j)) ≡ b → none_of k ≡ leaving_of k m
        apart true q = absurd (here (same_kind k j (eqb-true _ _ q)) a e)
        apart false q = sym (ap (held_of k) f ∙ other-replaced k j nothing (taken_of j a) (eqb-false _ _ q) ∙ of-nothing k)

-- ---- what code makes of a brief answer

-- of a kind whose record does not stand beside the message, nothing hangs on what does
apart-beside : (h : Held) (m : LastingMessage) (p q : RegionWise) → held_lasting h m p ≡ replaced region_wise (held_lasting h m q) (held_of region_wise (held_lasting h m p))
apart-beside h (lasting.FramePacking x) p q = refl
apart-beside h (lasting.Orientation x) p q = refl
apart-beside h (lasting.Equirectangular x) p q = refl
apart-beside h (lasting.Rotation x) p q = refl
apart-beside h lasting.RegionWise p q = refl

small-leaving : (k : Lasting) → number (kind_of k) ≢ 155 → (m : LastingMessage) (p : RegionWise) → leaving_of k m ≡ leaving k m p
small-leaving k d m p =
    ap (held_of k) (apart-beside nothing m (zeros kinds.RegionWise) p) ∙ other-replaced k region_wise (held_lasting nothing m p) (held_of region_wise (held_lasting nothing m (zeros kinds.RegionWise))) d

abbrev briefly : Brief → Reply
briefly b = record { number = outcome_number b.outcome; extension = b.extension }

pub small-filling : (k : Lasting) → number (kind_of k) ≢ 155 → (size : ℕ) (bytes : List ℕ) (b : Brief) (r : Reply) (t : ℕ) (x : HeldOf k)
    → b ≡ brief_of (answer_to (number (kind_of k)) size bytes) → r ≡ briefly b → t ≡ taken_mark b.outcome → x ≡ leaving_of k (lasting_in b.message)
    → (r, (t, x)) ≡ filling k size bytes
unfolding filling
small-filling k d size bytes b r t x e f g h =
    let a = answer_to (number (kind_of k)) size bytes in
    rw (f, g, h, e) (ap (λ (y : HeldOf k). (reply_of a, (taken_mark a.outcome, y))) (small-leaving k d (lasting_in a.message) a.beside.region_wise))

-- every answer to kind 155 comes with its message
message-155 : (size : ℕ) (bytes : List ℕ) → (answer_to 155 size bytes).message ≡ lastingMessage lasting.RegionWise
message-155 size bytes = of-kind kinds.RegionWise (λ a. a.message ≡ lastingMessage lasting.RegionWise) size bytes refl (read (reading_of kinds.RegionWise (take size bytes)))
  where
    read : (x : Reading (RecordOf region_wise)) → (answer_for kinds.RegionWise x).message ≡ lastingMessage lasting.RegionWise
    read (taken b e) = refl
    read (set_aside b e) = refl
    read (refused r) = refl

-- and with a record whose cancel is bare
abbrev Bare : Answer → Type 0
Bare a = BareCancel a.beside.region_wise

pub bare-155 : (size : ℕ) (bytes : List ℕ) → Bare (answer_to 155 size bytes)
unfolding reading_of
bare-155 size bytes = of-kind kinds.RegionWise Bare size bytes zeros-bare (subst (λ x. Bare (answer_for kinds.RegionWise x)) (sym (whole-at (form kinds.RegionWise) s)) (read (run_at regionWiseTable s 0) refl))
  where
    s : List ℕ
    s = take size bytes

    ends : (a : RegionWise) → BareCancel a → (t : Ending) → Bare (answer_for kinds.RegionWise (ended (form kinds.RegionWise).aside a t))
    ends a b (Ok e) = b
    ends a b (Err r) = zeros-bare

    read : (o : Out RegionWise) → run_at regionWiseTable s 0 ≡ o → Bare (answer_for kinds.RegionWise (closed_at (form kinds.RegionWise) s o))
    read (out.taken a q) e = ends a (read_kept s 0 e).bare (ending_at true s q)
    read (out.refused r) e = zeros-bare

pub region-wise-filling : (size : ℕ) (bytes : List ℕ) (b : Brief) (p : RegionWise) (r : Reply) (t : ℕ) (x : HeldOf region_wise)
    → b ≡ brief_of (answer_to 155 size bytes) → p ≡ (answer_to 155 size bytes).beside.region_wise → r ≡ briefly b → t ≡ taken_mark b.outcome → x ≡ taken_of region_wise p
    → (r, (t, x)) ≡ filling region_wise size bytes
unfolding filling
region-wise-filling size bytes b p r t x e q f g h = rw (f, g, h, q, e, message-155 size bytes)
