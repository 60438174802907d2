-- What is handed out, by the room, and by the message, the outcome and the kind of an answer.
-- Assumes nothing.
use Prim.Native.Nat.{ℕ, ◌≤◌, ◌<◌}
use mathlib.Core.Path.{◌≡◌, refl, sym, ap, ◌∙◌}
use mathlib.Core.List.{List, [], ◌∷◌}
use borrow.Author.Tests.{le-leb, lt-leb}
use denote.Enum.Declared.{tag_of}
use types.Run.{OneOf, hit, miss}
use lib.ListN.{length}
use lib.Seq.{sets}
use Rattle.bits.specs.Refusals.{refusal_number}
use Rattle.bits.specs.declared.refusal.Refusal.{Refusal}
use Rattle.format.specs.Whole.{Reading, taken, set_aside, refused}
use Rattle.kind_region_wise.specs.declared.RegionWise.{RegionWise}
use Rattle.kind_depth.specs.declared.Depth.{Depth}
use Rattle.kind_user_data.specs.declared.unregistered.Unregistered.{Unregistered}
use Rattle.answers.specs.contracts.Outcome.{the_type}
use Rattle.answers.specs.Answer.{outcome_number, answer_for}
use Rattle.answers.specs.declared.kind.Kind.TheVariants as kinds
use Rattle.answers.specs.declared.Answer.{Answer}
use Rattle.answers.specs.declared.Outcome.{Outcome}
use Rattle.answers.specs.declared.Outcome.TheVariants.{Taken, SetAside, Refused}
use Rattle.answers.specs.declared.Beside.{Beside}
use Rattle.answers.specs.declared.kind.LastingMessage.{LastingMessage}
use Rattle.answers.specs.declared.kind.PassingMessage.{PassingMessage}
use Rattle.answers.specs.declared.kind.Message.{Message}
use Rattle.messages.specs.Beside.{region_wise_of, depth_of, unregistered_of}
use Rattle.messages.specs.declared.Full.{Full}
use Rattle.lent.specs.Lent.{Left, left}
use Rattle.lent.proofs.Stores.{sets-front}
use Rattle.record_row.specs.Fields.{region_wise_fields, depth_fields, lasting_fields, passing_fields, record_fields}
use Rattle.record_row.specs.Handing.{fields_of, handed_over, wrote_by, wrote_fields}

-- the lent row l, too short for xs or not
pub few : (n : ℕ) (xs l : List ℕ) → length l < length xs → left 10 l ≡ handed_over n xs l
unfolding handed_over
few n xs l h = simp (lt-leb _ _ h)

pub fitting : (n : ℕ) (xs l : List ℕ) → length xs ≤ length l → left n (sets l 0 xs) ≡ handed_over n xs l
unfolding handed_over
fitting n xs l h = simp (le-leb _ _ h, sets-front xs l h)

-- xs are the fields of m, which is x
by-fields : {M : Type 0} (n : ℕ) (fields : M → List ℕ) {m x : M} (xs l : List ℕ) {o : Left ℕ} → m ≡ x → xs ≡ fields x → o ≡ handed_over n xs l → o ≡ handed_over n (fields m) l
by-fields n fields xs l e f h = h ∙ ap (λ (ys : List ℕ). handed_over n ys l) (f ∙ sym (ap fields e))

module _ (n e : ℕ) (b : Beside) where
  pub by-lasting : {m x : LastingMessage} (xs l : List ℕ) {o : Left ℕ} → m ≡ x → xs ≡ e ∷ lasting_fields b x → o ≡ handed_over n xs l → o ≡ handed_over n (e ∷ lasting_fields b m) l
  by-lasting = by-fields n (λ y. e ∷ lasting_fields b y)

  pub by-passing : {m x : PassingMessage} (xs l : List ℕ) {o : Left ℕ} → m ≡ x → xs ≡ e ∷ passing_fields b x → o ≡ handed_over n xs l → o ≡ handed_over n (e ∷ passing_fields b m) l
  by-passing = by-fields n (λ y. e ∷ passing_fields b y)

-- a, whose message is m
pub by-message : (n : ℕ) (a : Answer) {m : Message} (l : List ℕ) {o : Left ℕ} → a.message ≡ m → o ≡ handed_over n (a.extension ∷ record_fields a.beside m) l
    → o ≡ handed_over n (fields_of a) l
unfolding fields_of
by-message n a l e = by-fields n (λ y. a.extension ∷ record_fields a.beside y) _ l e refl

-- n is the number of the outcome o, and xs are the fields
module _ (o : Outcome) (n : ℕ) (xs l : List ℕ) (number : n ≡ outcome_number o) where
  -- the outcomes that are no refusal, by their places
  abbrev given : List ℕ
  given = 0 ∷ 1 ∷ []

  wrote : (x : Outcome) → OneOf given (tag_of the_type x) → handed_over (outcome_number x) xs l ≡ wrote_by x xs l
  unfolding wrote_by
  wrote Taken h = refl
  wrote SetAside h = refl
  wrote (Refused why) h = absurd (miss given 2 tt h)

  pub by-given : {ys : List ℕ} {r : Left ℕ} → OneOf given (tag_of the_type o) → ys ≡ xs → r ≡ handed_over n ys l → r ≡ wrote_by o xs l
  by-given h f e = e ∙ ap (λ (zs : List ℕ). handed_over n zs l) f ∙ ap (λ (k : ℕ). handed_over k xs l) number ∙ wrote o h

  unrefused : (x : Outcome) → ((why : Refusal) → x ≡ Refused why → ⊥) → OneOf given (tag_of the_type x)
  unrefused Taken h = hit given 0 tt
  unrefused SetAside h = hit given 1 tt
  unrefused (Refused why) h = absurd (h why refl)

  pub by-unrefused : {ys : List ℕ} {r : Left ℕ} → ((why : Refusal) → o ≡ Refused why → ⊥) → ys ≡ xs → r ≡ handed_over n ys l → r ≡ wrote_by o xs l
  by-unrefused h f e = by-given (unrefused o h) f e

-- ---- by the outcome, of whose answer xs are the fields

pub by-refused : (o : Outcome) (xs l : List ℕ) {why : Refusal} → o ≡ Refused why → left (outcome_number o) l ≡ wrote_by o xs l
unfolding wrote_by
by-refused o xs l e = rw e

pub by-few : (o : Outcome) (xs l : List ℕ) → ((why : Refusal) → o ≡ Refused why → ⊥) → length l < length xs → left 10 l ≡ wrote_by o xs l
unfolding wrote_by
by-few Taken xs l n h = few (outcome_number Taken) xs l h
by-few SetAside xs l n h = few (outcome_number SetAside) xs l h
by-few (Refused why) xs l n h = absurd (n why refl)

pub by-fitting : (o : Outcome) (xs l : List ℕ) → ((why : Refusal) → o ≡ Refused why → ⊥) → length xs ≤ length l → left (outcome_number o) (sets l 0 xs) ≡ wrote_by o xs l
unfolding wrote_by
by-fitting Taken xs l n h = fitting (outcome_number Taken) xs l h
by-fitting SetAside xs l n h = fitting (outcome_number SetAside) xs l h
by-fitting (Refused why) xs l n h = absurd (n why refl)

-- ---- by the kind

module _ (l : List ℕ) where
  -- what was read of a kind whose record stands beside its message
  pub region-wise-wrote : (x : Reading RegionWise) {a : Full RegionWise} {r : Left ℕ} → a ≡ region_wise_of (answer_for kinds.RegionWise x)
      → r ≡ wrote_by a.brief.outcome (a.brief.extension ∷ region_wise_fields a.«record») l → r ≡ wrote_fields (answer_for kinds.RegionWise x) l
  unfolding wrote_fields fields_of
  region-wise-wrote x e h = h ∙ ap (λ (y : Full RegionWise). wrote_by y.brief.outcome (y.brief.extension ∷ region_wise_fields y.«record») l) e ∙ go x
    where
      go : (x : Reading RegionWise) → let a = answer_for kinds.RegionWise x in wrote_by a.outcome (a.extension ∷ region_wise_fields (region_wise_of a).«record») l ≡ wrote_fields a l
      go (taken a e) = refl
      go (set_aside a e) = refl
      go (refused r) = refl

  pub depth-wrote : (x : Reading Depth) {a : Full Depth} {r : Left ℕ} → a ≡ depth_of (answer_for kinds.Depth x)
      → r ≡ wrote_by a.brief.outcome (a.brief.extension ∷ depth_fields a.«record») l → r ≡ wrote_fields (answer_for kinds.Depth x) l
  unfolding wrote_fields fields_of
  depth-wrote x e h = h ∙ ap (λ (y : Full Depth). wrote_by y.brief.outcome (y.brief.extension ∷ depth_fields y.«record») l) e ∙ go x
    where
      go : (x : Reading Depth) → let a = answer_for kinds.Depth x in wrote_by a.outcome (a.extension ∷ depth_fields (depth_of a).«record») l ≡ wrote_fields a l
      go (taken a e) = refl
      go (set_aside a e) = refl
      go (refused r) = refl

  pub unregistered-wrote : (x : Reading Unregistered) {a : Full Unregistered} {r : Left ℕ} → a ≡ unregistered_of (answer_for kinds.Unregistered x)
      → r ≡ wrote_by a.brief.outcome (a.brief.extension ∷ a.«record».uuid_iso_iec_11578) l → r ≡ wrote_fields (answer_for kinds.Unregistered x) l
  unfolding wrote_fields fields_of
  unregistered-wrote x e h = h ∙ ap (λ (y : Full Unregistered). wrote_by y.brief.outcome (y.brief.extension ∷ y.«record».uuid_iso_iec_11578) l) e ∙ go x
    where
      go : (x : Reading Unregistered) → let a = answer_for kinds.Unregistered x in wrote_by a.outcome (a.extension ∷ (unregistered_of a).«record».uuid_iso_iec_11578) l ≡ wrote_fields a l
      go (taken a e) = refl
      go (set_aside a e) = refl
      go (refused r) = refl

  -- what was read comes to this answer
  pub by_answer : {a b : Answer} {r : Left ℕ} → a ≡ b → r ≡ wrote_fields a l → r ≡ wrote_fields b l
  by_answer e h = h ∙ ap (λ (x : Answer). wrote_fields x l) e

  -- what was not read
  pub unread : {a b : Answer} {why : Refusal} {n : ℕ} → a ≡ b → b.outcome ≡ Refused why → n ≡ refusal_number why → left n l ≡ wrote_fields a l
  unfolding wrote_fields
  unread {a} {n = n} e h k =
      let o = ap (λ (x : Answer). x.outcome) e ∙ h in
      ap (λ (m : ℕ). left m l) (k ∙ sym (ap outcome_number o)) ∙ by-refused a.outcome (fields_of a) l o

-- what the goals of `hand` want
pub ruleset handing = (by-refused, by-few, by-fitting)
