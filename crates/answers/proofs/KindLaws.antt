-- All that is shown kind by kind: a number names a kind exactly where it is the kind's own; an answer is of one kind, with one record; a refusal
-- comes with the kind's zeros; a record loses nothing of its message; a message of a kind that is not held is a passing one; only kinds 4 and 5 have
-- a rest; and only kinds 155, 177 and 5 have a record beside their message.
-- Assumes nothing.
use Prim.Native.Nat.{ℕ}
use mathlib.Core.Path.{◌≡◌, refl, sym, ap, ◌∙◌}
use mathlib.Core.Logic.{◌≢◌, ◌↔◌}
use mathlib.Core.Bool.{Bool, true, false}
use mathlib.Core.List.{List, [], ◌∷◌}
use native.Mathlib.Omega.{arith}
use borrow.Author.Tests.{eqb-true}
use denote.Enum.Declared.{tag_of}
use types.Run.{OneOf, miss}
use lib.Dec.{eqb}
use Rattle.std.specs.Prelude.{Option, Some, None, if◌then◌else◌}
use Rattle.bits.specs.declared.refusal.Refusal.{Refusal}
use Rattle.format.specs.Faithful.{Faithful}
use Rattle.format.specs.Whole.{refused}
use Rattle.kind_frame_packing.proofs.Faithful as frame-packing
use Rattle.kind_orientation.proofs.Faithful as orientation
use Rattle.kind_equirectangular.proofs.Faithful as equirectangular
use Rattle.kind_rotation.proofs.Faithful as rotation
use Rattle.kind_region_wise.proofs.Faithful as region-wise
use Rattle.kind_alpha.proofs.Faithful as alpha
use Rattle.kind_depth.proofs.Faithful as depth
use Rattle.kind_user_data.proofs.Faithful as user-data
use Rattle.answers.specs.Listed.{Record, listing, nothing, form, number, Unheld, listed_kinds, named_in, named}
use Rattle.answers.specs.Answer.{message_of, made, answer_for, refused_as}
use Rattle.answers.specs.contracts.kind.Kind.{the_type}
use Rattle.answers.specs.declared.kind.Kind.{Kind}
use Rattle.answers.specs.declared.kind.Kind.TheVariants as kinds
use Rattle.answers.specs.declared.Answer.{Answer}
use Rattle.answers.specs.declared.Outcome.{Outcome}
use Rattle.answers.specs.declared.kind.LastingMessage.TheVariants as lasting
use Rattle.answers.specs.declared.kind.PassingMessage.{PassingMessage}
use Rattle.answers.specs.declared.kind.PassingMessage.TheVariants as passing
use Rattle.answers.specs.declared.kind.Message.{Message}
use Rattle.answers.specs.declared.kind.Message.TheVariants.{Nothing, Lasting, Passing}

-- ---- a number names a kind exactly where it is the kind's own

pub named-of : (k : Kind) → named (number k) ≡ Some k
unfolding named
named-of kinds.FramePacking = refl
named-of kinds.Orientation = refl
named-of kinds.Equirectangular = refl
named-of kinds.Rotation = refl
named-of kinds.RegionWise = refl
named-of kinds.Alpha = refl
named-of kinds.Depth = refl
named-of kinds.Registered = refl
named-of kinds.Unregistered = refl

same_kind : {k j : Kind} → Some k ≡ Some j → k ≡ j
same_kind e = cc

pub one-kind : (k j : Kind) → number k ≡ number j → k ≡ j
one-kind k j e = same_kind (sym (named-of k) ∙ ap named e ∙ named-of j)

listed_in : (ks : List Kind) (n : ℕ) {k : Kind} → named_in ks n ≡ Some k → n ≡ number k
listed_in [] n e = let z : ◌≡◌ {A = ℕ} 0 1 = cc in absurd (omega arith)
listed_in (j ∷ ks) n {k} e = go (eqb n (number j)) refl (listed_in ks n) e
  where
    go : (b : Bool) → eqb n (number j) ≡ b → (named_in ks n ≡ Some k → n ≡ number k) → (if b then Some j else named_in ks n) ≡ Some k → n ≡ number k
    go true h later e = eqb-true n (number j) h ∙ ap number (same_kind e)
    go false h later e = later e

module _ (n : ℕ) where
  pub named-iff : (k : Kind) → (named n ≡ Some k) ↔ (n ≡ number k)
  unfolding named
  named-iff k = (listed_in listed_kinds n, λ e. ap named e ∙ named-of k)

  pub unnamed-iff : (named n ≡ None) ↔ ((k : Kind) → n ≢ number k)
  unnamed-iff = (apart, none)
    where
      apart : named n ≡ None → (k : Kind) → n ≢ number k
      apart e k h = let l : Some k ≡ None = sym ((named-iff k).1 h) ∙ e in let z : ◌≡◌ {A = ℕ} 0 1 = cc in omega arith

      none : ((k : Kind) → n ≢ number k) → named n ≡ None
      none h = go (named n) refl
        where
          go : (x : Option Kind) → named n ≡ x → x ≡ None
          go None e = refl
          go (Some k) e = absurd (h k ((named-iff k).0 e))

-- ---- an answer is of one kind, with one record

abbrev tag : Message → ℕ
tag Nothing = 0
tag (Lasting (lasting.FramePacking a)) = 45
tag (Lasting (lasting.Orientation a)) = 47
tag (Lasting (lasting.Equirectangular a)) = 150
tag (Lasting (lasting.Rotation a)) = 154
tag (Lasting lasting.RegionWise) = 155
tag (Passing (passing.Alpha a)) = 165
tag (Passing passing.Depth) = 177
tag (Passing (passing.Registered a)) = 4
tag (Passing passing.Unregistered) = 5

tag-of : (k : Kind) (a : Record k) → tag (message_of k a) ≡ number k
tag-of kinds.FramePacking a = refl
tag-of kinds.Orientation a = refl
tag-of kinds.Equirectangular a = refl
tag-of kinds.Rotation a = refl
tag-of kinds.RegionWise a = refl
tag-of kinds.Alpha a = refl
tag-of kinds.Depth a = refl
tag-of kinds.Registered a = refl
tag-of kinds.Unregistered a = refl

pub made-kind : (k j : Kind) (o p : Outcome) (a : Record k) (b : Record j) (e f : ℕ) → made k o a e ≡ made j p b f → k ≡ j
made-kind k j o p a b e f h = one-kind k j (sym (tag-of k a) ∙ ap (λ (x : Answer). tag x.message) h ∙ tag-of j b)

made-record : (k : Kind) (o p : Outcome) (a b : Record k) (e f : ℕ) → made k o a e ≡ made k p b f → a ≡ b
made-record kinds.FramePacking o p a b e f h = let m : Lasting (lasting.FramePacking a) ≡ Lasting (lasting.FramePacking b) = ap (λ (x : Answer). x.message) h in cc
made-record kinds.Orientation o p a b e f h = let m : Lasting (lasting.Orientation a) ≡ Lasting (lasting.Orientation b) = ap (λ (x : Answer). x.message) h in cc
made-record kinds.Equirectangular o p a b e f h = let m : Lasting (lasting.Equirectangular a) ≡ Lasting (lasting.Equirectangular b) = ap (λ (x : Answer). x.message) h in cc
made-record kinds.Rotation o p a b e f h = let m : Lasting (lasting.Rotation a) ≡ Lasting (lasting.Rotation b) = ap (λ (x : Answer). x.message) h in cc
made-record kinds.RegionWise o p a b e f h = ap (λ (x : Answer). x.beside.region_wise) h
made-record kinds.Alpha o p a b e f h = let m : Passing (passing.Alpha a) ≡ Passing (passing.Alpha b) = ap (λ (x : Answer). x.message) h in cc
made-record kinds.Depth o p a b e f h = ap (λ (x : Answer). x.beside.depth) h
made-record kinds.Registered o p a b e f h = let m : Passing (passing.Registered a) ≡ Passing (passing.Registered b) = ap (λ (x : Answer). x.message) h in cc
made-record kinds.Unregistered o p a b e f h = ap (λ (x : Answer). x.beside.unregistered) h

pub made-same : (k : Kind) (o p : Outcome) (a b : Record k) (e f : ℕ) → made k o a e ≡ made k p b f → (o ≡ p) × (a ≡ b) × (e ≡ f)
made-same k o p a b e f h = (ap (λ (x : Answer). x.outcome) h, made-record k o p a b e f h, ap (λ (x : Answer). x.extension) h)

-- a refusal of kind k comes with the zeros of k
pub refused-plain : (k : Kind) (r : Refusal) → answer_for k (refused r) ≡ refused_as k r
refused-plain kinds.FramePacking r = refl
refused-plain kinds.Orientation r = refl
refused-plain kinds.Equirectangular r = refl
refused-plain kinds.Rotation r = refl
refused-plain kinds.RegionWise r = refl
refused-plain kinds.Alpha r = refl
refused-plain kinds.Depth r = refl
refused-plain kinds.Registered r = refl
refused-plain kinds.Unregistered r = refl

-- ---- a record loses nothing of its message

pub faithful : (k : Kind) → Faithful (form k).table
faithful kinds.FramePacking = frame-packing.faithful
faithful kinds.Orientation = orientation.faithful
faithful kinds.Equirectangular = equirectangular.faithful
faithful kinds.Rotation = rotation.faithful
faithful kinds.RegionWise = region-wise.faithful
faithful kinds.Alpha = alpha.faithful
faithful kinds.Depth = depth.faithful
faithful kinds.Registered = user-data.registered-faithful
faithful kinds.Unregistered = user-data.unregistered-faithful

-- ---- which messages a slot never holds

differ : {A : Type 0} → true ≡ false → A
differ e = let z : ◌≡◌ {A = ℕ} 0 1 = cc in absurd (omega arith)

pub unheld-passes : (k : Kind) (a : Record k) → Unheld k → (m : PassingMessage) × (message_of k a ≡ Passing m)
unheld-passes kinds.FramePacking a u = differ u
unheld-passes kinds.Orientation a u = differ u
unheld-passes kinds.Equirectangular a u = differ u
unheld-passes kinds.Rotation a u = differ u
unheld-passes kinds.RegionWise a u = differ u
unheld-passes kinds.Alpha a u = (passing.Alpha a, refl)
unheld-passes kinds.Depth a u = (passing.Depth, refl)
unheld-passes kinds.Registered a u = (passing.Registered a, refl)
unheld-passes kinds.Unregistered a u = (passing.Unregistered, refl)

-- ---- which kinds have a rest

pub data RestOf : Kind → Type 0 where
  registered : RestOf kinds.Registered
  unregistered : RestOf kinds.Unregistered
  neither : {k : Kind} → ((a : Record k) → (listing k).rest a ≡ None) → RestOf k

pub rest-of : (k : Kind) → RestOf k
rest-of kinds.FramePacking = neither (λ a. refl)
rest-of kinds.Orientation = neither (λ a. refl)
rest-of kinds.Equirectangular = neither (λ a. refl)
rest-of kinds.Rotation = neither (λ a. refl)
rest-of kinds.RegionWise = neither (λ a. refl)
rest-of kinds.Alpha = neither (λ a. refl)
rest-of kinds.Depth = neither (λ a. refl)
rest-of kinds.Registered = registered
rest-of kinds.Unregistered = unregistered

-- ---- which kinds have a record beside their message

-- all others, by their places in `Kind`
abbrev pub unaccompanied : List ℕ
unaccompanied = 0 ∷ 1 ∷ 2 ∷ 3 ∷ 5 ∷ 7 ∷ []

pub nothing-beside : (k : Kind) → OneOf unaccompanied (tag_of the_type k) → (a : Record k) → (listing k).beside a ≡ nothing
nothing-beside kinds.FramePacking h a = refl
nothing-beside kinds.Orientation h a = refl
nothing-beside kinds.Equirectangular h a = refl
nothing-beside kinds.Rotation h a = refl
nothing-beside kinds.RegionWise h a = absurd (miss unaccompanied 4 tt h)
nothing-beside kinds.Alpha h a = refl
nothing-beside kinds.Depth h a = absurd (miss unaccompanied 6 tt h)
nothing-beside kinds.Registered h a = refl
nothing-beside kinds.Unregistered h a = absurd (miss unaccompanied 8 tt h)
