-- An answer, put together again from its brief and what stands beside its message: nothing, or the record of kind 155, 177 or 5.
-- Assumes nothing.
use Prim.Native.Nat.{ℕ}
use mathlib.Core.Path.{◌≡◌, refl, ap₂}
use mathlib.Core.List.{List}
use Rattle.std.specs.Prelude.{Ok, Err}
use denote.Enum.Declared.{tag_of}
use types.Run.{OneOf, hit}
use Rattle.bits.specs.Out.{Out, taken, refused}
use Rattle.bits.specs.Tail.{Ending, tail_at}
use Rattle.format.specs.Whole.{Reading, ended}
use Rattle.format.specs.Whole as reading
use Rattle.format.proofs.Whole.{closed_at}
use Rattle.kind_region_wise.specs.declared.RegionWise.{RegionWise}
use Rattle.kind_depth.specs.declared.Depth.{Depth}
use Rattle.messages.specs.Answered.{kept, recorded}
use Rattle.messages.specs.declared.Full.{Full}
use Rattle.answers.specs.contracts.kind.Kind.{the_type}
use Rattle.answers.proofs.KindLaws.{unaccompanied, nothing-beside}
use Rattle.answers.specs.Listed.{Record, nothing, zeros, form, never}
use Rattle.answers.specs.Answer.{brief_of, answer_of, answer_for}
use Rattle.answers.specs.declared.kind.Kind.{Kind}
use Rattle.answers.specs.declared.kind.Kind.TheVariants as kinds

pub alone : (k : Kind) → OneOf unaccompanied (tag_of the_type k) → (x : Reading (Record k)) → answer_of (brief_of (answer_for k x)) nothing ≡ answer_for k x
alone k h (reading.taken a e) = rw (nothing-beside k h a)
alone k h (reading.set_aside a e) = rw (nothing-beside k h a)
alone k h (reading.refused r) = rw (nothing-beside k h (zeros k))

-- a kind that is none of three has none
pub unnamed : (k : Kind) → (k ≡ kinds.RegionWise → ⊥) → (k ≡ kinds.Depth → ⊥) → (k ≡ kinds.Unregistered → ⊥) → OneOf unaccompanied (tag_of the_type k)
unnamed kinds.FramePacking r d u = hit unaccompanied 0 tt
unnamed kinds.Orientation r d u = hit unaccompanied 1 tt
unnamed kinds.Equirectangular r d u = hit unaccompanied 2 tt
unnamed kinds.Rotation r d u = hit unaccompanied 3 tt
unnamed kinds.RegionWise r d u = absurd (r refl)
unnamed kinds.Alpha r d u = hit unaccompanied 5 tt
unnamed kinds.Depth r d u = absurd (d refl)
unnamed kinds.Registered r d u = hit unaccompanied 7 tt
unnamed kinds.Unregistered r d u = absurd (u refl)

-- of those three, the other records are zeros

pub region-wise-beside : (x : Reading (Record kinds.RegionWise)) → let a = answer_for kinds.RegionWise x in
    answer_of (brief_of a) (record { region_wise = a.beside.region_wise; depth = nothing.depth; unregistered = nothing.unregistered }) ≡ a
region-wise-beside (reading.taken a e) = refl
region-wise-beside (reading.set_aside a e) = refl
region-wise-beside (reading.refused r) = refl

pub depth-beside : (x : Reading (Record kinds.Depth)) → let a = answer_for kinds.Depth x in
    answer_of (brief_of a) (record { region_wise = nothing.region_wise; depth = a.beside.depth; unregistered = nothing.unregistered }) ≡ a
depth-beside (reading.taken a e) = refl
depth-beside (reading.set_aside a e) = refl
depth-beside (reading.refused r) = refl

pub unregistered-beside : (x : Reading (Record kinds.Unregistered)) → let a = answer_for kinds.Unregistered x in
    answer_of (brief_of a) (record { region_wise = nothing.region_wise; depth = nothing.depth; unregistered = a.beside.unregistered }) ≡ a
unregistered-beside (reading.taken a e) = refl
unregistered-beside (reading.set_aside a e) = refl
unregistered-beside (reading.refused r) = refl

-- ---- the record beside a message is the one that was read, or zeros on a refusal

pub region-wise-recorded : (s : List ℕ) (o : Out RegionWise) → (answer_for kinds.RegionWise (closed_at (form kinds.RegionWise) s o)).beside.region_wise ≡ recorded (zeros kinds.RegionWise) s o
region-wise-recorded s (taken a q) = go (tail_at s q)
  where
    go : (t : Ending) → (answer_for kinds.RegionWise (ended never a t)).beside.region_wise ≡ kept (zeros kinds.RegionWise) a t
    go (Ok e) = refl
    go (Err r) = refl
region-wise-recorded s (refused r) = refl

pub depth-recorded : (s : List ℕ) (o : Out Depth) → (answer_for kinds.Depth (closed_at (form kinds.Depth) s o)).beside.depth ≡ recorded (zeros kinds.Depth) s o
depth-recorded s (taken a q) = go (tail_at s q)
  where
    go : (t : Ending) → (answer_for kinds.Depth (ended never a t)).beside.depth ≡ kept (zeros kinds.Depth) a t
    go (Ok e) = refl
    go (Err r) = refl
depth-recorded s (refused r) = refl

pub both : {R : Type 0} (x y : Full R) → x.brief ≡ y.brief → x.«record» ≡ y.«record» → x ≡ y
both x y p q = ap₂ (λ b r. record { brief = b; «record» = r }) p q
