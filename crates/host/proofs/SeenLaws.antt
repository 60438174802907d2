-- Demand 3 in what a C player sees; and that bytes past the stated size, and what may vary, leave no trace in what it is handed.
-- Assumes nothing.
use Prim.Native.Nat.{ℕ, ◌≤◌, ◌<◌}
use mathlib.Core.Path.{◌≡◌, refl, sym, ap, ◌∙◌}
use mathlib.Core.Bool.{Bool, true, false}
use mathlib.Core.List.{List, ◌∷◌}
use lib.Dec.{leb}
use lib.ListN.{length, take, drop}
use Rattle.std.specs.Prelude.{if◌then◌else◌}
use Rattle.bits.specs.Refusals as refusals
use Rattle.lent.specs.Lent.{Left, left, over}
use Rattle.answers.specs.Answer.{answer_number}
use Rattle.answers.specs.declared.Answer.{Answer}
use Rattle.answers.specs.declared.Outcome.{Outcome}
use Rattle.answers.specs.declared.Outcome.TheVariants.{Taken, SetAside, Refused}
use Rattle.reader.specs.Reader.{answer_to}
use Rattle.reader.proofs.Local.{local}
use Rattle.runs.specs.Cell.{Cell}
use Rattle.runs.proofs.Cells.{isolated}
use Rattle.slots.specs.Slots.{Eight, fresh_slot, slot_at}
use Rattle.slots.specs.declared.Slot.{Slot}
use Rattle.slots.specs.declared.Slots.{Slots}
use Rattle.isolation.specs.Runs.{Call, opens, Reply, said, shown, read, tabled, turn, on, only, unextended, blind}
use Rattle.isolation.specs.Pairs.{VariedPayload, Pair, Pairs}
use Rattle.isolation.proofs.OneCall.{slot}
use Rattle.isolation.proofs.PairLaws.{varied-answer, like}
use Rattle.record_row.specs.Fields.{record_fields}
use Rattle.record_row.specs.Handing.{fields_of, handed_over, wrote_by, wrote_fields}
use Rattle.host.specs.Part.{part_at, part_of}
use Rattle.host.specs.Seen.{seen, called, c_step, c_turn, blindly, SeenIsolated, SameButFirst}

-- ---- demand 3

blind-seen : (r : Reply) → blindly (seen r) ≡ seen (blind r)
blind-seen (said a) = refl
blind-seen (shown w) = refl
blind-seen (read a) = refl
blind-seen (tabled t) = refl

-- slot k is a cell of what C calls
seen-slot : (k : ℕ) → k < 8 → Cell c_step c_turn Eight (on k) (λ s. slot_at s k)
seen-slot k h =
    record {
      keeps = (slot k h).keeps;
      own = λ s c e a. ap (λ (w : Slot × Reply). (w.0, seen w.1)) ((slot k h).own s c e a);
      other = (slot k h).other;
    }

seen-like : {c d : Call} → Pair c d → (x : Slot) → ((c_turn x c).0 ≡ (c_turn x d).0) × (blindly (c_turn x c).1 ≡ blindly (c_turn x d).1)
seen-like {c} {d} p x =
    let w = like p x in
    (w.0, blind-seen (turn x c).1 ∙ ap seen w.1 ∙ sym (blind-seen (turn x d).1))

pub seen-isolated : (k : ℕ) → k < 8 → (s t : Slots) → Eight s → Eight t → (cs ds xs ys : List Call)
    → only k cs ≡ opens k ∷ xs → only k ds ≡ opens k ∷ ys → Pairs xs ys → SeenIsolated k s t cs ds xs ys
seen-isolated k h = isolated (seen-slot k h) (opens k) fresh_slot (called 0) (λ x. refl) Pair blindly (λ c d. seen-like {c = c} {d = d})

-- ---- no byte past the stated size has any effect on what an entry answers

module _ (n size : ℕ) (s t : List ℕ) (h : size ≤ length s) (l : size ≤ length t) (e : take size s ≡ take size t) where
  pub number-local : answer_number (answer_to n size s) ≡ answer_number (answer_to n size t)
  number-local = ap answer_number (local n size s t h l e)

  pub row-local : (row : List ℕ) → wrote_fields (answer_to n size s) row ≡ wrote_fields (answer_to n size t) row
  row-local row = ap (λ a. wrote_fields a row) (local n size s t h l e)

  pub part-local : part_of n size s ≡ part_of n size t
  unfolding part_of
  part-local = ap (λ a. part_at a.rest size) (local n size s t h l e)

-- ---- a varied payload gives the same row but for its first place

handed-but-first : (n e d : ℕ) (fields row : List ℕ) → SameButFirst (handed_over n (e ∷ fields) row) (handed_over n (d ∷ fields) row)
unfolding handed_over
handed-but-first n e d fields row = go (leb (length (e ∷ fields)) (length row))
  where
    By : Bool → ℕ → Left ℕ
    By b x = if b then left n (over (x ∷ fields) row) else left (refusals.refusal_number refusals.by_rows) row

    go : (b : Bool) → SameButFirst (By b e) (By b d)
    go true = record { answered = refl; long = refl; rest = refl }
    go false = record { answered = refl; long = refl; rest = refl }

row-unextended : (a : Answer) (row : List ℕ) → SameButFirst (wrote_fields a row) (wrote_fields (unextended a) row)
unfolding wrote_fields wrote_by fields_of
row-unextended a row = go a.outcome
  where
    fields : (n : ℕ) → SameButFirst (handed_over n (fields_of a) row) (handed_over n (fields_of (unextended a)) row)
    fields n = handed-but-first n a.extension 0 (record_fields a.beside a.message) row

    go : (o : Outcome) → SameButFirst (wrote_by o (fields_of a) row) (wrote_by o (fields_of (unextended a)) row)
    go Taken = fields 0
    go SetAside = fields 20
    go (Refused why) = record { answered = refl; long = refl; rest = refl }

pub varied-row : (kind size : ℕ) (bytes : List ℕ) (size' : ℕ) (bytes' : List ℕ) → VariedPayload kind size bytes size' bytes' → (row : List ℕ)
    → SameButFirst (wrote_fields (answer_to kind size bytes) row) (wrote_fields (answer_to kind size' bytes') row)
varied-row kind size bytes size' bytes' v row =
    let x = row-unextended (answer_to kind size bytes) row in
    let y = row-unextended (answer_to kind size' bytes') row in
    let e = ap (λ a. wrote_fields a row) (varied-answer kind size bytes size' bytes' v) in
    record {
      answered = x.answered ∙ ap (λ (o : Left ℕ). o.answer) e ∙ sym y.answered;
      long = x.long ∙ ap (λ (o : Left ℕ). length o.lent) e ∙ sym y.long;
      rest = x.rest ∙ ap (λ (o : Left ℕ). drop 1 o.lent) e ∙ sym y.rest;
    }
