-- Every record that calls leave in a slot that held nothing is a message by its kind's table, and no cancel; of kind 155 it has a count that a
-- table can be made of.
-- Assumes nothing.
use Prim.Native.Nat.{ℕ}
use native.Mathlib.Omega.{arith}
use mathlib.Core.Path.{◌≡◌, ap, subst}
use mathlib.Core.List.{List, [], ◌∷◌, ◌++◌}
use Rattle.kind_region_wise.specs.declared.RegionWise.{RegionWise}
use Rattle.kind_region_wise.proofs.Kept as regions
use Rattle.region_table.specs.Rows.{Countable}
use Rattle.answers.specs.Answer.{answer_number, made}
use Rattle.reader.specs.Reader.{answer_to}
use Rattle.answers.specs.declared.Outcome.TheVariants.{Taken}
use Rattle.reader.proofs.Demand2.{answer-0}
use Rattle.held.specs.Held.{nothing}
use Rattle.held.specs.Lasting.{Lasting, region_wise, kind_of, RecordOf, cancel_of}
use Rattle.slots.specs.declared.Slot.{Slot}
use Rattle.slots.proofs.Laws.{either}
use Rattle.feeding.specs.Feed.{shut_answer}
use Rattle.feeding.proofs.FeedLaws.{shut-is-8}
use Rattle.isolation.specs.Runs.{Call, opens, closes, sequences, pictures, feeds, tables, said, shown, read, turn, ends}
use Rattle.isolation.specs.Lasting.{ByTable, HoldsOf, Told, history, Answers}
use Rattle.isolation.proofs.Persistence.{unread, holds-when}

-- ---- a reply that says so

-- an answer of 0 comes of a message by the table
by-table : (k : Lasting) (a : RecordOf k) (e kind size : ℕ) (bytes : List ℕ) → answer_to kind size bytes ≡ made (kind_of k) Taken a e → ByTable k a
by-table k a e kind size bytes h = let d = ((answer-0 kind size bytes (kind_of k) a e).0 h).1 in (d.message, d.coded)

module _ (k : Lasting) (a : RecordOf k) where
  turn-table : (x : Slot) (c : Call) → Answers k a (turn x c).1 → ByTable k a
  turn-table x (opens n) w = absurd (unread k a _ tt w)
  turn-table x (closes n) w = either x _ _ (λ v. Answers k a (said v.1) → ByTable k a) (λ o v. absurd (unread k a _ tt v)) (λ o v. absurd (unread k a _ tt v)) w
  turn-table x (sequences n) w = either x _ _ (λ v. Answers k a (said v.1) → ByTable k a) (λ o v. absurd (unread k a _ tt v)) (λ o v. absurd (unread k a _ tt v)) w
  turn-table x (pictures n) w = either x _ _ (λ v. Answers k a (shown v.1) → ByTable k a) (λ o v. absurd (unread k a _ tt v)) (λ o v. absurd (unread k a _ tt v)) w
  turn-table x (feeds n kind size bytes) w = either x _ _ (λ v. Answers k a (read v.1) → ByTable k a) (λ o. taken) (λ o. refused) w
    where
      taken : Answers k a (read (answer_to kind size bytes)) → ByTable k a
      taken w = let e = w.is in by-table k a w.extension kind size bytes (cc)

      refused : Answers k a (read (shut_answer kind)) → ByTable k a
      refused w =
          let e = w.is in
          let q : shut_answer kind ≡ made (kind_of k) Taken a w.extension = cc in
          absurd (omega (arith, shut-is-8 kind, ap answer_number q))
  turn-table x (tables n lent) w = absurd (unread k a _ tt w)

  -- in a history
  told-table : (cs : List Call) (x : Slot) (before : List Told) (t : Told) (later : List Told) → history x cs ≡ before ++ t ∷ later
      → Answers k a t.reply → ByTable k a
  told-table [] x [] t later e w = let z : ◌≡◌ {A = ℕ} 0 1 = cc in absurd (omega arith)
  told-table [] x (b ∷ bs) t later e w = let z : ◌≡◌ {A = ℕ} 0 1 = cc in absurd (omega arith)
  told-table (c ∷ cs) x [] t later e w =
      let r : t.reply ≡ (turn x c).1 = cc in
      turn-table x c (subst (Answers k a) r w)
  told-table (c ∷ cs) x (b ∷ bs) t later e w =
      let r : history (turn x c).0 cs ≡ bs ++ t ∷ later = cc in
      told-table cs (turn x c).0 bs t later r w

-- ---- what a slot holds after calls, where it held nothing before them

pub alone-table : (k : Lasting) (a : RecordOf k) (x : Slot) → x.held ≡ nothing → (cs : List Call)
    → HoldsOf k a (ends x cs) → ByTable k a × (cancel_of k a ≡ 0)
alone-table k a x e cs q =
    let s = (holds-when k a x e cs).0 q in
    (told-table k a cs x s.before s.giver s.later s.split s.gives.answers, s.gives.stays)

pub table-countable : (p : RegionWise) → ByTable region_wise p → cancel_of region_wise p ≡ 0 → Countable p
table-countable p d z =
    let t = regions.kept d.0 p d.1 in
    record { some = t.some z; few = t.few }
