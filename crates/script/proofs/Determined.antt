-- Each public contract determines its result: that of `said` the characters that it hands back. That of `call` determines the lent bytes too as it leaves them; that of `Input::next` all but what the
-- outside gives: how many bytes a chunk has that is read, and which.
-- Assumes nothing.
use Rattle.std.proofs.Common.{◌≡◌, ℕ, true, List, sym, ap, ◌∙◌}
use contract.Lifetimes.{Lfts}
use denote.Triple.Clauses.{AtExit}
use borrow.Fn.Kinds.{Dens, res_t, ended_of}
use Rattle.bits.proofs.Determined.{Determines, DeterminesAll, DeterminesPart}
use Rattle.lent.proofs.Stores.{same_left}
use Rattle.script.specs.Input.{Step, onward_of, byte_left, further, next_of}
use Rattle.script.specs.declared.input.Input.{Input}
use Rattle.script.proofs.line.said.Kinds as said-kinds
use Rattle.script.proofs.line.said.Reads as said-reads
use Rattle.script.proofs.line.call.Kinds as call-kinds
use Rattle.script.proofs.line.call.Reads as call-reads
use Rattle.script.proofs.input.Input.start.Kinds as start-kinds
use Rattle.script.proofs.input.Input.start.Reads as start-reads
use Rattle.script.proofs.input.Input.next.Kinds as next-kinds
use Rattle.script.proofs.input.Input.next.Reads as next-reads

pub said-determined : DeterminesPart 1 said-kinds.ps said-kinds.r (λ κs x. x.now) said-reads.Post
said-determined κs a x y s t p q = p ∙ sym q

pub call-determined : DeterminesAll 3 call-kinds.ps call-kinds.r (λ κs s. s.1.1.1.0.now) call-reads.Post
call-determined κs a x y s t p q = same_left (p ∙ sym q)

pub start-determined : Determines 0 start-kinds.ps start-kinds.r start-reads.Post
start-determined κs a x y s t p q = p ∙ sym q

-- where a byte is left, no chunk is read
same_byte : (i : Input) (chunk line : List ℕ) (n m : ℕ) → byte_left (onward_of i) ≡ true → next_of i chunk line n ≡ next_of i chunk line m
unfolding next_of further
same_byte i chunk line n m l = rw l

module _ (κs : Lfts 2) (a : Dens κs next-kinds.ps) (x y : (res_t next-kinds.r κs).Denot) (s t : AtExit (ended_of 2 next-kinds.ps next-kinds.r) κs)
    (p : next-reads.Post κs a x s) (q : next-reads.Post κs a y t) where
  pub byte-determined : byte_left (onward_of a.0) ≡ true → (x ≡ y) × (s.1.1.1.0.now ≡ t.1.1.1.0.now) × (s.1.1.0.now ≡ t.1.1.0.now)
  byte-determined l =
      let e = p.0 ∙ same_byte _ _ _ _ _ l ∙ sym q.0 in
      (ap (λ (o : Step). o.input) e, ap (λ (o : Step). o.line) e, p.1.0 l ∙ sym (q.1.0 l))

  pub chunk-determined : x.end ≡ y.end → (x ≡ y) × (s.1.1.1.0.now ≡ t.1.1.1.0.now)
  chunk-determined n =
      let e = p.0 ∙ ap (next_of _ _ _) n ∙ sym q.0 in
      (ap (λ (o : Step). o.input) e, ap (λ (o : Step). o.line) e)
