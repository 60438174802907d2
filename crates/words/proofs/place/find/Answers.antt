-- the search goes over what stands from the place on
use Rattle.std.proofs.Common.{rules, arith, ◌≡◌, ◌+◌, ◌-◌, length, length-drop, drop, take, MatchOption}
use lib.Seq.{take_all, take-length}
use Rattle.memchr.specs.Find.{IsFirstByte, is_byte}
use Rattle.words.proofs.Found.{found}
use Rattle.words.proofs.place.find.Goals as goal

pub returns-clause-value : goal.returns-clause-value
returns-clause-value c =
    let from = c.args.from in
    let l = drop from c.args.s.now in
    let total : from + length l ≡ length c.args.s.now = omega (arith, length-drop from c.args.s.now) in
    let whole : take (length c.args.s.now - from) l ≡ l = take_all _ l (omega arith) in
    let first : IsFirstByte (is_byte c.args.b) (take (length c.args.s.now - from) l) c.memchr.result = c.memchr.ensures in
    let h : MatchOption c.memchr.result (c.map_or.result ≡ length c.args.s.now) (λ k. c.map_or.result ≡ from + k) = search rules in
    rw take-length (found c.args.b from c.map_or.result l c.memchr.result (rw whole at first) (rw total h))
