use Rattle.std.proofs.Common.{◌≡◌, map, take}
use Rattle.bolt_rounds.proofs.moves.above_child.Given as goal

abbrev pub invariant-loop-query : goal.invariant-loop-query
invariant-loop-query l = map (λ a. a.value) l.all.items ≡ map (λ a. a.value) (take l.query-index l.above)
