use Rattle.std.proofs.Common.{map, take}
use Rattle.std.specs.Prelude.{IsTrue, All}
use Rattle.linear_formula.specs.LinearSum.{is_within}
use Rattle.shadow_elim.specs.Elimination.{pair_sum}
use Rattle.shadow_elim.specs.steps.Making.{made}
use Rattle.shadow_elim.specs.steps.Lists.{AreAdded}
use Rattle.shadow_elim.proofs.column.add_pairs_of.Given as goal

abbrev pub invariant-loop-place : goal.invariant-loop-place
invariant-loop-place l = record {
  within : All (λ r. IsTrue (is_within (pair_sum l.column (l.upper.term, r.term)))) (take l.place l.lowers);
  added : AreAdded l.others (map (made l.column l.upper) (take l.place l.lowers)) l.initial.lists.items l.lists.items;
}
