use Rattle.std.proofs.Common.{take}
use Rattle.std.specs.Prelude.{IsTrue, All}
use Rattle.linear_formula.specs.LinearSum.{is_within}
use Rattle.shadow_elim.specs.Elimination.{pair_sum}
use Rattle.shadow_elim.specs.steps.Making.{made_of_all}
use Rattle.shadow_elim.specs.steps.Lists.{AreAdded}
use Rattle.shadow_elim.proofs.column.add_pairs.Given as goal

abbrev pub invariant-loop-place : goal.invariant-loop-place
invariant-loop-place l = record {
  within : All (λ u. All (λ r. IsTrue (is_within (pair_sum l.column (u.term, r.term)))) l.lowers) (take l.place l.uppers);
  added : AreAdded l.others (made_of_all l.column (take l.place l.uppers) l.lowers) l.initial.lists.items l.lists.items;
}
