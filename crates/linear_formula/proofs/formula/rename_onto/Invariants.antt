use Rattle.std.specs.Prelude.{unwrap_or}
use Rattle.std.specs.BTreeMap.{get}
use Rattle.std.specs.Ordering.{nat_cmp}
use Rattle.linear_formula.proofs.Renamed.{Renaming}
use Rattle.linear_formula.proofs.formula.rename_onto.Given as goal

abbrev pub invariant-loop-atom : goal.invariant-loop-atom
invariant-loop-atom l =
    Renaming (λ x. unwrap_or (get nat_cmp l.columns x) x) l.atoms l.initial.out l.out l.atom-index
