use Rattle.std.specs.Prelude.{unwrap_or}
use Rattle.std.specs.BTreeMap.{get}
use Rattle.std.specs.Ordering.{nat_cmp}
use Rattle.linear_formula.proofs.Renamed.{renaming-steps}
use Rattle.linear_formula.proofs.formula.rename_onto.Goals as goal

pub loop-atom-preserved : goal.loop-atom-preserved
loop-atom-preserved c =
    renaming-steps (λ x. unwrap_or (get nat_cmp c.args.columns.now x) x) c.args.atoms.now c.args.out.now c.loop-atom.out c.push.new.self
    c.loop-atom.atom-index c.atom-item.result c.in_ok-term.term c.loop-atom.invariant c.loop-atom-test.true c.atom-item.is
    c.in_ok-term.ensures.value c.in_ok-term.ensures.kept c.in_ok-push.ensures
