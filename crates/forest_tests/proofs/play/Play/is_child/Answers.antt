use Rattle.std.proofs.Common.{Some, sym, ap, ◌∙◌, eqb-true, arith}
use Rattle.query_tree.proofs.Lists.{present}
use Rattle.forest_tests.proofs.play.Play.is_child.Goals as goal

pub returns-in-Some : goal.returns-in-Some
returns-in-Some c = λ t.
    let e = present c.args.self.now.forest.entries c.args.child (omega (arith, c.count.ensures.count, c.if-child-count.false)) in
    record {
      entry = e.0;
      at = e.1;
      parent = sym (c.parent.ensures e.0 e.1) ∙ (c.in-Some.is ∙ ap Some (eqb-true c.in-Some.parent c.args.id t));
    }
