use Rattle.std.proofs.Common.{◌∙◌, ap, [], ◌∷◌, ◌+◌, ◌++◌, take, drop}
use Rattle.c_typing.specs.Scope.{asserts_in_file}
use Rattle.c_typing.specs.steps.Tables.{procedures_in, scoped_in, best_of}
use Rattle.c_typing.specs.steps.Listed.{names_in}
use Rattle.c_typing.proofs.Filed.{items-best, items-asserts, items-few}
use Rattle.c_typing.proofs.Scoping.{reached_low, reached_next, scoped_next}
use Rattle.c_typing.proofs.check.procedures.procedures.Goals as goal

pub item-requires-clause-globals : goal.item-requires-clause-globals
item-requires-clause-globals c =
    let items = c.args.table.now.items.now in
    reached_low items items c.loop-tree.tree-index c.tree-item.result c.loop-tree.before.globals c.loop-tree-test.true c.tree-item.is
    c.loop-tree.invariant.reached

pub loop-tree-preserved : goal.loop-tree-preserved
loop-tree-preserved c =
    let items = c.args.table.now.items.now in
    let ps = procedures_in items in
    let old = c.loop-tree.before in
    let new = c.in_ok-before.before in
    let more = c.in_ok-before.ensures in
    let known = take old.globals (names_in items) in
    record {
      few = items-few c.tree-item.result old.procedures new.procedures c.loop-tree.tree-index more.procedures c.loop-tree.invariant.few;
      reached = reached_next items items c.loop-tree.tree-index c.tree-item.result old.globals new.globals c.loop-tree-test.true
          c.tree-item.is more.globals c.loop-tree.invariant.reached;
      best = items-best ps c.tree-item.result known (scoped_in known (drop c.loop-tree.tree-index items))
          (scoped_in (take new.globals (names_in items)) (drop (c.loop-tree.tree-index + 1) items)) old.procedures new.procedures
          (best_of c.loop-tree.notes.best) (best_of c.item.new.notes.best) _
          (scoped_next items items c.loop-tree.tree-index c.tree-item.result old.globals new.globals c.loop-tree-test.true c.tree-item.is
          more.globals c.loop-tree.invariant.reached)
          more.procedures more.best c.loop-tree.invariant.best;
      asserts = items-asserts items c.loop-tree.tree-index c.tree-item.result c.loop-tree.notes.asserts.items
          c.item.new.notes.asserts.items _ c.loop-tree-test.true
          (more.asserts ∙ ap (λ i. c.loop-tree.notes.asserts.items ++ asserts_in_file (procedures_in (i ∷ []))) c.tree-item.is)
          c.loop-tree.invariant.asserts;
    }
