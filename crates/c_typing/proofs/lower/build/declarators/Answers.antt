use Rattle.std.proofs.Common.{◌∙◌, ap, arith}
use Rattle.c_tree.specs.Syntax as program
use Rattle.c_tree.specs.View.{statements_of}
use Rattle.c_tree.specs.SourceView.{declarator_of}
use Rattle.c_typing.specs.Scope.{with_variable}
use Rattle.c_typing.specs.Lowering.{joined, lowered_value}
use Rattle.c_typing.specs.steps.Tables.{scopes_of}
use Rattle.c_typing.specs.steps.FileScopes.{file_scope}
use Rattle.c_typing.proofs.Building.{sets_turn, sets_end, scopes_turn, scopes_end, names_turn, names_end}
use Rattle.c_typing.proofs.Tabled.{longer-still}
use Rattle.c_typing.proofs.lower.build.declarators.Goals as goal

pub declarator-requires-clause-room : goal.declarator-requires-clause-room
declarator-requires-clause-room c = omega (
  arith,
  names_turn (file_scope c.args.file.now) c.args.trees.now
      c.loop-tree.tree-index c.tree-item.result c.loop-tree-test.true,
  c.loop-tree.invariant.next,
)

pub loop-tree-preserved : goal.loop-tree-preserved
loop-tree-preserved c =
    let file = file_scope c.args.file.now in
    let ss = scopes_of c.loop-tree.state.scopes in
    let next = c.loop-tree.state.next in
    let more = c.in_ok-declarator.ensures in
    let scopes = more.scopes ∙ ap (λ d. with_variable ss (declarator_of d).named.name next) c.tree-item.is in
    let out = more.out
    ∙ ap (λ d. joined (statements_of c.loop-tree.out.items)
    (program.statement (program.set next (lowered_value file ss (declarator_of d).value))
    program.no_statements)) c.tree-item.is in
    record {
      out = sets_turn file c.args.trees.now c.loop-tree.tree-index c.tree-item.result ss (scopes_of c.declarator.new.state.scopes) next
          c.declarator.new.state.next c.loop-tree.out.items c.declarator.new.out.items _ c.loop-tree-test.true out scopes more.next
          c.loop-tree.invariant.out;
      scopes = scopes_turn file c.args.trees.now c.loop-tree.tree-index c.tree-item.result ss (scopes_of c.declarator.new.state.scopes) _
          next
          c.declarator.new.state.next c.loop-tree-test.true scopes more.next c.loop-tree.invariant.scopes;
      next = omega (
        arith,
        names_turn file c.args.trees.now c.loop-tree.tree-index c.tree-item.result c.loop-tree-test.true,
        more.next,
        c.loop-tree.invariant.next,
      );
      id = more.id ∙ c.loop-tree.invariant.id;
      longer = longer-still c.args.state.now.scopes.entries.items c.loop-tree.state.scopes.entries.items
          c.declarator.new.state.scopes.entries.items c.loop-tree.invariant.longer c.in_ok-declarator.ensures.longer;
    }

pub returns-clause-out : goal.returns-clause-out
returns-clause-out c = sets_end (file_scope c.args.file.now) c.args.trees.now c.loop-tree.tree-index
    (scopes_of c.loop-tree.state.scopes) c.loop-tree.state.next c.loop-tree.out.items _ (omega arith) c.loop-tree.invariant.out

pub returns-clause-scopes : goal.returns-clause-scopes
returns-clause-scopes c = scopes_end (file_scope c.args.file.now) c.args.trees.now c.loop-tree.tree-index
    (scopes_of c.loop-tree.state.scopes) _ c.loop-tree.state.next (omega arith) c.loop-tree.invariant.scopes

pub returns-clause-next : goal.returns-clause-next
returns-clause-next c = omega (
  arith,
  names_end (file_scope c.args.file.now) c.args.trees.now c.loop-tree.tree-index
      (omega arith),
  c.loop-tree.invariant.next,
)
