use Rattle.std.proofs.Common.{ℕ, ◌++◌, ◌∷◌, [], ap, ◌∙◌}
use Rattle.c_tree.specs.View.{expression_of}
use Rattle.flow_graph.specs.declared.graph.Edge.{Edge}
use Rattle.flow_graph.specs.declared.graph.Edge.TheVariants.{Assign}
use Rattle.flow_build.specs.steps.Translation.{value_of}
use Rattle.flow_build.specs.steps.Operands.{operand_lin}
use Rattle.flow_build.specs.steps.Lowering.{operand_at}
use Rattle.flow_build.proofs.AddingStatements.{value_then}
use Rattle.flow_build.proofs.statement.set.Goals as goal

pub returns-clause-adds : goal.returns-clause-adds
returns-clause-adds c =
    let v = value_of c.args.frame.layout (expression_of c.args.e.now) in
    let l = c.in_ok-landed.landed in
    let h = c.in_ok-landed.ensures.adds in
    let d : ℕ → Edge = λ n. Assign n c.args.to c.args.variable (operand_lin (operand_at v c.args.frame.free)) in
    let last = c.in_ok-push.ensures.edges ∙ ap (λ x. c.value.new.b.edges.items ++ Assign l.node c.args.to c.args.variable x ∷ [])
    c.in_ok-value.ensures
    ∙ ap (λ a. c.value.new.b.edges.items ++ Assign l.node c.args.to c.args.variable (operand_lin a) ∷ []) h.operand in
    record {
      blocks = record {
        edges = value_then v d c.args.from c.args.frame.free c.args.b.now c.value.new.b c.push.new.self l h last
            c.push.ensures.next;
        next = c.push.ensures.next ∙ h.blocks.next;
      };
      slot = h.slot;
    }
