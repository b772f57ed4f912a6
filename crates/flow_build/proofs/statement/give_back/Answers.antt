use Rattle.std.proofs.Common.{◌≡◌, ◌∷◌, Bool, false, sym, ap, ◌∙◌, subst}
use Rattle.c_tree.specs.View.{expression_of}
use Rattle.flow_graph.specs.declared.graph.Edge.TheVariants.{Assign, Return}
use Rattle.flow_build.specs.steps.Forms.{Value}
use Rattle.flow_build.specs.steps.Translation.{value_of, kept_if}
use Rattle.flow_build.specs.steps.Operands.{is_constant_operand, slot_or_zero}
use Rattle.flow_build.specs.steps.Lowering.{operand_at, return_edge}
use Rattle.flow_build.specs.steps.Blocks.{exit_node, return_node}
use Rattle.flow_build.specs.steps.Layouts.{global_slots}
use Rattle.flow_build.specs.steps.Additions.{Adds}
use Rattle.flow_build.proofs.Adding.{kept_added, argument_kept}
use Rattle.flow_build.proofs.AddingStatements.{result_added}
use Rattle.flow_build.proofs.statement.give_back.Goals as goal
use Rattle.flow_build.proofs.statement.give_back.Goals.{then-frame+in_ok-with_globals, else-frame}

pub returns-clause-adds : goal.returns-clause-adds
returns-clause-adds c =
    let e = expression_of c.args.e.now in
    let L = c.args.frame.layout in
    let v = value_of L e in
    let l = c.in_ok-landed.landed in
    let m = c.in_ok-landed-2.landed in
    let k = c.in_ok-landed-2.ensures in
    let t = c.args.frame.free in
    let keep : c.is_constant-keep.result ≡ is_constant_operand (operand_at v t) = c.is_constant-keep.ensures ∙ ap is_constant_operand
    c.in_ok-landed.ensures.adds.operand in
    let P : Bool → Type 0 = λ b. Adds (kept_if b v) c.args.from t c.args.b.now c.kept_if.new.b m in
    let Q : Value → Type 0 = λ u. Adds u c.args.from t c.args.b.now c.kept_if.new.b m in
    let added = kept_added c.is_constant-keep.result v c.args.from t c.args.b.now c.value.new.b c.kept_if.new.b l m
    c.in_ok-landed.ensures.adds
    k.edges k.next k.node k.operand k.slot k.in_place in
    let kept = subst Q (sym (argument_kept false v t)) (subst P keep added) in
    let edge : c.if-frame.edge ≡ return_edge L c.args.frame.gives m.node (slot_or_zero m.operand) t =
    elim c.if-frame.branch [
      | then-frame+in_ok-with_globals w ↦
          w.edge-is ∙ ap (λ x. Return m.node exit_node x)
          (w.in_ok-with_globals.ensures ∙ ap (λ x. x ∷ global_slots L) w.slot.ensures)
          ∙ ap (λ g. return_edge L g m.node (slot_or_zero m.operand) t) (sym w.if-frame.true)
      | else-frame w ↦ w.edge-is ∙ ap (λ x. Assign m.node return_node t x) w.constant_lin.ensures
          ∙ ap (λ g. return_edge L g m.node (slot_or_zero m.operand) t) (sym w.if-frame.false)
    ] in
    result_added e c.args.frame c.args.from c.args.b.now c.kept_if.new.b c.push.new.self m c.if-frame.edge kept edge
    c.in_ok-push.ensures.edges c.push.ensures.next
