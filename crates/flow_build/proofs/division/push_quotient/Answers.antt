use Rattle.std.proofs.Common.{◌≡◌, ◌++◌, ◌∷◌, [], ap, ◌∙◌, arith}
use Rattle.std.specs.Int.{w64}
use Rattle.std.specs.Prelude.{unsigned_abs}
use Rattle.std.proofs.lemmas.Int.{ints, to_z-of_z}
use Rattle.flow_graph.specs.declared.graph.Edge.TheVariants.{Assign}
use Rattle.flow_build.specs.steps.Lowering.{quotient_blocks, nodes_of_quotient}
use Rattle.flow_build.specs.steps.Additions.{AddsBlocks}
use Rattle.flow_build.proofs.Answering.{on_ok, on_at}
use Rattle.flow_build.proofs.AddingQuotients.{turned_added}
use Rattle.flow_build.proofs.division.push_quotient.Goals as goal

pub returns : goal.returns
returns c =
    let x = c.args.divisor in
    let n0 = c.node-above.ensures.next in
    let n1 = c.node-below.ensures.next in
    let down = c.if-divisor-ge0.false in
    let old = c.push_picks-2.new.b in
    let new = c.push.new.self in
    record {
      adds = on_ok c.push.result (AddsBlocks (quotient_blocks x c.args.dividend c.args.slot c.args.from c.args.to c.args.b.now.next)
          (nodes_of_quotient x) c.args.b.now new) (λ u e.
          turned_added c.unsigned_abs-magnitude.result c.args.dividend c.args.slot c.args.from c.args.to c.node-above.result
          c.node-below.result c.args.b.now c.node-below.new.self c.compare.new.b
          (c.node-below.ensures.edges ∙ c.node-above.ensures.edges) (omega (arith, n0, n1)) c.node-above.ensures.node
          (c.node-below.ensures.node ∙ n0) c.in_ok-compare.ensures.edges c.in_ok-compare.ensures.next
          x c.node-turned.result c.node-turned.new.self old new (omega (arith, ints, down))
          (c.unsigned_abs-magnitude.ensures.value ∙ ap unsigned_abs (to_z-of_z w64 x c.ranges.divisor))
          c.node-turned.ensures.edges c.node-turned.ensures.next c.node-turned.ensures.node
          c.in_ok-push_picks.ensures.edges c.in_ok-push_picks.ensures.next
          (on_at c.push.result u (new.edges.items ≡ old.edges.items ++ Assign c.node-turned.result c.args.to c.args.slot c.in_ok-value.value
          ∷ [])
          e c.push.ensures.edges
          ∙ ap (λ v. old.edges.items ++ Assign c.node-turned.result c.args.to c.args.slot v ∷ []) c.in_ok-value.ensures)
          c.push.ensures.next);
    }
