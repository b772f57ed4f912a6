use Rattle.std.proofs.Common.{length, List, refl, subst}
use Rattle.std.proofs.lemmas.Option.{slice_get_read}
use Rattle.flow_graph.specs.declared.graph.Graph.{Graph}
use Rattle.path_sweep.proofs.Linked.{all_more, all_end}
use Rattle.path_sweep.specs.steps.Linking.{AreAllLinks}
use Rattle.path_sweep.proofs.links.Following.new.Goals as goal

pub loop-graph-preserved : goal.loop-graph-preserved
loop-graph-preserved c =
    all_more c.as_slice-graphs.result.now c.loop-graph.graph-index c.graph-item.result c.loop-graph.all.items c.push.new.self.items
    c.in_ok-links_of.field-0
    (slice_get_read c.as_slice-graphs.result.now (length c.as_slice-graphs.result.now) c.loop-graph.graph-index c.graph-item.result refl
    c.loop-graph-test.true c.graph-item.is) c.in_ok-push.ensures.items c.in_ok-links_of.ensures c.loop-graph.invariant

pub returns : goal.returns
returns c =
    subst (λ (gs : List Graph). AreAllLinks gs record { graphs = c.loop-graph.all }) c.as_slice-graphs.ensures
    (all_end c.as_slice-graphs.result.now c.loop-graph.graph-index record { graphs = c.loop-graph.all } c.loop-graph-test.false
    c.loop-graph.invariant)
