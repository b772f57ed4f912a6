use Rattle.std.proofs.Common.{[], None, refl, ap, ◌∙◌}
use Rattle.linear_formula.specs.declared.formula.Cube.{Cube}
use Rattle.flow_graph.specs.declared.graph.Graph.{Graph}
use Rattle.flow_graph.specs.WellFormed.{first_node}
use Rattle.must_region.specs.Traces.{trace_of}
use Rattle.must_region.specs.Rules.{begin_trail}
use Rattle.path_sweep.specs.Guards.{runs}
use Rattle.path_sweep.specs.declared.frames.Place.TheVariants.{At}
use Rattle.path_sweep.proofs.Adding.{same_read}
use Rattle.path_sweep.proofs.Counting.{walk_begins}
use Rattle.path_sweep.proofs.walk.Walk.begin.Goals as goal

pub first_edge-next-requires : goal.first_edge-next-requires
first_edge-next-requires c = (
  c.args.graphs.now.graphs,
  [],
  runs c.requires.main.0 c.in_ok-node.field-0.node c.in_ok-node.field-0.slots c.in_ok-node.field-0.entry [],
  c.requires.links,
  (refl, c.requires.main.1, refl, refl, tt),
)

pub returns-clause-walk : goal.returns-clause-walk
returns-clause-walk c =
    let t = c.in_ok-node.field-0 in
    let g = c.requires.main.0 in
    let same = same_read c.as_slice.result.now c.args.graphs.now.graphs c.args.main c.index-as_slice-main.result g c.as_slice.ensures
    c.requires.main.1 c.index-as_slice-main.is in
    walk_begins c.args.graphs.now.graphs c.args.main c.args.graphs.now.well_formed g c.requires.main.1 c.requires.main.2 (trace_of t)
    (c.in_ok-node.ensures ∙ ap (λ (x : Graph). begin_trail (first_node x.edges) x.params x.slots) same) record {
      frame = record { proc = c.args.main; place = At t.node; slots = t.slots; entry = t.entry; caller = None };
      guard = c.in_ok-guard.guard;
      inputs = c.new.result;
      symbols = 0;
      levels = c.new-2.result;
      next = c.first_edge-next.result;
      counted = 1;
      found = c.in_ok-found.found;
    } refl (ap (λ (x : Cube). x.atoms) c.in_ok-guard.ensures) c.new.ensures.items refl c.new-2.ensures.items
    (c.first_edge-next.ensures c.args.graphs.now.graphs [] (runs g t.node t.slots t.entry []) c.requires.links
    (refl, c.requires.main.1, refl, refl, tt)) refl c.args.asserts c.in_ok-found.ensures
