use Rattle.std.proofs.Common.{◌≡◌, ℕ, List, [], ◌∷◌, ap, ◌∙◌}
use Rattle.flow_graph.specs.declared.graph.Edge.TheVariants.{Entry, Return}
use Rattle.region_tests.proofs.states.graphs.Goals as goal

pub returns : goal.returns
returns c =
    let g = c.new-graph.ensures in
    let slots : c.from_vec.result ≡ 0 ∷ [] = c.from_vec.ensures ∙ c.in_ok-vec.ensures.items in (
      c.new-graph.result,
      c.new.ensures ∙ c.from_vec-3.ensures ∙ c.in_ok-list.ensures.items,
      record {
        nodes = g.nodes;
        exit = g.exit;
        fail = g.fail;
        params = g.params;
        exits = g.exits;
        slots = g.slots;
        edges = g.edges ∙ c.from_vec-2.ensures ∙ c.in_ok-edges.ensures.items
            ∙ ap (λ (l : List ℕ). Entry 2 1 ∷ Return 2 0 l ∷ []) slots;
      },
    )
