use Rattle.std.proofs.Common.{length, ap, ◌∙◌}
use Rattle.std.proofs.lemmas.List.{length-replicate}
use Rattle.abstract_path.proofs.Settling.{first_layer}
use Rattle.abstract_path.proofs.search.Search.new.Goals as goal

pub returns-clause-layer : goal.returns-clause-layer
returns-clause-layer c =
    let n = c.args.network in
    let ways = ap length c.in_ok-way.ensures ∙ length-replicate n.regions 0 in
    record {
      layered = rw c.in_ok-current.ensures.items
          (rw c.in_ok-far.ensures (rw c.new.ensures.items (first_layer n.edges.now n.shut.now n.regions c.args.target c.in_ok-way.way.items
          c.requires.target ways)));
      arrivals = c.requires.arrivals;
    }
