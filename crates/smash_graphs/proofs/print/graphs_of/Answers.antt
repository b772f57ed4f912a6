use Rattle.std.proofs.Common.{refl}
use Rattle.smash_graphs.proofs.print.graphs_of.Goals as goal

pub returns : goal.returns
returns c =
    record {
      graphs = c.in_ok-graphs.graphs.graphs;
      built = c.in_ok-graphs.ensures.built;
      is_zero = refl;
      printed = c.in_ok-text.ensures;
    }
