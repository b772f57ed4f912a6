use Rattle.std.proofs.Common.{ap, ◌∙◌}
use Rattle.query_tree.specs.Forest.{has_live}
use Rattle.query_tree.specs.Woods.{Woods}
use Rattle.query_tree.proofs.Counting.{reads_live}
use Rattle.query_tree.proofs.forest.Forest.has_live.Goals as goal

pub returns : goal.returns
returns g c = c.has_any.ensures ∙ (reads_live c.self.inside.entries.items c.self.inside.live c.self.invariant.counts
    ∙ ap (λ (w : Woods g.row.T.Denot). has_live w.entries) c.self.view_is)
