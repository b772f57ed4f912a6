use Rattle.std.proofs.Common.{List, map, take, arith, sym, subst, ap, ◌∙◌}
use Rattle.std.specs.List.{filter}
use Rattle.may_partition.specs.Parted.{has_regions}
use Rattle.may_partition.specs.steps.Grouped.{Fan, kept_within}
use Rattle.may_partition.specs.steps.Listed.{Sides}
use Rattle.may_partition.proofs.Listing.{Regions, all_edges, edges_within, regions_kept}
use Rattle.may_partition.proofs.edges.Edges.keep_within.Goals as goal

pub invariant_of-self : goal.invariant_of-self
invariant_of-self c =
    let n = c.args.regions in let leaving = c.self.inside.leaving.items in let entering = c.self.inside.entering.items in
    subst (λ (l : List (List Fan)). Regions l c.keep_first-2.new.lists.items) (sym c.keep_first.ensures)
    (subst (λ (l : List (List Fan)). Regions (map (map (kept_within n)) (take n leaving)) l) (sym c.keep_first-2.ensures)
    (regions_kept n leaving entering c.self.invariant (omega (arith, c.requires, ap (λ (s : Sides). s.count) c.self.view_is))))

pub returns-clause-edges : goal.returns-clause-edges
returns-clause-edges c =
    let n = c.args.regions in let leaving = c.self.inside.leaving.items in
    ap all_edges c.keep_first.ensures
    ∙ edges_within n leaving c.self.inside.entering.items c.self.invariant
    ∙ ap (λ (s : Sides). filter (has_regions n) s.edges) c.self.view_is
