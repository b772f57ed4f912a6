use Rattle.std.proofs.Common.{◌≡◌, ◌&&◌, ◌==◌, [], length, arith, sym, subst, ap, ◌∙◌}
use Rattle.std.specs.Prelude.{IsTrue}
use Rattle.std.proofs.lemmas.List.{get_or_default}
use Rattle.may_partition.specs.declared.ends.Side.TheVariants.{Leaving, Entering}
use Rattle.may_partition.specs.Shown.{IsAscending, have_regions, is_live}
use Rattle.may_partition.specs.steps.Grouped.{edges_at, lists_from}
use Rattle.may_partition.specs.steps.Listed.{Sides, at_region}
use Rattle.may_partition.specs.steps.Ordered.{is_ascending}
use Rattle.may_partition.proofs.Ordered.{ascends}
use Rattle.may_partition.proofs.ByRegion.{have_leaving, live_at}
use Rattle.may_partition.proofs.Listing.{edges_ascend, lists_at, lists_length}
use Rattle.may_partition.proofs.edges.Edges.leaving.Goals as goal

seen : (c : goal.After-edges) → edges_at (Leaving c.args.region) c.index.result.now
    ≡ at_region (lists_from Leaving 0 c.self.inside.leaving.items) c.args.region
seen c =
    ap (edges_at (Leaving c.args.region)) (c.index.ensures
    ∙ get_or_default c.self.inside.leaving.items c.args.region c.index.result.now []
    (omega (arith, c.requires, ap (λ (s : Sides). s.count) c.self.view_is)))
    ∙ sym (lists_at Leaving c.self.inside.leaving.items c.args.region)

pub returns-clause-edges : goal.returns-clause-edges
returns-clause-edges c e =
    ap (λ zs. is_live zs e) (c.edges.ensures.value ∙ seen c)
    ∙ live_at (lists_from Leaving 0 c.self.inside.leaving.items) c.args.region e c.self.invariant.from
    ∙ ap (λ (s : Sides). is_live s.edges e && (e.from == c.args.region)) c.self.view_is

pub returns-clause-order : goal.returns-clause-order
returns-clause-order c =
    let region = c.args.region in
    subst IsAscending (sym (c.edges.ensures.value ∙ seen c))
    (ascends region (at_region (lists_from Leaving 0 c.self.inside.leaving.items) region)
    (subst (λ zs. IsTrue (is_ascending zs)) (seen c) (edges_ascend region c.index.result.now c.edges.ensures.grouped))
    (c.self.invariant.from region))

pub returns-clause-within : goal.returns-clause-within
returns-clause-within c =
    let leaving = c.self.inside.leaving.items in let lists = lists_from Leaving 0 leaving in
    subst (λ (s : Sides). IsTrue (have_regions s.count c.edges.result)) c.self.view_is
    (subst (λ n. IsTrue (have_regions n c.edges.result)) (lists_length Leaving 0 leaving)
    (subst (λ zs. IsTrue (have_regions (length lists) zs)) (sym (c.edges.ensures.value ∙ seen c))
    (have_leaving lists (lists_from Entering 0 c.self.inside.entering.items) c.args.region c.self.invariant)))
