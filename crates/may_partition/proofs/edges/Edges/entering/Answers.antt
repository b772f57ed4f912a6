use Rattle.std.proofs.Common.{◌≡◌, ◌&&◌, ◌==◌, [], length, arith, sym, subst, ap, ◌∙◌}
use Rattle.std.specs.Prelude.{IsTrue}
use Rattle.std.proofs.lemmas.List.{get_or_default}
use Rattle.may_partition.specs.declared.ends.Side.TheVariants.{Leaving, Entering}
use Rattle.may_partition.specs.Shown.{have_regions, is_live}
use Rattle.may_partition.specs.steps.Grouped.{edges_at, lists_from}
use Rattle.may_partition.specs.steps.Listed.{Sides, at_region}
use Rattle.may_partition.proofs.ByRegion.{have_entering, live_entering}
use Rattle.may_partition.proofs.Listing.{lists_at, lists_length, many_of}
use Rattle.may_partition.proofs.edges.Edges.entering.Goals as goal

pub index-requires : goal.index-requires
index-requires c =
    omega (
      arith,
      c.requires,
      many_of c.self.inside.leaving.items c.self.inside.entering.items c.self.invariant,
      ap (λ (s : Sides). s.count) c.self.view_is,
      c.self.inside.entering.ok.0,
    )

list_is : (c : goal.After-edges) → c.edges.result ≡ at_region (lists_from Entering 0 c.self.inside.entering.items) c.args.region
list_is c =
    let leaving = c.self.inside.leaving.items in let entering = c.self.inside.entering.items in
    c.edges.ensures.value
    ∙ ap (edges_at (Entering c.args.region)) (c.index.ensures
    ∙ get_or_default entering c.args.region c.index.result.now []
    (omega (arith, c.requires, many_of leaving entering c.self.invariant, ap (λ (s : Sides). s.count) c.self.view_is)))
    ∙ sym (lists_at Entering entering c.args.region)

pub returns-clause-edges : goal.returns-clause-edges
returns-clause-edges c e =
    ap (λ zs. is_live zs e) (list_is c)
    ∙ live_entering (lists_from Leaving 0 c.self.inside.leaving.items) (lists_from Entering 0 c.self.inside.entering.items) c.args.region e
    c.self.invariant
    ∙ ap (λ (s : Sides). is_live s.edges e && (e.to == c.args.region)) c.self.view_is

pub returns-clause-within : goal.returns-clause-within
returns-clause-within c =
    let leaving = c.self.inside.leaving.items in let lists = lists_from Leaving 0 leaving in
    subst (λ (s : Sides). IsTrue (have_regions s.count c.edges.result)) c.self.view_is
    (subst (λ n. IsTrue (have_regions n c.edges.result)) (lists_length Leaving 0 leaving)
    (subst (λ zs. IsTrue (have_regions (length lists) zs)) (sym (list_is c))
    (have_entering lists (lists_from Entering 0 c.self.inside.entering.items) c.args.region c.self.invariant)))
