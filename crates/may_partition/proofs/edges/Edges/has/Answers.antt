use Rattle.std.proofs.Common.{[], arith, sym, ap, ◌∙◌}
use Rattle.std.proofs.lemmas.List.{get_or_default}
use Rattle.may_partition.specs.declared.ends.Side.TheVariants.{Leaving}
use Rattle.may_partition.specs.Shown.{is_live}
use Rattle.may_partition.specs.steps.Grouped.{edges_at, lists_from}
use Rattle.may_partition.specs.steps.Listed.{Sides}
use Rattle.may_partition.proofs.ByRegion.{live_joined, none_past}
use Rattle.may_partition.proofs.Listing.{lists_at, lists_length}
use Rattle.may_partition.proofs.edges.Edges.has.Goals as goal

pub returns-then-edge-len : goal.returns-then-edge-len
returns-then-edge-len c =
    let leaving = c.self.inside.leaving.items in
    sym (sym (ap (λ (s : Sides). is_live s.edges c.args.edge.now) c.self.view_is)
    ∙ none_past (lists_from Leaving 0 leaving) c.args.edge.now c.self.invariant.from
    (omega (arith, c.if-edge-len.true, c.len.ensures, c.self.inside.leaving.ok.0, lists_length Leaving 0 leaving)))

pub returns : goal.returns
returns c =
    let leaving = c.self.inside.leaving.items in let e = c.args.edge.now in
    c.has.ensures (Leaving e.from)
    ∙ ap (λ gs. is_live (edges_at (Leaving e.from) gs) e) (c.index.ensures ∙ get_or_default leaving e.from c.index.result.now []
    (omega (arith, c.if-edge-len.false, c.len.ensures, c.self.inside.leaving.ok.0)))
    ∙ ap (λ zs. is_live zs e) (sym (lists_at Leaving leaving e.from))
    ∙ sym (live_joined (lists_from Leaving 0 leaving) e c.self.invariant.from) ∙ ap (λ (s : Sides). is_live s.edges e) c.self.view_is
