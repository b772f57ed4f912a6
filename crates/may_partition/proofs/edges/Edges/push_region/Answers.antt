use Rattle.std.proofs.Common.{◌∷◌, ◌++◌, List, [], sym, subst, ap, ◌∙◌}
use Rattle.may_partition.specs.steps.Grouped.{Fan}
use Rattle.may_partition.specs.steps.Listed.{Sides}
use Rattle.may_partition.proofs.Listing.{Regions, all_edges, edges_pushed, regions_entering, regions_pushed}
use Rattle.may_partition.proofs.edges.Edges.push_region.Goals as goal

pub invariant_of-self-2 : goal.invariant_of-self-2
invariant_of-self-2 c =
    let leaving = c.self.inside.leaving.items in let entering = c.self.inside.entering.items in
    subst (λ (l : List (List Fan)). Regions l c.push.new.self.items)
    (sym (c.in_ok-push-2.ensures.items ∙ ap (λ x. leaving ++ x ∷ []) c.new-2.ensures))
    (subst (λ (l : List (List Fan)). Regions (leaving ++ [] ∷ []) l)
    (sym (c.in_ok-push.ensures.items ∙ ap (λ x. entering ++ x ∷ []) c.new.ensures)) (regions_pushed leaving entering c.self.invariant))

pub returns-clause-edges : goal.returns-clause-edges
returns-clause-edges c =
    let leaving = c.self.inside.leaving.items in
    ap all_edges (c.in_ok-push-2.ensures.items ∙ ap (λ x. leaving ++ x ∷ []) c.new-2.ensures) ∙ edges_pushed leaving
    ∙ ap (λ (s : Sides). s.edges) c.self.view_is

pub invariant_of-self-in_err-push-2 : goal.invariant_of-self-in_err-push-2
invariant_of-self-in_err-push-2 c =
    let leaving = c.self.inside.leaving.items in let entering = c.self.inside.entering.items in
    subst (λ (l : List (List Fan)). Regions l c.push.new.self.items) (sym c.in_err-push-2.ensures.items)
    (subst (λ (l : List (List Fan)). Regions leaving l)
    (sym (c.in_ok-push.ensures.items ∙ ap (λ x. entering ++ x ∷ []) c.new.ensures)) (regions_entering leaving entering c.self.invariant))
