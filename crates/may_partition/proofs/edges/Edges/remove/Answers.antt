use Rattle.std.proofs.Common.{◌<◌, ◌&&◌, [], get_or, not, length, arith, subst, ap, ◌∙◌}
use Rattle.std.proofs.lemmas.List.{get_or_default}
use Rattle.may_partition.specs.declared.ends.Side.TheVariants.{Leaving, Entering}
use Rattle.may_partition.specs.Parted.{same_edge}
use Rattle.may_partition.specs.Shown.{is_live}
use Rattle.may_partition.specs.steps.Grouped.{Removes, edges_at}
use Rattle.may_partition.specs.steps.Listed.{Sides}
use Rattle.may_partition.proofs.Listing.{edges_less, many_of, regions_less}
use Rattle.may_partition.proofs.edges.Edges.remove.Goals as goal

pub index_mut-requires-2 : goal.index_mut-requires-2
index_mut-requires-2 c =
    omega (
      arith,
      c.requires.to,
      many_of c.self.inside.leaving.items c.self.inside.entering.items c.self.invariant,
      ap (λ (s : Sides). s.count) c.self.view_is,
      c.self.inside.entering.ok.0,
    )

in_from : (c : goal.After-self-2-1) → c.args.edge.from < length c.self.inside.leaving.items
in_from c = omega (arith, c.requires.from, ap (λ (s : Sides). s.count) c.self.view_is)

in_to : (c : goal.After-self-2-1) → c.args.edge.to < length c.self.inside.leaving.items
in_to c = omega (arith, c.requires.to, ap (λ (s : Sides). s.count) c.self.view_is)

less_from : (c : goal.After-self-2-1) → Removes c.args.edge (edges_at (Leaving c.args.edge.from) (get_or c.self.inside.leaving.items
    c.args.edge.from [])) (edges_at (Leaving c.args.edge.from) c.remove.new.self)
less_from c =
    let x = c.args.edge in let leaving = c.self.inside.leaving.items in
    subst (λ gs. Removes x (edges_at (Leaving x.from) gs) (edges_at (Leaving x.from) c.remove.new.self)) (c.index_mut.ensures.value
    ∙ get_or_default leaving x.from c.index_mut.result.now [] (in_from c))
    (c.remove.ensures (Leaving x.from))

less_to : (c : goal.After-self-2-1) → Removes c.args.edge (edges_at (Entering c.args.edge.to) (get_or c.self.inside.entering.items
    c.args.edge.to [])) (edges_at (Entering c.args.edge.to) c.remove-2.new.self)
less_to c =
    let x = c.args.edge in let leaving = c.self.inside.leaving.items in let entering = c.self.inside.entering.items in
    subst (λ gs. Removes x (edges_at (Entering x.to) gs) (edges_at (Entering x.to) c.remove-2.new.self)) (c.index_mut-2.ensures.value
    ∙ get_or_default entering x.to c.index_mut-2.result.now [] (omega (arith, in_to c, many_of leaving entering c.self.invariant)))
    (c.remove-2.ensures (Entering x.to))

pub invariant_of-self : goal.invariant_of-self
invariant_of-self c =
    regions_less c.self.inside.leaving.items c.self.inside.entering.items c.args.edge c.remove.new.self c.remove-2.new.self c.self.invariant
    (in_from c) (in_to c) (less_from c) (less_to c)

pub returns-clause-live : goal.returns-clause-live
returns-clause-live c e =
    edges_less c.self.inside.leaving.items c.self.inside.entering.items c.args.edge c.remove.new.self c.remove-2.new.self c.self.invariant
    (in_from c) (in_to c) (less_from c) (less_to c) e
    ∙ ap (λ (s : Sides). is_live s.edges e && not (same_edge e c.args.edge)) c.self.view_is
