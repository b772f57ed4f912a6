use Rattle.std.proofs.Common.{◌<◌, ◌||◌, [], get_or, length, arith, sym, subst, ap, ◌∙◌}
use Rattle.std.specs.Prelude.{slice_set}
use Rattle.std.specs.List.{filter}
use Rattle.std.proofs.lemmas.List.{get_or_default, get_or-set_same}
use Rattle.std.proofs.Math.ListN.{length-set}
use Rattle.may_partition.specs.declared.ends.Side.TheVariants.{Leaving, Entering}
use Rattle.may_partition.specs.Parted.{has_regions, same_edge}
use Rattle.may_partition.specs.Shown.{is_live}
use Rattle.may_partition.specs.steps.Grouped.{Adds, Removes, edges_at}
use Rattle.may_partition.specs.steps.Listed.{Sides}
use Rattle.may_partition.proofs.Listing.{edges_more, edges_same, many_of, regions_back, regions_more, regions_same}
use Rattle.may_partition.proofs.edges.Edges.add.Goals as goal

pub index_mut-requires : goal.index_mut-requires
index_mut-requires c =
    omega (
      arith,
      c.requires.to,
      many_of c.self.inside.leaving.items c.self.inside.entering.items c.self.invariant,
      ap (λ (s : Sides). s.count) c.self.view_is,
      c.self.inside.entering.ok.0,
    )

pub index_mut-requires-in-Err : goal.index_mut-requires-in-Err
index_mut-requires-in-Err c =
    let entering = c.self.inside.entering.items in
    omega (
      arith,
      c.requires.to,
      many_of c.self.inside.leaving.items entering c.self.invariant,
      ap (λ (s : Sides). s.count) c.self.view_is,
      c.self.inside.entering.ok.0,
      length-set entering c.args.edge.to c.add.new.self,
    )

pub invariant_of-self-in-Err : goal.invariant_of-self-in-Err
invariant_of-self-in-Err c =
    let leaving = c.self.inside.leaving.items in let entering = c.self.inside.entering.items in let x = c.args.edge in
    let n = ap (λ (s : Sides). s.count) c.self.view_is in
    let from : x.from < length leaving = omega (arith, c.requires.from, n) in
    let to : x.to < length entering = omega (arith, c.requires.to, n, many_of leaving entering c.self.invariant) in
    let at_from = c.index_mut-2.ensures.value ∙ get_or_default leaving x.from c.index_mut-2.result.now [] from in
    let at_to = c.index_mut.ensures.value ∙ get_or_default entering x.to c.index_mut.result.now [] to in
    let again = c.index_mut-in-Err.ensures.value ∙ get_or-set_same entering x.to c.add.new.self c.index_mut-in-Err.result.now to in
    regions_same leaving (slice_set (slice_set entering x.to c.add.new.self) x.to c.remove.new.self) x.from c.add-2.new.self
    (c.in-Err.ensures.unchanged ∙ at_from)
    (regions_back leaving entering x c.add.new.self c.remove.new.self c.self.invariant to
    (ap (λ gs. is_live (edges_at (Leaving x.from) gs) x) (sym at_from) ∙ c.in-Err.ensures.missing (Leaving x.from))
    (subst (λ gs. Adds x (edges_at (Entering x.to) gs) (edges_at (Entering x.to) c.add.new.self)) at_to
    (c.in_ok-add.ensures.added (Entering x.to)))
    (subst (λ gs. Removes x (edges_at (Entering x.to) gs) (edges_at (Entering x.to) c.remove.new.self)) again
    (c.remove.ensures (Entering x.to))))

in_from : (c : goal.In-Ok) → c.args.edge.from < length c.self.inside.leaving.items
in_from c = omega (arith, c.requires.from, ap (λ (s : Sides). s.count) c.self.view_is)

in_to : (c : goal.In-Ok) → c.args.edge.to < length c.self.inside.leaving.items
in_to c = omega (arith, c.requires.to, ap (λ (s : Sides). s.count) c.self.view_is)

more_from : (c : goal.In-Ok) → Adds c.args.edge (edges_at (Leaving c.args.edge.from) (get_or c.self.inside.leaving.items
    c.args.edge.from [])) (edges_at (Leaving c.args.edge.from) c.add-2.new.self)
more_from c =
    let x = c.args.edge in let leaving = c.self.inside.leaving.items in
    subst (λ gs. Adds x (edges_at (Leaving x.from) gs) (edges_at (Leaving x.from) c.add-2.new.self)) (c.index_mut-2.ensures.value
    ∙ get_or_default leaving x.from c.index_mut-2.result.now [] (in_from c))
    (c.in-Ok.ensures.added (Leaving x.from))

more_to : (c : goal.In-Ok) → Adds c.args.edge (edges_at (Entering c.args.edge.to) (get_or c.self.inside.entering.items
    c.args.edge.to [])) (edges_at (Entering c.args.edge.to) c.add.new.self)
more_to c =
    let x = c.args.edge in let leaving = c.self.inside.leaving.items in let entering = c.self.inside.entering.items in
    subst (λ gs. Adds x (edges_at (Entering x.to) gs) (edges_at (Entering x.to) c.add.new.self)) (c.index_mut.ensures.value
    ∙ get_or_default entering x.to c.index_mut.result.now [] (omega (arith, in_to c, many_of leaving entering c.self.invariant)))
    (c.in_ok-add.ensures.added (Entering x.to))

pub invariant_of-self-in-Ok : goal.invariant_of-self-in-Ok
invariant_of-self-in-Ok c =
    regions_more c.self.inside.leaving.items c.self.inside.entering.items c.args.edge c.add-2.new.self c.add.new.self c.self.invariant
    (in_from c) (in_to c) (more_from c) (more_to c)

pub returns-in-Ok-clause-live : goal.returns-in-Ok-clause-live
returns-in-Ok-clause-live c e =
    edges_more c.self.inside.leaving.items c.self.inside.entering.items c.args.edge c.add-2.new.self c.add.new.self c.self.invariant
    (in_from c) (in_to c) (more_from c) (more_to c) e
    ∙ ap (λ (s : Sides). is_live s.edges e || same_edge c.args.edge e) c.self.view_is

pub returns-in-Ok-clause-kept : goal.returns-in-Ok-clause-kept
returns-in-Ok-clause-kept c n h =
    record {
      count = length-set c.self.inside.leaving.items c.args.edge.from c.add-2.new.self ∙ ap (λ (s : Sides). s.count) c.self.view_is;
      edges =
          edges_same c.self.inside.leaving.items c.self.inside.entering.items c.args.edge c.add-2.new.self c.add.new.self c.self.invariant
          (in_from c) (in_to c) (more_from c) (more_to c) n h
          ∙ ap (λ (s : Sides). filter (has_regions n) s.edges) c.self.view_is;
    }
