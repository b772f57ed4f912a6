use Rattle.std.proofs.Common.{◌≡◌, ◌∙◌, length, arith, sym, subst}
use Rattle.std.specs.Prelude.{slice_index}
use Rattle.std.proofs.lemmas.List.{get_or_default}
use Rattle.may_partition.proofs.Giving.{given_all, given_next, given_within}
use Rattle.punch_step.proofs.Near.{IsNearestOf, nearest_here, nearest_of, nearest_stays}
use Rattle.abstract_path.proofs.Settling.{inside}
use Rattle.punch_step.proofs.distances.Distances.nearest.Goals as goal

pub is_nearer-requires : goal.is_nearer-requires
is_nearer-requires c =
    let all = c.edges_from-edge-items.result in
    let next = sym c.into_iter-edge-iterator.ensures.into_iter_gives
    ∙ given_next c.into_iter-edge-iterator.result c.loop-edge.yielded c.loop-edge.edge-iterator c.next.new.self c.next.result c.in-Some.edge
    c.loop-edge.yielded_by c.in-Some.is c.next.ensures.steps in
    let w = given_within (length c.args.partition.now.regions) all c.loop-edge.yielded c.next.new.self c.in-Some.edge next
    c.edges_from-edge-items.ensures.within in
    omega (arith, w.1, c.requires.far.fars)

pub loop-edge-preserved-then-is_nearer : goal.loop-edge-preserved-then-is_nearer
loop-edge-preserved-then-is_nearer c =
    let d = c.args.self.now in let far = d.reach.far.items in let e = c.in-Some.edge in
    let y = c.is_nearer.ensures.yes c.if-is_nearer.true in
    let same : c.index-near.result.now ≡ slice_index far e.to =
    c.index-near.ensures ∙ get_or_default far e.to c.index-near.result.now 0 (inside far e.to y.0) in
    nearest_here c.loop-edge.yielded d.shut far c.loop-edge.near e c.loop-edge.invariant
    c.index-near.result.now same (λ z. y.0 (sym same ∙ z)) (λ z. omega (arith, same, y.1 z)) y.2

pub loop-edge-preserved : goal.loop-edge-preserved
loop-edge-preserved c =
    let d = c.args.self.now in
    nearest_stays c.loop-edge.yielded d.shut d.reach.far.items c.loop-edge.near c.in-Some.edge c.loop-edge.invariant
    (c.is_nearer.ensures.no c.if-is_nearer.false)

pub returns : goal.returns
returns c =
    let d = c.args.self.now in let p = c.args.partition.now in
    nearest_of p.edges c.edges_from-edge-items.result d.shut d.reach.far.items c.args.region c.loop-edge.near
    c.edges_from-edge-items.ensures.edges
    (subst (λ xs. IsNearestOf xs d.shut d.reach.far.items c.loop-edge.near)
    (sym (sym c.into_iter-edge-iterator.ensures.into_iter_gives ∙ given_all c.into_iter-edge-iterator.result c.loop-edge.yielded
    c.loop-edge.edge-iterator c.next.new.self c.next.result c.loop-edge.yielded_by
    c.in-None.is c.next.ensures.steps))
    c.loop-edge.invariant)
