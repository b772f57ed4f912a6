use Rattle.std.proofs.Common.{◌∙◌, length, arith, sym}
use Rattle.may_partition.proofs.Giving.{given_next, given_within}
use Rattle.punch_step.proofs.distances.Distances.tell.Goals as goal

pub index-requires : goal.index-requires
index-requires c =
    let all = c.edges_into-edge-items.result in
    let next = sym c.into_iter-edge-iterator.ensures.into_iter_gives
    ∙ given_next c.into_iter-edge-iterator.result c.loop-edge.yielded c.loop-edge.edge-iterator c.next.new.self c.next.result
    c.in-Some.edge c.loop-edge.yielded_by c.in-Some.is c.next.ensures.steps in
    let w = given_within (length c.args.partition.now.regions) all c.loop-edge.yielded c.next.new.self c.in-Some.edge next
    c.edges_into-edge-items.ensures.within in
    omega (arith, w.0, c.loop-edge.invariant.far.ways, c.loop-edge.invariant.far.fars)
