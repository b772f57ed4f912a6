use Rattle.std.proofs.Common.{◌-◌, Some, arith, sym, subst}
use Rattle.std.specs.Prelude.{slice_set}
use Rattle.path_sweep.proofs.Linked.{LinksFrom, links_begin, links_pass, links_more, links_end, node_in, one_before, read_here}
use Rattle.path_sweep.proofs.links.links_of.Goals as goal

pub loop-left-init : goal.loop-left-init
loop-left-init c =
    links_begin c.args.graph.now.nodes c.as_slice-edges.result.now c.in_ok-first.first.items c.in_ok-next.next.items c.in_ok-first.ensures
    c.in_ok-next.ensures

pub index-requires : goal.index-requires
index-requires c =
    let at = read_here c.as_slice-edges.result.now c.loop-left.left c.index-edges-left.result c.loop-left.invariant.low
    c.loop-left-test.true
    c.index-edges-left.is in
    let low = node_in c.args.graph.now c.as_slice-edges.result.now (c.loop-left.left - 1) c.in-Some.node c.index-edges-left.result
    c.as_slice-edges.ensures at (sym c.in-Some.ensures) in
    omega (arith, low, c.loop-left.invariant.nodes_are)

pub index_mut-requires-in-Some : goal.index_mut-requires-in-Some
index_mut-requires-in-Some c =
    let at = read_here c.as_slice-edges.result.now c.loop-left.left c.index-edges-left.result c.loop-left.invariant.low
    c.loop-left-test.true
    c.index-edges-left.is in
    let low = node_in c.args.graph.now c.as_slice-edges.result.now (c.loop-left.left - 1) c.in-Some.node c.index-edges-left.result
    c.as_slice-edges.ensures at (sym c.in-Some.ensures) in
    omega (arith, low, c.loop-left.invariant.nodes_are)

pub loop-left-preserved-in-Some : goal.loop-left-preserved-in-Some
loop-left-preserved-in-Some c =
    let at = read_here c.as_slice-edges.result.now c.loop-left.left c.index-edges-left.result c.loop-left.invariant.low
    c.loop-left-test.true
    c.index-edges-left.is in
    let low = node_in c.args.graph.now c.as_slice-edges.result.now (c.loop-left.left - 1) c.in-Some.node c.index-edges-left.result
    c.as_slice-edges.ensures at (sym c.in-Some.ensures) in
    subst (λ o. LinksFrom c.args.graph.now.nodes c.as_slice-edges.result.now (c.loop-left.left - 1)
    (slice_set c.loop-left.first.items c.in-Some.node (Some (c.loop-left.left - 1)))
    (slice_set c.loop-left.next.items (c.loop-left.left - 1) o))
    (sym (one_before c.loop-left.first.items c.in-Some.node c.index.result.now (omega (arith, low, c.loop-left.invariant.nodes_are))
    c.index.ensures))
    (links_more c.args.graph.now.nodes c.as_slice-edges.result.now c.loop-left.left (c.loop-left.left - 1) c.in-Some.node
    c.index-edges-left.result
    c.loop-left.first.items c.loop-left.next.items (omega (arith, c.loop-left-test.true)) at (sym c.in-Some.ensures) low
    c.loop-left.invariant)

pub loop-left-preserved : goal.loop-left-preserved
loop-left-preserved c =
    let at = read_here c.as_slice-edges.result.now c.loop-left.left c.index-edges-left.result c.loop-left.invariant.low
    c.loop-left-test.true
    c.index-edges-left.is in
    links_pass c.args.graph.now.nodes c.as_slice-edges.result.now c.loop-left.left (c.loop-left.left - 1) c.index-edges-left.result
    c.loop-left.first.items c.loop-left.next.items (omega (arith, c.loop-left-test.true)) at (sym c.in_default.ensures)
    c.loop-left.invariant

pub returns : goal.returns
returns c = links_end c.args.graph.now record { first = c.loop-left.first; next = c.loop-left.next } c.loop-left.left
    (omega (arith, c.loop-left-test.false))
    (subst (λ es. LinksFrom c.args.graph.now.nodes es c.loop-left.left c.loop-left.first.items c.loop-left.next.items)
    c.as_slice-edges.ensures
    c.loop-left.invariant)
