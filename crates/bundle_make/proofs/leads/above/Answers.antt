use Rattle.std.proofs.Common.{◌≡◌, ℕ, ◌+◌, ◌-◌, ◌<◌, List, length, arith, sym, subst, ◌∙◌}
use Rattle.std.proofs.lemmas.Option.{same_Some}
use Rattle.query_tree.specs.declared.Entry.{Entry}
use Rattle.query_rules.specs.Seen.{Seen}
use Rattle.bundle_make.specs.steps.Leading.{IsOnWay}
use Rattle.bundle_make.proofs.Leading.{node_within, way_ends, way_goes}
use Rattle.bundle_make.proofs.leads.above.Goals as goal

pub parent-requires : goal.parent-requires
parent-requires c =
    let on = c.loop.invariant.on in
    subst (λ (es : List (Entry Seen)). c.loop.at < length es) (sym c.forest.ensures)
    (node_within c.args.board.now c.reached.ensures c.loop.at on.node on.at)

pub unreachable-requires : goal.unreachable-requires
unreachable-requires c =
    let w = way_goes c.args.board.now c.reached.ensures c.args.level c.args.id c.args.own c.loop.counter c.loop.at
    c.loop-test.true c.loop.invariant c.forest.result.now.entries c.forest.ensures c.parent.result c.parent.ensures in
    let clash = sym c.in-None.is ∙ w.1 in
    cc

pub loop-preserved : goal.loop-preserved
loop-preserved c =
    let w = way_goes c.args.board.now c.reached.ensures c.args.level c.args.id c.args.own c.loop.counter c.loop.at
    c.loop-test.true c.loop.invariant c.forest.result.now.entries c.forest.ensures c.parent.result c.parent.ensures in
    let same : w.0 ≡ c.in-Some.parent = same_Some w.0 c.in-Some.parent (sym w.1 ∙ c.in-Some.is) in
    subst (IsOnWay c.args.board.now.core.nodes c.args.level c.args.id (c.args.own - (c.loop.counter + 1))) same w.2

pub returns : goal.returns
returns c =
    let b = c.args.board.now in
    way_ends b c.reached.ensures c.args.level c.args.id c.loop.at (subst (λ (n : ℕ). IsOnWay b.core.nodes c.args.level c.args.id n
    c.loop.at) (omega (arith, c.loop-test.false)) c.loop.invariant)
