use Rattle.std.proofs.Common.{ℕ, Option, get_or, subst, sym}
use Rattle.std.proofs.lemmas.Result.{IfOk-weaker}
use Rattle.query_rules.specs.declared.step.Asked.{Asked}
use Rattle.bolt_core.specs.Anchors.{IsAnchored}
use Rattle.proof_bundle.specs.declared.bundle.Move.{Move}
use Rattle.bundle_make.specs.Bundling.{Listed}
use Rattle.bundle_make.specs.steps.Making.{AskMade, CallMade, Does, moves_of}
use Rattle.bundle_make.proofs.Doing.{ask_called}
use Rattle.bundle_make.proofs.Targets.{child_at}
use Rattle.bundle_make.proofs.making.Maker.ask_move.Goals as goal

pub call_move-requires-clause-listed : goal.call_move-requires-clause-listed
call_move-requires-clause-listed c =
    let m = c.args.self.now in
    let b = m.board.now in
    let ids = m.listing.now.ids.items in
    let x = c.index-asked-entry.result in
    let child = child_at b ids m.listing.now.numbers.items m.id m.state.now m.graph.now m.killed.now c.requires.maker c.args.entry
    c.if-not-self-entry.false c.requires.entry c.asked.result.now c.asked.ensures x c.index-asked-entry.is in
    subst (λ (e : Asked). Listed ids e.child) c.index-asked-entry.is child.1

pub call_move-requires-clause-anchored : goal.call_move-requires-clause-anchored
call_move-requires-clause-anchored c =
    let m = c.args.self.now in
    let b = m.board.now in
    let x = c.index-asked-entry.result in
    let child = child_at b m.listing.now.ids.items m.listing.now.numbers.items m.id m.state.now m.graph.now m.killed.now c.requires.maker
    c.args.entry c.if-not-self-entry.false c.requires.entry c.asked.result.now c.asked.ensures x c.index-asked-entry.is in
    subst (λ (e : Asked). (l : ℕ) × IsAnchored b.core.nodes l e.child) c.index-asked-entry.is (child.2.level, child.2.anchored)

pub returns : goal.returns
returns c =
    let m = c.args.self.now in
    let b = m.board.now in
    let ids = m.listing.now.ids.items in
    let s = m.state.now in
    let g = m.graph.now in
    let killed = m.killed.now in
    let old = c.args.partition.now in
    let new = c.call_move.new.partition in
    let entry = c.args.entry in
    let k = c.args.edge in
    let follows = c.args.follows.now in
    let x = c.index-asked-entry.result in
    let child = child_at b ids m.listing.now.numbers.items m.id s g killed c.requires.maker entry c.if-not-self-entry.false
    c.requires.entry c.asked.result.now c.asked.ensures x c.index-asked-entry.is in
    IfOk-weaker c.call_move.result
    (λ (o : Option Move). Does old new (CallMade b ids s g killed (get_or c.asked.result.now entry x).child k follows) (moves_of o))
    (λ (o : Option Move). Does old new (AskMade b ids s g killed entry k follows) (moves_of o))
    (λ o d. ask_called b ids s g killed entry k follows old c.if-not-self-entry.false x child.0 child.2 new (moves_of o)
    (subst (λ (e : Asked). Does old new (CallMade b ids s g killed e.child k follows) (moves_of o)) (sym c.index-asked-entry.is) d))
    c.call_move.ensures
