use Rattle.std.proofs.Common.{Option}
use Rattle.std.proofs.lemmas.Result.{IfOk-weaker}
use Rattle.proof_bundle.specs.declared.bundle.Move.{Move}
use Rattle.bundle_make.specs.steps.Making.{CallMade, Does, KillMade, moves_of}
use Rattle.bundle_make.proofs.Targets.{has_lead, led_made, leads_to, target_of}
use Rattle.bundle_make.proofs.making.Maker.led_move.Goals as goal

pub lead-requires-clause-leads : goal.lead-requires-clause-leads
lead-requires-clause-leads c =
    let m = c.args.self.now in
    leads_to m.board.now m.listing.now.ids.items m.listing.now.numbers.items m.id m.state.now m.graph.now m.killed.now c.requires.maker
    c.requires.stored.0 c.args.edge c.args.by.now c.requires.stored.1

pub call_move-requires-clause-anchored : goal.call_move-requires-clause-anchored
call_move-requires-clause-anchored c =
    let m = c.args.self.now in
    let leads = leads_to m.board.now m.listing.now.ids.items m.listing.now.numbers.items m.id m.state.now m.graph.now m.killed.now
    c.requires.maker c.requires.stored.0 c.args.edge c.args.by.now c.requires.stored.1
    in
    (target_of m.board.now m.listing.now.ids.items m.listing.now.numbers.items m.id m.state.now m.graph.now m.killed.now c.requires.maker
    c.args.by.now c.args.proof.now c.requires.proof leads c.in-Some.target c.in-Some.ensures.some).anchored

pub unreachable-requires : goal.unreachable-requires
unreachable-requires c =
    let m = c.args.self.now in
    let leads = leads_to m.board.now m.listing.now.ids.items m.listing.now.numbers.items m.id m.state.now m.graph.now m.killed.now
    c.requires.maker c.requires.stored.0 c.args.edge c.args.by.now c.requires.stored.1
    in
    let w = has_lead m.board.now m.listing.now.ids.items m.listing.now.numbers.items m.id m.state.now m.graph.now m.killed.now
    c.requires.maker c.args.by.now c.args.proof.now c.requires.proof leads
    in
    c.in-None.ensures.none w.0 w.1

pub returns : goal.returns
returns c =
    let m = c.args.self.now in
    let b = m.board.now in
    let ids = m.listing.now.ids.items in
    let numbers = m.listing.now.numbers.items in
    let s = m.state.now in
    let by = c.args.by.now in
    let k = c.args.edge in
    let proof = c.args.proof.now in
    let old = c.args.partition.now in
    let new = c.call_move.new.partition in
    let leads = leads_to b ids numbers m.id s m.graph.now m.killed.now c.requires.maker c.requires.stored.0 k by c.requires.stored.1 in
    let target = target_of b ids numbers m.id s m.graph.now m.killed.now c.requires.maker by proof c.requires.proof leads c.in-Some.target
    c.in-Some.ensures.some
    in
    IfOk-weaker c.call_move.result
    (λ (o : Option Move). Does old new (CallMade b ids s m.graph.now m.killed.now c.in-Some.target k proof) (moves_of o))
    (λ (o : Option Move). Does old new (KillMade b ids s m.graph.now m.killed.now by k) (moves_of o))
    (λ o d. record {
      makes = λ p sh. led_made b ids numbers m.id s m.graph.now m.killed.now c.requires.maker by proof c.requires.proof c.in-Some.target
          target k p (moves_of o) (d.makes p sh);
      shows = d.shows;
    }) c.call_move.ensures
