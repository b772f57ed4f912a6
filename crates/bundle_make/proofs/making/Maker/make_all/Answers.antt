use Rattle.std.proofs.Common.{◌≡◌, ◌+◌, List, length, map, arith, sym, subst, ap}
use Rattle.query_rules.specs.declared.step.Step.{Step}
use Rattle.proof_bundle.specs.Claims.{PureMove, move_of}
use Rattle.proof_bundle.specs.declared.bundle.Move.{Move}
use Rattle.bolt_core.proofs.Targets.{item_there}
use Rattle.bundle_make.specs.Bundling.{asked_after}
use Rattle.bundle_make.proofs.Going.{Going, going_begins, going_claims, going_entry, going_gives, going_next, going_right}
use Rattle.bundle_make.proofs.making.Maker.make_all.Goals as goal

pub loop-step-init : goal.loop-step-init
loop-step-init c =
    let m = c.args.self.now in
    let ids = m.listing.now.ids.items in
    subst (λ (ms : List Move). Going m.board.now ids m.state.now m.graph.now m.killed.now 0 0 (map move_of ms) c.args.partition.now)
    (sym c.requires.none)
    (going_begins m.board.now ids m.listing.now.numbers.items m.id m.state.now m.graph.now m.killed.now c.requires.maker
    c.args.partition.now c.requires.begins)

pub push_step-requires-clause-stored : goal.push_step-requires-clause-stored
push_step-requires-clause-stored c = (
  c.loop-step.step-index,
  item_there c.steps-step-items.result.now c.args.self.now.state.now.steps c.loop-step.step-index c.step-item.result
      c.steps-step-items.ensures c.loop-step-test.true c.step-item.is,
)

pub push_step-requires-clause-entry : goal.push_step-requires-clause-entry
push_step-requires-clause-entry c =
    let m = c.args.self.now in
    let j = c.loop-step.step-index in
    let t = c.step-item.result in
    let at = item_there c.steps-step-items.result.now m.state.now.steps j t c.steps-step-items.ensures c.loop-step-test.true c.step-item.is
    in
    going_entry m.board.now m.listing.now.ids.items m.state.now m.graph.now m.killed.now j c.loop-step.entry
    (map move_of c.loop-step.moves.items) c.loop-step.partition c.loop-step.invariant t at

pub push_step-requires-clause-gives : goal.push_step-requires-clause-gives
push_step-requires-clause-gives c =
    let m = c.args.self.now in
    let j = c.loop-step.step-index in
    let t = c.step-item.result in
    let at = item_there c.steps-step-items.result.now m.state.now.steps j t c.steps-step-items.ensures c.loop-step-test.true c.step-item.is
    in
    going_gives m.board.now m.listing.now.ids.items m.state.now m.graph.now m.killed.now j c.loop-step.entry
    (map move_of c.loop-step.moves.items) c.loop-step.partition c.loop-step.invariant t at

pub loop-step-preserved : goal.loop-step-preserved
loop-step-preserved c =
    let m = c.args.self.now in
    let b = m.board.now in
    let ids = m.listing.now.ids.items in
    let s = m.state.now in
    let j = c.loop-step.step-index in
    let entry = c.loop-step.entry in
    let t = c.step-item.result in
    let at = item_there c.steps-step-items.result.now s.steps j t c.steps-step-items.ensures c.loop-step-test.true c.step-item.is in
    let done = map move_of c.loop-step.moves.items in
    let w = c.in_ok-push_step.ensures in
    let new = c.push_step.new.partition in
    let next = going_next b ids s m.graph.now m.killed.now j entry done c.loop-step.partition c.loop-step.invariant t at new w.0 w.2 in
    subst (λ n. Going b ids s m.graph.now m.killed.now (j + 1) n (map move_of c.push_step.new.moves.items) new)
    (sym c.asked_behind-entry.ensures)
    (subst (λ (ms : List PureMove). Going b ids s m.graph.now m.killed.now (j + 1) (asked_after t entry) ms new) (sym w.1) next)

pub returns : goal.returns
returns c =
    let m = c.args.self.now in
    let b = m.board.now in
    let ids = m.listing.now.ids.items in
    let s = m.state.now in
    let j = c.loop-step.step-index in
    let numbers = m.listing.now.numbers.items in
    let done = map move_of c.loop-step.moves.items in
    let all : j ≡ length s.steps = omega (
      arith,
      ap (λ (xs : List Step). length xs) c.steps-step-items.ensures,
      c.loop-step-test.false,
      c.loop-step.auto.step-index-end,
    )
    in
    record {
      made = going_claims b ids numbers m.id s m.graph.now m.killed.now c.requires.maker j c.loop-step.entry done c.loop-step.partition
          c.loop-step.invariant all;
      right = going_right b ids numbers m.id s m.graph.now m.killed.now c.requires.maker j c.loop-step.entry done c.loop-step.partition
          c.loop-step.invariant all;
    }
