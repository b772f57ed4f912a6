use Rattle.std.proofs.Common.{◌≡◌, ℕ, suc, ◌+◌, List, length, Some, arith, refl, sym, subst, ap, ◌∙◌}
use Rattle.std.specs.Prelude.{slice_get}
use Rattle.std.proofs.lemmas.Option.{slice_get_read}
use Rattle.query_rules.specs.declared.step.Step.{Step}
use Rattle.bundle_make.specs.Bundling.{LeadsOn}
use Rattle.bundle_make.specs.steps.Leading.{AreFollowed}
use Rattle.bundle_make.proofs.Following.{followed_all, followed_more, followed_none, stored_closed, stored_some, stored_within}
use Rattle.bundle_make.proofs.Growing.{grown_none, grown_then}
use Rattle.bundle_make.proofs.bundling.follow.Goals as goal

pub payload-requires : goal.payload-requires
payload-requires c =
    stored_within c.args.board.now c.reached.ensures c.args.id c.requires.anchored c.forest.result.now.entries c.forest.ensures

pub unreachable-requires : goal.unreachable-requires
unreachable-requires c = stored_some c.args.board.now c.reached.ensures c.args.id c.requires.anchored c.forest.result.now.entries
    c.forest.ensures c.in_default.ensures

pub loop-step-init : goal.loop-step-init
loop-step-init c = record {
  listing = c.requires.listing;
  grown = grown_none (LeadsOn c.args.board.now c.args.id) c.args.listing.now.ids.items;
  done = followed_none c.args.board.now c.reached.ensures c.args.id c.in-Some.state.now
      (stored_closed c.args.board.now c.reached.ensures c.args.id c.requires.anchored c.forest.result.now.entries c.forest.ensures
      c.in-Some.state.now c.in-Some.ensures)
      c.args.listing.now.ids.items;
}

pub follow_step-requires-clause-closed : goal.follow_step-requires-clause-closed
follow_step-requires-clause-closed c = stored_closed c.args.board.now c.reached.ensures c.args.id c.requires.anchored
    c.forest.result.now.entries c.forest.ensures c.in-Some.state.now c.in-Some.ensures

pub follow_step-requires-clause-stored : goal.follow_step-requires-clause-stored
follow_step-requires-clause-stored c = (
  c.loop-step.step-index,
  ap (λ (xs : List Step). slice_get xs c.loop-step.step-index) (sym c.steps-step-items.ensures)
      ∙ slice_get_read c.steps-step-items.result.now (length c.steps-step-items.result.now) c.loop-step.step-index c.step-item.result refl
      c.loop-step-test.true c.step-item.is,
)

pub loop-step-preserved : goal.loop-step-preserved
loop-step-preserved c =
    let b = c.args.board.now in
    let s = c.in-Some.state.now in
    let closed = stored_closed b c.reached.ensures c.args.id c.requires.anchored c.forest.result.now.entries c.forest.ensures s
    c.in-Some.ensures in
    let k = c.loop-step.step-index in
    let at : slice_get s.steps k ≡ Some c.step-item.result =
    ap (λ (xs : List Step). slice_get xs k) (sym c.steps-step-items.ensures)
    ∙ slice_get_read c.steps-step-items.result.now (length c.steps-step-items.result.now) k c.step-item.result refl c.loop-step-test.true
    c.step-item.is in
    let next : suc k ≡ k + 1 = omega arith in
    let new = c.follow_step.new.listing.ids.items in
    record {
      listing = c.in_ok-follow_step.ensures.listing;
      grown = grown_then (LeadsOn b c.args.id) c.args.listing.now.ids.items c.loop-step.listing.ids.items new c.loop-step.invariant.grown
          c.in_ok-follow_step.ensures.grown;
      done = subst (λ (n : ℕ). AreFollowed b c.args.id s n new) next
          (followed_more b c.reached.ensures c.args.id s closed (LeadsOn b c.args.id) k c.step-item.result c.loop-step.listing.ids.items new
          at c.loop-step.invariant.done c.in_ok-follow_step.ensures.grown c.in_ok-follow_step.ensures.all);
    }

pub returns-clause-all : goal.returns-clause-all
returns-clause-all c =
    let b = c.args.board.now in
    let s = c.in-Some.state.now in
    let closed = stored_closed b c.reached.ensures c.args.id c.requires.anchored c.forest.result.now.entries c.forest.ensures s
    c.in-Some.ensures in
    followed_all b c.reached.ensures c.args.id s closed c.loop-step.step-index c.loop-step.listing.ids.items
    (omega (arith, c.loop-step-test.false, ap (λ (xs : List Step). length xs) c.steps-step-items.ensures)) c.loop-step.invariant.done
