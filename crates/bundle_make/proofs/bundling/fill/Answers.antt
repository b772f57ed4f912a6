use Rattle.std.proofs.Common.{◌≡◌, ℕ, suc, ◌+◌, length, arith, refl, subst}
use Rattle.std.proofs.lemmas.Option.{slice_get_read}
use Rattle.bolt_core.proofs.Leading.{root_anchored}
use Rattle.bundle_make.specs.steps.Leading.{IsFilled}
use Rattle.bundle_make.specs.steps.Listing.{IsListing}
use Rattle.bundle_make.proofs.Filling.{filled_claimed, filled_first, filled_more}
use Rattle.bundle_make.proofs.Listings.{listed_few}
use Rattle.bundle_make.proofs.bundling.fill.Goals as goal

pub loop-at-init : goal.loop-at-init
loop-at-init c =
    let b = c.args.board.now in
    let ids = c.add.new.self.ids.items in
    let numbers = c.add.new.self.numbers.items in
    let listing = subst (λ (n : ℕ). IsListing n ids numbers) c.requires.listing.size c.in_ok-add.ensures.listing in
    record {
      listing = listing;
      filled = filled_first b c.reached.ensures c.requires.bare c.args.root (length b.core.entries) c.args.listing.now.ids.items ids numbers
          listing c.requires.empty c.in_ok-add.ensures.grown c.in_ok-add.ensures.listed
          (root_anchored b c.reached.ensures c.args.root c.requires.root c.requires.proved);
    }

pub follow-requires-clause-anchored : goal.follow-requires-clause-anchored
follow-requires-clause-anchored c =
    let ids = c.loop-at.listing.ids.items in
    c.loop-at.invariant.filled.anchored c.loop-at.at c.index-id.result.now
    (slice_get_read ids (length ids) c.loop-at.at c.index-id.result.now refl (omega (arith, c.loop-at-test.true, c.len.ensures))
    c.index-id.ensures)

pub loop-at-smaller : goal.loop-at-smaller
loop-at-smaller c =
    let l = c.loop-at.listing in
    let few = listed_few (length c.args.board.now.core.entries) l.ids.items l.numbers.items c.loop-at.invariant.listing in
    omega (arith, c.loop-at-test.true, c.len.ensures, few)

pub loop-at-preserved : goal.loop-at-preserved
loop-at-preserved c =
    let b = c.args.board.now in
    let ids = c.loop-at.listing.ids.items in
    let new = c.follow.new.listing.ids.items in
    let next : suc c.loop-at.at ≡ c.loop-at.at + 1 = omega arith in
    let at = slice_get_read ids (length ids) c.loop-at.at c.index-id.result.now refl (omega (arith, c.loop-at-test.true, c.len.ensures))
    c.index-id.ensures in
    record {
      listing = c.in_ok-follow.ensures.listing;
      filled = subst (λ (n : ℕ). IsFilled b c.args.root n new) next
          (filled_more b c.reached.ensures c.requires.bare c.args.root c.loop-at.at c.index-id.result.now ids new
          c.loop-at.invariant.filled at c.in_ok-follow.ensures.grown c.in_ok-follow.ensures.all);
    }

pub returns-clause-claimed : goal.returns-clause-claimed
returns-clause-claimed c =
    let b = c.args.board.now in
    let l = c.loop-at.listing in
    filled_claimed b c.reached.ensures c.requires.bare c.args.root (length b.core.entries) c.loop-at.at l.ids.items l.numbers.items
    c.loop-at.invariant.listing (omega (arith, c.loop-at-test.false, c.len.ensures)) c.loop-at.invariant.filled
