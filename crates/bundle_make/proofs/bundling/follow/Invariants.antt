use Rattle.std.proofs.Common.{length}
use Rattle.bundle_make.specs.Bundling.{LeadsOn}
use Rattle.bundle_make.specs.steps.Growing.{IsGrown}
use Rattle.bundle_make.specs.steps.Leading.{AreFollowed}
use Rattle.bundle_make.specs.steps.Listing.{IsListing}
use Rattle.bundle_make.proofs.bundling.follow.Given as goal

abbrev pub invariant-loop-step : goal.invariant-loop-step
invariant-loop-step l = record {
  listing : IsListing (length l.board.core.entries) l.listing.ids.items l.listing.numbers.items;
  grown : IsGrown (LeadsOn l.board l.id) l.fn.listing.ids.items l.listing.ids.items;
  done : AreFollowed l.board l.id l.state l.step-index l.listing.ids.items;
}
