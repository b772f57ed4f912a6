use Rattle.std.proofs.Common.{◌-◌, length}
use Rattle.bundle_make.specs.steps.Leading.{IsFilled}
use Rattle.bundle_make.specs.steps.Listing.{IsListing}
use Rattle.bundle_make.proofs.bundling.fill.Given as goal

abbrev pub invariant-loop-at : goal.invariant-loop-at
invariant-loop-at l = record {
  listing : IsListing (length l.board.core.entries) l.listing.ids.items l.listing.numbers.items;
  filled : IsFilled l.board l.root l.at l.listing.ids.items;
}

abbrev pub decreases-loop-at : goal.decreases-loop-at
decreases-loop-at l = length l.board.core.entries - l.at
