use Rattle.std.proofs.Common.{length, sym, subst}
use Rattle.std.specs.Prelude.{IsTrue}
use Rattle.may_partition.specs.declared.ends.Side.TheVariants.{Leaving}
use Rattle.may_partition.specs.Shown.{have_regions}
use Rattle.may_partition.specs.steps.Grouped.{lists_from}
use Rattle.may_partition.specs.steps.Listed.{Sides}
use Rattle.may_partition.proofs.ByRegion.{have_joined}
use Rattle.may_partition.proofs.Listing.{lists_length}
use Rattle.may_partition.proofs.edges.Edges.count.Goals as goal

pub returns-clause-within : goal.returns-clause-within
returns-clause-within c =
    let leaving = c.self.inside.leaving.items in
    subst (λ (s : Sides). IsTrue (have_regions s.count s.edges)) c.self.view_is
    (have_joined (length leaving) (lists_from Leaving 0 leaving) c.self.invariant.from c.self.invariant.to
    (sym (lists_length Leaving 0 leaving)))
