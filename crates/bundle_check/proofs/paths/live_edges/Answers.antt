use Rattle.std.proofs.Common.{◌≡◌, IsTrue, length, arith, subst}
use Rattle.may_partition.specs.Shown.{have_regions}
use Rattle.bundle_check.proofs.Travelling.{live_all}
use Rattle.bundle_check.proofs.paths.live_edges.Goals as goal

pub returns-clause-live : goal.returns-clause-live
returns-clause-live c =
    let p = c.args.partition.now in let n = c.loop-region.region in
    let all : length p.regions ≡ n = omega (arith, c.requires, c.loop-region-test.false) in
    live_all p.edges c.loop-region.edges.items n (subst (λ k. IsTrue (have_regions k p.edges)) all c.live_within.ensures)
    c.loop-region.invariant.live
