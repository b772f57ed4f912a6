use Rattle.std.proofs.Common.{◌≡◌, ◌↔◌, ◌≤◌, ℕ, IsTrue, length, subst, ap, ◌∙◌}
use Rattle.may_partition.specs.Shown.{is_live}
use Rattle.bundle_check.specs.steps.Roads.{IsJoined}
use Rattle.bundle_check.proofs.Travelling.{joined_decides, joined_same, no_region}
use Rattle.bundle_check.proofs.paths.has_no_path.Goals as goal

pub returns-then-target-regions : goal.returns-then-target-regions
returns-then-target-regions c =
    let g = c.args.graph.now in
    let q = c.args.query.now in
    let s = c.args.partition.now in
    let many : c.in-Ok.regions ≡ length s.regions = c.in-Ok.ensures.1 ∙ ap length c.regions.ensures in
    no_region g q s (length s.regions) c.live_within.ensures
    (subst (λ (t : ℕ). length s.regions ≤ t) c.target_of-target.ensures
    (subst (λ (n : ℕ). n ≤ c.target_of-target.result) many c.if-target-regions.true))

pub returns : goal.returns
returns c =
    let g = c.args.graph.now in
    let q = c.args.query.now in
    let s = c.args.partition.now in
    let r = c.in_ok-is_joined.field-0 in
    joined_decides g q s r (subst (λ (t : ℕ). IsTrue r ↔ IsJoined s.edges 0 t) c.target_of-target.ensures
    (joined_same s.edges c.deref.result.now 0 c.target_of-target.result r
    (λ e. ap (λ es. is_live es e) c.deref.ensures.value ∙ c.in_ok-edges.ensures.live e) c.in_ok-is_joined.ensures))
