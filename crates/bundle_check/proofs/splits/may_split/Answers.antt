use Rattle.std.proofs.Common.{◌⊎◌, List, subst}
use Rattle.std.proofs.lemmas.Result.{IfOk-weaker}
use Rattle.linear_formula.specs.declared.formula.Atom.{Atom}
use Rattle.bundle_check.specs.RightClaims.{SplitsByPreimage, SplitsRegion}
use Rattle.bundle_check.specs.steps.Checks.{Decides}
use Rattle.bundle_check.proofs.Regions.{either_no}
use Rattle.bundle_check.proofs.splits.may_split.Goals as goal

pub returns : goal.returns
returns c =
    let g = c.args.graph.now in
    let s = c.args.partition.now in
    let k = c.args.edge.now in
    let atoms = c.args.atoms.now in
    IfOk-weaker c.splits_by_preimage.result (Decides s (λ p. SplitsByPreimage g p k c.as_slice.result.now))
    (Decides s (λ p. SplitsByPreimage g p k atoms ⊎ SplitsRegion g p k atoms))
    (λ r h. either_no g s k atoms r c.if-splits_region.ensures
    (subst (λ (xs : List Atom). Decides s (λ p. SplitsByPreimage g p k xs) r) c.as_slice.ensures.value h)) c.splits_by_preimage.ensures
