-- Laws of what the commands answer.
use Rattle.std.specs.Prelude.{◌≡◌, ℕ, List}
use Rattle.c_tree.specs.Syntax.{PureProgram}
use Rattle.proof_bundle.specs.Claims.{PureBundle}
use Rattle.smash_run.specs.Analysis.{Witness}
use Rattle.smash_run.specs.Bundled.{IsBundled, IsRechecked, IsTextOf}

-- What `bundle` writes with the status 0, as a text that a bundle has, `recheck` accepts: of the
-- same program, with the status 0.
abbrev pub BundlesAreAccepted : Type 0
BundlesAreAccepted =
    (P : PureProgram) (bytes : List ℕ) (number budget : ℕ) (text : List ℕ) (w : Witness) →
    IsBundled P bytes number budget 0 text w → (b : PureBundle) → IsTextOf b text →
    (status : ℕ) (answer : List ℕ) (v : Witness) → IsRechecked P b status answer v → status ≡ 0
