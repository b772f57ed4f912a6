-- What `read_bundle` answers.
use Rattle.std.proofs.Common.{◌≡◌, Some, None, Result, Ok, Err, List, ℕ, sym, ap, ◌∙◌}
use Rattle.std.specs.Prelude.{IfOk, IsErrOf}
use Rattle.proof_bundle.specs.Claims.{PureBundle, pure_of}
use Rattle.proof_bundle.specs.Text.{IsBundle, bundle_text}
use Rattle.proof_bundle.specs.declared.bundle.Bundle.{Bundle}
use Rattle.proof_bundle.specs.declared.error.BundleError.{BundleError}
use Rattle.proof_bundle.specs.declared.error.BundleError.TheVariants.{NotBundle, Memory}
use Rattle.proof_bundle.specs.steps.Bundles.{bundle_at}
use Rattle.proof_bundle.specs.steps.Reading.{Gives}
use Rattle.proof_bundle.proofs.Bundles.{bundle_again, bundle_takes}
use Rattle.proof_bundle.proofs.Parsing.{some_is}

pub read_ok : (r : Result Bundle BundleError) (bytes : List ℕ) → Gives pure_of r (bundle_at bytes) →
    IfOk r (λ b. (bytes ≡ bundle_text (pure_of b)) × IsBundle (pure_of b))
read_ok (Ok b) bytes g = let t = bundle_takes bytes (pure_of b) g in (t.1, t.0)
read_ok (Err e) bytes g = tt

-- none is read of these bytes, and one is
clash : (bytes : List ℕ) (b : PureBundle) → bundle_at bytes ≡ None → IsBundle b → bytes ≡ bundle_text b → ⊥
clash bytes b none h e = no (sym none ∙ (ap bundle_at e ∙ bundle_again b h)) where
  no : None ≡ Some b → ⊥
  no k = cc

pub read_not : (r : Result Bundle BundleError) (bytes : List ℕ) → Gives pure_of r (bundle_at bytes) → IsErrOf r NotBundle →
    (b : PureBundle) → IsBundle b → bytes ≡ bundle_text b → ⊥
read_not (Ok c) bytes g k b h e = absurd cc
read_not (Err NotBundle) bytes g k b h e = clash bytes b g h e
read_not (Err Memory) bytes g k b h e = absurd cc

pub read_again : (r : Result Bundle BundleError) (bytes : List ℕ) → Gives pure_of r (bundle_at bytes) →
    IfOk r (λ c. (b : PureBundle) → IsBundle b → bytes ≡ bundle_text b → pure_of c ≡ b)
read_again (Ok c) bytes g = λ b h e. some_is (pure_of c) b (sym g ∙ (ap bundle_at e ∙ bundle_again b h))
read_again (Err e) bytes g = tt
