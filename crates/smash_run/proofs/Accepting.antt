-- What `bundle` writes with the status 0, `recheck` accepts.
use Rattle.std.proofs.Common.{◌≡◌, ◌⊎◌, ℕ, ◌<◌, ◌≤◌, List, length, leb, true, false, sym, ◌∙◌, subst, arith}
use Rattle.std.proofs.lemmas.Bool.Decides.{leb_tells}
use mathlib.Core.Logic.{inl, inr}
use Rattle.c_tree.specs.Syntax.{PureProgram}
use Rattle.flow_build.specs.Lowered.{AreLowered, OneLowering}
use Rattle.flow_graph.specs.declared.graph.Graph.{Graph}
use Rattle.bolt_core.specs.declared.job.Verdict.{Verdict}
use Rattle.bolt_core.specs.declared.job.Verdict.TheVariants as verdict
use Rattle.proof_bundle.specs.Claims.{PureBundle}
use Rattle.proof_bundle.specs.Text.{IsBundle, OneText, bundle_text}
use Rattle.bundle_check.specs.RightClaims.{IsFirstWrong, IsRightProof}
use Rattle.bundle_check.proofs.Judging.{right_not_wrong}
use Rattle.report_text.specs.Bundles.{accepted_line, rejected_line}
use Rattle.smash_run.specs.Analysis.{Witness}
use Rattle.smash_run.specs.Bundled.{IsBundled, IsRechecked, IsTextOf, TellsProof, TellsVerdict, bundle_limit}
use Rattle.smash_run.specs.Laws.{BundlesAreAccepted}

-- the text is that of a bundle that is right over the graphs of the program
record IsRightText (P : PureProgram) (text : List ℕ) : Type 0 where
  graphs : List Graph
  built : AreLowered P graphs
  bundle : PureBundle
  ranges : IsBundle bundle
  right : IsRightProof graphs P.main bundle
  told : text ≡ bundle_text bundle

right_text : (P : PureProgram) (bytes : List ℕ) (number budget : ℕ) (text : List ℕ) (w : Witness) →
    IsBundled P bytes number budget 0 text w → IsRightText P text
right_text P bytes number budget text w k = by_verdict k.verdict k.told where
  by_proof : TellsProof k.board bytes k.id k.place 0 text → IsRightText P text
  by_proof t = by_length (leb_tells (length (bundle_text t.bundle)) bundle_limit) where
    by_length : ((leb (length (bundle_text t.bundle)) bundle_limit ≡ true) × (length (bundle_text t.bundle) ≤ bundle_limit))
        ⊎ ((leb (length (bundle_text t.bundle)) bundle_limit ≡ false) × (bundle_limit < length (bundle_text t.bundle))) →
        IsRightText P text
    by_length (inl h) = record {
      graphs = k.board.graphs;
      built = k.board_is.built;
      bundle = t.bundle;
      ranges = t.ranges;
      right = subst (λ main. IsRightProof k.board.graphs main t.bundle) k.board_is.main t.right;
      told = (t.fits h.1).1;
    }
    by_length (inr h) = absurd (let none : 0 ≡ 2 = (t.long h.1).0 in omega arith)

  by_verdict : (v : Verdict) → TellsVerdict k.board bytes k.id k.place v 0 text → IsRightText P text
  by_verdict verdict.Proved t = by_proof t
  by_verdict (verdict.Found list) t = absurd (let none : 0 ≡ 1 = t.0 in omega arith)
  by_verdict (verdict.Budget n) t = absurd (let none : 0 ≡ 2 = t.0 in omega arith)
  by_verdict (verdict.Limit kind) t = absurd (let none : 0 ≡ 2 = t.0 in omega arith)

module _ (one_text : OneText) (one_lowering : OneLowering) where
  accepted : (P : PureProgram) (text : List ℕ) → IsRightText P text → (b : PureBundle) → IsTextOf b text → (status : ℕ)
      (answer : List ℕ) (v : Witness) → IsRechecked P b status answer v → status ≡ 0
  accepted P text r b is status answer v k = by_told k.told where
    same_bundle : r.bundle ≡ b
    same_bundle = one_text r.bundle b r.ranges is.0 (sym r.told ∙ is.1)

    same_graphs : r.graphs ≡ k.graphs
    same_graphs = one_lowering P r.graphs k.graphs r.built k.built

    right : IsRightProof k.graphs P.main b
    right = subst (λ gs. IsRightProof gs P.main b) same_graphs (subst (λ x. IsRightProof r.graphs P.main x) same_bundle r.right)

    by_told : (IsRightProof k.graphs P.main b × (status ≡ 0) × (answer ≡ accepted_line k.place))
        ⊎ ((n : ℕ) × IsFirstWrong k.graphs P.main b n × (status ≡ 2) × (answer ≡ rejected_line n)) → status ≡ 0
    by_told (inl h) = h.1
    by_told (inr h) = absurd (right_not_wrong k.graphs P.main b h.0 right h.1)

  pub bundles_are_accepted : BundlesAreAccepted
  bundles_are_accepted P bytes number budget text w k b is status answer v r =
      accepted P text (right_text P bytes number budget text w k) b is status answer v r
