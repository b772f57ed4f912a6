-- What is written of a bundle that was checked.
use Rattle.std.proofs.Common.{◌≡◌, ◌↔◌, ℕ, List, Some, ℤ, refl}
use Rattle.std.specs.Prelude.{slice_get}
use mathlib.Core.Logic.{inl, inr}
use Rattle.c_tree.specs.Meaning.{Reaches}
use Rattle.c_tree.specs.Syntax.{PureProgram}
use Rattle.c_tree.specs.declared.tree.AssertPlace.{AssertPlace}
use Rattle.flow_build.specs.Lowered.{AreLowered}
use Rattle.flow_build.specs.Promises.{AreBounded}
use Rattle.flow_graph.specs.ProgramGraphs.{SameRuns}
use Rattle.flow_graph.specs.declared.graph.Graph.{Graph}
use Rattle.summary_form.specs.ProgramGraphs.{SameArities}
use Rattle.proof_bundle.specs.Claims.{PureBundle}
use Rattle.bundle_check.specs.RightClaims.{IsFirstWrong, IsRightProof}
use Rattle.bundle_check.specs.declared.check.Checked.{Checked}
use Rattle.bundle_check.specs.declared.check.Checked.TheVariants.{Right, Wrong}
use Rattle.smash_run.specs.Analysis.{Witness}
use Rattle.smash_run.specs.Bundled.{IsRechecked}
use Rattle.smash_run.specs.steps.Handing.{TellsChecked}

module _ (P : PureProgram) (b : PureBundle) (gs : List Graph) (runs : SameRuns P gs) (arities : SameArities P gs)
    (bounds : AreBounded P gs) (built : AreLowered P gs) (place : AssertPlace) (at : slice_get P.asserts b.id ≡ Some place)
    (status : ℕ) (text : List ℕ) (w : Witness) where
  pub rechecked : (c : Checked) → (c ≡ Right ↔ IsRightProof gs P.main b) → ((n : ℕ) → c ≡ Wrong n ↔ IsFirstWrong gs P.main b n) →
      (c ≡ Right → (ins : List ℤ) → ¬ Reaches P b.id ins) → TellsChecked place c status text w → IsRechecked P b status text w
  rechecked Right right wrong sound t = record {
    graphs = gs;
    runs = runs;
    arities = arities;
    bounds = bounds;
    built = built;
    place = place;
    at = at;
    told = inl (right.0 refl, t.0, t.1);
    sound = λ e. sound refl;
    nothing = t.2;
  }
  rechecked (Wrong n) right wrong sound t = record {
    graphs = gs;
    runs = runs;
    arities = arities;
    bounds = bounds;
    built = built;
    place = place;
    at = at;
    told = inr (n, (wrong n).0 refl, t.0, t.1);
    sound = λ e. absurd (let k = t.0 in let z : status ≡ 0 = e in cc);
    nothing = t.2;
  }
