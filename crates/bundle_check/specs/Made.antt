-- What the steps of a closed query become: moves that are right, where the queries to which its
-- kills lead have claims.
use Rattle.std.specs.Prelude.{◌≡◌, ℕ, Bool, true, List, [], ◌∷◌, length, Some, slice_get}
use Rattle.flow_graph.specs.declared.graph.Graph.{Graph}
use Rattle.summary_form.specs.declared.query.Query.{Query}
use Rattle.summary_form.specs.declared.summary.Summary.{Summary}
use Rattle.summary_form.specs.declared.summary.Summary.TheVariants.{NotMay}
use Rattle.query_rules.specs.Laws.{IsGrounded}
use Rattle.query_rules.specs.Paths.{HasNoPath}
use Rattle.query_rules.specs.Rows.{levels_known}
use Rattle.query_rules.specs.States.{Happening, made, heard, after}
use Rattle.query_rules.specs.Steps.{Model, begin_model}
use Rattle.query_rules.specs.declared.step.Killer.TheVariants as killer
use Rattle.query_rules.specs.declared.step.Step.{Step}
use Rattle.query_rules.specs.declared.step.Step.TheVariants as step
use Rattle.proof_bundle.specs.Claims.{PureMove}
use Rattle.bundle_check.specs.RightClaims.{IsRightClaim}

-- of the claims only their queries matter
pub record HasClaim (claims : List Query) (q : Query) : Type 0 where
  pub number : ℕ
  pub there : slice_get claims number ≡ Some q

-- `killed`: which asked queries have a not-may by which a later step kills
module _ (g : Graph) (table : List Summary) (claims : List Query) (killed : ℕ → Bool) where
  abbrev pub IsNamed : Model → Step → Type 0
  IsNamed m (step.Kill k (killer.Table place proof)) =
      (s : Query) → slice_get table place ≡ Some (NotMay s) → HasClaim claims s
  IsNamed m (step.Kill k (killer.Child i)) = killed i ≡ true
  IsNamed m (step.Kill k (killer.Ancestor level proof)) =
      (s : Query) → slice_get (levels_known m) level ≡ Some s → HasClaim claims s
  IsNamed m (step.Ask k q follows seen) = killed (length m.asked) ≡ true → HasClaim claims q
  IsNamed m _ = Unit {0}

  module _ (gs : List Graph) where
    abbrev pub AreNamed : List Happening → Model → Type 0
    AreNamed [] m = Unit {0}
    AreNamed (made s n ∷ hs) m = IsNamed m s × AreNamed hs (after gs g table (made s n) m)
    AreNamed (heard i number known ∷ hs) m =
        AreNamed hs (after gs g table (heard i number known) m)

-- The steps of a query that closed without a path become a right claim: each split and each kill by
-- a certificate in its place, a kill by the table or an ancestor where its edge is still live, and
-- one by a child in the place of the child's Ask.
abbrev pub ClosedStatesAreProved : Type 0
ClosedStatesAreProved =
    (gs : List Graph) (g : Graph) (table : List Summary) (q : Query) (ancestors : List Query)
    (m : Model) → (s : IsGrounded gs g table q ancestors m) → HasNoPath g m.query m.parted →
    (claims : List Query) (killed : ℕ → Bool) →
    AreNamed g table claims killed gs s.state.happenings (begin_model g q ancestors) →
    (ms : List PureMove) × IsRightClaim gs claims (record { query = q; moves = ms })
