-- What the check of a move says of every partition that is shown so.
use Rattle.std.specs.Prelude.{◌≡◌, ◌↔◌, ℕ, Bool, IsTrue, List, Option, None, Some}
use Rattle.infeasible_cert.specs.Refutation.{Refutation}
use Rattle.flow_graph.specs.declared.graph.Graph.{Graph}
use Rattle.summary_form.specs.declared.query.ExitKind.{ExitKind}
use Rattle.summary_form.specs.declared.query.Query.{Query}
use Rattle.may_partition.specs.Parted.{Parted}
use Rattle.may_partition.specs.Shown.{Shown, Shows}
use Rattle.query_rules.specs.Paths.{HasNoPath}
use Rattle.query_rules.specs.Rows.{rows_of_query}
use Rattle.proof_bundle.specs.Claims.{PureBundle, PureClaim, PureMove}
use Rattle.bundle_check.specs.declared.check.Checked.{Checked}
use Rattle.bundle_check.specs.declared.check.Checked.TheVariants as checked
use Rattle.bundle_check.specs.RightClaims.{AllMove, AreShown, IsFirstWrong, IsFirstWrongClaim, IsRightProof, AreRightClaims, missing, moved_all}

-- true exactly where this holds of what is shown
abbrev pub Decides : Shown → (Parted → Type 0) → Bool → Type 0
Decides s P r = (p : Parted) → Shows s p → IsTrue r ↔ P p

-- true exactly where this holds of what was shown, and then what is shown has become this
pub record Becomes (old new : Shown) (P : Parted → Type 0) (f : Parted → Parted) (r : Bool) :
    Type 0 where
  pub right : Decides old P r
  pub shows : IsTrue r → (p : Parted) → Shows old p → Shows new (f p)

-- what is left to do is right exactly where all is, and leads to the same
pub record IsLeft (g : Graph) (exit : ExitKind) (claims : List Query) (all rest : List PureMove)
    (p q : Parted) : Type 0 where
  pub right : AllMove g exit claims all p ↔ AllMove g exit claims rest q
  pub same : moved_all all p ≡ moved_all rest q

abbrev pub AreLeft : Graph → ExitKind → List Query → (all rest : List PureMove) →
    (old new : Shown) → Type 0
AreLeft g exit claims all rest old new =
    (p : Parted) → Shows old p → (q : Parted) × Shows new q × IsLeft g exit claims all rest p q

-- the moves are right, and leave no path to the query's end
pub record Closes (g : Graph) (exit : ExitKind) (claims : List Query) (q : Query)
    (ms : List PureMove) (p : Parted) : Type 0 where
  pub all_move : AllMove g exit claims ms p
  pub none : HasNoPath g q (moved_all ms p)

-- the claim answers the asked query, as the certificates show
pub record IsAnswered (asked claim : Query) (cs : List Refutation) : Type 0 where
  pub of_procedure : claim.proc ≡ asked.proc
  pub of_exit : claim.exit ≡ asked.exit
  pub shown : AreShown (rows_of_query asked)
      (missing (rows_of_query asked) (rows_of_query claim)) cs

-- the number of the first claim that isn't right; or each is right
abbrev pub IfFirstWrong : List Graph → List PureClaim → Option ℕ → Type 0
IfFirstWrong gs claims (Some n) = IsFirstWrongClaim gs claims n
IfFirstWrong gs claims None = AreRightClaims gs claims

-- what an answer says
abbrev pub Says : List Graph → (main : ℕ) → PureBundle → Checked → Type 0
Says gs main b checked.Right = IsRightProof gs main b
Says gs main b (checked.Wrong n) = IsFirstWrong gs main b n
