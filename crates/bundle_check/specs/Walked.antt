-- What a walk along the stored steps makes of each, and what each step gives it.
use Rattle.std.specs.Prelude.{◌≡◌, ℕ, ◌+◌, ◌<◌, ◌≤◌, Bool, true, false, IsTrue, List, [], ◌∷◌, length, Some, slice_get, if◌then◌else◌}
use Rattle.std.specs.List.{list_all}
use Rattle.linear_formula.specs.declared.formula.Atom.{Atom}
use Rattle.infeasible_cert.specs.Refutation.{Refutation, refutation_of}
use Rattle.infeasible_cert.specs.declared.certificate.Certificate.{Certificate}
use Rattle.flow_graph.specs.declared.graph.Graph.{Graph}
use Rattle.summary_form.specs.declared.query.ExitKind.{ExitKind}
use Rattle.summary_form.specs.declared.query.Query.{Query}
use Rattle.summary_form.specs.declared.summary.Summary.{Summary}
use Rattle.summary_form.specs.declared.summary.Summary.TheVariants.{NotMay}
use Rattle.may_partition.specs.declared.region.RegionEdge.{RegionEdge}
use Rattle.may_partition.specs.Parted.{Parted, can_negate}
use Rattle.query_rules.specs.Rows.{rows_of_query}
use Rattle.query_rules.specs.Steps.{uncut}
use Rattle.query_rules.specs.declared.step.Killer.{Killer}
use Rattle.query_rules.specs.declared.step.Killer.TheVariants as killer
use Rattle.query_rules.specs.declared.step.Step.{Step}
use Rattle.query_rules.specs.declared.step.Step.TheVariants as step
use Rattle.proof_bundle.specs.Claims.{PureMove, split, kill, kill_call}
use Rattle.bundle_check.specs.RightClaims.{HasAsked, asked_query, is_among}

-- kills of an edge from each new piece of its source, of which the first has number n, by a
-- certificate for each
abbrev pub cuts : (n : ℕ) → RegionEdge → List Certificate → List PureMove
cuts n k [] = []
cuts n k (c ∷ cs) =
    kill (record { edge = k.edge; from = n; to = k.to }) (refutation_of c) ∷ cuts (n + 1) k cs

-- A split by atoms of the preimage cuts the edge by itself. One by atoms that follow splits the
-- source by any atoms, and then the edge is killed from each new piece.
abbrev pub split_moves : (n : ℕ) → RegionEdge → List Atom → List Certificate → List PureMove
split_moves n k atoms [] = split k atoms ∷ []
split_moves n k atoms (c ∷ cs) = split (uncut k) atoms ∷ cuts n k (c ∷ cs)

-- of certificates, one for each of the atoms, those of the atoms that the rows don't have
abbrev pub kept : (rows atoms : List Atom) → List Certificate → List Refutation
kept rows [] cs = []
kept rows (a ∷ atoms) [] = []
kept rows (a ∷ atoms) (c ∷ cs) =
    if is_among rows a then kept rows atoms cs else refutation_of c ∷ kept rows atoms cs

module _ (g : Graph) (exit : ExitKind) (p : Parted) where
  -- what a step gives: its edge's regions are there, or its call asks a query
  abbrev pub HasEnds : RegionEdge → Type 0
  HasEnds k = (k.from < length p.regions) × (k.to < length p.regions)

  abbrev pub GivesFor : Killer → RegionEdge → Type 0
  GivesFor (killer.Certificate c) k = HasEnds k
  GivesFor (killer.Table place proofs) k = HasEnds k × HasAsked g exit p k
  GivesFor (killer.Child i) k = Unit {0}
  GivesFor (killer.Ancestor level proofs) k = HasEnds k × HasAsked g exit p k

  abbrev pub Gives : Step → Type 0
  -- a kill of a split is from a new piece
  Gives (step.Split k atoms follows proofs) =
      HasEnds k × IsTrue (list_all can_negate atoms) × (length follows ≤ length atoms)
  Gives (step.CallSplit k place atoms follows proofs) =
      HasEnds k × IsTrue (list_all can_negate atoms)
  Gives (step.CallPart k by atom atoms follows proofs) =
      HasEnds k × IsTrue (list_all can_negate atoms)
  Gives (step.Kill k by) = GivesFor by k
  Gives (step.Ask k q follows seen) = HasEnds k × HasAsked g exit p k
  Gives _ = Unit {0}

  module _ (table : List Summary) (levels claims : List Query) (killed : ℕ → Bool) where
    -- a kill by the claim of this query, where the edge is live
    abbrev pub MakesCall : Query → RegionEdge → List Certificate → List PureMove → Type 0
    MakesCall s k proofs made =
        (p.live k ≡ false → made ≡ [])
        × (p.live k ≡ true → (h : HasAsked g exit p k) × (n : ℕ) × (slice_get claims n ≡ Some s)
        × (made ≡ kill_call k n (kept (rows_of_query (asked_query h)) (rows_of_query s) proofs)
        ∷ []))

    abbrev pub MakesKill : Killer → RegionEdge → List PureMove → Type 0
    MakesKill (killer.Certificate c) k made = made ≡ kill k (refutation_of c) ∷ []
    MakesKill (killer.Table place proofs) k made =
        (s : Query) → slice_get table place ≡ Some (NotMay s) → MakesCall s k proofs made
    MakesKill (killer.Child i) k made = made ≡ []
    MakesKill (killer.Ancestor level proofs) k made =
        (s : Query) → slice_get levels level ≡ Some s → MakesCall s k proofs made

    -- `entry` is how many entries were asked before
    abbrev pub Makes : Step → (entry : ℕ) → List PureMove → Type 0
    Makes (step.Split k atoms follows proofs) entry made =
        made ≡ split_moves (length p.regions) k atoms follows
    Makes (step.CallSplit k place atoms follows proofs) entry made =
        made ≡ split (uncut k) atoms ∷ []
    Makes (step.CallPart k by atom atoms follows proofs) entry made =
        made ≡ split (uncut k) atoms ∷ []
    Makes (step.Kill k by) entry made = MakesKill by k made
    -- a kill in the place of the child's
    Makes (step.Ask k q follows seen) entry made =
        (killed entry ≡ false → made ≡ []) × (killed entry ≡ true → MakesCall q k follows made)
    Makes _ entry made = made ≡ []
