-- Right claims: the moves of each show that no run is what its query asks for, where the claims
-- that they name are right.
use Rattle.std.specs.Prelude.{map, ◌≡◌, ◌≢◌, ◌⊎◌, ◌<◌, ℕ, Bool, false, not, IsTrue, List, [], ◌∷◌, ◌++◌, Option, Some, slice_get}
use Rattle.std.specs.List.{list_all, list_any, filter}
use Rattle.linear_formula.specs.LinearSum.{LinearSum}
use Rattle.linear_formula.specs.Equality.{same_atom}
use Rattle.linear_formula.specs.Formula.{are_terms}
use Rattle.linear_formula.specs.declared.formula.Atom.{Atom}
use Rattle.infeasible_cert.specs.Refutation.{Refutation}
use Rattle.infeasible_cert.specs.Right.{Refutes}
use Rattle.infeasible_cert.specs.Terms.{HasTerms}
use Rattle.shadow_elim.specs.Projection.{gives}
use Rattle.shadow_elim.specs.Questions.{with_negation}
use Rattle.flow_graph.specs.Calls.{CallSite, call_edge}
use Rattle.flow_graph.specs.declared.graph.Graph.{Graph}
use Rattle.flow_graph.specs.declared.graph.Edge.{Edge}
use Rattle.flow_graph.specs.Columns.{rows_name_only}
use Rattle.flow_graph.specs.Shapes.{is_call}
use Rattle.weakest_pre.specs.Preimage.{preimage}
use Rattle.summary_form.specs.declared.query.Query.{Query}
use Rattle.summary_form.specs.declared.query.ExitKind.{ExitKind}
use Rattle.summary_form.specs.declared.query.ExitKind.TheVariants as kind
use Rattle.summary_form.specs.Instances.{arity_of}
use Rattle.summary_form.specs.NotMays.{Fits}
use Rattle.may_partition.specs.declared.region.Region.{Region}
use Rattle.may_partition.specs.declared.region.RegionEdge.{RegionEdge}
use Rattle.may_partition.specs.Parted.{Parted, begin_parted, can_negate, kill_edge, split_edge}
use Rattle.call_bridge.specs.Asked.{asked, query_of}
use Rattle.query_rules.specs.Paths.{HasNoPath}
use Rattle.query_rules.specs.Rows.{call_exit, is_own_column, rows_of_query}
use Rattle.proof_bundle.specs.Claims.{PureClaim, PureMove, PureBundle, split, kill, kill_call}

-- Edges

-- the graph edge of a region edge, and its two regions
pub record Between (g : Graph) (p : Parted) (k : RegionEdge) : Type 0 where
  pub edge : Edge
  pub source : Region
  pub target : Region
  pub at_edge : slice_get g.edges k.edge ≡ Some edge
  pub at_source : slice_get p.regions k.from ≡ Some source
  pub at_target : slice_get p.regions k.to ≡ Some target

-- it is no call, and its target's cube has this preimage, which meets no limit
pub record HasPreimage (g : Graph) (p : Parted) (k : RegionEdge) : Type 0 where
  pub between : Between g p k
  pub plain : is_call between.edge ≡ false
  pub rows : List Atom
  pub pair : Option (ℕ × (LinearSum × LinearSum))
  pub is_pre : preimage between.edge between.target.cube.atoms ≡ gives rows pair

-- it is a call, which asks this query without a limit; at `fail` the call ends as the query does
pub record HasAsked (g : Graph) (exit : ExitKind) (p : Parted) (k : RegionEdge) : Type 0 where
  pub between : Between g p k
  pub from : ℕ
  pub to : ℕ
  pub site : CallSite
  pub is_call : between.edge ≡ call_edge from to site
  pub kind : ExitKind
  pub is_kind : call_exit g.fail exit between.target.node ≡ Some kind
  pub rows : List Atom
  pub pair : Option (ℕ × (LinearSum × LinearSum))
  pub is_asked : asked kind site between.source.cube.atoms between.target.cube.atoms
      ≡ gives rows pair

abbrev pub asked_query : {g : Graph} {exit : ExitKind} {p : Parted} {k : RegionEdge} →
    HasAsked g exit p k → Query
asked_query a = query_of a.site.procedure a.kind a.rows

-- Certificates

-- the certificate refutes the atoms; they and its rows are terms, as the types keep it
pub record IsRefutedBy (atoms : List Atom) (c : Refutation) : Type 0 where
  pub right : Refutes atoms c
  pub atoms_terms : IsTrue (are_terms atoms)
  pub terms : HasTerms c

-- one certificate for each of the atoms, with its negation after the rows
abbrev pub AreShown : (rows atoms : List Atom) → List Refutation → Type 0
AreShown rows [] [] = Unit {0}
AreShown rows [] (c ∷ cs) = ⊥
AreShown rows (a ∷ atoms) [] = ⊥
AreShown rows (a ∷ atoms) (c ∷ cs) = IsRefutedBy (with_negation rows a) c × AreShown rows atoms cs

abbrev pub is_among : List Atom → Atom → Bool
is_among rows a = list_any (λ b. same_atom a b) rows

-- the atoms that the rows don't have
abbrev pub missing : (rows atoms : List Atom) → List Atom
missing rows atoms = filter (λ a. not (is_among rows a)) atoms

-- Moves

-- by some atoms of the preimage over a live edge
pub record SplitsByPreimage (g : Graph) (p : Parted) (k : RegionEdge) (atoms : List Atom) :
    Type 0 where
  pub live : IsTrue (p.live k)
  pub pre : HasPreimage g p k
  pub inner : k.from ≢ 0
  pub several : atoms ≢ []
  pub each : IsTrue (list_all (is_among pre.rows) atoms)

-- by any atoms: no edge is cut, since no step leads over the entry edge from an inner region
pub record SplitsRegion (g : Graph) (p : Parted) (k : RegionEdge) (atoms : List Atom) :
    Type 0 where
  pub at_entry : k.edge ≡ 0
  pub same : k.to ≡ k.from
  pub inner : k.from ≢ 0
  pub source : Region
  pub at_source : slice_get p.regions k.from ≡ Some source
  pub before_exit : source.node ≢ g.exit
  pub before_fail : source.node ≢ g.fail
  pub several : atoms ≢ []
  pub names : IsTrue (rows_name_only (is_own_column g) atoms)
  pub terms : IsTrue (are_terms atoms)

-- in one of the two ways, by atoms whose negations are all within the limits of a term
abbrev pub Splits : Graph → Parted → RegionEdge → List Atom → Type 0
Splits g p k atoms =
    (SplitsByPreimage g p k atoms ⊎ SplitsRegion g p k atoms)
    × IsTrue (list_all can_negate atoms)

-- nothing in the source meets the preimage of the target
pub record Kills (g : Graph) (p : Parted) (k : RegionEdge) (c : Refutation) : Type 0 where
  pub live : IsTrue (p.live k)
  pub pre : HasPreimage g p k
  pub refuted : IsRefutedBy (pre.between.source.cube.atoms ++ pre.rows) c

-- the asked query entails that of the claim; of the claims only their queries matter
pub record KillsCall (g : Graph) (exit : ExitKind) (claims : List Query) (p : Parted)
    (k : RegionEdge) (number : ℕ) (cs : List Refutation) : Type 0 where
  pub live : IsTrue (p.live k)
  pub asks : HasAsked g exit p k
  pub claim : Query
  pub there : slice_get claims number ≡ Some claim
  pub of_procedure : claim.proc ≡ asks.site.procedure
  pub of_exit : claim.exit ≡ asks.kind
  pub shown : AreShown (rows_of_query (asked_query asks))
      (missing (rows_of_query (asked_query asks)) (rows_of_query claim)) cs

abbrev pub Moves : Graph → ExitKind → List Query → PureMove → Parted → Type 0
Moves g exit claims (split k atoms) p = Splits g p k atoms
Moves g exit claims (kill k c) p = Kills g p k c
Moves g exit claims (kill_call k number cs) p = KillsCall g exit claims p k number cs

abbrev pub moved : PureMove → Parted → Parted
moved (split k atoms) p = split_edge k atoms p
moved (kill k c) p = kill_edge k p
moved (kill_call k number cs) p = kill_edge k p

abbrev pub AllMove : Graph → ExitKind → List Query → List PureMove → Parted → Type 0
AllMove g exit claims [] p = Unit {0}
AllMove g exit claims (m ∷ ms) p = Moves g exit claims m p × AllMove g exit claims ms (moved m p)

abbrev pub moved_all : List PureMove → Parted → Parted
moved_all [] p = p
moved_all (m ∷ ms) p = moved_all ms (moved m p)

-- Claims

abbrev pub queries_of : List PureClaim → List Query
queries_of cs = map (λ c. c.query) cs

-- after its moves no live path leads from the outside to the target
pub record IsRightClaim (gs : List Graph) (claims : List Query) (c : PureClaim) : Type 0 where
  pub graph : Graph
  pub at : slice_get gs c.query.proc ≡ Some graph
  pub fits : Fits c.query.proc (arity_of (Some graph)) c.query
  pub all_move : AllMove graph c.query.exit claims c.moves (begin_parted graph c.query)
  pub none : HasNoPath graph c.query (moved_all c.moves (begin_parted graph c.query))

abbrev pub AreRightClaims : List Graph → List PureClaim → Type 0
AreRightClaims gs claims =
    (n : ℕ) (c : PureClaim) → slice_get claims n ≡ Some c → IsRightClaim gs (queries_of claims) c

-- does a run of `main` fail at the assertion?
abbrev pub failure_at : (main id : ℕ) → Query
failure_at main id = record {
  proc = main;
  exit = kind.Fail id;
  start = record { atoms = [] };
  end = record { atoms = [] };
}

-- the first claim is that of the assertion
pub record IsOfAssertion (main : ℕ) (b : PureBundle) : Type 0 where
  pub first : PureClaim
  pub at : slice_get b.claims 0 ≡ Some first
  pub asks : first.query ≡ failure_at main b.id

-- and each claim is right
pub record IsRightProof (gs : List Graph) (main : ℕ) (b : PureBundle) : Type 0 where
  pub begins : IsOfAssertion main b
  pub right : AreRightClaims gs b.claims

-- Proofs that are not right

-- the claim of this number isn't right, and each before it is
pub record IsFirstWrongClaim (gs : List Graph) (claims : List PureClaim) (n : ℕ) : Type 0 where
  pub claim : PureClaim
  pub at : slice_get claims n ≡ Some claim
  pub wrong : IsRightClaim gs (queries_of claims) claim → ⊥
  pub before : (m : ℕ) (c : PureClaim) → m < n → slice_get claims m ≡ Some c →
      IsRightClaim gs (queries_of claims) c

-- the number of the first claim that isn't right; it is 0 where there is no claim or the first one
-- isn't that of the assertion
abbrev pub IsFirstWrong : List Graph → (main : ℕ) → PureBundle → (n : ℕ) → Type 0
IsFirstWrong gs main b n =
    ((IsOfAssertion main b → ⊥) × (n ≡ 0))
    ⊎ (IsOfAssertion main b × IsFirstWrongClaim gs b.claims n)
