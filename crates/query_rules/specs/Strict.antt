-- Steps by the strictest rows: a trail is carried on at a frontier alone, a source is split by
-- atoms of the preimage, over a call by all of them, and the query that a call asks is asked
-- itself. Each of them is legal.
use Rattle.std.specs.Prelude.{◌≡◌, ◌≢◌, ◌⊎◌, ℕ, ◌≤◌, IsTrue, List, [], ◌++◌, length, take, Some, slice_get}
use Rattle.std.specs.List.{list_all}
use Rattle.linear_formula.specs.LinearSum.{Valuation, Is64}
use Rattle.linear_formula.specs.Formula.{HoldsAll}
use Rattle.linear_formula.specs.declared.formula.Atom.{Atom}
use Rattle.infeasible_cert.specs.declared.certificate.Certificate.{Certificate}
use Rattle.shadow_elim.specs.Questions.{is_negatable}
use Rattle.flow_graph.specs.declared.graph.Graph.{Graph}
use Rattle.summary_form.specs.declared.query.Query.{Query}
use Rattle.summary_form.specs.declared.path.Path.{Path}
use Rattle.summary_form.specs.declared.summary.Summary.{Summary}
use Rattle.may_partition.specs.declared.region.RegionEdge.{RegionEdge}
use Rattle.query_rules.specs.declared.step.Step.{Step}
use Rattle.query_rules.specs.declared.step.Step.TheVariants as step
use Rattle.query_rules.specs.Decided.{AskedOthers, NoneServes}
use Rattle.query_rules.specs.Legal.{Extends, ExtendsCall, GivesUp, IsEntailedBy, IsLegal, Kills, MayFeed}
use Rattle.query_rules.specs.Paths.{IsTurn}
use Rattle.query_rules.specs.Rows.{PlainEdge, CallAt, AsksAt, MustAt, IsPreimage, IsMustPreimage, AreRefuted, ArePiecesRefuted, levels_known, marks_of, mark_rows, IsSome}
use Rattle.query_rules.specs.Steps.{Model}

-- no certificate shows that the atoms follow, or one for each of them
abbrev pub MayFollow : (source pre atoms : List Atom) → List Certificate → Type 0
MayFollow source pre atoms follows =
    (follows ≡ []) ⊎ ArePiecesRefuted source pre atoms follows

pub record SplitsBySome (g : Graph) (m : Model) (k : RegionEdge) (atoms : List Atom)
    (follows proofs : List Certificate) : Type 0 where
  pub at : PlainEdge g m k
  pub inner : k.from ≢ 0
  pub pre : List Atom
  pub is_pre : IsPreimage at.between.edge at.between.target.cube.atoms pre
  pub some_state : Valuation
  pub values : Is64 some_state
  pub possible : HoldsAll some_state (at.between.source.cube.atoms ++ pre)
  pub some : IsSome atoms pre
  pub several : atoms ≢ []
  pub negatable : IsTrue (list_all is_negatable atoms)
  pub apart : AreRefuted (mark_rows m.query m.trails (at.between.source.cube.atoms ++ atoms))
      (marks_of k.from m.marks) proofs
  pub follow : MayFollow at.between.source.cube.atoms pre atoms follows

pub record SplitsByAll (g : Graph) (table : List Summary) (m : Model) (k : RegionEdge) (place : ℕ)
    (atoms : List Atom) (follows proofs : List Certificate) : Type 0 where
  pub call : CallAt g m k
  pub path : Path
  pub must_at : MustAt table call.site.procedure place call.exit path
  pub is_pre : IsMustPreimage path call.site call.between.target.cube.atoms atoms
  pub several : atoms ≢ []
  pub negatable : IsTrue (list_all is_negatable atoms)
  pub some_state : Valuation
  pub values : Is64 some_state
  pub possible : HoldsAll some_state (call.between.source.cube.atoms ++ atoms)
  pub apart : AreRefuted (mark_rows m.query m.trails (call.between.source.cube.atoms ++ atoms))
      (marks_of k.from m.marks) proofs
  pub follow : MayFollow call.between.source.cube.atoms atoms atoms follows

pub record MayAskItself (g : Graph) (table : List Summary) (m : Model) (k : RegionEdge) (q : Query)
    (follows : List Certificate) (seen : ℕ) : Type 0 where
  pub asks : AsksAt g m k q
  pub leans_not : (level : ℕ) (s : Query) → slice_get (levels_known m) level ≡ Some s →
      ¬ IsEntailedBy q s
  pub few : seen ≤ length table
  pub none_serves : NoneServes g (take seen table) m k q asks.call
  pub others : AskedOthers m.asked k q
  pub none_follow : follows ≡ []

abbrev pub IsStrict : Graph → List Summary → Model → Step → Type 0
IsStrict g table m (step.Extend k n point) = IsTurn g m k × Extends g m k n point
IsStrict g table m (step.Split k atoms follows proofs) =
    IsTurn g m k × SplitsBySome g m k atoms follows proofs
IsStrict g table m (step.Kill k by) = IsTurn g m k × Kills g table m k by
IsStrict g table m (step.CallExtend k n place point) =
    IsTurn g m k × ExtendsCall g table m k n place point
IsStrict g table m (step.CallSplit k place atoms follows proofs) =
    IsTurn g m k × SplitsByAll g table m k place atoms follows proofs
IsStrict g table m (step.CallPart k by atom atoms follows proofs) = ⊥
IsStrict g table m (step.Ask k q follows seen) =
    IsTurn g m k × MayAskItself g table m k q follows seen
IsStrict g table m (step.Feed i) = MayFeed g m i
IsStrict g table m (step.Stuck k why seen) = IsTurn g m k × GivesUp g table m k why seen

abbrev pub StrictStepsAreLegal : Type 0
StrictStepsAreLegal =
    (g : Graph) (table : List Summary) (m : Model) (s : Step) → IsStrict g table m s →
    IsLegal g table m s
