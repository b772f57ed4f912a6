-- Steps that were chosen, and then confirmed to be legal.
use Rattle.std.specs.Prelude.{◌≡◌, ◌≢◌, ◌⊎◌, ℕ, IsTrue, List, [], ◌∷◌, length, Some, slice_get}
use Rattle.std.specs.List.{list_all}
use Rattle.linear_formula.specs.declared.formula.Atom.{Atom}
use Rattle.infeasible_cert.specs.declared.certificate.Certificate.{Certificate}
use Rattle.shadow_elim.specs.Questions.{is_negatable}
use Rattle.flow_graph.specs.Calls.{call_site}
use Rattle.flow_graph.specs.declared.graph.Graph.{Graph}
use Rattle.summary_form.specs.NotMays.{Fits}
use Rattle.summary_form.specs.declared.path.Path.{Path}
use Rattle.summary_form.specs.declared.query.Query.{Query}
use Rattle.summary_form.specs.declared.summary.Summary.{Summary}
use Rattle.summary_form.specs.declared.summary.Summary.TheVariants.{NotMay}
use Rattle.may_partition.specs.declared.region.RegionEdge.{RegionEdge}
use Rattle.must_region.specs.Traces.{trace_of}
use Rattle.call_bridge.specs.Musts.{NamesNumbers}
use Rattle.query_rules.specs.Crossings.{IsPreOf, IsSplitBy, IsSplitFrom}
use Rattle.query_rules.specs.Decided.{AskedOthers}
use Rattle.query_rules.specs.Legal.{IsLegal}
use Rattle.query_rules.specs.Paths.{IsTurn}
use Rattle.query_rules.specs.Rows.{AreOwnRows, Entails, IsRest, rows_of_query}
use Rattle.query_rules.specs.Seen.{Seen}
use Rattle.query_rules.specs.declared.step.Excluded.{Excluded}
use Rattle.query_rules.specs.declared.step.Excluded.TheVariants as excluded
use Rattle.query_rules.specs.declared.step.Step.{Step}
use Rattle.query_rules.specs.declared.step.Step.TheVariants as step
use Rattle.query_rules.specs.Steps.{Model}
use Rattle.punch_step.specs.Analysed.{IsAnalysed}
use Rattle.punch_step.specs.ByMusts.{crossing_by, marking}
use Rattle.punch_step.specs.CallFrontiers.{IsCallStep, IsMustHere, MayAskHere, NoNotMayServes, levels_at, table_at}
use Rattle.punch_step.specs.Frontiers.{MadeAt, crossing_at, trail_at}
use Rattle.punch_step.specs.declared.confirm.Confirmation.{Confirmation}
use Rattle.punch_step.specs.declared.confirm.Marked.{Marked}
use Rattle.punch_step.specs.declared.over_call.CallFrontier.{CallFrontier}
use Rattle.punch_step.specs.declared.plain.Frontier.{Frontier}

-- the atoms can split a region of the graph
pub record CanSplit (g : Graph) (atoms : List Atom) : Type 0 where
  pub several : atoms ≢ []
  pub own : AreOwnRows g atoms
  pub negatable : IsTrue (list_all is_negatable atoms)

-- a source and a trail that marks it are split by these atoms, where a preimage has these rows
pub record IsConfirmed (m : Marked) (pre : List Atom) (c : Confirmation) : Type 0 where
  pub proof : Certificate
  pub one : c.proofs ≡ proof ∷ []
  pub splits : IsSplitBy m.graph.now m.source.now.atoms pre m.query.now (trace_of m.trail.now)
      c.atoms.atoms c.follows proof
  pub own : AreOwnRows m.graph.now c.atoms.atoms

-- a trail that is carried on over an edge that is no call
abbrev pub IsSideStep : Graph → List Summary → Model → Step → Type 0
IsSideStep g table m (step.Extend k n point) = IsLegal g table m (step.Extend k n point)
IsSideStep g table m _ = ⊥

-- such a step, in each turn in which the state is
abbrev pub IsSideTurn : Graph → Seen → Step → Type 0
IsSideTurn g s made =
    (gs : List Graph) (table : List Summary) (m : Model) (k : RegionEdge) →
    IsAnalysed gs table g s m → IsTurn g m k → IsSideStep g table m made

-- the split of an edge's source
abbrev pub IsEdgeSplit : Graph → Frontier → Step → Type 0
IsEdgeSplit g f (step.Split over atoms follows proofs) =
    (over ≡ f.at) × (f.at.from ≢ 0)
    × ((proof : Certificate) × (proofs ≡ proof ∷ [])
    × IsSplitFrom f.source.now.atoms (crossing_at f) g f.query.now (trail_at f) atoms follows proof)
IsEdgeSplit g f _ = ⊥

-- the step that is made first, or the split that is preferred to it
abbrev pub IsMadeHere : Graph → Frontier → (number : ℕ) → Step → Type 0
IsMadeHere g f number s = MadeAt f number s ⊎ IsEdgeSplit g f s

module _ (f : CallFrontier) where
  -- the query is a not-may of the table at a place, or that of a level
  abbrev pub IsExcludedHere : Excluded → Query → Type 0
  IsExcludedHere (excluded.Table place) s = slice_get (table_at f) place ≡ Some (NotMay s)
  IsExcludedHere (excluded.Level level) s = slice_get (levels_at f) level ≡ Some s

  -- the rows are the rest of an atom of the query, which is of the called procedure and exit
  pub record HasRest (by : Excluded) (atom : ℕ) (rows : List Atom) : Type 0 where
    pub summary : Query
    pub excluded : IsExcludedHere by summary
    pub same_procedure : summary.proc ≡ (call_site f.calling.call.now).procedure
    pub same_exit : summary.exit ≡ f.calling.exit
    pub left : Atom
    pub at_atom : slice_get (rows_of_query summary) atom ≡ Some left
    pub is_rest : IsRest f.calling.exit (call_site f.calling.call.now) f.calling.target.now.atoms
        left rows

  -- the rows are the preimage by a must of the table
  pub record HasMustPreimage (place : ℕ) (rows : List Atom) : Type 0 where
    pub path : Path
    pub here : IsMustHere f place path
    pub numbers : NamesNumbers path
    pub is_pre : IsPreOf (crossing_by f.calling path) rows

  -- the query fits the called procedure
  abbrev pub FitsCallee : Query → Type 0
  FitsCallee q = Fits q.proc (record {
    entries = length (call_site f.calling.call.now).arguments;
    exits = length (call_site f.calling.call.now).results;
  }) q

  -- an Ask of a query that the asked one, which may be asked, entails
  abbrev pub IsWeakerAsk : Step → Type 0
  IsWeakerAsk (step.Ask over q follows seen) =
      (over ≡ f.at) × (seen ≡ length (table_at f))
      × ((asked : Query) × MayAskHere f asked × Entails asked q follows × FitsCallee q
      × NoNotMayServes f q × AskedOthers f.asked.now f.at q)
  IsWeakerAsk _ = ⊥

  -- the split of a call's source, by a must or by the rest of a not-may
  abbrev pub IsCallCut : Step → Type 0
  IsCallCut (step.CallSplit over place atoms follows proofs) =
      (over ≡ f.at)
      × ((path : Path) × (proof : Certificate) × (proofs ≡ proof ∷ []) × IsMustHere f place path
      × NamesNumbers path
      × IsSplitFrom f.calling.source.now.atoms (crossing_by f.calling path) f.calling.graph.now
      f.calling.query.now (marking f.calling) atoms follows proof)
  IsCallCut (step.CallPart over by atom atoms follows proofs) =
      (over ≡ f.at)
      × ((rows : List Atom) × (proof : Certificate) × (proofs ≡ proof ∷ []) × HasRest by atom rows
      × AreOwnRows f.calling.graph.now atoms
      × IsSplitBy f.calling.graph.now f.calling.source.now.atoms rows f.calling.query.now
      (marking f.calling) atoms follows proof)
  IsCallCut _ = ⊥

  -- the cut or the Ask that is preferred to the step that is made first
  abbrev pub IsPreferred : Step → Type 0
  IsPreferred s = IsCallCut s ⊎ IsWeakerAsk s

  -- either
  abbrev pub IsMadeOver : Step → Type 0
  IsMadeOver s = IsCallStep f s ⊎ IsPreferred s
