-- What became of the roots of a board: of each what its verdict says, by the board alone.
use Rattle.std.specs.Prelude.{◌≡◌, ℕ, List, length, cond, ◌==◌, true, Some, slice_get, ℤ}
use Rattle.linear_formula.specs.LinearSum.{valuation}
use Rattle.shadow_elim.specs.RightLimit.{IsRight}
use Rattle.shadow_elim.specs.declared.limit.LimitKind.{LimitKind}
use Rattle.flow_graph.specs.Runs.{failed}
use Rattle.flow_graph.specs.declared.graph.Graph.{Graph}
use Rattle.summary_form.specs.Instances.{graph_runs}
use Rattle.summary_form.specs.Musts.{values_of}
use Rattle.summary_form.specs.NotMays.{NotMayHolds}
use Rattle.summary_form.specs.declared.path.Path.{Path}
use Rattle.must_region.specs.Traces.{Trace}
use Rattle.may_partition.specs.declared.region.RegionEdge.{RegionEdge}
use Rattle.query_tree.specs.declared.Entry.{Entry}
use Rattle.query_tree.specs.declared.Status.TheVariants.{Starved, Closed}
use Rattle.query_tree.specs.Forest.{is_open, tally}
use Rattle.query_rules.specs.Closings.{IsTargetMark}
use Rattle.query_rules.specs.Seen.{Seen, ShowsModel}
use Rattle.query_rules.specs.Steps.{Model}
use Rattle.query_rules.specs.declared.step.Asked.{Asked}
use Rattle.query_rules.specs.declared.step.Closing.{Closing}
use Rattle.query_rules.specs.declared.step.Closing.TheVariants as closing
use Rattle.query_rules.specs.declared.step.Mark.{Mark}
use Rattle.query_rules.specs.declared.step.News.TheVariants as news
use Rattle.query_rules.specs.declared.step.Step.TheVariants as step
use Rattle.query_rules.specs.declared.step.Why.TheVariants as why
use Rattle.bolt_core.specs.declared.job.Verdict.{Verdict}
use Rattle.bolt_core.specs.declared.job.Verdict.TheVariants as verdict
use Rattle.bolt_core.specs.Boards.{Shown, root_query}
use Rattle.bolt_core.specs.Groups.{Node}
use Rattle.bolt_core.specs.Histories.{closed_as}
use Rattle.bolt_core.specs.Machine.{closed_how}
use Rattle.bolt_core.specs.States.{IsClosedFor, IsStateFor, reads}

-- the query of this number is closed so, and this is the state with which it closed
pub record IsClosedIn (b : Shown) (id : ℕ) (s : Seen) (c : Closing) : Type 0 where
  pub own : Entry Seen
  pub node : Node
  pub at : slice_get b.core.entries id ≡ Some own
  pub node_at : slice_get b.core.nodes id ≡ Some node
  pub closed : own.status ≡ Closed
  pub payload : own.payload ≡ Some s
  pub state : IsStateFor b.graphs b.core.table s
  pub query : s.query ≡ node.query
  pub is_closed : IsClosedFor b.graphs s c
  pub told : closed_as b.core.history id ≡ Some (closed_how (reads b.graphs) node.level s c)

-- it is a root's, closed without a path, and no run is what it asks for
pub record IsProvedIn (b : Shown) (root : ℕ) : Type 0 where
  pub state : Seen
  pub closed : IsClosedIn b root state closing.NotMay
  pub query : state.query ≡ root_query b.main root
  pub none : NotMayHolds (graph_runs b.graphs) (root_query b.main root)

-- Its target is marked; the list is of the inputs at the point of a mark of it, and on exactly
-- these a run fails there.
pub record IsFoundIn (b : Shown) (root : ℕ) (list : List ℤ) : Type 0 where
  pub state : Seen
  pub path : Path
  pub closed : IsClosedIn b root state (closing.Must path)
  pub query : state.query ≡ root_query b.main root
  pub graph : Graph
  pub model : Model
  pub graph_at : slice_get b.graphs b.main ≡ Some graph
  pub shows : ShowsModel state model
  pub mark : Mark
  pub trail : Trace
  pub at_target : IsTargetMark graph model mark trail
  pub inputs : list ≡ values_of (valuation mark.point) trail.inputs
  pub depth : ℕ
  pub run : graph_runs b.graphs depth b.main (values_of (valuation mark.point) trail.entry) list
      (failed root)

-- the kept steps of a root's tree
abbrev pub spent_under : ℕ → ℕ → Entry Seen → ℕ
spent_under root k e = cond (e.root == root) e.spent 0

-- It is open, and all that is open in its tree is Starved, with nothing left. The steps that were
-- kept in its tree are the whole budget; each stored state is one of its query, by legal steps, and
-- has as many as were kept of it.
pub record HasSpent (b : Shown) (root n : ℕ) : Type 0 where
  pub own : Entry Seen
  pub at : slice_get b.core.entries root ≡ Some own
  pub opened : is_open own.status ≡ true
  pub state : Seen
  pub payload : own.payload ≡ Some state
  pub query : state.query ≡ root_query b.main root
  pub starved : (i : ℕ) (e : Entry Seen) → slice_get b.core.entries i ≡ Some e → e.root ≡ root →
      is_open e.status ≡ true → (e.status ≡ Starved) × (e.left ≡ 0)
  pub kept : tally (spent_under root) b.core.entries ≡ n
  pub all : n ≡ b.budget
  pub states : (i : ℕ) (e : Entry Seen) (s : Seen) → slice_get b.core.entries i ≡ Some e →
      e.payload ≡ Some s → IsStateFor b.graphs b.core.table s × (length s.steps ≡ e.spent)

-- the child of the asked entry of this number was given up
pub record TellsLimit (s : Seen) (number : ℕ) : Type 0 where
  pub entry : Asked
  pub kind : LimitKind
  pub there : slice_get s.asked number ≡ Some entry
  pub is_news : entry.news ≡ news.Stuck kind

-- The query closed with each path given up, and this is the kind of the first edge of a path that
-- was. Each edge that it gave up has a right limit of the solver, or its child gave up: in the same
-- way, down to such a limit.
pub data HitsLimit (b : Shown) : (id : ℕ) → LimitKind → Type 0 where
  hits : {id : ℕ} {kind : LimitKind} → (s : Seen) → IsClosedIn b id s (closing.Stuck kind) →
      ((n : ℕ) (k : RegionEdge) (kept : _) (seen : ℕ) →
      slice_get s.steps n ≡ Some (step.Stuck k (why.Own kept) seen) → IsRight kept) →
      ((n : ℕ) (k : RegionEdge) (number seen : ℕ) →
      slice_get s.steps n ≡ Some (step.Stuck k (why.Child number) seen) → TellsLimit s number) →
      ((n : ℕ) (k : RegionEdge) (number seen : ℕ) (a : Asked) (of_child : LimitKind) →
      slice_get s.steps n ≡ Some (step.Stuck k (why.Child number) seen) →
      slice_get s.asked number ≡ Some a → a.news ≡ news.Stuck of_child →
      HitsLimit b a.child of_child) →
      HitsLimit b id kind

-- it is a root's, which hits a limit of this kind
pub record IsGivenUpIn (b : Shown) (root : ℕ) (kind : LimitKind) : Type 0 where
  pub state : Seen
  pub closed : IsClosedIn b root state (closing.Stuck kind)
  pub query : state.query ≡ root_query b.main root
  pub down : HitsLimit b root kind

-- the verdict of the root of this number
abbrev pub HasVerdict : Shown → (root : ℕ) → Verdict → Type 0
HasVerdict b root verdict.Proved = IsProvedIn b root
HasVerdict b root (verdict.Found list) = IsFoundIn b root list.items
HasVerdict b root (verdict.Budget n) = HasSpent b root n
HasVerdict b root (verdict.Limit kind) = IsGivenUpIn b root kind
