-- What events keep, of every board that they lead to, and what follows for its lists and its jobs.
use Rattle.std.specs.Prelude.{◌≡◌, ◌↔◌, ◌⊎◌, ℕ, ◌+◌, ◌*◌, ◌^◌, ◌<◌, ◌≤◌, List, length, take, Bool, true, false, None, Some, slice_get}
use Rattle.flow_graph.specs.declared.graph.Graph.{Graph}
use Rattle.query_tree.specs.Forest.{tally}
use Rattle.query_tree.specs.Kept.{IsOver, grant_of, of_root, worth}
use Rattle.query_tree.specs.declared.Entry.{Entry}
use Rattle.query_tree.specs.declared.Rest.{Rest}
use Rattle.query_tree.specs.declared.Status.TheVariants.{Closed}
use Rattle.query_rules.specs.Answered.{AreAnswered}
use Rattle.query_rules.specs.Seen.{Seen}
use Rattle.query_rules.specs.States.{StaysNews}
use Rattle.query_rules.specs.declared.step.Asked.{Asked}
use Rattle.query_rules.specs.declared.step.Closing.{Closing}
use Rattle.query_rules.specs.declared.step.News.{News}
use Rattle.query_rules.specs.declared.step.News.TheVariants as news
use Rattle.summary_form.specs.declared.query.Query.{Query}
use Rattle.summary_form.specs.declared.summary.Summary.{Summary}
use Rattle.bolt_core.specs.declared.job.Job.{Job as Given}
use Rattle.bolt_core.specs.Boards.{IsBoard, IsSoundFor, MayAsk, MayBeClosed, MayBeParked, MayFeed, Shown, hears}
use Rattle.bolt_core.specs.Groups.{Node}
use Rattle.bolt_core.specs.Histories.{Told, asks_of, closed_as, has_said, took}
use Rattle.bolt_core.specs.Keeps.{Keeps}
use Rattle.bolt_core.specs.Lawful.{IsLawful, MayTell}
use Rattle.bolt_core.specs.Machine.{AllOf, Core, Event, HoldsBy, IsNews, IsRoot, IsSound, Job, Reached, Takes, first_board, is_over, opening}
use Rattle.bolt_core.specs.States.{reads}

-- each event keeps it
abbrev pub BoardsKeep : Type 0
BoardsKeep =
    (gs : List Graph) (roots : ℕ) (old new : Core Seen) (e : Told) → IsLawful (reads gs) →
    Keeps (reads gs) roots old → Event (reads gs) old e new → Keeps (reads gs) roots new

-- and boards open with it
abbrev pub BoardsOpen : Type 0
BoardsOpen =
    (gs : List Graph) (grant : ℕ) (ss : List Seen) (kept : List Summary) → IsLawful (reads gs) →
    1 ≤ grant → grant < 2 ^ 32 → AllOf (IsRoot (reads gs)) ss → AllOf (HoldsBy (reads gs)) kept →
    Keeps (reads gs) (length ss) (opening (reads gs) grant ss (first_board (reads gs) kept))

abbrev pub BoardsAreKept : Type 0
BoardsAreKept = (b : Shown) → IsBoard b → Keeps (reads b.graphs) b.asserts b.core

-- Events change no grants, and the grants and roots bound how many events may come, and the
-- queries.
abbrev pub ReserveSuffices : Type 0
ReserveSuffices =
    (gs : List Graph) (roots : ℕ) (old new : Core Seen) (e : Told) → 1 ≤ roots →
    Event (reads gs) old e new → Keeps (reads gs) roots new →
    (tally grant_of new.entries ≡ tally grant_of old.entries)
    × (length old.history < 16 * (tally grant_of old.entries + roots))
    × (length new.entries ≤ tally grant_of old.entries + roots)

-- the grants of a board that opens
abbrev pub OpeningGrants : Type 0
OpeningGrants =
    (gs : List Graph) (grant : ℕ) (ss : List Seen) (kept : List Summary) →
    tally grant_of (opening (reads gs) grant ss (first_board (reads gs) kept)).entries
    ≡ length ss * grant

-- The table has at most one summary of each query, and room for one more while a query isn't closed
-- of which nothing was said.
abbrev pub TableIsWithin : Type 0
TableIsWithin =
    (gs : List Graph) (roots : ℕ) (c : Core Seen) → Keeps (reads gs) roots c →
    length c.table ≤ length c.kept + length c.nodes

abbrev pub TableHasRoom : Type 0
TableHasRoom =
    (gs : List Graph) (roots : ℕ) (c : Core Seen) (i : ℕ) (n : Node) → Keeps (reads gs) roots c →
    slice_get c.nodes i ≡ Some n → n.closed ≡ None → has_said c.history i ≡ false →
    length c.table < length c.kept + length c.nodes

-- A job stays sound while events come.
abbrev pub JobsStaySound : Type 0
JobsStaySound =
    (gs : List Graph) (roots : ℕ) (old new : Core Seen) (e : Told) (j : Job Seen) →
    IsLawful (reads gs) → Keeps (reads gs) roots old → Event (reads gs) old e new →
    IsSound (reads gs) old.kept old.history old.nodes j →
    IsSound (reads gs) new.kept new.history new.nodes j

-- A job of a board stays sound after any further events, and what a call asks of it is kept.
abbrev pub MovesStay : Type 0
MovesStay =
    (old new : Shown) (es : List Told) (j : Given) → IsBoard old → new.graphs ≡ old.graphs →
    Reached (reads old.graphs) old.core es new.core →
    (IsSoundFor old j → IsSoundFor new j)
    × ((r : Rest) → MayBeParked old j r → MayBeParked new j r)
    × ((child : Seen) (q : Query) → MayAsk old j child q → MayAsk new j child q)
    × ((number : ℕ) → MayFeed old j number → MayFeed new j number)
    × ((c : Closing) → MayBeClosed old j c → MayBeClosed new j c)

-- It may hear how its children closed.
abbrev pub JobsMayBeTold : Type 0
JobsMayBeTold =
    (gs : List Graph) (roots : ℕ) (c : Core Seen) (j : Job Seen) (i : ℕ) (a : Asked) (k : News) →
    Keeps (reads gs) roots c → IsSound (reads gs) c.kept c.history c.nodes j →
    slice_get ((reads gs).entries j.state) i ≡ Some a →
    i < length (asks_of (take j.taken c.history) j.id) → StaysNews a.news k →
    IsNews k (closed_as c.history a.child) → MayTell (reads gs) j.state i k

-- A query is taken with the news of its children: the job is sound, for each must that it hears the
-- table has one that answers, and where it hears of one that works or waits, the Take says so.
abbrev pub TakenJobsAreSound : Type 0
TakenJobsAreSound =
    (gs : List Graph) (roots : ℕ) (old new : Core Seen) (w i left steps : ℕ) (waiting : Bool) →
    IsLawful (reads gs) → Keeps (reads gs) roots old →
    (t : Takes (reads gs) old i left steps waiting (took w i left steps waiting) new) →
    IsSound (reads gs) new.kept new.history new.nodes (record {
      id = i;
      taken = length old.history;
      left = left;
      spent = 0;
      state = hears old t.state;
    })
    × AreAnswered new.table (hears old t.state).asked
    × ((number : ℕ) (a : Asked) → slice_get (hears old t.state).asked number ≡ Some a →
    a.news ≡ news.Waiting → waiting ≡ true)

-- The root of this number is closed, or all that is open in its tree is Starved.
pub record IsRootOver (es : List (Entry Seen)) (root : ℕ) : Type 0 where
  pub own : Entry Seen
  pub at : slice_get es root ≡ Some own
  pub over : (own.status ≡ Closed) ⊎ IsOver es root

-- A board is over exactly where the root of each assertion is.
abbrev pub OverByRoots : Type 0
OverByRoots =
    (b : Shown) → IsBoard b →
    (is_over (reads b.graphs) b.core ≡ true)
    ↔ ((root : ℕ) → root < b.asserts → IsRootOver b.core.entries root)

-- It is a root whose grant is the budget, and what is left and what was spent in its tree make up
-- the budget.
pub record HasBudget (b : Shown) (root : ℕ) : Type 0 where
  pub own : Entry Seen
  pub at : slice_get b.core.entries root ≡ Some own
  pub parent : own.parent ≡ None
  pub grant : own.grant ≡ b.budget
  pub all : tally (worth (of_root root)) b.core.entries ≡ b.budget

abbrev pub RootsHaveBudget : Type 0
RootsHaveBudget = (b : Shown) → IsBoard b → (root : ℕ) → root < b.asserts → HasBudget b root
