-- What is true of every board that events lead to.
use Rattle.std.specs.Prelude.{◌≡◌, ◌⊎◌, ◌↔◌, ℕ, suc, ◌+◌, ◌*◌, ◌<◌, ◌≤◌, List, ◌++◌, length, take, drop, Bool, true, false, cond, ◌||◌, Option, Some, None, slice_get}
use Rattle.query_tree.specs.declared.Entry.{Entry}
use Rattle.query_tree.specs.declared.Status.{Status}
use Rattle.query_tree.specs.declared.Status.TheVariants.{Ready, Running, Blocked, Starved, Closed, Dropped}
use Rattle.query_tree.specs.Forest.{is_none, is_open, tally}
use Rattle.query_tree.specs.Kept.{IsKept}
use Rattle.query_tree.specs.Woods.{WasDropped}
use Rattle.summary_form.specs.Answering.{AnswersYes}
use Rattle.summary_form.specs.declared.path.Path.{Path}
use Rattle.summary_form.specs.declared.query.Query.{Query}
use Rattle.summary_form.specs.declared.summary.Summary.{Summary}
use Rattle.summary_form.specs.declared.summary.Summary.TheVariants.{Must}
use Rattle.bolt_core.specs.declared.slot.ClosedAs.{ClosedAs}
use Rattle.bolt_core.specs.declared.slot.ClosedAs.TheVariants as how
use Rattle.bolt_core.specs.Given.{Always, Gives}
use Rattle.bolt_core.specs.Groups.{Node, ancestors}
use Rattle.bolt_core.specs.Histories.{IsLastTake, Told, asks_of, closed_as, gives_back, has_said, table_of, took}
use Rattle.bolt_core.specs.Machine.{AllOf, Core, HoldsBy, IsNews, Matches, Reads}

-- Queries and budgets

-- what may be taken, or is at work, or waits, has something left
abbrev pub Stocked : Status → (left lent : ℕ) → Type 0
Stocked Ready left lent = 1 ≤ left
Stocked Running left lent = 1 ≤ lent
Stocked Blocked left lent = 1 ≤ left
Stocked Starved left lent = Unit {0}
Stocked Closed left lent = Unit {0}
Stocked (Dropped n) left lent = Unit {0}

-- Room: how many events a query can still have with no further step and no loss of a child, two
-- of them kept for what its close makes its parent do
abbrev pub credit_of : Status → (stirred : Bool) → ℕ
credit_of Ready stirred = 4
credit_of Running true = 5
credit_of Running false = 3
credit_of Blocked stirred = 2
credit_of Starved stirred = 2
credit_of Closed stirred = 0
credit_of (Dropped n) stirred = 0

-- a parent stands before its child, one level higher; a root has level 0
abbrev pub Placed : List Node → ℕ → Option ℕ → (level : ℕ) → Type 0
Placed ns i None level = level ≡ 0
Placed ns i (Some p) level =
    (p < i) × (q : Node) × (slice_get ns p ≡ Some q) × (level ≡ suc q.level)

-- a query that closed as a not-may holds, or its ancestors from a level on give it
abbrev pub GivenBy : (ℕ → Query → Type 0) → (above : List Query) → Query → Option ClosedAs → Type 0
GivenBy nm above q (Some (how.NotMay None)) = Always nm q
GivenBy nm above q (Some (how.NotMay (Some j))) = Gives nm (drop j above) q
GivenBy nm above q _ = Unit {0}

-- its summary is in the table
abbrev pub counts_once : Bool → ℕ
counts_once b = cond b 1 0

module _ {S : Type 0} where
  pub record AreStocked (es : List (Entry S)) : Type 0 where
    pub stocked : (i : ℕ) (e : Entry S) → slice_get es i ≡ Some e → Stocked e.status e.left e.lent

  abbrev pub credit : ℕ → Entry S → ℕ
  credit k e = credit_of e.status e.stirred

  -- a query may be published once
  abbrev pub unsaid : (ℕ → Bool) → ℕ → Entry S → ℕ
  unsaid said k e = cond (said k) 0 1

  abbrev pub spent_of : ℕ → Entry S → ℕ
  spent_of k e = e.spent

  -- the events so far, and those that are owed, are at most four for each kept step and five for
  -- each query, and the stop; each query but the roots was asked by a kept step
  pub record HasRoom (es : List (Entry S)) (said : ℕ → Bool) (stopped : Bool)
      (events roots : ℕ) : Type 0 where
    pub owed : events + tally credit es + tally (unsaid said) es + cond stopped 0 1
        ≤ 4 * tally spent_of es + 5 * length es + 1
    pub few : length es ≤ tally spent_of es + roots

  -- the last Take of a Running query tells what its entry keeps of it, and no Ask of it came since
  pub record IsLinkedTo (h : List Told) (i : ℕ) (e : Entry S) : Type 0 where
    pub taken : ℕ
    pub worker : ℕ
    pub at : slice_get h taken ≡ Some (took worker i e.lent e.spent e.waiting)
    pub last : IsLastTake h i taken
    pub quiet : asks_of (take taken h) i ≡ asks_of h i

  pub record AreLinked (es : List (Entry S)) (h : List Told) : Type 0 where
    pub linked : (i : ℕ) (e : Entry S) → slice_get es i ≡ Some e → e.status ≡ Running →
        IsLinkedTo h i e

  -- each query has an entry and a node, of the same parent, and is closed in both or in none
  pub record ArePaired (es : List (Entry S)) (ns : List Node) : Type 0 where
    pub count : length es ≡ length ns
    pub parents : (i : ℕ) (e : Entry S) (n : Node) → slice_get es i ≡ Some e →
        slice_get ns i ≡ Some n → e.parent ≡ n.parent
    pub closed : (i : ℕ) (e : Entry S) (n : Node) → slice_get es i ≡ Some e →
        slice_get ns i ≡ Some n → (e.status ≡ Closed) ↔ (is_none n.closed ≡ false)

  -- what was said of a query was said once it was dropped
  pub record AreSaid (es : List (Entry S)) (h : List Told) : Type 0 where
    pub said : (i : ℕ) → has_said h i ≡ true → (stamp : ℕ) × WasDropped es i stamp

  -- Which event ended a job

  -- the event at this place closed, dropped or gave back the query
  pub record IsEnd (c : Core S) (i k : ℕ) : Type 0 where
    pub event : Told
    pub at : slice_get c.history k ≡ Some event
    pub ends : (gives_back i event ≡ true) ⊎ WasDropped c.entries i k

  -- the first such event after a place
  pub record IsFirstEnd (c : Core S) (i taken k : ℕ) : Type 0 where
    pub after : taken < k
    pub is_end : IsEnd c i k
    pub first : (j : ℕ) → taken < j → j < k → IsEnd c i j → ⊥

  -- the query is Running since the Take at this place
  pub record IsNow (c : Core S) (i taken : ℕ) : Type 0 where
    pub own : Entry S
    pub at : slice_get c.entries i ≡ Some own
    pub running : own.status ≡ Running
    pub last : IsLastTake c.history i taken

  -- of each Take, the query is Running since, or an event ended it, and not both
  pub record AreEnded (c : Core S) : Type 0 where
    pub ended : (t w i left steps : ℕ) (waiting : Bool) →
        slice_get c.history t ≡ Some (took w i left steps waiting) →
        IsNow c i t ⊎ ((k : ℕ) × (t < k) × IsEnd c i k)
    pub going : (t i : ℕ) → IsNow c i t → (k : ℕ) → t < k → IsEnd c i k → ⊥

-- Nodes, the history and the table

pub record AreLevelled (ns : List Node) : Type 0 where
  pub placed : (i : ℕ) (n : Node) → slice_get ns i ≡ Some n → Placed ns i n.parent n.level

-- the nodes are what the history tells: as what each query closed, and which child a query asked
pub record AgreeOn (ns : List Node) (h : List Told) : Type 0 where
  pub closed : (i : ℕ) (n : Node) → slice_get ns i ≡ Some n → n.closed ≡ closed_as h i
  pub asked : (i : ℕ) → AllOf (λ (x : ℕ × Query). (n : Node) × (slice_get ns x.0 ≡ Some n)
      × (n.parent ≡ Some i) × (n.query ≡ x.1)) (asks_of h i)
  pub fresh : (i : ℕ) → length ns ≤ i → closed_as h i ≡ None

-- a query that closed as a must has one in the table that answers it
pub record AreAnsweredIn (table : List Summary) (ns : List Node) : Type 0 where
  pub answered : (i : ℕ) (n : Node) → slice_get ns i ≡ Some n → n.closed ≡ Some how.Must →
      (place : ℕ) × (path : Path) × (slice_get table place ≡ Some (Must path))
      × AnswersYes n.query path

abbrev pub is_counted : List Told → ℕ → Node → ℕ
is_counted h i n = counts_once (n.published || has_said h i)

-- each query has at most one summary in the table: one that was published of a query that is no
-- longer open, or by a close
pub record AreCounted (kept : ℕ) (table : List Summary) (ns : List Node) (h : List Told) :
    Type 0 where
  pub counted : length table ≡ kept + tally (is_counted h) ns
  pub apart : (i : ℕ) (n : Node) → slice_get ns i ≡ Some n → has_said h i ≡ true →
      (n.published ≡ false) × (n.closed ≡ None)
  pub silent : (i : ℕ) (n : Node) → slice_get ns i ≡ Some n → n.closed ≡ None →
      n.published ≡ false

module _ {S : Type 0} (R : Reads S) where
  -- a payload has as many stored steps as its entry says
  pub record AreStored (es : List (Entry S)) : Type 0 where
    pub stored : (i : ℕ) (e : Entry S) → slice_get es i ≡ Some e → (s : S) → e.payload ≡ Some s →
        R.steps s ≡ e.spent

  pub record AreGiven (ns : List Node) : Type 0 where
    pub given : (i : ℕ) (n : Node) → slice_get ns i ≡ Some n →
        GivenBy R.nm (ancestors ns i n.parent) n.query n.closed

  -- a payload is a state of its query, its news is what was reported, and while it is open its
  -- asked entries are those of the Ask events
  pub record IsPayload (c : Core S) (i : ℕ) (n : Node) (status : Status) (s : S) : Type 0 where
    pub state : R.IsState (c.kept ++ table_of c.history) s
    pub query : R.query s ≡ n.query
    pub level : R.level s ≡ n.level
    pub above : R.above s ≡ ancestors c.nodes i n.parent
    pub news : AllOf (λ a. IsNews a.news (closed_as c.history a.child)) (R.entries s)
    pub entries : is_open status ≡ true → Matches (R.entries s) (asks_of c.history i) 0

  pub record ArePayloads (c : Core S) : Type 0 where
    pub payloads : (i : ℕ) (e : Entry S) (n : Node) → slice_get c.entries i ≡ Some e →
        slice_get c.nodes i ≡ Some n → (s : S) → e.payload ≡ Some s → IsPayload c i n e.status s

  pub record Keeps (roots : ℕ) (c : Core S) : Type 0 where
    pub kept : IsKept c.entries
    pub stocked : AreStocked c.entries
    pub stored : AreStored c.entries
    pub room : HasRoom c.entries (has_said c.history) c.is_stopped (length c.history) roots
    pub linked : AreLinked c.entries c.history
    pub paired : ArePaired c.entries c.nodes
    pub levelled : AreLevelled c.nodes
    pub agrees : AgreeOn c.nodes c.history
    -- the table is that of the named summaries, each of which holds by itself
    pub named : c.kept ++ table_of c.history ≡ c.table
    pub holds : AllOf (HoldsBy R) c.table
    pub given : AreGiven c.nodes
    pub answered : AreAnsweredIn c.table c.nodes
    pub counted : AreCounted (length c.kept) c.table c.nodes c.history
    pub said : AreSaid c.entries c.history
    pub payloads : ArePayloads c
    pub ended : AreEnded c
