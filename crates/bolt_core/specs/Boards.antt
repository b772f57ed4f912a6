-- What contracts see of a board, and what each call makes of it.
use Rattle.std.specs.Prelude.{◌≡◌, ◌⊎◌, ℕ, suc, ◌+◌, ◌*◌, ◌^◌, ◌<◌, ◌≤◌, List, [], ◌∷◌, length, map, take, drop, Bool, not, true, false, Option, None, Some, slice_get}
use Rattle.std.specs.Option.{option_map}
use Rattle.flow_graph.specs.Linked.{AreGraphs}
use Rattle.flow_graph.specs.declared.graph.Graph.{Graph}
use Rattle.summary_form.specs.declared.query.ExitKind.TheVariants.{Fail}
use Rattle.summary_form.specs.declared.query.Query.{Query}
use Rattle.summary_form.specs.declared.summary.Summary.{Summary}
use Rattle.summary_form.specs.declared.summary.Summary.TheVariants as summary
use Rattle.query_tree.specs.declared.Entry.{Entry}
use Rattle.query_tree.specs.declared.Rest.{Rest}
use Rattle.query_tree.specs.declared.Status.{Status}
use Rattle.query_tree.specs.declared.Status.TheVariants.{Ready, Running, Blocked, Starved, Closed, Dropped}
use Rattle.query_tree.specs.Forest.{is_none}
use Rattle.query_tree.specs.Takes.{HasNoReady}
use Rattle.query_rules.specs.Answered.{AreAnswered}
use Rattle.query_rules.specs.Seen.{Seen, ShowsModel}
use Rattle.query_rules.specs.Steps.{begin_model}
use Rattle.query_rules.specs.declared.step.Asked.{Asked}
use Rattle.query_rules.specs.declared.step.Closing.{Closing}
use Rattle.query_rules.specs.declared.step.Closing.TheVariants as closing
use Rattle.query_rules.specs.declared.step.News.{News}
use Rattle.query_rules.specs.declared.step.News.TheVariants as news
use Rattle.summary_table.specs.declared.keys.TheConstants.{MAX_PROCEDURES}
use Rattle.summary_table.specs.Tables.{exit_of, proc_of}
use Rattle.bolt_core.specs.declared.event.Event.{Event as Stored}
use Rattle.bolt_core.specs.declared.event.Event.TheVariants as stored
use Rattle.bolt_core.specs.declared.job.Gone.{Gone as GoneJob}
use Rattle.bolt_core.specs.declared.job.Job.{Job as Given}
use Rattle.bolt_core.specs.declared.job.Taken.{Taken}
use Rattle.bolt_core.specs.declared.job.Taken.TheVariants as taken
use Rattle.bolt_core.specs.declared.slot.ClosedAs.{ClosedAs}
use Rattle.bolt_core.specs.declared.slot.ClosedAs.TheVariants as how
use Rattle.bolt_core.specs.declared.slot.Slot.{Slot}
use Rattle.bolt_core.specs.Groups.{Node}
use Rattle.bolt_core.specs.Histories.{Told, asked, closed, closed_as, fed, has_said, parked, said, stopped, took}
use Rattle.bolt_core.specs.Keeps.{IsFirstEnd}
use Rattle.bolt_core.specs.Machine.{AllOf, AsksNotLast, Core, HoldsBy, closed_how, Event, IsFresh, IsSound, Job, MayCloseAs, MayPark, Reached, a_feed, an_ask, first_board, is_over, opening}
use Rattle.bolt_core.specs.Lawful.{MayTell}
use Rattle.bolt_core.specs.States.{IsStateFor, reads}

-- Stored events

abbrev pub said_as : (worker id : ℕ) → Option Summary → Told
said_as w i None = stopped w
said_as w i (Some s) = said w i s

abbrev pub asked_as : (worker id spent child : ℕ) → Option Query → Told
asked_as w i n c None = stopped w
asked_as w i n c (Some q) = asked w i n c q

-- what the event tells, with these queries and this table
abbrev pub told_by : List Query → List Summary → Stored → Told
told_by qs ts (stored.Take w i left steps waiting) = took w i left steps waiting
told_by qs ts (stored.Publish w i place) = said_as w i (slice_get ts place)
told_by qs ts (stored.Ask w i n c) = asked_as w i n c (slice_get qs c)
told_by qs ts (stored.Feed w i n c) = fed w i n c
told_by qs ts (stored.Park w i n rest) = parked w i n rest
told_by qs ts (stored.Close w i n how from more) = closed w i n how (take more (drop from ts))
told_by qs ts (stored.Stop w) = stopped w

-- it says the same where more queries and summaries follow
abbrev pub IsSettled : (queries summaries : ℕ) → Stored → Type 0
IsSettled nq nt (stored.Publish w i place) = place < nt
IsSettled nq nt (stored.Ask w i n c) = c < nq
IsSettled nq nt (stored.Close w i n how from more) = from + more ≤ nt
IsSettled nq nt _ = Unit {0}

abbrev pub node_of : Slot → Node
node_of s = record {
  parent = s.parent;
  level = s.level;
  query = s.query.value;
  closed = s.closed;
  published = not (is_none s.published);
}

abbrev pub history_of : List Slot → List Summary → List Stored → List Told
history_of slots ts es = map (told_by (map (λ s. s.query.value) slots) ts) es

abbrev pub core_of : (kept : List Summary) → List (Entry Seen) → List Slot → List Summary →
    List Stored → Bool → Core Seen
core_of kept entries slots ts es is_stopped = record {
  entries = entries;
  nodes = map node_of slots;
  kept = kept;
  table = ts;
  history = history_of slots ts es;
  is_stopped = is_stopped;
}

-- Boards

pub record Shown : Type 0 where
  pub graphs : List Graph
  pub main : ℕ
  pub asserts : ℕ
  pub budget : ℕ
  pub core : Core Seen

-- what never changes
pub record SameProgram (old new : Shown) : Type 0 where
  pub graphs : new.graphs ≡ old.graphs
  pub main : new.main ≡ old.main
  pub asserts : new.asserts ≡ old.asserts
  pub budget : new.budget ≡ old.budget
  pub kept : new.core.kept ≡ old.core.kept

-- the queries that there may be: a root for each assertion, and one for each step
abbrev pub most_queries : Shown → ℕ
most_queries b = b.asserts * b.budget + b.asserts

-- the summaries that there may be: those with which it opened, and one of each query
abbrev pub most_summaries : Shown → ℕ
most_summaries b = length b.core.kept + most_queries b

-- what is asked of an assertion: is there a run of `main` that fails at it?
abbrev pub root_query : (main id : ℕ) → Query
root_query main id = record {
  proc = main;
  exit = Fail id;
  start = record { atoms = [] };
  end = record { atoms = [] };
}

pub record IsRootOf (gs : List Graph) (main id : ℕ) (s : Seen) : Type 0 where
  pub graph : Graph
  pub at : slice_get gs main ≡ Some graph
  pub shows : ShowsModel s (begin_model graph (root_query main id) [])

abbrev pub AreRootsOf : List Graph → (main first : ℕ) → List Seen → Type 0
AreRootsOf gs main k [] = Unit {0}
AreRootsOf gs main k (s ∷ ss) = IsRootOf gs main k s × AreRootsOf gs main (suc k) ss

-- it is of one of `procedures` procedures, and where it is of a failure, of one of `asserts`
-- assertions
pub record IsOneOf (procedures asserts : ℕ) (s : Summary) : Type 0 where
  pub procedure : proc_of s < procedures
  pub assertion : (id : ℕ) → exit_of s ≡ Fail id → id < asserts

-- before the first event: a root for each assertion, with the whole budget
pub record IsOpening (b : Shown) (c : Core Seen) : Type 0 where
  pub roots : List Seen
  pub count : length roots ≡ b.asserts
  pub are_roots : AreRootsOf b.graphs b.main 0 roots
  pub kept_hold : AllOf (HoldsBy (reads b.graphs)) c.kept
  pub is : c ≡ opening (reads b.graphs) b.budget roots (first_board (reads b.graphs) c.kept)

-- the board is reached from its opening by its history
pub record IsBoard (b : Shown) : Type 0 where
  pub linked : AreGraphs b.graphs
  pub small : length b.graphs ≤ MAX_PROCEDURES
  pub graph : Graph
  pub main : slice_get b.graphs b.main ≡ Some graph
  pub few : b.asserts ≤ 64
  pub some : 1 ≤ b.budget
  pub most : b.budget ≤ 20000
  pub few_kept : length b.core.kept ≤ 2000000
  pub opened : Core Seen
  pub opening : IsOpening b opened
  pub reached : Reached (reads b.graphs) opened b.core.history b.core

pub record IsBegunWith (gs : List Graph) (main asserts budget : ℕ) (kept : List Summary)
    (b : Shown) :
    Type 0 where
  pub graphs : b.graphs ≡ gs
  pub is_main : b.main ≡ main
  pub all : b.asserts ≡ asserts
  pub granted : b.budget ≡ budget
  pub kept_are : b.core.kept ≡ kept
  pub opening : IsOpening b b.core

-- and without summaries
abbrev pub IsBegun : List Graph → (main asserts budget : ℕ) → Shown → Type 0
IsBegun gs main asserts budget = IsBegunWith gs main asserts budget []

-- What the board's lists keep: room for all that may come, stored events that say the same after
-- more queries and summaries, the not-mays that aren't published yet, of those that are the places
-- of events that published them, and of which queries something was said
pub record IsRoomy (b : Shown) (slots : List Slot) (events : List Stored)
    (forest_room table_room slots_room events_room : ℕ) : Type 0 where
  pub queries : forest_room ≡ most_queries b
  pub kept : most_queries b ≤ slots_room
  pub summaries : table_room ≡ most_summaries b
  pub happened : 16 * most_queries b ≤ events_room
  pub settled : (i : ℕ) (e : Stored) → slice_get events i ≡ Some e →
      IsSettled (length slots) (length b.core.table) e
  pub handed : (i : ℕ) (s : Slot) → slice_get slots i ≡ Some s → (low : Option ℕ) →
      s.closed ≡ Some (how.NotMay low) → s.published ≡ None →
      option_map (λ a. a.value) s.summary ≡ Some (summary.NotMay s.query.value)
  pub shown : (i : ℕ) (s : Slot) → slice_get slots i ≡ Some s → (place : ℕ) →
      s.published ≡ Some place → place < length events
  pub said_is : (i : ℕ) (s : Slot) → slice_get slots i ≡ Some s →
      s.said ≡ has_said b.core.history i

-- Jobs

abbrev pub job_of : Given → Job Seen
job_of j = record {
  id = j.id;
  taken = j.taken;
  left = j.left;
  spent = j.spent;
  state = j.state;
}

abbrev pub IsSoundFor : Shown → Given → Type 0
IsSoundFor b j = IsSound (reads b.graphs) b.core.kept b.core.history b.core.nodes (job_of j)

-- the news of a query that was closed so
abbrev pub closed_news : ClosedAs → News
closed_news (how.NotMay low) = news.NotMay low
closed_news how.Must = news.Must
closed_news (how.Stuck kind) = news.Stuck kind

-- the old news, where it isn't closed
abbrev pub news_as : Option ClosedAs → News → News
news_as None old = old
news_as (Some (how.NotMay low)) old = news.NotMay low
news_as (Some how.Must) old = news.Must
news_as (Some (how.Stuck kind)) old = news.Stuck kind

abbrev pub news_by : Option ClosedAs → Status → Option News
news_by c Ready = Some news.Waiting
news_by c Running = Some news.Waiting
news_by c Blocked = Some news.Waiting
news_by c Starved = Some news.Starved
news_by c Closed = option_map closed_news c
news_by c (Dropped n) = None

abbrev pub news_of : Option ClosedAs → Option (Entry Seen) → Option News
news_of c None = None
news_of c (Some e) = news_by c e.status

-- the news of the query of this number, if it isn't dropped
abbrev pub news_at : Core Seen → ℕ → Option News
news_at c i = news_of (closed_as c.history i) (slice_get c.entries i)

abbrev pub told_as : Option News → Asked → Asked
told_as None a = a
told_as (Some known) a = record a { news = known }

-- each asked entry has the news of its child
abbrev pub hears : Core Seen → Seen → Seen
hears c s = record s { asked = map (λ a. told_as (news_at c a.child) a) s.asked }

-- a Take of the query, whose state has the news of its children
pub record IsTaken (old : Shown) (worker : ℕ) (new : Shown) (j : Given) : Type 0 where
  pub stored : ℕ
  pub waiting : Bool
  pub event : Event (reads old.graphs) old.core (took worker j.id j.left stored waiting) new.core
  pub place : j.taken ≡ length old.core.history
  pub none : j.spent ≡ 0
  pub hears_all : (own : Entry Seen) → slice_get old.core.entries j.id ≡ Some own → (s : Seen) →
      own.payload ≡ Some s → j.state ≡ hears old.core s
  pub sound : IsSoundFor new j
  pub answered : AreAnswered new.core.table j.state.asked
  pub waits : (i : ℕ) (a : Asked) → slice_get j.state.asked i ≡ Some a → a.news ≡ news.Waiting →
      waiting ≡ true

-- the state may hear the news of its children
pub record CanHear (b : Shown) (s : Seen) : Type 0 where
  pub state : IsStateFor b.graphs b.core.table s
  pub few : length s.asked < 2 ^ 32
  pub children : (i : ℕ) (a : Asked) → slice_get s.asked i ≡ Some a →
      a.child < length b.core.entries
  pub may : (i : ℕ) (a : Asked) → slice_get s.asked i ≡ Some a → (known : News) →
      news_at b.core a.child ≡ Some known → MayTell (reads b.graphs) s i known

-- some query is Running
pub record IsBusy (es : List (Entry Seen)) : Type 0 where
  pub id : ℕ
  pub own : Entry Seen
  pub at : slice_get es id ≡ Some own
  pub running : own.status ≡ Running

pub record IsIdle (old new : Shown) : Type 0 where
  pub same : new ≡ old
  pub going : old.core.is_stopped ≡ false
  pub not_over : is_over (reads old.graphs) old.core ≡ false
  pub none : HasNoReady old.core.entries
  pub busy : IsBusy old.core.entries

pub record IsDone (old new : Shown) : Type 0 where
  pub same : new ≡ old
  pub done : (is_over (reads old.graphs) old.core ≡ true) ⊎ (old.core.is_stopped ≡ true)

abbrev pub Gives : Shown → (worker : ℕ) → Shown → Taken → Type 0
Gives old w new (taken.Job j) = IsTaken old w new j
Gives old w new taken.Idle = IsIdle old new
Gives old w new taken.Over = IsDone old new

-- a stop is an event where the board is neither over nor stopped; else it changes nothing
pub record Stops (old : Shown) (worker : ℕ) (new : Shown) : Type 0 where
  pub acts : old.core.is_stopped ≡ false → is_over (reads old.graphs) old.core ≡ false →
      Event (reads old.graphs) old.core (stopped worker) new.core
  pub keeps : (is_over (reads old.graphs) old.core ≡ true) ⊎ (old.core.is_stopped ≡ true) →
      new ≡ old

-- What comes back

-- the board is as before, and the first event after the take that closed, dropped or gave back the
-- query is reported
pub record IsGone (old new : Shown) (j : Given) (gone : GoneJob) : Type 0 where
  pub same : new ≡ old
  pub job : gone.job ≡ j
  pub first : IsFirstEnd old.core j.id j.taken gone.event

-- what was handed in is stored: the query's entry keeps this state
pub record IsStored (b : Shown) (id : ℕ) (s : Seen) : Type 0 where
  pub own : Entry Seen
  pub at : slice_get b.core.entries id ≡ Some own
  pub payload : own.payload ≡ Some s

-- What the calls ask

pub record MayBeParked (b : Shown) (j : Given) (r : Rest) : Type 0 where
  pub sound : IsSoundFor b j
  pub may : MayPark (reads b.graphs) r (job_of j) sound.waiting
  pub no_ask : AsksNotLast (reads b.graphs) (job_of j)

pub record MayAsk (b : Shown) (j : Given) (child : Seen) (query : Query) : Type 0 where
  pub sound : IsSoundFor b j
  pub made : 1 ≤ j.spent
  pub last : (reads b.graphs).last j.state ≡ an_ask query
  pub fresh : IsFresh (reads b.graphs) b.core.table j.state child query

pub record MayFeed (b : Shown) (j : Given) (number : ℕ) : Type 0 where
  pub sound : IsSoundFor b j
  pub made : 1 ≤ j.spent
  pub last : (reads b.graphs).last j.state ≡ a_feed number

-- what a close hands in: the not-may of the query, or the must of the path
abbrev pub HandsIn : Query → Closing → Option Summary → Type 0
HandsIn q closing.NotMay s = s ≡ Some (summary.NotMay q)
HandsIn q (closing.Must p) s = s ≡ Some (summary.Must p)
HandsIn q (closing.Stuck kind) s = s ≡ None

pub record MayBeClosed (b : Shown) (j : Given) (c : Closing) : Type 0 where
  pub sound : IsSoundFor b j
  pub is_closed : (reads b.graphs).IsClosed j.state c
  pub may : MayCloseAs (reads b.graphs) j.state.query c

-- the child of the asked entry of this number is fed
pub record IsFedBy (old : Shown) (worker : ℕ) (j : Given) (number : ℕ) (new : Shown) : Type 0 where
  pub entry : Asked
  pub there : slice_get j.state.asked number ≡ Some entry
  pub event : Event (reads old.graphs) old.core (fed worker j.id j.spent entry.child) new.core

-- the query is closed so, and these summaries are appended
pub record IsClosedBy (old : Shown) (worker : ℕ) (j : Given) (c : Closing) (new : Shown) : Type
    0 where
  pub summaries : List Summary
  pub level : ℕ
  pub event : Event (reads old.graphs) old.core
      (closed worker j.id j.spent (closed_how (reads old.graphs) level j.state c) summaries)
      new.core

-- the query was dropped while it was Running, and nothing was said of it
pub record MayBeSaid (b : Shown) (id : ℕ) : Type 0 where
  pub own : Entry Seen
  pub at : slice_get b.core.entries id ≡ Some own
  pub stamp : ℕ
  pub dropped : own.status ≡ Dropped stamp
  pub out : own.payload ≡ None
  pub once : has_said b.core.history id ≡ false

-- the summary is appended where it may be said, and else nothing changes
pub record Publishes (old : Shown) (worker id : ℕ) (s : Summary) (new : Shown) : Type 0 where
  pub acts : MayBeSaid old id → Event (reads old.graphs) old.core (said worker id s) new.core
  pub keeps : ¬ MayBeSaid old id → new ≡ old
