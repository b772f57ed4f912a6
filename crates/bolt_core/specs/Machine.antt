-- The machine of a board: what each event may do to it.
use Rattle.std.specs.Prelude.{◌≡◌, ℕ, suc, ◌+◌, ◌-◌, ◌<◌, ◌≤◌, List, [], ◌∷◌, ◌++◌, length, take, map, Bool, true, false, cond, ◌==◌, not, Option, Some, None, slice_get}
use Rattle.query_tree.specs.declared.Entry.{Entry}
use Rattle.query_tree.specs.declared.Rest.{Rest}
use Rattle.query_tree.specs.declared.Rest.TheVariants as rest
use Rattle.query_tree.specs.declared.Status.TheVariants.{Ready, Running, Dropped}
use Rattle.query_tree.specs.Forest.{after_ask, after_back, after_close, after_feed, after_root, after_take, changed, has_live, has_live_child, is_none}
use Rattle.summary_form.specs.Answering.{AnswersYes}
use Rattle.summary_form.specs.declared.path.Path.{Path}
use Rattle.summary_form.specs.declared.query.Query.{Query}
use Rattle.summary_form.specs.declared.summary.Summary.{Summary}
use Rattle.summary_form.specs.declared.summary.Summary.TheVariants as summary
use Rattle.summary_table.specs.Tables.{exit_of, proc_of}
use Rattle.query_rules.specs.declared.step.Asked.{Asked}
use Rattle.query_rules.specs.declared.step.Closing.{Closing}
use Rattle.query_rules.specs.declared.step.Closing.TheVariants as closing
use Rattle.query_rules.specs.declared.step.News.{News}
use Rattle.query_rules.specs.declared.step.News.TheVariants as news
use Rattle.bolt_core.specs.declared.slot.ClosedAs.{ClosedAs}
use Rattle.bolt_core.specs.declared.slot.ClosedAs.TheVariants as how
use Rattle.bolt_core.specs.Given.{Always}
use Rattle.bolt_core.specs.Groups.{Node, ancestors, closed_at, discharged, group, queries_at}
use Rattle.bolt_core.specs.Histories.{IsLastTake, Told, asked, asks_of, closed, closed_as, fed, has_said, parked, said, stopped, table_of, took}

-- What a board reads of a state, and what queries and paths mean

-- the last step of a state
pub data Last : Type 0 where
  an_ask : Query → Last
  -- of the asked query of this number
  a_feed : ℕ → Last
  other : Last

pub record Reads (S : Type 0) : Type 1 where
  pub steps : S → ℕ
  pub query : S → Query
  pub level : S → ℕ
  pub above : S → List Query
  pub entries : S → List Asked
  pub last : S → Last
  -- how many summaries the Ask and Stuck steps among the last n have seen
  pub seen : S → ℕ → List ℕ
  -- the least level on which the state leans
  pub lowest : S → Option ℕ
  -- news of an asked query, with the number of its child
  pub tell : (asked child : ℕ) → News → S → S
  pub IsState : List Summary → S → Type 0
  pub Waits : S → Type 0
  pub IsClosed : S → Closing → Type 0
  -- no run of at most this depth is what the query asks for
  pub nm : ℕ → Query → Type 0
  -- the path holds
  pub HasRuns : Path → Type 0

pub record Job (S : Type 0) : Type 0 where
  pub id : ℕ
  pub taken : ℕ
  pub left : ℕ
  pub spent : ℕ
  pub state : S

-- a board
pub record Core (S : Type 0) : Type 0 where
  pub entries : List (Entry S)
  pub nodes : List Node
  -- the summaries with which the board opened
  pub kept : List Summary
  pub table : List Summary
  pub history : List Told
  pub is_stopped : Bool

abbrev pub AllOf : {X : Type 0} → (X → Type 0) → List X → Type 0
AllOf P [] = Unit {0}
AllOf P (x ∷ xs) = P x × AllOf P xs

-- Sound jobs

-- the asked entries are those of the Ask events, and `more` others stand last
abbrev pub Matches : List Asked → List (ℕ × Query) → (more : ℕ) → Type 0
Matches [] [] more = more ≡ 0
Matches [] (c ∷ cs) more = ⊥
Matches (a ∷ as') [] more = (more ≡ 1) × (as' ≡ [])
Matches (a ∷ as') (c ∷ cs) more = (a.child ≡ c.0) × (a.query ≡ c.1) × Matches as' cs more

-- one more where the job's last step is an Ask
abbrev pub asks_more : (spent : ℕ) → Last → ℕ
asks_more spent (an_ask q) = cond (spent == 0) 0 1
asks_more spent (a_feed i) = 0
asks_more spent other = 0

-- news that isn't waiting or starved is what the child was closed as
abbrev pub IsNews : News → Option ClosedAs → Type 0
IsNews news.Waiting o = Unit {0}
IsNews news.Starved o = Unit {0}
IsNews (news.NotMay low) o = o ≡ Some (how.NotMay low)
IsNews news.Must o = o ≡ Some how.Must
IsNews (news.Stuck kind) o = o ≡ Some (how.Stuck kind)

module _ {S : Type 0} (R : Reads S) where
  -- a job that is sound for a history, where these are its queries
  pub record IsSound (kept : List Summary) (h : List Told) (nodes : List Node) (j : Job S) :
      Type 0 where
    pub worker : ℕ
    pub stored : ℕ
    pub waiting : Bool
    pub node : Node
    pub take_at : slice_get h j.taken ≡ Some (took worker j.id j.left stored waiting)
    pub node_at : slice_get nodes j.id ≡ Some node
    pub state : R.IsState (kept ++ table_of h) j.state
    pub query : R.query j.state ≡ node.query
    pub level : R.level j.state ≡ node.level
    pub above : R.above j.state ≡ ancestors nodes j.id node.parent
    pub made : R.steps j.state ≡ stored + j.spent
    pub within : j.spent ≤ j.left
    pub entries : Matches (R.entries j.state) (asks_of (take j.taken h) j.id)
        (asks_more j.spent (R.last j.state))
    pub news : AllOf (λ a. IsNews a.news (closed_as (take j.taken h) a.child)) (R.entries j.state)
    pub seen : AllOf (λ n. length (kept ++ table_of (take j.taken h)) ≤ n)
        (R.seen j.state j.spent)

  -- the query is Running since the Take that the job names
  pub record IsSince (old : Core S) (j : Job S) (own : Entry S) : Type 0 where
    pub at : slice_get old.entries j.id ≡ Some own
    pub running : own.status ≡ Running
    pub last : IsLastTake old.history j.id j.taken

  -- Summaries

  -- it holds by itself
  abbrev pub HoldsBy : Summary → Type 0
  HoldsBy (summary.NotMay q) = Always R.nm q
  HoldsBy (summary.Must p) = R.HasRuns p

  -- What a close tells and appends

  -- as what a query of this level is closed
  abbrev pub closed_how : (level : ℕ) → S → Closing → ClosedAs
  closed_how level s closing.NotMay = how.NotMay (discharged level (R.lowest s))
  closed_how level s (closing.Must p) = how.Must
  closed_how level s (closing.Stuck kind) = how.Stuck kind

  -- its summary is published by its close
  abbrev pub shows : ClosedAs → Bool
  shows (how.NotMay low) = is_none low
  shows how.Must = true
  shows (how.Stuck kind) = false

  -- a leader's group is published with it
  abbrev pub appended : List Node → (i : ℕ) → Node → ClosedAs → Closing → List Summary
  appended ns i n (how.NotMay None) c =
      map summary.NotMay (n.query ∷ queries_at ns (group ns i n.level))
  appended ns i n (how.NotMay (Some j)) c = []
  appended ns i n how.Must (closing.Must p) = summary.Must p ∷ []
  appended ns i n how.Must c = []
  appended ns i n (how.Stuck kind) c = []

  -- the path of a must holds and answers the query
  abbrev pub MayCloseAs : Query → Closing → Type 0
  MayCloseAs q closing.NotMay = Unit {0}
  MayCloseAs q (closing.Must p) = R.HasRuns p × AnswersYes q p
  MayCloseAs q (closing.Stuck kind) = Unit {0}

  -- Events

  abbrev pub with_event : Core S → List (Entry S) → Told → Core S
  with_event old es e = record old { entries = es; history = old.history ++ e ∷ [] }

  abbrev pub with_nodes : Core S → List (Entry S) → List Node → List Summary → Told → Core S
  with_nodes old es ns ss e = record {
    entries = es;
    nodes = ns;
    kept = old.kept;
    table = old.table ++ ss;
    history = old.history ++ e ∷ [];
    is_stopped = old.is_stopped;
  }

  -- no query is open and not Starved: each root is closed, or all that is open in its tree is
  -- Starved
  abbrev pub is_over : Core S → Bool
  is_over c = not (has_live c.entries)

  pub record Takes (old : Core S) (i left steps : ℕ) (waiting : Bool) (e : Told) (new : Core S) :
      Type 0 where
    pub own : Entry S
    pub state : S
    pub at : slice_get old.entries i ≡ Some own
    pub ready : own.status ≡ Ready
    pub going : old.is_stopped ≡ false
    pub left_is : left ≡ own.left
    pub payload : own.payload ≡ Some state
    pub steps_is : steps ≡ R.steps state
    pub waiting_is : waiting ≡ has_live_child old.entries i
    pub new_is : new ≡ with_event old (after_take old.entries i) e

  -- it was dropped while it was Running, and nothing was published of it
  pub record Says (old : Core S) (i : ℕ) (s : Summary) (e : Told) (new : Core S) : Type 0 where
    pub own : Entry S
    pub node : Node
    pub stamp : ℕ
    pub at : slice_get old.entries i ≡ Some own
    pub node_at : slice_get old.nodes i ≡ Some node
    pub dropped : own.status ≡ Dropped stamp
    pub out : own.payload ≡ None
    pub once : has_said old.history i ≡ false
    pub holds : HoldsBy s
    pub of_procedure : proc_of s ≡ node.query.proc
    pub of_exit : exit_of s ≡ node.query.exit
    pub new_is : new ≡ with_nodes old old.entries old.nodes (s ∷ []) e

  -- the child's state has made no step, and is of the asked query, below the job's
  pub record IsFresh (table : List Summary) (parent child : S) (q : Query) : Type 0 where
    pub state : R.IsState table child
    pub none : R.steps child ≡ 0
    pub query : R.query child ≡ q
    pub level : R.level child ≡ suc (R.level parent)
    pub above : R.above child ≡ R.above parent ++ R.query parent ∷ []

  abbrev pub node_below : (i : ℕ) → Node → Query → Node
  node_below i n q = record {
    parent = Some i;
    level = suc n.level;
    query = q;
    closed = None;
    published = false;
  }

  -- the last asked entry gets the child's number
  abbrev pub told_child : S → ℕ → S
  told_child s c = R.tell (length (R.entries s) - 1) c news.Waiting s

  pub record Asks (old : Core S) (i n c : ℕ) (q : Query) (e : Told) (new : Core S) : Type 0 where
    pub job : Job S
    pub own : Entry S
    pub child : S
    pub sound : IsSound old.kept old.history old.nodes job
    pub since : IsSince old job own
    pub id : job.id ≡ i
    pub spent : job.spent ≡ n
    pub made : 1 ≤ n
    pub last : R.last job.state ≡ an_ask q
    pub number : c ≡ length old.entries
    pub fresh : IsFresh (old.kept ++ table_of old.history) job.state child q
    pub new_is : new ≡ with_nodes old
        (after_ask old.entries own i n (told_child job.state c) child)
        (old.nodes ++ node_below i sound.node q ∷ []) [] e

  pub record Feeds (old : Core S) (i n c : ℕ) (e : Told) (new : Core S) : Type 0 where
    pub job : Job S
    pub own : Entry S
    pub child : Entry S
    pub number : ℕ
    pub entry : Asked
    pub sound : IsSound old.kept old.history old.nodes job
    pub since : IsSince old job own
    pub id : job.id ≡ i
    pub spent : job.spent ≡ n
    pub made : 1 ≤ n
    pub last : R.last job.state ≡ a_feed number
    pub asked : slice_get (R.entries job.state) number ≡ Some entry
    pub is_child : entry.child ≡ c
    pub child_at : slice_get old.entries c ≡ Some child
    pub new_is : new ≡ with_event old (after_feed old.entries own i n job.state c child) e

  -- the rows of a Park; `waiting` is what the Take said
  abbrev pub MayPark : Rest → Job S → (waiting : Bool) → Type 0
  MayPark rest.Ready j waiting = (1 ≤ j.spent) × (j.spent < j.left)
  MayPark rest.Blocked j waiting = R.Waits j.state × (j.spent < j.left) × (waiting ≡ true)
  MayPark rest.Starved j waiting = j.spent ≡ j.left

  -- the last of the job's steps isn't an Ask
  abbrev pub AsksNotLast : Job S → Type 0
  AsksNotLast j = (q : Query) → 1 ≤ j.spent → R.last j.state ≡ an_ask q → ⊥

  pub record Parks (old : Core S) (i n : ℕ) (r : Rest) (e : Told) (new : Core S) : Type 0 where
    pub job : Job S
    pub own : Entry S
    pub sound : IsSound old.kept old.history old.nodes job
    pub since : IsSince old job own
    pub id : job.id ≡ i
    pub spent : job.spent ≡ n
    pub may : MayPark r job sound.waiting
    pub no_ask : AsksNotLast job
    pub new_is : new ≡ with_event old (after_back old.entries own i n r job.state) e

  pub record Closes (old : Core S) (i n : ℕ) (how : ClosedAs) (ss : List Summary) (e : Told)
      (new : Core S) : Type 0 where
    pub job : Job S
    pub own : Entry S
    pub closing : Closing
    pub sound : IsSound old.kept old.history old.nodes job
    pub since : IsSince old job own
    pub id : job.id ≡ i
    pub spent : job.spent ≡ n
    pub is_closed : R.IsClosed job.state closing
    pub may : MayCloseAs (R.query job.state) closing
    pub told : how ≡ closed_how sound.node.level job.state closing
    pub appends : ss ≡ appended old.nodes i sound.node how closing
    pub new_is : new ≡ with_nodes old
        (after_close old.entries own i n job.state (length old.history))
        (changed (closed_at old.nodes i how (shows how) sound.node.level) old.nodes) ss e

  -- from the old board the event may come, and leads to the new one
  abbrev pub Event : Core S → Told → Core S → Type 0
  Event old (took w i left steps waiting) new =
      Takes old i left steps waiting (took w i left steps waiting) new
  Event old (said w i s) new = Says old i s (said w i s) new
  Event old (asked w i n c q) new = Asks old i n c q (asked w i n c q) new
  Event old (fed w i n c) new = Feeds old i n c (fed w i n c) new
  Event old (parked w i n r) new = Parks old i n r (parked w i n r) new
  Event old (closed w i n how ss) new = Closes old i n how ss (closed w i n how ss) new
  Event old (stopped w) new =
      (is_over old ≡ false) × (old.is_stopped ≡ false)
      × (new ≡ record old { history = old.history ++ stopped w ∷ []; is_stopped = true })

  -- Boards that are reached

  -- the board is reached from the old one by these events
  abbrev pub Reached : Core S → List Told → Core S → Type 0
  Reached old [] new = new ≡ old
  Reached old (e ∷ es) new = (mid : Core S) × Event old e mid × Reached mid es new

  abbrev pub node_of_root : S → Node
  node_of_root s = record {
    parent = None;
    level = 0;
    query = R.query s;
    closed = None;
    published = false;
  }

  -- a root's state has made no step, and has no ancestors
  pub record IsRoot (s : S) : Type 0 where
    pub state : R.IsState [] s
    pub none : R.steps s ≡ 0
    pub level : R.level s ≡ 0
    pub above : R.above s ≡ []

  -- before the first event: a root of this grant for each of the states, in order
  abbrev pub opening : (grant : ℕ) → List S → Core S → Core S
  opening grant [] c = c
  opening grant (s ∷ ss) c = opening grant ss (record c {
    entries = after_root c.entries grant s;
    nodes = c.nodes ++ node_of_root s ∷ [];
  })

  -- no query yet, and these summaries
  abbrev pub first_board : List Summary → Core S
  first_board kept = record {
    entries = [];
    nodes = [];
    kept = kept;
    table = kept;
    history = [];
    is_stopped = false;
  }
