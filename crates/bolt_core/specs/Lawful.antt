-- What the machine needs of the states of queries.
use Rattle.std.specs.Prelude.{◌≡◌, ℕ, ◌-◌, List, [], ◌∷◌, ◌++◌, length, drop, Option, None, Some, slice_get}
use Rattle.summary_form.specs.declared.query.Query.{Query}
use Rattle.summary_form.specs.declared.summary.Summary.{Summary}
use Rattle.query_rules.specs.declared.step.Asked.{Asked}
use Rattle.query_rules.specs.declared.step.Closing.TheVariants as closing
use Rattle.query_rules.specs.declared.step.News.{News}
use Rattle.query_rules.specs.declared.step.News.TheVariants as news
use Rattle.query_rules.specs.States.{StaysNews}
use Rattle.query_rules.specs.Steps.{updated, with_child}
use Rattle.bolt_core.specs.Given.{Always, Gives, IsGraded}
use Rattle.bolt_core.specs.Machine.{AllOf, HoldsBy, Reads, an_ask, told_child}

-- From some level on, its own counting, the queries down to it give the query; or it holds by
-- itself.
abbrev pub GivenFrom : (ℕ → Query → Type 0) → (levels : List Query) → Query → Option ℕ → Type 0
GivenFrom nm levels q None = Always nm q
GivenFrom nm levels q (Some j) = Gives nm (drop j levels) q

module _ {S : Type 0} (R : Reads S) where
  abbrev pub levels_of : S → List Query
  levels_of s = R.above s ++ R.query s ∷ []

  -- a reported not-may is true: by itself, or given by the queries from its level on
  abbrev pub IsTrueNews : S → Query → News → Type 0
  IsTrueNews s q (news.NotMay low) = GivenFrom R.nm (levels_of s) q low
  IsTrueNews s q news.Waiting = Unit {0}
  IsTrueNews s q news.Starved = Unit {0}
  IsTrueNews s q news.Must = Unit {0}
  IsTrueNews s q (news.Stuck kind) = Unit {0}

  -- news that changes no final news, and is true
  pub record MayTell (s : S) (i : ℕ) (known : News) : Type 0 where
    pub entry : Asked
    pub there : slice_get (R.entries s) i ≡ Some entry
    pub stays : StaysNews entry.news known
    pub is_true : IsTrueNews s entry.query known

  -- the entry of the query stands last
  pub record HasAsked (s : S) (q : Query) : Type 0 where
    pub entry : Asked
    pub there : slice_get (R.entries s) (length (R.entries s) - 1) ≡ Some entry
    pub query : entry.query ≡ q

  pub record IsLawful : Type 0 where
    pub graded : IsGraded R.nm
    -- a state for a table is one for a longer table
    pub longer : (table more : List Summary) (s : S) → R.IsState table s →
        R.IsState (table ++ more) s
    -- a state that made no step asked nothing
    pub unasked : (table : List Summary) (s : S) → R.IsState table s → R.steps s ≡ 0 →
        R.entries s ≡ []
    -- among no steps none has seen anything
    pub seen_none : (s : S) → R.seen s 0 ≡ []
    -- news of an asked query changes its child and its news, and nothing else
    pub tell_entries : (i c : ℕ) (k : News) (s : S) →
        R.entries (R.tell i c k s) ≡ updated (with_child c k) (R.entries s) i
    pub tell_steps : (i c : ℕ) (k : News) (s : S) → R.steps (R.tell i c k s) ≡ R.steps s
    pub tell_query : (i c : ℕ) (k : News) (s : S) → R.query (R.tell i c k s) ≡ R.query s
    pub tell_level : (i c : ℕ) (k : News) (s : S) → R.level (R.tell i c k s) ≡ R.level s
    pub tell_above : (i c : ℕ) (k : News) (s : S) → R.above (R.tell i c k s) ≡ R.above s
    pub tell_last : (i c : ℕ) (k : News) (s : S) → R.last (R.tell i c k s) ≡ R.last s
    pub tell_seen : (i c n : ℕ) (k : News) (s : S) → R.seen (R.tell i c k s) n ≡ R.seen s n
    -- and makes a state of a state
    pub tell_state : (table : List Summary) (s : S) (i c : ℕ) (k : News) → R.IsState table s →
        MayTell s i k → R.IsState table (R.tell i c k s)
    -- where the last step is an Ask, its entry stands last, and may get its child
    pub asks_last : (table : List Summary) (s : S) (q : Query) → R.IsState table s →
        R.last s ≡ an_ask q → HasAsked s q
    pub tell_asked : (table : List Summary) (s : S) (q : Query) (c : ℕ) → R.IsState table s →
        R.last s ≡ an_ask q → R.IsState table (told_child R s c)
    -- a state that is closed as a not-may has its query given from the level on which it leans
    pub gives : (table : List Summary) (s : S) → R.IsState table s → AllOf (HoldsBy R) table →
        R.IsClosed s closing.NotMay → GivenFrom R.nm (levels_of s) (R.query s) (R.lowest s)
