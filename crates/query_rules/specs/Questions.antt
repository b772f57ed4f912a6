-- The questions of an edge, and edges of which no question leads on.
use Rattle.std.specs.Prelude.{◌≡◌, ◌⊎◌, ℕ, Option, Contains, List, Some, slice_get, if◌then◌else◌}
use Rattle.linear_formula.specs.LinearSum.{LinearSum}
use Rattle.linear_formula.specs.declared.formula.Atom.{Atom}
use Rattle.linear_formula.specs.declared.question.Question.{Question}
use Rattle.linear_formula.specs.declared.question.Question.TheVariants as asks
use Rattle.shadow_elim.specs.Questions.{is_negatable, with_negation}
use Rattle.shadow_elim.specs.Projection.{cube_of, gives, projected}
use Rattle.shadow_elim.specs.RightLimit.{IsRight}
use Rattle.shadow_elim.specs.Sums.{row_sums, renaming}
use Rattle.shadow_elim.specs.declared.limit.Kept.{Kept}
use Rattle.shadow_elim.specs.declared.sum.Sum.{Sum}
use Rattle.flow_graph.specs.Calls.{CallSite}
use Rattle.flow_graph.specs.declared.graph.Graph.{Graph}
use Rattle.summary_form.specs.declared.query.ExitKind.{ExitKind}
use Rattle.summary_form.specs.declared.query.Query.{Query}
use Rattle.summary_form.specs.declared.path.Path.{Path}
use Rattle.summary_form.specs.declared.summary.Summary.{Summary}
use Rattle.summary_form.specs.declared.summary.Summary.TheVariants.{NotMay}
use Rattle.may_partition.specs.declared.region.RegionEdge.{RegionEdge}
use Rattle.call_bridge.specs.Asked.{call_sums, call_rows, caller_columns, as_entry}
use Rattle.query_rules.specs.Crossings.{IsAskedAcross, call_by, cube_question, negation_question, over_plain, sum_question, trails_on}
use Rattle.query_rules.specs.Steps.{Model}
use Rattle.query_rules.specs.Rows.{PlainEdge, CallAt, AsksAt, MustAt, levels_known, rows_of_query}
use Rattle.query_rules.specs.Decided.{ShowsExtend, ShowsSplit, ShowsKill, ShowsTable, ShowsAncestor, ShowsCallExtend, ShowsCallSplit, ShowsNews, ShowsAsk}

-- whether the left atoms entail the right one
abbrev pub entail_question : List Atom → Atom → Question
entail_question left a =
    if is_negatable a then cube_question (with_negation left a) else negation_question a

-- a not-may of the table, or a query of a level, that may answer
pub record IsNamed (table : List Summary) (levels : List Query) (q s : Query) : Type 0 where
  pub same_procedure : s.proc ≡ q.proc
  pub same_exit : s.exit ≡ q.exit
  pub place : ((n : ℕ) × (slice_get table n ≡ Some (NotMay s)))
      ⊎ ((level : ℕ) × (slice_get levels level ≡ Some s))

-- a call from the source into the target, apart from the musts of the table
module _ (table : List Summary) (levels : List Query) (Asks : Query → Type 0) (exit : ExitKind)
    (site : CallSite) (source target : List Atom) where
  abbrev pub rows_asked : List Atom
  rows_asked = call_rows exit site source target

  pub data IsCallQuestion (question : Question) : Type 0 where
    of_asked_sum : (s : Sum) → Contains (call_sums exit site source target) s →
        question ≡ sum_question s → IsCallQuestion question
    of_asked_elimination :
        question ≡ asks.Eliminate (cube_of rows_asked) (caller_columns rows_asked) →
        IsCallQuestion question
    of_asked_entry : (left : List Atom) (pair : Option (ℕ × (LinearSum × LinearSum))) →
        projected (caller_columns rows_asked) rows_asked ≡ gives left pair → (s : Sum) →
        Contains (row_sums (renaming as_entry) left) s → question ≡ sum_question s →
        IsCallQuestion question
    of_entailment : (q : Query) → Asks q → (s : Query) → IsNamed table levels q s → (a : Atom) →
        Contains (rows_of_query s) a → question ≡ entail_question (rows_of_query q) a →
        IsCallQuestion question

-- a question of the edge
pub data IsQuestion (g : Graph) (table : List Summary) (m : Model) (k : RegionEdge)
    (question : Question) : Type 0 where
  of_plain : (at : PlainEdge g m k) →
      IsAskedAcross m.query (trails_on m k.from) at.between.source.cube.atoms (over_plain at)
      question → IsQuestion g table m k question
  of_call : (call : CallAt g m k) →
      IsCallQuestion table (levels_known m) (AsksAt g m k) call.exit call.site
      call.between.source.cube.atoms call.between.target.cube.atoms question →
      IsQuestion g table m k question
  of_must : (call : CallAt g m k) (place : ℕ) (path : Path) →
      MustAt table call.site.procedure place call.exit path →
      IsAskedAcross m.query (trails_on m k.from) call.between.source.cube.atoms (call_by call path)
      question → IsQuestion g table m k question

-- a limit of the edge's own questions: it is right, and no other step is shown to be legal
pub record IsHopeless (g : Graph) (table : List Summary) (m : Model) (k : RegionEdge)
    (kept : Kept) :
    Type 0 where
  pub right : IsRight kept
  pub of_edge : IsQuestion g table m k kept.question
  pub no_extend : ShowsExtend g m k → ⊥
  pub no_split : ShowsSplit g m k → ⊥
  pub no_kill : ShowsKill g m k → ⊥
  pub no_table : ShowsTable g table m k → ⊥
  pub no_ancestor : ShowsAncestor g table m k → ⊥
  pub no_call_extend : ShowsCallExtend g table m k → ⊥
  pub no_call_split : ShowsCallSplit g table m k → ⊥
  pub no_news : ShowsNews g table m k → ⊥
  pub no_ask : ShowsAsk g table m k → ⊥
