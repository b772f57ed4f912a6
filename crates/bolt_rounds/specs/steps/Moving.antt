-- How the end of a slice is given back.
use Rattle.std.specs.Prelude.{◌≡◌, suc, ◌-◌, ◌^◌, ◌<◌, List, length, Some, slice_get}
use Rattle.std.specs.Option.{option_map}
use Rattle.flow_graph.specs.declared.graph.Graph.{Graph}
use Rattle.query_tree.specs.declared.Rest.TheVariants as rest
use Rattle.summary_form.specs.declared.query.Query.{Query}
use Rattle.summary_form.specs.declared.summary.Summary.{Summary}
use Rattle.summary_form.specs.Instances.{arity_in}
use Rattle.summary_form.specs.NotMays.{Fits}
use Rattle.query_rules.specs.Seen.{Seen}
use Rattle.query_rules.specs.declared.step.Asked.{Asked}
use Rattle.query_rules.specs.declared.step.Closing.{Closing}
use Rattle.punch_step.specs.declared.slice.SliceEnd.{SliceEnd}
use Rattle.punch_step.specs.declared.slice.SliceEnd.TheVariants as ends
use Rattle.bolt_core.specs.Boards.{HandsIn}
use Rattle.bolt_core.specs.Machine.{IsFresh}
use Rattle.bolt_core.specs.States.{reads}
use Rattle.bolt_rounds.specs.declared.moves.Move.{Move}
use Rattle.bolt_rounds.specs.declared.moves.Move.TheVariants as move

-- the query of the last asked entry is of a graph and fits it, and may stand below the state's
pub record HasAskedLast (gs : List Graph) (s : Seen) : Type 0 where
  pub entry : Asked
  pub there : slice_get s.asked (length s.asked - 1) ≡ Some entry
  pub callee : Graph
  pub at : slice_get gs entry.query.proc ≡ Some callee
  pub fits : Fits entry.query.proc (arity_in gs entry.query.proc) entry.query
  pub level : s.level ≡ length s.ancestors
  pub few : suc s.level < 2 ^ 32

abbrev pub MayEnd : List Graph → Seen → SliceEnd → Type 0
MayEnd gs s ends.Asked = HasAskedLast gs s
MayEnd gs s _ = Unit {0}

-- the child begins with the query of the last asked entry
pub record BeginsAsked (gs : List Graph) (s child : Seen) (q : Query) : Type 0 where
  pub entry : Asked
  pub there : slice_get s.asked (length s.asked - 1) ≡ Some entry
  pub query : q ≡ entry.query
  pub fresh : (table : List Summary) → IsFresh (reads gs) table s child q

abbrev pub IsAskOf : List Graph → Seen → Move → Type 0
IsAskOf gs s (move.Ask child query) = BeginsAsked gs s child query.value
IsAskOf gs s _ = ⊥

abbrev pub IsCloseOf : Query → Closing → Move → Type 0
IsCloseOf q c (move.Close how summary) =
    (how ≡ c) × HandsIn q c (option_map (λ a. a.value) summary)
IsCloseOf q c _ = ⊥

-- how a job is given back whose slice ended so
abbrev pub IsMoveOf : List Graph → Seen → SliceEnd → Move → Type 0
IsMoveOf gs s ends.Goes m = m ≡ move.Park rest.Ready
IsMoveOf gs s ends.Asked m = IsAskOf gs s m
IsMoveOf gs s (ends.Fed i) m = m ≡ move.Feed i
IsMoveOf gs s (ends.Closed c) m = IsCloseOf s.query c m
IsMoveOf gs s ends.Waits m = m ≡ move.Park rest.Blocked
IsMoveOf gs s ends.Spent m = m ≡ move.Park rest.Starved
