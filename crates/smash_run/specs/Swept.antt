-- What `sweep` answers.
use Rattle.std.specs.Prelude.{◌≡◌, ℕ, List, length, map, None, Option, Some, slice_get, ℤ, if◌then◌else◌}
use Rattle.std.specs.List.{list_any}
use Rattle.c_tree.specs.Meaning.{Reaches}
use Rattle.c_tree.specs.Syntax.{PureProgram}
use Rattle.flow_build.specs.Lowered.{AreLowered}
use Rattle.flow_build.specs.Promises.{AreBounded}
use Rattle.flow_graph.specs.ProgramGraphs.{SameRuns}
use Rattle.flow_graph.specs.declared.graph.Graph.{Graph}
use Rattle.summary_form.specs.ProgramGraphs.{SameArities}
use Rattle.shadow_elim.specs.LimitKinds.{kind_of}
use Rattle.path_sweep.specs.Ends.{ComesWhole, EndsSo, HasRightLimit}
use Rattle.path_sweep.specs.declared.swept.SweepEnd.{SweepEnd}
use Rattle.path_sweep.specs.declared.swept.SweepEnd.TheVariants as how
use Rattle.path_sweep.specs.declared.swept.Swept.{Swept}
use Rattle.report_text.specs.Sweeps.{entry_of, is_found_entry, is_unknown_entry, sweep_text}
use Rattle.report_text.specs.declared.sweeps.Unfound.{Unfound}
use Rattle.report_text.specs.declared.sweeps.Unfound.TheVariants as unfound
use Rattle.smash_run.specs.Analysis.{Witness, no_witness}

-- what is written of the assertions that weren't found, after a sweep of at most `edges` edges
abbrev pub unfound_at : (edges : ℕ) → SweepEnd → Unfound
unfound_at edges how.Whole = unfound.Proved
unfound_at edges how.More = unfound.Spent edges
unfound_at edges (how.Limit kept) = unfound.Limit (kind_of kept.limit)

abbrev pub entries_of : Swept → List (Option (List ℤ))
entries_of swept = map entry_of swept.found.items

-- 1 where an assertion is found, else 2 where one is unknown, and else 0
abbrev pub sweep_status : Unfound → List (Option (List ℤ)) → ℕ
sweep_status others os =
    if list_any is_found_entry os then 1 else
    (if list_any (is_unknown_entry others) os then 2 else 0)

-- The sweep of the graphs that the program is lowered to. Where all paths were
-- counted, no inputs reach an assertion that wasn't found; the inputs of one that was found reach
-- it.
pub record IsSwept (P : PureProgram) (edges status : ℕ) (text : List ℕ) (w : Witness) : Type 0 where
  pub graphs : List Graph
  pub runs : SameRuns P graphs
  pub arities : SameArities P graphs
  pub bounds : AreBounded P graphs
  pub built : AreLowered P graphs
  pub swept : Swept
  pub ends : EndsSo graphs P.main (length P.asserts) edges swept
  pub whole : ComesWhole graphs P.main edges swept.end
  pub right : HasRightLimit swept.end
  pub decided : swept.end ≡ how.Whole → (id : ℕ) → slice_get (entries_of swept) id ≡ Some None →
      (ins : List ℤ) → ¬ Reaches P id ins
  pub reached : (id : ℕ) (ins : List ℤ) → slice_get (entries_of swept) id ≡ Some (Some ins) →
      Reaches P id ins
  pub ended : status ≡ sweep_status (unfound_at edges swept.end) (entries_of swept)
  pub told : text ≡ sweep_text (unfound_at edges swept.end) P.asserts (entries_of swept)
  pub nothing : w ≡ no_witness
