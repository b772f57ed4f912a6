-- What a sweep's entries say of the program.
use Rattle.std.proofs.Common.{◌≡◌, ℕ, false, List, [], ◌∷◌, length, Option, Some, None, ℤ, refl, sym, ap, subst, ◌∙◌}
use Rattle.std.specs.Prelude.{slice_get, Vec, if◌then◌else◌}
use Rattle.std.specs.List.{list_any}
use Rattle.std.specs.Option.{option_map}
use Rattle.std.specs.declared.alloc.Global.{Global}
use Rattle.std.proofs.lemmas.Option.{none-some, same_Some, slice_get-map}
use Rattle.c_tree.specs.Meaning.{Reaches}
use Rattle.c_tree.specs.Syntax.{PureProgram}
use Rattle.c_tree.specs.WellFormed.{IsWellFormed}
use Rattle.flow_graph.specs.Columns.{AreAllValues}
use Rattle.flow_graph.specs.ProgramGraphs.{SameRuns}
use Rattle.flow_graph.specs.declared.graph.Graph.{Graph}
use Rattle.path_sweep.specs.Ends.{ComesWhole, EndsSo, IsEnd, IsEntry, inputs_in, HasRightLimit}
use Rattle.path_sweep.specs.declared.swept.SweepEnd.TheVariants as how
use Rattle.path_sweep.specs.declared.swept.Swept.{Swept}
use Rattle.path_sweep.proofs.Ending.{found_reaches, whole_decides}
use Rattle.report_text.specs.Sweeps.{entry_of, is_found_entry, is_unknown_entry}
use Rattle.report_text.specs.declared.sweeps.Unfound.TheVariants as unfound
use Rattle.smash_run.specs.Analysis.{Witness}
use Rattle.smash_run.specs.Swept.{IsSwept, entries_of, sweep_status}
use Rattle.smash_run.specs.steps.Handing.{TellsSwept}
use Rattle.smash_run.specs.steps.Judging.{AreGraphsFor}
use Rattle.smash_run.proofs.Graphs.{same_arities}
use Rattle.smash_run.proofs.Judging.{fails_in_graphs, reaches_in_program}

abbrev Entry : Type 0
Entry = Option (Vec ℤ Global)

same_inputs : (x : Entry) → inputs_in x ≡ entry_of x
same_inputs None = refl
same_inputs (Some list) = refl

-- the stored entry at a place
entry_at : (xs : List Entry) (id : ℕ) (o : Option (List ℤ)) → option_map entry_of (slice_get xs id) ≡ Some o →
    (x : Entry) × (slice_get xs id ≡ Some x) × (inputs_in x ≡ o)
entry_at xs id o e = by_place (slice_get xs id) refl e where
  by_place : (p : Option Entry) → slice_get xs id ≡ p → option_map entry_of p ≡ Some o →
      (x : Entry) × (slice_get xs id ≡ Some x) × (inputs_in x ≡ o)
  by_place None at h = absurd (none-some o h)
  by_place (Some x) at h = (x, at, same_inputs x ∙ same_Some (entry_of x) o h)

-- Statuses

none_unknown : (os : List (Option (List ℤ))) → list_any (is_unknown_entry unfound.Proved) os ≡ false
none_unknown [] = refl
none_unknown (None ∷ os) = none_unknown os
none_unknown (Some list ∷ os) = none_unknown os

-- where all is proved that isn't found, and nothing is found
pub status_of_proved : (os : List (Option (List ℤ))) → list_any is_found_entry os ≡ false → sweep_status unfound.Proved os ≡ 0
status_of_proved os none =
    ap (λ b. if b then 1 else (if list_any (is_unknown_entry unfound.Proved) os then 2 else 0)) none
    ∙ ap (λ b. if b then 2 else 0) (none_unknown os)

module _ (P : PureProgram) (fine : IsWellFormed P) (opening : AreAllValues P.globals) (gs : List Graph) (runs : SameRuns P gs) (edges : ℕ)
    (swept : Swept) (e : EndsSo gs P.main (length P.asserts) edges swept) where
  entry_is : (id : ℕ) (o : Option (List ℤ)) → slice_get (entries_of swept) id ≡ Some o → IsEntry gs P.main e.counted id o
  entry_is id o h =
      let x = entry_at swept.found.items id o (sym (slice_get-map entry_of swept.found.items id) ∙ h) in
      subst (IsEntry gs P.main e.counted id) x.2 (e.entries id x.0 x.1)

  pub swept_decided : swept.end ≡ how.Whole → (id : ℕ) → slice_get (entries_of swept) id ≡ Some None → (ins : List ℤ) →
      ¬ Reaches P id ins
  swept_decided whole id none ins r =
      let f = fails_in_graphs P fine opening gs runs id ins r in
      whole_decides gs P.main edges e.counted id (subst (IsEnd gs P.main edges e.counted) whole e.ends) (entry_is id None none) ins f.0 f.1

  pub swept_reached : (id : ℕ) (ins : List ℤ) → slice_get (entries_of swept) id ≡ Some (Some ins) → Reaches P id ins
  swept_reached id ins some =
      let f = found_reaches gs P.main e.counted id ins (entry_is id (Some ins) some) in
      reaches_in_program P fine opening gs runs id ins f.0 f.1

pub swept_is : (P : PureProgram) → IsWellFormed P → AreAllValues P.globals → (gs : List Graph) → AreGraphsFor P gs → (edges : ℕ)
    (swept : Swept) → EndsSo gs P.main (length P.asserts) edges swept → ComesWhole gs P.main edges swept.end → HasRightLimit swept.end →
    (status : ℕ) (text : List ℕ) (w : Witness) →
    TellsSwept P edges swept status text w → IsSwept P edges status text w
swept_is P fine opening gs are edges swept e whole right status text w t = record {
  graphs = gs;
  runs = are.runs;
  arities = same_arities P gs are.bounds;
  bounds = are.bounds;
  built = are.built;
  swept = swept;
  ends = e;
  whole = whole;
  right = right;
  decided = swept_decided P fine opening gs are.runs edges swept e;
  reached = swept_reached P fine opening gs are.runs edges swept e;
  ended = t.ended;
  told = t.told;
  nothing = t.nothing;
}
