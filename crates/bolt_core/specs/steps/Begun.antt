-- A board while its roots are added.
use Rattle.std.specs.Prelude.{◌≡◌, ℕ, List, [], length, false, None, Some, slice_get}
use Rattle.flow_graph.specs.declared.graph.Graph.{Graph}
use Rattle.query_tree.specs.declared.Entry.{Entry}
use Rattle.query_rules.specs.Seen.{Seen}
use Rattle.summary_form.specs.declared.summary.Summary.{Summary}
use Rattle.bolt_core.specs.declared.slot.Slot.{Slot}
use Rattle.bolt_core.specs.Boards.{AreRootsOf, core_of}
use Rattle.bolt_core.specs.Machine.{first_board, opening}
use Rattle.bolt_core.specs.States.{reads}

-- n roots were added
pub record AreBegun (gs : List Graph) (main budget n : ℕ) (ks : List Summary)
    (es : List (Entry Seen))
    (slots : List Slot) : Type 0 where
  pub roots : List Seen
  pub count : length roots ≡ n
  pub are_roots : AreRootsOf gs main 0 roots
  pub is : core_of ks es slots ks [] false ≡ opening (reads gs) budget roots
      (first_board (reads gs) ks)
  pub entries_are : length es ≡ n
  pub slots_are : length slots ≡ n
  pub open_slots : (i : ℕ) (s : Slot) → slice_get slots i ≡ Some s → (s.closed ≡ None)
      × (s.published ≡ None) × (s.said ≡ false)
