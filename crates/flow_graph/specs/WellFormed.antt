-- What graphs keep.
use Rattle.std.specs.Prelude.{◌≡◌, ◌≢◌, ℕ, ◌<◌, ◌≤◌, nat_lt, nat_le, ◌==◌, Bool, true, false, not, ◌&&◌, IsTrue, List, [], ◌∷◌, length, Some, Option, slice_get}
use Rattle.std.specs.List.{list_all, list_any}
use Rattle.linear_formula.specs.declared.formula.Atom.{Atom}
use Rattle.linear_formula.specs.Formula.{are_terms}
use Rattle.flow_graph.specs.declared.columns.TheConstants.{MAX_SLOTS}
use Rattle.flow_graph.specs.declared.graph.Lin.{Lin}
use Rattle.flow_graph.specs.declared.graph.Edge.{Edge}
use Rattle.flow_graph.specs.declared.graph.Edge.TheVariants.{Entry, Assign, Guard, Input, Pick, Call, Assert, Return}
use Rattle.flow_graph.specs.Shapes.{source, target, is_entry, is_assert, is_return, leads}

abbrev pub max_slots : ℕ
max_slots = MAX_SLOTS

-- the row names slots alone
abbrev pub names_slots : (slots : ℕ) → Atom → Bool
names_slots slots row = list_all (λ p. nat_lt p.0 slots) row.term.parts

-- at most two parts, over slots
abbrev pub is_lin : (slots : ℕ) → Lin → Bool
is_lin slots value = nat_le (length value.parts) 2 && list_all (λ p. nat_lt p.1 slots) value.parts

-- the slots that an edge names exist
abbrev pub has_slots : (slots : ℕ) → Edge → Bool
has_slots slots (Entry to params) = nat_le params slots
has_slots slots (Assign from to slot value) = nat_lt slot slots && is_lin slots value
has_slots slots (Guard from to rows) = list_all (names_slots slots) rows.atoms
has_slots slots (Input from to slot) = nat_lt slot slots
has_slots slots (Pick from to slot rows) = nat_lt slot slots && list_all (names_slots slots)
    rows.atoms
has_slots slots (Call from to proc args results) =
    list_all (λ x. nat_lt x slots) results && list_all (λ x. nat_lt x slots) args
has_slots slots (Assert from to id rows) = list_all (names_slots slots) rows.atoms
has_slots slots (Return from to returned) = list_all (λ x. nat_lt x slots) returned

-- no slot stands there twice
abbrev pub are_distinct : List ℕ → Bool
are_distinct [] = true
are_distinct (x ∷ xs) = not (list_any (λ y. y == x) xs) && are_distinct xs

-- the results of a call are distinct, and a return has a slot for each exit value
abbrev pub has_lists : (exits : ℕ) → Edge → Bool
has_lists exits (Call from to proc args results) = are_distinct results
has_lists exits (Return from to slots) = length slots == exits
has_lists exits _ = true

-- the rows of an edge are terms
abbrev pub has_terms : Edge → Bool
has_terms (Guard from to rows) = are_terms rows.atoms
has_terms (Pick from to slot rows) = are_terms rows.atoms
has_terms (Assert from to id rows) = are_terms rows.atoms
has_terms _ = true

-- nothing leaves the exit and `fail`; a return leads to the exit and nothing else does, and of
-- edges an assertion to `fail`
pub record IsEdge (nodes exit fail exits slots : ℕ) (e : Edge) : Type 0 where
  pub leaves : (n : ℕ) → source e ≡ Some n → (n < nodes) × (n ≢ exit) × (n ≢ fail)
  pub in_range : target e < nodes
  pub slots_named : IsTrue (has_slots slots e)
  pub lists : IsTrue (has_lists exits e)
  pub terms : IsTrue (has_terms e)
  pub to_exit : is_return e ≡ (target e == exit)
  pub to_fail : is_assert e ≡ (target e == fail)

-- the entry with `params` parameters
abbrev pub is_entry_of : (params : ℕ) → Option Edge → Bool
is_entry_of params (Some (Entry to n)) = n == params
is_entry_of params _ = false

-- the node after the entry
abbrev pub first_node : List Edge → ℕ
first_node [] = 0
first_node (e ∷ es) = target e

-- a graph begins over edge 0, the one entry, which alone leads to the node after it
pub record IsGraph (nodes exit fail params exits slots : ℕ) (edges : List Edge) : Type 0 where
  pub exit_named : exit < nodes
  pub fail_named : fail < nodes
  pub two_ends : exit ≢ fail
  pub params_in_slots : params ≤ slots
  pub few_exits : exits ≤ max_slots
  pub few_slots : slots ≤ max_slots
  pub are_edges : (i : ℕ) (e : Edge) → slice_get edges i ≡ Some e →
      IsEdge nodes exit fail exits slots e
  pub begins : IsTrue (is_entry_of params (slice_get edges 0))
  pub one_entry : (i : ℕ) (e : Edge) → 0 < i → slice_get edges i ≡ Some e → is_entry e ≡ false
  pub alone : (i : ℕ) (e : Edge) → 0 < i → slice_get edges i ≡ Some e →
      leads fail e (first_node edges) ≡ false
