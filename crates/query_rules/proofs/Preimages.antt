-- The rows of a preimage are terms that name slots and entry values.
use Rattle.std.proofs.Common.{◌≡◌, ⊎_elim, ℕ, ◌+◌, ◌<◌, ◌≤◌, ◌^◌, List, [], ◌∷◌, length, get_or, None, Some, Bool, true, false, ◌&&◌, nat_lt, nat_le, pos, negsuc, arith, refl}
use Rattle.std.specs.Prelude.{IsTrue}
use Rattle.std.specs.List.{list_all}
use borrow.Author.Tests.{ne_eqb, lt-ltb, ltb-true}
use Rattle.linear_formula.specs.LinearSum.{LinearSum, is_term}
use Rattle.linear_formula.specs.Results.{negated}
use Rattle.linear_formula.specs.Formula.{are_terms}
use Rattle.linear_formula.specs.declared.formula.Atom.{Atom}
use Rattle.linear_formula.proofs.Limits.{both, both_in}
use Rattle.shadow_elim.specs.Projection.{gives}
use Rattle.shadow_elim.specs.ProjectionLaws.{Pair}
use Rattle.shadow_elim.specs.Sums.{first_wide}
use Rattle.shadow_elim.specs.declared.sum.Sum.{Sum}
use Rattle.shadow_elim.proofs.Projecting.{or-cases}
use Rattle.infeasible_cert.specs.declared.certificate.Certificate.{Certificate}
use Rattle.flow_graph.specs.declared.graph.Graph.{Graph}
use Rattle.flow_graph.specs.declared.graph.Edge.{Edge}
use Rattle.flow_graph.specs.Columns.{first_entry, is_slot_column, is_entry_column, names_only, rows_name_only}
use Rattle.flow_graph.specs.Shapes.{source, is_call}
use Rattle.flow_graph.specs.WellFormed.{IsGraph, has_slots, has_terms, max_slots}
use Rattle.flow_graph.proofs.Slots.{list_more}
use Rattle.weakest_pre.specs.Preimage.{preimage}
use Rattle.shadow_elim.specs.Questions.{is_negatable}
use Rattle.may_partition.specs.Fitting.{node_column, is_fit, is_fit_both}
use Rattle.may_partition.specs.Parted.{negation}
use Rattle.may_partition.proofs.Splitting.{or_left, or_right}
use Rattle.call_bridge.specs.Calls.{inner_column}
use Rattle.call_bridge.specs.Laws.{IsRegion}
use Rattle.call_bridge.specs.Musts.{is_number}
use Rattle.query_rules.specs.Rows.{AreOwnRows, Follow, IsSome, is_own_column}
use Rattle.call_bridge.proofs.Naming.{sums_name_only, rows_named, sums_are_terms, parts_wider, sums_wider}
use Rattle.query_rules.proofs.NamedPreimages.{NamesColumns, named_behind, preimage_named, slot_within, some_named}

-- Slots and entry values

pub inner_number : (x : ℕ) → IsTrue (inner_column x) → IsTrue (is_number x)
inner_number x h = ⊎_elim slot entry (or-cases (is_slot_column x) (is_entry_column first_entry x) h) where
  slot : IsTrue (is_slot_column x) → IsTrue (is_number x)
  slot k = let l = ltb-true x first_entry k in lt-ltb x (2 ^ 32) (omega (arith, l))

  entry : IsTrue (is_entry_column first_entry x) → IsTrue (is_number x)
  entry k =
      let l = ltb-true x (first_entry + first_entry) (both (nat_le first_entry x) (nat_lt x (first_entry + first_entry)) k).1 in
      lt-ltb x (2 ^ 32) (omega (arith, l))

slot_inner : (x : ℕ) → IsTrue (nat_lt x max_slots) → IsTrue (inner_column x)
slot_inner x h = or_left (is_slot_column x) (is_entry_column first_entry x) h

entry_inner : (x : ℕ) → IsTrue (is_entry_column first_entry x) → IsTrue (inner_column x)
entry_inner x h = or_right (is_slot_column x) (is_entry_column first_entry x) h

-- the slots of a return are slots
pub slot_of : (slots : List ℕ) (i : ℕ) → IsTrue (list_all (λ x. nat_lt x max_slots) slots) → i < length slots →
    IsTrue (nat_lt (get_or slots i 0) max_slots)
slot_of slots i h l = slot_within max_slots slots i h l

-- The preimage

-- the columns of a region after the edge: at the exit the exit values
abbrev pub behind_column : Edge → ℕ → Bool
behind_column edge x = named_behind inner_column first_entry edge x

pub preimage_region : (edge : Edge) (n : ℕ) (target rows : List Atom) (pair : Pair) → source edge ≡ Some n → is_call edge ≡ false →
    IsTrue (has_slots max_slots edge) → IsTrue (has_terms edge) → IsTrue (are_terms target) →
    IsTrue (rows_name_only (behind_column edge) target) →
    preimage edge target ≡ gives rows pair → IsRegion rows
preimage_region edge n target rows pair src c s t terms names e =
    let few : max_slots ≤ max_slots = omega arith in
    let r : NamesColumns inner_column rows = preimage_named inner_column max_slots first_entry few inner_number slot_inner entry_inner edge
    n
    target rows pair src c s t terms names e in
    record { names = r.names; terms = r.terms }

-- Atoms by which a region is split

pub some_region : (atoms all : List Atom) → IsSome atoms all → IsRegion all → IsRegion atoms
some_region atoms all s r =
    let k : NamesColumns inner_column atoms = some_named inner_column atoms all s (record { names = r.names; terms = r.terms }) in
    record { names = k.names; terms = k.terms }

-- a graph's own rows
own_inner : (g : Graph) → IsGraph g.nodes g.exit g.fail g.params g.exits g.slots g.edges → (x : ℕ) → IsTrue (is_own_column g x) →
    IsTrue (inner_column x)
own_inner g ok x h = ⊎_elim slot entry (or-cases (nat_lt x g.slots) (is_entry_column g.params x) h) where
  slot : IsTrue (nat_lt x g.slots) → IsTrue (inner_column x)
  slot k = let l = ltb-true x g.slots k in
      slot_inner x (lt-ltb x max_slots (omega (arith, l, ok.few_slots)))

  entry : IsTrue (is_entry_column g.params x) → IsTrue (inner_column x)
  entry k =
      let b = both (nat_le first_entry x) (nat_lt x (first_entry + g.params)) k in
      let l = ltb-true x (first_entry + g.params) b.1 in
      entry_inner x (both_in (nat_le first_entry x) (nat_lt x (first_entry + first_entry)) b.0
      (lt-ltb x (first_entry + first_entry) (omega (arith, l, ok.params_in_slots, ok.few_slots))))

pub own_region : (g : Graph) → IsGraph g.nodes g.exit g.fail g.params g.exits g.slots g.edges → (atoms : List Atom) → AreOwnRows g atoms →
    IsRegion atoms
own_region g ok atoms o = record {
  names = list_more (λ (row : Atom). names_only (is_own_column g) row.term) (λ (row : Atom). names_only inner_column row.term) atoms
      (λ a n. parts_wider (is_own_column g) inner_column (own_inner g ok) a.term.parts n) o.names;
  terms = o.terms;
}

-- what follows from a preimage is a region's
pub follow_region : (g : Graph) → IsGraph g.nodes g.exit g.fail g.params g.exits g.slots g.edges →
    (source pre atoms : List Atom) (follows : List Certificate) → Follow g source pre atoms follows → IsRegion pre → IsRegion atoms
follow_region g ok source pre atoms [] f r = some_region atoms pre f r
follow_region g ok source pre atoms (c ∷ cs) f r = ⊎_elim (λ s. some_region atoms pre s r) (λ o. own_region g ok atoms o) f.0

-- a region's row whose negation is within the limits
one_fits : (exit node : ℕ) → (node ≡ exit → ⊥) → (a : Atom) → IsTrue (is_term a.term) → IsTrue (names_only inner_column a.term) →
    IsTrue (is_negatable a) → IsTrue (is_fit_both (node_column exit node) a)
one_fits exit node apart a t n w = both_in (is_fit (node_column exit node) a) (is_fit (node_column exit node) (negation a))
    (both_in (is_term a.term) (names_only (node_column exit node) a.term) t (wider a.term n))
    (both_in (is_term (negated a.term)) (names_only (node_column exit node) (negated a.term)) terms (wider (negated a.term) names))
  where
    wider : (u : LinearSum) → IsTrue (names_only inner_column u) → IsTrue (names_only (node_column exit node) u)
    wider u h = parts_wider inner_column (node_column exit node) (λ x k. rw (ne_eqb node exit apart) k) u.parts h

    opposite : Sum
    opposite = record { summands = (negsuc 0, a.term) ∷ []; constant = pos 1 }

    named : IsTrue (sums_name_only inner_column (opposite ∷ []))
    named = both_in (names_only inner_column a.term && true) true (both_in (names_only inner_column a.term) true n refl) refl

    decided : first_wide (opposite ∷ []) ≡ None
    decided = rw w refl

    names : IsTrue (names_only inner_column (negated a.term))
    names = (both (names_only inner_column (negated a.term)) true (rows_named inner_column (opposite ∷ []) named)).0

    terms : IsTrue (is_term (negated a.term))
    terms = (both (is_term (negated a.term)) true
        (sums_are_terms (opposite ∷ []) (sums_wider inner_column is_number inner_number (opposite ∷ []) named) decided)).0

pub both_fit : (exit node : ℕ) → (node ≡ exit → ⊥) → (atoms : List Atom) → IsRegion atoms → IsTrue (list_all is_negatable atoms) →
    IsTrue (list_all (is_fit_both (node_column exit node)) atoms)
both_fit exit node apart [] r w = refl
both_fit exit node apart (a ∷ atoms) r w =
    let names = both (names_only inner_column a.term) (rows_name_only inner_column atoms) r.names in
    let terms = both (is_term a.term) (are_terms atoms) r.terms in
    let ws = both (is_negatable a) (list_all is_negatable atoms) w in
    both_in (is_fit_both (node_column exit node) a) (list_all (is_fit_both (node_column exit node)) atoms)
    (one_fits exit node apart a terms.0 names.0 ws.0)
    (both_fit exit node apart atoms (record { names = names.1; terms = terms.1 }) ws.1)
