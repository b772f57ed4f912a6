-- What certificates of a claim show, and the atoms by which it splits.
use Rattle.std.proofs.Common.{◌≡◌, ⊎_elim, ℕ, List, [], ◌∷◌, ◌++◌, Bool, true, false, not, cond, ◌||◌, nat_lt, arith, refl, sym, subst}
use Rattle.std.specs.Prelude.{IsTrue}
use Rattle.std.specs.List.{list_all}
use borrow.Author.Tests.{ltb-true, lt-ltb}
use Rattle.linear_formula.specs.LinearSum.{Valuation, Is64, is_term}
use Rattle.linear_formula.specs.Equality.{same_atom}
use Rattle.linear_formula.specs.Formula.{Holds, HoldsAll, are_terms}
use Rattle.linear_formula.specs.steps.SameValues.{atom-same}
use Rattle.linear_formula.specs.declared.formula.Atom.{Atom}
use Rattle.linear_formula.proofs.Limits.{both, both_in}
use Rattle.infeasible_cert.specs.Refutation.{Refutation}
use Rattle.infeasible_cert.proofs.Sound.{right-sound}
use Rattle.shadow_elim.proofs.Projecting.{or-cases}
use Rattle.flow_graph.specs.declared.graph.Graph.{Graph}
use Rattle.flow_graph.specs.WellFormed.{IsGraph}
use Rattle.flow_graph.specs.Columns.{first_entry, is_slot_column, is_entry_column, names_only, rows_name_only}
use Rattle.may_partition.specs.Parted.{negation}
use Rattle.may_partition.proofs.Pieces.{holds_append, holds_or}
use Rattle.may_partition.proofs.Splitting.{or_left, or_right}
use Rattle.call_bridge.specs.Calls.{inner_column}
use Rattle.call_bridge.specs.Laws.{IsRegion}
use Rattle.query_rules.proofs.Fitted.{among_more, names_more}
use Rattle.query_rules.specs.Rows.{is_own_column}
use Rattle.bundle_check.specs.RightClaims.{IsRefutedBy, AreShown, is_among, missing}

pub refuted_never : (atoms : List Atom) (c : Refutation) → IsRefutedBy atoms c → (v : Valuation) → Is64 v → HoldsAll v atoms → ⊥
refuted_never atoms c r v v64 h = right-sound atoms c v r.atoms_terms r.terms r.right v64 h

shown_holds : (rows atoms : List Atom) (cs : List Refutation) → AreShown rows atoms cs → (v : Valuation) → Is64 v → HoldsAll v rows →
    HoldsAll v atoms
shown_holds rows [] cs e v v64 h = tt
shown_holds rows (a ∷ atoms) [] e v v64 h = absurd e
shown_holds rows (a ∷ atoms) (c ∷ cs) e v v64 h =
    let never : Holds v (negation a) → ⊥ = λ n. refuted_never (rows ++ negation a ∷ []) c e.0 v v64
    (holds_append v rows (negation a ∷ []) h (n, tt)) in
    (⊎_elim (λ y. y) (λ n. absurd (never n)) (holds_or v a), shown_holds rows atoms cs e.1 v v64 h)

-- what is among atoms
module _ (P : Atom → Type 0) where
  abbrev Each : List Atom → Type 0
  Each [] = Unit {0}
  Each (a ∷ atoms) = P a × Each atoms

  among_each : (rows : List Atom) (a : Atom) → Each rows → IsTrue (is_among rows a) → P a
  among_each [] a e h = absurd cc
  among_each (b ∷ rows) a e h = by_test (same_atom a b) refl h (λ l. among_each rows a e.1 l) where
    by_test : (t : Bool) → same_atom a b ≡ t → IsTrue (t || is_among rows a) → (IsTrue (is_among rows a) → P a) → P a
    by_test true k l rest = subst P (sym ((atom-same a b).0 k)) e.0
    by_test false k l rest = rest l

holds_each : (v : Valuation) (rows : List Atom) → HoldsAll v rows → Each (Holds v) rows
holds_each v [] h = tt
holds_each v (a ∷ rows) h = (h.0, holds_each v rows h.1)

pub among_holds : (v : Valuation) (rows : List Atom) (a : Atom) → HoldsAll v rows → IsTrue (is_among rows a) → Holds v a
among_holds v rows a h t = among_each (Holds v) rows a (holds_each v rows h) t

-- some of the atoms hold where all do
pub all_among_hold : (v : Valuation) (rows atoms : List Atom) → IsTrue (list_all (is_among rows) atoms) → HoldsAll v rows → HoldsAll v atoms
all_among_hold v rows [] t h = tt
all_among_hold v rows (a ∷ atoms) t h =
    let u = both (is_among rows a) (list_all (is_among rows) atoms) t in
    (among_holds v rows a h u.0, all_among_hold v rows atoms u.1 h)

-- what isn't missing holds
missing_hold : (v : Valuation) (rows atoms : List Atom) → HoldsAll v rows → HoldsAll v (missing rows atoms) → HoldsAll v atoms
missing_hold v rows [] h m = tt
missing_hold v rows (a ∷ atoms) h m = by_test (is_among rows a) refl m (λ l. missing_hold v rows atoms h l) where
  by_test : (t : Bool) → is_among rows a ≡ t → HoldsAll v (cond (not t) (a ∷ missing rows atoms) (missing rows atoms)) →
      (HoldsAll v (missing rows atoms) → HoldsAll v atoms) → HoldsAll v (a ∷ atoms)
  by_test true k l rest = (among_holds v rows a h k, rest l)
  by_test false k l rest = (l.0, rest l.1)

pub entailed : (rows atoms : List Atom) (cs : List Refutation) → AreShown rows (missing rows atoms) cs → (v : Valuation) → Is64 v →
    HoldsAll v rows → HoldsAll v atoms
entailed rows atoms cs e v v64 h = missing_hold v rows atoms h (shown_holds rows (missing rows atoms) cs e v v64 h)

-- Regions

-- some rows of a region are those of one
pub region_among : (rows atoms : List Atom) → IsRegion rows → IsTrue (list_all (is_among rows) atoms) → IsRegion atoms
region_among rows [] r t = record { names = refl; terms = refl }
region_among rows (a ∷ atoms) r t =
    let u = both (is_among rows a) (list_all (is_among rows) atoms) t in
    let rest = region_among rows atoms r u.1 in
    let own = among_each (λ b. IsTrue (is_term b.term) × IsTrue (names_only inner_column b.term)) rows a (each rows r.terms r.names) u.0 in
    record {
      names = both_in (names_only inner_column a.term) (rows_name_only inner_column atoms) own.1 rest.names;
      terms = both_in (is_term a.term) (are_terms atoms) own.0 rest.terms;
    }
  where
    each : (rows : List Atom) → IsTrue (are_terms rows) → IsTrue (rows_name_only inner_column rows) →
        Each (λ b. IsTrue (is_term b.term) × IsTrue (names_only inner_column b.term)) rows
    each [] t n = tt
    each (b ∷ rows) t n =
        let ts = both (is_term b.term) (are_terms rows) t in
        let ns = both (names_only inner_column b.term) (rows_name_only inner_column rows) n in
        ((ts.0, ns.0), each rows ts.1 ns.1)

module _ (g : Graph) (ok : IsGraph g.nodes g.exit g.fail g.params g.exits g.slots g.edges) where
  own_slot : (x : ℕ) → IsTrue (nat_lt x g.slots) → IsTrue (is_slot_column x)
  own_slot x h = let l = ltb-true x g.slots h in lt-ltb x first_entry (omega (arith, l, ok.few_slots))

  -- slots and entry values of the graph are slots and entry values
  pub own_inner : (x : ℕ) → IsTrue (is_own_column g x) → IsTrue (inner_column x)
  own_inner x h = ⊎_elim
      (λ k. or_left (is_slot_column x) (is_entry_column first_entry x) (own_slot x k))
      (λ k. or_right (is_slot_column x) (is_entry_column first_entry x)
      (among_more first_entry g.params first_entry x (omega (arith, ok.params_in_slots, ok.few_slots)) k))
      (or-cases (nat_lt x g.slots) (is_entry_column g.params x) h)

  -- atoms that name them are those of a region
  pub own_region : (atoms : List Atom) → IsTrue (rows_name_only (is_own_column g) atoms) → IsTrue (are_terms atoms) → IsRegion atoms
  own_region atoms n t = record { names = names_more (is_own_column g) inner_column atoms own_inner n; terms = t }
