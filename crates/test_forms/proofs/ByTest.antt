-- What a graph keeps is what the tests compute.
use Rattle.std.proofs.Common.{◌≡◌, ◌≢◌, ℕ, zero, suc, ◌<◌, Bool, true, false, not, ◌&&◌, ◌==◌, nat_lt, nat_le, List, [], ◌∷◌, arith, refl, subst}
use Rattle.std.specs.Prelude.{Option, None, Some, slice_get, IsTrue}
use Rattle.std.specs.List.{list_all}
use Rattle.linear_formula.proofs.Limits.{both, not_so as is_false}
use Rattle.std.proofs.lemmas.Bool.{ltb-true, leb-true}
use Rattle.std.proofs.lemmas.Bool.Decides.{Decides-eqb, Decides-not}
use Rattle.flow_graph.specs.Calls.{call_edge}
use Rattle.flow_graph.specs.declared.graph.Edge.{Edge}
use Rattle.flow_graph.specs.declared.graph.Graph.{Graph}
use Rattle.flow_graph.specs.Linked.{AreGraphs}
use Rattle.flow_graph.specs.Shapes.{source, target, is_entry, is_assert, is_return, leads}
use Rattle.flow_graph.specs.WellFormed.{IsEdge, IsGraph, has_lists, has_slots, has_terms, is_entry_of, max_slots}
use Rattle.test_forms.specs.Tested.{are_same, is_node_left, has_ends, is_edge, is_later, is_frame, is_graph, is_linked}

no_way : false ≡ true → ⊥
no_way h = cc

same : (a b : Bool) → IsTrue (are_same a b) → a ≡ b
same true true h = refl
same true false h = absurd (no_way h)
same false true h = absurd (no_way h)
same false false h = refl

apart : (a b : ℕ) → IsTrue (not (a == b)) → a ≢ b
apart a b h = (Decides-not (a == b) (Decides-eqb a b)).0 h

-- each of the list is so, by its place
pub each : {X : Type 0} (p : X → Bool) (xs : List X) → IsTrue (list_all p xs) → (i : ℕ) (x : X) → slice_get xs i ≡ Some x → IsTrue (p x)
each p [] h i x at = absurd (let no : None ≡ Some x = at in cc)
each p (y ∷ ys) h zero x at = let e : y ≡ x = cc in subst (λ z. IsTrue (p z)) e (both (p y) (list_all p ys) h).0
each p (y ∷ ys) h (suc i) x at = each p ys (both (p y) (list_all p ys) h).1 i x at

leaving : (nodes exit fail : ℕ) (o : Option ℕ) → IsTrue (is_node_left nodes exit fail o) → (n : ℕ) → o ≡ Some n →
    (n < nodes) × (n ≢ exit) × (n ≢ fail)
leaving nodes exit fail None h n e = absurd (let no : None ≡ Some n = e in cc)
leaving nodes exit fail (Some m) h n e =
    let q : m ≡ n = cc in
    let t = both (nat_lt m nodes) (not (m == exit) && not (m == fail)) h in
    let u = both (not (m == exit)) (not (m == fail)) t.1 in
    let P : ℕ → Type 0 = λ k. (k < nodes) × (k ≢ exit) × (k ≢ fail) in
    subst P q (ltb-true m nodes t.0, apart m exit u.0, apart m fail u.1)

edge_by_test : (nodes exit fail exits slots : ℕ) (e : Edge) → IsTrue (is_edge nodes exit fail exits slots e) →
    IsEdge nodes exit fail exits slots e
edge_by_test nodes exit fail exits slots e h =
    let t = both (is_node_left nodes exit fail (source e))
    (nat_lt (target e) nodes && (has_slots slots e && (has_terms e && (has_lists exits e && has_ends exit fail e)))) h in
    let u = both (nat_lt (target e) nodes) (has_slots slots e && (has_terms e && (has_lists exits e && has_ends exit fail e))) t.1 in
    let w = both (has_slots slots e) (has_terms e && (has_lists exits e && has_ends exit fail e)) u.1 in
    let x = both (has_terms e) (has_lists exits e && has_ends exit fail e) w.1 in
    let r = both (has_lists exits e) (has_ends exit fail e) x.1 in
    let z = both (are_same (is_return e) (target e == exit)) (are_same (is_assert e) (target e == fail)) r.1 in
    record {
      leaves = leaving nodes exit fail (source e) t.0;
      in_range = ltb-true (target e) nodes u.0;
      slots_named = w.0;
      lists = r.0;
      terms = x.0;
      to_exit = same (is_return e) (target e == exit) z.0;
      to_fail = same (is_assert e) (target e == fail) z.1;
    }

module _ (nodes params exits slots : ℕ) (entry : Edge) (rest : List Edge) where
  abbrev edges : List Edge
  edges = entry ∷ rest

  behind : IsTrue (list_all (is_later 1 (target entry)) rest) → (i : ℕ) (e : Edge) → 0 < i → slice_get edges i ≡ Some e →
      IsTrue (not (is_entry e)) × IsTrue (not (leads 1 e (target entry)))
  behind h zero e low at = absurd (omega (arith, low))
  behind h (suc i) e low at = both (not (is_entry e)) (not (leads 1 e (target entry))) (each (is_later 1 (target entry)) rest h i e at)

  graph_of_entry : IsTrue (is_frame nodes 0 1 params exits slots) → IsTrue (is_entry_of params (Some entry)) →
      IsTrue (list_all (is_edge nodes 0 1 exits slots) edges) → IsTrue (list_all (is_later 1 (target entry)) rest) →
      IsGraph nodes 0 1 params exits slots edges
  graph_of_entry frame begins all later =
      let f1 = both (nat_lt 1 nodes) (nat_le params slots && (nat_le exits max_slots && nat_le slots max_slots)) frame in
      let f2 = both (nat_le params slots) (nat_le exits max_slots && nat_le slots max_slots) f1.1 in
      let f3 = both (nat_le exits max_slots) (nat_le slots max_slots) f2.1 in
      let low = ltb-true 1 nodes f1.0 in
      record {
        exit_named = omega (arith, low);
        fail_named = low;
        two_ends = λ e. omega (arith, e);
        params_in_slots = leb-true params slots f2.0;
        few_exits = leb-true exits max_slots f3.0;
        few_slots = leb-true slots max_slots f3.1;
        are_edges = λ i e at. edge_by_test nodes 0 1 exits slots e (each (is_edge nodes 0 1 exits slots) edges all i e at);
        begins = begins;
        one_entry = λ i e lt at. is_false (is_entry e) (behind later i e lt at).0;
        alone = λ i e lt at. is_false (leads 1 e (target entry)) (behind later i e lt at).1;
      }

pub graph_by_test : (nodes params exits slots : ℕ) (edges : List Edge) → IsTrue (is_graph nodes params exits slots edges) →
    IsGraph nodes 0 1 params exits slots edges
graph_by_test nodes params exits slots [] h = absurd (no_way h)
graph_by_test nodes params exits slots (entry ∷ rest) h =
    let later = list_all (is_later 1 (target entry)) rest in
    let all = list_all (is_edge nodes 0 1 exits slots) (entry ∷ rest) in
    let t = both (is_entry_of params (Some entry)) (is_frame nodes 0 1 params exits slots && (all && later)) h in
    let u = both (is_frame nodes 0 1 params exits slots) (all && later) t.1 in
    let w = both all later u.1 in
    graph_of_entry nodes params exits slots entry rest u.0 t.0 w.0 w.1

-- each graph's calls fit
pub graphs_by_test : (gs : List Graph) → IsTrue (list_all (λ g. list_all (is_linked gs) g.edges) gs) → AreGraphs gs
graphs_by_test gs h p g at i from to site call =
    each (is_linked gs) g.edges (each (λ (x : Graph). list_all (is_linked gs) x.edges) gs h p g at) i (call_edge from to site) call
