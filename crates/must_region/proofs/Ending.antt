-- Where trails begin, and what their paths say.
use Rattle.std.proofs.Common.{◌≡◌, ℕ, zero, suc, ◌+◌, ◌-◌, List, [], ◌∷◌, ◌++◌, length, replicate, get_or, Some, None, ℤ, pos, arith, refl, sym, subst, ap, ◌∙◌}
use Rattle.std.specs.Prelude.{slice_get, IsTrue}
use Rattle.std.proofs.lemmas.List.{append-nil, length-append, length-replicate}
use borrow.Author.Tests.{eqb-false}
use Rattle.c_tree.specs.Meaning.{entered, is_value}
use Rattle.linear_formula.specs.LinearSum.{LinearSum, Valuation, Is64, value_of}
use Rattle.linear_formula.specs.Results.{constant_sum}
use Rattle.linear_formula.specs.Formula.{HoldsAll}
use Rattle.linear_formula.proofs.Replacing.{value-column}
use Rattle.flow_graph.specs.declared.graph.Graph.{Graph}
use Rattle.flow_graph.specs.declared.graph.Edge.{Edge}
use Rattle.flow_graph.specs.declared.graph.Edge.TheVariants.{Entry}
use Rattle.flow_graph.specs.WellFormed.{IsGraph, IsEdge, first_node}
use Rattle.flow_graph.specs.Runs.{Place, inside, left, failing, Frame, EndsIn, EntersGraph, GraphRun, GraphRuns, End, came, failed}
use Rattle.flow_graph.specs.Columns.{AreAllValues, first_symbol}
use Rattle.flow_graph.proofs.Frames.{frame_ends}
use Rattle.summary_form.specs.Musts.{values_of}
use Rattle.must_region.specs.Traces.{Trace}
use Rattle.must_region.specs.Rules.{symbols_from, begin_trail}
use Rattle.flow_graph.specs.Readings.{term_at}
use Rattle.flow_graph.proofs.Numbers.{value_of_64}
use Rattle.flow_graph.proofs.Slots.{entry_edge}
use Rattle.must_region.specs.Trails.{slots_at, end_place, IsTrail}
use Rattle.must_region.proofs.Extending.{inner_place, exit_place}

-- Paths hold
-- a frame that has ended is a run
frame_run : (gs : List Graph) (p : ℕ) (g : Graph) → slice_get gs p ≡ Some g → (to params : ℕ) → slice_get g.edges 0
    ≡ Some (Entry to params) →
    (d k : ℕ) (args ins : List ℤ) (b : Place) (end : End) → Frame (GraphRun gs d) g.edges k (inside to (entered args)) ins b [] →
    EndsIn (GraphRun gs d) g.edges 0 b [] [] end → GraphRuns gs (suc d) p args ins end
frame_run gs p g at to params e d k args ins b end f fin =
    subst (λ o. EntersGraph (GraphRun gs d) o args ins [] end) (sym at) (
      to,
      params,
      k,
      e,
      frame_ends (GraphRun gs d) g.edges k
          (inside to (entered args)) b ins [] end f fin.0,
    )

module _ (gs : List Graph) (p : ℕ) (g : Graph) (at : slice_get gs p ≡ Some g) (ok : IsGraph g.nodes g.exit g.fail g.params g.exits g.slots
    g.edges)
    (t : Trace) (h : IsTrail gs g t) where
  -- each assignment that meets the guard gives a run to the trail's end
  trail_run : (v : Valuation) → Is64 v → HoldsAll v t.guard.atoms → (b : Place) (end : End) → end_place g.exit v t.node t.slots t.failed
      ≡ b → ((d : ℕ) → EndsIn (GraphRun gs d) g.edges 0 b [] [] end) → (d : ℕ) × GraphRuns gs d p (values_of v t.entry)
      (values_of v t.inputs)
      end
  trail_run v v64 m b end place fin =
      let f = h.gives v v64 m in
      let ins : values_of v t.inputs ++ [] ≡ values_of v t.inputs = append-nil (values_of v t.inputs) in
      let start : Place = inside (first_node g.edges) (entered (values_of v t.entry)) in
      let frame : Frame (GraphRun gs f.0) g.edges f.1 start (values_of v t.inputs) b [] = subst
      (λ l. Frame (GraphRun gs f.0) g.edges f.1 start l b []) ins
      (subst (λ x. Frame (GraphRun gs f.0) g.edges f.1 start (values_of v t.inputs ++ []) x []) place (f.2 [])) in (
        suc f.0,
        frame_run gs p g at (first_node g.edges) g.params (entry_edge g.params g.edges ok.begins) f.0 f.1 (values_of v t.entry)
            (values_of v t.inputs) b end frame (fin f.0),
      )

  pub returns_run : t.node ≡ g.exit → (v : Valuation) → Is64 v → HoldsAll v t.guard.atoms → (d : ℕ) × GraphRuns gs d p (values_of v t.entry)
      (values_of v t.inputs) (came (values_of v t.slots))
  returns_run e v v64 m =
      let none : t.failed ≡ None = h.unfailed (λ f. ok.two_ends (sym e ∙ f)) in
      trail_run v v64 m (left (values_of v t.slots)) (came (values_of v t.slots)) (exit_place g.exit v t.node t.slots t.failed none e)
      (λ d. (refl, refl))

  pub fails_run : (id : ℕ) → t.failed ≡ Some id → (v : Valuation) → Is64 v → HoldsAll v t.guard.atoms → (d : ℕ) × GraphRuns gs d p
      (values_of v t.entry) (values_of v t.inputs) (failed id)
  fails_run id e v v64 m =
      trail_run v v64 m (failing id (slots_at v t.slots)) (failed id) (ap (end_place g.exit v t.node t.slots) e) (λ d. (refl, refl))

-- The beginning
length_symbols : (first count : ℕ) → length (symbols_from first count) ≡ count
length_symbols first zero = refl
length_symbols first (suc count) = omega (arith, length_symbols (first + 1) count)

symbol_values : (v : Valuation) → Is64 v → (first count : ℕ) → AreAllValues (values_of v (symbols_from first count))
symbol_values v h first zero i = refl
symbol_values v h first (suc count) zero = subst (λ z. IsTrue (is_value z)) (sym (value-column v first)) (value_of_64 (v first) (h first))
symbol_values v h first (suc count) (suc i) = symbol_values v h (first + 1) count i

pub entry_count : (gs : List Graph) (g : Graph) (t : Trace) → IsTrail gs g t → length t.entry ≡ g.params
entry_count gs g t h = ap length h.entry ∙ length_symbols first_symbol g.params

pub entry_values : (gs : List Graph) (g : Graph) (t : Trace) → IsTrail gs g t → (v : Valuation) → Is64 v →
    AreAllValues (values_of v t.entry)
entry_values gs g t h v v64 = subst (λ ts. AreAllValues (values_of v ts)) (sym h.entry) (symbol_values v v64 first_symbol g.params)

-- beyond the parameters slots are 0
begin_slot : (v : Valuation) (terms : List LinearSum) (more x : ℕ) → value_of v (term_at (terms ++ replicate more (constant_sum (pos 0))) x)
    ≡ get_or (values_of v terms) x (pos 0)
begin_slot v [] zero x = refl
begin_slot v [] (suc more) zero = refl
begin_slot v [] (suc more) (suc x) = begin_slot v [] more x
begin_slot v (t ∷ terms) more zero = refl
begin_slot v (t ∷ terms) more (suc x) = begin_slot v terms more x

pub begin_is_trail : (gs : List Graph) (g : Graph) → IsGraph g.nodes g.exit g.fail g.params g.exits g.slots g.edges →
    IsTrail gs g (begin_trail (first_node g.edges) g.params g.slots)
begin_is_trail gs g ok = record {
  gives = λ v v64 m. (0, 0, λ more. (place v, refl));
  many = λ _. length-append (symbols_from first_symbol g.params) (replicate (g.slots - g.params) (constant_sum (pos 0)))
      ∙ omega (
        arith,
        length_symbols first_symbol g.params,
        length-replicate (g.slots - g.params) (constant_sum (pos 0)),
        ok.params_in_slots,
      );
  returned = λ e. absurd (no_exit e);
  unfailed = λ _. refl;
  is_failed = λ e. absurd (no_fail e);
  entry = refl;
}
  where
    e : Edge
    e = Entry (first_node g.edges) g.params

    k : IsEdge g.nodes g.exit g.fail g.exits g.slots (Entry (first_node g.edges) g.params)
    k = ok.are_edges 0 (Entry (first_node g.edges) g.params) (entry_edge g.params g.edges ok.begins)

    no_exit : first_node g.edges ≡ g.exit → ⊥
    no_exit = eqb-false (first_node g.edges) g.exit (sym k.to_exit)

    no_fail : first_node g.edges ≡ g.fail → ⊥
    no_fail = eqb-false (first_node g.edges) g.fail (sym k.to_fail)

    place : (v : Valuation) → end_place g.exit v (first_node g.edges) (symbols_from first_symbol g.params ++ replicate (g.slots - g.params)
        (constant_sum (pos 0))) None ≡ inside (first_node g.edges) (entered (values_of v (symbols_from first_symbol g.params)))
    place v = inner_place g.exit v (first_node g.edges) (symbols_from first_symbol g.params ++ replicate (g.slots - g.params)
        (constant_sum (pos 0))) None refl no_exit ∙ ap (inside (first_node g.edges)) (λ i x. begin_slot v
        (symbols_from first_symbol g.params)
        (g.slots - g.params) x i)
