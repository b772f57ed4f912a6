-- Trails that are extended over a call by a must give frames.
use Rattle.std.proofs.Common.{◌≡◌, ◌≢◌, ℕ, suc, ◌+◌, ◌<◌, List, [], ◌∷◌, ◌++◌, length, drop, map, get_or, IsTrue, Some, None, nat_lt, ℤ, pos, arith, refl, sym, subst, ap, ◌∙◌, append_assoc, add_comm}
use Rattle.std.specs.Prelude.{slice_get}
use Rattle.std.specs.List.{list_all}
use Rattle.std.proofs.lemmas.List.{map-append, length-map}
use Rattle.std.proofs.Math.ListN.{length-set}
use borrow.Author.Tests.{ltb-true, eqb-false}
use Rattle.c_tree.specs.Meaning.{State, entered, with_slot}
use Rattle.linear_formula.specs.LinearSum.{LinearSum, Valuation, value_of}
use Rattle.linear_formula.specs.Results.{renamed_by}
use Rattle.linear_formula.specs.Formula.{HoldsAll, renamed_atoms_by}
use Rattle.linear_formula.specs.declared.formula.Atom.{Atom}
use Rattle.linear_formula.proofs.Values.{value-renamed_by}
use Rattle.linear_formula.proofs.Renamed.{renamed_by-holds}
use Rattle.linear_formula.proofs.Limits.{both}
use Rattle.flow_graph.specs.Calls.{CallSite, call_edge}
use Rattle.flow_graph.specs.declared.graph.Graph.{Graph}
use Rattle.flow_graph.specs.declared.graph.Edge.{Edge}
use Rattle.flow_graph.specs.WellFormed.{IsGraph, IsEdge, first_node}
use Rattle.flow_graph.specs.Runs.{Place, inside, Called, Frame, GraphRun, GraphRuns, End, with_slots, after_call}
use Rattle.flow_graph.proofs.Frames.{run_longer, Longer, frame_longer, frame_more, deeper}
use Rattle.summary_form.specs.declared.path.Path.{Path}
use Rattle.summary_form.specs.declared.query.ExitKind.{ExitKind}
use Rattle.summary_form.specs.declared.query.ExitKind.TheVariants as kind
use Rattle.summary_form.specs.Runs.{end_with}
use Rattle.summary_form.specs.Musts.{values_of}
use Rattle.must_region.specs.Traces.{Trace}
use Rattle.must_region.specs.Rules.{shifted, matches, must_sums, set_terms, must_slots, must_node, must_failed, extended_must}
use Rattle.shadow_elim.specs.Sums.{rows_of_sums, equal_sums}
use Rattle.shadow_elim.proofs.Summing.{sums-split, hold-equal}
use Rattle.flow_graph.specs.Readings.{term_at}
use Rattle.must_region.proofs.Agreeing.{holds_split}
use Rattle.must_region.specs.Trails.{slots_at, end_place, GivesFrames, IsTrail, GivesRuns}
use Rattle.must_region.proofs.Extending.{inner_place, slots_set}

-- Columns by new numbers

module _ (f : ℕ → ℕ) (v : Valuation) where
  abbrev pub old_values : Valuation
  old_values x = v (f x)

  value_by : (t : LinearSum) → value_of v (renamed_by f t) ≡ value_of old_values t
  value_by t = value-renamed_by v f t

  pub values_by : (ts : List LinearSum) → values_of v (map (renamed_by f) ts) ≡ values_of old_values ts
  values_by [] = refl
  values_by (t ∷ ts) = ap (λ z. z ∷ values_of v (map (renamed_by f) ts)) (value_by t) ∙ ap (λ zs. value_of old_values t ∷ zs) (values_by ts)

  holds_by : (atoms : List Atom) → HoldsAll v (renamed_atoms_by f atoms) → HoldsAll old_values atoms
  holds_by atoms h = (renamed_by-holds v f atoms).0 h

-- Results
first_value : (v : Valuation) (ts : List LinearSum) → value_of v (term_at ts 0) ≡ get_or (values_of v ts) 0 (pos 0)
first_value v [] = refl
first_value v (t ∷ ts) = refl

others_value : (v : Valuation) (ts : List LinearSum) → values_of v (drop 1 ts) ≡ drop 1 (values_of v ts)
others_value v [] = refl
others_value v (t ∷ ts) = refl

length_set_terms : (all : List LinearSum) (slots : List ℕ) (terms : List LinearSum) → length (set_terms all slots terms) ≡ length all
length_set_terms all [] terms = refl
length_set_terms all (x ∷ xs) terms = length-set (set_terms all xs (drop 1 terms)) x (term_at terms 0)
    ∙ length_set_terms all xs (drop 1 terms)

-- terms in slots
terms_set : (v : Valuation) (all : List LinearSum) (n : ℕ) → n ≡ length all → (slots : List ℕ) (terms : List LinearSum) →
    IsTrue (list_all (λ x. nat_lt x n) slots) →
    slots_at v (set_terms all slots terms) ≡ with_slots (slots_at v all) slots (values_of v terms)
terms_set v all n count [] terms ok = refl
terms_set v all n count (x ∷ xs) terms ok =
    let here = both (nat_lt x n) (list_all (λ y. nat_lt y n) xs) ok in
    let low : x < length (set_terms all xs (drop 1 terms)) = omega (
      arith,
      ltb-true x n here.0,
      count,
      length_set_terms all xs (drop 1 terms),
    )
    in
    slots_set v (set_terms all xs (drop 1 terms)) x (term_at terms 0) low
    ∙ ap (λ s. with_slot s x (value_of v (term_at terms 0))) (terms_set v all n count xs (drop 1 terms) here.1)
    ∙ ap (λ vs. with_slot (with_slots (slots_at v all) xs vs) x (value_of v (term_at terms 0))) (others_value v terms)
    ∙ ap (λ z. with_slot (with_slots (slots_at v all) xs (drop 1 (values_of v terms))) x z) (first_value v terms)

-- Arguments
arguments_match : (v : Valuation) (slots : List LinearSum) (args : List ℕ) (terms : List LinearSum) → length args ≡ length terms →
    HoldsAll v (rows_of_sums (matches slots args terms)) → map (slots_at v slots) args ≡ values_of v terms
arguments_match v slots [] [] n h = refl
arguments_match v slots [] (t ∷ terms) n h = absurd (omega (arith, n))
arguments_match v slots (x ∷ args) [] n h = absurd (omega (arith, n))
arguments_match v slots (x ∷ args) (t ∷ terms) n h =
    let r = sums-split v (equal_sums (term_at slots x) t) (matches slots args terms) h in
    ap (λ z. z ∷ map (slots_at v slots) args) (hold-equal v (term_at slots x) t r.0) ∙ ap (λ zs. value_of v t ∷ zs)
    (arguments_match v slots args terms (omega (arith, n)) r.1)

-- One more call
one_call : (C : Called) → Longer C → (edges : List Edge) (i n to : ℕ) (site : CallSite) → slice_get edges i
    ≡ Some (call_edge n to site) → (k : ℕ) (start : Place) (s : State) (ins used : List ℤ) (end : End) →
    ((more : List ℤ) → Frame C edges k start (ins ++ more) (inside n s) more) → C site.procedure (map s site.arguments) used [] end →
    (more : List ℤ) →
    Frame C edges (suc k) start ((ins ++ used) ++ more) (after_call to site.results s end) more
one_call C longer edges i n to site at k start s ins used end f run more =
    frame_longer C edges k start (inside n s) (after_call to site.results s end) ((ins ++ used) ++ more) (used ++ more) more
    (subst (λ l. Frame C edges k start l (inside n s) (used ++ more)) (sym (append_assoc ins used more)) (f (used ++ more)))
    (i, call_edge n to site, at, refl, (end, longer site.procedure (map s site.arguments) used [] end more run, refl))

-- The place after the call
module _ (gs : List Graph) (g : Graph) (ok : IsGraph g.nodes g.exit g.fail g.params g.exits g.slots g.edges) (t : Trace)
    (h : IsTrail gs g t)
    (i from to : ℕ) (site : CallSite) (at : slice_get g.edges i ≡ Some (call_edge from to site)) (src : from ≡ t.node)
    (must : Path) where
  edge_ok : IsEdge g.nodes g.exit g.fail g.exits g.slots (call_edge from to site)
  edge_ok = ok.are_edges i (call_edge from to site) at

  leave : (t.node < g.nodes) × (t.node ≢ g.exit) × (t.node ≢ g.fail)
  leave = edge_ok.leaves t.node (ap Some src)

  results_here : IsTrue (list_all (λ x. nat_lt x g.slots) site.results)
  results_here = (both (list_all (λ x. nat_lt x g.slots) site.results) (list_all (λ x. nat_lt x g.slots) site.arguments)
      edge_ok.slots_named).0

  pub place_behind : (v : Valuation) (exit : ExitKind) → after_call to site.results (slots_at v t.slots)
      (end_with exit (values_of (λ x. v (shifted t.symbols x)) must.outcome)) ≡ end_place g.exit v (must_node to g.fail exit)
      (must_slots t exit site.results must) (must_failed exit t.failed)
  place_behind v kind.Return =
      let terms = map (renamed_by (shifted t.symbols)) must.outcome in
      let same : slots_at v (set_terms t.slots site.results terms) ≡ with_slots (slots_at v t.slots) site.results
      (values_of (λ x. v (shifted t.symbols x)) must.outcome) = terms_set v t.slots g.slots (sym (h.many leave.1)) site.results terms
      results_here
      ∙ ap (with_slots (slots_at v t.slots) site.results) (values_by (shifted t.symbols) v must.outcome) in
      let inner = inner_place g.exit v to (set_terms t.slots site.results terms) t.failed (h.unfailed leave.2)
      (eqb-false to g.exit (sym edge_ok.to_exit))
      in
      sym (inner ∙ ap (inside to) same)
  place_behind v (kind.Fail id) = refl

  many_must : (x : ExitKind) → length (must_slots t x site.results must) ≡ g.slots
  many_must kind.Return = length_set_terms t.slots site.results (map (renamed_by (shifted t.symbols)) must.outcome) ∙ h.many leave.1
  many_must (kind.Fail id) = h.many leave.1

  no_exit : (x : ExitKind) → must_node to g.fail x ≡ g.exit → ⊥
  no_exit kind.Return e = eqb-false to g.exit (sym edge_ok.to_exit) e
  no_exit (kind.Fail id) e = ok.two_ends (sym e)

  none_failed : (x : ExitKind) → must_node to g.fail x ≢ g.fail → must_failed x t.failed ≡ None
  none_failed kind.Return e = h.unfailed leave.2
  none_failed (kind.Fail id) e = absurd (e refl)

  has_failed : (x : ExitKind) → must_node to g.fail x ≡ g.fail → (id : ℕ) × (must_failed x t.failed ≡ Some id)
  has_failed kind.Return e = absurd (eqb-false to g.fail (sym edge_ok.to_fail) e)
  has_failed (kind.Fail id) e = (id, refl)

module _ (gs : List Graph) (g : Graph) (ok : IsGraph g.nodes g.exit g.fail g.params g.exits g.slots g.edges) (t : Trace)
    (h : IsTrail gs g t)
    (i from to : ℕ) (site : CallSite) (at : slice_get g.edges i ≡ Some (call_edge from to site)) (src : from ≡ t.node)
    (must : Path) (gives : GivesRuns gs must) (of_procedure : must.proc ≡ site.procedure) (count : length site.arguments
    ≡ length must.entry) where
  extend_call : (v : Valuation) (d k e : ℕ) → end_place g.exit v t.node t.slots t.failed ≡ inside t.node (slots_at v t.slots) →
      ((more : List ℤ) → Frame (GraphRun gs d) g.edges k (inside (first_node g.edges) (entered (values_of v t.entry)))
      (values_of v t.inputs ++ more) (end_place g.exit v t.node t.slots t.failed) more) → map (slots_at v t.slots) site.arguments
      ≡ values_of (λ x. v
      (shifted t.symbols x)) must.entry → GraphRuns gs e must.proc (values_of (λ x. v (shifted t.symbols x)) must.entry) (values_of
      (λ x. v (shifted t.symbols x)) must.inputs) (end_with must.exit (values_of (λ x. v (shifted t.symbols x)) must.outcome)) →
      (more : List ℤ) → Frame (GraphRun gs (e + d)) g.edges (suc k) (inside (first_node g.edges) (entered (values_of v t.entry)))
      (values_of v (t.inputs ++ map (renamed_by (shifted t.symbols)) must.inputs) ++ more)
      (end_place g.exit v (must_node to g.fail must.exit) (must_slots t must.exit site.results must) (must_failed must.exit t.failed)) more
  extend_call v d k e from_place fr same_args run more =
      let start : Place = inside (first_node g.edges) (entered (values_of v t.entry)) in
      let end : End = end_with must.exit (values_of (λ x. v (shifted t.symbols x)) must.outcome) in
      let used : List ℤ = values_of (λ x. v (shifted t.symbols x)) must.inputs in
      let fr' : (more : List ℤ) → Frame (GraphRun gs (e + d)) g.edges k start (values_of v t.inputs ++ more)
      (inside t.node (slots_at v t.slots)) more = λ rest. frame_more (GraphRun gs d) (GraphRun gs (e + d)) (deeper gs d e) g.edges k start
      (inside t.node (slots_at v t.slots)) (values_of v t.inputs ++ rest) rest
      (subst (λ p. Frame (GraphRun gs d) g.edges k start (values_of v t.inputs ++ rest) p rest) from_place (fr rest)) in
      let deep : GraphRun gs (d + e) must.proc (values_of (λ x. v (shifted t.symbols x)) must.entry) used [] end = deeper gs e d must.proc
      (values_of (λ x. v (shifted t.symbols x)) must.entry) used [] end run in
      let run' : GraphRun gs (e + d) must.proc (values_of (λ x. v (shifted t.symbols x)) must.entry) used [] end = subst
      (λ n. GraphRun gs n must.proc (values_of (λ x. v (shifted t.symbols x)) must.entry) used [] end) (add_comm d e) deep in
      let run'' : GraphRun gs (e + d) site.procedure (map (slots_at v t.slots) site.arguments) used [] end = subst
      (λ p. GraphRun gs (e + d) p (map (slots_at v t.slots) site.arguments) used [] end) of_procedure
      (subst (λ l. GraphRun gs (e + d) must.proc l used [] end) (sym same_args) run') in
      let at' : slice_get g.edges i ≡ Some (call_edge t.node to site) = subst
      (λ n. slice_get g.edges i ≡ Some (call_edge n to site))
      src at in
      let whole = one_call (GraphRun gs (e + d)) (run_longer gs (e + d)) g.edges i t.node to site at' k start
      (slots_at v t.slots)
      (values_of v t.inputs) used end fr' run'' more in
      let inputs : values_of v t.inputs ++ used ≡ values_of v (t.inputs ++ map (renamed_by (shifted t.symbols)) must.inputs) =
      ap (λ l. values_of v t.inputs ++ l) (sym (values_by (shifted t.symbols) v must.inputs))
      ∙ sym (map-append (value_of v) t.inputs (map (renamed_by (shifted t.symbols)) must.inputs)) in
      subst (λ l. Frame (GraphRun gs (e + d)) g.edges (suc k) start (l ++ more) (end_place g.exit v (must_node to g.fail must.exit)
      (must_slots t must.exit site.results must) (must_failed must.exit t.failed)) more) inputs (subst (λ p. Frame (GraphRun gs (e + d))
      g.edges
      (suc k) start ((values_of v t.inputs ++ used) ++ more) p more) ((place_behind gs g ok t h i from to site at src must) v
      must.exit) whole)

  pub extend_must : GivesFrames gs g (extended_must t to g.fail site must)
  extend_must v v64 m =
      let a = holds_split v (t.guard.atoms ++ renamed_atoms_by (shifted t.symbols) must.guard.atoms)
      (rows_of_sums (must_sums t site.arguments must))
      m
      in
      let b = holds_split v t.guard.atoms (renamed_atoms_by (shifted t.symbols) must.guard.atoms) a.0 in
      let w : Valuation = λ x. v (shifted t.symbols x) in
      let fr = h.gives v v64 b.0 in
      let r = gives w (λ x. v64 (shifted t.symbols x)) (holds_by (shifted t.symbols) v must.guard.atoms b.1) in
      let from_place : end_place g.exit v t.node t.slots t.failed ≡ inside t.node (slots_at v t.slots) = inner_place g.exit v t.node t.slots
      t.failed (h.unfailed (leave gs g ok t h i from to site at src must).2) (leave gs g ok t h i from to site at
      src
      must).1
      in
      let same_args : map (slots_at v t.slots) site.arguments ≡ values_of w must.entry = arguments_match v t.slots site.arguments
      (map (renamed_by (shifted t.symbols)) must.entry) (count ∙ sym (length-map must.entry (renamed_by (shifted t.symbols)))) a.1
      ∙ values_by (shifted t.symbols) v must.entry in
      (r.0 + fr.0, suc fr.1, extend_call v fr.0 fr.1 r.0 from_place fr.2 same_args r.1)

  pub extended_must_trail : IsTrail gs g (extended_must t to g.fail site must)
  extended_must_trail = record {
    gives = extend_must;
    many = λ _. (many_must gs g ok t h i from to site at src must) must.exit;
    returned = λ e. absurd ((no_exit gs g ok t h i from to site at src must) must.exit e);
    unfailed = λ e. (none_failed gs g ok t h i from to site at src must) must.exit e;
    is_failed = λ e. (has_failed gs g ok t h i from to site at src must) must.exit e;
    entry = h.entry;
  }
