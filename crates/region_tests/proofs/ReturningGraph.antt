-- The graph of the tests of states is one, and two steps over it are legal.
use Rattle.std.proofs.Common.{◌≡◌, ℕ, zero, suc, ◌<◌, ◌≤◌, false, List, [], ◌∷◌, length, arith, refl, sym, ap, subst, ◌∙◌, pos}
use Rattle.std.specs.Prelude.{Some, slice_get, IsTrue, None}
use Rattle.std.proofs.lemmas.Int.{ints}
use Rattle.std.proofs.lemmas.Option.{same_Some, none-some}
use Rattle.infeasible_cert.specs.Refutation.{close, refutation_of}
use Rattle.infeasible_cert.specs.Right.{IsRightStep, Refutes}
use Rattle.infeasible_cert.specs.Terms.{HasTerms}
use Rattle.infeasible_cert.specs.declared.certificate.Certificate.{Certificate}
use Rattle.flow_graph.specs.Calls.{CallSite, call_edge}
use Rattle.flow_graph.specs.Linked.{AreGraphs}
use Rattle.flow_graph.specs.declared.graph.Graph.{Graph}
use Rattle.flow_graph.specs.declared.graph.Edge.{Edge}
use Rattle.flow_graph.specs.declared.graph.Edge.TheVariants.{Entry, Return}
use Rattle.flow_graph.specs.Shapes.{is_entry, leads}
use Rattle.flow_graph.specs.WellFormed.{IsEdge, IsGraph}
use Rattle.summary_form.specs.Instances.{arity_in}
use Rattle.summary_form.specs.NotMays.{Fits}
use Rattle.may_partition.specs.declared.region.RegionEdge.{RegionEdge}
use Rattle.may_partition.specs.Parted.{begin_parted, region}
use Rattle.must_region.specs.Rules.{begin_trail}
use Rattle.query_rules.proofs.Closing.{turn_advances}
use Rattle.query_rules.specs.Applying.{MayApply}
use Rattle.query_rules.specs.Legal.{IsLegal}
use Rattle.query_rules.specs.Paths.{IsPath}
use Rattle.query_rules.specs.declared.step.Killer.TheVariants as killer
use Rattle.query_rules.specs.declared.step.Step.{Step}
use Rattle.query_rules.specs.declared.step.Step.TheVariants as step
use Rattle.query_rules.specs.Rows.{IsRefutedBy}
use Rattle.query_rules.specs.Seen.{Seen}
use Rattle.query_rules.specs.States.{made}
use Rattle.region_tests.specs.Returning.{AreReturning, IsEntryKill, barred_model, by_itself, never, IsReturning, ShowsAt, any_run, entered_model, entry_step, first_model, return_step, returning_edges}

none_later : (i : ℕ) (e : Edge) → slice_get returning_edges (suc (suc i)) ≡ Some e → ⊥
none_later i e h = none-some e h

return_edge : IsEdge 3 0 1 1 1 (Return 2 0 (0 ∷ []))
return_edge = record {
  leaves = λ n e. let same : 2 ≡ n = same_Some 2 n e in (omega arith, (λ x. omega arith), (λ x. omega arith));
  in_range = omega arith;
  slots_named = refl;
  lists = refl;
  terms = refl;
  to_exit = refl;
  to_fail = refl;
}

each : (i : ℕ) (e : Edge) → slice_get returning_edges i ≡ Some e → IsEdge 3 0 1 1 1 e
each zero e h = subst (IsEdge 3 0 1 1 1) (same_Some (Entry 2 1) e h) (record {
  leaves = λ n o. absurd (none-some n o);
  in_range = omega arith;
  slots_named = refl;
  lists = refl;
  terms = refl;
  to_exit = refl;
  to_fail = refl;
})
each (suc zero) e h = subst (IsEdge 3 0 1 1 1) (same_Some (Return 2 0 (0 ∷ [])) e h) return_edge
each (suc (suc i)) e h = absurd (none_later i e h)

no_entry : (i : ℕ) (e : Edge) → 0 < i → slice_get returning_edges i ≡ Some e → is_entry e ≡ false
no_entry zero e low h = absurd (omega (arith, low))
no_entry (suc zero) e low h = subst (λ x. is_entry x ≡ false) (same_Some (Return 2 0 (0 ∷ [])) e h) refl
no_entry (suc (suc i)) e low h = absurd (none_later i e h)

not_back : (i : ℕ) (e : Edge) → 0 < i → slice_get returning_edges i ≡ Some e → leads 1 e 2 ≡ false
not_back zero e low h = absurd (omega (arith, low))
not_back (suc zero) e low h = subst (λ x. leads 1 x 2 ≡ false) (same_Some (Return 2 0 (0 ∷ [])) e h) refl
not_back (suc (suc i)) e low h = absurd (none_later i e h)

pub returning_graph : IsGraph 3 0 1 1 1 1 returning_edges
returning_graph = record {
  exit_named = omega arith;
  fail_named = omega arith;
  two_ends = λ e. omega (arith, e);
  params_in_slots = omega arith;
  few_exits = omega arith;
  few_slots = omega arith;
  are_edges = each;
  begins = refl;
  one_entry = no_entry;
  alone = not_back;
}

no_call : (i from to : ℕ) (site : CallSite) → slice_get returning_edges i ≡ Some (call_edge from to site) → ⊥
no_call zero from to site h = let e : Entry 2 1 ≡ call_edge from to site = same_Some (Entry 2 1)
    (call_edge from to site)
    h in cc
no_call (suc zero) from to site h =
    let e : Return 2 0 (0 ∷ []) ≡ call_edge from to site = same_Some (Return 2 0 (0 ∷ [])) (call_edge from to site) h in
    cc
no_call (suc (suc i)) from to site h = none_later i (call_edge from to site) h

-- no graph of the list calls
pub one_graph : (gs : List Graph) → AreReturning gs → AreGraphs gs
one_graph gs h = subst AreGraphs (sym h.1) single where
  single : AreGraphs (h.0 ∷ [])
  single zero g at i from to site call =
      let same : h.0 ≡ g = same_Some h.0 g at in
      absurd (no_call i from to site (ap (λ es. slice_get es i) (sym h.2.edges) ∙ ap (λ (x : Graph). slice_get x.edges i) same
      ∙ call))
  single (suc p) g at i from to site call = absurd (none-some g at)

-- The graph by its parts

abbrev pub the_graph : IsGraph 3 0 1 1 1 1 returning_edges → Graph
the_graph w = record { nodes = 3; exit = 0; fail = 1; params = 1; exits = 1; slots = 1; edges = returning_edges; well_formed = w }

pub by_shape : (P : Graph → Type 0) → ((w : IsGraph 3 0 1 1 1 1 returning_edges) → P (the_graph w)) → (g : Graph) → IsReturning g → P g
by_shape P h g s =
    let Q : ℕ → ℕ → ℕ → ℕ → ℕ → ℕ → List Edge → Type 0 = λ n e f p x sl es. (w : IsGraph n e f p x sl es) →
    P (record { nodes = n; exit = e; fail = f; params = p; exits = x; slots = sl; edges = es; well_formed = w }) in
    subst (λ n. Q n g.exit g.fail g.params g.exits g.slots g.edges) (sym s.nodes)
    (subst (λ n. Q 3 n g.fail g.params g.exits g.slots g.edges) (sym s.exit)
    (subst (λ n. Q 3 0 n g.params g.exits g.slots g.edges) (sym s.fail)
    (subst (λ n. Q 3 0 1 n g.exits g.slots g.edges) (sym s.params)
    (subst (λ n. Q 3 0 1 1 n g.slots g.edges) (sym s.exits)
    (subst (λ n. Q 3 0 1 1 1 n g.edges) (sym s.slots)
    (subst (λ es. Q 3 0 1 1 1 1 es) (sym s.edges) h)))))) g.well_formed

-- Steps

module _ (w : IsGraph 3 0 1 1 1 1 returning_edges) where
  abbrev enters : RegionEdge
  enters = record { edge = 0; from = 0; to = 3 }

  abbrev returns : RegionEdge
  returns = record { edge = 1; from = 3; to = 1 }

  -- no edge leads from the outside to the exit
  no_short : (i from to : ℕ) → from ≡ 0 → 1 ≡ to →
      IsTrue ((begin_parted (the_graph w) any_run).live (record { edge = i; from = from; to = to })) →
      ⊥
  no_short i from to f t h =
      by_place i (subst (λ n. IsTrue ((begin_parted (the_graph w) any_run).live (record { edge = i; from = 0; to = n }))) (sym t)
      (subst (λ n. IsTrue ((begin_parted (the_graph w) any_run).live (record { edge = i; from = n; to = to }))) f h))
    where
      by_place : (i : ℕ) → IsTrue ((begin_parted (the_graph w) any_run).live (record { edge = i; from = 0; to = 1 })) → ⊥
      by_place zero h = cc
      by_place (suc zero) h = cc
      by_place (suc (suc i)) h = cc

  two_edges : (es : List RegionEdge) → IsPath (begin_parted (the_graph w) any_run) 0 es 1 → 2 ≤ length es
  two_edges [] h = absurd (omega (arith, h))
  two_edges (e ∷ []) h = absurd (no_short e.edge e.from e.to h.1 h.2 h.0)
  two_edges (e ∷ f ∷ es) h = omega arith

  enters_legal : IsLegal (the_graph w) [] (first_model (the_graph w)) entry_step
  enters_legal = (
    turn_advances (the_graph w) (first_model (the_graph w)) enters (record {
      before = [];
      behind = returns ∷ [];
      is_open = ((refl, refl, (refl, refl, refl)), refl);
      frontier = refl;
      last = refl;
      shortest = λ es h. two_edges es h.0;
    }),
    record {
      at = record {
        between = record {
          edge = Entry 2 1;
          source = region 3 [];
          target = region 2 [];
          at_edge = refl;
          at_source = refl;
          at_target = refl;
        };
        plain = refl;
      };
      trail = begin_trail 2 1 1;
      marks = (refl, refl);
      comes = record { decided = refl; values = λ x. refl; met = tt };
    },
  )

  returns_legal : IsLegal (the_graph w) [] (entered_model (the_graph w)) return_step
  returns_legal = (
    turn_advances (the_graph w) (entered_model (the_graph w)) returns (record {
      before = enters ∷ [];
      behind = [];
      is_open = ((refl, refl, (refl, refl, refl)), refl);
      frontier = refl;
      last = refl;
      shortest = λ es h. two_edges es h.0;
    }),
    record {
      at = record {
        between = record {
          edge = Return 2 0 (0 ∷ []);
          source = region 2 [];
          target = region 0 [];
          at_edge = refl;
          at_source = refl;
          at_target = refl;
        };
        plain = refl;
      };
      trail = begin_trail 2 1 1;
      marks = (refl, refl);
      comes = record { decided = refl; values = λ x. refl; met = tt };
    },
  )

-- the query fits each list of these graphs
pub query_fits : (gs : List Graph) → Fits 0 (arity_in gs 0) any_run
query_fits gs = record { of_procedure = refl; start_names = refl; end_names = refl; start_terms = refl; end_terms = refl }

same_first : (gs : List Graph) (h : AreReturning gs) (g : Graph) → slice_get gs 0 ≡ Some g → IsReturning g
same_first gs h g at = subst IsReturning (same_Some h.0 g (ap (λ l. slice_get l 0) (sym h.1) ∙ at)) h.2

pub may_enter : (gs : List Graph) (s : Seen) → AreReturning gs → ShowsAt gs s first_model → MayApply gs [] s entry_step
may_enter gs s h shows =
    let g = shows.0 in let shape = same_first gs h g shows.1 in
    record {
      model = first_model g;
      shows = shows.2;
      graph = g;
      at = shows.1;
      state = record { at = shows.1; fits = query_fits gs; happenings = []; happen = tt; reached = refl };
      holds = λ place x e. absurd (none-some x e);
      legal = by_shape (λ x. IsLegal x [] (first_model x) entry_step) enters_legal g shape;
    }

pub may_return : (gs : List Graph) (s : Seen) → AreReturning gs → ShowsAt gs s entered_model → MayApply gs [] s return_step
may_return gs s h shows =
    let g = shows.0 in let shape = same_first gs h g shows.1 in
    let first : IsLegal g [] (first_model g) entry_step = by_shape (λ x. IsLegal x [] (first_model x) entry_step) enters_legal g shape in
    record {
      model = entered_model g;
      shows = shows.2;
      graph = g;
      at = shows.1;
      state = record {
        at = shows.1;
        fits = query_fits gs;
        happenings = made entry_step 0 ∷ [];
        happen = ((omega arith, first), tt);
        reached = refl;
      };
      holds = λ place x e. absurd (none-some x e);
      legal = by_shape (λ x. IsLegal x [] (entered_model x) return_step) returns_legal g shape;
    }

-- the graph is the first
pub first_graph : (gs : List Graph) (h : AreReturning gs) → slice_get gs 0 ≡ Some h.0
first_graph gs h = ap (λ l. slice_get l 0) h.1

-- A kill

module _ (w : IsGraph 3 0 1 1 1 1 returning_edges) where
  by_row : IsRightStep ((record { parts = []; constant = pos 1 }) ∷ []) by_itself
  by_row = record {
    named = (omega arith, omega (arith, ints), tt);
    columns_fit = λ x. ((omega (arith, ints), omega (arith, ints)), (omega (arith, ints), omega (arith, ints)), tt);
    constant_fits = ((omega (arith, ints), omega (arith, ints)), (omega (arith, ints), omega (arith, ints)), tt);
    divisor = omega (arith, ints);
    divided = λ x. refl;
    rounded = (omega (arith, ints), omega (arith, ints));
  }

  refutes : (c : Certificate) → refutation_of c ≡ close (by_itself ∷ []) → IsRefutedBy (never ∷ []) c
  refutes c e = record {
    right = subst (Refutes (never ∷ [])) (sym e) (record { shallow = omega arith; right = ((by_row, tt), (refl, omega (arith, ints))) });
    atoms_terms = refl;
    terms = subst HasTerms (sym e) (refl, tt);
  }

  kill_legal : (c : Certificate) → refutation_of c ≡ close (by_itself ∷ []) →
      IsLegal (the_graph w) [] (barred_model (the_graph w)) (step.Kill (record { edge = 0; from = 0; to = 3 }) (killer.Certificate c))
  kill_legal c e = (
    record {
      before = [];
      behind = (record { edge = 1; from = 3; to = 1 }) ∷ [];
      is_open = ((refl, refl, (refl, refl, refl)), refl);
      frontier = refl;
      last = refl;
      shortest = λ es h. two_edges w es h.0;
    },
    record {
      at = record {
        between = record {
          edge = Entry 2 1;
          source = region 3 [];
          target = region 2 (never ∷ []);
          at_edge = refl;
          at_source = refl;
          at_target = refl;
        };
        plain = refl;
      };
      pre = never ∷ [];
      is_pre = (None, refl);
      refuted = refutes c e;
    },
  )

pub may_kill : (gs : List Graph) (s : Seen) (st : Step) → AreReturning gs → ShowsAt gs s barred_model → IsEntryKill st → MayApply gs [] s st
may_kill gs s st h shows kill =
    let g = shows.0 in let shape = same_first gs h g shows.1 in
    subst (λ x. MayApply gs [] s x) (sym kill.2) (record {
      model = barred_model g;
      shows = shows.2;
      graph = g;
      at = shows.1;
      state = record {
        at = shows.1;
        fits = record { of_procedure = refl; start_names = refl; end_names = refl; start_terms = refl; end_terms = refl };
        happenings = [];
        happen = tt;
        reached = refl;
      };
      holds = λ place x e. absurd (none-some x e);
      legal = by_shape (λ x. IsLegal x [] (barred_model x) (step.Kill (record { edge = 0; from = 0; to = 3 }) (killer.Certificate kill.0)))
          (λ v. kill_legal v kill.0 kill.1) g shape;
    })
