-- What the graphs of procedures keep.
use Rattle.std.proofs.Common.{◌≡◌, ℕ, zero, suc, ◌+◌, ◌<◌, ◌≤◌, Bool, true, false, cond, ◌==◌, List, [], ◌∷◌, length, Some, ℤ, pos, IsTrue, refl, sym, ap, ◌∙◌, subst, inl, inr, arith}
use Rattle.std.specs.Prelude.{slice_get, Contains}
use Rattle.std.proofs.lemmas.Bool.{eq-eqb, le-leb}
use Rattle.std.proofs.lemmas.List.Elements.{All-contains}
use Rattle.c_tree.specs.Syntax.{block, PureProcedure, PureProgram}
use Rattle.c_tree.specs.WellFormed.{all_linear, is_well_formed_procedure, statements_divide_by_literals, IsWellFormed, DividesByLiterals}
use Rattle.flow_graph.specs.declared.graph.Edge.{Edge}
use Rattle.flow_graph.specs.declared.graph.Edge.TheVariants.{Entry, Assign, Return}
use Rattle.flow_graph.specs.declared.graph.Graph.{Graph}
use Rattle.flow_graph.specs.WellFormed.{IsEdge, IsGraph, max_slots}
use Rattle.flow_build.specs.declared.layout.Layout.{Layout}
use Rattle.flow_build.specs.steps.Building.{statements_literals_fit}
use Rattle.flow_build.specs.steps.Operands.{constant_lin}
use Rattle.flow_build.specs.steps.Blocks.{edges_of, one, opening_blocks, exit_node, fail_node, end_node, return_node, entry_node, body_node, first_free}
use Rattle.flow_build.specs.steps.Layouts.{global_slots}
use Rattle.flow_build.specs.steps.Lowering.{statement_blocks}
use Rattle.flow_build.specs.steps.Procedures.{layout_of, free_slot, procedure_blocks, procedure_edges, nodes_of_procedure, slots_of_procedure, opening_of, entries_of, IsGraphOf, AreGraphsOf}
use Rattle.flow_build.specs.Promises.{IsBoundedEdge, IsBounded, AreBounded, statements_divisors}
use Rattle.flow_build.proofs.Translated.{AllPlain}
use Rattle.flow_build.proofs.Plain.{kept, body_plain}
use Rattle.flow_build.proofs.Numbered.{graph_of}
use Rattle.flow_build.proofs.SameRuns.{AllFit}
use Rattle.flow_build.proofs.Sizes.{procedure_size, few_slots_all}
use Rattle.flow_build.proofs.Divisors.{IsSmall, divisors_small}
use Rattle.flow_build.proofs.Fine.{Fine, fine_edge, IsSource, IsInner, inner_source, assign_fine, no_rows, guard_fine, constant_lin_is, IsDivisorHere, AllFine, fine_at}
use Rattle.flow_build.proofs.FineForms.{blocks_both}
use Rattle.flow_build.proofs.FineStatements.{enough, returned_fine, statement_fine}

-- A procedure of a program that opens with these values and has the given number of entry values:
module _ (P : PureProgram) (p : PureProcedure) (opening : List ℤ) (entries : ℕ) where
  abbrev n : ℕ
  n = length P.globals

  abbrev L : Layout
  L = layout_of n p

  abbrev N : ℕ
  N = nodes_of_procedure n opening p

  abbrev S : ℕ
  S = slots_of_procedure n p

  abbrev t : ℕ
  t = free_slot n p

  abbrev Inner : ℕ → Type 0
  Inner m = IsInner n p.body N S m

  abbrev Source : ℕ → Type 0
  Source m = IsSource n p.body N S m

  named_inner : (m : ℕ) → 2 ≤ m → m < 6 → (m ≡ entry_node → ⊥) → Inner m
  named_inner m a b ne = record { below = omega arith; above = a; apart = ne }

  end_inner : Inner end_node
  end_inner = named_inner end_node (omega arith) (omega arith) (λ q. omega arith)

  return_inner : Inner return_node
  return_inner = named_inner return_node (omega arith) (omega arith) (λ q. omega arith)

  body_inner : Inner body_node
  body_inner = named_inner body_node (omega arith) (omega arith) (λ q. omega arith)

  entry_source : Source entry_node
  entry_source = record { below = omega arith; above = omega arith }

  a_slot : t < S
  a_slot = omega arith

  opening_fine : (from to lo x : ℕ) (zs : List ℤ) → Source from → Inner to → 6 ≤ lo → lo + length zs ≤ N → x + length zs ≤ S →
      AllFine n p.body N S (edges_of (opening_blocks from to lo x zs))
  opening_fine from to lo x [] s i a b c = (guard_fine n p.body N S from to [] s i (no_rows n p.body N S), tt)
  opening_fine from to lo x (z ∷ zs) s i a b c =
      let next : Inner lo = record { below = omega arith; above = omega arith; apart = λ q. omega arith } in (
        assign_fine n p.body N S from lo x (constant_lin z) s next (omega arith) (constant_lin_is n p.body N S z),
        opening_fine lo to (lo + 1) (x + 1) zs (inner_source n p.body N S lo next) i (omega arith) (omega arith) (omega arith),
      )

  divides_here : (c : ℤ) → IsTrue (statements_divide_by_literals p.body) → Contains (statements_divisors p.body) c →
      IsDivisorHere n p.body N S c
  divides_here c d h =
      let small = All-contains (λ c. IsSmall c) (statements_divisors p.body) c (divisors_small p.body d) h in
      record { there = inr h; some = small.0; few = small.1 }

  module _ (plain : AllPlain P L p.slots p.body) (divides : IsTrue (statements_divide_by_literals p.body)) (params : p.params ≤ p.slots)
      (opens : length opening ≤ n) where
    -- all edges but the entry
    procedure_fine : AllFine n p.body N S (edges_of (procedure_blocks n opening p))
    procedure_fine =
        let low = enough P L p.slots params p.body N S (omega arith) a_slot in
        let first = opening_blocks entry_node body_node first_free 0 opening in
        let body = statement_blocks L p.gives t (block p.body) body_node end_node end_node end_node (first_free + length opening) in
        let leave = one return_node (Return return_node exit_node (t ∷ global_slots L)) ∷ body in
        let finish = Assign end_node return_node t (constant_lin (pos 0)) in
        blocks_both P L p.body N S t low first (one end_node finish ∷ leave)
        (opening_fine entry_node body_node first_free 0 opening entry_source body_inner (omega arith) (omega arith) (omega arith)) (
          assign_fine n p.body N S end_node return_node t (constant_lin (pos 0)) (inner_source n p.body N S end_node end_inner) return_inner
              a_slot (constant_lin_is n p.body N S (pos 0)),
          (
            returned_fine P L p.slots params p.body N S (omega arith) a_slot true return_node t return_inner a_slot,
            statement_fine P L p.slots params p.body N S (omega arith) a_slot p.gives (block p.body) plain
                (record { factor = λ c h. inr (inr (inl h)); divisor = λ c h. divides_here c divides h; call = λ q m h. h }) body_node
                end_node end_node end_node (first_free + length opening) body_inner end_inner end_inner end_inner
                (record { fresh = omega arith; few_nodes = omega arith; above_vars = omega arith; few_slots = omega arith }),
          ),
        )

    edges_kept : entries ≤ p.params + n → S ≤ max_slots → (i : ℕ) (e : Edge) → slice_get (procedure_edges n opening entries p) i ≡ Some e →
        IsEdge N exit_node fail_node (1 + n) S e
    edges_kept enters few zero e h =
        let q : Entry entry_node entries ≡ e = cc in
        let E : Edge → Type 0 = λ x. IsEdge N exit_node fail_node (1 + n) S x in
        subst E q (record {
          leaves = λ m s. absurd cc;
          in_range = omega arith;
          slots_named = le-leb entries S (omega (arith, enters, params));
          lists = refl;
          terms = refl;
          to_exit = refl;
          to_fail = refl;
        })
    edges_kept enters few (suc i) e h =
        fine_edge n p.body N S few e (fine_at n p.body N S (edges_of (procedure_blocks n opening p)) i e procedure_fine h)

    later : (i : ℕ) (e : Edge) → 0 < i → slice_get (procedure_edges n opening entries p) i ≡ Some e → Fine n p.body N S e
    later zero e lt h = absurd (omega arith)
    later (suc i) e lt h = fine_at n p.body N S (edges_of (procedure_blocks n opening p)) i e procedure_fine h

    edge_bounded : (i : ℕ) (e : Edge) → slice_get (procedure_edges n opening entries p) i ≡ Some e → IsBoundedEdge n p.body e
    edge_bounded zero e h =
        let q : Entry entry_node entries ≡ e = cc in
        let B : Edge → Type 0 = λ x. IsBoundedEdge n p.body x in
        subst B q tt
    edge_bounded (suc i) e h = (fine_at n p.body N S (edges_of (procedure_blocks n opening p)) i e procedure_fine h).bounded

  -- The edges of a procedure make a graph.
  pub graph_kept : IsTrue (is_well_formed_procedure P p) → IsTrue (all_linear p.body) → IsTrue (statements_divide_by_literals p.body) →
      IsTrue (statements_literals_fit p.body) → n ≤ 16 → length opening ≤ n → entries ≤ p.params + n →
      IsGraph N exit_node fail_node entries (1 + n) S (procedure_edges n opening entries p)
  graph_kept well linear divides literals few opens enters =
      let plain = body_plain P p well linear divides literals in
      let k = kept P p well in
      let params = k.params_in_slots in
      let small = k.few_slots in
      let short = k.few_nodes in
      let s = few_slots_all L p.body in
      record {
        exit_named = omega arith;
        fail_named = omega arith;
        two_ends = λ q. omega arith;
        params_in_slots = omega (arith, enters, params);
        few_exits = omega (arith, few);
        few_slots = omega (arith, s, small, short, few);
        are_edges = edges_kept plain divides params opens enters (omega (arith, s, small, short, few));
        begins = eq-eqb entries entries refl;
        one_entry = λ i e lt h. (later plain divides params opens i e lt h).inner;
        alone = λ i e lt h. (later plain divides params opens i e lt h).apart;
      }

-- The graph of a procedure is bounded.

few_opening : (P : PureProgram) (b : Bool) → length (cond b P.globals []) ≤ length P.globals
few_opening P true = omega arith
few_opening P false = omega arith

pub bounded : (P : PureProgram) (i : ℕ) (p : PureProcedure) (g : Graph) → IsTrue (is_well_formed_procedure P p) →
    IsTrue (all_linear p.body) →
    IsTrue (statements_divide_by_literals p.body) → IsTrue (statements_literals_fit p.body) → length P.globals ≤ 16 → IsGraphOf P i p g →
    IsBounded P i p g
bounded P i p g well linear divides literals few h =
    let plain = body_plain P p well linear divides literals in
    let k = kept P p well in
    let opening = opening_of P i in
    let entries = entries_of P i p in
    let short : length opening ≤ length P.globals = few_opening P (i == P.main) in
    record {
      params = h.params;
      exits = h.exits;
      few_edges = let a = procedure_size (length P.globals) opening entries p (omega (arith, short, few)) in let b = ap length h.edges in
          omega (arith, a, b);
      edges = λ j e at. edge_bounded P p opening entries plain divides k.params_in_slots short j e
          (ap (λ es. slice_get es j) (sym h.edges) ∙ at);
    }

same_length : (P : PureProgram) (k : ℕ) (ps : List PureProcedure) (gs : List Graph) → AreGraphsOf P k ps gs → length gs ≡ length ps
same_length P k [] [] are = refl
same_length P k [] (g ∷ gs) are = absurd are
same_length P k (p ∷ ps) [] are = absurd are
same_length P k (p ∷ ps) (g ∷ gs) are = ap suc (same_length P (suc k) ps gs are.1)

some_is : (x y : Graph) → Some x ≡ Some y → x ≡ y
some_is x y e = cc

-- Literals are values, and divisors are literals.
module _ (P : PureProgram) (well : IsWellFormed P) (divides : DividesByLiterals P) (gs : List Graph)
    (graphs : AreGraphsOf P 0 P.procedures gs)
    (literals : AllFit P.procedures) where
  -- the graph of a number is that of its procedure, and is bounded
  pub procedure_bounded : (i : ℕ) (p : PureProcedure) (g : Graph) → slice_get P.procedures i ≡ Some p → IsGraphOf P i p g →
      IsBounded P i p g
  procedure_bounded i p g e h = bounded P i p g (well.procedures_well_formed i p e) (well.products_linear i p e) (divides i p e)
      (literals i p e) well.few_globals h

  pub all_bounded : AreBounded P gs
  all_bounded = record {
    each_procedure = same_length P 0 P.procedures gs graphs;
    bounded = λ i p g e k.
        let found = graph_of P gs graphs i p e in
        let q : found.0 ≡ g = some_is found.0 g (sym found.1 ∙ k) in
        procedure_bounded i p g e (subst (IsGraphOf P i p) q found.2);
  }
