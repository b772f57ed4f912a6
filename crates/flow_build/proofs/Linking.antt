-- The graphs of a well-formed program fit together: the procedure of each call exists, takes its
-- arguments, and gives as many results.
use Rattle.std.proofs.Common.{◌≡◌, ℕ, Bool, true, false, ◌||◌, ◌&&◌, ◌==◌, List, length, Option, None, Some, IsTrue, ◌+◌, cond, refl, sym, ap, ◌∙◌, subst, ◌⊎◌, inl, inr}
use Rattle.std.specs.Prelude.{slice_get, nat_lt, not as not_bool}
use Rattle.std.proofs.lemmas.Bool.{eqb-true, eq-eqb}
use Rattle.c_tree.specs.Syntax.{Expression, literal, read, read_global, input, call, negate, not as not_of, binary, Expressions, no_expressions, expression, Statement, block, set, set_global, ignore, assume, assert, if_else, loop, do_while, break, continue, return, Statements, no_statements, statement, PureProcedure, PureProgram}
use Rattle.c_tree.specs.WellFormed.{count, takes, is_well_scoped, are_well_scoped, returns_well_scoped, runs_well_scoped, all_well_scoped, IsWellFormed, DividesByLiterals}
use Rattle.flow_graph.specs.Calls.{call_edge}
use Rattle.flow_graph.specs.declared.graph.Graph.{Graph}
use Rattle.flow_graph.specs.Linked.{AreGraphs}
use Rattle.flow_graph.specs.Linked as linked
use Rattle.flow_build.specs.steps.Procedures.{entries_of, AreGraphsOf}
use Rattle.linear_formula.proofs.Limits.{both_in}
use Rattle.flow_build.specs.Promises.{calls, calls_any, result_calls, statement_calls, statements_call}
use Rattle.flow_build.proofs.FormMeaning.{IsCallable}
use Rattle.flow_build.proofs.Numbered.{procedure_of, graph_of}
use Rattle.flow_build.proofs.Plain.{and_both, kept}
use Rattle.flow_build.proofs.SameRuns.{AllFit}
use Rattle.flow_build.proofs.Facts.{procedure_bounded}

and_left : (a b : Bool) → IsTrue (a && b) → IsTrue a
and_left true b h = refl
and_left false b h = cc

and_right : (a b : Bool) → IsTrue (a && b) → IsTrue b
and_right true b h = h
and_right false b h = cc

or_cases : (a b : Bool) → IsTrue (a || b) → IsTrue a ⊎ IsTrue b
or_cases true b h = inl refl
or_cases false b h = inr h

-- In a procedure with the given number of slots, where a procedure is called with the given number of arguments:
module _ (P : PureProgram) (slots q n : ℕ) where
  abbrev Takes : Type 0
  Takes = IsCallable P q n

  by_either : (a b c d : Bool) → (IsTrue a → IsTrue c → Takes) → (IsTrue b → IsTrue d → Takes) → IsTrue (a && b) → IsTrue (c || d) → Takes
  by_either a b c d f g s h = on (or_cases c d h)
    where
      on : IsTrue c ⊎ IsTrue d → Takes
      on (inl x) = f (and_left a b s) x
      on (inr x) = g (and_right a b s) x

  at_call : (p : ℕ) (es : Expressions) → IsTrue (takes (slice_get P.procedures p) (count es) && not_bool (p == P.main)) →
      IsTrue (p == q && count es == n) → Takes
  at_call p es h k =
      let same : p ≡ q = eqb-true p q (and_left (p == q) (count es == n) k) in
      let many : count es ≡ n = eqb-true (count es) n (and_right (p == q) (count es == n) k) in
      let able : IsCallable P p (count es) = and_both (takes (slice_get P.procedures p) (count es)) (not_bool (p == P.main)) h in
      subst (λ x. IsCallable P q x) many (subst (λ x. IsCallable P x (count es)) same able)

  mutual
    expression_takes : (e : Expression) → IsTrue (is_well_scoped P slots e) → IsTrue (calls q n e) → Takes
    expression_takes (literal m) s h = absurd cc
    expression_takes (read x) s h = absurd cc
    expression_takes (read_global y) s h = absurd cc
    expression_takes input s h = absurd cc
    expression_takes (call p es) s h =
        by_either (takes (slice_get P.procedures p) (count es) && not_bool (p == P.main)) (are_well_scoped P slots es)
        (p == q && count es == n) (calls_any q n es)
        (λ x y. at_call p es x y)
        (λ x y. expressions_take es x y) s h
    expression_takes (negate e) s h = expression_takes e s h
    expression_takes (not_of e) s h = expression_takes e s h
    expression_takes (binary op a b) s h = by_either (is_well_scoped P slots a) (is_well_scoped P slots b) (calls q n a) (calls q n b)
        (λ x y. expression_takes a x y) (λ x y. expression_takes b x y) s h

    expressions_take : (es : Expressions) → IsTrue (are_well_scoped P slots es) → IsTrue (calls_any q n es) → Takes
    expressions_take no_expressions s h = absurd cc
    expressions_take (expression e es) s h = by_either (is_well_scoped P slots e) (are_well_scoped P slots es) (calls q n e)
        (calls_any q n es) (λ x y. expression_takes e x y) (λ x y. expressions_take es x y) s h

  result_takes : (o : Option Expression) → IsTrue (returns_well_scoped P slots o) → IsTrue (result_calls q n o) → Takes
  result_takes None s h = absurd cc
  result_takes (Some e) s h = expression_takes e s h

  mutual
    statement_takes : (l : Bool) (a : Statement) → IsTrue (runs_well_scoped P slots l a) → IsTrue (statement_calls q n a) → Takes
    statement_takes l (block ss) s h = statements_take l ss s h
    statement_takes l (set x e) s h = expression_takes e (and_right (nat_lt x slots) (is_well_scoped P slots e) s) h
    statement_takes l (set_global y e) s h =
        expression_takes e (and_right (nat_lt y (length P.globals)) (is_well_scoped P slots e) s) h
    statement_takes l (ignore e) s h = expression_takes e s h
    statement_takes l (assume e) s h = expression_takes e s h
    statement_takes l (assert id e) s h = expression_takes e (and_right (nat_lt id (length P.asserts)) (is_well_scoped P slots e) s) h
    statement_takes l (if_else e a b) s h =
        by_either (is_well_scoped P slots e && runs_well_scoped P slots l a) (runs_well_scoped P slots l b)
        (calls q n e || statement_calls q n a) (statement_calls q n b)
        (λ x y. by_either (is_well_scoped P slots e) (runs_well_scoped P slots l a) (calls q n e) (statement_calls q n a)
        (λ i j. expression_takes e i j) (λ i j. statement_takes l a i j) x y)
        (λ x y. statement_takes l b x y) s h
    statement_takes l (loop e step body) s h =
        by_either (is_well_scoped P slots e && runs_well_scoped P slots true step) (runs_well_scoped P slots true body)
        (calls q n e || statement_calls q n step) (statement_calls q n body)
        (λ x y. by_either (is_well_scoped P slots e) (runs_well_scoped P slots true step) (calls q n e) (statement_calls q n step)
        (λ i j. expression_takes e i j) (λ i j. statement_takes true step i j) x y)
        (λ x y. statement_takes true body x y) s h
    statement_takes l (do_while body e) s h = by_either (runs_well_scoped P slots true body) (is_well_scoped P slots e)
        (statement_calls q n body) (calls q n e) (λ x y. statement_takes true body x y) (λ x y. expression_takes e x y) s h
    statement_takes l break s h = absurd cc
    statement_takes l continue s h = absurd cc
    statement_takes l (return o) s h = result_takes o s h

    statements_take : (l : Bool) (ss : Statements) → IsTrue (all_well_scoped P slots l ss) → IsTrue (statements_call q n ss) → Takes
    statements_take l no_statements s h = absurd cc
    statements_take l (statement a ss) s h = by_either (runs_well_scoped P slots l a) (all_well_scoped P slots l ss) (statement_calls q n a)
        (statements_call q n ss) (λ x y. statement_takes l a x y) (λ x y. statements_take l ss x y) s h

-- of a procedure other than `main` there is the given number of entry values
entries_by : (m k : ℕ) (b : Bool) → IsTrue (not_bool b) → cond b m k ≡ k
entries_by m k true h = absurd cc
entries_by m k false h = refl

-- Literals are values, and divisors are literals.
module _ (P : PureProgram) (well : IsWellFormed P) (divides : DividesByLiterals P) (gs : List Graph)
    (graphs : AreGraphsOf P 0 P.procedures gs)
    (literals : AllFit P.procedures) where
  -- what the graph of a procedure takes and gives
  graph_takes : (q arguments n m : ℕ) (o : Option PureProcedure) → slice_get P.procedures q ≡ o → IsTrue (takes o arguments) →
      IsTrue (not_bool (q == P.main)) → n ≡ arguments + length P.globals → m ≡ 1 + length P.globals →
      IsTrue (linked.takes (slice_get gs q) n m)
  graph_takes q arguments n m None e h apart many as_many = absurd cc
  graph_takes q arguments n m (Some p) e h apart many as_many =
      let found = graph_of P gs graphs q p e in
      let g = found.0 in
      let F : Option Graph → Type 0 = λ o. IsTrue (linked.takes o n m) in
      let params : p.params ≡ arguments = eqb-true p.params arguments h in
      let entries : entries_of P q p ≡ p.params + length P.globals = entries_by 0 (p.params + length P.globals) (q == P.main) apart in
      let takes_all : g.params ≡ n = found.2.params ∙ entries ∙ ap (λ k. k + length P.globals) params ∙ sym many in
      let gives_all : g.exits ≡ m = found.2.exits ∙ sym as_many in
      subst F (sym found.1) (both_in (g.params == n) (g.exits == m) (eq-eqb g.params n takes_all) (eq-eqb g.exits m gives_all))

  pub graphs_kept : AreGraphs gs
  graphs_kept k g h i from to site at =
      let found = procedure_of P gs graphs k g h in
      let p = found.0 in
      let called = (procedure_bounded P well divides gs graphs literals k p g found.1 found.2).edges i (call_edge from to site) at in
      let sound = (kept P p (well.procedures_well_formed k p found.1)).sound in
      let able = statements_take P p.slots site.procedure called.0 false p.body sound called.3 in
      graph_takes site.procedure called.0 (length site.arguments) (length site.results) (slice_get P.procedures site.procedure) refl able.0
      able.1 called.1 called.2
