-- The runs of a program and of its graphs are one relation.
use Rattle.std.proofs.Common.{◌≡◌, ℕ, zero, suc, ◌+◌, ◌==◌, Bool, true, false, List, [], ◌∷◌, ◌++◌, length, Option, Some, None, ℤ, cond, drop, take, arith, refl, sym, ap, subst, ◌∙◌}
use Rattle.std.specs.Prelude.{◌↔◌, slice_get, IsTrue, if◌then◌else◌}
use Rattle.std.proofs.lemmas.Bool.{eqb-true, eq-eqb}
use Rattle.std.proofs.lemmas.List.{take-append-drop, length-take-le, length-drop, nil_from_length}
use Rattle.c_tree.specs.Syntax.{PureProcedure, PureProgram}
use Rattle.c_tree.specs.Meaning.{MayBegin}
use Rattle.c_tree.specs.WellFormed.{takes}
use Rattle.flow_graph.specs.declared.graph.Graph.{Graph}
use Rattle.flow_graph.specs.Columns.{AreAllValues}
use Rattle.flow_graph.specs.Runs.{came, End, EntersGraph, GraphRun, GraphRuns, entry_list}
use Rattle.flow_graph.proofs.Values.{run_values}
use Rattle.flow_graph.specs.ProgramGraphs.{MayTake}
use Rattle.summary_form.specs.declared.summary.Summary.{Summary}
use Rattle.summary_form.specs.Runs.{Arity}
use Rattle.summary_form.specs.Instances.{graph_runs, arity_in, program_runs, arity_of_procedure, arity_of_program}
use Rattle.summary_form.specs.Answering.{SummaryHolds}
use Rattle.summary_form.specs.Laws.{HasValues, AnsweredHasNoRun}
use Rattle.summary_form.proofs.Summaries.{Within, answered, one_meaning}
use Rattle.summary_keep.specs.Laws.{HasGraphs}

-- a list as long as another one has an element where that has one
same_place : {A : Type 0} {B : Type 0} → (xs : List A) (ys : List B) → length xs ≡ length ys → (i : ℕ) (y : B) → slice_get xs i ≡ None →
    slice_get ys i ≡ Some y → ⊥
same_place [] [] e i y h k = cc
same_place [] (z ∷ ys) e i y h k = absurd (let no : 0 ≡ suc (length ys) = e in cc)
same_place (x ∷ xs) [] e i y h k = absurd (let no : suc (length xs) ≡ 0 = e in cc)
same_place (x ∷ xs) (z ∷ ys) e zero y h k = cc
same_place (x ∷ xs) (z ∷ ys) e (suc i) y h k = same_place xs ys (let q : suc (length xs) ≡ suc (length ys) = e in cc) i y h k

-- values one after another
front : (xs ys : List ℤ) → AreAllValues (xs ++ ys) → AreAllValues xs
front [] ys h i = refl
front (x ∷ xs) ys h zero = h zero
front (x ∷ xs) ys h (suc i) = front xs ys (λ j. h (suc j)) i

back : (xs ys : List ℤ) → AreAllValues (xs ++ ys) → AreAllValues ys
back [] ys h = h
back (x ∷ xs) ys h = back xs ys (λ j. h (suc j))

none_taken : (o : Option PureProcedure) (n : ℕ) → IsTrue (takes o n) → IsTrue (takes o 0) → n ≡ 0
none_taken None n h k = absurd (let no : false ≡ true = h in cc)
none_taken (Some q) n h k = sym (eqb-true q.params n h) ∙ eqb-true q.params 0 k

pub choice : (m : Bool) (a b : ℕ) → (if m then a else b) ≡ cond m a b
choice true a b = refl
choice false a b = refl

no_false : false ≡ true → ⊥
no_false h = cc

module _ (P : PureProgram) (gs : List Graph) (are : HasGraphs P gs) where
  abbrev globals : ℕ
  globals = length P.globals

  pub same_arity : (p : ℕ) → arity_of_program P p ≡ arity_in gs p
  same_arity p = sym (are.arities.arities p)

  -- What a run of the program takes

  both_values : (p : ℕ) (args before entry : List ℤ) → IsTrue (takes (slice_get P.procedures p) (length args)) → MayBegin P p before →
      entry ≡ entry_list P p args before → AreAllValues entry → AreAllValues args × AreAllValues before
  both_values p args before entry many begins enters values = by_name (p == P.main) refl where
    by_name : (m : Bool) → (p == P.main) ≡ m → AreAllValues args × AreAllValues before
    by_name true h =
        let named : p ≡ P.main = eqb-true p P.main h in
        let none : args ≡ [] = nil_from_length args (none_taken (slice_get P.procedures p) (length args) many
        (subst (λ x. IsTrue (takes (slice_get P.procedures x) 0)) (sym named) are.main_takes_none)) in (
          subst AreAllValues (sym none) (λ i. refl),
          subst AreAllValues (sym (begins.opening named)) are.opening,
        )
    by_name false h =
        let all : AreAllValues (args ++ before) = subst AreAllValues (enters ∙ ap (λ m. cond m [] (args ++ before)) h) values in
        (front args before all, back args before all)

  pub to_graphs : Within (program_runs P) (graph_runs gs)
  to_graphs d p entry ins end r =
      let begins = r.run.4 in
      let values = both_values p r.args r.before entry r.takes begins r.enters r.values in
      let may : MayTake P p r.args r.before = record {
        arguments = r.takes;
        begins = begins;
        values = values.0;
        global_values = values.1;
      }
      in
      record {
        count = r.count ∙ ap (λ (a : Arity). a.entries) (same_arity p);
        values = r.values;
        run = subst (λ l. GraphRuns gs d p l ins end) (sym r.enters)
            (subst (λ e. GraphRuns gs d p (entry_list P p r.args r.before) ins e) (sym r.comes_out)
            (are.runs.program_to_graphs d p r.args r.before ins r.outcome r.after may r.run));
      }

  -- What a run of its graph takes

  there : (d p : ℕ) (args ins : List ℤ) (end : End) → GraphRuns gs d p args ins end → (g : Graph) × (slice_get gs p ≡ Some g)
  there zero p args ins end f = absurd f
  there (suc d) p args ins end f = by_place (slice_get gs p) refl where
    by_place : (o : Option Graph) → slice_get gs p ≡ o → (g : Graph) × (o ≡ Some g)
    by_place None h = absurd (subst (λ (o : Option Graph). EntersGraph (GraphRun gs d) o args ins [] end) h f)
    by_place (Some g) h = (g, refl)

  procedure : (p : ℕ) (g : Graph) → slice_get gs p ≡ Some g → (q : PureProcedure) × (slice_get P.procedures p ≡ Some q)
  procedure p g at = by_place (slice_get P.procedures p) refl where
    by_place : (o : Option PureProcedure) → slice_get P.procedures p ≡ o → (q : PureProcedure) × (o ≡ Some q)
    by_place None h = absurd (same_place P.procedures gs (sym are.arities.each_procedure) p g h at)
    by_place (Some q) h = (q, refl)

  -- the lists that an entry list is made of
  record IsParted (p : ℕ) (entry : List ℤ) : Type 0 where
    args : List ℤ
    before : List ℤ
    many : IsTrue (takes (slice_get P.procedures p) (length args))
    begins : MayBegin P p before
    enters : entry ≡ entry_list P p args before

  parted : (p : ℕ) (entry : List ℤ) (q : PureProcedure) → slice_get P.procedures p ≡ Some q →
      length entry ≡ (arity_of_program P p).entries → IsParted p entry
  parted p entry q at count = by_name (p == P.main) refl where
    entries : (m : Bool) → (p == P.main) ≡ m → length entry ≡ cond m 0 (q.params + globals)
    entries m h =
        count ∙ ap (λ (o : Option PureProcedure). (arity_of_procedure (p == P.main) globals o).entries) at
        ∙ choice (p == P.main) 0 (q.params + globals) ∙ ap (λ b. cond b 0 (q.params + globals)) h

    by_name : (m : Bool) → (p == P.main) ≡ m → IsParted p entry
    by_name true h =
        let named : p ≡ P.main = eqb-true p P.main h in
        record {
          args = [];
          before = P.globals;
          many = subst (λ x. IsTrue (takes (slice_get P.procedures x) 0)) (sym named) are.main_takes_none;
          begins = record { count = refl; opening = λ e. refl };
          enters = nil_from_length entry (entries true h) ∙ ap (λ m. cond m [] ([] ++ P.globals)) (sym h);
        }
    by_name false h =
        let all : length entry ≡ q.params + globals = entries false h in
        let first : length (take q.params entry) ≡ q.params = length-take-le q.params entry (omega (arith, all)) in
        let rest : length (drop q.params entry) ≡ globals = length-drop q.params entry ∙ omega (arith, all) in
        record {
          args = take q.params entry;
          before = drop q.params entry;
          many = subst (λ (o : Option PureProcedure). IsTrue (takes o (length (take q.params entry)))) (sym at)
              (subst (λ n. IsTrue (q.params == n)) (sym first) (eq-eqb q.params q.params refl));
          begins = record {
            count = rest;
            opening = λ e. absurd (no_false (sym h ∙ subst (λ x. (p == x) ≡ true) e (eq-eqb p p refl)));
          };
          enters = sym (take-append-drop q.params entry)
              ∙ ap (λ m. cond m [] (take q.params entry ++ drop q.params entry)) (sym h);
        }

  pub to_program : Within (graph_runs gs) (program_runs P)
  to_program d p entry ins end r =
      let g = there d p entry ins end r.run in
      let q = procedure p g.0 g.1 in
      let count : length entry ≡ (arity_of_program P p).entries = r.count ∙ ap (λ (a : Arity). a.entries) (sym (same_arity p)) in
      let part = parted p entry q.0 q.1 count in
      let values = both_values p part.args part.before entry part.many part.begins part.enters r.values in
      let may : MayTake P p part.args part.before = record {
        arguments = part.many;
        begins = part.begins;
        values = values.0;
        global_values = values.1;
      }
      in
      let out = are.runs.graphs_to_program d p part.args part.before ins end may
      (subst (λ l. GraphRuns gs d p l ins end) part.enters r.run)
      in
      record {
        args = part.args;
        before = part.before;
        takes = part.many;
        enters = part.enters;
        count = count;
        values = r.values;
        outcome = out.0;
        after = out.1;
        comes_out = out.2;
        run = out.3;
      }

  pub program_values : HasValues (program_runs P)
  program_values = record {
    taken = λ d p args ins end r. r.values;
    returned = λ d p args ins values r.
        let g = to_graphs d p args ins (came values) r in
        run_values gs d p args ins [] (came values) g.values g.run;
  }

  pub same_summaries : (s : Summary) → SummaryHolds (program_runs P) (arity_of_program P) s ↔ SummaryHolds (graph_runs gs) (arity_in gs) s
  same_summaries s = one_meaning (program_runs P) (graph_runs gs) (arity_of_program P) (arity_in gs) to_graphs to_program same_arity s

  pub program_answered : AnsweredHasNoRun (program_runs P)
  program_answered = answered (program_runs P) program_values
