-- What is kept holds of the new program.
use Rattle.std.proofs.Common.{◌≡◌, ◌==◌, ℕ, ◌+◌, List, [], ◌++◌, length, cond, Option, Some, None, ℤ, refl, sym, ◌∙◌, subst, ap, IsTrue}
use Rattle.std.specs.Cmp.{both_ways}
use Rattle.std.specs.Prelude.{slice_get, if◌then◌else◌}
use Rattle.std.specs.Option.{option_map}
use Rattle.std.proofs.lemmas.Option.{same_Some, none-some}
use borrow.Author.Tests.{eqb-true, eq-eqb}
use Rattle.c_tree.specs.Syntax.{PureProgram}
use Rattle.c_tree.specs.Meaning.{Outcome, Returned, Stopped, Failed}
use Rattle.c_tree.specs.WellFormed.{IsWellFormed, takes}
use Rattle.flow_graph.specs.Runs.{came, stopped, failed, entry_list, exit_list, end_of}
use Rattle.summary_form.specs.declared.query.Query.{Query}
use Rattle.summary_form.specs.declared.query.ExitKind.{ExitKind}
use Rattle.summary_form.specs.declared.query.ExitKind.TheVariants.{Return, Fail}
use Rattle.summary_form.specs.declared.path.Path.{Path}
use Rattle.summary_form.specs.declared.summary.Summary.{Summary}
use Rattle.summary_form.specs.declared.summary.Summary.TheVariants.{NotMay, Must}
use Rattle.summary_form.specs.Answering.{SummaryHolds}
use Rattle.summary_form.specs.Instances.{ProgramRunOf, program_runs, arity_of_program, arity_of_procedure}
use Rattle.summary_form.specs.Musts.{MustHolds, values_of}
use Rattle.summary_form.specs.NotMays.{NotMayHolds, Meets, read_with}
use Rattle.summary_form.specs.Runs.{Arity, end_with, exits_of}
use Rattle.summary_keep.specs.Matching.{Related, IsMatching, CorrespondIn}
use Rattle.summary_keep.specs.Keeping.{number_in, related_by, IsMatchingOf, both_of, new_exit, renumbered}
use Rattle.summary_keep.specs.Laws.{SameOutcome, KeptHold}
use Rattle.summary_keep.proofs.Kept.{keeps_runs, no_other_runs}
use Rattle.summary_keep.proofs.Single.{single}

module _ (P Q : PureProgram) (fp : IsWellFormed P) (fq : IsWellFormed Q) (procs asserts : List (Option ℕ))
    (m : IsMatchingOf P Q procs asserts)
  where
    abbrev R : Related
    R = related_by procs

    abbrev A : ℕ → ℕ → Type 0
    A = CorrespondIn P Q R

    is : IsMatching P Q R
    is = m.greatest.matches

    abbrev SameExit : ExitKind → ExitKind → Type 0
    SameExit Return y = y ≡ Return
    SameExit (Fail a) y = (b : ℕ) × A a b × (y ≡ Fail b)

    same_exit : (x y : ExitKind) → new_exit asserts x ≡ Some y → SameExit x y
    same_exit Return y e = sym (same_Some Return y e)
    same_exit (Fail a) y e = by_number (number_in asserts a) refl (e) where
      by_number : (o : Option ℕ) → number_in asserts a ≡ o → option_map Fail o ≡ Some y → SameExit (Fail a) y
      by_number None f g = absurd (none-some y g)
      by_number (Some b) f g = (b, (m.corresponding a b).0 f, sym (same_Some (Fail b) y g))

    is_related : (p q : ℕ) → number_in procs p ≡ Some q → IsTrue (R p q)
    is_related p q e = rw e (eq-eqb q q refl)

    -- the ends of runs
    id_of : (a b : ℕ) → failed a ≡ failed b → a ≡ b
    id_of a b e = cc

    -- a new end of this exit is that of an old one
    back_end : (out new : Outcome) (after : List ℤ) → SameOutcome A out new → (x y : ExitKind) → SameExit x y → (values : List ℤ) →
        end_with y values ≡ end_of new after → end_with x values ≡ end_of out after
    back_end (Returned v) new after s Return y e values c =
        subst (λ z. end_with z values ≡ end_of (Returned v) after) e (c ∙ ap (λ z. end_of z after) s)
    back_end (Returned v) new after s (Fail a) y e values c =
        let clash : failed e.0 ≡ end_of (Returned v) after = subst (λ z. end_with z values ≡ end_of (Returned v) after) e.2
        (c ∙ ap (λ z. end_of z after) s) in absurd cc
    back_end Stopped new after s Return y e values c =
        let clash : came values ≡ stopped = subst (λ z. end_with z values ≡ end_of Stopped after) e (c ∙ ap (λ z. end_of z after) s) in
        absurd cc
    back_end Stopped new after s (Fail a) y e values c =
        let clash : failed e.0 ≡ stopped = subst (λ z. end_with z values ≡ end_of Stopped after) e.2 (c ∙ ap (λ z. end_of z after) s) in
        absurd cc
    back_end (Failed o) new after s Return y e values c =
        let clash : came values ≡ failed s.0 = subst (λ z. end_with z values ≡ failed s.0) e (c ∙ ap (λ z. end_of z after) s.2) in absurd cc
    back_end (Failed o) new after s (Fail a) y e values c =
        let same : failed e.0 ≡ failed s.0 = subst (λ z. end_with z values ≡ failed s.0) e.2 (c ∙ ap (λ z. end_of z after) s.2) in
        ap failed (single P Q fp fq R is a o s.0 (subst (A a) (id_of e.0 s.0 same) e.1) s.1)

    -- an old end of this exit becomes a new one
    on_end : (out new : Outcome) (after : List ℤ) → SameOutcome A out new → (x y : ExitKind) → SameExit x y → (values : List ℤ) →
        end_with x values ≡ end_of out after → end_with y values ≡ end_of new after
    on_end (Returned v) new after s Return y e values c = subst (λ z. end_with z values ≡ end_of new after) (sym e)
        (c ∙ ap (λ z. end_of z after) (sym s))
    on_end (Returned v) new after s (Fail a) y e values c = let clash : failed a ≡ came (exit_list v after) = c in absurd cc
    on_end Stopped new after s Return y e values c = let clash : came values ≡ stopped = c in absurd cc
    on_end Stopped new after s (Fail a) y e values c = let clash : failed a ≡ stopped = c in absurd cc
    on_end (Failed o) new after s Return y e values c = let clash : came values ≡ failed o = c in absurd cc
    on_end (Failed o) new after s (Fail a) y e values c =
        let same : a ≡ o = id_of a o c in
        let one : Some e.0 ≡ Some s.0 = sym ((m.corresponding a e.0).1 e.1) ∙ (m.corresponding a s.0).1
        (subst (λ z. A z s.0) (sym same) s.1)
        in
        subst (λ z. end_with z values ≡ end_of new after) (sym e.2) (ap failed (same_Some e.0 s.0 one) ∙ ap (λ z. end_of z after) (sym s.2))

    same_main : (p q : ℕ) → IsTrue (R p q) → (q == Q.main) ≡ (p == P.main)
    same_main p q h =
        let r = is.all p q h in
        both_ways (q == Q.main) (p == P.main) (λ k. eq-eqb p P.main (r.main.1 (eqb-true q Q.main k)))
        (λ k. eq-eqb q Q.main (r.main.0 (eqb-true p P.main k)))

    same_arity : (p q : ℕ) → IsTrue (R p q) → arity_of_program Q q ≡ arity_of_program P p
    same_arity p q h =
        let r = is.all p q h in
        let main = p == P.main in
        let globals = length P.globals in
        ap (arity_of_procedure (q == Q.main) (length Q.globals)) r.new_at
        ∙ (ap (λ m. arity_of_procedure m (length Q.globals) (Some r.new)) (same_main p q h)
        ∙ (ap (λ n. arity_of_procedure main n (Some r.new)) (sym r.globals.count)
        ∙ (ap (λ k. record { entries = if main then 0 else k + globals; exits = 1 + globals }) (sym r.same.params)
        ∙ sym (ap (arity_of_procedure main globals) r.old_at))))

    same_takes : (p q n : ℕ) → IsTrue (R p q) → takes (slice_get Q.procedures q) n ≡ takes (slice_get P.procedures p) n
    same_takes p q n h =
        let r = is.all p q h in
        ap (λ o. takes o n) r.new_at ∙ (ap (λ k. k == n) (sym r.same.params) ∙ sym (ap (λ o. takes o n) r.old_at))

    same_entry : (p q : ℕ) → IsTrue (R p q) → (args before : List ℤ) → entry_list Q q args before ≡ entry_list P p args before
    same_entry p q h args before = ap (λ m. cond m [] (args ++ before)) (same_main p q h)

    -- Runs of programs
    back_run : (p q : ℕ) → IsTrue (R p q) → (x y : ExitKind) → SameExit x y → (d : ℕ) (entry ins values : List ℤ) →
        ProgramRunOf Q d q entry ins (end_with y values) → ProgramRunOf P d p entry ins (end_with x values)
    back_run p q h x y e d entry ins values r =
        let o = no_other_runs P Q R is p q h d r.args r.before ins r.outcome r.after r.run in
        record {
          args = r.args;
          before = r.before;
          takes = subst (λ b. IsTrue b) (same_takes p q (length r.args) h) r.takes;
          enters = r.enters ∙ same_entry p q h r.args r.before;
          count = r.count ∙ ap (λ (a : Arity). a.entries) (same_arity p q h);
          values = r.values;
          outcome = o.0;
          after = r.after;
          comes_out = back_end o.0 r.outcome r.after o.1 x y e values r.comes_out;
          run = o.2;
        }

    on_run : (p q : ℕ) → IsTrue (R p q) → (x y : ExitKind) → SameExit x y → (d : ℕ) (entry ins values : List ℤ) →
        ProgramRunOf P d p entry ins (end_with x values) → ProgramRunOf Q d q entry ins (end_with y values)
    on_run p q h x y e d entry ins values r =
        let o = keeps_runs P Q R is p q h d r.args r.before ins r.outcome r.after r.run in
        record {
          args = r.args;
          before = r.before;
          takes = subst (λ b. IsTrue b) (sym (same_takes p q (length r.args) h)) r.takes;
          enters = r.enters ∙ sym (same_entry p q h r.args r.before);
          count = r.count ∙ ap (λ (a : Arity). a.entries) (sym (same_arity p q h));
          values = r.values;
          outcome = o.0;
          after = r.after;
          comes_out = on_end r.outcome o.0 r.after o.1 x y e values r.comes_out;
          run = o.2;
        }

    read_same : (x y : ExitKind) → SameExit x y → (values : List ℤ) → read_with y values ≡ read_with x values
    read_same Return y e values = subst (λ z. read_with z values ≡ values) (sym e) refl
    read_same (Fail a) y e values = subst (λ z. read_with z values ≡ []) (sym e.2) refl

    exits_same : (x y : ExitKind) → SameExit x y → (n : ℕ) → exits_of y n ≡ exits_of x n
    exits_same Return y e n = subst (λ z. exits_of z n ≡ n) (sym e) refl
    exits_same (Fail a) y e n = subst (λ z. exits_of z n ≡ 0) (sym e.2) refl

    not_may : (s : Query) (q : ℕ) (y : ExitKind) → IsTrue (R s.proc q) → SameExit s.exit y → NotMayHolds (program_runs P) s →
        NotMayHolds (program_runs Q) (record s { proc = q; exit = y })
    not_may s q y h e none = λ d args ins values r met.
        none d args ins values (back_run s.proc q h s.exit y e d args ins values r)
        (subst (λ xs. Meets s args xs) (read_same s.exit y e values) met)

    must : (t : Path) (q : ℕ) (y : ExitKind) → IsTrue (R t.proc q) → SameExit t.exit y → MustHolds (program_runs P)
        (arity_of_program P t.proc)
        t →
        MustHolds (program_runs Q) (arity_of_program Q q) (record t { proc = q; exit = y })
    must t q y h e k = record {
      entry_terms = k.entry_terms ∙ ap (λ (a : Arity). a.entries) (sym (same_arity t.proc q h));
      outcome_terms = k.outcome_terms ∙ (sym (exits_same t.exit y e (arity_of_program P t.proc).exits)
          ∙ ap (λ (a : Arity). exits_of y a.exits) (sym (same_arity t.proc q h)));
      gives_runs = λ v v64 g.
          let r = k.gives_runs v v64 g in
          (r.0, on_run t.proc q h t.exit y e r.0 (values_of v t.entry) (values_of v t.inputs) (values_of v t.outcome) r.1);
    }

    kept_not_may : (s : Query) (t : Summary) (o : Option ℕ) (x : Option ExitKind) → number_in procs s.proc ≡ o → new_exit asserts s.exit
        ≡ x →
        both_of o x (λ p y. NotMay (record s { proc = p; exit = y })) ≡ Some t → NotMayHolds (program_runs P) s →
        SummaryHolds (program_runs Q) (arity_of_program Q) t
    kept_not_may s t None x e f g none = absurd (none-some t g)
    kept_not_may s t (Some q) None e f g none = absurd (none-some t g)
    kept_not_may s t (Some q) (Some y) e f g none =
        subst (SummaryHolds (program_runs Q) (arity_of_program Q)) (same_Some (NotMay (record s { proc = q; exit = y })) t g)
        (not_may s q y (is_related s.proc q e) (same_exit s.exit y f) none)

    kept_must : (s : Path) (t : Summary) (o : Option ℕ) (x : Option ExitKind) → number_in procs s.proc ≡ o → new_exit asserts s.exit ≡ x →
        both_of o x (λ p y. Must (record s { proc = p; exit = y })) ≡ Some t → MustHolds (program_runs P) (arity_of_program P s.proc) s →
        SummaryHolds (program_runs Q) (arity_of_program Q) t
    kept_must s t None x e f g k = absurd (none-some t g)
    kept_must s t (Some q) None e f g k = absurd (none-some t g)
    kept_must s t (Some q) (Some y) e f g k =
        subst (SummaryHolds (program_runs Q) (arity_of_program Q)) (same_Some (Must (record s { proc = q; exit = y })) t g)
        (must s q y (is_related s.proc q e) (same_exit s.exit y f) k)

    holds : (s t : Summary) → renumbered procs asserts s ≡ Some t → SummaryHolds (program_runs P) (arity_of_program P) s →
        SummaryHolds (program_runs Q) (arity_of_program Q) t
    holds (NotMay s) t e h = kept_not_may s t (number_in procs s.proc) (new_exit asserts s.exit) refl refl e h
    holds (Must s) t e h = kept_must s t (number_in procs s.proc) (new_exit asserts s.exit) refl refl e h

pub kept_hold : KeptHold
kept_hold P Q fp fq procs asserts m s t e h = holds P Q fp fq procs asserts m s t e h
