-- The graphs of a program, and summaries that hold of both.
use Rattle.std.proofs.Common.{◌≡◌, ◌<◌, ◌≤◌, ℕ, zero, suc, ◌+◌, ◌*◌, List, [], ◌∷◌, length, Option, Some, None, Bool, true, false, cond, ◌==◌, arith, mul-le-mul_right, refl, sym, ap, subst, ◌∙◌}
use Rattle.std.specs.Prelude.{slice_get, if◌then◌else◌}
use Rattle.std.specs.Option.{option_map}
use Rattle.std.proofs.lemmas.Option.{none-some, same_Some, slice_get_within}
use Rattle.c_tree.specs.Syntax.{PureProcedure, PureProgram}
use Rattle.c_tree.specs.WellFormed.{IsWellFormed}
use Rattle.flow_build.specs.Promises.{AreBounded}
use Rattle.flow_graph.specs.Columns.{AreAllValues}
use Rattle.flow_graph.specs.declared.graph.Graph.{Graph}
use Rattle.summary_form.specs.declared.query.ExitKind.{ExitKind}
use Rattle.summary_form.specs.declared.query.ExitKind.TheVariants.{Return, Fail}
use Rattle.summary_form.specs.declared.summary.Summary.{Summary}
use Rattle.summary_form.specs.declared.summary.Summary.TheVariants as summary
use Rattle.summary_form.specs.Answering.{SummaryHolds}
use Rattle.summary_form.specs.Instances.{arity_in, arity_of, arity_of_procedure, graph_runs}
use Rattle.summary_form.specs.ProgramGraphs.{SameArities}
use Rattle.summary_form.specs.Runs.{Arity}
use Rattle.bolt_core.specs.Boards.{IsBoard, IsOneOf, Shown}
use Rattle.bolt_core.specs.Machine.{AllOf, HoldsBy}
use Rattle.bolt_core.specs.States.{reads}
use Rattle.bolt_core.proofs.BoardKeeps.{board_keeps, nodes_of}
use Rattle.bolt_core.proofs.Going.{board_queries}
use Rattle.bolt_core.proofs.Nodes.{table_within}
use Rattle.summary_keep.specs.Keeping.{IsMatchingOf, SummariesHold, both_of, kept, new_exit, number_in, put, renumbered}
use Rattle.summary_keep.specs.Laws.{HasGraphs}
use Rattle.summary_keep.proofs.Matched.{related_some}
use Rattle.summary_keep.proofs.SameMeaning.{same_summaries}
use Rattle.summary_keep.proofs.Single.{place_of}
use Rattle.smash_run.specs.steps.Judging.{AreGraphsFor, MayBegin}

-- Entry values and exit values

-- in lists of one length the same places are there
one_length : {A B : Type 0} (xs : List A) (ys : List B) → length xs ≡ length ys → (i : ℕ) (y : B) → slice_get xs i ≡ None →
    slice_get ys i ≡ Some y → ⊥
one_length [] [] e i y h k = absurd (let none : None ≡ Some y = k in cc)
one_length [] (z ∷ ys) e i y h k = absurd (let none : 0 ≡ suc (length ys) = e in cc)
one_length (x ∷ xs) [] e i y h k = absurd (let none : suc (length xs) ≡ 0 = e in cc)
one_length (x ∷ xs) (z ∷ ys) e zero y h k = absurd (let none : Some x ≡ None = h in cc)
one_length (x ∷ xs) (z ∷ ys) e (suc i) y h k = one_length xs ys (let q : suc (length xs) ≡ suc (length ys) = e in cc) i y h k

chosen : (m : Bool) (a b : ℕ) → cond m a b ≡ (if m then a else b)
chosen true a b = refl
chosen false a b = refl

pub same_arities : (P : PureProgram) (gs : List Graph) → AreBounded P gs → SameArities P gs
same_arities P gs are = record { each_procedure = are.each_procedure; arities = arities } where
  arities : (p : ℕ) → arity_of (slice_get gs p) ≡ arity_of_procedure (p == P.main) (length P.globals) (slice_get P.procedures p)
  arities p = by_places (slice_get gs p) (slice_get P.procedures p) refl refl where
    by_places : (y : Option Graph) (x : Option PureProcedure) → slice_get gs p ≡ y → slice_get P.procedures p ≡ x →
        arity_of y ≡ arity_of_procedure (p == P.main) (length P.globals) x
    by_places None None k h = refl
    by_places (Some g) None k h = absurd (one_length P.procedures gs (sym are.each_procedure) p g h k)
    by_places None (Some q) k h = absurd (one_length gs P.procedures are.each_procedure p q k h)
    by_places (Some g) (Some q) k h =
        let b = are.bounded p q g h k in
        let of : ℕ → ℕ → Arity = λ n m. record { entries = n; exits = m } in
        ap (λ n. of n g.exits) (b.params ∙ chosen (p == P.main) 0 (q.params + length P.globals))
        ∙ ap (λ m. of (if p == P.main then 0 else q.params + length P.globals) m) b.exits

-- Summaries

module _ (P : PureProgram) (gs : List Graph) (fine : IsWellFormed P) (opening : AreAllValues P.globals) (are : AreGraphsFor P gs) where
  has_graphs : HasGraphs P gs
  has_graphs = record {
    runs = are.runs;
    arities = same_arities P gs are.bounds;
    main_takes_none = fine.main_takes_none;
    opening = opening;
  }

  held_by_graphs : (s : Summary) → SummaryHolds (graph_runs gs) (arity_in gs) s → HoldsBy (reads gs) s
  held_by_graphs (summary.NotMay q) h = record { at = h }
  held_by_graphs (summary.Must p) h = h

  held_by_reads : (s : Summary) → HoldsBy (reads gs) s → SummaryHolds (graph_runs gs) (arity_in gs) s
  held_by_reads (summary.NotMay q) h = λ d. h.at d
  held_by_reads (summary.Must p) h = h

  -- what holds of the program holds of its graphs
  pub hold_of_graphs : (ss : List Summary) → SummariesHold P ss → AllOf (HoldsBy (reads gs)) ss
  hold_of_graphs [] h = tt
  hold_of_graphs (s ∷ ss) h = (held_by_graphs s ((same_summaries P gs has_graphs s).0 h.0), hold_of_graphs ss h.1)

  -- and the reverse
  pub hold_of_program : (ss : List Summary) → AllOf (HoldsBy (reads gs)) ss → SummariesHold P ss
  hold_of_program [] h = tt
  hold_of_program (s ∷ ss) h = ((same_summaries P gs has_graphs s).1 (held_by_reads s h.0), hold_of_program ss h.1)

-- Summaries that are kept

fail_same : (b id : ℕ) → Fail b ≡ Fail id → b ≡ id
fail_same b id e = cc

module _ (P Q : PureProgram) (fine : IsWellFormed Q) (procs asserts : List (Option ℕ)) (m : IsMatchingOf P Q procs asserts) where
  abbrev count : ℕ
  count = length Q.procedures

  abbrev places : ℕ
  places = length Q.asserts

  procedure_there : (p q : ℕ) → number_in procs p ≡ Some q → q < count
  procedure_there p q e =
      let r = m.greatest.matches.all p q (related_some procs p q e) in
      slice_get_within Q.procedures q r.new r.new_at

  assertion_there : (a b : ℕ) → number_in asserts a ≡ Some b → b < places
  assertion_there a b e =
      let c = (m.corresponding a b).0 e in
      let at = place_of Q fine c.j c.new c.place b c.new_at c.new_stands in
      slice_get_within Q.asserts b at.0 at.1

  exit_there : (x y : ExitKind) → new_exit asserts x ≡ Some y → (id : ℕ) → y ≡ Fail id → id < places
  exit_there Return y e id is = absurd (let k : Some Return ≡ Some y = e in cc)
  exit_there (Fail a) y e id is = by_number (number_in asserts a) refl e where
    by_number : (o : Option ℕ) → number_in asserts a ≡ o → option_map Fail o ≡ Some y → id < places
    by_number None at k = absurd (none-some y k)
    by_number (Some b) at k =
        let same : b ≡ id = fail_same b id (same_Some (Fail b) y k ∙ is) in
        subst (λ n. n < places) same (assertion_there a b at)

  one_there : (s t : Summary) → renumbered procs asserts s ≡ Some t → IsOneOf count places t
  one_there (summary.NotMay q) t e = by_parts (number_in procs q.proc) (new_exit asserts q.exit) refl refl e where
    by_parts : (o : Option ℕ) (x : Option ExitKind) → number_in procs q.proc ≡ o → new_exit asserts q.exit ≡ x →
        both_of o x (λ p y. summary.NotMay (record q { proc = p; exit = y })) ≡ Some t → IsOneOf count places t
    by_parts None x at k h = absurd (none-some t h)
    by_parts (Some p) None at k h = absurd (none-some t h)
    by_parts (Some p) (Some y) at k h = subst (IsOneOf count places) (same_Some _ t h)
        (record { procedure = procedure_there q.proc p at; assertion = λ id is. exit_there q.exit y k id is })
  one_there (summary.Must m) t e = by_parts (number_in procs m.proc) (new_exit asserts m.exit) refl refl e where
    by_parts : (o : Option ℕ) (x : Option ExitKind) → number_in procs m.proc ≡ o → new_exit asserts m.exit ≡ x →
        both_of o x (λ p y. summary.Must (record m { proc = p; exit = y })) ≡ Some t → IsOneOf count places t
    by_parts None x at k h = absurd (none-some t h)
    by_parts (Some p) None at k h = absurd (none-some t h)
    by_parts (Some p) (Some y) at k h = subst (IsOneOf count places) (same_Some _ t h)
        (record { procedure = procedure_there m.proc p at; assertion = λ id is. exit_there m.exit y k id is })

  -- what is kept names procedures and assertions of the new program
  pub kept_there : (ss : List Summary) → AllOf (IsOneOf count places) (kept procs asserts ss)
  kept_there [] = tt
  kept_there (s ∷ ss) = by_new (renumbered procs asserts s) refl (kept_there ss) where
    by_new : (o : Option Summary) → renumbered procs asserts s ≡ o → AllOf (IsOneOf count places) (kept procs asserts ss) →
        AllOf (IsOneOf count places) (put o (kept procs asserts ss))
    by_new None e rest = rest
    by_new (Some t) e rest = (one_there s t e, rest)

-- no more are kept than there are
pub kept_few : (procs asserts : List (Option ℕ)) (ss : List Summary) → length (kept procs asserts ss) ≤ length ss
kept_few procs asserts [] = omega arith
kept_few procs asserts (s ∷ ss) = by_new (renumbered procs asserts s) (kept_few procs asserts ss) where
  by_new : (o : Option Summary) → length (kept procs asserts ss) ≤ length ss → length (put o (kept procs asserts ss)) ≤ suc (length ss)
  by_new None rest = omega (arith, rest)
  by_new (Some t) rest = omega (arith, rest)

-- Boards that began without summaries

pub few_there : (b : Shown) → IsBoard b → b.core.kept ≡ [] → length b.core.table ≤ 2000000
few_there b h none =
    let k = board_keeps b h in
    let within = table_within (reads b.graphs) b.core (nodes_of (reads b.graphs) b.asserts b.core k) in
    let m : b.asserts * b.budget ≤ 64 * b.budget = mul-le-mul_right b.budget h.few in
    let nothing : length b.core.kept ≡ 0 = ap length none in
    omega (arith, within, k.paired.count, board_queries b h, m, h.few, h.most, nothing)

-- a board of the new program may begin with what is kept of a table
pub kept_begin : (P Q : PureProgram) → IsWellFormed Q → (procs asserts : List (Option ℕ)) → IsMatchingOf P Q procs asserts →
    (table : List Summary) → length table ≤ 2000000 → SummariesHold Q (kept procs asserts table) → MayBegin Q (kept procs asserts table)
kept_begin P Q fine procs asserts m table few hold = record {
  few = omega (arith, kept_few procs asserts table, few);
  named = kept_there P Q fine procs asserts m table;
  hold = hold;
}
