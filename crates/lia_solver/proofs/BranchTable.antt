-- The outcome of a branch by the table of its rows.
use Rattle.std.proofs.Common.{◌≡◌, inl, inr, ℕ, ◌+◌, ◌*◌, ◌<◌, List, [], ◌∷◌, ◌++◌, length, ℤ, arith, refl, sym, ap, subst, ◌∙◌}
use Rattle.std.specs.Prelude.{IsTrue}
use Rattle.std.proofs.lemmas.List.{length-append, length-map}
use Rattle.linear_formula.specs.LinearSum.{LinearSum, valuation, is_ascending}
use Rattle.linear_formula.specs.Formula.{HoldsAll, are_terms}
use Rattle.linear_formula.specs.declared.formula.Atom.{Atom}
use Rattle.infeasible_cert.specs.Right.{row_at, rows_of, columns_of, range_rows, base_rows}
use Rattle.infeasible_cert.proofs.Ascending.{Ascends, columns-ascend}
use Rattle.infeasible_cert.proofs.Ranges.{length-ranges}
use Rattle.shadow_elim.specs.Plan.{outcome_of}
use Rattle.shadow_elim.specs.Points.{chosen, too_wide, outcome}
use Rattle.shadow_elim.specs.Stages.{terms_of, AreNumbered}
use Rattle.shadow_elim.specs.declared.row.Row.{Row}
use Rattle.shadow_elim.proofs.Exact.{HasRange as IsRanged, range-listed}
use Rattle.shadow_elim.proofs.Members.{Among, contains-among}
use Rattle.lia_solver.specs.declared.columnwise.Chosen.{Chosen}
use Rattle.lia_solver.specs.steps.Branches.{branch_rows, IsBranch}
use Rattle.lia_solver.specs.steps.Entries.{Entry, entry_at}
use Rattle.lia_solver.specs.steps.Gathered.{AreGathered, IsNarrowFirst, IsWideFirst, numbered_rows}
use Rattle.lia_solver.specs.steps.Numbers.{numbered_from}
use Rattle.lia_solver.specs.steps.Solved.{AreReady, IsOf, HaveOrigins, outcome_by}
use Rattle.lia_solver.specs.steps.Tables.{live}
use Rattle.lia_solver.proofs.Behind.{IsReady, is-ready}
use Rattle.lia_solver.proofs.Branching.{ArePushed, pushed-terms, pushed-numbers, pushed-count, length-numbered}
use Rattle.lia_solver.proofs.ChosenPoints.{NamesOnly, values-ascend, outcome-chosen}
use Rattle.lia_solver.proofs.Gathering.{gathered-ready, gathered-outcome, gathered-wide}
use Rattle.lia_solver.proofs.Starting.{base-named, base-terms, base-chosen}

-- The question of a branch

pub record IsAsked (question splits : List Atom) (columns : List ℕ) : Type 0 where
  pub columns_are : columns ≡ columns_of (rows_of question)
  pub branch : IsBranch question splits
  pub terms : IsTrue (are_terms (question ++ splits))

-- the table has its rows
pub record IsTabled (question splits : List Atom) (columns : List ℕ) (entries : List Entry) : Type 0 where
  pub asked : IsAsked question splits columns
  pub gathered : AreGathered (numbered_rows question splits columns) entries

all-columns : (question splits : List Atom) (columns : List ℕ) → IsAsked question splits columns →
    columns ≡ columns_of (rows_of (question ++ splits))
all-columns question splits columns h = h.columns_are ∙ sym h.branch

pushed : (question splits : List Atom) (columns : List ℕ) → IsAsked question splits columns →
    ArePushed question splits columns (numbered_rows question splits columns)
pushed question splits columns h = record { columns_are = h.columns_are; rows_are = refl }

listed : (question splits : List Atom) (columns : List ℕ) → IsAsked question splits columns →
    terms_of (numbered_rows question splits columns) ≡ rows_of (question ++ splits) ++ range_rows columns
listed question splits columns h =
    pushed-terms question splits columns (numbered_rows question splits columns) (pushed question splits columns h)

based : (question splits : List Atom) (columns : List ℕ) → IsAsked question splits columns →
    terms_of (numbered_rows question splits columns) ≡ base_rows (question ++ splits)
based question splits columns h =
    listed question splits columns h
    ∙ ap (λ (xs : List ℕ). rows_of (question ++ splits) ++ range_rows xs) (all-columns question splits columns h)

pub tabled-ready : (question splits : List Atom) (columns : List ℕ) (entries : List Entry) → IsTabled question splits columns entries →
    IsReady 0 columns entries
tabled-ready question splits columns entries h =
    gathered-ready columns (numbered_rows question splits columns) entries h.gathered
    (subst (Ascends 0) (sym e) (columns-ascend (rows_of atoms)))
    (subst (λ (xs : List ℕ). NamesOnly xs (terms_of (numbered_rows question splits columns))) (sym e)
    (subst (NamesOnly (columns_of (rows_of atoms))) (sym (based question splits columns h.asked)) (base-named atoms)))
    (subst (λ (ts : List LinearSum). (x : ℕ) → Among x columns → IsRanged x ts) (sym (listed question splits columns h.asked))
    (λ x a. range-listed x atoms columns a)) where
      atoms : List Atom
      atoms = question ++ splits

      e : columns ≡ columns_of (rows_of atoms)
      e = all-columns question splits columns h.asked

pub tabled-are_ready : (question splits : List Atom) (columns : List ℕ) (entries : List Entry) →
    IsTabled question splits columns entries → AreReady 0 columns entries
tabled-are_ready question splits columns entries h =
    is-ready 0 columns entries (omega arith) (tabled-ready question splits columns entries h)

whole-outcome : (question splits : List Atom) (columns : List ℕ) → IsAsked question splits columns →
    outcome columns (terms_of (numbered_rows question splits columns)) ≡ outcome_of (question ++ splits)
whole-outcome question splits columns h =
    ap (outcome columns) (based question splits columns h)
    ∙ ap (λ (xs : List ℕ). outcome xs (base_rows (question ++ splits))) (all-columns question splits columns h)

-- the plan of the branch is that of its table
pub tabled-outcome : (question splits : List Atom) (columns : List ℕ) (entries : List Entry) →
    IsTabled question splits columns entries → IsNarrowFirst columns entries →
    outcome_of (question ++ splits) ≡ outcome columns (live 0 entries)
tabled-outcome question splits columns entries h n =
    sym (gathered-outcome columns (numbered_rows question splits columns) entries h.gathered
    (tabled-ready question splits columns entries h) n ∙ whole-outcome question splits columns h.asked)

pub tabled-wide : (question splits : List Atom) (columns : List ℕ) (entries : List Entry) →
    IsTabled question splits columns entries → IsWideFirst columns entries → outcome_of (question ++ splits) ≡ too_wide
tabled-wide question splits columns entries h w =
    sym (whole-outcome question splits columns h.asked)
    ∙ gathered-wide columns (numbered_rows question splits columns) entries h.gathered w

pub tabled-plan : (question splits : List Atom) (columns : List ℕ) (entries : List Entry) (c : Chosen) →
    IsTabled question splits columns entries → IsNarrowFirst columns entries →
    ((low : ℕ) → AreReady low columns entries → outcome columns (live low entries) ≡ outcome_by c) →
    outcome_of (question ++ splits) ≡ outcome_by c
tabled-plan question splits columns entries c h n p =
    tabled-outcome question splits columns entries h n ∙ p 0 (tabled-are_ready question splits columns entries h)

-- Values

pub asked-ascending : (question splits : List Atom) (columns : List ℕ) (values : List (ℕ × ℤ)) → IsAsked question splits columns →
    outcome_of (question ++ splits) ≡ chosen values → IsTrue (is_ascending values)
asked-ascending question splits columns values h e =
    let atoms = question ++ splits in
    let xs = columns_of (rows_of atoms) in
    let c = outcome-chosen xs (base_rows atoms) values (columns-ascend (rows_of atoms)) (base-terms atoms h.terms) (base-named atoms) e in
    values-ascend 0 values (subst (Ascends 0) (sym c.columns) (columns-ascend (rows_of atoms)))

pub asked-met : (question splits : List Atom) (columns : List ℕ) (values : List (ℕ × ℤ)) → IsAsked question splits columns →
    outcome_of (question ++ splits) ≡ chosen values → HoldsAll (valuation values) (question ++ splits)
asked-met question splits columns values h e = base-chosen (question ++ splits) values h.terms e

-- Numbers

numbered-each : (base : List LinearSum) (rows : List Row) (r : Row) → AreNumbered base rows → Among r rows →
    (r.number < length base) × (row_at base r.number ≡ r.term)
numbered-each base [] r h a = absurd a
numbered-each base (s ∷ rows) r h (inl e) =
    subst (λ (q : Row). (q.number < length base) × (row_at base q.number ≡ q.term)) e (h.0, h.1)
numbered-each base (s ∷ rows) r h (inr a) = numbered-each base rows r h.2 a

-- each row of the table has its number in the certificate
pub tabled-origins : (question splits : List Atom) (columns : List ℕ) (entries : List Entry) →
    IsTabled question splits columns entries → HaveOrigins (branch_rows question splits) 0 entries
tabled-origins question splits columns entries h i q =
    let rows = numbered_rows question splits columns in
    let base = branch_rows question splits in
    let e = entry_at entries i in
    let g = h.gathered.given i q in
    let row : Row = record { term = e.sum; number = g.number } in
    subst (IsOf base 0 entries e) (sym g.origin) (numbered-each base rows row (pushed-numbers question splits columns rows
    (pushed question splits columns h.asked)) (contains-among rows row g.here))

-- how many rows a branch has in its certificate
pub branch-count : (question splits : List Atom) (columns : List ℕ) → columns ≡ columns_of (rows_of question) →
    length (branch_rows question splits) ≡ length question + 2 * length columns + length splits
branch-count question splits columns e =
    let q = rows_of question in
    let s = rows_of splits in
    let r = range_rows columns in
    let nq = numbered_from 0 q in
    let ns = numbered_from (length question + 2 * length columns) s in
    let nr = numbered_from (length question) r in
    let all = pushed-count question splits columns (numbered_rows question splits columns)
    (record { columns_are = e; rows_are = refl }) in
    omega (
      arith,
      all,
      length-append nq (ns ++ nr),
      length-append ns nr,
      length-numbered 0 q,
      length-numbered (length question + 2 * length columns) s,
      length-numbered (length question) r,
      length-map question (λ (a : Atom). a.term),
      length-map splits (λ (a : Atom). a.term),
      length-ranges columns,
    )
