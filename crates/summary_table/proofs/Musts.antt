-- The rows of a must's question hold exactly where the must meets the query.
use Rattle.std.proofs.Common.{◌≡◌, ℕ, zero, suc, ◌-◌, Bool, true, false, nat_lt, List, [], ◌∷◌, ◌++◌, ℤ, pos, refl, sym, ap, ◌∙◌}
use Rattle.std.specs.Prelude.{if◌then◌else◌}
use Rattle.linear_formula.specs.LinearSum.{LinearSum, Valuation, value_of}
use Rattle.linear_formula.specs.Results.{constant_sum}
use Rattle.linear_formula.specs.Replaced.{replaced_valuation}
use Rattle.linear_formula.specs.Formula.{HoldsAll}
use Rattle.linear_formula.specs.declared.formula.Atom.{Atom}
use Rattle.shadow_elim.specs.Sums.{row_sums, rows_of_sums, term_at}
use Rattle.shadow_elim.proofs.Summing.{sums-hold, hold-sums, holds-same}
use Rattle.flow_graph.specs.Columns.{first_entry, first_exit, first_symbol, value_at, valuation_of}
use Rattle.summary_form.specs.Musts.{values_of}
use Rattle.summary_form.specs.NotMays.{Meets}
use Rattle.summary_form.specs.declared.path.Path.{Path}
use Rattle.summary_form.specs.declared.query.Query.{Query}
use Rattle.summary_table.specs.Asked.{rows_of_query, path_reading, must_rows}

-- Rows after others

holds_behind : (v : Valuation) (atoms others : List Atom) (P : Type 0) → (P → HoldsAll v others) → HoldsAll v atoms → P →
    HoldsAll v (atoms ++ others)
holds_behind v [] others P f h p = f p
holds_behind v (atom ∷ atoms) others P f h p = (h.0, holds_behind v atoms others P f h.1 p)

says_behind : (v : Valuation) (atoms others : List Atom) (P : Type 0) → (HoldsAll v others → P) → HoldsAll v (atoms ++ others) →
    HoldsAll v atoms × P
says_behind v [] others P f h = (tt, f h)
says_behind v (atom ∷ atoms) others P f h = let r = says_behind v atoms others P f h.1 in ((h.0, r.0), r.1)

-- The values of terms

-- a term at its place has the value there
value_of_term : (v : Valuation) (ts : List LinearSum) (i : ℕ) → value_of v (term_at ts i) ≡ value_at (values_of v ts) i
value_of_term v [] i = refl
value_of_term v (t ∷ ts) zero = refl
value_of_term v (t ∷ ts) (suc i) = value_of_term v ts i

by_column : (v : Valuation) (a b c : Bool) (s t : LinearSum) (y z : ℤ) → value_of v s ≡ y → value_of v t ≡ z →
    value_of v (if a then constant_sum (pos 0) else (if b then s else (if c then t else constant_sum (pos 0))))
    ≡ (if a then pos 0 else (if b then y else (if c then z else pos 0)))
by_column v true b c s t y z e f = refl
by_column v false true c s t y z e f = e
by_column v false false true s t y z e f = f
by_column v false false false s t y z e f = refl

-- the terms of a path have the values of its run in their columns
reading_value : (v : Valuation) (p : Path) (x : ℕ) → value_of v (path_reading p x)
    ≡ valuation_of (values_of v p.entry) (values_of v p.outcome) x
reading_value v p x = by_column v (nat_lt x first_entry) (nat_lt x first_exit) (nat_lt x first_symbol)
    (term_at p.entry (x - first_entry)) (term_at p.outcome (x - first_exit))
    (value_at (values_of v p.entry) (x - first_entry)) (value_at (values_of v p.outcome) (x - first_exit))
    (value_of_term v p.entry (x - first_entry)) (value_of_term v p.outcome (x - first_exit))

abbrev read_atoms : Query → Path → List Atom
read_atoms q p = rows_of_sums (row_sums (path_reading p) (rows_of_query q))

pub guarded_and_met : (q : Query) (p : Path) (v : Valuation) → HoldsAll v (must_rows q p) → HoldsAll v p.guard.atoms
    × Meets q (values_of v p.entry) (values_of v p.outcome)
guarded_and_met q p v h =
    says_behind v p.guard.atoms (read_atoms q p) (Meets q (values_of v p.entry) (values_of v p.outcome))
    (λ k. holds-same (replaced_valuation (path_reading p) v) (valuation_of (values_of v p.entry) (values_of v p.outcome)) (rows_of_query q)
    (reading_value v p) (hold-sums v (path_reading p) (rows_of_query q) k)) h

pub must_rows_hold : (q : Query) (p : Path) (v : Valuation) → HoldsAll v p.guard.atoms →
    Meets q (values_of v p.entry) (values_of v p.outcome) → HoldsAll v (must_rows q p)
must_rows_hold q p v g m =
    holds_behind v p.guard.atoms (read_atoms q p) (Meets q (values_of v p.entry) (values_of v p.outcome))
    (λ k. sums-hold v (path_reading p) (rows_of_query q)
    (holds-same (valuation_of (values_of v p.entry) (values_of v p.outcome)) (replaced_valuation (path_reading p) v) (rows_of_query q)
    (λ x. sym (reading_value v p x)) k)) g m

-- the rows that are made step by step
pub made_rows : (q : Query) (p : Path) (rows read cube : List Atom) → rows ≡ rows_of_query q →
    read ≡ rows_of_sums (row_sums (path_reading p) rows) → cube ≡ p.guard.atoms ++ read → cube ≡ must_rows q p
made_rows q p rows read cube e f g =
    g ∙ ap (λ atoms. p.guard.atoms ++ atoms) (f ∙ ap (λ atoms. rows_of_sums (row_sums (path_reading p) atoms)) e)
