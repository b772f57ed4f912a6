-- The elimination whose rows and pair a call's query, or the preimage over a must, is made of.
use Rattle.std.proofs.Common.{◌≡◌, ◌++◌, ◌∙◌, ℕ, List, [], Option, None, Some, sym, ap}
use Rattle.linear_formula.specs.LinearSum.{LinearSum}
use Rattle.linear_formula.specs.Results.{renamed_column}
use Rattle.linear_formula.specs.declared.formula.Atom.{Atom}
use Rattle.linear_formula.specs.declared.question.Question.{Question}
use Rattle.linear_formula.specs.declared.question.Question.TheVariants as asks
use Rattle.flow_graph.specs.Calls.{CallSite}
use Rattle.infeasible_cert.specs.Right.{rows_of}
use Rattle.shadow_elim.specs.declared.shadow.Pair.{Pair}
use Rattle.shadow_elim.specs.declared.sum.Sum.{Sum}
use Rattle.shadow_elim.specs.Elimination.{elimination, remains, listed_rows, first_inexact}
use Rattle.shadow_elim.specs.Shadows.{pair_rows}
use Rattle.shadow_elim.specs.Sums.{first_wide, row_sums, rows_of_sums, renaming}
use Rattle.shadow_elim.specs.Projection.{cube_of, gives, projected, then_summed}
use Rattle.shadow_elim.proofs.Projecting.{projected-left, then-made, unless-none}
use Rattle.summary_form.specs.declared.path.Path.{Path}
use Rattle.summary_form.specs.declared.query.ExitKind.{ExitKind}
use Rattle.call_bridge.specs.Asked.{as_entry, asked, call_rows, call_sums, caller_columns}
use Rattle.call_bridge.specs.Musts.{must_preimage, must_rows, must_sums, plain_rows, replacing, slot_sums, slotted, symbol_columns}

abbrev RowPair : Type 0
RowPair = Option (ℕ × (LinearSum × LinearSum))

-- no sum is too wide, and the elimination gives this pair
pub asked_left : (exit : ExitKind) (site : CallSite) (source target rows : List Atom) (pair : RowPair) →
    asked exit site source
    target ≡ gives rows pair →
    (first_wide (call_sums exit site source target) ≡ None)
    × ((left : List Atom) × (projected (caller_columns (call_rows exit site source target))
    (call_rows exit site source target)
    ≡ gives left pair))
asked_left exit site source target rows pair h =
    let all = call_rows exit site source target in
    let next = projected (caller_columns all) all in
    let u = unless-none (first_wide (call_sums exit site source target)) (then_summed (row_sums (renaming as_entry)) next) rows pair
    h
    in
    let made = then-made (row_sums (renaming as_entry)) next rows pair u.1 in
    (u.0, (made.left, made.is))

pub record IsMustLeft (must : Path) (site : CallSite) (target : List Atom) (pair : RowPair) : Type 0 where
  pub narrow : first_wide (must_sums must site target) ≡ None
  pub renamed : first_wide (slot_sums must site.arguments (plain_rows must site target)) ≡ None
  pub left : List Atom
  pub is : projected (symbol_columns (must_rows must site target)) (must_rows must site target) ≡ gives left pair

pub must_left : (must : Path) (site : CallSite) (target rows : List Atom) (pair : RowPair) →
    must_preimage must site target
    ≡ gives rows pair → IsMustLeft must site target pair
must_left must site target rows pair h =
    let plain = plain_rows must site target in let all = must_rows must site target in
    let u = unless-none (first_wide (must_sums must site target)) (slotted (replacing [] site.arguments must.entry) plain) rows pair h in
    let k = unless-none (first_wide (slot_sums must site.arguments plain)) (projected (symbol_columns all) all) rows pair u.1 in
    record { narrow = u.0; renamed = k.0; left = rows; is = k.1 }

-- the rows by slots, as the code makes them
pub must_rows_are : (must : Path) (site : CallSite) (target others plain rows : List Atom)
    (items sums again renamed : List Sum)
    (columns : List (ℕ × ℕ)) → items ≡ sums → sums ≡ must_sums must site target → columns ≡ replacing [] site.arguments must.entry →
    others ≡ rows_of_sums items → plain ≡ must.guard.atoms ++ others → again ≡ renamed →
    renamed ≡ row_sums (renaming (renamed_column columns)) plain → rows ≡ rows_of_sums again → rows ≡ must_rows must site target
must_rows_are must site target others plain rows items sums again renamed columns i is col o pl a r e =
    let all : plain ≡ plain_rows must site target = pl
    ∙ ap (λ (l : List Atom). must.guard.atoms ++ l) (o ∙ ap rows_of_sums (i ∙ is)) in
    e ∙ ap rows_of_sums (a ∙ r ∙ ap (λ (m : List (ℕ × ℕ)). row_sums (renaming (renamed_column m)) plain) col
    ∙ ap (slot_sums must site.arguments) all)

-- the columns and rows by which the elimination is written
pub left_at : (columns others : List ℕ) (atoms rows : List Atom) (pair : RowPair) → columns ≡ others → atoms ≡ rows →
    ((left : List Atom) × (projected others rows ≡ gives left pair)) →
    (left : List Atom) × (projected columns atoms ≡ gives left pair)
left_at columns others atoms rows pair c a l =
    (l.0, ap (λ (xs : List ℕ). projected xs atoms) c ∙ ap (projected others) a ∙ l.1)

-- where the elimination ends, and its first pair
pub ends_with : (columns others : List ℕ) (atoms : List Atom) (pair other : Pair) → columns ≡ others → pair ≡ other →
    ((left : List Atom) × (projected others atoms ≡ gives left (pair_rows (Some other)))) →
    (rows : List LinearSum) × (elimination columns (listed_rows atoms columns) ≡ remains rows)
    × (first_inexact columns (listed_rows atoms columns) ≡ pair_rows (Some pair))
ends_with columns others atoms pair other c p l =
    let h : projected columns atoms ≡ gives l.0 (pair_rows (Some pair)) = ap (λ (xs : List ℕ). projected xs atoms) c ∙ l.1
    ∙ ap (λ (x : Pair). gives l.0 (pair_rows (Some x))) (sym p) in
    let e = projected-left columns atoms l.0 (pair_rows (Some pair)) h in
    (rows_of l.0, e.eliminated, e.first)

-- the question of an elimination, at equal rows
pub question_at : (columns : List Atom → List ℕ) (question : Question) (rows others : List Atom) (listed : List ℕ) → question
    ≡ asks.Eliminate (cube_of others) listed → others ≡ rows → listed ≡ columns others →
    question ≡ asks.Eliminate (cube_of rows) (columns rows)
question_at columns question rows others listed q e l =
    q ∙ ap (asks.Eliminate (cube_of others)) l ∙ ap (λ (xs : List Atom). asks.Eliminate (cube_of xs) (columns xs)) e
