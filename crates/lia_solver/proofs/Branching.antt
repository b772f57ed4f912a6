-- The rows of a branch and their numbers.
use Rattle.std.proofs.Common.{◌≡◌, ℕ, ◌+◌, ◌*◌, List, [], ◌∷◌, ◌++◌, length, arith, refl, sym, ap, subst, ◌∙◌}
use Rattle.std.proofs.lemmas.List.{append_assoc, append-nil, length-append, length-map, map-append}
use Rattle.linear_formula.specs.LinearSum.{LinearSum}
use Rattle.linear_formula.specs.declared.formula.Atom.{Atom}
use Rattle.infeasible_cert.specs.Right.{row_at, rows_of, range_rows, columns_of}
use Rattle.shadow_elim.specs.declared.row.Row.{Row}
use Rattle.shadow_elim.specs.Stages.{terms_of, AreNumbered}
use Rattle.lia_solver.specs.steps.Branches.{branch_rows}
use Rattle.lia_solver.specs.steps.Numbers.{numbered_from}
use Rattle.shadow_elim.proofs.InPlace.{row-behind}
use Rattle.infeasible_cert.proofs.Ranges.{length-ranges}

-- Terms

terms-numbered : (n : ℕ) (ts : List LinearSum) → terms_of (numbered_from n ts) ≡ ts
terms-numbered n [] = refl
terms-numbered n (t ∷ ts) = ap (λ (us : List LinearSum). t ∷ us) (terms-numbered (n + 1) ts)

pub length-numbered : (n : ℕ) (ts : List LinearSum) → length (numbered_from n ts) ≡ length ts
length-numbered n [] = refl
length-numbered n (t ∷ ts) = omega (arith, length-numbered (n + 1) ts)

pub terms-append : (rs ss : List Row) → terms_of (rs ++ ss) ≡ terms_of rs ++ terms_of ss
terms-append rs ss = map-append (λ (r : Row). r.term) rs ss

pub rows-append : (as_ bs : List Atom) → rows_of (as_ ++ bs) ≡ rows_of as_ ++ rows_of bs
rows-append as_ bs = map-append (λ (a : Atom). a.term) as_ bs

-- Numbers

numbered-at : (before ts after : List LinearSum) (n : ℕ) → n ≡ length before → AreNumbered (before ++ (ts ++ after)) (numbered_from n ts)
numbered-at before [] after n e = tt
numbered-at before (t ∷ ts) after n e =
    let all = before ++ t ∷ (ts ++ after) in
    let rest = numbered-at (before ++ t ∷ []) ts after (n + 1) (omega (arith, e, length-append before (t ∷ []))) in (
      omega (arith, e, length-append before (t ∷ (ts ++ after))),
      ap (row_at all) e ∙ row-behind before t (ts ++ after),
      subst (λ (rows : List LinearSum). AreNumbered rows (numbered_from (n + 1) ts)) (append_assoc before (t ∷ []) (ts ++ after)) rest,
    )

numbered-append : (base : List LinearSum) (rs ss : List Row) → AreNumbered base rs → AreNumbered base ss → AreNumbered base (rs ++ ss)
numbered-append base [] ss h k = k
numbered-append base (r ∷ rs) ss h k = (h.0, h.1, numbered-append base rs ss h.2 k)

-- The rows of a branch

-- the rows of the question, of the splits and of the ranges, in the order in which they are pushed
pub record ArePushed (question splits : List Atom) (columns : List ℕ) (rows : List Row) : Type 0 where
  pub columns_are : columns ≡ columns_of (rows_of question)
  pub rows_are : rows ≡ numbered_from 0 (rows_of question) ++ (numbered_from (length question + 2 * length columns) (rows_of splits)
      ++ numbered_from (length question) (range_rows columns))

pub pushed-terms : (question splits : List Atom) (columns : List ℕ) (rows : List Row) → ArePushed question splits columns rows →
    terms_of rows ≡ rows_of (question ++ splits) ++ range_rows columns
pushed-terms question splits columns rows h =
    let q = rows_of question in
    let s = rows_of splits in
    let r = range_rows columns in
    let nq = numbered_from 0 q in
    let ns = numbered_from (length question + 2 * length columns) s in
    let nr = numbered_from (length question) r in
    let apart : terms_of (nq ++ (ns ++ nr)) ≡ terms_of nq ++ (terms_of ns ++ terms_of nr) = terms-append nq (ns ++ nr)
    ∙ ap (λ (ts : List LinearSum). terms_of nq ++ ts) (terms-append ns nr) in
    ap terms_of h.rows_are ∙ apart ∙ ap (λ (ts : List LinearSum). ts ++ (terms_of ns ++ terms_of nr)) (terms-numbered 0 q)
    ∙ ap (λ (ts : List LinearSum). q ++ (ts ++ terms_of nr)) (terms-numbered _ s) ∙ ap (λ (ts : List LinearSum). q ++ (s ++ ts))
    (terms-numbered _ r) ∙ sym (append_assoc q s r) ∙ ap (λ (ts : List LinearSum). ts ++ r) (sym (rows-append question splits))

-- the ranges come before the splits there
pub pushed-numbers : (question splits : List Atom) (columns : List ℕ) (rows : List Row) → ArePushed question splits columns rows →
    AreNumbered (branch_rows question splits) rows
pushed-numbers question splits columns rows h =
    let q = rows_of question in
    let s = rows_of splits in
    let r = range_rows columns in
    let first = length question in
    let further = length question + 2 * length columns in
    let count : first ≡ length q = sym (length-map question (λ (a : Atom). a.term)) in
    let base = q ++ r ++ s in
    let here : AreNumbered base (numbered_from 0 q) = subst (λ (ts : List LinearSum). AreNumbered ts (numbered_from 0 q))
    (sym (append_assoc q r s)) (numbered-at [] q (r ++ s) 0 refl) in
    let ranges : AreNumbered base (numbered_from first r) = subst (λ (ts : List LinearSum). AreNumbered ts (numbered_from first r))
    (sym (append_assoc q r s)) (numbered-at q r s first count) in
    let behind : AreNumbered base (numbered_from further s) = subst (λ (ts : List LinearSum). AreNumbered (q ++ r ++ ts)
    (numbered_from further s))
    (append-nil s) (numbered-at (q ++ r) s [] further (omega (arith, count, length-append q r, length-ranges columns))) in
    let all = numbered-append base (numbered_from 0 q) (numbered_from further s ++ numbered_from first r) here
    (numbered-append base (numbered_from further s) (numbered_from first r) behind ranges) in
    subst (λ (xs : List ℕ). AreNumbered (q ++ range_rows xs ++ s) rows) h.columns_are (subst (λ (rs : List Row). AreNumbered base rs)
    (sym h.rows_are) all)

pub pushed-count : (question splits : List Atom) (columns : List ℕ) (rows : List Row) → ArePushed question splits columns rows → length rows
    ≡ length (branch_rows question splits)
pushed-count question splits columns rows h =
    let q = rows_of question in
    let s = rows_of splits in
    let r = range_rows columns in
    let nq = numbered_from 0 q in
    let ns = numbered_from (length question + 2 * length columns) s in
    let nr = numbered_from (length question) r in
    let left : length (nq ++ (ns ++ nr)) ≡ length q + (length s + length r) = omega (
      arith,
      length-append nq (ns ++ nr),
      length-append ns nr,
      length-numbered 0 q,
      length-numbered (length question + 2 * length columns) s,
      length-numbered (length question) r,
    ) in
    let right : length (q ++ r ++ s) ≡ length q + (length s + length r) = omega (arith, length-append (q ++ r) s, length-append q r) in
    ap length h.rows_are ∙ left ∙ sym right ∙ ap (λ (xs : List ℕ). length (q ++ range_rows xs ++ s)) h.columns_are
