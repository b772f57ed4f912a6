-- Lists of symbols and of rows that code makes one by one.
use Rattle.std.proofs.Common.{◌≡◌, ◌⊎◌, inl, inr, ℕ, zero, suc, ◌+◌, ◌-◌, ◌≤◌, replicate, List, [], ◌∷◌, ◌++◌, length, drop, slice_set, slice_index_or, ◌<◌, arith, refl, sym, ap, ◌∙◌, subst, append_assoc, append-nil}
use Rattle.std.proofs.lemmas.List.{replicate-append-replicate}
use Rattle.linear_formula.specs.LinearSum.{LinearSum}
use Rattle.linear_formula.specs.Replaced.{column_sum}
use Rattle.flow_graph.specs.Readings.{term_at}
use Rattle.must_region.specs.Rules.{symbols_from, matches, set_terms}

pub symbols_last : (first count : ℕ) → symbols_from first (suc count) ≡ symbols_from first count ++ column_sum (first + count) ∷ []
symbols_last first zero = ap (λ n. column_sum n ∷ []) (let e : first ≡ first + 0 = omega arith in e)
symbols_last first (suc count) =
    ap (λ ts. column_sum first ∷ ts) (symbols_last (first + 1) count ∙ ap (λ n. symbols_from (first + 1) count ++ column_sum n ∷ [])
    (let e : (first + 1) + count ≡ first + suc count = omega arith in e))

-- one symbol more after others
pub one_symbol_more : (old new start : List LinearSum) (t : LinearSum) (first count : ℕ) → old ≡ start ++ symbols_from first count →
    t ≡ column_sum (first + count) →
    new ≡ old ++ t ∷ [] → new ≡ start ++ symbols_from first (count + 1)
one_symbol_more old new start t first count o e n =
    n ∙ ap (λ ts. ts ++ t ∷ []) o ∙ append_assoc start (symbols_from first count) (t ∷ [])
    ∙ ap (λ u. start ++ (symbols_from first count ++ u ∷ [])) e ∙ ap (λ ts. start ++ ts) (sym (symbols_last first count))
    ∙ ap (λ k. start ++ symbols_from first k) (let same : suc count ≡ count + 1 = omega arith in same)

-- without arguments or without terms there is no row
pub none_match : (slots : List LinearSum) (args : List ℕ) (terms : List LinearSum) → (length args ≡ 0) ⊎ (length terms ≡ 0) →
    matches slots args terms ≡ []
none_match slots [] terms h = refl
none_match slots (arg ∷ args) [] h = refl
none_match slots (arg ∷ args) (t ∷ terms) (inl e) = absurd (omega (arith, e))
none_match slots (arg ∷ args) (t ∷ terms) (inr e) = absurd (omega (arith, e))

-- one zero more
pub one_zero_more : (old new start : List LinearSum) (z t : LinearSum) (count k : ℕ) → count ≤ k → old ≡ start ++ replicate (k - count) z →
    t ≡ z → new ≡ old ++ t ∷ [] →
    new ≡ start ++ replicate ((k + 1) - count) z
one_zero_more old new start z t count k h o e n =
    let more : (k - count) + 1 ≡ (k + 1) - count = omega (arith, h) in
    n ∙ ap (λ ts. ts ++ t ∷ []) o ∙ ap (λ u. (start ++ replicate (k - count) z) ++ u ∷ []) e ∙ append_assoc start (replicate (k - count) z)
    (z ∷ [])
    ∙ ap (λ ts. start ++ ts) (replicate-append-replicate (k - count) 1 z ∙ ap (λ m. replicate m z) more)

pub no_zero_yet : (symbols all : List LinearSum) (z : LinearSum) (count : ℕ) → all ≡ [] ++ symbols → all ≡ symbols
    ++ replicate (count - count) z
no_zero_yet symbols all z count e =
    let none : 0 ≡ count - count = omega arith in
    e ∙ sym (append-nil symbols) ∙ ap (λ n. symbols ++ replicate n z) none

-- Terms in slots, from the last place on

abbrev pub IsSetFrom : ℕ → (all : List LinearSum) → List ℕ → (terms items : List LinearSum) → Type 0
IsSetFrom k all places terms items = (k ≤ length places) × (items ≡ set_terms all (drop k places) (drop k terms))

none_behind : (xs : List ℕ) → drop (length xs) xs ≡ []
none_behind [] = refl
none_behind (x ∷ xs) = none_behind xs

pub none_set : (all : List LinearSum) (places : List ℕ) (terms items : List LinearSum) → items ≡ all →
    IsSetFrom (length places) all places terms items
none_set all places terms items e = (
  omega arith,
  e ∙ ap (λ xs. set_terms all xs (drop (length places) terms)) (sym (none_behind places)),
)

place_behind : (places : List ℕ) (k r : ℕ) → k < length places → drop k places ≡ slice_index_or places k r ∷ drop (suc k) places
place_behind [] k r h = absurd (omega (arith, h))
place_behind (x ∷ xs) zero r h = refl
place_behind (x ∷ xs) (suc k) r h = place_behind xs k r (omega (arith, h))

term_behind : (terms : List LinearSum) (k : ℕ) → term_at (drop k terms) 0 ≡ term_at terms k
term_behind [] zero = refl
term_behind [] (suc k) = refl
term_behind (t ∷ ts) zero = refl
term_behind (t ∷ ts) (suc k) = term_behind ts k

terms_behind : (terms : List LinearSum) (k : ℕ) → drop 1 (drop k terms) ≡ drop (suc k) terms
terms_behind [] zero = refl
terms_behind [] (suc k) = refl
terms_behind (t ∷ ts) zero = refl
terms_behind (t ∷ ts) (suc k) = terms_behind ts k

-- one place more
set_one : (j : ℕ) (all : List LinearSum) (places : List ℕ) (terms items next : List LinearSum) (r : ℕ) (t : LinearSum) →
    IsSetFrom (suc j) all places terms items → t ≡ term_at terms j → next ≡ slice_set items (slice_index_or places j r) t →
    IsSetFrom j all places terms next
set_one j all places terms items next r t h e n =
    let x = slice_index_or places j r in
    let here = place_behind places j r (omega (arith, h.0)) in (
      omega (arith, h.0),
      n ∙ ap (λ ts. slice_set ts x t) h.1 ∙ ap (λ u. slice_set (set_terms all (drop (suc j) places) (drop (suc j) terms)) x u)
          (e ∙ sym (term_behind terms j))
          ∙ ap (λ us. slice_set (set_terms all (drop (suc j) places) us) x (term_at (drop j terms) 0)) (sym (terms_behind terms j))
          ∙ ap (λ xs. set_terms all xs (drop j terms)) (sym here),
    )

pub one_set : (k : ℕ) (all : List LinearSum) (places : List ℕ) (terms items next : List LinearSum) (r : ℕ) (t : LinearSum) → 0 < k →
    IsSetFrom k all places terms items → t ≡ term_at terms (k - 1) → next ≡ slice_set items (slice_index_or places (k - 1) r) t →
    IsSetFrom (k - 1) all places terms next
one_set k all places terms items next r t low h e n =
    let more : k ≡ suc (k - 1) = omega (arith, low) in
    set_one (k - 1) all places terms items next r t (subst (λ i. IsSetFrom i all places terms items) more h) e n

set_beyond : (items : List LinearSum) (x : ℕ) (t : LinearSum) → length items ≤ x → slice_set items x t ≡ items
set_beyond [] x t h = refl
set_beyond (u ∷ items) zero t h = absurd (omega (arith, h))
set_beyond (u ∷ items) (suc x) t h = ap (λ ts. u ∷ ts) (set_beyond items x t (omega (arith, h)))

-- a place without a term
pub one_beyond : (k : ℕ) (all : List LinearSum) (places : List ℕ) (terms items : List LinearSum) (r : ℕ) → 0 < k →
    IsSetFrom k all places terms items → length items ≤ slice_index_or places (k - 1) r → IsSetFrom (k - 1) all places terms items
one_beyond k all places terms items r low h beyond =
    one_set k all places terms items items r (term_at terms (k - 1)) low h refl
    (sym (set_beyond items (slice_index_or places (k - 1) r) (term_at terms (k - 1)) beyond))

pub all_set : (all : List LinearSum) (places : List ℕ) (terms items : List LinearSum) (k : ℕ) → k ≤ 0 →
    IsSetFrom k all places terms items → items ≡ set_terms all places terms
all_set all places terms items zero low h = h.1
all_set all places terms items (suc k) low h = absurd (omega (arith, low))
