-- The rows made of pairs are right steps, and have their numbers.
use Rattle.std.proofs.Common.{◌≡◌, ℕ, ◌<◌, ◌≤◌, ◌+◌, ◌*◌, ◌^◌, true, List, [], ◌∷◌, ◌++◌, length, map, get_or, ℤ, pos, ◌+ℤ◌, ◌*ℤ◌, arith, refl, sym, ap, subst, ◌∙◌}
use Rattle.std.specs.Prelude.{IsTrue, ◌≤ℤ◌, unsigned_abs, All}
use Rattle.std.proofs.lemmas.Int.{ints}
use Rattle.std.proofs.lemmas.List.{get_or_append_left, get_or_at, append_assoc, length_push, length-append}
use Rattle.std.proofs.lemmas.List.Elements.{All-nil, All-cons, All-head, All-tail, All-append, All-map, All-filter, filter_passes}
use Rattle.std.proofs.Math.Nat.{mul-le-mul}
use Rattle.linear_formula.specs.LinearSum.{LinearSum, coefficient, is_term}
use Rattle.linear_formula.specs.Results.{combination}
use Rattle.linear_formula.proofs.Limits.{IsTerm-from_test, AllWithin-listed}
use Rattle.linear_formula.proofs.Finishing.{product_wide}
use Rattle.linear_formula.proofs.Merging.{product_small}
use Rattle.infeasible_cert.specs.declared.certificate.Derived.{Derived}
use Rattle.infeasible_cert.specs.Right.{row_at, summands, AreMultiples, Is128, FitsAlong, column_products, constant_products, IsRoundedUp, IsRightStep, AreRightSteps, rows_after}
use Rattle.shadow_elim.specs.declared.row.Row.{Row}
use Rattle.shadow_elim.specs.declared.pairing.Candidate.{Candidate}
use Rattle.shadow_elim.specs.declared.pairing.Origin.{Origin}
use Rattle.shadow_elim.specs.declared.pairing.Origin.TheVariants.{Known, Made}
use Rattle.shadow_elim.specs.Division.{common_divisor, tightened, row_divisor}
use Rattle.shadow_elim.specs.Elimination.{is_upper, is_lower, is_free, size_of, upper_multiple, lower_multiple, pair_sum}
use Rattle.shadow_elim.specs.steps.Making.{uppers, lowers, frees, known, making, made, made_of_all, candidates, step_of, with_step, steps_of, number_of, next_after, numbered, AreTerms, IsFounded}
use Rattle.shadow_elim.specs.Stages.{AreNumbered}
use Rattle.shadow_elim.proofs.Tightening.{tightened-is}
use Rattle.shadow_elim.proofs.PairSums.{IsUpper, IsLower, upper-is, lower-is, balance}

-- Growing

at-grown : (base more : List LinearSum) (n : ℕ) → n < length base → row_at (base ++ more) n ≡ row_at base n
at-grown base more n h = get_or_append_left base more _ n h

length-grown : (base more : List LinearSum) (n : ℕ) → n < length base → n < length (base ++ more)
length-grown base more n h = omega (arith, h, length-append base more)

pub numbered-grows : (base more : List LinearSum) (rs : List Row) → AreNumbered base rs → AreNumbered (base ++ more) rs
numbered-grows base more [] h = tt
numbered-grows base more (r ∷ rs) h =
    (length-grown base more r.number h.0, at-grown base more r.number h.0 ∙ h.1, numbered-grows base more rs h.2)

multiples-grow : (base more : List LinearSum) (ps : List (ℕ × ℤ)) → AreMultiples base ps → AreMultiples (base ++ more) ps
multiples-grow base more [] h = tt
multiples-grow base more (p ∷ ps) h =
    (length-grown base more p.0 h.0, h.1, multiples-grow base more ps h.2)

summands-grown : (base more : List LinearSum) (ps : List (ℕ × ℤ)) → AreMultiples base ps → summands (base ++ more) ps ≡ summands base ps
summands-grown base more [] h = refl
summands-grown base more (p ∷ ps) h =
    ap (λ (t : LinearSum). (p.1, t) ∷ summands (base ++ more) ps) (at-grown base more p.0 h.0)
    ∙ ap (λ (ss : List (ℤ × LinearSum)). (p.1, row_at base p.0) ∷ ss) (summands-grown base more ps h.2)

-- what is right of a step, but for the rows that it names
record IsRightSum (ss : List (ℤ × LinearSum)) (d : Derived) : Type 0 where
  columns_fit : (x : ℕ) → FitsAlong (pos 0) (column_products x ss)
  constant_fits : FitsAlong (pos 0) (constant_products ss)
  divided : (x : ℕ) → coefficient x (combination ss (pos 0)) ≡ d.divide *ℤ coefficient x d.row.term
  rounded : IsRoundedUp (combination ss (pos 0)).constant d.divide d.row.term.constant

sum-of_step : (base : List LinearSum) (d : Derived) → IsRightStep base d → IsRightSum (summands base d.parts) d
sum-of_step base d s = record {
  columns_fit = s.columns_fit;
  constant_fits = s.constant_fits;
  divided = s.divided;
  rounded = s.rounded;
}

step-of_sum : (base : List LinearSum) (d : Derived) → AreMultiples base d.parts → pos 1 ≤ℤ d.divide → IsRightSum (summands base d.parts) d →
    IsRightStep base d
step-of_sum base d m h s = record {
  named = m;
  columns_fit = s.columns_fit;
  constant_fits = s.constant_fits;
  divisor = h;
  divided = s.divided;
  rounded = s.rounded;
}

pub step-grows : (base more : List LinearSum) (d : Derived) → IsRightStep base d → IsRightStep (base ++ more) d
step-grows base more d s =
    step-of_sum (base ++ more) d (multiples-grow base more d.parts s.named) s.divisor
    (subst (λ (ss : List (ℤ × LinearSum)). IsRightSum ss d)
    (sym (summands-grown base more d.parts s.named)) (sum-of_step base d s))

-- Limits

pub quotient-small : (g m b : ℕ) → 0 < g → g * m ≡ b → m ≤ b
quotient-small g m b h e =
    let p : 1 * m ≤ g * m = mul-le-mul h (le_refl m) in
    omega (arith, p, e) where
      le_refl : (k : ℕ) → k ≤ k
      le_refl k = omega arith

is128 : (z : ℤ) → unsigned_abs z ≤ 2 ^ 126 → Is128 z
is128 z h = (omega (arith, ints, h), omega (arith, ints, h))

two-fit : (p q : ℤ) → unsigned_abs p ≤ 2 ^ 124 → unsigned_abs q ≤ 2 ^ 124 → FitsAlong (pos 0) (p ∷ q ∷ [])
two-fit p q h k = (
  is128 p (omega (arith, h)),
  is128 (pos 0 +ℤ p) (omega (arith, ints, h)),
  (is128 q (omega (arith, k)), is128 ((pos 0 +ℤ p) +ℤ q) (omega (arith, ints, h, k)), tt),
)

-- A made row is a right step

made-sum : (x : ℕ) (u l : Row) → IsTrue (is_term u.term) → IsTrue (is_term l.term) → IsUpper x u.term → IsLower x l.term →
    IsRightSum ((pos (upper_multiple (size_of x u.term) (size_of x l.term)), u.term)
    ∷ (pos (lower_multiple (size_of x u.term) (size_of x l.term)), l.term) ∷ []) (step_of (tightened (pair_sum x (u.term, l.term)))
    (making x u l))
made-sum x u l h k up_ low_ =
    let a = size_of x u.term in
    let b = size_of x l.term in
    let m = upper_multiple a b in
    let n = lower_multiple a b in
    let bal = balance a b up_.positive low_.positive in
    let tu = IsTerm-from_test u.term h in
    let tl = IsTerm-from_test l.term k in
    let t = tightened-is (pair_sum x (u.term, l.term)) in
    let la : size_of x u.term ≤ 2 ^ 40 = AllWithin-listed x u.term.parts tu.within.coefficients in
    let lb : size_of x l.term ≤ 2 ^ 40 = AllWithin-listed x l.term.parts tl.within.coefficients in
    let lm : upper_multiple (size_of x u.term) (size_of x l.term) ≤ 2 ^ 40 = omega (
      arith,
      quotient-small (common_divisor a b) m b
          bal.divisor bal.first,
      lb,
    ) in
    let ln : lower_multiple (size_of x u.term) (size_of x l.term) ≤ 2 ^ 40 = omega (
      arith,
      quotient-small (common_divisor a b) n a
          bal.divisor bal.second,
      la,
    ) in
    record {
      columns_fit = λ y. two-fit (pos m *ℤ coefficient y u.term) (pos n *ℤ coefficient y l.term)
          (below (product_small (pos m) (coefficient y u.term) lm (AllWithin-listed y u.term.parts tu.within.coefficients)))
          (below (product_small (pos n) (coefficient y l.term) ln (AllWithin-listed y l.term.parts tl.within.coefficients)));
      constant_fits = two-fit (pos m *ℤ u.term.constant) (pos n *ℤ l.term.constant)
          (product_wide (pos m) u.term.constant lm tu.within.constant_limit)
          (product_wide (pos n) l.term.constant ln tl.within.constant_limit);
      divided = λ y. t.coefficients y;
      rounded = t.constant;
    } where
      below : {n : ℕ} → n ≤ 2 ^ 80 → n ≤ 2 ^ 124
      below h = omega (arith, h)

-- the row of a pair follows from its two rows
pub made-right : (base : List LinearSum) (x : ℕ) (u l : Row) → u.number < length base → row_at base u.number ≡ u.term →
    l.number < length base → row_at base l.number ≡ l.term → IsTrue (is_term u.term) → IsTrue (is_term l.term) →
    IsTrue (is_upper x u.term) →
    IsTrue (is_lower x l.term) → IsRightStep base (step_of (tightened (pair_sum x (u.term, l.term))) (making x u l))
made-right base x u l hu eu hl el tu tl up_ low_ =
    let m = pos (upper_multiple (size_of x u.term) (size_of x l.term)) in
    let n = pos (lower_multiple (size_of x u.term) (size_of x l.term)) in
    let d = step_of (tightened (pair_sum x (u.term, l.term))) (making x u l) in
    let s = made-sum x u l tu tl (upper-is x u.term up_) (lower-is x l.term low_) in
    step-of_sum base d (hu, not_negative _, (hl, not_negative _, tt)) (positive (row_divisor (pair_sum x (u.term, l.term)))
    (tightened-is (pair_sum x (u.term, l.term))).positive) (subst (λ (t : LinearSum). IsRightSum ((m, row_at base u.number) ∷ (n, t) ∷ [])
    d)
    (sym el) (subst (λ (t : LinearSum). IsRightSum ((m, t) ∷ (n, l.term) ∷ []) d) (sym eu) s)) where
      not_negative : (k : ℕ) → pos 0 ≤ℤ pos k
      not_negative k = omega (arith, ints)

      positive : (k : ℕ) → 0 < k → pos 1 ≤ℤ pos k
      positive k h = omega (arith, ints, h)

-- Candidates

pub founded-grows : (base more : List LinearSum) (t : LinearSum) (o : Origin) → IsFounded base t o → IsFounded (base ++ more) t o
founded-grows base more t (Known n) h = (length-grown base more n h.0, at-grown base more n h.0 ∙ h.1)
founded-grows base more t (Made m) h = step-grows base more (step_of t m) h

abbrev pub AreFounded : List LinearSum → List Candidate → Type 0
AreFounded base [] = Unit {0}
AreFounded base (c ∷ cs) = IsFounded base c.term c.origin × AreFounded base cs

founded-all-grow : (base more : List LinearSum) (cs : List Candidate) → AreFounded base cs → AreFounded (base ++ more) cs
founded-all-grow base more [] h = tt
founded-all-grow base more (c ∷ cs) h =
    (founded-grows base more c.term c.origin h.0, founded-all-grow base more cs h.1)

pub founded-from_all : (base : List LinearSum) (cs : List Candidate) → All (λ c. IsFounded base c.term c.origin) cs → AreFounded base cs
founded-from_all base [] h = tt
founded-from_all base (c ∷ cs) h = (
  All-head (λ d. IsFounded base d.term d.origin) c cs h,
  founded-from_all base cs (All-tail (λ d. IsFounded base d.term d.origin) c cs
      h),
)

abbrev pub terms_of_steps : List Derived → List LinearSum
terms_of_steps ds = map (λ d. d.row.term) ds

pub steps-right : (base : List LinearSum) (cs : List Candidate) → AreFounded base cs → AreRightSteps base (steps_of cs)
steps-right base [] h = tt
steps-right base (c ∷ cs) h = by_origin c.term c.origin h.0 (steps-right base cs h.1)
    (steps-right (base ++ c.term ∷ []) cs (founded-all-grow base (c.term ∷ []) cs h.1)) where
      by_origin : (t : LinearSum) (o : Origin) → IsFounded base t o → AreRightSteps base (steps_of cs) → AreRightSteps (base ++ t ∷ [])
          (steps_of cs) → AreRightSteps base (with_step o t (steps_of cs))
      by_origin t (Known n) f same more = same
      by_origin t (Made m) f same more = (f, more)

pub numbers-right : (base : List LinearSum) (cs : List Candidate) → AreFounded base cs → AreNumbered (base ++ terms_of_steps (steps_of cs))
    (numbered (length base) cs)
numbers-right base [] h = tt
numbers-right base (c ∷ cs) h = by_origin c.term c.origin h.0 (numbers-right base cs h.1)
    (numbers-right (base ++ c.term ∷ []) cs (founded-all-grow base (c.term ∷ []) cs h.1)) where
      by_origin : (t : LinearSum) (o : Origin) → IsFounded base t o → AreNumbered (base ++ terms_of_steps (steps_of cs))
          (numbered (length base) cs) →
          AreNumbered ((base ++ t ∷ []) ++ terms_of_steps (steps_of cs)) (numbered (length (base ++ t ∷ [])) cs) →
          AreNumbered (base ++ terms_of_steps (with_step o t (steps_of cs))) (record { term = t; number = number_of (length base) o }
          ∷ numbered (next_after (length base) o) cs)
      by_origin t (Known n) f same more =
          (length-grown base (terms_of_steps (steps_of cs)) n f.0, at-grown base (terms_of_steps (steps_of cs)) n f.0 ∙ f.1, same)
      by_origin t (Made m) f same more = (
        omega (arith, length-append base (t ∷ terms_of_steps (steps_of cs))),
        get_or_at base t (terms_of_steps (steps_of cs)) _ (length base)
            refl,
        subst (λ (n : ℕ). AreNumbered (base ++ t ∷ terms_of_steps (steps_of cs)) (numbered n cs)) (length_push base t)
            (subst (λ (ts : List LinearSum). AreNumbered ts (numbered (length (base ++ t ∷ [])) cs))
            (append_assoc base (t ∷ []) (terms_of_steps (steps_of cs))) more),
      )

-- All candidates are founded

-- a row with its number, that is a term
pub record IsPlaced (base : List LinearSum) (r : Row) : Type 0 where
  pub within : r.number < length base
  pub here : row_at base r.number ≡ r.term
  pub term : IsTrue (is_term r.term)

pub placed-all : (base : List LinearSum) (rows : List Row) → AreNumbered base rows → AreTerms rows → All (λ r. IsPlaced base r) rows
placed-all base [] h k = All-nil (λ r. IsPlaced base r)
placed-all base (r ∷ rows) h k =
    All-cons (λ s. IsPlaced base s) r rows (record { within = h.0; here = h.1; term = k.0 }) (placed-all base rows h.2 k.1)

made-founded : (base : List LinearSum) (x : ℕ) (us ls : List Row) → All (λ r. IsPlaced base r) us → All (λ r. IsPlaced base r) ls →
    All (λ r. is_upper x r.term ≡ true) us → All (λ r. is_lower x r.term ≡ true) ls → All (λ c. IsFounded base c.term c.origin)
    (made_of_all x us ls)
made-founded base x [] ls pu pl hu hl = All-nil (λ c. IsFounded base c.term c.origin)
made-founded base x (u ∷ us) ls pu pl hu hl =
    All-append (λ c. IsFounded base c.term c.origin) (map (made x u) ls) (made_of_all x us ls)
    (All-map (λ c. IsFounded base c.term c.origin) (made x u) ls (with_lowers ls pl hl))
    (made-founded base x us ls (All-tail (λ r. IsPlaced base r) u us pu) pl (All-tail (λ r. is_upper x r.term ≡ true) u us hu) hl) where
      with_lowers : (ks : List Row) → All (λ r. IsPlaced base r) ks → All (λ r. is_lower x r.term ≡ true) ks →
          All (λ l. IsRightStep base (step_of (tightened (pair_sum x (u.term, l.term))) (making x u l))) ks
      with_lowers ks p h = λ k d lt.
          let i = All-head (λ r. IsPlaced base r) u us pu in
          let j = p k d lt in
          made-right base x u (get_or ks k d) i.within i.here j.within j.here i.term j.term (All-head (λ r. is_upper x r.term ≡ true) u us
          hu)
          (h k d lt)

pub candidates-founded : (base : List LinearSum) (x : ℕ) (rows : List Row) → AreNumbered base rows → AreTerms rows →
    All (λ c. IsFounded base c.term c.origin) (candidates x rows)
candidates-founded base x rows h k =
    let p = placed-all base rows h k in
    let free_ = All-filter (λ r. is_free x r.term) (λ r. IsPlaced base r) rows p in
    All-append (λ c. IsFounded base c.term c.origin) (map known (frees x rows)) (made_of_all x (uppers x rows) (lowers x rows))
    (All-map (λ c. IsFounded base c.term c.origin) known (frees x rows) (λ i d lt. let j = free_ i d lt in (j.within, j.here)))
    (made-founded base x (uppers x rows) (lowers x rows) (All-filter (λ r. is_upper x r.term) (λ r. IsPlaced base r) rows p)
    (All-filter (λ r. is_lower x r.term) (λ r. IsPlaced base r) rows p) (filter_passes (λ r. is_upper x r.term) rows)
    (filter_passes (λ r. is_lower x r.term) rows))

-- More steps

pub rows_after-append : (base : List LinearSum) (ds es : List Derived) → rows_after base (ds ++ es) ≡ rows_after (rows_after base ds) es
rows_after-append base [] es = refl
rows_after-append base (d ∷ ds) es = rows_after-append (base ++ d.row.term ∷ []) ds es

pub length-rows_after : (base : List LinearSum) (ds : List Derived) → length (rows_after base ds) ≡ length base + length ds
length-rows_after base [] = omega arith
length-rows_after base (d ∷ ds) =
    omega (arith, length-rows_after (base ++ d.row.term ∷ []) ds, length_push base d.row.term)

pub right-append : (base : List LinearSum) (ds es : List Derived) → AreRightSteps base ds → AreRightSteps (rows_after base ds) es →
    AreRightSteps base (ds ++ es)
right-append base [] es h k = k
right-append base (d ∷ ds) es h k = (h.0, right-append (base ++ d.row.term ∷ []) ds es h.1 k)
