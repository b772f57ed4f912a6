-- The sums of a column's rows, as far as they were added or measured.
use Rattle.std.proofs.Common.{◌≡◌, ◌⊎◌, inl, inr, ℕ, zero, suc, ◌<◌, ◌≤◌, ◌+◌, Bool, true, false, not, List, [], ◌∷◌, length, get_or, ℤ, to_z, of_z, arith, refl, sym, ap, subst, ◌∙◌}
use Rattle.std.specs.Int.{w128}
use Rattle.std.specs.Prelude.{IsTrue, Contains, filter, if◌then◌else◌}
use Rattle.std.proofs.lemmas.Int.{ints}
use Rattle.std.proofs.lemmas.List.{get_or_default}
use Rattle.std.proofs.lemmas.Bool.{cases_lt}
use Rattle.linear_formula.specs.LinearSum.{LinearSum, is_term, is_within}
use Rattle.linear_formula.specs.steps.Order.{AllWithin}
use Rattle.linear_formula.proofs.Finishing.{cast_wide}
use Rattle.linear_formula.proofs.Limits.{IsTerm-from_test}
use Rattle.shadow_elim.specs.Division.{tightened}
use Rattle.shadow_elim.specs.Elimination.{pair_sum}
use Rattle.shadow_elim.specs.declared.limit.TheConstants.{MAX_ROWS}
use Rattle.shadow_elim.proofs.Members.{Among, contains-among, among-contains}
use Rattle.lia_solver.specs.declared.table.Origin.{Origin}
use Rattle.lia_solver.specs.declared.table.Origin.TheVariants.{Made}
use Rattle.lia_solver.specs.steps.Entries.{Entry, sum_at, making_of, bounds_above, ArePaired}
use Rattle.lia_solver.specs.steps.Tables.{starts_from, live, is_passed, passed, IsHeld, IsPut, AreRows, IsGrown, IsSummed, AreLowerPlaces, AreNarrow, HasWide, IsBehind, IsOverfull}
use Rattle.lia_solver.proofs.PairSumsInCode.{row_of, row-same}
use Rattle.lia_solver.proofs.FirstColumns.{sum-starts}
use Rattle.lia_solver.proofs.Growing.{grown-start, grown-put, grown-then, held-put, paired-back, paired-forth, upper-stays, lower-stays, summed-then}

no_way : true ≡ false → ⊥
no_way h = cc

-- A place among listed ones

pub listed-there : (xs : List ℕ) (i : ℕ) (d : ℕ) → i < length xs → Contains xs (get_or xs i d)
listed-there xs i d h = among-contains xs (get_or xs i d) (there xs i h) where
  there : (ys : List ℕ) (j : ℕ) → j < length ys → Among (get_or ys j d) ys
  there [] j k = absurd (omega (arith, k))
  there (y ∷ ys) zero k = inl refl
  there (y ∷ ys) (suc j) k = inr (there ys j (omega (arith, k)))

pub listed-place : (xs : List ℕ) (x : ℕ) → Contains xs x → (i : ℕ) × (i < length xs) × ((d : ℕ) → get_or xs i d ≡ x)
listed-place xs x h = place xs (contains-among xs x h) where
  place : (ys : List ℕ) → Among x ys → (i : ℕ) × (i < length ys) × ((d : ℕ) → get_or ys i d ≡ x)
  place [] m = absurd m
  place (y ∷ ys) (inl e) = (0, omega arith, λ d. e)
  place (y ∷ ys) (inr m) =
      let p = place ys m in
      (suc p.0, omega (arith, p.1), p.2)

-- One upper row

pub paired-of : (x : ℕ) (entries : List Entry) (u l : ℕ) (places : List ℕ) → AreRows entries → (u < length entries)
    × IsTrue (bounds_above x (sum_at entries u).parts) → AreLowerPlaces x entries places → Contains places l → ArePaired x entries u l
paired-of x entries u l places r h p c =
    let q = p.right l c in
    record {
      terms = r.terms;
      upper_place = h.0;
      lower_place = q.0;
      above = h.1;
      below = q.1;
    }

-- the sums with the first lower rows were added
pub record AreSummedTo (x : ℕ) (old new : List Entry) (u : ℕ) (places : List ℕ) (n : ℕ) : Type 0 where
  pub grown : IsGrown x old new
  pub sums : (i d : ℕ) → i < n → IsSummed x new u (get_or places i d)

pub summed-none : (x : ℕ) (entries : List Entry) (u : ℕ) (places : List ℕ) → AreRows entries → AreSummedTo x entries entries u places 0
summed-none x entries u places r = record { grown = grown-start x entries r; sums = λ i d h. absurd (omega (arith, h)) }

-- the sum of one pair was added
module _ (x : ℕ) (now new : List Entry) (u l : ℕ) (t : LinearSum) (o : Origin) (r : AreRows now) (p : ArePaired x now u l)
    (w : IsTrue (is_within (pair_sum x (sum_at now u, sum_at now l)))) (et : t ≡ tightened (pair_sum x (sum_at now u, sum_at now l)))
    (eo : o ≡ Made (making_of x now u l)) (put : IsPut t o now new)
  where
    made : IsTrue (is_term (tightened (pair_sum x (sum_at now u, sum_at now l))))
        × (starts_from (x + 1) (tightened (pair_sum x (sum_at now u, sum_at now l))).parts ≡ true)
    made = sum-starts x (sum_at now u) (sum_at now l) (p.terms.greatest u p.upper_place) (p.terms.greatest l p.lower_place) p.above p.below
        w

    pub put-grown : IsGrown x now new
    put-grown =
        grown-put x t o now new r put (subst (λ (q : LinearSum). IsTrue (is_term q)) (sym et) made.0)
        (ap (λ (q : LinearSum). starts_from (x + 1) q.parts) et ∙ made.1) (λ y ey oy. record {
          upper = u;
          lower = l;
          paired = p;
          within = w;
          sum = ey ∙ et;
          origin = oy ∙ eo;
        })

    pub put-summed : IsSummed x new u l
    put-summed = summed-there (upper-stays x now new u l put-grown.same p) (lower-stays x now new u l put-grown.same p) where
      summed-there : sum_at new u ≡ sum_at now u → sum_at new l ≡ sum_at now l → IsSummed x new u l
      summed-there a b = record {
        within = subst (λ (q : LinearSum). IsTrue (is_within (pair_sum x (q, sum_at new l)))) (sym a)
            (subst (λ (q : LinearSum). IsTrue (is_within (pair_sum x (sum_at now u, q)))) (sym b) w);
        held = subst (λ (q : LinearSum). IsHeld (tightened (pair_sum x (q, sum_at new l))) new) (sym a)
            (subst (λ (q : LinearSum). IsHeld (tightened (pair_sum x (sum_at now u, q))) new) (sym b)
            (subst (λ (q : LinearSum). IsHeld q new) et (held-put t o now new put)));
      }

-- one more
pub summed-more : (x : ℕ) (old now new : List Entry) (u : ℕ) (places : List ℕ) (n : ℕ) → AreRows old →
    (u < length old) × IsTrue (bounds_above x (sum_at old u).parts) → AreLowerPlaces x old places → n < length places →
    AreSummedTo x old now u places n → IsGrown x now new → IsSummed x new u (get_or places n 0) → AreSummedTo x old new u places (n + 1)
summed-more x old now new u places n r up_ lowers h s grown last = record {
  grown = grown-then x old now new r s.grown grown;
  sums = λ i d k. by_place i d k (cases_lt i n);
} where
  at : (i d : ℕ) → i < length places → Contains places (get_or places i d)
  at i d k = listed-there places i d k

  before : (l : ℕ) → Contains places l → ArePaired x now u l
  before l c =
      paired-forth x old now u l s.grown.rows s.grown.same (paired-of x old u l places r up_ lowers c)

  by_place : (i d : ℕ) → i < n + 1 → (i < n) ⊎ (n ≤ i) → IsSummed x new u (get_or places i d)
  by_place i d k (inl lt) =
      summed-then x now new u (get_or places i d) grown (before (get_or places i d) (at i d (omega (arith, lt, h)))) (s.sums i d lt)
  by_place i d k (inr ge) =
      let same : get_or places i d ≡ get_or places n 0 = ap (λ j. get_or places j d) (equal i n (omega (arith, ge)) (omega (arith, k)))
      ∙ get_or_default places n d 0 h in
      subst (IsSummed x new u) (sym same) last where
        equal : (a b : ℕ) → b ≤ a → a ≤ b → a ≡ b
        equal a b p q = omega (arith, p, q)

pub summed-all : (x : ℕ) (old new : List Entry) (u : ℕ) (places : List ℕ) (n : ℕ) → length places ≤ n → AreSummedTo x old new u places n →
    (l : ℕ) → Contains places l → IsSummed x new u l
summed-all x old new u places n h s l c =
    let p = listed-place places l c in
    subst (IsSummed x new u) (p.2 0) (s.sums p.0 0 (omega (arith, h, p.1)))

-- a sum that is too wide is one of the old rows
pub wide-back : (x : ℕ) (old now : List Entry) (u l : ℕ) → AreRows old → IsGrown x old now → ArePaired x now u l →
    (¬ IsTrue (is_within (pair_sum x (sum_at now u, sum_at now l)))) → HasWide x old
wide-back x old now u l r g p w =
    let q = paired-back x old now u l r g.same p in
    record {
      upper = u;
      lower = l;
      paired = q;
      wide = subst (λ (s : LinearSum). ¬ IsTrue (is_within (pair_sum x (s, sum_at old l)))) (upper-stays x old now u l g.same q)
          (subst (λ (s : LinearSum). ¬ IsTrue (is_within (pair_sum x (sum_at now u, s)))) (lower-stays x old now u l g.same q) w);
    }

-- Measured alone

abbrev pub AreNarrowTo : ℕ → List Entry → (u : ℕ) → (places : List ℕ) → (n : ℕ) → Type 0
AreNarrowTo x entries u places n =
    (i d : ℕ) → i < n → IsTrue (is_within (pair_sum x (sum_at entries u, sum_at entries (get_or places i d))))

abbrev pub AreAllNarrowTo : ℕ → List Entry → (n : ℕ) → Type 0
AreAllNarrowTo x entries n =
    (u l : ℕ) → u < n → ArePaired x entries u l → IsTrue (is_within (pair_sum x (sum_at entries u, sum_at entries l)))

-- All upper rows

-- the sums of the first rows were added
pub record AreEliminatedTo (x : ℕ) (old new : List Entry) (n : ℕ) : Type 0 where
  pub grown : IsGrown x old new
  pub sums : (u l : ℕ) → u < n → ArePaired x old u l → IsSummed x new u l

-- A row as the code has it

-- the sum of a pair is a term
pub pair-term : (x : ℕ) (entries : List Entry) (u l : ℕ) → ArePaired x entries u l →
    IsTrue (is_within (pair_sum x (sum_at entries u, sum_at entries l))) →
    IsTrue (is_term (tightened (pair_sum x (sum_at entries u, sum_at entries l))))
pair-term x entries u l p w =
    (sum-starts x (sum_at entries u) (sum_at entries l) (p.terms.greatest u p.upper_place) (p.terms.greatest l p.lower_place) p.above
    p.below
    w).0

pub row-cast : (s : LinearSum) (ps qs : List (ℕ × ℤ)) (c : ℤ) → row_of ps c ≡ s → IsTrue (is_term s) → qs ≡ ps →
    row_of qs (to_z w128 (of_z w128 c)) ≡ s
row-cast s ps qs c e h f =
    let limit = (IsTerm-from_test s h).within.constant_limit in
    row-same qs ps (to_z w128 (of_z w128 c)) c f (cast_wide c (omega (arith, ints, limit, ap (λ (t : LinearSum). t.constant) e))) ∙ e

pub row-within : (s : LinearSum) (ps qs : List (ℕ × ℤ)) (c : ℤ) → row_of ps c ≡ s → IsTrue (is_term s) → qs ≡ ps → AllWithin qs
row-within s ps qs c e h f =
    subst (λ (l : List (ℕ × ℤ)). AllWithin l) (sym (f ∙ ap (λ (t : LinearSum). t.parts) e)) (IsTerm-from_test s h).within.coefficients

-- Measured sums, one after another

pub narrow-more : (x : ℕ) (entries : List Entry) (u : ℕ) (places : List ℕ) (n : ℕ) → n < length places → AreNarrowTo x entries u places n →
    IsTrue (is_within (pair_sum x (sum_at entries u, sum_at entries (get_or places n 0)))) → AreNarrowTo x entries u places (n + 1)
narrow-more x entries u places n h s w i d k = by_place (cases_lt i n) where
  by_place : (i < n) ⊎ (n ≤ i) → IsTrue (is_within (pair_sum x (sum_at entries u, sum_at entries (get_or places i d))))
  by_place (inl lt) = s i d lt
  by_place (inr ge) =
      let same : get_or places n 0 ≡ get_or places i d = get_or_default places n 0 d h
      ∙ ap (λ j. get_or places j d) (equal n i (omega (arith, k)) (omega (arith, ge))) in
      subst (λ (l : ℕ). IsTrue (is_within (pair_sum x (sum_at entries u, sum_at entries l)))) same w where
        equal : (a b : ℕ) → b ≤ a → a ≤ b → a ≡ b
        equal a b p q = omega (arith, p, q)

pub all-narrow-more : (x : ℕ) (entries : List Entry) (n : ℕ) → AreAllNarrowTo x entries n → ((l : ℕ) → ArePaired x entries n l →
    IsTrue (is_within (pair_sum x (sum_at entries n, sum_at entries l)))) → AreAllNarrowTo x entries (n + 1)
all-narrow-more x entries n s w u l h p = by_place (cases_lt u n) where
  by_place : (u < n) ⊎ (n ≤ u) → IsTrue (is_within (pair_sum x (sum_at entries u, sum_at entries l)))
  by_place (inl lt) = s u l lt p
  by_place (inr ge) =
      let same : u ≡ n = omega (arith, h, ge) in
      subst (λ (v : ℕ). IsTrue (is_within (pair_sum x (sum_at entries v, sum_at entries l)))) (sym same)
      (w l (subst (λ (v : ℕ). ArePaired x entries v l) same p))

-- a row that doesn't bound the column from above is the upper one of no pair
pub not-upper : {X : Type 0} (x : ℕ) (entries : List Entry) (u l : ℕ) → bounds_above x (sum_at entries u).parts ≡ false →
    ArePaired x entries u l → X
not-upper x entries u l h p = absurd (no_way (sym p.above ∙ h))

-- The whole column

pub eliminated-none : (x : ℕ) (entries : List Entry) → AreRows entries → AreEliminatedTo x entries entries 0
eliminated-none x entries r =
    record { grown = grown-start x entries r; sums = λ u l h p. absurd (omega (arith, h)) }

pub eliminated-more : (x : ℕ) (old now new : List Entry) (n : ℕ) → AreRows old → AreEliminatedTo x old now n → IsGrown x now new →
    ((l : ℕ) → ArePaired x now n l → IsSummed x new n l) → AreEliminatedTo x old new (n + 1)
eliminated-more x old now new n r e g s = record {
  grown = grown-then x old now new r e.grown g;
  sums = λ u l h p. by_place u l h p (paired-forth x old now u l e.grown.rows e.grown.same p) (cases_lt u n);
} where
  by_place : (u l : ℕ) → u < n + 1 → ArePaired x old u l → ArePaired x now u l → (u < n) ⊎ (n ≤ u) → IsSummed x new u l
  by_place u l h p q (inl lt) = summed-then x now new u l g q (e.sums u l lt p)
  by_place u l h p q (inr ge) =
      let same : u ≡ n = omega (arith, h, ge) in
      subst (λ (v : ℕ). IsSummed x new v l) (sym same) (s l (subst (λ (v : ℕ). ArePaired x now v l) same q))

pub has-wide_back : (x : ℕ) (old now : List Entry) → AreRows old → IsGrown x old now → HasWide x now → HasWide x old
has-wide_back x old now r g w = wide-back x old now w.upper w.lower r g w.paired w.wide

pub narrow-back : (x : ℕ) (old now : List Entry) → IsGrown x old now → AreNarrow x now → AreNarrow x old
narrow-back x old now g n u l p =
    subst (λ (s : LinearSum). IsTrue (is_within (pair_sum x (s, sum_at old l)))) (upper-stays x old now u l g.same p)
    (subst (λ (s : LinearSum). IsTrue (is_within (pair_sum x (sum_at now u, s)))) (lower-stays x old now u l g.same p)
    (n u l (paired-forth x old now u l g.rows g.same p)))

-- how many rows are live
pub live-count : (x : ℕ) (entries : List Entry) → length (live x entries) + passed x entries ≡ length entries
live-count x [] = refl
live-count x (e ∷ es) = by_test (starts_from x e.sum.parts) (live-count x es) where
  by_test : (b : Bool) → length (live x es) + passed x es ≡ length es →
      length (if b then (e.sum ∷ live x es) else live x es) + length (if not b then (e ∷ filter (is_passed x) es) else filter (is_passed x)
      es)
      ≡ suc (length es)
  by_test true h = omega (arith, h)
  by_test false h = omega (arith, h)

narrow-summed : (x : ℕ) (old new : List Entry) (n : ℕ) → length old ≤ n → AreEliminatedTo x old new n → AreNarrow x old
narrow-summed x old new n h e u l p =
    subst (λ (s : LinearSum). IsTrue (is_within (pair_sum x (s, sum_at old l)))) (upper-stays x old new u l e.grown.same p)
    (subst (λ (s : LinearSum). IsTrue (is_within (pair_sum x (sum_at new u, s)))) (lower-stays x old new u l e.grown.same p)
    (e.sums u l (omega (arith, h, p.upper_place)) p).within)

pub overfull-is : (x : ℕ) (old new : List Entry) (p : ℕ) → IsGrown x old new → AreNarrow x old → p ≡ passed (x + 1) old →
    MAX_ROWS + p < length new → IsOverfull x old new
overfull-is x old new p g n e h = record {
  grown = g;
  narrow = n;
  count = omega (arith, e, h, g.passed, live-count (x + 1) new);
}

pub overfull-all : (x : ℕ) (old new : List Entry) (n p : ℕ) → length old ≤ n → AreEliminatedTo x old new n →
    p ≡ passed (x + 1) old → MAX_ROWS + p < length new → IsOverfull x old new
overfull-all x old new n p h e f k = overfull-is x old new p e.grown (narrow-summed x old new n h e) f k

pub behind-all : (x : ℕ) (old new : List Entry) (n p : ℕ) → length old ≤ n → AreEliminatedTo x old new n →
    p ≡ passed (x + 1) old → length new ≤ MAX_ROWS + p → IsBehind x old new
behind-all x old new n p h e f k = record {
  grown = e.grown;
  summed = λ u l q. e.sums u l (omega (arith, h, q.upper_place)) q;
  count = omega (arith, f, k, e.grown.passed, live-count (x + 1) new);
}

-- no more rows are passed than there are
pub passed-fits : (x : ℕ) (old new : List Entry) (p : ℕ) → IsGrown x old new → p ≡ passed (x + 1) old → p ≤ length new
passed-fits x old new p g e = omega (arith, e, g.passed, live-count (x + 1) new)
