-- Rows between which all rows of a list lie.
use Rattle.std.proofs.Common.{◌≡◌, ℕ, zero, suc, ◌+◌, ◌≤◌, append_assoc, length-append, List, [], ◌∷◌, ◌++◌, length, map, pos, ◌≤ℤ◌, arith, refl, ap, subst}
use Rattle.std.specs.Prelude.{All, Contains, Some, slice_get, IsTrue}
use Rattle.std.specs.List.{range_with_len}
use Rattle.std.proofs.lemmas.Int.{ints}
use Rattle.std.proofs.lemmas.Option.{none-some}
use Rattle.std.proofs.lemmas.List.Elements.{All-append, All-weaker, All-cons, All-head, All-tail, All-contains, Contains-append_left, Contains-append_right, All-contains_itself}
use Rattle.linear_formula.specs.LinearSum.{Valuation, LinearSum, value_of, value_of_parts, is_term}
use Rattle.linear_formula.specs.Formula.{Holds, HoldsAll, are_terms}
use Rattle.linear_formula.specs.Extremes.{IsAsStrong, IsBetween, HaveNumbers, AreExtremes}
use Rattle.linear_formula.specs.steps.Order.{InOrder, AllWithin}
use Rattle.linear_formula.specs.declared.formula.Atom.{Atom}
use Rattle.linear_formula.proofs.Limits.{both, both_in, IsTerm-from_test, test-from_IsTerm}

-- Numbered rows

pub get_append_left : (xs ys : List Atom) (n : ℕ) (a : Atom) → slice_get xs n ≡ Some a → slice_get (xs ++ ys) n ≡ Some a
get_append_left [] ys n a h = absurd cc
get_append_left (x ∷ xs) ys zero a h = h
get_append_left (x ∷ xs) ys (suc n) a h = get_append_left xs ys n a h

pub get_append_right : (xs ys : List Atom) (n : ℕ) (a : Atom) → slice_get ys n ≡ Some a → slice_get (xs ++ ys) (length xs + n) ≡ Some a
get_append_right [] ys n a h = let e : 0 + n ≡ n = omega arith in rw e h
get_append_right (x ∷ xs) ys n a h =
    let e : suc (length xs) + n ≡ suc (length xs + n) = omega arith in
    rw e (get_append_right xs ys n a h)

pub numbered_append_left : (ns : List ℕ) (rows all more : List Atom) → HaveNumbers ns rows all → HaveNumbers ns rows (all ++ more)
numbered_append_left [] [] all more h = tt
numbered_append_left [] (a ∷ rows) all more h = h
numbered_append_left (n ∷ ns) [] all more h = h
numbered_append_left (n ∷ ns) (a ∷ rows) all more h =
    (get_append_left all more n a h.0, numbered_append_left ns rows all more h.1)

pub numbered_append_right : (ns : List ℕ) (rows all more : List Atom) → HaveNumbers ns rows more →
    HaveNumbers (map (λ n. length all + n) ns) rows (all ++ more)
numbered_append_right [] [] all more h = tt
numbered_append_right [] (a ∷ rows) all more h = h
numbered_append_right (n ∷ ns) [] all more h = h
numbered_append_right (n ∷ ns) (a ∷ rows) all more h =
    (get_append_right all more n a h.0, numbered_append_right ns rows all more h.1)

pub numbered_append : (ns ms : List ℕ) (rows others all : List Atom) → HaveNumbers ns rows all → HaveNumbers ms others all →
    HaveNumbers (ns ++ ms) (rows ++ others) all
numbered_append [] ms [] others all h k = k
numbered_append [] ms (a ∷ rows) others all h k = absurd h
numbered_append (n ∷ ns) ms [] others all h k = absurd h
numbered_append (n ∷ ns) ms (a ∷ rows) others all h k = (h.0, numbered_append ns ms rows others all h.1 k)

-- all rows, by their numbers
pub numbered_own : (before rows : List Atom) (n : ℕ) → n ≡ length before →
    HaveNumbers (range_with_len n (length rows)) rows (before ++ rows)
numbered_own before [] n e = tt
numbered_own before (a ∷ rows) n e =
    let here : slice_get (before ++ a ∷ rows) n ≡ Some a =
    subst (λ m. slice_get (before ++ a ∷ rows) m ≡ Some a) (omega (arith, e)) (get_append_right before (a ∷ rows) 0 a refl) in
    let next : n + 1 ≡ length (before ++ a ∷ []) = simp length-append (omega (arith, e)) in (
      here,
      subst (HaveNumbers (range_with_len (n + 1) (length rows)) rows) (append_assoc before (a ∷ []) rows)
          (numbered_own (before ++ a ∷ []) rows (n + 1) next),
    )

-- Rows between others

pub between_append_left : (rows others : List Atom) (t : LinearSum) → IsBetween rows t → IsBetween (rows ++ others) t
between_append_left rows others t h = record {
  upper = h.upper;
  upper_there = Contains-append_left rows others h.upper h.upper_there;
  above = h.above;
  lower = h.lower;
  lower_there = Contains-append_left rows others h.lower h.lower_there;
  below = h.below;
}

pub between_append_right : (rows others : List Atom) (t : LinearSum) → IsBetween others t → IsBetween (rows ++ others) t
between_append_right rows others t h = record {
  upper = h.upper;
  upper_there = Contains-append_right rows others h.upper h.upper_there;
  above = h.above;
  lower = h.lower;
  lower_there = Contains-append_right rows others h.lower h.lower_there;
  below = h.below;
}

pub as_strong_itself : (t : LinearSum) → IsAsStrong t t
as_strong_itself t = record { parts = refl; constant = omega (arith, ints) }

pub between_itself : (rows : List Atom) (a : Atom) → Contains rows a → IsBetween rows a.term
between_itself rows a h = record {
  upper = a;
  upper_there = h;
  above = as_strong_itself a.term;
  lower = a;
  lower_there = h;
  below = as_strong_itself a.term;
}

-- of no rows there are none
pub no_extremes : (ns : List ℕ) (rows : List Atom) → AreExtremes ns rows [] → (ns ≡ []) × (rows ≡ [])
no_extremes [] [] h = (refl, refl)
no_extremes [] (a ∷ rows) h = absurd h.numbered
no_extremes (n ∷ ns) [] h = absurd h.numbered
no_extremes (n ∷ ns) (a ∷ rows) h = absurd (none-some a h.numbered.0)

-- the extreme rows of both lists are some of the joined one
pub append-extremes : (ns ms : List ℕ) (rows others all more : List Atom) → AreExtremes ns rows all → AreExtremes ms others more →
    AreExtremes (ns ++ map (λ m. length all + m) ms) (rows ++ others) (all ++ more)
append-extremes ns ms rows others all more h k = record {
  numbered = numbered_append ns (map (λ m. length all + m) ms) rows others (all ++ more)
      (numbered_append_left ns rows all more h.numbered)
      (numbered_append_right ms others all more k.numbered);
  between = All-append (λ a. IsBetween (rows ++ others) a.term) all more
      (All-weaker (λ a. IsBetween rows a.term) (λ a. IsBetween (rows ++ others) a.term)
      (λ a. between_append_left rows others a.term) all h.between)
      (All-weaker (λ a. IsBetween others a.term) (λ a. IsBetween (rows ++ others) a.term)
      (λ a. between_append_right rows others a.term) more k.between);
}

-- all rows
pub own-extremes : (rows : List Atom) → AreExtremes (range_with_len 0 (length rows)) rows rows
own-extremes rows = record {
  numbered = numbered_own [] rows 0 refl;
  between = All-weaker (Contains rows) (λ a. IsBetween rows a.term) (between_itself rows) rows (All-contains_itself rows);
}

-- with one more row after all
pub push_extremes : (ns : List ℕ) (rows all : List Atom) (n : ℕ) (a : Atom) → n ≡ length all → AreExtremes ns rows all →
    AreExtremes (ns ++ n ∷ []) (rows ++ a ∷ []) (all ++ a ∷ [])
push_extremes ns rows all n a e h =
    let last : length all + 0 ≡ n = omega (arith, e) in
    subst (λ m. AreExtremes (ns ++ m ∷ []) (rows ++ a ∷ []) (all ++ a ∷ [])) last
    (append-extremes ns (0 ∷ []) rows (a ∷ []) all (a ∷ []) h (own-extremes (a ∷ [])))

-- What holds of the extreme rows holds of all

-- where a row holds, a weaker one does
pub weaker_holds : (v : Valuation) (s t : LinearSum) → IsAsStrong s t → value_of v s ≤ℤ pos 0 → value_of v t ≤ℤ pos 0
weaker_holds v s t h k = omega (arith, ints, ap (value_of_parts v) h.parts, h.constant)

holds_each : (v : Valuation) (rows : List Atom) → HoldsAll v rows → All (λ a. Holds v a) rows
holds_each v [] h = λ k d l. absurd (omega (arith, l))
holds_each v (a ∷ rows) h = All-cons (λ b. Holds v b) a rows h.0 (holds_each v rows h.1)

each_holds : (v : Valuation) (rows : List Atom) → All (λ a. Holds v a) rows → HoldsAll v rows
each_holds v [] h = tt
each_holds v (a ∷ rows) h = (All-head (λ b. Holds v b) a rows h, each_holds v rows (All-tail (λ b. Holds v b) a rows h))

between_holds : (v : Valuation) (rows : List Atom) (a : Atom) → HoldsAll v rows → IsBetween rows a.term → Holds v a
between_holds v rows a h k =
    weaker_holds v k.upper.term a.term k.above (All-contains (λ b. Holds v b) rows k.upper (holds_each v rows h) k.upper_there)

pub extremes-hold : (v : Valuation) (ns : List ℕ) (rows all : List Atom) → AreExtremes ns rows all → HoldsAll v rows → HoldsAll v all
extremes-hold v ns rows all e h =
    each_holds v all (All-weaker (λ a. IsBetween rows a.term) (λ a. Holds v a) (λ a. between_holds v rows a h) all e.between)

terms_each : (rows : List Atom) → IsTrue (are_terms rows) → All (λ a. IsTrue (is_term a.term)) rows
terms_each [] h = λ k d l. absurd (omega (arith, l))
terms_each (a ∷ rows) h =
    let hs = both (is_term a.term) (are_terms rows) h in
    All-cons (λ b. IsTrue (is_term b.term)) a rows hs.0 (terms_each rows hs.1)

each_terms : (rows : List Atom) → All (λ a. IsTrue (is_term a.term)) rows → IsTrue (are_terms rows)
each_terms [] h = refl
each_terms (a ∷ rows) h =
    both_in (is_term a.term) (are_terms rows) (All-head (λ b. IsTrue (is_term b.term)) a rows h)
    (each_terms rows (All-tail (λ b. IsTrue (is_term b.term)) a rows h))

-- the parts are those of a term, and the constant lies between those of two
pub between_term : (s t u : LinearSum) → IsAsStrong s t → IsAsStrong t u → IsTrue (is_term s) → IsTrue (is_term u) → IsTrue (is_term t)
between_term s t u h k p q =
    let ps = IsTerm-from_test s p in
    let qs = IsTerm-from_test u q in
    test-from_IsTerm t record {
      order = subst (InOrder 0) h.parts ps.order;
      within = record {
        count = subst (λ x. length x ≤ 1024) h.parts ps.within.count;
        coefficients = subst AllWithin h.parts ps.within.coefficients;
        constant_limit = omega (arith, ints, h.constant, k.constant, ps.within.constant_limit, qs.within.constant_limit);
      };
    }

pub extremes-terms : (ns : List ℕ) (rows all : List Atom) → AreExtremes ns rows all → IsTrue (are_terms rows) → IsTrue (are_terms all)
extremes-terms ns rows all e h =
    let each = terms_each rows h in
    let inner : (a : Atom) → IsBetween rows a.term → IsTrue (is_term a.term) =
    λ a k. between_term k.upper.term a.term k.lower.term k.above k.below
    (All-contains (λ b. IsTrue (is_term b.term)) rows k.upper each k.upper_there)
    (All-contains (λ b. IsTrue (is_term b.term)) rows k.lower each k.lower_there) in
    each_terms all (All-weaker (λ a. IsBetween rows a.term) (λ a. IsTrue (is_term a.term)) inner all e.between)
