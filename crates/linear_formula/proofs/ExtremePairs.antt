-- Pairs of extreme rows, and what one more row makes of them.
use Rattle.std.proofs.Common.{◌≡◌, ◌≢◌, inl, inr, ℕ, suc, ◌+◌, ◌<◌, ◌==◌, append_assoc, length-append, List, [], ◌∷◌, ◌++◌, length, get_or, set, length-set, Bool, true, false, arith, refl, sym, ap, subst, ◌∙◌}
use Rattle.std.specs.Prelude.{All, Contains, Some, slice_get, if◌then◌else◌}
use Rattle.std.specs.List.{HoldsAt}
use borrow.Author.Tests.{eqb-true, eqb_apart}
use Rattle.std.proofs.lemmas.Int.{ints}
use Rattle.std.proofs.lemmas.Option.{same_Some}
use Rattle.std.proofs.lemmas.List.{get_or-set_same, get_or-set_other}
use Rattle.std.proofs.lemmas.List.Elements.{All-push, All-weaker, All-cons, All-nil, All-head, All-tail, All-contains, All-set, Contains-append_left, Contains-append_right, Contains-push}
use Rattle.linear_formula.specs.LinearSum.{LinearSum}
use Rattle.linear_formula.specs.Extremes.{IsAsStrong, IsBetween, HaveNumbers, AreExtremes}
use Rattle.linear_formula.specs.declared.formula.Atom.{Atom}
use Rattle.linear_formula.specs.declared.extremes.NumberedAtom.{NumberedAtom}
use Rattle.linear_formula.specs.declared.extremes.ExtremePair.{ExtremePair}
use Rattle.linear_formula.specs.steps.Outlines.{pair_numbers, pair_rows, numbers_of, rows_of, IsPair, IsWithin, ArePairs, IsOneOf, IsWidened}
use Rattle.linear_formula.proofs.ExtremeRows.{get_append_left, get_append_right, as_strong_itself, numbered_append}

-- One more row

-- the number after a list is that of the next row
get_last : (all : List Atom) (n : ℕ) (a : Atom) → n ≡ length all → slice_get (all ++ a ∷ []) n ≡ Some a
get_last all n a e =
    subst (λ m. slice_get (all ++ a ∷ []) m ≡ Some a) (omega (arith, e)) (get_append_right all (a ∷ []) 0 a refl)

pair_append : (all more : List Atom) (p : ExtremePair) → IsPair all p → IsPair (all ++ more) p
pair_append all more p h = record {
  greatest = get_append_left all more p.greatest.number p.greatest.atom h.greatest;
  least = get_append_left all more p.least.number p.least.atom h.least;
  ordered = h.ordered;
}

pairs_append : (pairs : List ExtremePair) (all more : List Atom) → All (λ p. IsPair all p) pairs → All (λ p. IsPair (all ++ more) p) pairs
pairs_append pairs all more h =
    All-weaker (λ p. IsPair all p) (λ p. IsPair (all ++ more) p) (pair_append all more) pairs h

within_append : (pairs others : List ExtremePair) (t : LinearSum) → IsWithin pairs t → IsWithin (pairs ++ others) t
within_append pairs others t h = record {
  pair = h.pair;
  there = Contains-append_left pairs others h.pair h.there;
  above = h.above;
  below = h.below;
}

-- the row in a pair of its own
pub pairs_pushed : (pairs : List ExtremePair) (all : List Atom) (p : ExtremePair) (n : ℕ) (a : Atom) → n ≡ length all →
    p.greatest.number ≡ n → p.greatest.atom ≡ a → p.least ≡ p.greatest → ArePairs pairs all →
    ArePairs (pairs ++ p ∷ []) (all ++ a ∷ [])
pairs_pushed pairs all p n a e number atom same h =
    let here : slice_get (all ++ a ∷ []) p.greatest.number ≡ Some p.greatest.atom =
    get_last all p.greatest.number a (number ∙ e) ∙ ap (λ b. Some b) (sym atom) in
    let own : IsPair (all ++ a ∷ []) p = record {
      greatest = here;
      least = subst (λ (m : NumberedAtom). slice_get (all ++ a ∷ []) m.number ≡ Some m.atom) (sym same) here;
      ordered = subst (λ (m : NumberedAtom). IsAsStrong p.greatest.atom.term m.atom.term) (sym same)
          (as_strong_itself p.greatest.atom.term);
    } in
    let last : IsWithin (pairs ++ p ∷ []) a.term = record {
      pair = p;
      there = Contains-push pairs p;
      above = subst (λ (b : Atom). IsAsStrong p.greatest.atom.term b.term) atom (as_strong_itself p.greatest.atom.term);
      below = subst (λ (b : Atom). IsAsStrong b.term p.least.atom.term) atom
          (subst (λ (m : NumberedAtom). IsAsStrong p.greatest.atom.term m.atom.term) (sym same) (as_strong_itself p.greatest.atom.term));
    } in
    record {
      pairs_there = All-push (λ q. IsPair (all ++ a ∷ []) q) pairs p (pairs_append pairs all (a ∷ []) h.pairs_there) own;
      within = All-push (λ b. IsWithin (pairs ++ p ∷ []) b.term) all a
          (All-weaker (λ b. IsWithin pairs b.term) (λ b. IsWithin (pairs ++ p ∷ []) b.term)
          (λ b. within_append pairs (p ∷ []) b.term) all h.within) last;
    }

-- the row in a pair that there is

one_there : (all : List Atom) (m old : NumberedAtom) (n : ℕ) (a : Atom) → n ≡ length all → slice_get all old.number ≡ Some old.atom →
    IsOneOf m old n a → slice_get (all ++ a ∷ []) m.number ≡ Some m.atom
one_there all m old n a e h (inl s) =
    subst (λ (x : NumberedAtom). slice_get (all ++ a ∷ []) x.number ≡ Some x.atom) (sym s)
    (get_append_left all (a ∷ []) old.number old.atom h)
one_there all m old n a e h (inr s) = get_last all m.number a (s.0 ∙ e) ∙ ap (λ b. Some b) (sym s.1)

one_parts : (m old : NumberedAtom) (n : ℕ) (a : Atom) → old.atom.term.parts ≡ a.term.parts → IsOneOf m old n a →
    m.atom.term.parts ≡ a.term.parts
one_parts m old n a e (inl s) = ap (λ (x : NumberedAtom). x.atom.term.parts) s ∙ e
one_parts m old n a e (inr s) = ap (λ (x : Atom). x.term.parts) s.1

-- what was between the rows of the pair is, and so is the row
record IsWider (all : List Atom) (p q : ExtremePair) (a : Atom) : Type 0 where
  own : IsPair (all ++ a ∷ []) q
  greatest : IsAsStrong q.greatest.atom.term p.greatest.atom.term
  least : IsAsStrong p.least.atom.term q.least.atom.term
  above : IsAsStrong q.greatest.atom.term a.term
  below : IsAsStrong a.term q.least.atom.term

wider : (all : List Atom) (p q : ExtremePair) (n : ℕ) (a : Atom) → n ≡ length all → p.greatest.atom.term.parts ≡ a.term.parts →
    IsPair all p → IsWidened p n a q → IsWider all p q a
wider all p q n a e parts h w =
    let low : p.least.atom.term.parts ≡ a.term.parts = sym h.ordered.parts ∙ parts in
    let upper : q.greatest.atom.term.parts ≡ a.term.parts = one_parts q.greatest p.greatest n a parts w.greatest in
    let lower : q.least.atom.term.parts ≡ a.term.parts = one_parts q.least p.least n a low w.least in
    let at_least = w.at_least h.ordered.constant in
    record {
      own = record {
        greatest = one_there all q.greatest p.greatest n a e h.greatest w.greatest;
        least = one_there all q.least p.least n a e h.least w.least;
        ordered = record { parts = upper ∙ sym lower; constant = omega (arith, ints, at_least, w.at_most) };
      };
      greatest = record { parts = upper ∙ sym parts; constant = w.above };
      least = record { parts = low ∙ sym lower; constant = w.below };
      above = record { parts = upper; constant = w.at_most };
      below = record { parts = sym lower; constant = at_least };
    }

as_strong_through : (s t u : LinearSum) → IsAsStrong s t → IsAsStrong t u → IsAsStrong s u
as_strong_through s t u h k = record { parts = h.parts ∙ k.parts; constant = omega (arith, ints, h.constant, k.constant) }

Contains_set_same : (pairs : List ExtremePair) (i : ℕ) (q : ExtremePair) → i < length pairs → Contains (set pairs i q) q
Contains_set_same pairs i q l = (i, simp length-set l, get_or-set_same pairs i q q l)

Contains_set_other : (pairs : List ExtremePair) (i k : ℕ) (q r : ExtremePair) → k ≢ i → k < length pairs → get_or pairs k r ≡ r →
    Contains (set pairs i q) r
Contains_set_other pairs i k q r d l e = (k, simp length-set l, get_or-set_other pairs i k q r d ∙ e)

within_set : (pairs : List ExtremePair) (all : List Atom) (i : ℕ) (p q : ExtremePair) (a : Atom) → i < length pairs →
    HoldsAt (λ r. r ≡ p) pairs i → IsWider all p q a → (t : LinearSum) → IsWithin pairs t → IsWithin (set pairs i q) t
within_set pairs all i p q a l at w t h = by_place (h.there.0 == i) refl where
  by_place : (b : Bool) → (h.there.0 == i) ≡ b → IsWithin (set pairs i q) t
  by_place true e =
      let place : h.there.0 ≡ i = eqb-true h.there.0 i e in
      let same : h.pair ≡ p = sym h.there.2 ∙ ap (λ k. get_or pairs k h.pair) place ∙ at h.pair in
      record {
        pair = q;
        there = Contains_set_same pairs i q l;
        above = as_strong_through q.greatest.atom.term p.greatest.atom.term t w.greatest
            (subst (λ (r : ExtremePair). IsAsStrong r.greatest.atom.term t) same h.above);
        below = as_strong_through t p.least.atom.term q.least.atom.term
            (subst (λ (r : ExtremePair). IsAsStrong t r.least.atom.term) same h.below) w.least;
      }
  by_place false e = record {
    pair = h.pair;
    there = Contains_set_other pairs i h.there.0 q h.pair (eqb_apart h.there.0 i e) h.there.1 h.there.2;
    above = h.above;
    below = h.below;
  }

pub pairs_widened : (pairs : List ExtremePair) (all : List Atom) (i : ℕ) (p q : ExtremePair) (n : ℕ) (a : Atom) → n ≡ length all →
    i < length pairs → HoldsAt (λ r. r ≡ p) pairs i → p.greatest.atom.term.parts ≡ a.term.parts → IsWidened p n a q →
    ArePairs pairs all → ArePairs (set pairs i q) (all ++ a ∷ [])
pairs_widened pairs all i p q n a e l at parts widened h =
    let old : IsPair all p = subst (IsPair all) (at p) (h.pairs_there i p l) in
    let w = wider all p q n a e parts old widened in
    let last : IsWithin (set pairs i q) a.term = record {
      pair = q;
      there = Contains_set_same pairs i q l;
      above = w.above;
      below = w.below;
    } in
    record {
      pairs_there = All-set (λ r. IsPair (all ++ a ∷ []) r) pairs i q w.own (pairs_append pairs all (a ∷ []) h.pairs_there);
      within = All-push (λ b. IsWithin (set pairs i q) b.term) all a
          (All-weaker (λ b. IsWithin pairs b.term) (λ b. IsWithin (set pairs i q) b.term)
          (λ b. within_set pairs all i p q a l at w b.term) all h.within) last;
    }

-- Pairs after others

set_behind : (before pairs : List ExtremePair) (i : ℕ) (q : ExtremePair) →
    set (before ++ pairs) (length before + i) q ≡ before ++ set pairs i q
set_behind [] pairs i q = let e : 0 + i ≡ i = omega arith in rw e refl
set_behind (p ∷ before) pairs i q =
    let e : suc (length before) + i ≡ suc (length before + i) = omega arith in
    rw e (ap (λ ps. p ∷ ps) (set_behind before pairs i q))

read_behind : (before pairs : List ExtremePair) (i : ℕ) (d : ExtremePair) →
    get_or (before ++ pairs) (length before + i) d ≡ get_or pairs i d
read_behind [] pairs i d = let e : 0 + i ≡ i = omega arith in rw e refl
read_behind (p ∷ before) pairs i d =
    let e : suc (length before) + i ≡ suc (length before + i) = omega arith in
    rw e (read_behind before pairs i d)

pub pairs_pushed_behind : (before pairs : List ExtremePair) (all : List Atom) (p : ExtremePair) (n : ℕ) (a : Atom) → n ≡ length all →
    p.greatest.number ≡ n → p.greatest.atom ≡ a → p.least ≡ p.greatest → ArePairs (before ++ pairs) all →
    ArePairs (before ++ (pairs ++ p ∷ [])) (all ++ a ∷ [])
pairs_pushed_behind before pairs all p n a e number atom same h =
    subst (λ (ps : List ExtremePair). ArePairs ps (all ++ a ∷ [])) (append_assoc before pairs (p ∷ []))
    (pairs_pushed (before ++ pairs) all p n a e number atom same h)

pub pairs_widened_behind : (before pairs : List ExtremePair) (all : List Atom) (i : ℕ) (p q : ExtremePair) (n : ℕ) (a : Atom) →
    n ≡ length all → i < length pairs → HoldsAt (λ r. r ≡ p) pairs i → p.greatest.atom.term.parts ≡ a.term.parts →
    IsWidened p n a q → ArePairs (before ++ pairs) all → ArePairs (before ++ set pairs i q) (all ++ a ∷ [])
pairs_widened_behind before pairs all i p q n a e l at parts widened h =
    let here : HoldsAt (λ r. r ≡ p) (before ++ pairs) (length before + i) = λ d. read_behind before pairs i d ∙ at d in
    let within : length before + i < length (before ++ pairs) = simp length-append (omega (arith, l)) in
    subst (λ (ps : List ExtremePair). ArePairs ps (all ++ a ∷ [])) (set_behind before pairs i q)
    (pairs_widened (before ++ pairs) all (length before + i) p q n a e within here parts widened h)

-- The rows of pairs, by their numbers

numbered_pair : (all : List Atom) (p : ExtremePair) → IsPair all p → HaveNumbers (pair_numbers p) (pair_rows p) all
numbered_pair all p h = (h.greatest, by_test (p.least.number == p.greatest.number)) where
  by_test : (b : Bool) → HaveNumbers (if b then [] else (p.least.number ∷ [])) (if b then [] else (p.least.atom ∷ [])) all
  by_test true = tt
  by_test false = (h.least, tt)

numbered_pairs : (all : List Atom) (pairs : List ExtremePair) → All (λ p. IsPair all p) pairs →
    HaveNumbers (numbers_of pairs) (rows_of pairs) all
numbered_pairs all [] h = tt
numbered_pairs all (p ∷ pairs) h =
    numbered_append (pair_numbers p) (numbers_of pairs) (pair_rows p) (rows_of pairs) all
    (numbered_pair all p (All-head (λ q. IsPair all q) p pairs h))
    (numbered_pairs all pairs (All-tail (λ q. IsPair all q) p pairs h))

-- both rows of a pair are among the rows
record IsAmong (rows : List Atom) (p : ExtremePair) : Type 0 where
  greatest : Contains rows p.greatest.atom
  least : Contains rows p.least.atom

pair_among : (all : List Atom) (p : ExtremePair) → IsPair all p → IsAmong (pair_rows p) p
pair_among all p h = record {
  greatest = first (if p.least.number == p.greatest.number then [] else (p.least.atom ∷ []));
  least = by_test (p.least.number == p.greatest.number) refl;
} where
  first : (rest : List Atom) → Contains (p.greatest.atom ∷ rest) p.greatest.atom
  first rest = (0, omega arith, refl)

  by_test : (b : Bool) → (p.least.number == p.greatest.number) ≡ b →
      Contains (p.greatest.atom ∷ (if b then [] else (p.least.atom ∷ []))) p.least.atom
  by_test true e =
      let same : p.greatest.atom ≡ p.least.atom =
      same_Some p.greatest.atom p.least.atom (sym h.greatest
      ∙ ap (slice_get all) (sym (eqb-true p.least.number p.greatest.number e)) ∙ h.least) in
      (0, omega arith, same)
  by_test false e = (1, omega arith, refl)

pairs_among : (all : List Atom) (pairs : List ExtremePair) → All (λ p. IsPair all p) pairs → All (λ p. IsAmong (rows_of pairs) p) pairs
pairs_among all [] h = All-nil (λ p. IsAmong [] p)
pairs_among all (p ∷ pairs) h =
    let here = pair_among all p (All-head (λ q. IsPair all q) p pairs h) in
    let rest = pairs_among all pairs (All-tail (λ q. IsPair all q) p pairs h) in
    let later : (q : ExtremePair) → IsAmong (rows_of pairs) q → IsAmong (rows_of (p ∷ pairs)) q =
    λ q k. record {
      greatest = Contains-append_right (pair_rows p) (rows_of pairs) q.greatest.atom k.greatest;
      least = Contains-append_right (pair_rows p) (rows_of pairs) q.least.atom k.least;
    } in
    All-cons (λ q. IsAmong (rows_of (p ∷ pairs)) q) p pairs record {
      greatest = Contains-append_left (pair_rows p) (rows_of pairs) p.greatest.atom here.greatest;
      least = Contains-append_left (pair_rows p) (rows_of pairs) p.least.atom here.least;
    } (All-weaker (λ q. IsAmong (rows_of pairs) q) (λ q. IsAmong (rows_of (p ∷ pairs)) q) later pairs rest)

pub pairs_extremes : (pairs : List ExtremePair) (all : List Atom) → ArePairs pairs all → AreExtremes (numbers_of pairs) (rows_of pairs) all
pairs_extremes pairs all h =
    let among = pairs_among all pairs h.pairs_there in
    let inner : (a : Atom) → IsWithin pairs a.term → IsBetween (rows_of pairs) a.term =
    λ a k. let both = All-contains (λ p. IsAmong (rows_of pairs) p) pairs k.pair among k.there in record {
      upper = k.pair.greatest.atom;
      upper_there = both.greatest;
      above = k.above;
      lower = k.pair.least.atom;
      lower_there = both.least;
      below = k.below;
    } in
    record {
      numbered = numbered_pairs all pairs h.pairs_there;
      between = All-weaker (λ a. IsWithin pairs a.term) (λ a. IsBetween (rows_of pairs) a.term) inner all h.within;
    }
