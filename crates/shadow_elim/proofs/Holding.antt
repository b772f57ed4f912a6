-- Which rows lists hold.
use Rattle.std.proofs.Common.{◌≡◌, ◌≢◌, ℕ, zero, suc, ◌+◌, ◌<◌, ◌≤◌, Bool, true, false, not, cond, List, [], ◌∷◌, ◌++◌, length, map, set, get_or, take, drop, Vec, Result, Ok, Err, ℤ, pos, negsuc, FitsSigned, to_z, of_z, to_z-of_z, arith, refl, sym, ap, subst, ◌∙◌}
use Rattle.std.specs.Int.{w128}
use Rattle.std.specs.Prelude.{All, Contains, OnOk, filter, if◌then◌else◌}
use Rattle.std.specs.List.{sum_by}
use Rattle.std.proofs.lemmas.List.Sums.{sum_by_push, sum_by-le-sum_by}
use Rattle.std.proofs.lemmas.List.{drop_more, map_more, get_or-set_same, get_or-set_other, get_or_append_left, length-set, length-append, map-append, append_assoc, take_more, take_all, flat_map_more}
use Rattle.std.proofs.lemmas.List.Elements.{All-set, All-push, All-contains, All-weaker, All-head, All-tail}
use Rattle.std.specs.declared.alloc.Global.{Global}
use Rattle.linear_formula.specs.LinearSum.{LinearSum, coefficient, is_zero}
use Rattle.shadow_elim.specs.declared.row.Row.{Row}
use Rattle.shadow_elim.specs.declared.pairing.Candidate.{Candidate}
use Rattle.shadow_elim.specs.Reduction.{stays, reduced_after, reduced, SameReduced}
use Rattle.shadow_elim.specs.Elimination.{is_free}
use Rattle.shadow_elim.specs.steps.Making.{candidate_terms, made, made_of_all, AllFounded, IsFounded}
use Rattle.shadow_elim.specs.steps.Lists.{list_at, names, rank, Hold, staying, AreAdded}
use Rattle.shadow_elim.specs.steps.Places.{AreLastPlaces, is_kept}
use Rattle.shadow_elim.proofs.Filtering.{Respects, filter-reduced, same-again}
use Rattle.shadow_elim.proofs.LastPlaces.{stays-is_kept, reduced_after-step}
use Rattle.shadow_elim.proofs.Reductions.{same-itself, same-then, same-append, same-reduced}
use Rattle.shadow_elim.proofs.Splitting.{filter_in, filter_out}
use Rattle.shadow_elim.proofs.Strength.{Decides-same_list}

no_way : true ≡ false → ⊥
no_way h = cc

-- Ranks

pub rank-free : (xs : List ℕ) (i : ℕ) (t : LinearSum) → i < length xs → is_free (get_or xs i 0) t ≡ true → rank (drop i xs) t
    ≡ rank (drop (i + 1) xs) t
rank-free xs i t h e =
    ap (λ ys. rank ys t) (drop_more xs i 0 h) ∙ ap (λ (b : Bool). if b then rank (drop (i + 1) xs) t else suc (length (drop (i + 1) xs))) e

length-drop_more : (xs : List ℕ) (i : ℕ) → i < length xs → suc (length (drop (i + 1) xs)) ≡ length (drop i xs)
length-drop_more xs i h = sym (ap length (drop_more xs i 0 h))

length-dropped : (xs : List ℕ) (i n : ℕ) → n + i ≡ length xs → length (drop i xs) ≡ n
length-dropped xs zero n h = omega (arith, h)
length-dropped [] (suc i) n h = omega (arith, h)
length-dropped (x ∷ xs) (suc i) n h = length-dropped xs i n (omega (arith, h))

pub rank-named : (xs : List ℕ) (i n : ℕ) (t : LinearSum) → i < length xs → n + i ≡ length xs → is_free (get_or xs i 0) t ≡ false →
    n ≡ rank (drop i xs) t
rank-named xs i n t h k e =
    sym (ap (λ ys. rank ys t) (drop_more xs i 0 h) ∙ ap (λ (b : Bool). if b then rank (drop (i + 1) xs) t else suc
    (length (drop (i + 1) xs))) e ∙ length-drop_more xs i h ∙ length-dropped xs i n k)

drop_past : (xs : List ℕ) (i : ℕ) → length xs ≤ i → drop i xs ≡ []
drop_past [] zero h = refl
drop_past [] (suc i) h = refl
drop_past (x ∷ xs) zero h = absurd (omega (arith, h))
drop_past (x ∷ xs) (suc i) h = drop_past xs i (omega (arith, h))

pub rank-past : (xs : List ℕ) (i : ℕ) (t : LinearSum) → length xs ≤ i → 0 ≡ rank (drop i xs) t
rank-past xs i t h = sym (ap (λ ys. rank ys t) (drop_past xs i h))

-- the tests of the code
pub zero_from : (x : ℕ) (t : LinearSum) (z : ℤ) → FitsSigned w128 z → of_z w128 z ≡ 0 → z ≡ coefficient x t → is_free x t ≡ true
zero_from x t z f e g = ap is_zero (sym g ∙ (sym (to_z-of_z f) ∙ ap (to_z w128) e))

pub not_zero_from : (x : ℕ) (t : LinearSum) (z : ℤ) → (of_z w128 z ≡ 0 → ⊥) → z ≡ coefficient x t → is_free x t ≡ false
not_zero_from x t z n g = by_test (is_free x t) refl where
  is_none : (y : ℤ) → is_zero y ≡ true → y ≡ pos 0
  is_none (pos zero) e = refl
  is_none (pos (suc k)) e = absurd (no_way (sym e))
  is_none (negsuc k) e = absurd (no_way (sym e))

  by_test : (b : Bool) → is_free x t ≡ b → b ≡ false
  by_test false e = refl
  by_test true e = absurd (n (ap (of_z w128) (g ∙ is_none (coefficient x t) e)))

pub rank-below : (xs : List ℕ) (t : LinearSum) → rank xs t ≤ length xs
rank-below [] t = omega arith
rank-below (x ∷ xs) t = by_test (is_free x t) (rank-below xs t) where
  by_test : (b : Bool) → rank xs t ≤ length xs → (if b then rank xs t else suc (length xs)) ≤ suc (length xs)
  by_test true h = omega (arith, h)
  by_test false h = omega arith

-- What a row names goes by its coefficients

pub free-respects : (x : ℕ) → Respects (is_free x)
free-respects x s t e = ap (λ ps. is_free x (record { parts = ps; constant = pos 0 })) ((Decides-same_list s.parts t.parts).0 e)

pub names-respects : (x : ℕ) → Respects (names x)
names-respects x s t e = ap not (free-respects x s t e)

-- Lists

pub hold-agree : (xs : List ℕ) (rows : List LinearSum) (old new : List (List Candidate)) →
    ((n : ℕ) → n ≤ length xs → list_at new n ≡ list_at old n) → Hold xs rows old → Hold xs rows new
hold-agree [] rows old new f h =
    subst (λ (l : List Candidate). SameReduced rows (candidate_terms l)) (sym (f 0 (omega arith))) h
hold-agree (x ∷ xs) rows old new f h = (
  subst (λ (l : List Candidate). SameReduced (filter (names x) rows) (candidate_terms l)) (sym (f (suc (length xs)) (omega arith))) h.0,
  hold-agree xs (filter (is_free x) rows) old new (λ n k. f n (omega (arith, k))) h.1,
)

-- one more row at the end of a list
same-more : (rows : List LinearSum) (cs ds : List Candidate) (c : Candidate) → SameReduced rows (candidate_terms cs) →
    SameReduced (candidate_terms (cs ++ c ∷ [])) (candidate_terms ds) → SameReduced (rows ++ c.term ∷ []) (candidate_terms ds)
same-more rows cs ds c h k =
    same-then (rows ++ c.term ∷ []) (candidate_terms (cs ++ c ∷ [])) (candidate_terms ds)
    (subst (λ (ts : List LinearSum). SameReduced (rows ++ c.term ∷ []) ts) (sym (map-append (λ (d : Candidate). d.term) cs (c ∷ [])))
    (same-append rows (candidate_terms cs) (c.term ∷ []) h)) k

hold-row : (xs : List ℕ) (rows : List LinearSum) (old : List (List Candidate)) (i : ℕ) (c : Candidate) (ds : List Candidate) →
    i < length old → i ≡ rank xs c.term → SameReduced (candidate_terms (list_at old i ++ c ∷ [])) (candidate_terms ds) → Hold xs rows old →
    Hold xs (rows ++ c.term ∷ []) (set old i ds)
hold-row [] rows old i c ds l e k h =
    let here : list_at (set old i ds) 0 ≡ ds = ap (λ n. list_at (set old i ds) n) (sym e) ∙ get_or-set_same old i ds [] l in
    let there : SameReduced rows (candidate_terms (list_at old i)) = subst
    (λ (n : ℕ). SameReduced rows (candidate_terms (list_at old n))) (sym e) h in
    subst (λ (z : List Candidate). SameReduced (rows ++ c.term ∷ []) (candidate_terms z)) (sym here)
    (same-more rows (list_at old i) ds c there k)
hold-row (x ∷ xs) rows old i c ds l e k h =
    by_test (is_free x c.term) refl e (λ g. hold-row xs (filter (is_free x) rows) old i c ds l g k h.1) where
      here : i ≡ suc (length xs) → is_free x c.term ≡ false → SameReduced (filter (names x) (rows ++ c.term ∷ [])) (candidate_terms
          (list_at (set old i ds) (suc (length xs))))
      here g f =
          let at : list_at (set old i ds) (suc (length xs)) ≡ ds = ap (λ n. list_at (set old i ds) n) (sym g)
          ∙ get_or-set_same old i ds [] l in
          let there : SameReduced (filter (names x) rows) (candidate_terms (list_at old i)) = subst
          (λ (n : ℕ). SameReduced (filter (names x) rows) (candidate_terms (list_at old n))) (sym g) h.0 in
          subst (λ (z : List Candidate). SameReduced (filter (names x) (rows ++ c.term ∷ [])) (candidate_terms z)) (sym at)
          (subst (λ (ts : List LinearSum). SameReduced ts (candidate_terms ds)) (sym (filter_in (names x) rows c.term (ap not f)))
          (same-more (filter (names x) rows) (list_at old i) ds c there k))

      other : (n : ℕ) → n ≢ i → list_at (set old i ds) n ≡ list_at old n
      other n g = get_or-set_other old i n ds [] g

      by_test : (b : Bool) → is_free x c.term ≡ b → i ≡ (if b then rank xs c.term else suc (length xs)) →
          (i ≡ rank xs c.term → Hold xs (filter (is_free x) rows ++ c.term ∷ []) (set old i ds)) →
          Hold (x ∷ xs) (rows ++ c.term ∷ []) (set old i ds)
      by_test true f g r = (
        subst (λ (ts : List LinearSum). SameReduced ts (candidate_terms (list_at (set old i ds) (suc (length xs)))))
            (sym (filter_out (names x) rows c.term (ap not f)))
            (subst (λ (z : List Candidate). SameReduced (filter (names x) rows) (candidate_terms z))
            (sym (other (suc (length xs)) (λ q. absurd (omega (arith, q, g, rank-below xs c.term))))) h.0),
        subst (λ (ts : List LinearSum). Hold xs ts (set old i ds)) (sym (filter_in (is_free x) rows c.term f)) (r g),
      )
      by_test false f g r = (
        here g f,
        subst (λ (ts : List LinearSum). Hold xs ts (set old i ds)) (sym (filter_out (is_free x) rows c.term f))
            (hold-agree xs (filter (is_free x) rows) old (set old i ds) (λ n q. other n (λ p. absurd (omega (arith, p, g, q)))) h.1),
      )

pub hold-reduced : (xs : List ℕ) (rows : List LinearSum) (lists : List (List Candidate)) → Hold xs rows lists → Hold xs (reduced rows) lists
hold-reduced [] rows lists h =
    same-then (reduced rows) rows (candidate_terms (list_at lists 0)) (same-again rows) h
hold-reduced (x ∷ xs) rows lists h = (
  subst (λ (ts : List LinearSum). SameReduced ts (candidate_terms (list_at lists (suc (length xs)))))
      (sym (filter-reduced (names x) (names-respects x) rows))
      (same-then (reduced (filter (names x) rows)) (filter (names x) rows) (candidate_terms (list_at lists (suc (length xs))))
      (same-again (filter (names x) rows)) h.0),
  subst (λ (ts : List LinearSum). Hold xs ts lists) (sym (filter-reduced (is_free x) (free-respects x) rows))
      (hold-reduced xs (filter (is_free x) rows) lists h.1),
)

-- more rows that say the same
pub hold-same : (xs : List ℕ) (rows others : List LinearSum) (lists : List (List Candidate)) → rows ≡ others → Hold xs rows lists →
    Hold xs others lists
hold-same xs rows others lists e h = subst (λ (ts : List LinearSum). Hold xs ts lists) e h

-- empty lists
pub hold-none : (xs : List ℕ) (lists : List (List Candidate)) → ((n : ℕ) → list_at lists n ≡ []) → Hold xs [] lists
hold-none [] lists f =
    subst (λ (l : List Candidate). SameReduced [] (candidate_terms l)) (sym (f 0)) (same-itself [])
hold-none (x ∷ xs) lists f =
    (subst (λ (l : List Candidate). SameReduced [] (candidate_terms l)) (sym (f (suc (length xs)))) (same-itself []), hold-none xs lists f)

pub none-at : (lists : List (List Candidate)) → All (λ l. l ≡ []) lists → (n : ℕ) → list_at lists n ≡ []
none-at [] h n = refl
none-at (l ∷ lists) h zero = All-head (λ k. k ≡ []) l lists h
none-at (l ∷ lists) h (suc n) = none-at lists (λ k d lt. h (suc k) d (omega (arith, lt))) n

-- How many rows stay

length-split : (x : ℕ) (rows : List LinearSum) → length (filter (names x) rows) + length (filter (is_free x) rows) ≡ length rows
length-split x [] = refl
length-split x (t ∷ rows) = by_test (is_free x t) (length-split x rows) where
  by_test : (b : Bool) → length (filter (names x) rows) + length (filter (is_free x) rows) ≡ length rows →
      length (cond (not b) (t ∷ filter (names x) rows) (filter (names x) rows)) + length
      (cond b (t ∷ filter (is_free x) rows) (filter (is_free x) rows)) ≡ suc (length rows)
  by_test true e = omega (arith, e)
  by_test false e = omega (arith, e)

last-split : {X : Type 0} (xs : List X) (n : ℕ) (d : X) → length xs ≡ suc n → (front : List X) × (xs ≡ front ++ get_or xs n d ∷ [])
    × (length front ≡ n)
last-split [] n d h = absurd (omega (arith, h))
last-split (x ∷ []) zero d h = ([], refl, refl)
last-split (x ∷ y ∷ xs) zero d h = absurd (omega (arith, h))
last-split (x ∷ []) (suc n) d h = absurd (omega (arith, h))
last-split (x ∷ y ∷ xs) (suc n) d h =
    let r = last-split (y ∷ xs) n d (omega (arith, h)) in
    (x ∷ r.0, ap (λ (l : List _). x ∷ l) r.1, omega (arith, r.2))

sum-last : (front : List (List Candidate)) (l : List Candidate) → sum_by staying (front ++ l ∷ []) ≡ staying l + sum_by staying front
sum-last front l = omega (arith, sum_by_push staying front l)

pub hold-count : (xs : List ℕ) (rows : List LinearSum) (lists : List (List Candidate)) → length lists ≡ suc (length xs) →
    Hold xs rows lists → sum_by staying lists ≡ length (reduced rows)
hold-count [] rows lists n h =
    let s = last-split lists 0 [] n in
    ap (λ ls. sum_by staying ls) s.1 ∙ sum-last s.0 (list_at lists 0) ∙ none s.0 s.2 ∙ sym (ap length (same-reduced rows
    (candidate_terms (list_at lists 0)) h)) where
      none : (front : List (List Candidate)) → length front ≡ 0 → staying (list_at lists 0) + sum_by staying front
          ≡ staying (list_at lists 0)
      none [] e = omega arith
      none (l ∷ ls) e = absurd (omega (arith, e))
hold-count (x ∷ xs) rows lists n h =
    let s = last-split lists (suc (length xs)) [] n in
    let last = list_at lists (suc (length xs)) in
    let front : Hold xs (filter (is_free x) rows) s.0 = hold-agree xs (filter (is_free x) rows) lists s.0 (λ k q.
    sym (ap (λ ls. list_at ls k) s.1 ∙ get_or_append_left s.0 (last ∷ []) [] k (omega (arith, q, s.2)))) h.1 in
    let r = hold-count xs (filter (is_free x) rows) s.0 s.2 front in
    let a : staying last ≡ length (filter (names x) (reduced rows)) = sym (ap length (same-reduced (filter (names x) rows)
    (candidate_terms last) h.0)) ∙ sym (ap length (filter-reduced (names x) (names-respects x) rows)) in
    let b : sum_by staying s.0 ≡ length (filter (is_free x) (reduced rows)) = r
    ∙ sym (ap length (filter-reduced (is_free x) (free-respects x) rows)) in
    ap (λ ls. sum_by staying ls) s.1 ∙ sum-last s.0 last ∙ ap (λ k. k + sum_by staying s.0) a
    ∙ ap (λ k. length (filter (names x) (reduced rows)) + k) b ∙ length-split x (reduced rows)

-- Candidates in their lists

added-one : (xs : List ℕ) (old : List (List Candidate)) (i : ℕ) (c : Candidate) (ds : List Candidate) → i < length old →
    i ≡ rank xs c.term → SameReduced (candidate_terms (list_at old i ++ c ∷ [])) (candidate_terms ds) →
    All (λ d. Contains (list_at old i ++ c ∷ []) d) ds → AreAdded xs (c ∷ []) old (set old i ds)
added-one xs old i c ds bound e k among = record {
  count = length-set old i ds;
  hold = λ rows h. hold-row xs rows old i c ds bound e k h;
  founded = λ base h g. All-set (AllFounded base) old i ds (All-weaker (λ d. Contains (list_at old i ++ c ∷ []) d)
      (λ d. IsFounded base d.term d.origin) (λ d here. All-contains (λ f. IsFounded base f.term f.origin) (list_at old i ++ c ∷ []) d
      (All-push (λ f. IsFounded base f.term f.origin) (list_at old i) c (h i [] bound) (All-head (λ f. IsFounded base f.term f.origin) c
      [] g)) here) ds among) h;
}

at_default : {X : Type 0} (xs : List X) (k : ℕ) (d e : X) → k < length xs → get_or xs k d ≡ get_or xs k e
at_default [] k d e h = absurd (omega (arith, h))
at_default (x ∷ xs) zero d e h = refl
at_default (x ∷ xs) (suc k) d e h = at_default xs k d e (omega (arith, h))

pub rank-within : (xs : List ℕ) (old : List (List Candidate)) (i : ℕ) (t : LinearSum) → length xs < length old → i ≡ rank xs t → i < length
    old
rank-within xs old i t l e = omega (arith, l, e, rank-below xs t)

pub added-row : {E : Type 0} (xs : List ℕ) (old : List (List Candidate)) (i : ℕ) (c : Candidate) (was ds : List Candidate)
    (r : Result (Unit {0}) E) → length xs < length old → i ≡ rank xs c.term → was ≡ get_or old i was →
    OnOk r (SameReduced (candidate_terms (was ++ c ∷ [])) (candidate_terms ds)) → OnOk r (All (λ d. Contains (was ++ c ∷ []) d) ds) →
    OnOk r (AreAdded xs (c ∷ []) old (set old i ds))
added-row xs old i c was ds (Err e) l f g h k = tt
added-row xs old i c was ds (Ok u) l f g h k =
    let bound = rank-within xs old i c.term l f in
    let same : was ≡ list_at old i = g ∙ at_default old i was [] bound in
    added-one xs old i c ds bound f (subst (λ (z : List Candidate). SameReduced (candidate_terms (z ++ c ∷ [])) (candidate_terms ds)) same
    h)
    (subst (λ (z : List Candidate). All (λ d. Contains (z ++ c ∷ []) d) ds) same k)

pub added-none : (xs : List ℕ) (lists : List (List Candidate)) → AreAdded xs [] lists lists
added-none xs lists = record {
  count = refl;
  hold = λ rows h. hold-same xs rows (rows ++ []) lists (sym (append_nil rows)) h;
  founded = λ base h g. h;
} where
  append_nil : (ts : List LinearSum) → ts ++ [] ≡ ts
  append_nil [] = refl
  append_nil (t ∷ ts) = ap (λ (us : List LinearSum). t ∷ us) (append_nil ts)

-- No more stay than there are

pub length-reduced_after : (bs ts : List LinearSum) → length (reduced_after bs ts) ≤ length ts
length-reduced_after bs [] = omega arith
length-reduced_after bs (t ∷ ts) = by_test (stays bs t ts) (length-reduced_after (bs ++ t ∷ []) ts) where
  by_test : (b : Bool) → length (reduced_after (bs ++ t ∷ []) ts) ≤ length ts →
      length (if b then (t ∷ reduced_after (bs ++ t ∷ []) ts) else reduced_after (bs ++ t ∷ []) ts) ≤ suc (length ts)
  by_test true h = omega (arith, h)
  by_test false h = omega (arith, h)

length-terms : (cs : List Candidate) → length (candidate_terms cs) ≡ length cs
length-terms [] = refl
length-terms (c ∷ cs) = omega (arith, length-terms cs)

pub staying-below : (cs : List Candidate) → staying cs ≤ length cs
staying-below cs = omega (arith, length-reduced_after [] (candidate_terms cs), length-terms cs)

pub staying-within : (ls : List (List Candidate)) → sum_by staying ls ≤ sum_by (λ (cs : List Candidate). length cs) ls
staying-within ls = sum_by-le-sum_by staying (λ (cs : List Candidate). length cs) ls staying-below

-- how many stay from a place on
pub staying-step : (es : List (Vec (ℕ × ℤ) Global × ℕ)) (rows : List Candidate) (i : ℕ) (d : Candidate) (n m : ℕ) (b : Bool) →
    AreLastPlaces es rows → i < length rows → n + length (reduced_after (candidate_terms (take i rows)) (candidate_terms (drop i rows)))
    ≡ m →
    is_kept es i (get_or rows i d).term ≡ b → (if b then (n + 1) else n) + length
    (reduced_after (candidate_terms (take (i + 1) rows)) (candidate_terms (drop (i + 1) rows))) ≡ m
staying-step es rows i d n m b a h e k =
    let t = (get_or rows i d).term in
    let rest = candidate_terms (drop (i + 1) rows) in
    let more : candidate_terms (take (i + 1) rows) ≡ candidate_terms (take i rows) ++ t ∷ [] = map_more (λ (c : Candidate). c.term) rows i d
    h
    in
    let split : reduced_after (candidate_terms (take i rows)) (candidate_terms (drop i rows))
    ≡ (if b then (t ∷ reduced_after (candidate_terms (take (i + 1) rows)) rest) else reduced_after (candidate_terms (take (i + 1) rows))
    rest)
    = ap (λ (l : List Candidate). reduced_after (candidate_terms (take i rows)) (candidate_terms l)) (drop_more rows i d h)
    ∙ reduced_after-step (candidate_terms (take i rows)) rest t b (stays-is_kept es rows i d a h ∙ k)
    ∙ ap (λ (bs : List LinearSum). if b then (t ∷ reduced_after bs rest) else reduced_after bs rest) (sym more) in
    by_test b (reduced_after (candidate_terms (take (i + 1) rows)) rest) t
    (sym (ap (λ (l : List LinearSum). n + length l) split) ∙ e) where
      by_test : (x : Bool) (l : List LinearSum) (t : LinearSum) → n + length (if x then (t ∷ l) else l) ≡ m →
          (if x then (n + 1) else n) + length l ≡ m
      by_test true l t g = omega (arith, g)
      by_test false l t g = g

-- Candidates that are added one after the other

pub all-left : (P : Candidate → Type 0) (cs ds : List Candidate) → All P (cs ++ ds) → All P cs
all-left P cs ds h = λ k d lt. subst P (get_or_append_left cs ds d k lt) (h k d (omega (arith, lt, length-append cs ds)))

all-right : (P : Candidate → Type 0) (cs ds : List Candidate) → All P (cs ++ ds) → All P ds
all-right P [] ds h = h
all-right P (c ∷ cs) ds h = all-right P cs ds (All-tail P c (cs ++ ds) h)

pub added-then : (xs : List ℕ) (cs ds : List Candidate) (old mid new : List (List Candidate)) → AreAdded xs cs old mid →
    AreAdded xs ds mid new → AreAdded xs (cs ++ ds) old new
added-then xs cs ds old mid new h k = record {
  count = k.count ∙ h.count;
  hold = λ rows g. hold-same xs ((rows ++ candidate_terms cs) ++ candidate_terms ds) (rows ++ candidate_terms (cs ++ ds)) new
      (append_assoc rows (candidate_terms cs) (candidate_terms ds) ∙ ap (λ (ts : List LinearSum). rows ++ ts)
      (sym (map-append (λ (c : Candidate). c.term) cs ds))) (k.hold (rows ++ candidate_terms cs) (h.hold rows g));
  founded = λ base g f. k.founded base (h.founded base g (all-left (λ c. IsFounded base c.term c.origin) cs ds f))
      (all-right (λ c. IsFounded base c.term c.origin) cs ds f);
}

-- one more lower row, and one more upper row
pub added-pair : (xs : List ℕ) (x : ℕ) (u : Row) (ls : List Row) (i : ℕ) (l : Row) (old mid new : List (List Candidate)) (c : Candidate) →
    i < length ls → l ≡ get_or ls i l → c ≡ made x u l → AreAdded xs (map (made x u) (take i ls)) old mid →
    AreAdded xs (c ∷ []) mid new → AreAdded xs (map (made x u) (take (i + 1) ls)) old new
added-pair xs x u ls i l old mid new c h e f g k =
    subst (λ (cs : List Candidate). AreAdded xs cs old new) (ap (λ (d : Candidate). map (made x u) (take i ls) ++ d ∷ [])
    (f ∙ ap (made x u) e) ∙ sym (map_more (made x u) ls i l h))
    (added-then xs (map (made x u) (take i ls)) (c ∷ []) old mid new g k)

pub added-upper : (xs : List ℕ) (x : ℕ) (us ls : List Row) (i : ℕ) (u : Row) (old mid new : List (List Candidate)) → i < length us →
    u ≡ get_or us i u → AreAdded xs (made_of_all x (take i us) ls) old mid → AreAdded xs (map (made x u) ls) mid new →
    AreAdded xs (made_of_all x (take (i + 1) us) ls) old new
added-upper xs x us ls i u old mid new h e g k =
    subst (λ (cs : List Candidate). AreAdded xs cs old new) (flat_map_more (λ (r : Row). map (made x r) ls) [] (take i us) u
    ∙ ap (λ (rs : List Row). made_of_all x rs ls) (ap (λ (r : Row). take i us ++ r ∷ []) e ∙ sym (take_more us i u h)))
    (added-then xs (made_of_all x (take i us) ls) (map (made x u) ls) old mid new g k)

-- at the end
pub added-all : (f : List Row → List Candidate) (xs : List ℕ) (rs : List Row) (i : ℕ) (old new : List (List Candidate)) → length rs ≤ i →
    AreAdded xs (f (take i rs)) old new → AreAdded xs (f rs) old new
added-all f xs rs i old new h g =
    subst (λ (ts : List Row). AreAdded xs (f ts) old new) (take_all i rs h) g
