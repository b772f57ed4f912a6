-- The sums of weaker rows are weaker, and within the limits where those of stronger ones are.
use Rattle.std.proofs.Common.{◌≡◌, ℕ, suc, ◌+◌, ◌*◌, ◌^◌, ◌<◌, ◌≤◌, Bool, true, false, ◌||◌, List, [], ◌∷◌, ◌++◌, length, map, get_or, take, ℤ, pos, ◌+ℤ◌, ◌-ℤ◌, ◌*ℤ◌, arith, refl, sym, ap, subst, ◌∙◌}
use Rattle.std.specs.Prelude.{All, IsTrue, ◌≤ℤ◌, ◌<ℤ◌, nat_lt, unsigned_abs, filter, not, if◌then◌else◌}
use Rattle.std.specs.List.{list_any}
use Rattle.std.proofs.lemmas.Bool.{ltb-true}
use Rattle.std.proofs.lemmas.Int.{ints, unsigned_abs-mul}
use Rattle.std.proofs.lemmas.List.{append_assoc, append-nil, map-append, map_more, take_more, flat_map_more}
use Rattle.std.proofs.lemmas.List.Elements.{All-head, All-tail, All-nil, All-cons, All-map, Contains-get_or}
use Rattle.std.proofs.lemmas.List.Folds.{list_any-append, Any-from_list_any}
use Rattle.std.proofs.Math.Nat.{mul-le-mul}
use Rattle.linear_formula.specs.LinearSum.{LinearSum, is_within}
use Rattle.linear_formula.specs.steps.Order.{AllWithin}
use Rattle.linear_formula.proofs.Limits.{Within-from_test, test-from_Within}
use Rattle.linear_formula.proofs.Ring.{mul-add}
use Rattle.infeasible_cert.proofs.Signs.{below_multiplier}
use Rattle.shadow_elim.specs.declared.row.Row.{Row}
use Rattle.shadow_elim.specs.declared.pairing.Candidate.{Candidate}
use Rattle.shadow_elim.specs.Division.{common_divisor, parts_divisor, ceiling_quotient, divided, tightened}
use Rattle.shadow_elim.specs.Elimination.{is_upper, is_lower, is_free, size_of, upper_multiple, lower_multiple, pair_sum}
use Rattle.shadow_elim.specs.Reduction.{same_parts, is_as_strong, SameReduced}
use Rattle.shadow_elim.specs.steps.Making.{candidate_terms, made, made_of_all, AllFounded, IsFounded}
use Rattle.shadow_elim.specs.steps.Lists.{list_at, names, Hold, AreAdded}
use Rattle.shadow_elim.specs.steps.Marks.{IsSmall}
use Rattle.shadow_elim.proofs.Filtering.{Respects, any-filter, passes, among-any}
use Rattle.shadow_elim.proofs.Holding.{free-respects, names-respects, hold-same, all-left}
use Rattle.shadow_elim.proofs.MadeRight.{quotient-small}
use Rattle.shadow_elim.proofs.Members.{Among, among-map, among-flat_map, contains-among}
use Rattle.shadow_elim.proofs.PairSums.{balance, upper-is, lower-is}
use Rattle.shadow_elim.proofs.Reducing.{reduced-needless}
use Rattle.shadow_elim.proofs.Reductions.{same-then}
use Rattle.shadow_elim.proofs.Splitting.{filter_in, filter_out}
use Rattle.shadow_elim.proofs.Strength.{strong-itself, AsStrong, AsStrong-from_test, test-from_AsStrong}
use Rattle.shadow_elim.proofs.Tests.{first_true}
use Rattle.shadow_elim.proofs.Tightening.{ceiling-bounds}

no_way : false ≡ true → ⊥
no_way h = cc

-- Sums

-- the sum of rows with these coefficients
abbrev sum_parts : ℕ → List (ℕ × ℤ) → List (ℕ × ℤ) → List (ℕ × ℤ)
sum_parts x ps qs = (pair_sum x (record { parts = ps; constant = pos 0 }, record { parts = qs; constant = pos 0 })).parts

parts-same : (x : ℕ) (u s l r : LinearSum) → AsStrong u s → AsStrong l r → (pair_sum x (s, r)).parts ≡ (pair_sum x (u, l)).parts
parts-same x u s l r h k = ap (λ ps. sum_parts x ps r.parts) h.parts ∙ ap (λ qs. sum_parts x u.parts qs) k.parts

times-more : (m a b : ℤ) → pos 0 ≤ℤ m → a ≤ℤ b → (m *ℤ a) ≤ℤ (m *ℤ b)
times-more m a b h k =
    let e : b ≡ (b -ℤ a) +ℤ a = omega (arith, ints) in
    let f : pos 0 ≤ℤ (m *ℤ (b -ℤ a)) = not_below m (b -ℤ a) h (omega (arith, ints, k)) in
    omega (arith, ints, f, mul-add m (b -ℤ a) a, ap (λ z. m *ℤ z) e) where
      not_below : (y z : ℤ) → pos 0 ≤ℤ y → pos 0 ≤ℤ z → pos 0 ≤ℤ (y *ℤ z)
      not_below y z p q = grind (arith, ints)

constant-more : (x : ℕ) (u s l r : LinearSum) → AsStrong u s → AsStrong l r →
    (pair_sum x (u, l)).constant ≤ℤ (pair_sum x (s, r)).constant
constant-more x u s l r h k =
    let m = λ (ps qs : List (ℕ × ℤ)). pos (upper_multiple (size_of x (record { parts = ps; constant = pos 0 }))
    (size_of x (record { parts = qs; constant = pos 0 }))) in
    let n = λ (ps qs : List (ℕ × ℤ)). pos (lower_multiple (size_of x (record { parts = ps; constant = pos 0 }))
    (size_of x (record { parts = qs; constant = pos 0 }))) in
    let em : m s.parts r.parts ≡ m u.parts l.parts = ap (λ ps. m ps r.parts) h.parts ∙ ap (λ qs. m u.parts qs) k.parts in
    let en : n s.parts r.parts ≡ n u.parts l.parts = ap (λ ps. n ps r.parts) h.parts ∙ ap (λ qs. n u.parts qs) k.parts in
    let a = times-more (m u.parts l.parts) u.constant s.constant (positive _) h.constant in
    let b = times-more (n u.parts l.parts) l.constant r.constant (positive _) k.constant in
    omega (arith, ints, a, b, ap (λ z. z *ℤ s.constant) em, ap (λ z. z *ℤ r.constant) en) where
      positive : (j : ℕ) → pos 0 ≤ℤ pos j
      positive j = omega (arith, ints)

-- Tightened rows

ceiling-more : (a b : ℤ) (d : ℕ) → 0 < d → a ≤ℤ b → ceiling_quotient a d ≤ℤ ceiling_quotient b d
ceiling-more a b d h k =
    let c = ceiling_quotient a d in
    let e = ceiling_quotient b d in
    let p = ceiling-bounds a d h in
    let q = ceiling-bounds b d h in
    let f : c ≡ (c -ℤ e) +ℤ e = omega (arith, ints) in
    let g : (pos d *ℤ (c -ℤ e)) <ℤ pos d = omega (arith, ints, p.1, q.0, k, mul-add (pos d) (c -ℤ e) e, ap (λ z. pos d *ℤ z) f) in
    let i = below_multiplier (pos d) (c -ℤ e) (omega (arith, ints, h)) g in
    omega (arith, ints, i)

tightened-more : (ps : List (ℕ × ℤ)) (a b : ℤ) → a ≤ℤ b → AsStrong (tightened (record { parts = ps; constant = a }))
    (tightened (record { parts = ps; constant = b }))
tightened-more ps a b h = by_test (nat_lt 1 (parts_divisor ps)) refl where
  s : ℤ → LinearSum
  s c = record { parts = ps; constant = c }

  by_test : (t : Bool) → nat_lt 1 (parts_divisor ps) ≡ t → AsStrong (if t then divided (parts_divisor ps) (s a) else s a)
      (if t then divided (parts_divisor ps) (s b) else s b)
  by_test true e = record {
    parts = refl;
    constant = ceiling-more a b (parts_divisor ps) (omega (arith, ltb-true 1 (parts_divisor ps) e)) h;
  }
  by_test false e = record { parts = refl; constant = h }

tightened-strong : (t s : LinearSum) → s.parts ≡ t.parts → t.constant ≤ℤ s.constant → AsStrong (tightened t) (tightened s)
tightened-strong t s e h =
    subst (λ (ps : List (ℕ × ℤ)). AsStrong (tightened t) (tightened (record { parts = ps; constant = s.constant }))) (sym e)
    (tightened-more t.parts t.constant s.constant h)

itself-strong : (t : LinearSum) → AsStrong t t
itself-strong t = record { parts = refl; constant = omega (arith, ints) }

-- the row of a pair of stronger rows is stronger
made-strong : (x : ℕ) (u s l r : LinearSum) → AsStrong u s → AsStrong l r → is_as_strong (tightened (pair_sum x (u, l)))
    (tightened (pair_sum x (s, r))) ≡ true
made-strong x u s l r h k =
    test-from_AsStrong (tightened (pair_sum x (u, l))) (tightened (pair_sum x (s, r))) (tightened-strong (pair_sum x (u, l))
    (pair_sum x (s, r)) (parts-same x u s l r h k) (constant-more x u s l r h k))

-- Limits

product-below : (m : ℕ) (c : ℤ) → m ≤ 2 ^ 19 → unsigned_abs c ≤ 2 ^ 64 → unsigned_abs (pos m *ℤ c) ≤ 2 ^ 83
product-below m c h k =
    let e : m * unsigned_abs c ≤ 2 ^ 19 * 2 ^ 64 = mul-le-mul h k in
    omega (arith, unsigned_abs-mul (pos m) c, e)

sum-below : (a b : ℤ) → unsigned_abs a ≤ 2 ^ 83 → unsigned_abs b ≤ 2 ^ 83 → unsigned_abs (a +ℤ (b +ℤ pos 0)) ≤ 2 ^ 84
sum-below a b h k = omega (arith, ints, h, k)

pub small-constant : (x : ℕ) (u l : LinearSum) → IsTrue (is_upper x u) → IsTrue (is_lower x l) → IsSmall x u → IsSmall x l →
    unsigned_abs (pair_sum x (u, l)).constant ≤ 2 ^ 84
small-constant x u l iu il h k =
    let bal = balance (size_of x u) (size_of x l) (upper-is x u iu).positive (lower-is x l il).positive in
    let g = common_divisor (size_of x u) (size_of x l) in
    let m = upper_multiple (size_of x u) (size_of x l) in
    let n = lower_multiple (size_of x u) (size_of x l) in
    let a : m ≤ 2 ^ 19 = omega (arith, quotient-small g m (size_of x l) bal.divisor bal.first, k.size) in
    let b : n ≤ 2 ^ 19 = omega (arith, quotient-small g n (size_of x u) bal.divisor bal.second, h.size) in
    sum-below (pos m *ℤ u.constant) (pos n *ℤ l.constant) (product-below m u.constant a h.constant)
    (product-below n l.constant b k.constant)

pub within-weaker : (x : ℕ) (u s l r : LinearSum) → IsTrue (is_upper x u) → IsTrue (is_lower x l) → IsSmall x u → IsSmall x l →
    is_as_strong u s ≡ true → is_as_strong l r ≡ true → IsTrue (is_within (pair_sum x (s, r))) → IsTrue (is_within (pair_sum x (u, l)))
within-weaker x u s l r iu il hu hl su sl w =
    let a = AsStrong-from_test u s su in
    let b = AsStrong-from_test l r sl in
    let e = parts-same x u s l r a b in
    let v = Within-from_test (pair_sum x (s, r)) w in
    test-from_Within (pair_sum x (u, l)) (record {
      count = omega (arith, ap length e, v.count);
      coefficients = subst (λ ps. AllWithin ps) e v.coefficients;
      constant_limit = small-constant x u l iu il hu hl;
    })

-- A needless row changes no list

same-needless : (rows : List LinearSum) (t : LinearSum) → list_any (is_as_strong t) rows ≡ true → SameReduced (rows ++ t ∷ []) rows
same-needless rows t h = λ more. reduced-needless rows more t h

any-passes : (p : LinearSum → Bool) → Respects p → (rows : List LinearSum) (t : LinearSum) → p t ≡ true →
    list_any (is_as_strong t) rows ≡ true → list_any (is_as_strong t) (filter p rows) ≡ true
any-passes p h rows t e f =
    sym (any-filter p (is_as_strong t) rows (λ s g. passes p h s t (first_true (same_parts s t) _ g) e)) ∙ f

pub hold-needless : (xs : List ℕ) (rows : List LinearSum) (lists : List (List Candidate)) (t : LinearSum) →
    list_any (is_as_strong t) rows ≡ true → Hold xs rows lists → Hold xs (rows ++ t ∷ []) lists
hold-needless [] rows lists t e h =
    same-then (rows ++ t ∷ []) rows (candidate_terms (list_at lists 0)) (same-needless rows t e) h
hold-needless (x ∷ xs) rows lists t e h =
    (by_name (is_free x t) refl, by_free (λ g. hold-needless xs (filter (is_free x) rows) lists t g h.1) (is_free x t) refl) where
      by_name : (b : Bool) → is_free x t ≡ b → SameReduced (filter (names x) (rows ++ t ∷ []))
          (candidate_terms (list_at lists (suc (length xs))))
      by_name true f =
          subst (λ (ts : List LinearSum). SameReduced ts (candidate_terms (list_at lists (suc (length xs)))))
          (sym (filter_out (names x) rows t (ap not f))) h.0
      by_name false f =
          subst (λ (ts : List LinearSum). SameReduced ts (candidate_terms (list_at lists (suc (length xs)))))
          (sym (filter_in (names x) rows t (ap not f)))
          (same-then (filter (names x) rows ++ t ∷ []) (filter (names x) rows) (candidate_terms (list_at lists (suc (length xs))))
          (same-needless (filter (names x) rows) t (any-passes (names x) (names-respects x) rows t (ap not f) e)) h.0)

      by_free : (list_any (is_as_strong t) (filter (is_free x) rows) ≡ true → Hold xs (filter (is_free x) rows ++ t ∷ []) lists) →
          (b : Bool) → is_free x t ≡ b → Hold xs (filter (is_free x) (rows ++ t ∷ [])) lists
      by_free r true f =
          hold-same xs (filter (is_free x) rows ++ t ∷ []) (filter (is_free x) (rows ++ t ∷ [])) lists
          (sym (filter_in (is_free x) rows t f)) (r (any-passes (is_free x) (free-respects x) rows t f e))
      by_free r false f =
          hold-same xs (filter (is_free x) rows) (filter (is_free x) (rows ++ t ∷ [])) lists (sym (filter_out (is_free x) rows t f)) h.1

-- Needless candidates

any-more : (p : LinearSum → Bool) (rows more : List LinearSum) → list_any p rows ≡ true → list_any p (rows ++ more) ≡ true
any-more p rows more h = list_any-append p rows more ∙ ap (λ z. z || list_any p more) h

any-behind : (p : LinearSum → Bool) (before rows : List LinearSum) → list_any p rows ≡ true → list_any p (before ++ rows) ≡ true
any-behind p before rows h =
    list_any-append p before rows ∙ ap (λ z. list_any p before || z) h ∙ or_true (list_any p before) where
      or_true : (b : Bool) → (b || true) ≡ true
      or_true true = refl
      or_true false = refl

left-all : (base : List LinearSum) (cs ds : List Candidate) → AllFounded base (cs ++ ds) → AllFounded base cs
left-all base cs ds h = all-left (λ c. IsFounded base c.term c.origin) cs ds h

-- those of candidates that one among others is as strong as
abbrev pub AreNeedless : List Candidate → List Candidate → Type 0
AreNeedless cs ds = All (λ d. list_any (is_as_strong d.term) (candidate_terms cs) ≡ true) ds

hold-all_needless : (xs : List ℕ) (rows : List LinearSum) (cs ds : List Candidate) (lists : List (List Candidate)) → AreNeedless cs ds →
    Hold xs (rows ++ candidate_terms cs) lists → Hold xs (rows ++ candidate_terms (cs ++ ds)) lists
hold-all_needless xs rows cs [] lists n h =
    hold-same xs (rows ++ candidate_terms cs) (rows ++ candidate_terms (cs ++ [])) lists (ap (λ ds. rows ++ candidate_terms ds)
    (sym (append-nil cs))) h
hold-all_needless xs rows cs (d ∷ ds) lists n h =
    let P : Candidate → Type 0 = λ c. list_any (is_as_strong c.term) (candidate_terms cs) ≡ true in
    let one = hold-needless xs (rows ++ candidate_terms cs) lists d.term (any-behind (is_as_strong d.term) rows (candidate_terms cs)
    (All-head (λ c. list_any (is_as_strong c.term) (candidate_terms cs) ≡ true) d ds n)) h in
    let more : AreNeedless (cs ++ d ∷ []) ds = λ k c lt. subst (λ ts. list_any (is_as_strong (get_or ds k c).term) ts ≡ true)
    (sym (map-append (λ (c : Candidate). c.term) cs (d ∷ []))) (any-more (is_as_strong (get_or ds k c).term) (candidate_terms cs)
    (d.term ∷ []) (All-tail (λ c. list_any (is_as_strong c.term) (candidate_terms cs) ≡ true) d ds n k c lt)) in
    hold-same xs (rows ++ candidate_terms ((cs ++ d ∷ []) ++ ds)) (rows ++ candidate_terms (cs ++ d ∷ ds)) lists
    (ap (λ es. rows ++ candidate_terms es) (append_assoc cs (d ∷ []) ds)) (hold-all_needless xs rows (cs ++ d ∷ []) ds lists more
    (hold-same xs ((rows ++ candidate_terms cs) ++ d.term ∷ []) (rows ++ candidate_terms (cs ++ d ∷ [])) lists
    (append_assoc rows (candidate_terms cs) (d.term ∷ []) ∙ ap (λ ts. rows ++ ts)
    (sym (map-append (λ (c : Candidate). c.term) cs (d ∷ [])))) one))

pub added-needless : (xs : List ℕ) (cs ds : List Candidate) (old new : List (List Candidate)) → AreNeedless cs ds → AreAdded xs cs old new →
    AreAdded xs (cs ++ ds) old new
added-needless xs cs ds old new n a = record {
  count = a.count;
  hold = λ rows h. hold-all_needless xs rows cs ds new n (a.hold rows h);
  founded = λ base h g. a.founded base h (left-all base cs ds g);
}

-- A lower row that an earlier one is as strong as

pub within-lower : (x : ℕ) (u l : LinearSum) (rs : List Row) → IsTrue (is_upper x u) → IsTrue (is_lower x l) → IsSmall x u → IsSmall x l →
    list_any (λ s. is_as_strong l s.term) rs ≡ true → All (λ r. IsTrue (is_within (pair_sum x (u, r.term)))) rs →
    IsTrue (is_within (pair_sum x (u, l)))
within-lower x u l rs iu il hu hl e w =
    let a = Any-from_list_any (λ (s : Row). is_as_strong l s.term) rs e in
    within-weaker x u u l a.1.term iu il hu hl (strong-itself u) a.4 (subst (λ (r : Row). IsTrue (is_within (pair_sum x (u, r.term)))) a.3
    (w a.0 a.1 a.2))

needless-lower : (x : ℕ) (u l : Row) (rs : List Row) → list_any (λ s. is_as_strong l.term s.term) rs ≡ true →
    list_any (is_as_strong (made x u l).term) (candidate_terms (map (made x u) rs)) ≡ true
needless-lower x u l rs e =
    let a = Any-from_list_any (λ (s : Row). is_as_strong l.term s.term) rs e in
    let here : Among a.1 rs = contains-among rs a.1 (a.0, a.2, a.3) in
    among-any (is_as_strong (made x u l).term) (candidate_terms (map (made x u) rs)) (made x u a.1).term (among-map (λ (c : Candidate).
    c.term) (map (made x u) rs) (made x u a.1) (among-map (made x u) rs a.1 here)) (made-strong x u.term u.term l.term a.1.term
    (itself-strong u.term) (AsStrong-from_test l.term a.1.term a.4))

pub pair-skipped : (xs : List ℕ) (x : ℕ) (u : Row) (ls : List Row) (i : ℕ) (l : Row) (old new : List (List Candidate)) → i < length ls →
    list_any (λ s. is_as_strong (get_or ls i l).term s.term) (take i ls) ≡ true → AreAdded xs (map (made x u) (take i ls)) old new →
    AreAdded xs (map (made x u) (take (i + 1) ls)) old new
pair-skipped xs x u ls i l old new h e a =
    subst (λ (cs : List Candidate). AreAdded xs cs old new) (sym (map_more (made x u) ls i l h))
    (added-needless xs (map (made x u) (take i ls)) (made x u (get_or ls i l) ∷ []) old new
    (All-cons (λ d. list_any (is_as_strong d.term) (candidate_terms (map (made x u) (take i ls))) ≡ true) (made x u (get_or ls i l)) []
    (needless-lower x u (get_or ls i l) (take i ls) e)
    (All-nil (λ d. list_any (is_as_strong d.term) (candidate_terms (map (made x u) (take i ls))) ≡ true))) a)

-- An upper row that an earlier one is as strong as

pub within-upper : (x : ℕ) (u : LinearSum) (us ls : List Row) → IsTrue (is_upper x u) → All (λ l. IsTrue (is_lower x l.term)) ls →
    IsSmall x u → All (λ l. IsSmall x l.term) ls → list_any (λ s. is_as_strong u s.term) us ≡ true →
    All (λ v. All (λ l. IsTrue (is_within (pair_sum x (v.term, l.term)))) ls) us → All (λ l. IsTrue (is_within (pair_sum x (u, l.term)))) ls
within-upper x u us ls iu il hu hl e w = λ k d lt.
    let a = Any-from_list_any (λ (s : Row). is_as_strong u s.term) us e in
    let l = (get_or ls k d).term in
    within-weaker x u a.1.term l l iu (il k d lt) hu (hl k d lt) a.4 (strong-itself l)
    (subst (λ (v : Row). IsTrue (is_within (pair_sum x (v.term, l)))) a.3 (w a.0 a.1 a.2 k d lt))

needless-upper : (x : ℕ) (u : Row) (us ls : List Row) → list_any (λ s. is_as_strong u.term s.term) us ≡ true →
    All (λ l. list_any (is_as_strong (made x u l).term) (candidate_terms (made_of_all x us ls)) ≡ true) ls
needless-upper x u us ls e = λ k d lt.
    let a = Any-from_list_any (λ (s : Row). is_as_strong u.term s.term) us e in
    let l = get_or ls k d in
    let here : Among a.1 us = contains-among us a.1 (a.0, a.2, a.3) in
    let there : Among (get_or ls k d) ls = contains-among ls (get_or ls k d) (Contains-get_or ls k d lt) in
    among-any (is_as_strong (made x u l).term) (candidate_terms (made_of_all x us ls)) (made x a.1 l).term (among-map (λ (c : Candidate).
    c.term) (made_of_all x us ls) (made x a.1 l) (among-flat_map (λ (r : Row). map (made x r) ls) us a.1 (made x a.1 l) here
    (among-map (made x a.1) ls l there))) (made-strong x u.term a.1.term l.term l.term (AsStrong-from_test u.term a.1.term a.4)
    (itself-strong l.term))

pub upper-skipped : (xs : List ℕ) (x : ℕ) (us ls : List Row) (i : ℕ) (u : Row) (old new : List (List Candidate)) → i < length us →
    list_any (λ s. is_as_strong (get_or us i u).term s.term) (take i us) ≡ true → AreAdded xs (made_of_all x (take i us) ls) old new →
    AreAdded xs (made_of_all x (take (i + 1) us) ls) old new
upper-skipped xs x us ls i u old new h e a =
    subst (λ (cs : List Candidate). AreAdded xs cs old new) (flat_map_more (λ (r : Row). map (made x r) ls) [] (take i us) (get_or us i u)
    ∙ ap (λ (rs : List Row). made_of_all x rs ls) (sym (take_more us i u h)))
    (added-needless xs (made_of_all x (take i us) ls) (map (made x (get_or us i u)) ls) old new
    (All-map (λ d. list_any (is_as_strong d.term) (candidate_terms (made_of_all x (take i us) ls)) ≡ true) (made x (get_or us i u)) ls
    (needless-upper x (get_or us i u) (take i us) ls e)) a)
