-- Edges by their regions: what the lists of regions make when they are joined, and what one more edge makes of them.
use Rattle.std.proofs.Common.{◌≡◌, ℕ, zero, suc, ◌+◌, ◌<◌, ◌≤◌, ◌⊎◌, inl, inr, List, [], ◌∷◌, ◌++◌, Bool, true, false, not, ◌&&◌, ◌||◌, ◌==◌, nat_lt, length, map, take, arith, refl, sym, subst, ap, ◌∙◌}
use Rattle.std.specs.Prelude.{IsTrue, slice_set, if◌then◌else◌}
use Rattle.std.specs.List.{filter}
use borrow.Author.Tests.{lt-ltb, le-ltb, ltb-true, eqb-true, eqb-false, eq-eqb}
use Rattle.std.proofs.Math.ListN.{length-set, length-append}
use Rattle.std.proofs.lemmas.Bool.{cases_lt}
use Rattle.std.proofs.lemmas.List.{get_or-set_same, get_or-set_other, length-map, length-take}
use Rattle.std.proofs.lemmas.List.Folds.{list_any-append}
use Rattle.std.proofs.lemmas.List.Elements.{filter-append}
use Rattle.linear_formula.proofs.Limits.{both, both_in}
use Rattle.may_partition.specs.declared.region.RegionEdge.{RegionEdge}
use Rattle.may_partition.specs.Parted.{has_regions, same_edge}
use Rattle.may_partition.specs.Shown.{have_regions, is_live}
use Rattle.may_partition.specs.steps.Listed.{AreListed, at_region, joined}
use Rattle.may_partition.proofs.Dividing.{all_have, or_parts, same_test}
use Rattle.may_partition.proofs.Kept.{same_is}
use Rattle.may_partition.proofs.Splitting.{or_left, or_right}

clash : true ≡ false → ⊥
clash h = cc

pub and_false : (b : Bool) → (b && false) ≡ false
and_false true = refl
and_false false = refl

pub same_itself : (x : RegionEdge) → same_edge x x ≡ true
same_itself x =
    both_in (x.edge == x.edge) (x.from == x.from && x.to == x.to) (eq-eqb x.edge x.edge refl)
    (both_in (x.from == x.from) (x.to == x.to) (eq-eqb x.from x.from refl) (eq-eqb x.to x.to refl))

-- Joined lists

abbrev pub Lists : Type 0
Lists = List (List RegionEdge)

-- each edge stands at its first region
abbrev pub Stand : Lists → Type 0
Stand lists = (r : ℕ) (e : RegionEdge) → IsTrue (is_live (at_region lists r) e) → e.from ≡ r

abbrev pub StandFrom : ℕ → Lists → Type 0
StandFrom n lists = (r : ℕ) (e : RegionEdge) → IsTrue (is_live (at_region lists r) e) → e.from ≡ n + r

at_none : (r : ℕ) → at_region [] r ≡ []
at_none zero = refl
at_none (suc r) = refl

-- an edge of the joined lists is one of its region's list
joined_at : (lists : Lists) (e : RegionEdge) → IsTrue (is_live (joined lists) e) → (r : ℕ) × IsTrue (is_live (at_region lists r) e)
joined_at [] e h = absurd cc
joined_at (l ∷ lists) e h =
    by (λ k. joined_at lists e k) (or_parts (is_live l e) (is_live (joined lists) e) (subst IsTrue (list_any-append (λ x. same_edge x e) l
    (joined lists)) h))
  where
    by : (IsTrue (is_live (joined lists) e) → (r : ℕ) × IsTrue (is_live (at_region lists r) e)) →
        IsTrue (is_live l e) ⊎ IsTrue (is_live (joined lists) e) → (r : ℕ) × IsTrue (is_live (at_region (l ∷ lists) r) e)
    by rest (inl k) = (0, k)
    by rest (inr k) = let w = rest k in (suc w.0, w.1)

at_joined : (lists : Lists) (r : ℕ) (e : RegionEdge) → IsTrue (is_live (at_region lists r) e) → IsTrue (is_live (joined lists) e)
at_joined [] r e h = absurd (let k : IsTrue false = subst (λ zs. IsTrue (is_live zs e)) (at_none r) h in cc)
at_joined (l ∷ lists) zero e h =
    subst IsTrue (sym (list_any-append (λ x. same_edge x e) l (joined lists))) (or_left (is_live l e) (is_live (joined lists) e) h)
at_joined (l ∷ lists) (suc r) e h =
    subst IsTrue (sym (list_any-append (λ x. same_edge x e) l (joined lists))) (or_right (is_live l e) (is_live (joined lists) e)
    (at_joined lists r e h))

pub live_joined : (lists : Lists) (e : RegionEdge) → Stand lists → is_live (joined lists) e ≡ is_live (at_region lists e.from) e
live_joined lists e h =
    same_test (is_live (joined lists) e) (is_live (at_region lists e.from) e)
    (λ l. let w = joined_at lists e l in
    subst (λ r. IsTrue (is_live (at_region lists r) e)) (sym (h w.0 e w.1)) w.1)
    (λ l. at_joined lists e.from e l)

-- at a region
pub live_at : (lists : Lists) (r : ℕ) (e : RegionEdge) → Stand lists →
    is_live (at_region lists r) e ≡ (is_live (joined lists) e && (e.from == r))
live_at lists r e h =
    same_test (is_live (at_region lists r) e) (is_live (joined lists) e && (e.from == r))
    (λ l. both_in (is_live (joined lists) e) (e.from == r) (at_joined lists r e l) (eq-eqb e.from r (h r e l)))
    (λ t. let u = both (is_live (joined lists) e) (e.from == r) t in
    subst (λ n. IsTrue (is_live (at_region lists n) e)) (eqb-true e.from r u.1) (subst IsTrue (live_joined lists e h) u.0))

below : (r : ℕ) (e : RegionEdge) (ls : Lists) → IsTrue (is_live (at_region ls r) e) → r < length ls
below r e [] h = absurd (let k : IsTrue false = subst (λ zs. IsTrue (is_live zs e)) (at_none r) h in cc)
below zero e (l ∷ ls) h = omega arith
below (suc r) e (l ∷ ls) h = omega (arith, below r e ls h)

-- both regions exist
pub have_joined : (n : ℕ) (lists : Lists) → Stand lists → ((r : ℕ) (e : RegionEdge) → IsTrue (is_live (at_region lists r) e) →
    e.to < length lists) → n ≡ length lists → IsTrue (have_regions n (joined lists))
have_joined n lists from to s = all_have n (joined lists) within where
  within : (e : RegionEdge) → IsTrue (is_live (joined lists) e) → (e.from < n) × (e.to < n)
  within e l =
      let w = joined_at lists e l in
      (omega (arith, from w.0 e w.1, below w.0 e lists w.1, s), omega (arith, to w.0 e w.1, s))

pub have_leaving : (leaving entering : Lists) (r : ℕ) → AreListed leaving entering → IsTrue (have_regions (length leaving)
    (at_region leaving r))
have_leaving leaving entering r h =
    all_have (length leaving) (at_region leaving r) (λ e l. (omega (arith, below r e leaving l, h.from r e l), h.to r e l))

pub have_entering : (leaving entering : Lists) (r : ℕ) → AreListed leaving entering → IsTrue (have_regions (length leaving)
    (at_region entering r))
have_entering leaving entering r h =
    all_have (length leaving) (at_region entering r)
    (λ e l. let k = (both (is_live (at_region leaving e.from) e) (e.to == r) (subst IsTrue (h.enters r e) l)).0 in
    (below e.from e leaving k, h.to e.from e k))

pub live_entering : (leaving entering : Lists) (r : ℕ) (e : RegionEdge) → AreListed leaving entering →
    is_live (at_region entering r) e ≡ (is_live (joined leaving) e && (e.to == r))
live_entering leaving entering r e h =
    h.enters r e ∙ ap (λ b. b && (e.to == r)) (sym (live_joined leaving e h.from))

pub none_past : (lists : Lists) (e : RegionEdge) → Stand lists → length lists ≤ e.from → is_live (joined lists) e ≡ false
none_past lists e h l = by (is_live (at_region lists e.from) e) refl where
  by : (b : Bool) → is_live (at_region lists e.from) e ≡ b → is_live (joined lists) e ≡ false
  by false s = live_joined lists e h ∙ s
  by true s = absurd (omega (arith, l, below e.from e lists s))

-- One list is another one

pub live_set : (lists : Lists) (r : ℕ) (l : List RegionEdge) → r < length lists → (k : ℕ) (e : RegionEdge) →
    is_live (at_region (slice_set lists r l) k) e ≡ (if k == r then is_live l e else is_live (at_region lists k) e)
live_set lists r l h k e = by (k == r) refl where
  by : (b : Bool) → (k == r) ≡ b → is_live (at_region (slice_set lists r l) k) e ≡ (if k == r then is_live l e else
      is_live (at_region lists k) e)
  by true s =
      let same : k ≡ r = eqb-true k r s in
      rw s (ap (λ zs. is_live zs e) (ap (at_region (slice_set lists r l)) same ∙ get_or-set_same lists r l [] h))
  by false s = rw s (ap (λ zs. is_live zs e) (get_or-set_other lists r k l [] (eqb-false k r s)))

-- what an edge's own list has
more_from : (lists : Lists) (x : RegionEdge) (l : List RegionEdge) → x.from < length lists →
    ((e : RegionEdge) → is_live l e ≡ (is_live (at_region lists x.from) e || same_edge x e)) → (k : ℕ) (e : RegionEdge) →
    is_live (at_region (slice_set lists x.from l) k) e ≡ (is_live (at_region lists k) e || (same_edge x e && (e.from == k)))
more_from lists x l h more k e = live_set lists x.from l h k e ∙ by (k == x.from) refl (same_edge x e) refl where
  or_false : (b : Bool) → b ≡ (b || false)
  or_false true = refl
  or_false false = refl

  Goal : Type 0
  Goal = (if k == x.from then is_live l e else is_live (at_region lists k) e)
      ≡ (is_live (at_region lists k) e || (same_edge x e && (e.from == k)))

  by : (b : Bool) → (k == x.from) ≡ b → (c : Bool) → same_edge x e ≡ c → Goal
  by true s true t =
      let here : k ≡ x.from = eqb-true k x.from s in
      let there : (e.from == k) ≡ true = eq-eqb e.from k (ap (λ (y : RegionEdge). y.from) (sym (same_is x e t)) ∙ sym here) in
      let at : is_live l e ≡ (is_live (at_region lists k) e || true) =
      more e ∙ ap (λ n. is_live (at_region lists n) e || same_edge x e) (sym here) ∙ ap (λ b. is_live (at_region lists k) e || b) t in
      rw (s, t, there) at
  by true s false t =
      let here : k ≡ x.from = eqb-true k x.from s in
      let at : is_live l e ≡ (is_live (at_region lists k) e || false) =
      more e ∙ ap (λ n. is_live (at_region lists n) e || same_edge x e) (sym here) ∙ ap (λ b. is_live (at_region lists k) e || b) t in
      rw (s, t) at
  by false s true t =
      let apart : (e.from == k) ≡ false = other in
      rw (s, t, apart) (or_false (is_live (at_region lists k) e))
    where
      other : (e.from == k) ≡ false
      other = not_eq (e.from == k) refl where
        not_eq : (b : Bool) → (e.from == k) ≡ b → (e.from == k) ≡ false
        not_eq false q = q
        not_eq true q = absurd (clash (sym (eq-eqb k x.from (sym (eqb-true e.from k q) ∙ ap (λ (y : RegionEdge). y.from)
            (sym (same_is x e t)))) ∙ s))
  by false s false t = rw (s, t) (or_false (is_live (at_region lists k) e))

more_to : (lists : Lists) (x : RegionEdge) (l : List RegionEdge) → x.to < length lists →
    ((e : RegionEdge) → is_live l e ≡ (is_live (at_region lists x.to) e || same_edge x e)) → (k : ℕ) (e : RegionEdge) →
    is_live (at_region (slice_set lists x.to l) k) e ≡ (is_live (at_region lists k) e || (same_edge x e && (e.to == k)))
more_to lists x l h more k e = live_set lists x.to l h k e ∙ by (k == x.to) refl (same_edge x e) refl where
  or_false : (b : Bool) → b ≡ (b || false)
  or_false true = refl
  or_false false = refl

  Goal : Type 0
  Goal = (if k == x.to then is_live l e else is_live (at_region lists k) e)
      ≡ (is_live (at_region lists k) e || (same_edge x e && (e.to == k)))

  by : (b : Bool) → (k == x.to) ≡ b → (c : Bool) → same_edge x e ≡ c → Goal
  by true s true t =
      let here : k ≡ x.to = eqb-true k x.to s in
      let there : (e.to == k) ≡ true = eq-eqb e.to k (ap (λ (y : RegionEdge). y.to) (sym (same_is x e t)) ∙ sym here) in
      let at : is_live l e ≡ (is_live (at_region lists k) e || true) =
      more e ∙ ap (λ n. is_live (at_region lists n) e || same_edge x e) (sym here) ∙ ap (λ b. is_live (at_region lists k) e || b) t in
      rw (s, t, there) at
  by true s false t =
      let here : k ≡ x.to = eqb-true k x.to s in
      let at : is_live l e ≡ (is_live (at_region lists k) e || false) =
      more e ∙ ap (λ n. is_live (at_region lists n) e || same_edge x e) (sym here) ∙ ap (λ b. is_live (at_region lists k) e || b) t in
      rw (s, t) at
  by false s true t =
      rw (s, t, other) (or_false (is_live (at_region lists k) e))
    where
      other : (e.to == k) ≡ false
      other = not_eq (e.to == k) refl where
        not_eq : (b : Bool) → (e.to == k) ≡ b → (e.to == k) ≡ false
        not_eq false q = q
        not_eq true q = absurd (clash (sym (eq-eqb k x.to (sym (eqb-true e.to k q) ∙ ap (λ (y : RegionEdge). y.to)
            (sym (same_is x e t)))) ∙ s))
  by false s false t = rw (s, t) (or_false (is_live (at_region lists k) e))

-- One more edge

and_true : (b c : Bool) → c ≡ true → (b && c) ≡ b
and_true true c h = h
and_true false c h = refl

pub live_more : (lists : Lists) (x : RegionEdge) (l : List RegionEdge) → x.from < length lists →
    ((e : RegionEdge) → is_live l e ≡ (is_live (at_region lists x.from) e || same_edge x e)) → (e : RegionEdge) →
    is_live (at_region (slice_set lists x.from l) e.from) e ≡ (is_live (at_region lists e.from) e || same_edge x e)
live_more lists x l h more e =
    more_from lists x l h more e.from e
    ∙ ap (λ b. is_live (at_region lists e.from) e || b) (and_true (same_edge x e) (e.from == e.from) (eq-eqb e.from e.from refl))

pub listed_more : (leaving entering : Lists) (x : RegionEdge) (l t : List RegionEdge) → AreListed leaving entering →
    x.from < length leaving → x.to < length leaving →
    ((e : RegionEdge) → is_live l e ≡ (is_live (at_region leaving x.from) e || same_edge x e)) →
    ((e : RegionEdge) → is_live t e ≡ (is_live (at_region entering x.to) e || same_edge x e)) →
    AreListed (slice_set leaving x.from l) (slice_set entering x.to t)
listed_more leaving entering x l t h from to more_l more_t = record {
  many = omega (arith, h.many, length-set leaving x.from l, length-set entering x.to t);
  from = λ r e k. one r e (or_parts (is_live (at_region leaving r) e) (same_edge x e && (e.from == r))
      (subst IsTrue (more_from leaving x l from more_l r e) k));
  to = λ r e k. subst (λ n. e.to < n) (sym (length-set leaving x.from l))
      (end r e (or_parts (is_live (at_region leaving r) e) (same_edge x e && (e.from == r))
      (subst IsTrue (more_from leaving x l from more_l r e) k)));
  enters = λ r e.
      more_to entering x t (omega (arith, to, h.many)) more_t r e
      ∙ ap (λ b. b || (same_edge x e && (e.to == r))) (h.enters r e)
      ∙ both_or (is_live (at_region leaving e.from) e) (same_edge x e) (e.to == r)
      ∙ ap (λ b. b && (e.to == r)) (sym (live_more leaving x l from more_l e));
} where
  one : (r : ℕ) (e : RegionEdge) → IsTrue (is_live (at_region leaving r) e) ⊎ IsTrue (same_edge x e && (e.from == r)) → e.from ≡ r
  one r e (inl k) = h.from r e k
  one r e (inr k) = eqb-true e.from r (both (same_edge x e) (e.from == r) k).1

  end : (r : ℕ) (e : RegionEdge) → IsTrue (is_live (at_region leaving r) e) ⊎ IsTrue (same_edge x e && (e.from == r)) →
      e.to < length leaving
  end r e (inl k) = h.to r e k
  end r e (inr k) =
      subst (λ (y : RegionEdge). y.to < length leaving) (same_is x e (both (same_edge x e) (e.from == r) k).0) to

  both_or : (a b c : Bool) → ((a && c) || (b && c)) ≡ ((a || b) && c)
  both_or true true true = refl
  both_or true true false = refl
  both_or true false true = refl
  both_or true false false = refl
  both_or false true true = refl
  both_or false true false = refl
  both_or false false true = refl
  both_or false false false = refl

-- the same edges in lists of regions that they lead to
pub listed_same : (leaving entering other : Lists) → AreListed leaving entering → length leaving ≤ length other →
    ((r : ℕ) (e : RegionEdge) → is_live (at_region other r) e ≡ is_live (at_region entering r) e) → AreListed leaving other
listed_same leaving entering other h n s =
    record { many = n; from = h.from; to = h.to; enters = λ r e. s r e ∙ h.enters r e }

-- One edge less

less_from : (lists : Lists) (x : RegionEdge) (l : List RegionEdge) (at : ℕ) → at < length lists →
    ((e : RegionEdge) → is_live l e ≡ (is_live (at_region lists at) e && not (same_edge e x))) →
    ((k : ℕ) (e : RegionEdge) → IsTrue (is_live (at_region lists k) e) → IsTrue (same_edge e x) → k ≡ at) → (k : ℕ) (e : RegionEdge) →
    is_live (at_region (slice_set lists at l) k) e ≡ (is_live (at_region lists k) e && not (same_edge e x))
less_from lists x l at h less only k e = live_set lists at l h k e ∙ by (k == at) refl (same_edge e x) refl (is_live (at_region lists k) e)
    refl where
      Goal : Type 0
      Goal = (if k == at then is_live l e else is_live (at_region lists k) e) ≡ (is_live (at_region lists k) e && not (same_edge e x))

      by : (b : Bool) → (k == at) ≡ b → (c : Bool) → same_edge e x ≡ c → (d : Bool) → is_live (at_region lists k) e ≡ d → Goal
      by true s c t d u = rw s (less e ∙ ap (λ n. is_live (at_region lists n) e && not (same_edge e x)) (sym (eqb-true k at s)))
      by false s false t d u = rw (s, t, u) (sym (and_true d true refl))
      by false s true t false u = rw (s, t, u) refl
      by false s true t true u = absurd (clash (sym (eq-eqb k at (only k e u t)) ∙ s))

and_left : (a b : Bool) → IsTrue (a && b) → IsTrue a
and_left a b h = (both a b h).0

pub listed_less : (leaving entering : Lists) (x : RegionEdge) (l t : List RegionEdge) → AreListed leaving entering →
    x.from < length leaving → x.to < length leaving →
    ((e : RegionEdge) → is_live l e ≡ (is_live (at_region leaving x.from) e && not (same_edge e x))) →
    ((e : RegionEdge) → is_live t e ≡ (is_live (at_region entering x.to) e && not (same_edge e x))) →
    AreListed (slice_set leaving x.from l) (slice_set entering x.to t)
    × ((e : RegionEdge) → is_live (at_region (slice_set leaving x.from l) e.from) e
    ≡ (is_live (at_region leaving e.from) e && not (same_edge e x)))
listed_less leaving entering x l t h from to less_l less_t = (
  record {
    many = omega (arith, h.many, length-set leaving x.from l, length-set entering x.to t);
    from = λ r e k. h.from r e (and_left (is_live (at_region leaving r) e) (not (same_edge e x)) (subst IsTrue (leave r e) k));
    to = λ r e k. subst (λ n. e.to < n) (sym (length-set leaving x.from l))
        (h.to r e (and_left (is_live (at_region leaving r) e) (not (same_edge e x)) (subst IsTrue (leave r e) k)));
    enters = λ r e.
        enter r e ∙ ap (λ b. b && not (same_edge e x)) (h.enters r e)
        ∙ swapped (is_live (at_region leaving e.from) e) (e.to == r) (not (same_edge e x))
        ∙ ap (λ b. b && (e.to == r)) (sym (leave e.from e));
  },
  λ e. leave e.from e,
)
  where
    leave : (r : ℕ) (e : RegionEdge) → is_live (at_region (slice_set leaving x.from l) r) e ≡ (is_live (at_region leaving r) e && not
        (same_edge e x))
    leave = less_from leaving x l x.from from less_l
        (λ k e live same. sym (h.from k e live) ∙ ap (λ (y : RegionEdge). y.from) (same_is e x same))

    enter : (r : ℕ) (e : RegionEdge) → is_live (at_region (slice_set entering x.to t) r) e ≡ (is_live (at_region entering r) e && not
        (same_edge e x))
    enter = less_from entering x t x.to (omega (arith, to, h.many)) less_t
        (λ k e live same.
        sym (eqb-true e.to k (both (is_live (at_region leaving e.from) e) (e.to == k) (subst IsTrue (h.enters k e) live)).1)
        ∙ ap (λ (y : RegionEdge). y.to) (same_is e x same))

    swapped : (a b c : Bool) → ((a && b) && c) ≡ ((a && c) && b)
    swapped true true true = refl
    swapped true true false = refl
    swapped true false true = refl
    swapped true false false = refl
    swapped false b c = refl

-- added and removed again
pub live_back : (entering : Lists) (x : RegionEdge) (l t : List RegionEdge) → x.to < length entering →
    ((e : RegionEdge) → is_live l e ≡ (is_live (at_region entering x.to) e || same_edge x e)) →
    ((e : RegionEdge) → is_live t e ≡ (is_live l e && not (same_edge e x))) → is_live (at_region entering x.to) x ≡ false →
    (k : ℕ) (e : RegionEdge) →
    is_live (at_region (slice_set (slice_set entering x.to l) x.to t) k) e ≡ is_live (at_region entering k) e
live_back entering x l t h more less none k e =
    live_set (slice_set entering x.to l) x.to t (subst (λ n. x.to < n) (sym (length-set entering x.to l)) h) k e
    ∙ by (k == x.to) refl (same_edge e x) refl
  where
    Goal : Type 0
    Goal = (if k == x.to then is_live t e else is_live (at_region (slice_set entering x.to l) k) e) ≡ is_live (at_region entering k) e

    turned : (b : Bool) → same_edge x e ≡ b → same_edge e x ≡ false → same_edge x e ≡ false
    turned false s n = s
    turned true s n =
        absurd (clash (sym (subst (λ y. same_edge y x ≡ true) (same_is x e s) (same_itself x)) ∙ n))

    by : (b : Bool) → (k == x.to) ≡ b → (c : Bool) → same_edge e x ≡ c → Goal
    by false s c u = rw s (live_set entering x.to l h k e ∙ rw s refl)
    by true s true u =
        let here : e ≡ x = same_is e x u in
        let at : is_live t e ≡ false = less e ∙ rw u (and_false (is_live l e)) in
        rw s (at ∙ sym none ∙ ap (λ n. is_live (at_region entering n) x) (sym (eqb-true k x.to s)) ∙ ap (λ y. is_live
        (at_region entering k) y) (sym here))
    by true s false u =
        let at : is_live t e ≡ is_live (at_region entering x.to) e =
        less e ∙ rw u (and_true (is_live l e) true refl ∙ more e ∙ rw (turned (same_edge x e) refl u)
        (sym (or_false (is_live (at_region entering x.to) e)))) in
        rw s (at ∙ ap (λ n. is_live (at_region entering n) e) (sym (eqb-true k x.to s)))
      where
        or_false : (b : Bool) → b ≡ (b || false)
        or_false true = refl
        or_false false = refl

-- Filters

pub live_kept : (p : RegionEdge → Bool) (xs : List RegionEdge) (e : RegionEdge) → is_live (filter p xs) e ≡ (is_live xs e && p e)
live_kept p [] e = refl
live_kept p (x ∷ xs) e = by (p x) (same_edge x e) refl refl (live_kept p xs e) where
  by : (s t : Bool) → p x ≡ s → same_edge x e ≡ t → is_live (filter p xs) e ≡ (is_live xs e && p e) →
      is_live (filter p (x ∷ xs)) e ≡ ((same_edge x e || is_live xs e) && p e)
  by true true a b h = rw (a, b) (sym (subst (λ y. p y ≡ true) (same_is x e b) a))
  by true false a b h = rw (a, b) h
  by false true a b h =
      let q : p e ≡ false = subst (λ y. p y ≡ false) (same_is x e b) a in
      rw (a, b) (h ∙ ap (λ c. is_live xs e && c) q ∙ and_false (is_live xs e) ∙ sym q)
  by false false a b h = rw (a, b) h

pub filter_set : (p : RegionEdge → Bool) (lists : Lists) (r : ℕ) (l : List RegionEdge) → filter p l ≡ filter p (at_region lists r) →
    filter p (joined (slice_set lists r l)) ≡ filter p (joined lists)
filter_set p [] r l h = refl
filter_set p (k ∷ lists) zero l h =
    filter-append p l (joined lists) ∙ ap (λ zs. zs ++ filter p (joined lists)) h ∙ sym (filter-append p k (joined lists))
filter_set p (k ∷ lists) (suc r) l h =
    filter-append p k (joined (slice_set lists r l)) ∙ ap (λ zs. filter p k ++ zs) (filter_set p lists r l h)
    ∙ sym (filter-append p k (joined lists))

filter_none : (p : RegionEdge → Bool) (xs : List RegionEdge) → ((e : RegionEdge) → IsTrue (is_live xs e) → p e ≡ false) → filter p xs ≡ []
filter_none p [] h = refl
filter_none p (x ∷ xs) h =
    rw (h x (or_left (same_edge x x) (is_live xs x) (same_itself x))) (filter_none p xs (λ e l. h e (or_right (same_edge x e)
    (is_live xs e) l)))

-- the lists of the first regions, with the edges between these
abbrev pub kept_lists : (n : ℕ) → Lists → Lists
kept_lists n lists = map (filter (has_regions n)) (take n lists)

past : (n m : ℕ) (e : RegionEdge) → n ≤ e.from → has_regions n e ≡ false
past n m e h = rw (le-ltb e.from n h) refl

pub joined_kept : (n j m : ℕ) (lists : Lists) → m + j ≡ n → StandFrom m lists →
    joined (map (filter (has_regions n)) (take j lists)) ≡ filter (has_regions n) (joined lists)
joined_kept n zero m lists s h = sym (filter_none (has_regions n) (joined lists) (λ e l. let w = joined_at lists e l in
    past n m e (omega (arith, s, h w.0 e w.1))))
joined_kept n (suc j) m [] s h = refl
joined_kept n (suc j) m (l ∷ lists) s h =
    ap (λ zs. filter (has_regions n) l ++ zs) (joined_kept n j (m + 1) lists (omega (arith, s)) (λ r e k. omega (arith, h (suc r) e k)))
    ∙ sym (filter-append (has_regions n) l (joined lists))

lt_next : (r j : ℕ) → nat_lt (suc r) (suc j) ≡ nat_lt r j
lt_next r j = by (cases_lt r j) where
  by : (r < j) ⊎ (j ≤ r) → nat_lt (suc r) (suc j) ≡ nat_lt r j
  by (inl l) = lt-ltb (suc r) (suc j) (omega (arith, l)) ∙ sym (lt-ltb r j l)
  by (inr l) = le-ltb (suc r) (suc j) (omega (arith, l)) ∙ sym (le-ltb r j l)

at_kept : (n j : ℕ) (lists : Lists) (r : ℕ) (e : RegionEdge) →
    is_live (at_region (map (filter (has_regions n)) (take j lists)) r) e
    ≡ (nat_lt r j && (is_live (at_region lists r) e && has_regions n e))
at_kept n zero [] r e = ap (λ zs. is_live zs e) (at_none r) ∙ sym (ap (λ b. b && (is_live (at_region [] r) e && has_regions n e))
    (le-ltb r 0 (omega arith)))
at_kept n zero (l ∷ lists) r e = ap (λ zs. is_live zs e) (at_none r) ∙ sym (ap (λ b. b && (is_live (at_region (l ∷ lists) r) e &&
    has_regions n e)) (le-ltb r 0 (omega arith)))
at_kept n (suc j) [] r e =
    ap (λ zs. is_live zs e) (at_none r) ∙ sym (ap (λ zs. nat_lt r (suc j) && (is_live zs e && has_regions n e)) (at_none r)
    ∙ and_false (nat_lt r (suc j)))
at_kept n (suc j) (l ∷ lists) zero e =
    live_kept (has_regions n) l e ∙ sym (ap (λ b. b && (is_live l e && has_regions n e)) (lt-ltb 0 (suc j) (omega arith)))
at_kept n (suc j) (l ∷ lists) (suc r) e =
    at_kept n j lists r e ∙ ap (λ b. b && (is_live (at_region lists r) e && has_regions n e)) (sym (lt_next r j))

pub listed_kept : (n : ℕ) (leaving entering : Lists) → AreListed leaving entering → n ≤ length leaving →
    AreListed (kept_lists n leaving) (kept_lists n entering)
listed_kept n leaving entering h few = record {
  many = omega (arith, count leaving few, count entering (omega (arith, few, h.many)));
  from = λ r e k. h.from r e (inner r e k).0;
  to = λ r e k. subst (λ m. e.to < m) (sym (count leaving few))
      (ltb-true e.to n (both (nat_lt e.from n) (nat_lt e.to n) (inner r e k).1).1);
  enters = λ r e.
      at_kept n n entering r e ∙ ap (λ b. nat_lt r n && (b && has_regions n e)) (h.enters r e)
      ∙ by r e (is_live (at_region leaving e.from) e) (e.to == r) refl
      ∙ ap (λ b. b && (e.to == r)) (sym (at_kept n n leaving e.from e));
} where
  count : (lists : Lists) → n ≤ length lists → length (kept_lists n lists) ≡ n
  count lists few = omega (arith, few, length-map (take n lists) (filter (has_regions n)), length-take n lists)

  inner : (r : ℕ) (e : RegionEdge) → IsTrue (is_live (at_region (kept_lists n leaving) r) e) → IsTrue (is_live (at_region leaving r) e)
      × IsTrue (has_regions n e)
  inner r e k =
      both (is_live (at_region leaving r) e) (has_regions n e)
      (both (nat_lt r n) (is_live (at_region leaving r) e && has_regions n e) (subst IsTrue (at_kept n n leaving r e) k)).1

  by : (r : ℕ) (e : RegionEdge) (a b : Bool) → (e.to == r) ≡ b →
      (nat_lt r n && ((a && b) && (nat_lt e.from n && nat_lt e.to n))) ≡ ((nat_lt e.from n && (a && (nat_lt e.from n && nat_lt e.to n))) &&
      b)
  by r e a true s =
      let same : r ≡ e.to = sym (eqb-true e.to r s) in
      ap (λ m. nat_lt m n && ((a && true) && (nat_lt e.from n && nat_lt e.to n))) same
      ∙ five a (nat_lt e.from n) (nat_lt e.to n)
    where
      five : (a f t : Bool) → (t && ((a && true) && (f && t))) ≡ ((f && (a && (f && t))) && true)
      five true true true = refl
      five true true false = refl
      five true false true = refl
      five true false false = refl
      five false true true = refl
      five false true false = refl
      five false false true = refl
      five false false false = refl
  by r e a false s = four a (nat_lt r n) (nat_lt e.from n && nat_lt e.to n) (nat_lt e.from n) where
    four : (a b c d : Bool) → (b && ((a && false) && c)) ≡ ((d && (a && c)) && false)
    four true true true true = refl
    four true true true false = refl
    four true true false true = refl
    four true true false false = refl
    four true false true true = refl
    four true false true false = refl
    four true false false true = refl
    four true false false false = refl
    four false true true true = refl
    four false true true false = refl
    four false true false true = refl
    four false true false false = refl
    four false false true true = refl
    four false false true false = refl
    four false false false true = refl
    four false false false false = refl

-- One more region

pub at_pushed : (lists : Lists) (r : ℕ) → at_region (lists ++ [] ∷ []) r ≡ at_region lists r
at_pushed [] zero = refl
at_pushed [] (suc r) = at_none r
at_pushed (l ∷ lists) zero = refl
at_pushed (l ∷ lists) (suc r) = at_pushed lists r

pub joined_pushed : (lists : Lists) → joined (lists ++ [] ∷ []) ≡ joined lists
joined_pushed [] = refl
joined_pushed (l ∷ lists) = ap (λ zs. l ++ zs) (joined_pushed lists)

pub listed_entering : (leaving entering : Lists) → AreListed leaving entering → AreListed leaving (entering ++ [] ∷ [])
listed_entering leaving entering h =
    listed_same leaving entering (entering ++ [] ∷ []) h (omega (arith, h.many, length-append entering ([] ∷ [])))
    (λ r e. ap (λ zs. is_live zs e) (at_pushed entering r))

pub listed_pushed : (leaving entering : Lists) → AreListed leaving entering → AreListed (leaving ++ [] ∷ []) (entering ++ [] ∷ [])
listed_pushed leaving entering h = record {
  many = omega (arith, h.many, length-append leaving ([] ∷ []), length-append entering ([] ∷ []));
  from = λ r e k. h.from r e (subst (λ zs. IsTrue (is_live zs e)) (at_pushed leaving r) k);
  to = λ r e k. omega (arith, h.to r e (subst (λ zs. IsTrue (is_live zs e)) (at_pushed leaving r) k), length-append leaving ([] ∷ []));
  enters = λ r e.
      ap (λ zs. is_live zs e) (at_pushed entering r) ∙ h.enters r e
      ∙ ap (λ zs. is_live zs e && (e.to == r)) (sym (at_pushed leaving e.from));
}

-- The edges that a caller sees

pub joined_more : (leaving entering : Lists) (x : RegionEdge) (l t : List RegionEdge) → AreListed leaving entering →
    x.from < length leaving → x.to < length leaving →
    ((e : RegionEdge) → is_live l e ≡ (is_live (at_region leaving x.from) e || same_edge x e)) →
    ((e : RegionEdge) → is_live t e ≡ (is_live (at_region entering x.to) e || same_edge x e)) → (e : RegionEdge) →
    is_live (joined (slice_set leaving x.from l)) e ≡ (is_live (joined leaving) e || same_edge x e)
joined_more leaving entering x l t h from to more_l more_t e =
    live_joined (slice_set leaving x.from l) e (listed_more leaving entering x l t h from to more_l more_t).from
    ∙ live_more leaving x l from more_l e
    ∙ ap (λ b. b || same_edge x e) (sym (live_joined leaving e h.from))

pub joined_less : (leaving entering : Lists) (x : RegionEdge) (l t : List RegionEdge) → AreListed leaving entering →
    x.from < length leaving → x.to < length leaving →
    ((e : RegionEdge) → is_live l e ≡ (is_live (at_region leaving x.from) e && not (same_edge e x))) →
    ((e : RegionEdge) → is_live t e ≡ (is_live (at_region entering x.to) e && not (same_edge e x))) → (e : RegionEdge) →
    is_live (joined (slice_set leaving x.from l)) e ≡ (is_live (joined leaving) e && not (same_edge e x))
joined_less leaving entering x l t h from to less_l less_t e =
    let w = listed_less leaving entering x l t h from to less_l less_t in
    live_joined (slice_set leaving x.from l) e w.0.from ∙ w.1 e
    ∙ ap (λ b. b && not (same_edge e x)) (sym (live_joined leaving e h.from))
