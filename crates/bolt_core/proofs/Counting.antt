-- Each query has at most one summary in the table, and each member of a group is in it once.
use Rattle.std.proofs.Common.{◌≡◌, ℕ, zero, suc, ◌+◌, ◌<◌, ◌≤◌, List, [], ◌∷◌, ◌++◌, length, Bool, true, false, cond, Some, None, refl, sym, ap, ◌∙◌, subst, ⊎_elim, arith, length-append}
use Rattle.std.specs.Prelude.{slice_get, ◌==◌, ◌&&◌, ◌||◌, filter, flat_map}
use Rattle.std.proofs.lemmas.Bool.{and_parts, and_right, cond_both, eqb-true, false_from_ne_true, ne_eqb, or_cases}
use Rattle.query_tree.specs.Forest.{changed, tally, tally_from}
use Rattle.query_tree.proofs.Lists.{from_changed, from_pushed, tally_changed, tally_le, tally_one, tally_plus, tally_pushed, tally_same, tally_zero, within}
use Rattle.query_tree.proofs.Tests.{cond_eq, one_at}
use Rattle.summary_form.specs.declared.summary.Summary.{Summary}
use Rattle.bolt_core.specs.declared.slot.ClosedAs.{ClosedAs}
use Rattle.bolt_core.specs.declared.slot.ClosedAs.TheVariants as how
use Rattle.bolt_core.specs.Groups.{Node, closed_at, group, is_member, leads, level_in, places_from, queries_at, query_in}
use Rattle.bolt_core.specs.Histories.{Told, has_said}
use Rattle.bolt_core.specs.Keeps.{AreCounted, AreLevelled, counts_once, is_counted}
use Rattle.bolt_core.specs.Machine.{AllOf}
use Rattle.bolt_core.proofs.Groups.{member_below, member_joins, open_apart}
use Rattle.bolt_core.proofs.Lines.{level_within}
use Rattle.bolt_core.proofs.Truths.{all_in_group}

-- The length of a group

count_step : (b : Bool) (k : ℕ) (r : List ℕ) (t : ℕ) → length r ≡ t → length (cond b (k ∷ r) r) ≡ counts_once b + t
count_step true k r t h = omega (arith, h)
count_step false k r t h = omega (arith, h)

-- the places that pass
count_places : {X : Type 0} (p : ℕ → Bool) (k : ℕ) (xs : List X) →
    length (filter p (places_from k (length xs))) ≡ tally_from k (λ j x. counts_once (p j)) xs
count_places p k [] = refl
count_places p k (x ∷ xs) = count_step (p k) k (filter p (places_from (suc k) (length xs))) _ (count_places p (suc k) xs)

-- how often the level stands among the m from a on
abbrev pub times : (a m level : ℕ) → ℕ
times a zero l = 0
times a (suc m) l = counts_once (l == a) + times (suc a) m l

times_below : (a m l : ℕ) → l < a → times a m l ≡ 0
times_below a zero l lt = refl
times_below a (suc m) l lt = rw (ne_eqb l a (λ e. omega (arith, e, lt))) (omega (arith, times_below (suc a) m l (omega (arith, lt))))

times_once : (a m l : ℕ) → a ≤ l → l < a + m → times a m l ≡ 1
times_once a zero l le lt = absurd (omega (arith, le, lt))
times_once a (suc m) l le lt = cond_eq (λ n. n + times (suc a) m l ≡ 1) l a 1 0
    (λ e. omega (arith, times_below (suc a) m l (omega (arith, e))))
    (λ ne. omega (arith, times_once (suc a) m l (omega (arith, le, ne)) (omega (arith, lt))))

split_count : (b p : Bool) (t : ℕ) → counts_once (b && p) + cond p t 0 ≡ cond p (counts_once b + t) 0
split_count true true t = refl
split_count false true t = refl
split_count true false t = refl
split_count false false t = refl

none_count : (p : Bool) (z : ℕ) → z ≡ 0 → cond p z 0 ≡ 0
none_count true z h = h
none_count false z h = refl

levels_length : {X : Type 0} (xs : List X) (p : ℕ → Bool) (level : ℕ → ℕ) (a m : ℕ) →
    length (flat_map (λ k. filter (λ i. (level i == k) && p i) (places_from 0 (length xs))) (places_from a m))
    ≡ tally (λ j x. cond (p j) (times a m (level j)) 0) xs
levels_length xs p level a zero =
    sym (tally_same (λ j x. cond (p j) 0 0) (λ j x. 0) xs (λ j x _. none_count (p j) 0 refl) ∙ tally_zero 0 xs)
levels_length xs p level a (suc m) =
    let first : List ℕ = filter (λ i. (level i == a) && p i) (places_from 0 (length xs)) in
    let rest : List ℕ = flat_map (λ k. filter (λ i. (level i == k) && p i) (places_from 0 (length xs))) (places_from (suc a) m) in
    let both : length (first ++ rest) ≡ length first + length rest = length-append first rest in
    omega (
      arith,
      both,
      count_places (λ i. (level i == a) && p i) 0 xs,
      levels_length xs p level (suc a) m,
      tally_plus (λ j x. counts_once ((level j == a) && p j)) (λ j x. cond (p j) (times (suc a) m (level j)) 0) 0 xs,
      tally_same (λ j x. counts_once ((level j == a) && p j) + cond (p j) (times (suc a) m (level j)) 0)
          (λ j x. cond (p j) (times a (suc m) (level j)) 0) xs
          (λ j x _. split_count (level j == a) (p j) (times (suc a) m (level j))),
    )

abbrev pub member_count : List Node → (lead l : ℕ) → ℕ → Node → ℕ
member_count ns lead l j x = counts_once (is_member ns lead l j)

once_count : (b : Bool) (t : ℕ) → (b ≡ true → t ≡ 1) → cond b t 0 ≡ counts_once b
once_count true t h = h refl
once_count false t h = refl

module _ (ns : List Node) (t : AreLevelled ns) (lead : ℕ) (n : Node) (at : slice_get ns lead ≡ Some n) where
  -- each member stands in the list once
  group_once : length (group ns lead n.level) ≡ tally (member_count ns lead n.level) ns
  group_once =
      levels_length ns (is_member ns lead n.level) (λ i. level_in (slice_get ns i)) (suc n.level) (length ns)
      ∙ tally_same _ (member_count ns lead n.level) ns (λ j x a. once_count (is_member ns lead n.level j) _ (one j x a))
    where
      one : (j : ℕ) (x : Node) → slice_get ns j ≡ Some x → is_member ns lead n.level j ≡ true →
          times (suc n.level) (length ns) (level_in (slice_get ns j)) ≡ 1
      one j x a m =
          let is : level_in (slice_get ns j) ≡ x.level = ap level_in a in
          rw is (times_once (suc n.level) (length ns) x.level (omega (arith, member_below ns t lead n at j x a m))
          (omega (arith, level_within ns t j x a, within ns j x a)))

  one_query : (i : ℕ) (x : Node) → slice_get ns i ≡ Some x → length (query_in (slice_get ns i)) ≡ 1
  one_query i x a = ap (λ o. length (query_in o)) a

  queries_length : (is : List ℕ) → AllOf (λ i. is_member ns lead n.level i ≡ true) is → length (queries_at ns is) ≡ length is
  queries_length [] h = refl
  queries_length (i ∷ is) h =
      let j = member_joins ns lead n.level i h.0 in
      omega (arith, length-append (query_in (slice_get ns i)) (queries_at ns is), one_query i j.node j.at, queries_length is h.1)

  pub group_length : length (queries_at ns (group ns lead n.level)) ≡ tally (member_count ns lead n.level) ns
  group_length = queries_length (group ns lead n.level) (all_in_group ns lead n.level) ∙ group_once

-- Bounds

count_most : (b : Bool) → counts_once b ≤ 1
count_most true = omega arith
count_most false = omega arith

tally_ones : {X : Type 0} (k : ℕ) (xs : List X) → tally_from k (λ j x. 1) xs ≡ length xs
tally_ones k [] = refl
tally_ones k (x ∷ xs) = omega (arith, tally_ones (suc k) xs)

-- the table has at most as many summaries as there are queries
pub counted_within : (ks : ℕ) (table : List Summary) (ns : List Node) (h : List Told) → AreCounted ks table ns h → length table ≤ ks
    + length ns
counted_within ks table ns h c = omega (
  arith,
  c.counted,
  tally_le (is_counted h) (λ j x. 1) ns (λ j x _. count_most (x.published || has_said h j)),
  tally_ones 0 ns,
)

with_one : (same shown : Bool) → (same ≡ true → shown ≡ false) → counts_once shown + cond same 1 0 ≤ 1
with_one true true f = let z : true ≡ false = f refl in absurd (cc)
with_one true false f = omega arith
with_one false true f = omega arith
with_one false false f = omega arith

-- and less, where some query has none
pub counted_before : (ks : ℕ) (table : List Summary) (ns : List Node) (h : List Told) → AreCounted ks table ns h → (i : ℕ) (n : Node) →
    slice_get ns i ≡ Some n → n.published ≡ false → has_said h i ≡ false → length table < ks + length ns
counted_before ks table ns h c i n at silent unsaid = omega (
  arith,
  c.counted,
  tally_plus (is_counted h) (λ j x. cond (j == i) 1 0) 0 ns,
  tally_one 1 i ns n at,
  tally_le (λ j x. is_counted h j x + cond (j == i) 1 0) (λ j x. 1) ns below,
  tally_ones 0 ns,
)
  where
    none : (j : ℕ) (x : Node) → slice_get ns j ≡ Some x → (j == i) ≡ true → (x.published || has_said h j) ≡ false
    none j x a e =
        let d : j ≡ i = eqb-true j i e in
        let y : x ≡ n = one_at ns i j n x at a d in
        rw (ap (λ (z : Node). z.published) y ∙ silent, ap (has_said h) d ∙ unsaid) refl

    below : (j : ℕ) (x : Node) → slice_get ns j ≡ Some x → is_counted h j x + cond (j == i) 1 0 ≤ 1
    below j x a = with_one (j == i) (x.published || has_said h j) (none j x a)

-- Events

-- the history tells no more of what was said
pub counted_quiet : (ks : ℕ) (table : List Summary) (ns : List Node) (h k : List Told) → ((i : ℕ) → has_said k i ≡ has_said h i) →
    AreCounted ks table ns h → AreCounted ks table ns k
counted_quiet ks table ns h k same c = record {
  counted = c.counted ∙ ap (λ m. ks + m) (tally_same (is_counted h) (is_counted k) ns
      (λ j x _. ap (λ b. counts_once (x.published || b)) (sym (same j))));
  apart = λ i n a e. c.apart i n a (sym (same i) ∙ e);
  silent = c.silent;
}

pub counted_pushed : (ks : ℕ) (table : List Summary) (ns : List Node) (h : List Told) (x : Node) → x.published ≡ false →
    has_said h (length ns) ≡ false → AreCounted ks table ns h → AreCounted ks table (ns ++ x ∷ []) h
counted_pushed ks table ns h x silent unsaid c = record {
  counted = let none : is_counted h (length ns) x ≡ 0 = rw (silent, unsaid) refl in
      omega (arith, c.counted, tally_pushed (is_counted h) ns x, none);
  apart = λ i n a e. ⊎_elim
      (λ b. c.apart i n b e)
      (λ b. let z : true ≡ false = sym e ∙ (ap (has_said h) b.0 ∙ unsaid) in absurd (cc))
      (from_pushed ns x i n a);
  silent = λ i n a o. ⊎_elim (λ b. c.silent i n b o) (λ b. ap (λ (y : Node). y.published) b.1 ∙ silent) (from_pushed ns x i n a);
}

said_step : (same shown said : Bool) → (same ≡ true → (shown ≡ false) × (said ≡ false)) →
    counts_once (shown || (same || said)) ≡ counts_once (shown || said) + cond same 1 0
said_step true shown said f = rw ((f refl).0, (f refl).1) refl
said_step false true said f = refl
said_step false false true f = refl
said_step false false false f = refl

-- a Publish of a query that isn't closed, and of which nothing was said
pub counted_said : (ks : ℕ) (table : List Summary) (ns : List Node) (h k : List Told) (i : ℕ) (n : Node) (s : Summary) →
    slice_get ns i ≡ Some n → n.closed ≡ None → has_said h i ≡ false →
    ((j : ℕ) → has_said k j ≡ ((j == i) || has_said h j)) → AreCounted ks table ns h → AreCounted ks (table ++ s ∷ []) ns k
counted_said ks table ns h k i n s at open' unsaid is c = record {
  counted = omega (
    arith,
    length-append table (s ∷ []),
    c.counted,
    tally_same (is_counted k) (λ j x. is_counted h j x + cond (j == i) 1 0) ns here,
    tally_plus (is_counted h) (λ j x. cond (j == i) 1 0) 0 ns,
    tally_one 1 i ns n at,
  );
  apart = λ j x a e. ⊎_elim
      (λ b. let y : x ≡ n = one_at ns i j n x at a (eqb-true j i b) in
      subst (λ (z : Node). (z.published ≡ false) × (z.closed ≡ None)) (sym y) (c.silent i n at open', open'))
      (λ b. c.apart j x a b)
      (or_cases (j == i) (has_said h j) (sym (is j) ∙ e));
  silent = c.silent;
}
  where
    none : (j : ℕ) (x : Node) → slice_get ns j ≡ Some x → (j == i) ≡ true → (x.published ≡ false) × (has_said h j ≡ false)
    none j x a e =
        let d : j ≡ i = eqb-true j i e in
        let y : x ≡ n = one_at ns i j n x at a d in
        (ap (λ (z : Node). z.published) y ∙ c.silent i n at open', ap (has_said h) d ∙ unsaid)

    here : (j : ℕ) (x : Node) → slice_get ns j ≡ Some x → is_counted k j x ≡ is_counted h j x + cond (j == i) 1 0
    here j x a = ap (λ b. counts_once (x.published || b)) (is j)
        ∙ said_step (j == i) x.published (has_said h j) (none j x a)

-- A Close

abbrev shut_node : (same member shown : Bool) (shut : ClosedAs) → Node → Node
shut_node same member shown shut x = cond same (record x { closed = Some shut; published = shown })
    (cond member (record x { published = true }) x)

shut_step : (same member shown said : Bool) (shut : ClosedAs) (x : Node) →
    (same ≡ true → (member ≡ false) × (x.published ≡ false) × (said ≡ false)) →
    (member ≡ true → (x.published ≡ false) × (said ≡ false)) →
    counts_once ((shut_node same member shown shut x).published || said)
    ≡ counts_once (x.published || said) + (counts_once member + cond same (counts_once shown) 0)
shut_step true member true said shut x f g = rw ((f refl).0, (f refl).1, (f refl).2) refl
shut_step true member false said shut x f g = rw ((f refl).0, (f refl).1, (f refl).2) refl
shut_step false true shown said shut x f g = rw ((g refl).0, (g refl).1) refl
shut_step false false shown said shut x f g =
    let same : counts_once ((shut_node false false shown shut x).published || said) ≡ counts_once (x.published || said) = refl in
    omega (arith, same)

module _ (ns : List Node) (h k : List Told) (i : ℕ) (n : Node) (at : slice_get ns i ≡ Some n) (open' : n.closed ≡ None)
    (unsaid : has_said h i ≡ false) (same : (j : ℕ) → has_said k j ≡ has_said h j) (shut : ClosedAs) (shown : Bool)
    (ks : ℕ) (table more : List Summary) (c : AreCounted ks table ns h) where
  abbrev shut_at : ℕ → Node → Node
  shut_at = closed_at ns i shut shown n.level

  own_none : (j : ℕ) (x : Node) → slice_get ns j ≡ Some x → (j == i) ≡ true →
      ((leads shut && is_member ns i n.level j) ≡ false) × (x.published ≡ false) × (has_said h j ≡ false)
  own_none j x a e =
      let d : j ≡ i = eqb-true j i e in
      let y : x ≡ n = one_at ns i j n x at a d in (
        and_right (leads shut) (is_member ns i n.level j)
            (false_from_ne_true (is_member ns i n.level j)
            (λ m. open_apart ns i n.level j x a (ap (λ (z : Node). z.closed) y ∙ open') m)),
        ap (λ (z : Node). z.published) y ∙ c.silent i n at open',
        ap (has_said h) d ∙ unsaid,
      )

  member_none : (j : ℕ) (x : Node) → slice_get ns j ≡ Some x → (leads shut && is_member ns i n.level j) ≡ true →
      (x.published ≡ false) × (has_said h j ≡ false)
  member_none j x a m =
      let t = member_joins ns i n.level j (and_parts (leads shut) (is_member ns i n.level j) m).1 in
      let y : t.node ≡ x = cc in (
        subst (λ (z : Node). z.published ≡ false) y t.silent,
        false_from_ne_true (has_said h j) (λ e.
            let z : Some (how.NotMay (Some t.leaning.from)) ≡ None = sym t.leaning.is ∙ (c.apart j t.node t.at e).1 in
            absurd (cc)),
      )

  step : (j : ℕ) (x : Node) → slice_get ns j ≡ Some x → is_counted k j (shut_at j x)
      ≡ is_counted h j x + (counts_once (leads shut && is_member ns i n.level j) + cond (j == i) (counts_once shown) 0)
  step j x a = ap (λ b. counts_once ((shut_at j x).published || b)) (same j)
      ∙ shut_step (j == i) (leads shut && is_member ns i n.level j) shown (has_said h j) shut x (own_none j x a) (member_none j x a)

  shut_apart : (j : ℕ) (x : Node) → slice_get ns j ≡ Some x → has_said k j ≡ true →
      ((shut_at j x).published ≡ false) × ((shut_at j x).closed ≡ None)
  shut_apart j x a e =
      let s : has_said h j ≡ true = sym (same j) ∙ e in
      cond_eq (λ (y : Node). (y.published ≡ false) × (y.closed ≡ None)) j i _ _
      (λ d. let z : true ≡ false = sym s ∙ (ap (has_said h) d ∙ unsaid) in absurd (cc))
      (λ _. cond_both (leads shut && is_member ns i n.level j) _ x (λ (y : Node). (y.published ≡ false) × (y.closed ≡ None))
      (λ m. let z : true ≡ false = sym s ∙ (member_none j x a m).1 in absurd (cc))
      (λ _. c.apart j x a s))

  shut_silent : (j : ℕ) (x : Node) → slice_get ns j ≡ Some x → (shut_at j x).closed ≡ None → (shut_at j x).published ≡ false
  shut_silent j x a = cond_eq (λ (y : Node). y.closed ≡ None → y.published ≡ false) j i _ _
      (λ d o. absurd (cc))
      (λ _. cond_both (leads shut && is_member ns i n.level j) _ x (λ (y : Node). y.closed ≡ None → y.published ≡ false)
      (λ m o. absurd (open_apart ns i n.level j x a o (and_parts (leads shut) (is_member ns i n.level j) m).1))
      (λ _ o. c.silent j x a o))

  pub counted_closed : length more ≡ tally (λ j x. counts_once (leads shut && is_member ns i n.level j)) ns + counts_once shown →
      AreCounted ks (table ++ more) (changed shut_at ns) k
  counted_closed many = record {
    counted = omega (
      arith,
      length-append table more,
      many,
      c.counted,
      tally_changed (is_counted k) shut_at 0 ns,
      tally_same (λ j x. is_counted k j (shut_at j x))
          (λ j x. is_counted h j x + (counts_once (leads shut && is_member ns i n.level j) + cond (j == i) (counts_once shown) 0)) ns step,
      tally_plus (is_counted h)
          (λ j x. counts_once (leads shut && is_member ns i n.level j) + cond (j == i) (counts_once shown) 0) 0 ns,
      tally_plus (λ j x. counts_once (leads shut && is_member ns i n.level j)) (λ j x. cond (j == i) (counts_once shown) 0) 0 ns,
      tally_one (counts_once shown) i ns n at,
    );
    apart = λ j y a e. let r = from_changed shut_at ns j y a in
        subst (λ (z : Node). (z.published ≡ false) × (z.closed ≡ None)) (sym r.2) (shut_apart j r.0 r.1 e);
    silent = λ j y a. let r = from_changed shut_at ns j y a in
        subst (λ (z : Node). z.closed ≡ None → z.published ≡ false) (sym r.2) (shut_silent j r.0 r.1);
  }
