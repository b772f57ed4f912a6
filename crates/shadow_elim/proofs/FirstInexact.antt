-- The first pair with neither coefficient 1 or -1, stage by stage.
use Rattle.std.proofs.Common.{◌≡◌, ℕ, Bool, true, false, not, ◌&&◌, List, [], ◌∷◌, ◌++◌, ◌+◌, ◌<◌, ◌≤◌, length, get_or, drop, map, Option, None, Some, cond, refl, sym, ap, subst, ◌∙◌}
use Rattle.std.specs.Prelude.{find, filter, flat_map, option_map}
use Rattle.std.specs.Option.{option_or}
use Rattle.std.proofs.lemmas.List.{at_drop_more, at_drop_all}
use Rattle.linear_formula.specs.LinearSum.{LinearSum}
use Rattle.shadow_elim.specs.declared.row.Row.{Row}
use Rattle.shadow_elim.specs.declared.elimination.Stage.{Stage}
use Rattle.shadow_elim.specs.Elimination.{is_upper, is_lower, is_unit, is_inexact, pairs, after_column, inexact_after, first_inexact}
use Rattle.shadow_elim.specs.Stages.{terms_of, IsStage, AreStages}

-- One column

-- the coefficient of the column is neither 1 nor -1
abbrev pub is_other : ℕ → LinearSum → Bool
is_other x t = not (is_unit x t)

abbrev pub both_of : {X : Type 0} → Option X → Option X → Option (X × X)
both_of None l = None
both_of (Some u) None = None
both_of (Some u) (Some l) = Some (u, l)

both-of_none : {X : Type 0} (u : Option X) → both_of u None ≡ None
both-of_none None = refl
both-of_none (Some u) = refl

find-append : {X : Type 0} (p : X → Bool) (xs ys : List X) → find p (xs ++ ys) ≡ option_or (find p xs) (find p ys)
find-append p [] ys = refl
find-append p (x ∷ xs) ys = by_test (p x) (find-append p xs ys) where
  by_test : (b : Bool) → find p (xs ++ ys) ≡ option_or (find p xs) (find p ys) → cond b (Some x) (find p (xs ++ ys))
      ≡ option_or (cond b (Some x) (find p xs)) (find p ys)
  by_test true h = refl
  by_test false h = h

pub find-map : {X Y : Type 0} (p : Y → Bool) (f : X → Y) (xs : List X) → find p (map f xs) ≡ option_map f (find (λ x. p (f x)) xs)
find-map p f [] = refl
find-map p f (x ∷ xs) = by_test (p (f x)) (find-map p f xs) where
  by_test : (b : Bool) → find p (map f xs) ≡ option_map f (find (λ y. p (f y)) xs) → cond b (Some (f x)) (find p (map f xs))
      ≡ option_map f (cond b (Some x) (find (λ y. p (f y)) xs))
  by_test true h = refl
  by_test false h = h

-- the pairs of one upper row
find-of_unit : (x : ℕ) (u : LinearSum) (ls : List LinearSum) → is_other x u ≡ false → find (is_inexact x) (map (λ l. (u, l)) ls) ≡ None
find-of_unit x u [] e = refl
find-of_unit x u (l ∷ ls) e = by_test (is_other x u) e (find-of_unit x u ls e) where
  by_test : (b : Bool) → b ≡ false → find (is_inexact x) (map (λ k. (u, k)) ls) ≡ None → cond (b && is_other x l) (Some (u, l))
      (find (is_inexact x) (map (λ k. (u, k)) ls)) ≡ None
  by_test true e h = absurd (cc)
  by_test false e h = h

find-of_other : (x : ℕ) (u : LinearSum) (ls : List LinearSum) → is_other x u ≡ true → find (is_inexact x) (map (λ l. (u, l)) ls)
    ≡ both_of (Some u) (find (is_other x) ls)
find-of_other x u [] e = refl
find-of_other x u (l ∷ ls) e = by_test (is_other x u) (is_other x l) e (find-of_other x u ls e) where
  by_test : (b d : Bool) → b ≡ true → find (is_inexact x) (map (λ k. (u, k)) ls) ≡ both_of (Some u) (find (is_other x) ls) →
      cond (b && d) (Some (u, l)) (find (is_inexact x) (map (λ k. (u, k)) ls)) ≡ both_of (Some u) (cond d (Some l) (find (is_other x) ls))
  by_test true true e h = refl
  by_test true false e h = h
  by_test false d e h = absurd (cc)

-- the first upper row and the first lower row with another coefficient make the first pair
find-pairs : (x : ℕ) (us ls : List LinearSum) → find (is_inexact x) (flat_map (λ u. map (λ l. (u, l)) ls) us)
    ≡ both_of (find (is_other x) us) (find (is_other x) ls)
find-pairs x [] ls = refl
find-pairs x (u ∷ us) ls =
    find-append (is_inexact x) (map (λ l. (u, l)) ls) (flat_map (λ v. map (λ l. (v, l)) ls) us)
    ∙ ap (option_or (find (is_inexact x) (map (λ l. (u, l)) ls))) (find-pairs x us ls) ∙ by_test (is_other x u) refl where
      others : (o : Option LinearSum) → option_or (both_of (Some u) o) (both_of (find (is_other x) us) o) ≡ both_of (Some u) o
      others None = both-of_none (find (is_other x) us)
      others (Some l) = refl

      by_test : (b : Bool) → is_other x u ≡ b → option_or (find (is_inexact x) (map (λ l. (u, l)) ls))
          (both_of (find (is_other x) us) (find (is_other x) ls)) ≡ both_of (cond b (Some u) (find (is_other x) us)) (find (is_other x) ls)
      by_test true e =
          ap (λ o. option_or o (both_of (find (is_other x) us) (find (is_other x) ls))) (find-of_other x u ls e)
          ∙ others (find (is_other x) ls)
      by_test false e =
          ap (λ o. option_or o (both_of (find (is_other x) us) (find (is_other x) ls))) (find-of_unit x u ls e)

-- the first pair of a stage
pub stage-pair : (x : ℕ) (rows : List LinearSum) (s : Stage) → IsStage x rows s → find (is_inexact x) (pairs x rows)
    ≡ both_of (find (is_other x) (terms_of s.uppers.items)) (find (is_other x) (terms_of s.lowers.items))
stage-pair x rows s h =
    find-pairs x (filter (is_upper x) rows) (filter (is_lower x) rows)
    ∙ ap (λ us. both_of (find (is_other x) us) (find (is_other x) (filter (is_lower x) rows))) (sym h.uppers)
    ∙ ap (λ ls. both_of (find (is_other x) (terms_of s.uppers.items)) (find (is_other x) ls)) (sym h.lowers)

-- One stage after the other

-- these stages are left, and what is found in them
pub record IsFrom (found : Option (ℕ × (LinearSum × LinearSum))) (stages : List Stage) (left : List LinearSum) : Type 0 where
  pub columns : List ℕ
  pub rows : List LinearSum
  pub passed : AreStages columns rows stages left
  pub same : found ≡ first_inexact columns rows

-- what is found in all stages is found in the rest
abbrev pub Continues : List Stage → List Stage → Type 0
Continues all rest =
    (columns : List ℕ) (rows left : List LinearSum) → AreStages columns rows all left → IsFrom (first_inexact columns rows) rest left

-- the pair is the first one of the stage
abbrev pub IsFirstIn : Option (ℕ × (LinearSum × LinearSum)) → Stage → Type 0
IsFirstIn pair s =
    (x : ℕ) (rows : List LinearSum) → IsStage x rows s → pair ≡ option_map (λ p. (x, p)) (find (is_inexact x) (pairs x rows))

-- the first row with another coefficient, among the terms
seen : (c x : ℕ) (rs us : List Row) (o : Option Row) → c ≡ x → us ≡ rs → o ≡ find (λ r. is_other c r.term) us →
    find (is_other x) (terms_of rs) ≡ option_map (λ r. r.term) o
seen c x rs us o e d h =
    find-map (is_other x) (λ (r : Row). r.term) rs ∙ ap (option_map (λ (r : Row). r.term))
    (ap (λ (y : ℕ). find (λ (r : Row). is_other y r.term) rs) (sym e) ∙ ap (λ (qs : List Row). find (λ (r : Row). is_other c r.term) qs)
    (sym d) ∙ sym h)

pub no-upper : (s : Stage) (us : List Row) → us ≡ s.uppers.items → None ≡ find (λ r. is_other s.column r.term) us → IsFirstIn None s
no-upper s us e n = λ x rows h.
    sym (ap (option_map (λ (p : LinearSum × LinearSum). (x, p)))
    (stage-pair x rows s h ∙ ap (λ (o : Option LinearSum). both_of o (find (is_other x) (terms_of s.lowers.items)))
    (seen s.column x s.uppers.items us None h.column e n)))

pub no-lower : (s : Stage) (ls : List Row) → ls ≡ s.lowers.items → None ≡ find (λ r. is_other s.column r.term) ls → IsFirstIn None s
no-lower s ls e n = λ x rows h. (
    let us = find (is_other x) (terms_of s.uppers.items) in
    sym (ap (option_map (λ (p : LinearSum × LinearSum). (x, p)))
    (stage-pair x rows s h ∙ ap (both_of us) (seen s.column x s.lowers.items ls None h.column e n) ∙ both-of_none us))
    )

pub first-of_both : (s : Stage) (u l : Row) (us ls : List Row) → us ≡ s.uppers.items → ls ≡ s.lowers.items →
    Some u ≡ find (λ r. is_other s.column r.term) us → Some l ≡ find (λ r. is_other s.column r.term) ls →
    IsFirstIn (Some (s.column, (u.term, l.term))) s
first-of_both s u l us ls e d n m = λ x rows h.
    ap (λ (y : ℕ). Some (y, (u.term, l.term))) h.column ∙ sym (ap (option_map (λ (p : LinearSum × LinearSum). (x, p)))
    (stage-pair x rows s h ∙ ap (λ (o : Option LinearSum). both_of o (find (is_other x) (terms_of s.lowers.items)))
    (seen s.column x s.uppers.items us (Some u) h.column e n) ∙ ap (both_of (Some u.term))
    (seen s.column x s.lowers.items ls (Some l) h.column d m)))

pub continues-from : (all : List Stage) → Continues all all
continues-from all = λ columns rows left h. record {
  columns = columns;
  rows = rows;
  passed = h;
  same = refl;
}

found-later : (found : Option (ℕ × (LinearSum × LinearSum))) (s : Stage) (ss : List Stage) (left : List LinearSum) → IsFirstIn None s →
    (columns : List ℕ) (rows : List LinearSum) → AreStages columns rows (s ∷ ss) left → found ≡ first_inexact columns rows →
    IsFrom found ss left
found-later found s ss left n [] rows h e = absurd h
found-later found s ss left n (x ∷ xs) rows h e = record {
  columns = xs;
  rows = h.1.0;
  passed = h.1.2;
  same = e ∙ ap (λ o. option_or o (inexact_after (first_inexact xs) (after_column x rows))) (sym (n x rows h.0))
      ∙ ap (inexact_after (first_inexact xs)) h.1.1;
}

-- the stage at an index is the first of those from there on
pub continues-at : (all : List Stage) (i : ℕ) (s : Stage) → i < length all → s ≡ get_or all i s → Continues all (drop i all) →
    Continues all (s ∷ drop (i + 1) all)
continues-at all i s lt e k =
    subst (λ (ss : List Stage). Continues all ss) (at_drop_more (λ (ss : List Stage). ss) all i s lt
    ∙ ap (λ (r : Stage). r ∷ drop (i + 1) all)
    (sym e)) k

pub continues-later : (all ss : List Stage) (s : Stage) → IsFirstIn None s → Continues all (s ∷ ss) → Continues all ss
continues-later all ss s n k = λ columns rows left h. (
    let f = k columns rows left h in
    found-later (first_inexact columns rows) s ss left n f.columns f.rows f.passed f.same
    )

found-here : (found : Option (ℕ × (LinearSum × LinearSum))) (q : ℕ × (LinearSum × LinearSum)) (s : Stage) (ss : List Stage)
    (left : List LinearSum) → IsFirstIn (Some q) s → (columns : List ℕ) (rows : List LinearSum) → AreStages columns rows (s ∷ ss) left →
    found ≡ first_inexact columns rows → Some q ≡ found
found-here found q s ss left n [] rows h e = absurd h
found-here found q s ss left n (x ∷ xs) rows h e =
    ap (λ o. option_or o (inexact_after (first_inexact xs) (after_column x rows))) (n x rows h.0) ∙ sym e

pub continues-here : (all ss : List Stage) (s : Stage) (q : ℕ × (LinearSum × LinearSum)) → IsFirstIn (Some q) s → Continues all (s ∷ ss) →
    (columns : List ℕ) (rows left : List LinearSum) → AreStages columns rows all left → Some q ≡ first_inexact columns rows
continues-here all ss s q n k columns rows left h =
    let f = k columns rows left h in
    found-here (first_inexact columns rows) q s ss left n f.columns f.rows f.passed f.same

found-never : (found : Option (ℕ × (LinearSum × LinearSum))) (left : List LinearSum) (columns : List ℕ) (rows : List LinearSum) →
    AreStages columns rows [] left → found ≡ first_inexact columns rows → None ≡ found
found-never found left [] rows h e = sym e
found-never found left (x ∷ xs) rows h e = absurd h

pub continues-never : (all : List Stage) (i : ℕ) → length all ≤ i → Continues all (drop i all) →
    (columns : List ℕ) (rows left : List LinearSum) → AreStages columns rows all left → None ≡ first_inexact columns rows
continues-never all i le d columns rows left h =
    let k = subst (λ (ss : List Stage). Continues all ss) (at_drop_all (λ (ss : List Stage). ss) all i le) d in
    let f = k columns rows left h in
    found-never (first_inexact columns rows) left f.columns f.rows f.passed f.same
