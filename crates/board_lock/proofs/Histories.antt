-- Histories that begin with others, places in lists and in views, and lists of views of which one is set.
use Rattle.std.proofs.Common.{◌≡◌, ℕ, zero, suc, ◌+◌, ◌-◌, ◌<◌, ◌≤◌, List, [], ◌∷◌, ◌++◌, length, refl, sym, ap, ◌∙◌, subst, ⊎_elim, arith, append_assoc, length-append}
use Rattle.std.specs.Prelude.{slice_set}
use Rattle.std.proofs.lemmas.Bool.{ne_eqb, cases_eq, eq-eqb}
use mathlib.Core.Option.{some}
use lib.ListN.{get_elem?}
use Rattle.atomic_table.proofs.Lists.{set_here, set_else}
use Rattle.board_lock.specs.declared.view.View.{View}
use Rattle.board_lock.specs.Views.{StartsWith, StartsWithAll, times, times_in_all, places_from, added}
use Rattle.board_lock.specs.Rule.{AreApart}

-- Histories

pub starts_then : {E : Type 0} (a b c : List E) → StartsWith a b → StartsWith b c → StartsWith a c
starts_then a b c h k = record { rest = k.rest ++ h.rest; is = h.is ∙ (ap (λ xs. xs ++ h.rest) k.is ∙ append_assoc c k.rest h.rest) }

append_nil : {E : Type 0} (xs : List E) → xs ++ [] ≡ xs
append_nil [] = refl
append_nil (x ∷ xs) = ap (λ ys. x ∷ ys) (append_nil xs)

pub starts_same : {E : Type 0} (a : List E) → StartsWith a a
starts_same a = record { rest = []; is = sym (append_nil a) }

pub starts_all_then : {E : Type 0} (a b : List E) (hs : List (List E)) → StartsWith a b → StartsWithAll b hs → StartsWithAll a hs
starts_all_then a b [] h k = tt
starts_all_then a b (x ∷ hs) h k = (starts_then a b x h k.0, starts_all_then a b hs h k.1)

pub starts_all_append : {E : Type 0} (a : List E) (hs ks : List (List E)) → StartsWithAll a hs → StartsWithAll a ks →
    StartsWithAll a (hs ++ ks)
starts_all_append a [] ks h k = k
starts_all_append a (x ∷ hs) ks h k = (h.0, starts_all_append a hs ks h.1 k)

pub starts_shorter : {E : Type 0} (a b : List E) → StartsWith a b → length b ≤ length a
starts_shorter a b h = omega (arith, ap length h.is, length-append b h.rest)

-- Places

pub times_append : (p : ℕ) (xs ys : List ℕ) → times p (xs ++ ys) ≡ times p xs + times p ys
times_append p [] ys = omega arith
times_append p (x ∷ xs) ys = omega (arith, times_append p xs ys)

pub times_before : (p a n : ℕ) → p < a → times p (places_from a n) ≡ 0
times_before p a zero lt = refl
times_before p a (suc n) lt = rw (ne_eqb p a (λ e. omega (arith, e))) (omega (arith, times_before p (suc a) n (omega arith)))

times_behind : (p a n : ℕ) → a + n ≤ p → times p (places_from a n) ≡ 0
times_behind p a zero le = refl
times_behind p a (suc n) le = rw (ne_eqb p a (λ e. omega (arith, e))) (omega (arith, times_behind p (suc a) n (omega arith)))

pub times_once : (p a n : ℕ) → times p (places_from a n) ≤ 1
times_once p a zero = omega arith
times_once p a (suc n) = ⊎_elim
    (λ e. rw (eq-eqb p a e) (omega (arith, times_before p (suc a) n (omega (arith, e)))))
    (λ ne. rw (ne_eqb p a ne) (omega (arith, times_once p (suc a) n)))
    (cases_eq p a)

-- places below a history and those added up to a longer one are below the longer one
pub below_added : {E : Type 0} (seen h : List E) (ps : List ℕ) → length seen ≤ length h → ((p : ℕ) → length seen ≤ p → times p ps ≡ 0)
    → (p : ℕ) → length h ≤ p → times p (ps ++ added seen h) ≡ 0
below_added seen h ps le below p past = omega (
  arith,
  times_append p ps (added seen h),
  below p (omega arith),
  times_behind p (length seen)
      (length h - length seen) (omega arith),
)

pub times_set : {P E : Type 0} (p i : ℕ) (vs : List (View P E)) (v w : View P E) → get_elem? vs i ≡ some v
    → times_in_all p (slice_set vs i w) + times p v.places ≡ times_in_all p vs + times p w.places
times_set p i [] v w at = absurd (cc)
times_set {P} {E} p zero (x ∷ vs) v w at = let e : x ≡ v = cc in omega (arith, ap (λ (u : View P E). times p u.places) e)
times_set p (suc i) (x ∷ vs) v w at = omega (arith, times_set p i vs v w at)

pub times_push : {P E : Type 0} (p : ℕ) (vs : List (View P E)) (w : View P E) → times_in_all p (vs ++ w ∷ []) ≡ times_in_all p vs
    + times p w.places
times_push p [] w = omega arith
times_push p (x ∷ vs) w = omega (arith, times_push p vs w)

pub times_none : {P E : Type 0} (p : ℕ) (vs : List (View P E)) → ((i : ℕ) (v : View P E) → get_elem? vs i ≡ some v → times p v.places ≡ 0)
    → times_in_all p vs ≡ 0
times_none p [] none = refl
times_none p (x ∷ vs) none = omega (arith, none 0 x refl, times_none p vs (λ i v at. none (suc i) v at))

pub apart_same : {P E : Type 0} (vs : List (View P E)) (i : ℕ) (v w : View P E) → get_elem? vs i ≡ some v → w.places ≡ v.places →
    AreApart vs
    → AreApart (slice_set vs i w)
apart_same vs i v w at e h = record { once = λ p. omega (arith, times_set p i vs v w at, ap (times p) e, h.once p) }

-- Lists of views

pub is_inside : {A : Type 0} (xs : List A) (i : ℕ) (a : A) → get_elem? xs i ≡ some a → i < length xs
is_inside [] i a at = absurd (cc)
is_inside (x ∷ xs) zero a at = omega arith
is_inside (x ∷ xs) (suc i) a at = omega (arith, is_inside xs i a at)

pub one_at : {A : Type 0} (xs : List A) (i : ℕ) (a b : A) → get_elem? xs i ≡ some a → get_elem? xs i ≡ some b → a ≡ b
one_at xs i a b h k = cc

-- where one is set, the others stay
pub other_at : {A : Type 0} (xs : List A) (i j : ℕ) (b a : A) → (j ≡ i → ⊥) → get_elem? (slice_set xs i b) j ≡ some a → get_elem? xs j
    ≡ some a
other_at xs i j b a ne at = sym (set_else xs i j b ne) ∙ at

-- what holds of the one that is set, and of what stood there, holds of what stands there then
pub set_cases : {A : Type 0} (xs : List A) (i j : ℕ) (b a : A) (F : A → Type 0) → i < length xs → F b → (get_elem? xs j ≡ some a → F a)
    → get_elem? (slice_set xs i b) j ≡ some a → F a
set_cases xs i j b a F lt here there at = ⊎_elim
    (λ e. subst F (one_at (slice_set xs i b) i b a (set_here xs i b lt) (subst (λ k. get_elem? (slice_set xs i b) k ≡ some a) e at)) here)
    (λ ne. there (other_at xs i j b a ne at))
    (cases_eq j i)
