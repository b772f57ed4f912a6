-- What pairing two lists of assertions does.
use Rattle.std.proofs.Common.{◌≡◌, ◌↔◌, ◌⊎◌, inl, inr, ℕ, zero, suc, ◌+◌, ◌<◌, ◌≤◌, ◌==◌, List, [], ◌∷◌, length, replicate, Bool, true, false, Option, None, Some, refl, sym, ap, ◌∙◌, subst, arith, IsTrue}
use Rattle.std.specs.Prelude.{slice_get, slice_set}
use Rattle.std.proofs.lemmas.Option.{same_Some, none-some, slice_get_within}
use Rattle.std.proofs.Math.ListN.{length-set}
use Rattle.std.specs.Prelude.{OnOk}
use Rattle.std.proofs.Common.{Result, Ok, Err}
use borrow.Author.Tests.{eqb-true, eqb-false}
use Rattle.c_tree.specs.declared.tree.AssertPlace.{AssertPlace}
use Rattle.c_tree.specs.Syntax.{PureProcedure, PureProgram}
use Rattle.c_tree.specs.WellFormed.{IsWellFormed, asserted_in}
use Rattle.summary_keep.specs.Keeping.{number_in, related_by, IsMatchingOf}
use Rattle.summary_keep.specs.Matching.{Related, IsMatching, IsGreatest, CorrespondIn}
use Rattle.summary_keep.specs.steps.Pairing.{paired, CorrespondBelow, ArePairedBelow}
use Rattle.summary_keep.specs.Matching.{Any}
use Rattle.summary_keep.proofs.Matched.{set_other}
use Rattle.summary_keep.proofs.Turning.{as_many_in}
use Rattle.summary_keep.proofs.Single.{counted, one_place}

set_here : (numbers : List (Option ℕ)) (a y : ℕ) → a < length numbers → number_in (slice_set numbers a (Some y)) a ≡ Some y
set_here [] a y h = absurd (omega (arith, h))
set_here (x ∷ xs) zero y h = refl
set_here (x ∷ xs) (suc a) y h = set_here xs a y (omega (arith, h))

pub paired_length : (xs ys : List ℕ) (numbers : List (Option ℕ)) → length (paired xs ys numbers) ≡ length numbers
paired_length [] ys numbers = refl
paired_length (x ∷ xs) [] numbers = refl
paired_length (x ∷ xs) (y ∷ ys) numbers = paired_length xs ys (slice_set numbers x (Some y)) ∙ length-set numbers x (Some y)

-- a number that isn't among the first keeps what it had
pub paired_other : (xs ys : List ℕ) (numbers : List (Option ℕ)) (a : ℕ) → ((k : ℕ) → slice_get xs k ≡ Some a → ⊥) →
    number_in (paired xs ys numbers) a ≡ number_in numbers a
paired_other [] ys numbers a h = refl
paired_other (x ∷ xs) [] numbers a h = refl
paired_other (x ∷ xs) (y ∷ ys) numbers a h =
    paired_other xs ys (slice_set numbers x (Some y)) a (λ k e. h (suc k) e)
    ∙ set_other numbers x a (Some y) (λ e. h 0 (ap Some (sym e)))

-- one that stands once gets the one at its place
pub paired_at : (xs ys : List ℕ) (numbers : List (Option ℕ)) (k a b : ℕ) → a < length numbers → slice_get xs k ≡ Some a →
    slice_get ys k ≡ Some b → ((l : ℕ) → slice_get xs l ≡ Some a → k ≡ l) → number_in (paired xs ys numbers) a ≡ Some b
paired_at [] ys numbers k a b few e f once = absurd (none-some a e)
paired_at (x ∷ xs) [] numbers k a b few e f once = absurd (none-some b f)
paired_at (x ∷ xs) (y ∷ ys) numbers zero a b few e f once =
    let same : x ≡ a = same_Some x a e in
    let rest = paired_other xs ys (slice_set numbers x (Some y)) a (λ l g. let clash : zero ≡ suc l = once (suc l) g in
    omega (arith, clash))
    in
    rest ∙ (ap (λ n. number_in (slice_set numbers n (Some y)) a) same ∙ (set_here numbers a y few ∙ f))
paired_at (x ∷ xs) (y ∷ ys) numbers (suc k) a b few e f once =
    paired_at xs ys (slice_set numbers x (Some y)) k a b
    (let l = length-set numbers x (Some y) in omega (arith, l, few)) e f
    (λ l g. let n : suc k ≡ suc l = once (suc l) g in omega (arith, n))

-- One procedure more

found : (xs : List ℕ) (a : ℕ) → ((k : ℕ) × (slice_get xs k ≡ Some a)) ⊎ ((k : ℕ) → slice_get xs k ≡ Some a → ⊥)
found [] a = inr (λ k e. none-some a e)
found (x ∷ xs) a = by_test (x == a) refl (found xs a) where
  by_test : (t : Bool) → (x == a) ≡ t → ((k : ℕ) × (slice_get xs k ≡ Some a)) ⊎ ((k : ℕ) → slice_get xs k ≡ Some a → ⊥) →
      ((k : ℕ) × (slice_get (x ∷ xs) k ≡ Some a)) ⊎ ((k : ℕ) → slice_get (x ∷ xs) k ≡ Some a → ⊥)
  by_test true e r = inl (0, ap Some (eqb-true x a e))
  by_test false e (inl k) = inl (suc k.0, k.1)
  by_test false e (inr h) = inr apart where
    apart : (k : ℕ) → slice_get (x ∷ xs) k ≡ Some a → ⊥
    apart zero f = eqb-false x a e (same_Some x a f)
    apart (suc k) f = h k f

there : {X : Type 0} (xs : List X) (k : ℕ) → k < length xs → (x : X) × (slice_get xs k ≡ Some x)
there [] k h = absurd (omega (arith, h))
there (x ∷ xs) zero h = (x, refl)
there (x ∷ xs) (suc k) h = there xs k (omega (arith, h))

module _ (P Q : PureProgram) (fp : IsWellFormed P) (R : Related) where
  wider : (i a b : ℕ) → CorrespondBelow P Q R i a b → CorrespondBelow P Q R (i + 1) a b
  wider i a b c = record { correspond = c.correspond; below = let l = c.below in omega (arith, l) }

  narrower : (i a b : ℕ) (c : CorrespondBelow P Q R (i + 1) a b) → (c.correspond.i ≡ i → ⊥) → CorrespondBelow P Q R i a b
  narrower i a b c h = record { correspond = c.correspond; below = less c.correspond.i i c.below h } where
    less : (n i : ℕ) → n < i + 1 → (n ≡ i → ⊥) → n < i
    less zero zero l h = absurd (h refl)
    less zero (suc i) l h = omega arith
    less (suc n) zero l h = absurd (omega (arith, l))
    less (suc n) (suc i) l h = let r = less n i (omega (arith, l)) (λ e. h (ap suc e)) in omega (arith, r)

  -- a procedure without a number
  pub passed : (i : ℕ) (numbers : List (Option ℕ)) → ((j : ℕ) → IsTrue (R i j) → ⊥) → ArePairedBelow P Q R i numbers →
      ArePairedBelow P Q R (i + 1) numbers
  passed i numbers other h = record {
    each = h.each;
    corresponding = λ a b. (
      λ e. wider i a b ((h.corresponding a b).0 e),
      λ c. (h.corresponding a b).1
          (narrower i a b c (λ e. other c.correspond.j (subst (λ n. IsTrue (R n c.correspond.j)) e c.correspond.related))),
    );
  }

  -- a stands at one place
  stands_once : (i k l a : ℕ) (p : PureProcedure) → slice_get P.procedures i ≡ Some p → slice_get (asserted_in p.body) k ≡ Some a →
      slice_get (asserted_in p.body) l ≡ Some a → k ≡ l
  stands_once i k l a p at e f = let c = counted P fp i p k a at e in one_place a (asserted_in p.body) k l e f c.3

  module _ (i j : ℕ) (p q : PureProcedure) (at : slice_get P.procedures i ≡ Some p) (at' : slice_get Q.procedures j ≡ Some q)
      (related : IsTrue (R i j)) (one : (x : ℕ) → IsTrue (R i x) → x ≡ j)
      (many : length (asserted_in p.body) ≡ length (asserted_in q.body)) (numbers : List (Option ℕ))
      (h : ArePairedBelow P Q R i numbers) where
    abbrev new : List (Option ℕ)
    new = paired (asserted_in p.body) (asserted_in q.body) numbers

    -- it stands in this procedure
    here : (a b k : ℕ) → slice_get (asserted_in p.body) k ≡ Some a → (number_in new a ≡ Some b) ↔ CorrespondBelow P Q R (i + 1) a b
    here a b k e =
        let y = there (asserted_in q.body) k (let w = slice_get_within (asserted_in p.body) k a e in omega (arith, w, many)) in
        let c = counted P fp i p k a at e in
        let few : a < length numbers = subst (λ n. a < n) (sym h.each) (slice_get_within P.asserts a c.0 c.1) in
        let is : number_in new a ≡ Some y.0 = paired_at (asserted_in p.body) (asserted_in q.body) numbers k a y.0 few e y.1
        (λ l f. stands_once i k l a p at e f) in (
          λ n. record {
            correspond = record {
              i = i;
              j = j;
              place = k;
              old = p;
              new = q;
              related = related;
              old_at = at;
              new_at = at';
              old_stands = e;
              new_stands = y.1 ∙ (sym is ∙ n);
            };
            below = omega arith;
          },
          λ d. is ∙ ap Some (same y.0 y.1 c.0 c.2 d.correspond),
        ) where
          same : (y : ℕ) → slice_get (asserted_in q.body) k ≡ Some y → (place : AssertPlace) → i ≡ place.proc → CorrespondIn P Q R a b →
              y ≡ b
          same y f place own d =
              let c = counted P fp d.i d.old d.place a d.old_at d.old_stands in
              let mine = counted P fp i p k a at e in
              let places : mine.0 ≡ c.0 = same_Some mine.0 c.0 (sym mine.1 ∙ c.1) in
              let procs : d.i ≡ i = c.2 ∙ (ap (λ (z : AssertPlace). z.proc) (sym places) ∙ sym mine.2) in
              let olds : d.old ≡ p = same_Some d.old p (sym d.old_at ∙ (ap (slice_get P.procedures) procs ∙ at)) in
              let j' : d.j ≡ j = one d.j (subst (λ n. IsTrue (R n d.j)) procs d.related) in
              let news : d.new ≡ q = same_Some d.new q (sym d.new_at ∙ (ap (slice_get Q.procedures) j' ∙ at')) in
              let k' : d.place ≡ k = stands_once i d.place k a p at
              (subst (λ (z : PureProcedure). slice_get (asserted_in z.body) d.place ≡ Some a) olds d.old_stands) e in
              same_Some y b (sym f ∙ (ap (slice_get (asserted_in q.body)) (sym k')
              ∙ subst (λ (z : PureProcedure). slice_get (asserted_in z.body) d.place ≡ Some b) news d.new_stands))

    elsewhere : (a b : ℕ) → ((k : ℕ) → slice_get (asserted_in p.body) k ≡ Some a → ⊥) →
        (number_in new a ≡ Some b) ↔ CorrespondBelow P Q R (i + 1) a b
    elsewhere a b none =
        let is = paired_other (asserted_in p.body) (asserted_in q.body) numbers a none in (
          λ e. wider i a b ((h.corresponding a b).0 (sym is ∙ e)),
          λ c. is ∙ (h.corresponding a b).1 (narrower i a b c (λ e. none c.correspond.place (mine c.correspond e))),
        ) where
          mine : (c : CorrespondIn P Q R a b) → c.i ≡ i → slice_get (asserted_in p.body) c.place ≡ Some a
          mine c e =
              let olds : c.old ≡ p = same_Some c.old p (sym c.old_at ∙ (ap (slice_get P.procedures) e ∙ at)) in
              subst (λ (z : PureProcedure). slice_get (asserted_in z.body) c.place ≡ Some a) olds c.old_stands

    pub paired_up : ArePairedBelow P Q R (i + 1) new
    paired_up = record {
      each = paired_length (asserted_in p.body) (asserted_in q.body) numbers ∙ h.each;
      corresponding = λ a b. by_place a b (found (asserted_in p.body) a);
    } where
      by_place : (a b : ℕ) → ((k : ℕ) × (slice_get (asserted_in p.body) k ≡ Some a)) ⊎ ((k : ℕ) → slice_get (asserted_in p.body) k
          ≡ Some a →
          ⊥) →
          (number_in new a ≡ Some b) ↔ CorrespondBelow P Q R (i + 1) a b
      by_place a b (inl k) = here a b k.0 k.1
      by_place a b (inr none) = elsewhere a b none

  -- the beginning and the end
  pub none_yet : (numbers : List (Option ℕ)) → length numbers ≡ length P.asserts → ((a : ℕ) → number_in numbers a ≡ None) →
      ArePairedBelow P Q R 0 numbers
  none_yet numbers each none = record {
    each = each;
    corresponding = λ a b. (λ e. absurd (none-some b (sym (none a) ∙ e)), λ c. absurd (let l = c.below in omega (arith, l)));
  }

  pub all_numbered : (n : ℕ) (numbers : List (Option ℕ)) → length P.procedures ≤ n → ArePairedBelow P Q R n numbers → (a b : ℕ) →
      (number_in numbers a ≡ Some b) ↔ CorrespondIn P Q R a b
  all_numbered n numbers all h a b = (
    λ e. ((h.corresponding a b).0 e).correspond,
    λ c. (h.corresponding a b).1 (record {
      correspond = c;
      below = let w = slice_get_within P.procedures c.i c.old c.old_at in omega (arith, w, all);
    }),
  )

-- each that stands in the body of a procedure has a number
pub within_numbers : (P Q : PureProgram) (fp : IsWellFormed P) (R : Related) (bound : ℕ) (numbers : List (Option ℕ)) →
    ArePairedBelow P Q R bound numbers →
    (i : ℕ) (p : PureProcedure) → slice_get P.procedures i ≡ Some p → (k a : ℕ) → slice_get (asserted_in p.body) k ≡ Some a →
    a < length numbers
within_numbers P Q fp R bound numbers h i p at k a e =
    let c = counted P fp i p k a at e in
    subst (λ n. a < n) (sym h.each) (slice_get_within P.asserts a c.0 c.1)

-- bodies that are the same have as many
pub same_count : (P Q : PureProgram) (R : Related) (m : IsMatching P Q R) (i j : ℕ) → IsTrue (R i j) → (p q : PureProcedure) →
    slice_get P.procedures i ≡ Some p → slice_get Q.procedures j ≡ Some q → length (asserted_in p.body) ≡ length (asserted_in q.body)
same_count P Q R m i j h p q at at' =
    let r = m.all i j h in
    let o : r.old ≡ p = same_Some r.old p (sym r.old_at ∙ at) in
    let w : r.new ≡ q = same_Some r.new q (sym r.new_at ∙ at') in
    ap (λ (z : PureProcedure). length (asserted_in z.body)) (sym o)
    ∙ (as_many_in R Any r.old.body r.new.body r.same.body ∙ ap (λ (z : PureProcedure). length (asserted_in z.body)) w)

pub none_in : (n a : ℕ) → number_in (replicate n None) a ≡ None
none_in zero a = refl
none_in (suc n) zero = refl
none_in (suc n) (suc a) = none_in n a

pub is_matching_of : (P Q : PureProgram) (fp : IsWellFormed P) (procs asserts : List (Option ℕ)) → length procs ≡ length P.procedures →
    IsGreatest P Q (related_by procs) → ArePairedBelow P Q (related_by procs) (length procs) asserts → IsMatchingOf P Q procs asserts
is_matching_of P Q fp procs asserts each g h = record {
  procs_each = each;
  greatest = g;
  asserts_each = h.each;
  corresponding = all_numbered P Q fp (related_by procs) (length procs) asserts (let e = each in omega (arith, e)) h;
}

pub ok_map : {T E A B : Type 0} (r : Result T E) → (A → B) → OnOk r A → OnOk r B
ok_map (Ok v) f h = f h
ok_map (Err e) f h = tt
