-- An assertion stands at one place of one procedure, so it corresponds to one assertion.
use Rattle.std.proofs.Common.{◌≡◌, ◌<◌, ◌≤◌, ℕ, zero, suc, ◌+◌, ◌==◌, ◌&&◌, nat_lt, nat_le, List, [], ◌∷◌, ◌++◌, length, Bool, true, false, cond, Some, refl, sym, ◌∙◌, subst, ap, IsTrue, arith}
use Rattle.std.specs.Prelude.{slice_get, count_by, if◌then◌else◌}
use Rattle.std.specs.List.{list_all}
use Rattle.std.proofs.lemmas.Option.{same_Some, none-some}
use Rattle.std.proofs.lemmas.List.Folds.{list_all-append}
use Rattle.std.proofs.lemmas.List.Sums.{sum_by-cons}
use borrow.Author.Tests.{eqb-true, ltb-true, eq-eqb}
use Rattle.linear_formula.proofs.Limits.{both, both_in}
use Rattle.c_tree.specs.declared.tree.AssertPlace.{AssertPlace}
use Rattle.c_tree.specs.Syntax.{Statement, block, set, set_global, ignore, assume, assert, if_else, loop, do_while, break, continue, return, Statements, no_statements, statement, PureProcedure, PureProgram}
use Rattle.c_tree.specs.WellFormed.{IsWellFormed, is_well_scoped, runs_well_scoped, all_well_scoped, asserted_by, asserted_in, statements_nodes}
use Rattle.summary_keep.proofs.Names.{once}
use Rattle.summary_keep.specs.Matching.{Related, IsMatching, CorrespondIn}

-- In a body
module _ (P : PureProgram) (slots : ℕ) where
  abbrev exists : ℕ → Bool
  exists id = nat_lt id (length P.asserts)

  append : (xs ys : List ℕ) → IsTrue (list_all exists xs) → IsTrue (list_all exists ys) → IsTrue (list_all exists (xs ++ ys))
  append xs ys h k = rw (list_all-append exists xs ys) (both_in (list_all exists xs) (list_all exists ys) h k)

  mutual
    exist_by : (l : Bool) (a : Statement) → IsTrue (runs_well_scoped P slots l a) → IsTrue (list_all exists (asserted_by a))
    exist_by l (block ss) h = exist_in l ss h
    exist_by l (set x e) h = refl
    exist_by l (set_global x e) h = refl
    exist_by l (ignore e) h = refl
    exist_by l (assume e) h = refl
    exist_by l (assert id e) h = both_in (exists id) true (both (exists id) (is_well_scoped P slots e) h).0 refl
    exist_by l (if_else e a b) h =
        let x = both (is_well_scoped P slots e && runs_well_scoped P slots l a) (runs_well_scoped P slots l b) h in
        let y = both (is_well_scoped P slots e) (runs_well_scoped P slots l a) x.0 in
        append (asserted_by a) (asserted_by b) (exist_by l a y.1) (exist_by l b x.1)
    exist_by l (loop e s b) h =
        let x = both (is_well_scoped P slots e && runs_well_scoped P slots true s) (runs_well_scoped P slots true b) h in
        let y = both (is_well_scoped P slots e) (runs_well_scoped P slots true s) x.0 in
        append (asserted_by s) (asserted_by b) (exist_by true s y.1) (exist_by true b x.1)
    exist_by l (do_while s e) h = exist_by true s (both (runs_well_scoped P slots true s) (is_well_scoped P slots e) h).0
    exist_by l break h = refl
    exist_by l continue h = refl
    exist_by l (return o) h = refl

    pub exist_in : (l : Bool) (ss : Statements) → IsTrue (all_well_scoped P slots l ss) → IsTrue (list_all exists (asserted_in ss))
    exist_in l no_statements h = refl
    exist_in l (statement s ss) h =
        let x = both (runs_well_scoped P slots l s) (all_well_scoped P slots l ss) h in
        append (asserted_by s) (asserted_in ss) (exist_by l s x.0) (exist_in l ss x.1)

all_at : (p : ℕ → Bool) (xs : List ℕ) → IsTrue (list_all p xs) → (k x : ℕ) → slice_get xs k ≡ Some x → IsTrue (p x)
all_at p [] h k x e = absurd (none-some x e)
all_at p (y ∷ ys) h zero x e = subst (λ z. IsTrue (p z)) (same_Some y x e) (both (p y) (list_all p ys) h).0
all_at p (y ∷ ys) h (suc k) x e = all_at p ys (both (p y) (list_all p ys) h).1 k x e

-- Counting
abbrev is_it : ℕ → ℕ → Bool
is_it b x = x == b

count_cons : (b x : ℕ) (xs : List ℕ) → count_by (is_it b) (x ∷ xs) ≡ cond (is_it b x) 1 0 + count_by (is_it b) xs
count_cons b x xs = sum_by-cons (λ y. cond (is_it b y) 1 0) x xs

count_here : (b x : ℕ) (xs : List ℕ) → x ≡ b → count_by (is_it b) (x ∷ xs) ≡ 1 + count_by (is_it b) xs
count_here b x xs h = count_cons b x xs ∙ ap (λ t. cond t 1 0 + count_by (is_it b) xs) (eq-eqb x b h)

some_counted : (b : ℕ) (xs : List ℕ) (k : ℕ) → slice_get xs k ≡ Some b → 1 ≤ count_by (is_it b) xs
some_counted b [] k e = absurd (none-some b e)
some_counted b (x ∷ xs) zero e = let n = count_here b x xs (same_Some x b e) in omega (arith, n)
some_counted b (x ∷ xs) (suc k) e = let r = some_counted b xs k e in let n = count_cons b x xs in omega (arith, r, n)

apart : (b x : ℕ) (xs : List ℕ) (l : ℕ) → x ≡ b → slice_get xs l ≡ Some b → count_by (is_it b) (x ∷ xs) ≡ 1 → ⊥
apart b x xs l e f n =
    let here = count_here b x xs e in
    let more = some_counted b xs l f in
    omega (arith, here, more, n)

pub one_place : (b : ℕ) (xs : List ℕ) (k l : ℕ) → slice_get xs k ≡ Some b → slice_get xs l ≡ Some b → count_by (is_it b) xs ≡ 1 → k ≡ l
one_place b [] k l e f n = absurd (none-some b e)
one_place b (x ∷ xs) zero zero e f n = refl
one_place b (x ∷ xs) zero (suc l) e f n = absurd (apart b x xs l (same_Some x b e) f n)
one_place b (x ∷ xs) (suc k) zero e f n = absurd (apart b x xs k (same_Some x b f) e n)
one_place b (x ∷ xs) (suc k) (suc l) e f n =
    let more = some_counted b xs k e in
    let sum = count_cons b x xs in
    let same : count_by (is_it b) xs ≡ 1 = omega (arith, more, sum, n) in
    ap suc (one_place b xs k l e f same)

-- In a program
module _ (P : PureProgram) (f : IsWellFormed P) where
  body_scoped : (i : ℕ) (p : PureProcedure) → slice_get P.procedures i ≡ Some p → IsTrue (all_well_scoped P p.slots false p.body)
  body_scoped i p at =
      let a = both (nat_le p.params 8 && nat_le p.params p.slots && nat_le p.slots 24 && all_well_scoped P p.slots false p.body)
      (nat_le (statements_nodes p.body) 8000) (f.procedures_well_formed i p at) in
      (both (nat_le p.params 8 && nat_le p.params p.slots && nat_le p.slots 24) (all_well_scoped P p.slots false p.body) a.0).1

  pub place_of : (i : ℕ) (p : PureProcedure) (k b : ℕ) → slice_get P.procedures i ≡ Some p → slice_get (asserted_in p.body) k ≡ Some b →
      (a : AssertPlace) × (slice_get P.asserts b ≡ Some a)
  place_of i p k b at stands =
      let e = all_at (exists P p.slots) (asserted_in p.body) (exist_in P p.slots false p.body (body_scoped i p at)) k b stands in
      there P.asserts b (ltb-true b (length P.asserts) e) where
        there : (xs : List AssertPlace) (n : ℕ) → n < length xs → (a : AssertPlace) × (slice_get xs n ≡ Some a)
        there [] n h = absurd (omega (arith, h))
        there (x ∷ xs) zero h = (x, refl)
        there (x ∷ xs) (suc n) h = there xs n (omega (arith, h))

  pub counted : (i : ℕ) (p : PureProcedure) (k b : ℕ) → slice_get P.procedures i ≡ Some p → slice_get (asserted_in p.body) k ≡ Some b →
      (a : AssertPlace) × (slice_get P.asserts b ≡ Some a) × (i ≡ a.proc) × (count_by (is_it b) (asserted_in p.body) ≡ 1)
  counted i p k b at stands = let a = place_of i p k b at stands in
      let t = by_test a.0 (i == a.0.proc) refl (f.asserted_once b i a.0 p a.1 at) in (a.0, a.1, t.0, t.1) where
        by_test : (a : AssertPlace) (t : Bool) → (i == a.proc) ≡ t → count_by (is_it b) (asserted_in p.body) ≡ (if t then 1 else 0) →
            (i ≡ a.proc) × (count_by (is_it b) (asserted_in p.body) ≡ 1)
        by_test a true e n = (eqb-true i a.proc e, n)
        by_test a false e n = absurd (let more = some_counted b (asserted_in p.body) k stands in omega (arith, more, n))

-- Related assertions
module _ (P Q : PureProgram) (fp : IsWellFormed P) (fq : IsWellFormed Q) (R : Related) (m : IsMatching P Q R) where
  pub single : (a a' b : ℕ) → CorrespondIn P Q R a b → CorrespondIn P Q R a' b → a ≡ a'
  single a a' b c d =
      let x = counted Q fq c.j c.new c.place b c.new_at c.new_stands in
      let y = counted Q fq d.j d.new d.place b d.new_at d.new_stands in
      let place : x.0 ≡ y.0 = same_Some x.0 y.0 (sym x.1 ∙ y.1) in
      let j : c.j ≡ d.j = x.2 ∙ (ap (λ (z : AssertPlace). z.proc) place ∙ sym y.2) in
      let new : c.new ≡ d.new = same_Some c.new d.new (sym c.new_at ∙ (ap (slice_get Q.procedures) j ∙ d.new_at)) in
      let k : c.place ≡ d.place = one_place b (asserted_in c.new.body) c.place d.place c.new_stands
      (ap (λ (z : PureProcedure). slice_get (asserted_in z.body) d.place) new ∙ d.new_stands) x.3 in
      let r = m.all c.i c.j c.related in
      let s = m.all d.i d.j d.related in
      let i : c.i ≡ d.i = once P fp c.i d.i r.old s.old r.old_at s.old_at
      (r.same.name ∙ (ap (λ (z : PureProcedure). z.name) (same_Some r.new c.new (sym r.new_at ∙ c.new_at) ∙ (new
      ∙ same_Some d.new s.new (sym d.new_at ∙ s.new_at))) ∙ sym s.same.name)) in
      let old : c.old ≡ d.old = same_Some c.old d.old (sym c.old_at ∙ (ap (slice_get P.procedures) i ∙ d.old_at)) in
      same_Some a a' (sym c.old_stands ∙ (ap (λ (z : PureProcedure). slice_get (asserted_in z.body) c.place) old
      ∙ (ap (slice_get (asserted_in d.old.body)) k ∙ d.old_stands)))
