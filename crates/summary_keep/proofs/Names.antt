-- Procedures of one name.
use Rattle.std.proofs.Common.{◌≡◌, ◌↔◌, ◌⊎◌, inl, inr, ℕ, zero, suc, ◌+◌, ◌<◌, ◌≤◌, ◌==◌, List, [], ◌∷◌, ◌++◌, length, Bool, true, false, Option, None, Some, refl, sym, ap, ◌∙◌, subst, arith, string_bytes}
use Rattle.std.specs.Prelude.{slice_get}
use Rattle.std.specs.String.{string_eq}
use Rattle.std.specs.declared.string.String.{String}
use Rattle.std.specs.Global.{Global}
use Rattle.std.proofs.Math.Bool.{beq}
use Rattle.std.proofs.lemmas.Option.{same_Some, none-some, slice_get_within}
use Rattle.std.proofs.lemmas.Slice.Eq.{bytes_eq-Decides}
use borrow.Author.Tests.{eqb-true, eq-eqb}
use Rattle.c_tree.specs.Syntax.{PureProcedure, PureProgram}
use Rattle.c_tree.specs.WellFormed.{IsWellFormed}
use Rattle.summary_keep.specs.Keeping.{number_in}
use Rattle.summary_keep.specs.steps.Refinement.{AreAllCounterparts, AreNamesakes, AreCounterparts}

pub same_bytes : (a b : String Global) → string_eq a b ≡ true → string_bytes a ≡ string_bytes b
same_bytes a b e = (bytes_eq-Decides (string_bytes a) (string_bytes b)).0 e

pub other_bytes : (a b : String Global) → string_eq a b ≡ false → string_bytes a ≡ string_bytes b → ⊥
other_bytes a b e same = let so : string_eq a b ≡ true = (bytes_eq-Decides (string_bytes a) (string_bytes b)).1 same in
    let clash : true ≡ false = sym so ∙ e in cc

compared : (m n : ℕ) → (m < n) ⊎ ((m ≡ n) ⊎ (n < m))
compared zero zero = inr (inl refl)
compared zero (suc n) = inl (omega arith)
compared (suc m) zero = inr (inr (omega arith))
compared (suc m) (suc n) = up (compared m n) where
  up : (m < n) ⊎ ((m ≡ n) ⊎ (n < m)) → (suc m < suc n) ⊎ ((suc m ≡ suc n) ⊎ (suc n < suc m))
  up (inl h) = inl (omega (arith, h))
  up (inr (inl h)) = inr (inl (ap suc h))
  up (inr (inr h)) = inr (inr (omega (arith, h)))

-- a name stands once
pub once : (Q : PureProgram) → IsWellFormed Q → (i j : ℕ) (p q : PureProcedure) → slice_get Q.procedures i ≡ Some p →
    slice_get Q.procedures j ≡ Some q → p.name ≡ q.name → i ≡ j
once Q f i j p q at at' n = by_order (compared i j) where
  by_order : (i < j) ⊎ ((i ≡ j) ⊎ (j < i)) → i ≡ j
  by_order (inl o) = absurd (f.names_apart i j p q o at at' n)
  by_order (inr (inl o)) = o
  by_order (inr (inr o)) = absurd (f.names_apart j i q p o at' at (sym n))

-- both or neither
iff_of : (a b : Bool) → beq a b ≡ true → (a ≡ true → b ≡ true) × (b ≡ true → a ≡ true)
iff_of true true e = (λ h. h, λ h. h)
iff_of true false e = absurd (let clash : false ≡ true = e in cc)
iff_of false true e = absurd (let clash : false ≡ true = e in cc)
iff_of false false e = (λ h. h, λ h. h)

of_iff : (a b : Bool) → (a ≡ true → b ≡ true) → (b ≡ true → a ≡ true) → beq a b ≡ true
of_iff true true f g = refl
of_iff true false f g = f refl
of_iff false true f g = g refl
of_iff false false f g = refl

module _ (P Q : PureProgram) (fq : IsWellFormed Q) (i n : ℕ) (old new : PureProcedure) (old_at : slice_get P.procedures i ≡ Some old)
    (new_at : slice_get Q.procedures n ≡ Some new) where
  named : (j : ℕ) → old.name ≡ new.name → AreNamesakes P Q i j → n ≡ j
  named j e s =
      let o : s.old ≡ old = same_Some s.old old (sym s.old_at ∙ old_at) in
      once Q fq n j new s.new new_at s.new_at (sym e ∙ (ap (λ (p : PureProcedure). p.name) (sym o) ∙ s.name))

  pub here : old.name ≡ new.name → beq (n == Q.main) (i == P.main) ≡ true → (j : ℕ) → (Some n ≡ Some j) ↔ AreNamesakes P Q i j
  here e b j = (
    λ s. subst (AreNamesakes P Q i) (same_Some n j s) (record {
      old = old;
      new = new;
      old_at = old_at;
      new_at = new_at;
      name = e;
      main = (
        λ m. eqb-true n Q.main ((iff_of (n == Q.main) (i == P.main) b).1 (eq-eqb i P.main m)),
        λ m. eqb-true i P.main ((iff_of (n == Q.main) (i == P.main) b).0 (eq-eqb n Q.main m)),
      );
    }),
    λ s. ap Some (named j e s),
  )

  pub nowhere : old.name ≡ new.name → beq (n == Q.main) (i == P.main) ≡ false → (j : ℕ) → (None ≡ Some j) ↔ AreNamesakes P Q i j
  nowhere e b j = (λ s. absurd (none-some j s), λ s. absurd (clash s)) where
    clash : AreNamesakes P Q i j → ⊥
    clash s =
        let m = subst (λ x. (i ≡ P.main) ↔ (x ≡ Q.main)) (sym (named j e s)) s.main in
        let so : beq (n == Q.main) (i == P.main) ≡ true = of_iff (n == Q.main) (i == P.main)
        (λ k. eq-eqb i P.main (m.1 (eqb-true n Q.main k))) (λ k. eq-eqb n Q.main (m.0 (eqb-true i P.main k))) in
        let no_way : true ≡ false = sym so ∙ b in cc

  pub not_here : (old.name ≡ new.name → ⊥) → AreNamesakes P Q i n → ⊥
  not_here other s =
      let o : s.old ≡ old = same_Some s.old old (sym s.old_at ∙ old_at) in
      let w : s.new ≡ new = same_Some s.new new (sym s.new_at ∙ new_at) in
      other (ap (λ (p : PureProcedure). p.name) (sym o) ∙ (s.name ∙ ap (λ (p : PureProcedure). p.name) w))

pub none_of : (P Q : PureProgram) (i n : ℕ) → length Q.procedures ≤ n → ((j : ℕ) → j < n → AreNamesakes P Q i j → ⊥) → (j : ℕ) →
    (None ≡ Some j) ↔ AreNamesakes P Q i j
none_of P Q i n all h j = (
  λ s. absurd (none-some j s),
  λ s. absurd (h j (let w = slice_get_within Q.procedures j s.new s.new_at in omega (arith, w, all)) s),
)

-- One more number

get_pushed : (xs : List (Option ℕ)) (x : Option ℕ) (i : ℕ) → i < length xs → number_in (xs ++ x ∷ []) i ≡ number_in xs i
get_pushed [] x i h = absurd (omega (arith, h))
get_pushed (y ∷ ys) x zero h = refl
get_pushed (y ∷ ys) x (suc i) h = get_pushed ys x i (omega (arith, h))

last_pushed : (xs : List (Option ℕ)) (x : Option ℕ) → number_in (xs ++ x ∷ []) (length xs) ≡ x
last_pushed [] x = refl
last_pushed (y ∷ ys) x = last_pushed ys x

pub one_more : (P Q : PureProgram) (xs ys : List (Option ℕ)) (x : Option ℕ) (n : ℕ) → length xs ≡ n → ys ≡ xs ++ x ∷ [] →
    ((i j : ℕ) → i < n → (number_in xs i ≡ Some j) ↔ AreCounterparts P Q i j) → ((j : ℕ) → (x ≡ Some j) ↔ AreCounterparts P Q n j) →
    (i j : ℕ) → i < n + 1 → (number_in ys i ≡ Some j) ↔ AreCounterparts P Q i j
one_more P Q xs ys x n l e h own i j o = by_order (compared i n) where
  by_order : (i < n) ⊎ ((i ≡ n) ⊎ (n < i)) → (number_in ys i ≡ Some j) ↔ AreCounterparts P Q i j
  by_order (inl k) =
      let same : number_in ys i ≡ number_in xs i = ap (λ zs. number_in zs i) e ∙ get_pushed xs x i (omega (arith, k, l)) in
      (λ s. (h i j k).0 (sym same ∙ s), λ s. same ∙ (h i j k).1 s)
  by_order (inr (inl k)) =
      let same : number_in ys i ≡ x = ap (λ zs. number_in zs i) e ∙ (ap (number_in (xs ++ x ∷ [])) (k ∙ sym l) ∙ last_pushed xs x) in (
        λ s. subst (λ y. AreCounterparts P Q y j) (sym k) ((own j).0 (sym same ∙ s)),
        λ s. same ∙ (own j).1 (subst (λ y. AreCounterparts P Q y j) k s),
      )
  by_order (inr (inr k)) = absurd (omega (arith, k, o))

pub all_named : (P Q : PureProgram) (xs : List (Option ℕ)) (n : ℕ) → length xs ≡ n → n ≡ length P.procedures →
    ((i j : ℕ) → i < n → (number_in xs i ≡ Some j) ↔ AreCounterparts P Q i j) → AreAllCounterparts P Q xs
all_named P Q xs n l e h = record { each = l ∙ e; counterparts = λ i j o. h i j (subst (λ k. i < k) l o) }

pub up_to : (P Q : PureProgram) (i n : ℕ) → ((j : ℕ) → j < n → AreNamesakes P Q i j → ⊥) → (AreNamesakes P Q i n → ⊥) → (j : ℕ) →
    j < n + 1 →
    AreNamesakes P Q i j → ⊥
up_to P Q i n h own j o s = by_order (compared j n) where
  by_order : (j < n) ⊎ ((j ≡ n) ⊎ (n < j)) → ⊥
  by_order (inl k) = h j k s
  by_order (inr (inl k)) = own (subst (AreNamesakes P Q i) k s)
  by_order (inr (inr k)) = omega (arith, k, o)
