-- Lists are what is read of their texts.
use Rattle.std.proofs.Common.{◌≡◌, ℕ, zero, suc, Some, List, [], ◌∷◌, ◌++◌, length, arith, refl, sym, subst, ap, ◌∙◌}
use Rattle.std.specs.Prelude.{flat_map}
use Rattle.std.specs.List.{AllByRecursion}
use Rattle.proof_bundle.specs.Text.{AreEach, lines_text}
use Rattle.proof_bundle.specs.steps.Reading.{Read, lines_at, list_at, max_count, number_at, tag_at, tagged_at}
use Rattle.proof_bundle.proofs.Numbers.{counts, number_text}
use Rattle.proof_bundle.proofs.Parsing.{Parses, bind_again, bind_is, glue, some_is, tag_takes, tag_then, then_again}

abbrev pub Counted : {A : Type 0} → (A → Type 0) → ℕ → List A → Type 0
Counted P n xs = (length xs ≡ n) × AllByRecursion P xs

module _ {A : Type 0} (P : A → Type 0) (f : A → List ℕ) (at : List ℕ → Read A) (one : Parses P f at) where
  list_takes : (n : ℕ) (bytes : List ℕ) (x : List A × List ℕ) → list_at at n bytes ≡ Some x →
      Counted P n x.0 × (bytes ≡ flat_map f x.0 ++ x.1)
  unfolding list_at
  list_takes zero bytes x e =
      subst (λ (y : List A × List ℕ). Counted P 0 y.0 × (bytes ≡ flat_map f y.0 ++ y.1)) (some_is ([], bytes) x e) ((refl, tt), refl)
  list_takes (suc n) bytes x e =
      let a = bind_is (at bytes) _ x e in
      let b = bind_is (list_at at n a.0.1) _ x a.2 in
      let t = one.takes bytes a.0 a.1 in
      let u = list_takes n a.0.1 b.0 b.1 in
      subst (λ (y : List A × List ℕ). Counted P (suc n) y.0 × (bytes ≡ flat_map f y.0 ++ y.1))
      (some_is (a.0.0 ∷ b.0.0, b.0.1) x b.2)
      ((omega (arith, u.0.0), (t.0, u.0.1)), glue bytes (f a.0.0) a.0.1 (flat_map f b.0.0) b.0.1 t.1 u.1)

  list_again : (n : ℕ) (xs : List A) (rest : List ℕ) → Counted P n xs → list_at at n (flat_map f xs ++ rest) ≡ Some (xs, rest)
  unfolding list_at
  list_again zero [] rest h = refl
  list_again zero (x ∷ xs) rest h = absurd (omega (arith, h.0))
  list_again (suc n) [] rest h = absurd (omega (arith, h.0))
  list_again (suc n) (x ∷ xs) rest h =
      bind_again (at (flat_map f (x ∷ xs) ++ rest)) _ (x, flat_map f xs ++ rest) (then_again one x (flat_map f xs) rest h.1.0)
      ∙ bind_again (list_at at n (flat_map f xs ++ rest)) _ (xs, rest) (list_again n xs rest (omega (arith, h.0), h.1.1))

  pub lists : (n : ℕ) → Parses (Counted P n) (flat_map f) (list_at at n)
  lists n = record { takes = list_takes n; again = list_again n }

  lines_takes : (bytes : List ℕ) (x : List A × List ℕ) → lines_at at bytes ≡ Some x → AreEach P x.0 × (bytes ≡ lines_text f x.0 ++ x.1)
  unfolding lines_at
  lines_takes bytes x e =
      let a = bind_is (number_at 10 max_count bytes) _ x e in
      let t = (counts 10 (omega arith)).takes bytes a.0 a.1 in
      let u = list_takes a.0.0 a.0.1 x a.2 in (
        (omega (arith, t.0, u.0.0), u.0.1),
        glue bytes (number_text 10 (length x.0)) a.0.1 (flat_map f x.0) x.1 (t.1 ∙ ap (λ n. number_text 10 n ++ a.0.1) (sym u.0.0)) u.1,
      )

  lines_again : (xs : List A) (rest : List ℕ) → AreEach P xs → lines_at at (lines_text f xs ++ rest) ≡ Some (xs, rest)
  unfolding lines_at
  lines_again xs rest h =
      bind_again (number_at 10 max_count (lines_text f xs ++ rest)) _ (length xs, flat_map f xs ++ rest)
      (then_again (counts 10 (omega arith)) (length xs) (flat_map f xs) rest h.0)
      ∙ list_again (length xs) xs rest (refl, h.1)

  pub lines : Parses (AreEach P) (lines_text f) (lines_at at)
  lines = record { takes = lines_takes; again = lines_again }

  module _ (tag : List ℕ) where
    tagged_takes : (bytes : List ℕ) (x : List A × List ℕ) → tagged_at tag at bytes ≡ Some x →
        AreEach P x.0 × (bytes ≡ (tag ++ lines_text f x.0) ++ x.1)
    unfolding tagged_at
    tagged_takes bytes x e =
        let a = bind_is (tag_at tag bytes) _ x e in
        let t = lines_takes a.0 x a.2 in
        (t.0, glue bytes tag a.0 (lines_text f x.0) x.1 (tag_takes tag bytes a.0 a.1) t.1)

    tagged_again : (xs : List A) (rest : List ℕ) → AreEach P xs → tagged_at tag at ((tag ++ lines_text f xs) ++ rest) ≡ Some (xs, rest)
    unfolding tagged_at
    tagged_again xs rest h =
        bind_again (tag_at tag ((tag ++ lines_text f xs) ++ rest)) _ (lines_text f xs ++ rest) (tag_then tag (lines_text f xs) rest)
        ∙ lines_again xs rest h

    pub tagged : Parses (AreEach P) (λ xs. tag ++ lines_text f xs) (tagged_at tag at)
    tagged = record { takes = tagged_takes; again = tagged_again }
