-- What was found, with one entry more.
use Rattle.std.proofs.Common.{◌≡◌, ◌≢◌, ℕ, zero, suc, ◌<◌, Bool, true, false, not, List, [], ◌∷◌, ◌++◌, length, Option, Some, None, refl, sym, ap, ◌∙◌, arith, ℤ}
use Rattle.std.specs.Prelude.{slice_get, slice_set, Vec}
use Rattle.std.specs.declared.alloc.Global.{Global}
use Rattle.std.specs.Option.{is_some}
use Rattle.std.proofs.Math.ListN.{length-set}
use Rattle.std.proofs.lemmas.List.{map-append}
use Rattle.linear_formula.specs.LinearSum.{LinearSum, Valuation, value_of}
use Rattle.summary_form.specs.Musts.{values_of}
use Rattle.path_sweep.specs.steps.Walks.{IsFilled}

set_here : {X : Type 0} (xs : List X) (i : ℕ) (x : X) → i < length xs → slice_get (slice_set xs i x) i ≡ Some x
set_here [] i x lt = absurd (omega (arith, lt))
set_here (y ∷ ys) zero x lt = refl
set_here (y ∷ ys) (suc i) x lt = set_here ys i x (omega (arith, lt))

set_other : {X : Type 0} (xs : List X) (i k : ℕ) (x : X) → k ≢ i → slice_get (slice_set xs i x) k ≡ slice_get xs k
set_other [] i k x h = refl
set_other (y ∷ ys) zero zero x h = absurd (h refl)
set_other (y ∷ ys) zero (suc k) x h = refl
set_other (y ∷ ys) (suc i) zero x h = refl
set_other (y ∷ ys) (suc i) (suc k) x h = set_other ys i k x (λ e. h (ap suc e))

pub filled_here : (id : ℕ) (ins : List ℤ) (old : List (Option (Vec ℤ Global))) (v : Vec ℤ Global) → id < length old →
    ((x : Vec ℤ Global) → slice_get old id ≡ Some (Some x) → ⊥) → v.items ≡ ins → IsFilled id ins old (slice_set old id (Some v))
filled_here id ins old v lt empty is = record {
  same = length-set old id (Some v);
  others = λ k h. set_other old id k (Some v) h;
  full = λ x e. absurd (empty x e);
  filled = λ e. (v, set_here old id (Some v) lt, is);
}

pub filled_same : (id : ℕ) (ins : List ℤ) (old : List (Option (Vec ℤ Global))) → (slice_get old id ≡ Some None → ⊥) →
    IsFilled id ins old old
filled_same id ins old full = record {
  same = refl;
  others = λ k h. refl;
  full = λ x e. e;
  filled = λ e. absurd (full e);
}

pub not_some : (o : Option (Vec ℤ Global)) (b : Bool) (x : Vec ℤ Global) → o ≡ Some x → is_some o ≡ not b → b ≡ true → ⊥
not_some o b x e h t = let k : is_some (Some x) ≡ not true = ap is_some (sym e) ∙ (h ∙ ap not t) in cc

pub not_none : (o : Option (Vec ℤ Global)) (b : Bool) → o ≡ None → is_some o ≡ not b → b ≡ false → ⊥
not_none o b e h t = let k : is_some o ≡ true = h ∙ ap not t in absurd (clash o e k) where
  clash : (o : Option (Vec ℤ Global)) → o ≡ None → is_some o ≡ true → ⊥
  clash None e k = cc
  clash (Some x) e k = cc

pub both_values : (v : Valuation) (before read xs ys : List LinearSum) (first second : List ℤ) → xs ≡ before → ys ≡ read →
    first ≡ [] ++ values_of v xs → second ≡ first ++ values_of v ys → second ≡ values_of v (before ++ read)
both_values v before read xs ys first second a b f s =
    s ∙ (ap (λ l. l ++ values_of v ys) f ∙ (ap (λ l. values_of v l ++ values_of v ys) a ∙ (ap (λ l. values_of v before ++ values_of v l) b
    ∙ sym (map-append (value_of v) before read))))
