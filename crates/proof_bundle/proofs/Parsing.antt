-- What is read of a text is what the text is of, and is read again from its text.
use Rattle.std.proofs.Common.{◌≡◌, ℕ, Bool, true, false, Option, Some, None, List, ◌++◌, length, take, drop, refl, sym, ap, ◌∙◌, if◌then◌else◌}
use Rattle.std.specs.Str.{bytes_eq}
use Rattle.std.proofs.lemmas.List.{append_assoc, take_at, drop_at, take-append-drop}
use Rattle.std.proofs.lemmas.Slice.Eq.{bytes_eq-Decides}
use Rattle.proof_bundle.specs.steps.Reading.{◌>>=◌, Read, tag_at}

pub record Parses {A : Type 0} (P : A → Type 0) (f : A → List ℕ) (at : List ℕ → Read A) : Type 0 where
  pub takes : (bytes : List ℕ) (x : A × List ℕ) → at bytes ≡ Some x → P x.0 × (bytes ≡ f x.0 ++ x.1)
  pub again : (x : A) (rest : List ℕ) → P x → at (f x ++ rest) ≡ Some (x, rest)

-- under a range said otherwise
pub alike : {A : Type 0} (P Q : A → Type 0) {f : A → List ℕ} {at : List ℕ → Read A} → ((x : A) → P x → Q x) → ((x : A) → Q x → P x) →
    Parses P f at → Parses Q f at
alike P Q to from h = record {
  takes = λ bytes x e. let t = h.takes bytes x e in (to x.0 t.0, t.1);
  again = λ x rest p. h.again x rest (from x p);
}

-- Steps

-- the value of a step that did not fail
pub bind_is : {A B : Type 0} (r : Option A) (f : A → Option B) (y : B) → (r >>= f) ≡ Some y → (x : A) × (r ≡ Some x) × (f x ≡ Some y)
bind_is (Some x) f y e = (x, refl, e)
bind_is None f y e = absurd cc

pub some_is : {A : Type 0} (x y : A) → Some x ≡ Some y → x ≡ y
some_is x y e = cc

pub bind_again : {A B : Type 0} (r : Option A) (f : A → Option B) (y : A) → r ≡ Some y → (r >>= f) ≡ f y
bind_again r f y e = ap (λ q. q >>= f) e

-- a test that did not fail
pub test_is : {A : Type 0} (b : Bool) (x y : A) → (if b then Some x else None) ≡ Some y → (b ≡ true) × (x ≡ y)
test_is true x y e = (refl, some_is x y e)
test_is false x y e = absurd cc

-- one text after the other
pub glue : (a x b y c : List ℕ) → a ≡ x ++ b → b ≡ y ++ c → a ≡ (x ++ y) ++ c
glue a x b y c e h = e ∙ ap (λ t. x ++ t) h ∙ sym (append_assoc x y c)

-- Tags and bytes

pub tag_takes : (tag bytes rest : List ℕ) → tag_at tag bytes ≡ Some rest → bytes ≡ tag ++ rest
unfolding tag_at
tag_takes tag bytes rest e =
    let t = test_is (bytes_eq (take (length tag) bytes) tag) (drop (length tag) bytes) rest e in
    let front : take (length tag) bytes ≡ tag = (bytes_eq-Decides (take (length tag) bytes) tag).0 t.0 in
    sym (take-append-drop (length tag) bytes) ∙ (λ i. front i ++ t.1 i)

pub tag_again : (tag rest : List ℕ) → tag_at tag (tag ++ rest) ≡ Some rest
unfolding tag_at
tag_again tag rest =
    let same : bytes_eq (take (length tag) (tag ++ rest)) tag ≡ true =
    (bytes_eq-Decides (take (length tag) (tag ++ rest)) tag).1 (take_at tag rest (length tag) refl) in
    rw same (ap Some (drop_at tag rest (length tag) refl))

pub tag_then : (tag u rest : List ℕ) → tag_at tag ((tag ++ u) ++ rest) ≡ Some (u ++ rest)
tag_then tag u rest = ap (tag_at tag) (append_assoc tag u rest) ∙ tag_again tag (u ++ rest)

pub then_again : {A : Type 0} {P : A → Type 0} {f : A → List ℕ} {at : List ℕ → Read A} → Parses P f at → (x : A) (u rest : List ℕ) → P x →
    at ((f x ++ u) ++ rest) ≡ Some (x, u ++ rest)
then_again {f = f} {at = at} h x u rest p = ap at (append_assoc (f x) u rest) ∙ h.again x (u ++ rest) p
