-- The ranges of what stands in lists.
use Rattle.std.proofs.Common.{◌^◌, ◌<◌, List, [], ◌∷◌, map, subst, sym}
use Rattle.std.specs.List.{AllByRecursion}
use Rattle.std.proofs.lemmas.List.{length-map}
use Rattle.proof_bundle.specs.Text.{AreEach}

all_map : {A B : Type 0} (P : B → Type 0) (f : A → B) (xs : List A) → AllByRecursion (λ x. P (f x)) xs → AllByRecursion P (map f xs)
all_map P f [] h = tt
all_map P f (x ∷ xs) h = (h.0, all_map P f xs h.1)

pub each_map : {A B : Type 0} (P : B → Type 0) (f : A → B) (xs : List A) → AreEach (λ x. P (f x)) xs → AreEach P (map f xs)
each_map P f xs h = (subst (λ n. n < 2 ^ 64) (sym (length-map xs f)) h.0, all_map P f xs h.1)
