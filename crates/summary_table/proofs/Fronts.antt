-- Lists that begin with others.
use Rattle.std.proofs.Common.{◌≡◌, ℕ, ◌+◌, ◌-◌, ◌<◌, List, Some, [], ◌∷◌, ◌++◌, length, map, get_or, take, drop, arith, refl, sym, ap, ◌∙◌}
use Rattle.std.proofs.Math.Seq.{take-append-add, take-length}
use Rattle.std.proofs.lemmas.List.{take-append-drop, take_more, get_or-drop, get_or-map, length-drop, length-map}
use Rattle.std.specs.Prelude.{slice_get}
use Rattle.std.specs.Option.{option_map}
use Rattle.std.proofs.lemmas.Option.{slice_get-map, slice_get_read}
use Rattle.summary_form.specs.declared.summary.Summary.{Summary}
use Rattle.summary_table.specs.Tables.{StartsWith}

pub starts_with_taken : (all front : List Summary) (n : ℕ) → front ≡ take n all → StartsWith all front
starts_with_taken all front n e = record {
  rest = drop n all;
  is = sym (take-append-drop n all) ∙ ap (λ xs. xs ++ drop n all) (sym e);
}

-- more of the list still begins with its prefix
pub keeps_front : (all old new : List Summary) (known i : ℕ) → StartsWith all old → known ≡ length old → new ≡ take (known + i) all →
    StartsWith new old
keeps_front all old new known i h k e = record {
  rest = take i h.rest;
  is = e ∙ ap (λ n. take (n + i) all) k ∙ ap (take (length old + i)) h.is ∙ take-append-add old h.rest i;
}

-- what is left after the prefix
rest_taken : {A : Type 0} (known : ℕ) (xs : List A) → take (length xs - known) (drop known xs) ≡ drop known xs
rest_taken known xs = ap (λ n. take n (drop known xs)) (sym (length-drop known xs)) ∙ take-length (drop known xs)

-- an item after the prefix
pub item_there : {A : Type 0} (f : A → Summary) (xs : List A) (all : List Summary) (known i : ℕ) (x : A) (s : Summary) → map f xs ≡ all →
    i < length (take (length xs - known) (drop known xs)) → x ≡ get_or (take (length xs - known) (drop known xs)) i x → s ≡ f x →
    slice_get all (known + i) ≡ Some s
item_there f xs all known i x s m l at is =
    let within : known + i < length xs = omega (arith, l, ap length (rest_taken known xs), length-drop known xs) in
    let here : slice_get xs (known + i) ≡ Some x = slice_get_read xs (length xs) (known + i) x refl within
    (at ∙ ap (λ ys. get_or ys i x) (rest_taken known xs) ∙ get_or-drop known xs i x) in
    ap (λ ts. slice_get ts (known + i)) (sym m) ∙ slice_get-map f xs (known + i) ∙ ap (option_map f) here ∙ ap Some (sym is)

-- one item more
pub one_more : {A : Type 0} (f : A → Summary) (xs : List A) (all old new : List Summary) (known i : ℕ) (x : A) (s : Summary) →
    map f xs ≡ all → i < length (take (length xs - known) (drop known xs)) →
    x ≡ get_or (take (length xs - known) (drop known xs)) i x → s ≡ f x → old ≡ take (known + i) all → new ≡ old ++ s ∷ [] →
    new ≡ take (known + (i + 1)) all
one_more f xs all old new known i x s m l at is e n =
    let within : known + i < length xs = omega (arith, l, ap length (rest_taken known xs), length-drop known xs) in
    let inside : known + i < length (map f xs) = omega (arith, within, length-map xs f) in
    let item : f x ≡ get_or (map f xs) (known + i) (f x) =
    ap f (at ∙ ap (λ ys. get_or ys i x) (rest_taken known xs) ∙ get_or-drop known xs i x)
    ∙ sym (get_or-map f xs (known + i) x (f x) within) in
    let next : known + (i + 1) ≡ (known + i) + 1 = omega arith in
    n ∙ ap (λ ys. ys ++ s ∷ []) (e ∙ ap (take (known + i)) (sym m))
    ∙ ap (λ t. take (known + i) (map f xs) ++ t ∷ []) (is ∙ item)
    ∙ sym (take_more (map f xs) (known + i) (f x) inside)
    ∙ ap (λ k. take k (map f xs)) (sym next) ∙ ap (take (known + (i + 1))) m
