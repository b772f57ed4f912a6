-- What is found of the globals of a file, one after another.
use Rattle.std.proofs.Common.{◌≡◌, ℕ, ◌+◌, ◌<◌, ◌≤◌, Bor, List, [], ◌∷◌, ◌++◌, length, map, take, drop, get_or, ap, sym, ◌∙◌}
use Rattle.std.proofs.lemmas.List.{map-append, take-map, take_more, at_drop_more, at_drop_all}
use Rattle.c_tree.specs.declared.syntax_tree.GlobalTree.{GlobalTree}
use Rattle.c_tree.specs.declared.syntax_tree.Item.{Item}
use Rattle.c_tree.specs.SourceTree.{Global}
use Rattle.c_tree.specs.FileView.{global_of as tree_of_global}
use Rattle.c_typing.specs.Scope.{global_names}
use Rattle.c_typing.specs.Faults.{global_faults, globals_faults}
use Rattle.c_typing.specs.steps.Tables.{Noted, noted}
use Rattle.c_typing.specs.steps.Listed.{globals_in, names_in, listed}
use Rattle.c_typing.proofs.Noting.{noted-append, noted-nil}

names-more : (xs : List (Bor GlobalTree)) (i : ℕ) (d : Bor GlobalTree) → i < length xs → take (i + 1) (global_names (listed xs))
    ≡ take i (global_names (listed xs)) ++ (tree_of_global (get_or xs i d).now).named.name ∷ []
names-more xs i d less =
    let tree = λ (g : Bor GlobalTree). tree_of_global g.now in
    let name = λ (g : Global). g.named.name in
    let x = get_or xs i d in
    take-map name (i + 1) (listed xs)
    ∙ ap (map name) (take-map tree (i + 1) xs ∙ ap (map tree) (take_more xs i d less) ∙ map-append tree (take i xs) (x ∷ []))
    ∙ map-append name (map tree (take i xs)) (tree x ∷ [])
    ∙ ap (λ r. r ++ name (tree x) ∷ []) (sym (take-map name i (listed xs) ∙ ap (map name) (take-map tree i xs)))

abbrev pub found_left : List Item → Noted → ℕ → List (Bor GlobalTree) → Noted
found_left items n number gs = noted n (globals_faults (take number (names_in items)) (listed gs)) [] []

pub found_start : (items : List Item) (n : Noted) (xs : List (Bor GlobalTree)) → listed xs ≡ globals_in items → found_left items n 0 xs
    ≡ noted n (globals_faults [] (globals_in items)) [] []
found_start items n xs same = ap (λ r. noted n (globals_faults [] r) [] []) same

pub found_turn : (items : List Item) (xs : List (Bor GlobalTree)) (i : ℕ) (d : Bor GlobalTree) (n n1 goal : Noted) → i < length xs →
    listed xs ≡ globals_in items → d ≡ get_or xs i d →
    n1 ≡ noted n (global_faults (take i (names_in items)) (tree_of_global d.now)) [] [] →
    found_left items n i (drop i xs) ≡ goal → found_left items n1 (i + 1) (drop (i + 1) xs) ≡ goal
found_turn items xs i d n n1 goal less same is step left =
    let g = tree_of_global (get_or xs i d).now in
    let known = take i (names_in items) in
    let rest = listed (drop (i + 1) xs) in
    let more : take (i + 1) (names_in items) ≡ known ++ g.named.name ∷ [] = ap (λ r. take (i + 1) (global_names r)) (sym same)
    ∙ names-more xs i d less ∙ ap (λ r. take i (global_names r) ++ g.named.name ∷ []) same in
    ap (λ m. found_left items m (i + 1) (drop (i + 1) xs)) (step
    ∙ ap (λ (x : Bor GlobalTree). noted n (global_faults known (tree_of_global x.now)) [] []) is)
    ∙ ap (λ k. noted (noted n (global_faults known g) [] []) (globals_faults k rest) [] []) more
    ∙ noted-append n (global_faults known g) (globals_faults (known ++ g.named.name ∷ []) rest) [] [] [] []
    ∙ sym (at_drop_more (found_left items n i) xs i d less) ∙ left

pub found_end : (items : List Item) (xs : List (Bor GlobalTree)) (i number : ℕ) (n goal : Noted) → length xs ≤ i →
    found_left items n number (drop i xs) ≡ goal → n ≡ goal
found_end items xs i number n goal past left = sym (noted-nil n) ∙ sym (at_drop_all (found_left items n number) xs i past) ∙ left
