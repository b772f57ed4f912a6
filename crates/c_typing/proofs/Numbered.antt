-- The numbers of globals by their names.
use Rattle.std.proofs.Common.{◌≡◌, ℕ, ◌+◌, ◌^◌, ◌<◌, ◌≤◌, zero, suc, Bool, true, false, nat_lt, Bor, List, [], ◌∷◌, ◌++◌, length, map, take, drop, get_or, Option, Some, None, is_some, refl, ap, sym, ◌∙◌, arith, bytes_eq, append_assoc, if◌then◌else◌}
use Rattle.std.proofs.lemmas.Bool.Decides.{nat_tests}
use Rattle.std.proofs.lemmas.List.{append-nil, map-append, length-map, at_drop_more, at_drop_all}
use Rattle.indexmap.specs.IndexMap.{IndexMap, UpdatesBy}
use Rattle.c_tree.specs.declared.syntax_tree.GlobalTree.{GlobalTree}
use Rattle.c_tree.specs.declared.syntax_tree.Item.{Item}
use Rattle.c_tree.specs.declared.syntax_tree.Item.TheVariants.{Proto, Proc, Globals}
use Rattle.c_tree.specs.SourceTree.{Global}
use Rattle.c_tree.specs.FileView.{global_of as tree_of_global}
use Rattle.c_typing.specs.Scope.{global_names, global_from, global_of}
use Rattle.c_typing.specs.steps.Meanings.{found_in}
use Rattle.c_typing.specs.steps.Listed.{globals_in, listed, AreNumbered}
use Rattle.c_typing.proofs.Known.{changed, are-same}

-- the number that is there, or else this one where the name is met
abbrev or_at : Option ℕ → Bool → ℕ → Option ℕ
or_at (Some k) b n = Some k
or_at None b n = if b then Some n else None

global-push : (i : ℕ) (ys : List (List ℕ)) (z x : List ℕ) → global_from i (ys ++ z ∷ []) x ≡ or_at (global_from i ys x) (bytes_eq z x)
    (i + length ys)
global-push i [] z x = ap (λ k. if bytes_eq z x then Some k else None) (omega arith)
global-push i (y ∷ ys) z x = go (bytes_eq y x) (global-push (i + 1) ys z x)
  where
    go : (b : Bool) → global_from (i + 1) (ys ++ z ∷ []) x ≡ or_at (global_from (i + 1) ys x) (bytes_eq z x) (i + 1 + length ys) →
        (if b then Some i else global_from (i + 1) (ys ++ z ∷ []) x)
        ≡ or_at (if b then Some i else global_from (i + 1) ys x) (bytes_eq z x) (i + suc (length ys))
    go true h = refl
    go false h = h ∙ ap (or_at (global_from (i + 1) ys x) (bytes_eq z x)) (omega arith)

or_at-false : (o : Option ℕ) (n : ℕ) → or_at o false n ≡ o
or_at-false None n = refl
or_at-false (Some k) n = refl

or_at-some : (o : Option ℕ) (b : Bool) (n : ℕ) → is_some o ≡ true → or_at o b n ≡ o
or_at-some None b n e = absurd cc
or_at-some (Some k) b n e = refl

is-none : (o : Option ℕ) → is_some o ≡ false → o ≡ None
is-none None e = refl
is-none (Some k) e = absurd cc

pushed-names : (gs : List (Bor GlobalTree)) (g : Bor GlobalTree) (x : List ℕ) → global_of (global_names (listed (gs ++ g ∷ []))) x
    ≡ or_at (global_of (global_names (listed gs)) x) (bytes_eq (tree_of_global g.now).named.name x) (length gs)
pushed-names gs g x =
    ap (λ (r : List Global). global_of (global_names r) x) (map-append (λ (g : Bor GlobalTree). tree_of_global g.now) gs (g ∷ []))
    ∙ ap (λ r. global_of r x) (map-append (λ (g : Global). g.named.name) (listed gs) (tree_of_global g.now ∷ []))
    ∙ global-push 0 (global_names (listed gs)) (tree_of_global g.now).named.name x
    ∙ ap (or_at (global_of (global_names (listed gs)) x) (bytes_eq (tree_of_global g.now).named.name x))
    (omega (arith, length-map (listed gs) (λ (g : Global). g.named.name), length-map gs (λ (g : Bor GlobalTree). tree_of_global g.now)))

-- the name is new: it gets the next number
pub new_numbered : {S : Type 0} (bs : List ℕ) (m n : IndexMap (Bor (List ℕ)) ℕ S) (gs hs : List (Bor GlobalTree)) (g : Bor GlobalTree)
    (k : ℕ) → AreNumbered m gs → bs ≡ (tree_of_global g.now).named.name → k ≡ length gs → is_some (found_in m bs) ≡ false →
    UpdatesBy (λ x y. bytes_eq x.now y.now) (λ k. bytes_eq bs k.now) m n (Some k) → hs ≡ gs ++ g ∷ [] →
    AreNumbered n hs
new_numbered bs m n gs hs g k old named count absent updates pushed x =
    changed bs m n (Some k) (Some k) updates refl x ∙ go (bytes_eq bs x) refl
    ∙ ap (λ b. or_at (global_of (global_names (listed gs)) x) b (length gs)) (ap (λ y. bytes_eq y x) named)
    ∙ sym (pushed-names gs g x) ∙ ap (λ r. global_of (global_names (listed r)) x) (sym pushed)
  where
    go : (b : Bool) → bytes_eq bs x ≡ b → (if b then Some k else found_in m x)
        ≡ or_at (global_of (global_names (listed gs)) x) (bytes_eq bs x) (length gs)
    go true same =
        let none : global_of (global_names (listed gs)) x ≡ None = sym (old x) ∙ ap (found_in m) (sym (are-same bs x same))
        ∙ is-none (found_in m bs) absent in
        ap Some count ∙ sym (ap (λ o. or_at o (bytes_eq bs x) (length gs)) none ∙ ap (λ b. or_at None b (length gs)) same)
    go false other = old x ∙ sym (ap (λ b. or_at (global_of (global_names (listed gs)) x) b (length gs)) other
        ∙ or_at-false (global_of (global_names (listed gs)) x) (length gs))

-- an earlier one has the name
pub old_numbered : {S : Type 0} (bs : List ℕ) (m n : IndexMap (Bor (List ℕ)) ℕ S) (gs hs : List (Bor GlobalTree)) (g : Bor GlobalTree) →
    AreNumbered m gs → bs ≡ (tree_of_global g.now).named.name → is_some (found_in m bs) ≡ true → n ≡ m → hs ≡ gs ++ g ∷ [] →
    AreNumbered n hs
old_numbered bs m n gs hs g old named there same_map pushed x =
    ap (λ r. found_in r x) same_map ∙ old x ∙ sym (go (bytes_eq bs x) refl)
    ∙ ap (λ b. or_at (global_of (global_names (listed gs)) x) b (length gs)) (ap (λ y. bytes_eq y x) named)
    ∙ sym (pushed-names gs g x) ∙ ap (λ r. global_of (global_names (listed r)) x) (sym pushed)
  where
    go : (b : Bool) → bytes_eq bs x ≡ b → or_at (global_of (global_names (listed gs)) x) (bytes_eq bs x) (length gs)
        ≡ global_of (global_names (listed gs)) x
    go true same = or_at-some (global_of (global_names (listed gs)) x) (bytes_eq bs x) (length gs)
        (ap is_some (sym (old x)) ∙ ap (λ y. is_some (found_in m y)) (sym (are-same bs x same)) ∙ there)
    go false other = ap (λ b. or_at (global_of (global_names (listed gs)) x) b (length gs)) other
        ∙ or_at-false (global_of (global_names (listed gs)) x) (length gs)

-- the number, if it is below this one
abbrev under : ℕ → Option ℕ → Option ℕ
under n None = None
under n (Some k) = if nat_lt k n then Some k else None

past-none : (i j : ℕ) (ys : List (List ℕ)) (x : List ℕ) → j ≤ i → None ≡ under j (global_from i ys x)
past-none i j [] x low = refl
past-none i j (y ∷ ys) x low = go (bytes_eq y x) (past-none (i + 1) j ys x (omega arith))
  where
    not_below : nat_lt i j ≡ false
    not_below = grind (arith, nat_tests)

    go : (b : Bool) → None ≡ under j (global_from (i + 1) ys x) → None ≡ under j (if b then Some i else global_from (i + 1) ys x)
    go true h = ap (λ b. if b then Some i else None) (sym not_below)
    go false h = h

take-under : (i n : ℕ) (ys : List (List ℕ)) (x : List ℕ) → global_from i (take n ys) x ≡ under (i + n) (global_from i ys x)
take-under i zero ys x = past-none i (i + 0) ys x (omega arith)
take-under i (suc n) [] x = refl
take-under i (suc n) (y ∷ ys) x = go (bytes_eq y x) (take-under (i + 1) n ys x)
  where
    below : nat_lt i (i + suc n) ≡ true
    below = grind (arith, nat_tests)

    go : (b : Bool) → global_from (i + 1) (take n ys) x ≡ under (i + 1 + n) (global_from (i + 1) ys x) →
        (if b then Some i else global_from (i + 1) (take n ys) x) ≡ under (i + suc n) (if b then Some i else global_from (i + 1) ys x)
    go true h = ap (λ b. if b then Some i else None) (sym below)
    go false h = h ∙ ap (λ k. under k (global_from (i + 1) ys x)) (omega arith)

pub number_known : (names : List (List ℕ)) (x : List ℕ) (o : Option ℕ) (k known : ℕ) → o ≡ global_of names x → o ≡ Some k → k < known →
    Some k ≡ global_of (take known names) x
number_known names x o k known is some low =
    let below : nat_lt k known ≡ true = grind (arith, nat_tests) in
    sym (take-under 0 known names x ∙ ap (λ n. under n (global_of names x)) (omega arith) ∙ ap (under known) (sym is ∙ some)
    ∙ ap (λ b. if b then Some k else None) below)

pub number_past : (names : List (List ℕ)) (x : List ℕ) (o : Option ℕ) (k known : ℕ) → o ≡ global_of names x → o ≡ Some k → known ≤ k →
    None ≡ global_of (take known names) x
number_past names x o k known is some high =
    let above : nat_lt k known ≡ false = grind (arith, nat_tests) in
    sym (take-under 0 known names x ∙ ap (λ n. under n (global_of names x)) (omega arith) ∙ ap (under known) (sym is ∙ some)
    ∙ ap (λ b. if b then Some k else None) above)

pub number_none : (names : List (List ℕ)) (x : List ℕ) (o : Option ℕ) (known : ℕ) → o ≡ global_of names x → o ≡ None →
    None ≡ global_of (take known names) x
number_none names x o known is none =
    sym (take-under 0 known names x ∙ ap (λ n. under n (global_of names x)) (omega arith) ∙ ap (under known) (sym is ∙ none))

-- a number is below that of the names
global-high : (i : ℕ) (ys : List (List ℕ)) (x : List ℕ) (k : ℕ) → global_from i ys x ≡ Some k → k < i + length ys
global-high i [] x k e = absurd cc
global-high i (y ∷ ys) x k e = go (bytes_eq y x) e (global-high (i + 1) ys x k)
  where
    go : (b : Bool) → (if b then Some i else global_from (i + 1) ys x) ≡ Some k →
        (global_from (i + 1) ys x ≡ Some k → k < i + 1 + length ys) → k < i + suc (length ys)
    go true e h = let same : i ≡ k = cc in omega arith
    go false e h = let low = h e in omega arith

pub global_high : (names : List (List ℕ)) (x : List ℕ) (k : ℕ) → global_of names x ≡ Some k → k < length names
global_high names x k e = let h = global-high 0 names x k e in omega arith

-- The globals of the items, one after another

pub globals_in-cons : (x : Item) (xs : List Item) → globals_in (x ∷ xs) ≡ globals_in (x ∷ []) ++ globals_in xs
globals_in-cons (Proto n) xs = refl
globals_in-cons (Proc p) xs = refl
globals_in-cons (Globals gs) xs = ap (λ r. r ++ globals_in xs) (sym (append-nil (map tree_of_global gs.items)))

pub item_globals : (x : Item) (gs : _) → x ≡ Globals gs → globals_in (x ∷ []) ≡ map tree_of_global gs.items
item_globals x gs is = ap (λ y. globals_in (y ∷ [])) is ∙ append-nil (map tree_of_global gs.items)

abbrev pub globals_left : List Global → List Item → List Global
globals_left out items = out ++ globals_in items

pub globals_turn : (items : List Item) (i : ℕ) (d : Item) (out o1 goal : List Global) → i < length items →
    o1 ≡ out ++ globals_in (get_or items i d ∷ []) → globals_left out (drop i items) ≡ goal → globals_left o1 (drop (i + 1) items) ≡ goal
globals_turn items i d out o1 goal less step left =
    ap (λ r. r ++ globals_in (drop (i + 1) items)) step
    ∙ append_assoc out (globals_in (get_or items i d ∷ [])) (globals_in (drop (i + 1) items))
    ∙ ap (λ r. out ++ r) (sym (globals_in-cons (get_or items i d) (drop (i + 1) items)))
    ∙ sym (at_drop_more (globals_left out) items i d less) ∙ left

pub globals_end : (items : List Item) (i : ℕ) (out goal : List Global) → length items ≤ i → globals_left out (drop i items) ≡ goal →
    out ≡ goal
globals_end items i out goal past left = sym (append-nil out) ∙ sym (at_drop_all (globals_left out) items i past) ∙ left

pub global_small : (names : List (List ℕ)) (x : List ℕ) (o : Option ℕ) (k : ℕ) → length names ≤ 16 → o ≡ global_of names x → o ≡ Some k →
    k < 2 ^ 32
global_small names x o k few is some = let h = global_high names x k (sym is ∙ some) in omega arith
