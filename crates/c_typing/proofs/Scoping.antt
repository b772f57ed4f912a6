-- The globals that are known before an item, and the procedures that see them.
use Rattle.std.proofs.Common.{◌≡◌, ℕ, ◌+◌, ◌<◌, ◌≤◌, zero, suc, List, [], ◌∷◌, ◌++◌, length, map, take, drop, get_or, Option, Some, slice_get, refl, ap, sym, ◌∙◌, subst, arith, append_assoc}
use Rattle.std.proofs.lemmas.List.{append-nil, map-append, length-append, length-map, length-take-le, take_at, at_drop_more}
use Rattle.c_tree.specs.declared.syntax_tree.Item.{Item}
use Rattle.c_tree.specs.declared.syntax_tree.Item.TheVariants.{Proto, Proc, Globals}
use Rattle.c_tree.specs.SourceTree.{Global, ProcedureTree, FileItem, prototype, procedure, globals}
use Rattle.c_tree.specs.FileView.{item_of, global_of as tree_of_global}
use Rattle.c_typing.specs.Scope.{procedures_of, globals_of, global_names, FileScope, ScopedProcedure, scoped_procedures}
use Rattle.c_typing.specs.steps.Tables.{procedures_in, scoped_in}
use Rattle.c_typing.specs.steps.Listed.{globals_in, names_in}
use Rattle.c_typing.proofs.Numbered.{globals_in-cons}

-- the trees of procedures
abbrev pub trees : List ScopedProcedure → List ProcedureTree
trees [] = []
trees (q ∷ qs) = q.tree ∷ trees qs

pub length-trees : (qs : List ScopedProcedure) → length (trees qs) ≡ length qs
length-trees [] = refl
length-trees (q ∷ qs) = ap suc (length-trees qs)

-- what a procedure sees
abbrev pub seen : List ProcedureTree → ScopedProcedure → FileScope
seen all q = record { procedures = all; globals = q.globals }

pub scoped-trees : (known : List (List ℕ)) (is : List FileItem) → trees (scoped_procedures known is) ≡ procedures_of is
scoped-trees known [] = refl
scoped-trees known (prototype n ∷ is) = scoped-trees known is
scoped-trees known (procedure p ∷ is) = ap (λ r. p ∷ r) (scoped-trees known is)
scoped-trees known (globals gs ∷ is) = scoped-trees (known ++ global_names gs) is

pub trees-at : (qs : List ScopedProcedure) (i : ℕ) (q : ScopedProcedure) → slice_get qs i ≡ Some q → slice_get (trees qs) i ≡ Some q.tree
trees-at [] i q e = absurd cc
trees-at (p ∷ ps) zero q e = let same : p ≡ q = cc in ap (λ (r : ScopedProcedure). Some r.tree) same
trees-at (p ∷ ps) (suc i) q e = trees-at ps i q e

-- the procedure of a tree
pub record IsScoped (qs : List ScopedProcedure) (i : ℕ) (t : ProcedureTree) : Type 0 where
  pub scoped : ScopedProcedure
  pub there : slice_get qs i ≡ Some scoped
  pub tree : scoped.tree ≡ t

scoped-later : (p : ScopedProcedure) (qs : List ScopedProcedure) (i : ℕ) (t : ProcedureTree) → IsScoped qs i t → IsScoped (p ∷ qs) (suc i) t
scoped-later p qs i t h = record { scoped = h.scoped; there = h.there; tree = h.tree }

pub scoped-at : (qs : List ScopedProcedure) (i : ℕ) (t : ProcedureTree) → slice_get (trees qs) i ≡ Some t → IsScoped qs i t
scoped-at [] i t e = absurd cc
scoped-at (p ∷ ps) zero t e = record { scoped = p; there = refl; tree = cc }
scoped-at (p ∷ ps) (suc i) t e = scoped-later p ps i t (scoped-at ps i t e)

-- no procedure sees more globals than there are
pub few-seen : (known : List (List ℕ)) (is : List FileItem) (i : ℕ) (q : ScopedProcedure) → slice_get (scoped_procedures known is) i
    ≡ Some q →
    length q.globals ≤ length known + length (globals_of is)
few-seen known [] i q e = absurd cc
few-seen known (prototype n ∷ is) i q e = few-seen known is i q e
few-seen known (procedure p ∷ is) zero q e =
    let same : length known ≡ length q.globals =
    ap (λ (o : Option ScopedProcedure). elim o as (λ _. ℕ) [ Some r ↦ length r.globals | _ ↦ 0 ]) e in omega arith
few-seen known (procedure p ∷ is) (suc i) q e = few-seen known is i q e
few-seen known (globals gs ∷ is) i q e =
    let h = few-seen (known ++ global_names gs) is i q e in
    omega (arith, length-append known (global_names gs), length-map gs (λ (g : Global). g.named.name), length-append gs (globals_of is))

-- One item more

pub names_in-cons : (x : Item) (xs : List Item) → names_in (x ∷ xs) ≡ names_in (x ∷ []) ++ names_in xs
names_in-cons x xs = ap global_names (globals_in-cons x xs) ∙ map-append (λ (g : Global). g.named.name) (globals_in (x ∷ []))
    (globals_in xs)

pub scoped_in-cons : (known : List (List ℕ)) (x : Item) (xs : List Item) → scoped_in known (x ∷ xs)
    ≡ scoped_in known (x ∷ []) ++ scoped_in (known ++ names_in (x ∷ [])) xs
scoped_in-cons known (Proto n) xs = ap (λ k. scoped_in k xs) (sym (append-nil known))
scoped_in-cons known (Proc p) xs = ap (λ k. scoped_in known (Proc p ∷ []) ++ scoped_in k xs) (sym (append-nil known))
scoped_in-cons known (Globals gs) xs = ap (λ r. scoped_in (known ++ global_names r) xs) (sym (append-nil (map tree_of_global gs.items)))

-- `count` globals stand before the rest of the items
pub record IsReached (items rest : List Item) (count : ℕ) : Type 0 where
  pub known : take count (names_in items) ++ names_in rest ≡ names_in items
  pub left : count + length (globals_in rest) ≡ length (globals_in items)

pub reached_start : (items : List Item) → IsReached items items 0
reached_start items = record { known = refl; left = omega arith }

length-names : (items : List Item) → length (names_in items) ≡ length (globals_in items)
length-names items = length-map (globals_in items) (λ (g : Global). g.named.name)

pub reached-low : (items : List Item) (x : Item) (rest : List Item) (count : ℕ) → IsReached items (x ∷ rest) count →
    count + length (globals_in (x ∷ [])) ≤ length (globals_in items)
reached-low items x rest count h =
    let l = h.left in
    let e : length (globals_in (x ∷ rest)) ≡ length (globals_in (x ∷ []) ++ globals_in rest) = ap (λ r. length r) (globals_in-cons x rest)
    in
    omega (arith, length-append (globals_in (x ∷ [])) (globals_in rest))

-- the globals that are known after an item
pub known-cons : (items : List Item) (x : Item) (rest : List Item) (count after : ℕ) → IsReached items (x ∷ rest) count →
    after ≡ count + length (globals_in (x ∷ [])) → take after (names_in items) ≡ take count (names_in items) ++ names_in (x ∷ [])
known-cons items x rest count after h next =
    let front = take count (names_in items) ++ names_in (x ∷ []) in
    let low = reached-low items x rest count h in
    let whole : front ++ names_in rest ≡ names_in items = append_assoc (take count (names_in items)) (names_in (x ∷ [])) (names_in rest)
    ∙ ap (λ r. take count (names_in items) ++ r) (sym (names_in-cons x rest)) ∙ h.known in
    let long : length front ≡ after = omega (
      arith,
      length-append (take count (names_in items)) (names_in (x ∷ [])),
      length-take-le count (names_in items) (omega (arith, length-names items)),
      length-names (x ∷ []),
    ) in
    ap (take after) (sym whole) ∙ take_at front (names_in rest) after long

reached-cons : (items : List Item) (x : Item) (rest : List Item) (count after : ℕ) → IsReached items (x ∷ rest) count →
    after ≡ count + length (globals_in (x ∷ [])) → IsReached items rest after
reached-cons items x rest count after h next = record {
  known = ap (λ r. r ++ names_in rest) (known-cons items x rest count after h next)
      ∙ append_assoc (take count (names_in items)) (names_in (x ∷ [])) (names_in rest)
      ∙ ap (λ r. take count (names_in items) ++ r) (sym (names_in-cons x rest)) ∙ h.known;
  left =
      let l = h.left in
      let e : length (globals_in (x ∷ rest)) ≡ length (globals_in (x ∷ []) ++ globals_in rest) = ap (λ r. length r) (globals_in-cons x rest)
      in
      omega (arith, length-append (globals_in (x ∷ [])) (globals_in rest));
}

reached-here : (items xs : List Item) (i : ℕ) (d : Item) (count : ℕ) → i < length xs → IsReached items (drop i xs) count →
    IsReached items (get_or xs i d ∷ drop (i + 1) xs) count
reached-here items xs i d count less h = subst (λ r. IsReached items r count) (at_drop_more (λ r. r) xs i d less) h

pub reached_low : (items xs : List Item) (i : ℕ) (d : Item) (count : ℕ) → i < length xs → d ≡ get_or xs i d →
    IsReached items (drop i xs) count → count + length (globals_in (d ∷ [])) ≤ length (globals_in items)
reached_low items xs i d count less is h =
    let low = reached-low items (get_or xs i d) (drop (i + 1) xs) count (reached-here items xs i d count less h) in
    let same : length (globals_in (d ∷ [])) ≡ length (globals_in (get_or xs i d ∷ [])) = ap (λ x. length (globals_in (x ∷ []))) is in
    omega arith

pub reached_next : (items xs : List Item) (i : ℕ) (d : Item) (count after : ℕ) → i < length xs → d ≡ get_or xs i d →
    after ≡ count + length (globals_in (d ∷ [])) → IsReached items (drop i xs) count → IsReached items (drop (i + 1) xs) after
reached_next items xs i d count after less is next h =
    reached-cons items (get_or xs i d) (drop (i + 1) xs) count after (reached-here items xs i d count less h)
    (next ∙ ap (λ x. count + length (globals_in (x ∷ []))) is)

-- the procedures from here on, as the item's and the others
pub scoped_next : (items xs : List Item) (i : ℕ) (d : Item) (count after : ℕ) → i < length xs → d ≡ get_or xs i d →
    after ≡ count + length (globals_in (d ∷ [])) → IsReached items (drop i xs) count →
    scoped_in (take count (names_in items)) (drop i xs)
    ≡ scoped_in (take count (names_in items)) (d ∷ []) ++ scoped_in (take after (names_in items)) (drop (i + 1) xs)
scoped_next items xs i d count after less is next h =
    let x = get_or xs i d in
    let rest = drop (i + 1) xs in
    let known = take count (names_in items) in
    at_drop_more (scoped_in known) xs i d less ∙ scoped_in-cons known x rest
    ∙ ap (λ k. scoped_in known (x ∷ []) ++ scoped_in k rest)
    (sym (known-cons items x rest count after (reached-here items xs i d count less h)
    (next ∙ ap (λ x. count + length (globals_in (x ∷ []))) is)))
    ∙ ap (λ y. scoped_in known (y ∷ []) ++ scoped_in (take after (names_in items)) rest) (sym is)

pub item-trees : (known : List (List ℕ)) (x : Item) → trees (scoped_in known (x ∷ [])) ≡ procedures_in (x ∷ [])
item-trees known x = scoped-trees known (item_of x ∷ [])
