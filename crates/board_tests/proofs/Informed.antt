-- Boards that begin with what another board knows.
use Rattle.std.proofs.Common.{◌≡◌, ℕ, suc, ◌+◌, ◌<◌, List, [], ◌∷◌, ◌++◌, length, map, take, get_or, ◌==◌, true, arith, refl, sym, ap, ◌∙◌, subst}
use Rattle.std.proofs.lemmas.List.{map_more, take-map}
use Rattle.flow_graph.specs.declared.graph.Graph.{Graph}
use Rattle.summary_form.specs.declared.summary.Summary.{Summary}
use Rattle.bolt_core.specs.Boards.{IsBoard, Shown}
use Rattle.bolt_core.specs.Histories.{table_of}
use Rattle.bolt_core.specs.Machine.{AllOf, HoldsBy}
use Rattle.bolt_core.specs.States.{reads}
use Rattle.bolt_core.proofs.BoardKeeps.{board_keeps}

-- the front of a table grows by its next summary
pub next_front : {A : Type 0} (f : A → Summary) (xs : List A) (ts : List Summary) (i : ℕ) (x : A) → map f xs ≡ ts → i < length xs →
    x ≡ get_or xs i x → take i ts ++ f x ∷ [] ≡ take (i + 1) ts
next_front f xs ts i x m l at =
    ap (λ ys. take i ys ++ f x ∷ []) (sym m)
    ∙ (ap (λ ys. ys ++ f x ∷ []) (take-map f i xs)
    ∙ (ap (λ y. map f (take i xs) ++ f y ∷ []) at
    ∙ (sym (map_more f xs i x l) ∙ (sym (take-map f (i + 1) xs) ∙ ap (take (i + 1)) m))))

none_left : {X : Type 0} (xs ys : List X) → xs ++ ys ≡ [] → xs ≡ []
none_left [] ys e = refl
none_left (x ∷ xs) ys e = absurd (cc)

-- a board whose table is empty began with nothing
pub nothing_kept : (b : Shown) → IsBoard b → b.core.table ≡ [] → b.core.kept ≡ []
nothing_kept b h e = none_left b.core.kept (table_of b.core.history) ((board_keeps b h).named ∙ e)

-- what a board knows holds, of the same graphs too
pub kept_hold : (b : Shown) (gs : List Graph) (ks : List Summary) → IsBoard b → gs ≡ b.graphs → ks ≡ b.core.table →
    AllOf (HoldsBy (reads gs)) ks
kept_hold b gs ks h g k =
    subst (λ (xs : List Graph). AllOf (HoldsBy (reads xs)) ks) (sym g)
    (subst (λ (ss : List Summary). AllOf (HoldsBy (reads b.graphs)) ss) (sym k) (board_keeps b h).holds)

-- a table that shows no summary is empty
pub no_table : {A : Type 0} (f : A → Summary) (xs : List A) (ts : List Summary) → map f xs ≡ ts → true ≡ (length xs == 0) → ts ≡ []
no_table f [] ts m h = sym m
no_table f (x ∷ xs) ts m h = absurd (none (length xs) h) where
  none : (n : ℕ) → ¬ (true ≡ (suc n == 0))
  none n k = grind arith
