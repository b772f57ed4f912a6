-- What a reduction has gathered.
use Rattle.std.proofs.Common.{◌≡◌, List, [], ◌∷◌, ◌++◌, map, refl, sym, ap, subst, ◌∙◌}
use Rattle.std.proofs.lemmas.List.{append_assoc}
use Rattle.linear_formula.specs.LinearSum.{LinearSum}
use Rattle.shadow_elim.specs.Reduction.{SameReduced, reduced}

-- The same rows stay

pub same-itself : (rows : List LinearSum) → SameReduced rows rows
same-itself rows = λ more. refl

pub same-then : (rows others lasts : List LinearSum) → SameReduced rows others → SameReduced others lasts → SameReduced rows lasts
same-then rows others lasts h k = λ more. h more ∙ k more

pub same-append : (rows others more : List LinearSum) → SameReduced rows others → SameReduced (rows ++ more) (others ++ more)
same-append rows others more h = λ rest.
    ap reduced (append_assoc rows more rest) ∙ (h (more ++ rest) ∙ ap reduced (sym (append_assoc others more rest)))

pub same-reduced : (rows others : List LinearSum) → SameReduced rows others → reduced rows ≡ reduced others
same-reduced rows others h = subst (λ (ts : List LinearSum). reduced ts ≡ reduced others) (append_nil rows)
    (subst (λ (ts : List LinearSum). reduced (rows ++ []) ≡ reduced ts) (append_nil others) (h [])) where
      append_nil : (ts : List LinearSum) → ts ++ [] ≡ ts
      append_nil [] = refl
      append_nil (t ∷ ts) = ap (λ (us : List LinearSum). t ∷ us) (append_nil ts)

-- what a loop by value has passed
pub yielded-all : {X : Type 0} (xs ys : List X) → map (λ x. x) xs ≡ ys → xs ≡ ys
yielded-all {X = X} xs ys e = map_itself xs ∙ e where
  map_itself : (zs : List X) → zs ≡ map (λ x. x) zs
  map_itself [] = refl
  map_itself (z ∷ zs) = ap (λ (ws : List X). z ∷ ws) (map_itself zs)
