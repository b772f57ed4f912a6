-- Questions that end at an atom with a point show that the rows aren't entailed.
use Rattle.std.proofs.Common.{inl, inr, ℕ, List, [], ◌∷◌, ◌++◌, sym, subst, ℤ}
use Rattle.linear_formula.specs.declared.formula.Atom.{Atom}
use Rattle.shadow_elim.specs.Entailment.{StopsAt, IsPointOf}
use Rattle.shadow_elim.specs.Questions.{IsShownToEntail, IsShownNotToEntail}

shown_up_to : (left before : List Atom) (atom : Atom) (after : List Atom) (at : List (ℕ × ℤ)) → IsShownToEntail left before →
    IsPointOf left at atom → IsShownNotToEntail left (before ++ atom ∷ after)
shown_up_to left [] atom after at h p = (p.0, inl (at, p.1))
shown_up_to left (b ∷ bs) atom after at h p = (h.0.0, inr (h.0.1, shown_up_to left bs atom after at h.1 p))

pub shown_not_to_entail : (left right : List Atom) (at : List (ℕ × ℤ)) → StopsAt left right (IsPointOf left at) →
    IsShownNotToEntail left right
shown_not_to_entail left right at (before, atom, after, e, h, p) =
    subst (IsShownNotToEntail left) (sym e) (shown_up_to left before atom after at h p)
