-- Whether one cube entails another, atom by atom.
use Rattle.std.specs.Prelude.{◌≡◌, List, [], ◌∷◌, ◌++◌, ℕ, ℤ, pos, negsuc, if◌then◌else◌}
use Rattle.linear_formula.specs.declared.formula.Atom.{Atom}
use Rattle.linear_formula.specs.declared.question.Question.{Question}
use Rattle.linear_formula.specs.declared.question.Question.TheVariants as question
use Rattle.shadow_elim.specs.declared.limit.Kept.{Kept}
use Rattle.shadow_elim.specs.Plan.{found, solution, cube_of}
use Rattle.shadow_elim.specs.Questions.{is_negatable, CanNegate, with_negation, IsShownToEntail}
use Rattle.shadow_elim.specs.RightLimit.{IsRight}

-- what is asked of an atom: these rows together, or the negation itself where it is too wide
abbrev pub question_of : List Atom → Atom → Question
question_of left atom =
    if is_negatable atom
    then question.Cube (cube_of (with_negation left atom))
    else question.Combine ((negsuc 0, atom.term) ∷ []) (pos 1)

-- the first atom that isn't entailed, after atoms that are
abbrev pub StopsAt : List Atom → List Atom → (Atom → Type 0) → Type 0
StopsAt left right P =
    (before : List Atom) × (atom : Atom) × (after : List Atom) ×
    (right ≡ before ++ atom ∷ after) × IsShownToEntail left before × P atom

-- the point of the atom's question
abbrev pub IsPointOf : List Atom → List (ℕ × ℤ) → Atom → Type 0
IsPointOf left at atom = CanNegate atom × (solution (with_negation left atom) ≡ found at)

-- the limit of the atom's question
abbrev pub IsLimitOf : List Atom → Kept → Atom → Type 0
IsLimitOf left kept atom = (kept.question ≡ question_of left atom) × IsRight kept
