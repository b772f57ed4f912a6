-- Rows that are read, and the rows of a range after them.
use Rattle.std.proofs.Common.{◌≡◌, List, [], ◌++◌, None, Option, ℕ, ap, sym, ◌∙◌}
use Rattle.linear_formula.specs.LinearSum.{LinearSum}
use Rattle.linear_formula.specs.declared.formula.Atom.{Atom}
use Rattle.shadow_elim.specs.Projection.{gives, summed, unless_wide}
use Rattle.shadow_elim.specs.Sums.{first_wide, rows_of_sums}
use Rattle.shadow_elim.specs.declared.sum.Sum.{Sum}
use Rattle.shadow_elim.proofs.Reading.{first_behind}
use Rattle.shadow_elim.proofs.Summing.{rows-more}

pub both-given : (sums more : List Sum) (start left right rows : List Atom) (pair : Option (ℕ × (LinearSum × LinearSum))) →
    first_wide sums ≡ None → first_wide more ≡ None → start ≡ [] → left ≡ start ++ rows_of_sums sums → right ≡ rows_of_sums more →
    rows ≡ left ++ right → pair ≡ None → summed (sums ++ more) (λ rs. gives rs None) ≡ gives rows pair
both-given sums more start left right rows pair h k es el er e ep =
    ap (λ o. unless_wide o (gives (rows_of_sums (sums ++ more)) None)) (first_behind sums more None h k)
    ∙ ap (λ rs. gives rs None)
    (rows-more sums more ∙ ap (λ rs. rs ++ rows_of_sums more) (sym (el ∙ ap (λ rs. rs ++ rows_of_sums sums) es)) ∙ ap (λ rs. left ++ rs)
    (sym er) ∙ sym e)
    ∙ ap (λ o. gives rows o) (sym ep)
