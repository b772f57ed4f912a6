use Rattle.std.proofs.Common.{Bool, ap, ◌∙◌, sym, not, ◌&&◌, List, ℕ, ℤ}
use Rattle.std.specs.Map.{lookup}
use Rattle.std.specs.Cmp.Lexicographic.{pointwise}
use Rattle.shadow_elim.specs.steps.Places.{is_found}
use Rattle.shadow_elim.specs.Reduction.{is_same_part}
use Rattle.shadow_elim.proofs.reduction.stays.Goals as goal

pub returns-then-not-is_trivial : goal.returns-then-not-is_trivial
returns-then-not-is_trivial c =
    let found : List (ℕ × ℤ) → Bool = λ ps. is_found c.args.place (lookup (λ k. pointwise is_same_part ps k.items)
    c.args.places.now.entries)
    in
    c.is_last.ensures ∙ ap found c.parts.ensures.value ∙ ap (λ z. not z && found c.args.term.now.parts)
    (sym c.if-not-is_trivial.true ∙ c.is_trivial.ensures)
