-- A limit that a question meets is right.
use Rattle.std.proofs.Common.{◌≡◌, ◌≢◌, ◌⊎◌, inl, inr, ℕ, zero, suc, nat_lt, nat_le, ℤ, pos, ◌+ℤ◌, Bool, true, false, List, [], ◌∷◌, ◌++◌, length, None, refl, sym, subst}
use Rattle.std.specs.Prelude.{if◌then◌else◌}
use Rattle.linear_formula.specs.declared.formula.Atom.{Atom}
use Rattle.linear_formula.specs.declared.formula.Cube.{Cube}
use Rattle.linear_formula.specs.declared.question.Question.TheVariants as asks
use Rattle.infeasible_cert.specs.Right.{columns_of, rows_of, at_most, at_least}
use Rattle.shadow_elim.specs.LimitKinds.{kind_of}
use Rattle.shadow_elim.specs.Plan.{Search, found, nothing, limit_met, outcome_of, settled, search, search_on, solution, with_row, cube_of}
use Rattle.shadow_elim.specs.Points.{Outcome, chosen, refuted, split, too_wide, too_many_rows}
use Rattle.shadow_elim.specs.RightLimit.{IsRight, MeetsLimit as Meets}
use Rattle.shadow_elim.specs.Sums.{first_wide, IsFirstWide}
use Rattle.shadow_elim.proofs.Summing.{first-wide}
use Rattle.shadow_elim.specs.declared.limit.Kept.{Kept}
use Rattle.shadow_elim.specs.declared.limit.Limit.TheVariants as limit
use Rattle.shadow_elim.specs.declared.limit.LimitKind.TheVariants as kind
use Rattle.shadow_elim.specs.declared.limit.TheConstants.{MAX_COLUMNS, MAX_SPLITS}
use Rattle.shadow_elim.specs.declared.sum.Sum.{Sum}
use Rattle.path_sweep.specs.Laws.{LimitsAreRight}

-- Sums

wide_right : (sums : List Sum) (kept : Kept) → IsFirstWide sums kept → IsRight kept × (kind_of kept.limit ≢ kind.Inexact)
wide_right sums kept h =
    subst (λ k. IsRight k × (kind_of k.limit ≢ kind.Inexact)) (sym h.same) ((refl, first-wide sums h.sum h.first), λ e. cc)

-- Searches

abbrev IsExact : Search → Type 0
IsExact (found values) = Unit {0}
IsExact (nothing splits) = Unit {0}
IsExact (limit_met l) = kind_of l ≢ kind.Inexact

settled_exact : (splits : List Cube) (atoms : List Atom) (divide : ℕ → ℤ → Search) → ((x : ℕ) (k : ℤ) → IsExact (divide x k)) →
    (o : Outcome) →
    IsExact (settled splits atoms divide o)
settled_exact splits atoms divide h (chosen values) = tt
settled_exact splits atoms divide h refuted = tt
settled_exact splits atoms divide h (split x k) = h x k
settled_exact splits atoms divide h too_wide = λ e. cc
settled_exact splits atoms divide h too_many_rows = λ e. cc

on_exact : (next : List Cube → Search) (s : Search) → ((splits : List Cube) → IsExact (next splits)) → IsExact s →
    IsExact (search_on next s)
on_exact next (found values) h k = tt
on_exact next (nothing splits) h k = h splits
on_exact next (limit_met l) h k = k

if_exact : (b : Bool) (x y : Search) → IsExact x → IsExact y → IsExact (if b then x else y)
if_exact true x y h k = h
if_exact false x y h k = k

search_exact : (depth : ℕ) (splits : List Cube) (atoms : List Atom) → IsExact (search depth splits atoms)
search_exact zero splits atoms = settled_exact splits atoms (λ x k. limit_met (limit.Branches splits)) (λ x k e. cc) (outcome_of atoms)
search_exact (suc depth) splits atoms =
    settled_exact splits atoms (λ x k. if nat_le MAX_SPLITS (length splits) then limit_met (limit.Branches splits)
    else search_on (λ more. search depth more (with_row atoms (at_least x (k +ℤ pos 1))))
    (search depth (splits ++ cube_of atoms ∷ []) (with_row atoms (at_most x k))))
    (λ x k. if_exact (nat_le MAX_SPLITS (length splits)) (limit_met (limit.Branches splits))
    (search_on (λ more. search depth more (with_row atoms (at_least x (k +ℤ pos 1))))
    (search depth (splits ++ cube_of atoms ∷ []) (with_row atoms (at_most x k)))) (λ e. cc)
    (on_exact (λ more. search depth more (with_row atoms (at_least x (k +ℤ pos 1))))
    (search depth (splits ++ cube_of atoms ∷ []) (with_row atoms (at_most x k)))
    (λ more. search_exact depth more (with_row atoms (at_least x (k +ℤ pos 1))))
    (search_exact depth (splits ++ cube_of atoms ∷ []) (with_row atoms (at_most x k))))) (outcome_of atoms)

solution_exact : (atoms : List Atom) → IsExact (solution atoms)
solution_exact atoms = if_exact (nat_lt MAX_COLUMNS (length (columns_of (rows_of atoms)))) (limit_met limit.Columns)
    (search MAX_SPLITS [] atoms)
    (λ e. cc) (search_exact MAX_SPLITS [] atoms)

pub limits_are_right : LimitsAreRight
limits_are_right gs main path kept h = by_kind h.meets where
  guard_right : (atoms : List Atom) → kept.question ≡ asks.Cube (record { atoms = atoms }) → solution atoms ≡ limit_met kept.limit →
      IsRight kept × (kind_of kept.limit ≢ kind.Inexact)
  guard_right atoms q s = (subst (λ x. Meets x kept.limit) (sym q) s, subst IsExact s (solution_exact atoms))

  by_kind : IsFirstWide h.question.sums kept ⊎ ((first_wide h.question.sums ≡ None)
      × (kept.question ≡ asks.Cube (record { atoms = h.question.after.guard }))
      × (solution h.question.after.guard ≡ limit_met kept.limit)) →
      IsRight kept × (kind_of kept.limit ≢ kind.Inexact)
  by_kind (inl w) = wide_right h.question.sums kept w
  by_kind (inr g) = guard_right h.question.after.guard g.1 g.2
