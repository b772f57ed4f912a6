-- What is left to try falls, fronts of atoms, and values of inputs.
use Rattle.std.proofs.Common.{◌≡◌, ℕ, zero, suc, ◌+◌, ◌-◌, ◌<◌, ◌^◌, List, [], ◌∷◌, ◌++◌, take, Option, Some, None, refl, ap, ◌∙◌, arith}
use Rattle.std.specs.Prelude.{IsTrue}
use Rattle.linear_formula.specs.LinearSum.{is_term}
use Rattle.linear_formula.specs.Formula.{are_terms}
use Rattle.linear_formula.specs.declared.formula.Atom.{Atom}
use Rattle.linear_formula.proofs.Limits.{both, both_in}
use Rattle.path_sweep.specs.declared.frames.Level.{Level}
use Rattle.path_sweep.specs.steps.Linking.{IsFirst}
use Rattle.path_sweep.specs.steps.Walks.{left_from, left_in}

pub take_terms : (n : ℕ) (atoms : List Atom) → IsTrue (are_terms atoms) → IsTrue (are_terms (take n atoms))
take_terms zero atoms h = refl
take_terms (suc n) [] h = h
take_terms (suc n) (a ∷ atoms) h =
    let hs = both (is_term a.term) (are_terms atoms) h in
    both_in (is_term a.term) (are_terms (take n atoms)) hs.0 (take_terms n atoms hs.1)

left_push : (levels : List Level) (l : Level) → left_in (levels ++ l ∷ []) ≡ left_in levels + (2 ^ 64 - l.edge)
left_push [] l = omega arith
left_push (x ∷ levels) l = let e = left_push levels l in omega (arith, e)

pub back_less : (P : ℕ → Type 0) (old levels : List Level) (l : Level) (next : Option ℕ) → old ≡ levels ++ l ∷ [] → l.edge < 2 ^ 64 →
    IsFirst P (l.edge + 1) next → left_from next + left_in levels < left_in old
back_less P old levels l None is small first = let e = ap left_in is ∙ left_push levels l in omega (arith, e, small)
back_less P old levels l (Some j) is small first = let e = ap left_in is ∙ left_push levels l in let le = first.0 in
    omega (arith, e, small, le)

pub pass_less : (P : ℕ → Type 0) (levels : List Level) (edge : ℕ) (old next : Option ℕ) → old ≡ Some edge → edge < 2 ^ 64 →
    IsFirst P (edge + 1) next → left_from next + left_in levels < left_from old + left_in levels
pass_less P levels edge old None is small first = let e : left_from old ≡ 2 ^ 64 - edge = ap left_from is in omega (arith, e, small)
pass_less P levels edge old (Some j) is small first =
    let e : left_from old ≡ 2 ^ 64 - edge = ap left_from is in let le = first.0 in omega (arith, e, small, le)
