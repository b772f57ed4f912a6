-- Atoms that are some of a list, one passed after the other.
use Rattle.std.proofs.Common.{◌≡◌, inl, inr, ℕ, ◌+◌, ◌≤◌, ◌==◌, List, take, take_all, length, arith, sym, subst}
use Rattle.std.specs.Prelude.{IsTrue, Some, slice_get}
use borrow.Author.Tests.{eqb-true}
use Rattle.linear_formula.specs.declared.formula.Atom.{Atom}
use Rattle.query_rules.specs.Rows.{IsSome}
use Rattle.punch_step.specs.steps.Passing.{IsPassed}
use Rattle.punch_step.proofs.Choosing.{some_passed, some_taken, take_more}

pub some_more_passed : (atoms all : List Atom) (next after n : ℕ) (a : Atom) → slice_get all n ≡ Some a → IsPassed atoms next a after →
    IsSome (take next atoms) (take n all) → IsSome (take after atoms) (take (n + 1) all)
some_more_passed atoms all next after n a at (inl same) h =
    subst (λ k. IsSome (take k atoms) (take (n + 1) all)) (sym same) (some_passed (take next atoms) all n a at h)
some_more_passed atoms all next after n a at (inr more) h =
    subst (λ k. IsSome (take k atoms) (take (n + 1) all)) (sym more.0)
    (subst (λ xs. IsSome xs (take (n + 1) all)) (sym (take_more atoms next a more.1))
    (some_taken (take next atoms) all n a at h))

pub all_passed : (atoms all : List Atom) (next n : ℕ) → next ≤ length atoms → length all ≤ n → IsSome (take next atoms) (take n all) →
    IsTrue (next == length atoms) → IsSome atoms all
all_passed atoms all next n low high h t =
    subst (IsSome atoms) (take_all n all high)
    (subst (λ xs. IsSome xs (take n all)) (take_all next atoms (omega (arith, eqb-true next (length atoms) t))) h)
