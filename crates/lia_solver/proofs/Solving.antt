-- A question without splits, and what its search says of it.
use Rattle.std.proofs.Common.{◌≡◌, ℕ, ◌<◌, ◌≤◌, true, false, List, [], ◌++◌, length, take, drop, arith, sym, ap, subst, ◌∙◌}
use Rattle.std.specs.Prelude.{nat_lt, if◌then◌else◌}
use Rattle.std.proofs.Math.Seq.{drop-length}
use Rattle.std.proofs.lemmas.List.{append-nil, take-append-drop}
use Rattle.linear_formula.specs.LinearSum.{Is64, valuation}
use Rattle.linear_formula.specs.declared.formula.Atom.{Atom}
use Rattle.linear_formula.specs.declared.formula.Cube.{Cube}
use Rattle.infeasible_cert.specs.Refutation.{Refutation}
use Rattle.infeasible_cert.specs.Right.{rows_of, columns_of, base_rows, IsRight}
use Rattle.shadow_elim.specs.declared.limit.Limit.TheVariants.{Columns}
use Rattle.shadow_elim.specs.Plan.{search, solution, limit_met}
use Rattle.shadow_elim.proofs.PlanValues.{solution_64}
use Rattle.shadow_elim.proofs.SplitLimit.{limit_splits}
use Rattle.shadow_elim.specs.SplitCubes.{AreAllSplit, IfBranches}
use Rattle.lia_solver.specs.Answers.{IsAnswer, IfPoint, IfLimited}
use Rattle.lia_solver.specs.declared.solved.Solved.{Solved}
use Rattle.lia_solver.specs.declared.solved.Solved.TheVariants.{Point, Never, Limit}
use Rattle.lia_solver.specs.declared.search.Searched.{Searched}
use Rattle.lia_solver.specs.steps.Branches.{branch_rows, IsSearched}

-- How many columns

pub too-many-columns : (atoms : List Atom) → 256 < length (columns_of (rows_of atoms)) → solution atoms ≡ limit_met Columns
too-many-columns atoms h =
    ap (λ b. if b then limit_met Columns else search 512 [] atoms) (lt_test 256 (length (columns_of (rows_of atoms))) h) where
      lt_test : (a b : ℕ) → a < b → nat_lt a b ≡ true
      lt_test a b h = grind arith

pub few-columns : (atoms : List Atom) → length (columns_of (rows_of atoms)) ≤ 256 → solution atoms ≡ search 512 [] atoms
few-columns atoms h =
    ap (λ b. if b then limit_met Columns else search 512 [] atoms) (lt_fails 256 (length (columns_of (rows_of atoms))) h) where
      lt_fails : (a b : ℕ) → b ≤ a → nat_lt a b ≡ false
      lt_fails a b h = grind arith

-- Without splits

all-taken : (n : ℕ) (atoms : List Atom) → n ≡ length atoms → (take n atoms ≡ atoms) × (drop n atoms ≡ [])
all-taken n atoms e =
    let none : drop n atoms ≡ [] = ap (λ k. drop k atoms) e ∙ drop-length atoms in
    (sym (append-nil (take n atoms)) ∙ ap (λ as_. take n atoms ++ as_) (sym none) ∙ take-append-drop n atoms, none)

pub searched-whole : (atoms copied : List Atom) (n depth : ℕ) (splits first more : List Cube) (s : Searched) → copied ≡ atoms →
    n ≡ length atoms → splits ≡ first → IsSearched (take n copied) (drop n copied) depth more (search depth splits copied) s →
    IsSearched atoms [] depth more (search depth first atoms) s
searched-whole atoms copied n depth splits first more s ec en es h =
    let whole = all-taken n copied (en ∙ ap length (sym ec)) in
    subst (λ (ps : List Cube). IsSearched atoms [] depth more (search depth ps atoms) s) es
    (subst (λ (as_ : List Atom). IsSearched as_ [] depth more (search depth splits as_) s) ec
    (subst (λ (as_ : List Atom). IsSearched copied as_ depth more (search depth splits copied) s) whole.1
    (subst (λ (as_ : List Atom). IsSearched as_ (drop n copied) depth more (search depth splits copied) s) whole.0 h)))

pub refutes-whole : (atoms : List Atom) (c : Refutation) → IsRight (branch_rows atoms []) c → IsRight (base_rows atoms) c
refutes-whole atoms c h =
    subst (λ ts. IsRight ts c) (append-nil (base_rows atoms)) h

-- the plan's points have values of 64 bits
pub point-64 : (atoms : List Atom) (s : Solved) → IsAnswer (solution atoms) s → IfPoint s (λ at. Is64 (valuation at))
point-64 atoms (Point at) h = solution_64 atoms at h
point-64 atoms (Never certificate) h = tt
point-64 atoms (Limit limit) h = tt

-- the cubes of a limit of splits
pub limit-branches : (atoms : List Atom) (s : Solved) → IsAnswer (solution atoms) s →
    IfLimited s (λ limit. IfBranches limit (AreAllSplit atoms))
limit-branches atoms (Point at) h = tt
limit-branches atoms (Never certificate) h = tt
limit-branches atoms (Limit limit) h = limit_splits atoms limit h
