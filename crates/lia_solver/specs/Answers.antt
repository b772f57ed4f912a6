-- When an answer is that of the plan.
use Rattle.std.specs.Prelude.{◌≡◌, ℕ, ℤ, List}
use Rattle.infeasible_cert.specs.declared.certificate.Certificate.{Certificate}
use Rattle.shadow_elim.specs.Plan.{Search, found, limit_met}
use Rattle.shadow_elim.specs.Questions.{IsNothing}
use Rattle.shadow_elim.specs.declared.limit.Limit.{Limit as Limits}
use Rattle.lia_solver.specs.declared.solved.Solved.{Solved}
use Rattle.lia_solver.specs.declared.solved.Solved.TheVariants.{Point, Never, Limit}

-- the answer is that of the search
abbrev pub IsAnswer : Search → Solved → Type 0
IsAnswer search (Point at) = search ≡ found at
IsAnswer search (Never certificate) = IsNothing search
IsAnswer search (Limit limit) = search ≡ limit_met limit

abbrev pub IfPoint : Solved → (List (ℕ × ℤ) → Type 0) → Type 0
IfPoint (Point at) P = P at
IfPoint (Never certificate) P = Unit {0}
IfPoint (Limit limit) P = Unit {0}

abbrev pub IfNever : Solved → (Certificate → Type 0) → Type 0
IfNever (Point at) P = Unit {0}
IfNever (Never certificate) P = P certificate
IfNever (Limit limit) P = Unit {0}

abbrev pub IfLimited : Solved → (Limits → Type 0) → Type 0
IfLimited (Point at) P = Unit {0}
IfLimited (Never certificate) P = Unit {0}
IfLimited (Limit limit) P = P limit
