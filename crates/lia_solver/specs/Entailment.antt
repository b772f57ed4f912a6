-- What an answer to an entailment shows.
use Rattle.std.specs.Prelude.{List, [], ◌∷◌, ℕ, ℤ}
use Rattle.linear_formula.specs.declared.formula.Atom.{Atom}
use Rattle.infeasible_cert.specs.declared.certificate.Certificate.{Certificate}
use Rattle.infeasible_cert.specs.Refutation.{refutation_of}
use Rattle.infeasible_cert.specs.Right.{Refutes}
use Rattle.shadow_elim.specs.declared.limit.Kept.{Kept}
use Rattle.shadow_elim.specs.Questions.{CanNegate, with_negation}
use Rattle.lia_solver.specs.declared.solved.Entailed.{Entailed}
use Rattle.lia_solver.specs.declared.solved.Entailed.TheVariants.{Yes, No, Limit}

-- a certificate for each atom, in order
abbrev pub RefuteEach : List Atom → List Atom → List Certificate → Type 0
RefuteEach left [] [] = Unit {0}
RefuteEach left [] (c ∷ cs) = ⊥
RefuteEach left (atom ∷ atoms) [] = ⊥
RefuteEach left (atom ∷ atoms) (c ∷ cs) =
    CanNegate atom × Refutes (with_negation left atom) (refutation_of c) × RefuteEach left atoms cs

abbrev pub IfYes : Entailed → (List Certificate → Type 0) → Type 0
IfYes (Yes certificates) P = P certificates
IfYes (No at) P = Unit {0}
IfYes (Limit kept) P = Unit {0}

abbrev pub IfNo : Entailed → (List (ℕ × ℤ) → Type 0) → Type 0
IfNo (Yes certificates) P = Unit {0}
IfNo (No at) P = P at
IfNo (Limit kept) P = Unit {0}

abbrev pub IfLimit : Entailed → (Kept → Type 0) → Type 0
IfLimit (Yes certificates) P = Unit {0}
IfLimit (No at) P = Unit {0}
IfLimit (Limit kept) P = P kept
