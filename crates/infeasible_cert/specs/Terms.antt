-- The rows of a certificate that are terms.
use Rattle.std.specs.Prelude.{◌^◌, ◌<◌, IsTrue, List, [], ◌∷◌}
use Rattle.linear_formula.specs.LinearSum.{is_term}
use Rattle.infeasible_cert.specs.declared.certificate.Derived.{Derived}
use Rattle.infeasible_cert.specs.Refutation.{Refutation, close, branch}

abbrev pub AreDerivedTerms : List Derived → Type 0
AreDerivedTerms [] = Unit {0}
AreDerivedTerms (d ∷ ds) = IsTrue (is_term d.row.term) × AreDerivedTerms ds

-- each derived row is a term, and each column has 32 bits
abbrev pub HasTerms : Refutation → Type 0
HasTerms (close ds) = AreDerivedTerms ds
HasTerms (branch ds x at low high) = AreDerivedTerms ds × (x < 2 ^ 32) × HasTerms low
    × HasTerms high
