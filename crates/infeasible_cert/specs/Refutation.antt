-- Certificates without where they lie in memory.
use Rattle.std.specs.Prelude.{ℕ, ℤ, List}
use Rattle.infeasible_cert.specs.declared.certificate.Derived.{Derived}
use Rattle.infeasible_cert.specs.declared.certificate.Certificate.{Certificate}
use Rattle.infeasible_cert.specs.declared.certificate.Certificate.TheVariants.{Close, Branch'}

pub data Refutation : Type 0 where
  close : List Derived → Refutation
  branch : (rows : List Derived) (column : ℕ) (at : ℤ) (low high : Refutation) → Refutation

abbrev pub refutation_of : Certificate → Refutation
refutation_of (Close rows) = close rows.items
refutation_of (Branch' rows column at p low q high) = branch rows.items column at
    (refutation_of low)
    (refutation_of high)
