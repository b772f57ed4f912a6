-- Certificates of some rows of a cube, made into those of all of its rows.
use Rattle.std.specs.Prelude.{ℕ, ◌+◌, ◌-◌, nat_lt, List, length, map, slice_index, ℤ, if◌then◌else◌}
use Rattle.infeasible_cert.specs.declared.certificate.Derived.{Derived}
use Rattle.infeasible_cert.specs.Refutation.{Refutation, close, branch}

-- the number that row n has when the first rows are these of `count` rows
abbrev pub number_among : List ℕ → ℕ → ℕ → ℕ
number_among numbers count n = if nat_lt n (length numbers) then slice_index numbers n else
    (n - length numbers + count)

abbrev pub renumbered_parts : List ℕ → ℕ → List (ℕ × ℤ) → List (ℕ × ℤ)
renumbered_parts numbers count parts = map (λ p. (number_among numbers count p.0, p.1)) parts

abbrev pub renumbered_row : List ℕ → ℕ → Derived → Derived
renumbered_row numbers count d = record d { parts = renumbered_parts numbers count d.parts }

abbrev pub renumbered_rows : List ℕ → ℕ → List Derived → List Derived
renumbered_rows numbers count ds = map (renumbered_row numbers count) ds

abbrev pub renumbered : List ℕ → ℕ → Refutation → Refutation
renumbered numbers count (close ds) = close (renumbered_rows numbers count ds)
renumbered numbers count (branch ds x at low high) = branch (renumbered_rows numbers count ds) x at
    (renumbered numbers count low)
    (renumbered numbers count high)
