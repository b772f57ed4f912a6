-- A number of coefficients, and the chain that it names: their columns, their sizes and their signs
-- count.
use Rattle.std.specs.Prelude.{ℕ, ◌+◌, ◌*◌, ◌/◌, ◌%◌, List, fold, ℤ, pos, int_lt, unsigned_abs, if◌then◌else◌}

abbrev pub sign_code : ℤ → ℕ
sign_code z = if int_lt z (pos 0) then 131 else 0

abbrev pub next_hash : ℕ → ℕ × ℤ → ℕ
next_hash h p =
    (h + (101 * p.0 + 7 * unsigned_abs p.1 + sign_code p.1)) % 4294967296 * 2654435761 % 4294967296

abbrev pub hash_of : List (ℕ × ℤ) → ℕ
hash_of parts = fold next_hash 0 parts

-- the place of the chain among `chains` chains
abbrev pub chain_of : (chains hash : ℕ) → ℕ
chain_of chains hash = hash * chains / 4294967296

abbrev pub bucket_of : (chains : ℕ) → List (ℕ × ℤ) → ℕ
bucket_of chains parts = chain_of chains (hash_of parts)
