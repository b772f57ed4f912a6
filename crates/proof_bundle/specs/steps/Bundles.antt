-- What is read of the text of a bundle, kind by kind of line.
use Rattle.std.specs.Prelude.{ℕ, zero, suc, ◌^◌, ◌-◌, nat_le, Bool, true, false, ◌&&◌, Option, Some, None, List, [], ◌∷◌, ◌++◌, length, codes, ℤ, if◌then◌else◌}
use Rattle.linear_formula.specs.LinearSum.{has_no_zero, is_ascending, max_coefficient, max_constant, max_parts}
use Rattle.linear_formula.specs.declared.formula.Atom.{Atom}
use Rattle.infeasible_cert.specs.Refutation.{Refutation, close, branch}
use Rattle.infeasible_cert.specs.Right.{max_nesting}
use Rattle.infeasible_cert.specs.declared.certificate.Derived.{Derived}
use Rattle.summary_form.specs.declared.query.ExitKind.{ExitKind}
use Rattle.summary_form.specs.declared.query.ExitKind.TheVariants.{Return, Fail}
use Rattle.may_partition.specs.declared.region.RegionEdge.{RegionEdge}
use Rattle.proof_bundle.specs.Claims.{PureBundle, PureClaim, PureMove, split, kill, kill_call}
use Rattle.proof_bundle.specs.Text.{max_source}
use Rattle.proof_bundle.specs.steps.Reading.{◌>>=◌, Read, begins, bytes_at, lines_at, list_at, max_count, max_thing, number_at, signed_at, tag_at, tagged_at}

-- Rows

-- a column and its coefficient
unfoldable pub pair_at : List ℕ → Read (ℕ × ℤ)
pair_at bytes = do
  column ← number_at 32 max_thing bytes
  coefficient ← signed_at 32 max_coefficient max_coefficient column.1
  Some ((column.0, coefficient.0), coefficient.1)

-- besides the ranges of its numbers
abbrev pub is_row : List (ℕ × ℤ) → Bool
is_row parts = nat_le (length parts) max_parts && is_ascending parts && has_no_zero parts

unfoldable pub row_at : List ℕ → Read Atom
row_at bytes = do
  rest ← tag_at (codes "row ") bytes
  count ← number_at 32 max_count rest
  parts ← list_at pair_at count.0 count.1
  constant ← signed_at 10 max_constant max_constant parts.1
  if is_row parts.0
      then Some (record { term = record { parts = parts.0; constant = constant.0 } }, constant.1)
      else None

unfoldable pub cube_at : List ℕ → Read (List Atom)
cube_at bytes = tagged_at (codes "cube ") row_at bytes

-- Certificates

-- the number of a row, and its multiplier
unfoldable pub multiple_at : List ℕ → Read (ℕ × ℤ)
multiple_at bytes = do
  number ← number_at 32 max_thing bytes
  by ← signed_at 32 (2 ^ 63) (2 ^ 63 - 1) number.1
  Some ((number.0, by.0), by.1)

unfoldable pub derived_at : List ℕ → Read Derived
derived_at bytes = do
  rest ← tag_at (codes "derive ") bytes
  count ← number_at 32 max_count rest
  parts ← list_at multiple_at count.0 count.1
  divide ← signed_at 10 (2 ^ 63) (2 ^ 63 - 1) parts.1
  row ← row_at divide.1
  Some (record { row = row.0; parts = parts.0; divide = divide.0 }, row.1)

unfoldable pub close_at : List ℕ → Read Refutation
close_at bytes = do
  rows ← tagged_at (codes "close ") derived_at bytes
  Some (close rows.0, rows.1)

-- with two certificates of the kind `one`
unfoldable pub branch_at : (List ℕ → Read Refutation) → List ℕ → Read Refutation
branch_at one bytes = do
  rest ← tag_at (codes "branch ") bytes
  count ← number_at 32 max_count rest
  column ← number_at 32 max_thing count.1
  at ← signed_at 10 (2 ^ 63) (2 ^ 63 - 1) column.1
  rows ← list_at derived_at count.0 at.1
  low ← one rows.1
  high ← one low.1
  Some (branch rows.0 column.0 at.0 low.0 high.0, high.1)

-- whose branches nest at most so deep
unfoldable pub refutation_at : ℕ → List ℕ → Read Refutation
refutation_at zero bytes = close_at bytes
refutation_at (suc depth) bytes =
    if begins 98 bytes then branch_at (refutation_at depth) bytes else close_at bytes

unfoldable pub certificate_at : List ℕ → Read Refutation
certificate_at bytes = refutation_at max_nesting bytes

-- Moves

-- an edge, with the byte `end` after it
unfoldable pub edge_at : ℕ → List ℕ → Read RegionEdge
edge_at end bytes = do
  edge ← number_at 32 max_thing bytes
  from ← number_at 32 max_thing edge.1
  to ← number_at end max_thing from.1
  Some (record { edge = edge.0; from = from.0; to = to.0 }, to.1)

unfoldable pub split_at : List ℕ → Read PureMove
split_at bytes = do
  rest ← tag_at (codes "split ") bytes
  edge ← edge_at 10 rest
  atoms ← cube_at edge.1
  Some (split edge.0 atoms.0, atoms.1)

unfoldable pub kill_at : List ℕ → Read PureMove
kill_at bytes = do
  rest ← tag_at (codes "kill ") bytes
  edge ← edge_at 10 rest
  by ← certificate_at edge.1
  Some (kill edge.0 by.0, by.1)

unfoldable pub call_at : List ℕ → Read PureMove
call_at bytes = do
  rest ← tag_at (codes "call ") bytes
  edge ← edge_at 32 rest
  claim ← number_at 32 max_thing edge.1
  proof ← lines_at certificate_at claim.1
  Some (kill_call edge.0 claim.0 proof.0, proof.1)

unfoldable pub move_at : List ℕ → Read PureMove
move_at bytes =
    if begins 115 bytes then split_at bytes else
    (if begins 107 bytes then kill_at bytes else call_at bytes)

-- Claims

unfoldable pub fail_at : List ℕ → Read ExitKind
fail_at bytes = do
  rest ← tag_at (codes "fail ") bytes
  id ← number_at 10 max_thing rest
  Some (Fail id.0, id.1)

unfoldable pub return_at : List ℕ → Read ExitKind
return_at bytes = do
  rest ← tag_at (codes "return" ++ 10 ∷ []) bytes
  Some (Return, rest)

unfoldable pub exit_at : List ℕ → Read ExitKind
exit_at bytes = if begins 114 bytes then return_at bytes else fail_at bytes

unfoldable pub claim_at : List ℕ → Read PureClaim
claim_at bytes = do
  rest ← tag_at (codes "claim ") bytes
  proc ← number_at 32 max_thing rest
  exit ← exit_at proc.1
  start ← cube_at exit.1
  end ← cube_at start.1
  moves ← tagged_at (codes "moves ") move_at end.1
  Some (
    record {
      query = record {
        proc = proc.0;
        exit = exit.0;
        start = record { atoms = start.0 };
        end = record { atoms = end.0 };
      };
      moves = moves.0;
    },
    moves.1,
  )

-- Bundles

unfoldable pub source_at : List ℕ → Read (List ℕ)
source_at bytes = do
  rest ← tag_at (codes "smash-bundle 1" ++ (10 ∷ codes "source ")) bytes
  size ← number_at 10 max_source rest
  bytes_at size.0 size.1

-- one less than the number
abbrev pub before : ℕ → Option ℕ
before zero = None
before (suc n) = Some n

unfoldable pub id_at : List ℕ → Read ℕ
id_at bytes = do
  rest ← tag_at (10 ∷ codes "assert ") bytes
  number ← number_at 10 (2 ^ 32) rest
  id ← before number.0
  Some (id, number.1)

-- the text is over
abbrev pub ended : List ℕ → Bool
ended [] = true
ended (b ∷ bs) = false

unfoldable pub bundle_at : List ℕ → Option PureBundle
bundle_at bytes = do
  source ← source_at bytes
  id ← id_at source.1
  claims ← tagged_at (codes "claims ") claim_at id.1
  if ended claims.1
      then Some (record { source = source.0; id = id.0; claims = claims.0 })
      else None
