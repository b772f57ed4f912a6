-- The first of several faults.
use Rattle.std.specs.Prelude.{ℕ, ◌==◌, Bool, ◌&&◌, ◌||◌, nat_lt, List, [], ◌∷◌, Option, Some, None, if◌then◌else◌}
use Rattle.c_typing.specs.Faults.{Fault}
use Rattle.c_typing.specs.Answer.{rank}

-- by line, then by column, then by rank
abbrev pub is_before_by : (a b c x y z : ℕ) → Bool
is_before_by a b c x y z = nat_lt a x || ((a == x) && (nat_lt b y || ((b == y) && nat_lt c z)))

abbrev pub is_before : Fault → Fault → Bool
is_before f g = is_before_by f.at.line f.at.column (rank f.fault) g.at.line g.at.column
    (rank g.fault)

-- the first of a fault before and another one
abbrev pub first_of_two : Option Fault → Fault → Fault
first_of_two None f = f
first_of_two (Some g) f = if is_before f g then f else g

-- the first of a fault before and a list
abbrev pub least_from : Option Fault → List Fault → Option Fault
least_from best [] = best
least_from best (f ∷ fs) = least_from (Some (first_of_two best f)) fs
