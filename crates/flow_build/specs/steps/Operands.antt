-- What edges do with operands.
use Rattle.std.specs.Prelude.{ℕ, Bool, true, false, not, List, [], ◌∷◌, ◌++◌, ℤ, pos, negsuc, ◌+ℤ◌, ◌-ℤ◌, ◌*ℤ◌, neg_ℤ}
use Rattle.c_tree.specs.Meaning.{is_value}
use Rattle.c_tree.specs.declared.tree.Op.{Op}
use Rattle.c_tree.specs.declared.tree.Op.TheVariants.{Less, LessEqual, Greater, GreaterEqual, Equal, Unequal}
use Rattle.linear_formula.specs.LinearSum.{LinearSum}
use Rattle.linear_formula.specs.Results.{combination, constant_sum}
use Rattle.linear_formula.specs.Replaced.{column_sum}
use Rattle.linear_formula.specs.declared.formula.Atom.{Atom}
use Rattle.flow_graph.specs.declared.graph.Lin.{Lin}
use Rattle.flow_build.specs.declared.operand.Operand.{Operand}
use Rattle.flow_build.specs.declared.operand.Operand.TheVariants.{Variable, Constant}

-- its literal is a value
abbrev pub is_operand : Operand → Bool
is_operand (Variable x) = true
is_operand (Constant n) = is_value n

abbrev pub multiple_parts : ℤ → Operand → List (ℤ × ℕ)
multiple_parts c (Variable x) = (c, x) ∷ []
multiple_parts c (Constant n) = []

abbrev pub constant_of : Operand → ℤ
constant_of (Variable x) = pos 0
constant_of (Constant n) = n

abbrev pub is_constant_operand : Operand → Bool
is_constant_operand (Variable x) = false
is_constant_operand (Constant n) = true

abbrev pub slot_or_zero : Operand → ℕ
slot_or_zero (Variable x) = x
slot_or_zero (Constant n) = 0

-- the multiple of a literal is no value
abbrev pub overflows_in_place : ℤ → Operand → Bool
overflows_in_place c (Variable x) = false
overflows_in_place c (Constant n) = not (is_value (c *ℤ n))

abbrev pub constant_lin : ℤ → Lin
constant_lin n = record { parts = []; constant = n }

abbrev pub scaled_lin : ℤ → Operand → Lin
scaled_lin c a = record { parts = multiple_parts c a; constant = c *ℤ constant_of a }

abbrev pub operand_lin : Operand → Lin
operand_lin a = record { parts = multiple_parts (pos 1) a; constant = constant_of a }

abbrev pub sum_lin : Operand → Operand → Lin
sum_lin a b = record {
  parts = multiple_parts (pos 1) a ++ multiple_parts (pos 1) b;
  constant = constant_of a +ℤ constant_of b;
}

abbrev pub difference_lin : Operand → Operand → Lin
difference_lin a b = record {
  parts = multiple_parts (pos 1) a ++ multiple_parts (negsuc 0) b;
  constant = constant_of a -ℤ constant_of b;
}

abbrev pub operand_sum : Operand → LinearSum
operand_sum (Variable x) = column_sum x
operand_sum (Constant n) = constant_sum n

-- c * a + d * b + k
abbrev pub weighted_sum : ℤ → Operand → ℤ → Operand → ℤ → LinearSum
weighted_sum c a d b k = combination ((c, operand_sum a) ∷ (d, operand_sum b) ∷ []) k

-- a - b + k <= 0
abbrev pub row : Operand → Operand → ℤ → Atom
row a b k = record {
  term = combination ((pos 1, operand_sum a) ∷ (negsuc 0, operand_sum b) ∷ [])
      k;
}

abbrev pub less : Operand → Operand → Atom
less a b = row a b (pos 1)

abbrev pub at_most : Operand → Operand → Atom
at_most a b = row a b (pos 0)

-- The comparison holds where all rows of one of these lists do.
abbrev pub rows_where : Op → Operand → Operand → List (List Atom)
rows_where Less a b = (less a b ∷ []) ∷ []
rows_where LessEqual a b = (at_most a b ∷ []) ∷ []
rows_where Greater a b = (less b a ∷ []) ∷ []
rows_where GreaterEqual a b = (at_most b a ∷ []) ∷ []
rows_where Equal a b = (at_most a b ∷ at_most b a ∷ []) ∷ []
rows_where Unequal a b = (less b a ∷ []) ∷ (less a b ∷ []) ∷ []
rows_where _ a b = []

abbrev pub opposite_op : Op → Op
opposite_op Less = GreaterEqual
opposite_op LessEqual = Greater
opposite_op Greater = LessEqual
opposite_op GreaterEqual = Less
opposite_op Equal = Unequal
opposite_op Unequal = Equal
opposite_op op = op

-- k times one slot and another one's, and a constant, at most 0
abbrev pub multiple_row : (c d : ℤ) → (x y : ℕ) → ℤ → Atom
multiple_row c d x y k = record {
  term = combination ((c, column_sum x) ∷ (d, column_sum y) ∷ []) k;
}

-- slot t has the quotient of slot a by k, from 0 on and below 0
abbrev pub rows_above : (k a t : ℕ) → List Atom
rows_above k a t =
    multiple_row (pos k) (negsuc 0) t a (pos 0)
    ∷ multiple_row (pos 1) (neg_ℤ (pos k)) a t (pos 1 -ℤ pos k) ∷ []

abbrev pub rows_below : (k a t : ℕ) → List Atom
rows_below k a t =
    multiple_row (pos 1) (neg_ℤ (pos k)) a t (pos 0)
    ∷ multiple_row (pos k) (negsuc 0) t a (pos 1 -ℤ pos k) ∷ []

-- slot a less c times slot t
abbrev pub rest_lin : (c : ℤ) → (a t : ℕ) → Lin
rest_lin c a t = record { parts = (pos 1, a) ∷ (neg_ℤ c, t) ∷ []; constant = pos 0 }
