-- The rows that a step may name, and what the check reads of them.
use Rattle.std.specs.Prelude.{◌≡◌, ℕ, List, [], ◌∷◌, ◌++◌, map, ℤ, pos, ◌+ℤ◌, ◌*ℤ◌}
use Rattle.linear_formula.specs.LinearSum.{LinearSum, coefficient}
use Rattle.linear_formula.specs.steps.Order.{InOrder}
use Rattle.infeasible_cert.specs.declared.certificate.Derived.{Derived}
use Rattle.infeasible_cert.specs.declared.rows.Place.{Place}
use Rattle.infeasible_cert.specs.declared.rows.Place.TheVariants.{Column, Constant}
use Rattle.infeasible_cert.specs.declared.rows.Row.{Row}
use Rattle.infeasible_cert.specs.declared.rows.Row.TheVariants.{Listed, Single}
use Rattle.infeasible_cert.specs.declared.rows.Rows.{Rows}
use Rattle.infeasible_cert.specs.declared.rows.Nodes.{Nodes}
use Rattle.infeasible_cert.specs.declared.rows.Nodes.TheVariants.{Top, Steps', Bound'}
use Rattle.infeasible_cert.specs.Right.{base_rows, columns_of, summands, row_at, FitsAlong, IsRoundedUp, column_products, constant_products}

-- a column's coefficient, or the constant
abbrev pub number_at : Place → LinearSum → ℤ
number_at (Column x) t = coefficient x t
number_at Constant t = t.constant

abbrev pub single : ℕ → ℤ → ℤ → LinearSum
single x a c = record { parts = (x, a) ∷ []; constant = c }

abbrev pub sum_of : Row → LinearSum
sum_of (Listed t) = t.now
sum_of (Single x a c) = single x a c

abbrev pub terms_of : List Derived → List LinearSum
terms_of ds = map (λ d. d.row.term) ds

-- rows, and those of the nodes after them
abbrev pub rows_below : List LinearSum → Nodes → List LinearSum
rows_below rows Top = rows
rows_below rows (Steps' p above derived) = rows_below rows above ++ terms_of derived.now
rows_below rows (Bound' p above x a c) = rows_below rows above ++ single x a c ∷ []

-- the rows in the order of their numbers
abbrev pub rows_in : Rows → List LinearSum
rows_in rows = rows_below (base_rows rows.columns.now.atoms.now) rows.nodes.now

abbrev pub total : List ℤ → ℤ
total [] = pos 0
total (z ∷ zs) = z +ℤ total zs

-- the products at a place
abbrev pub products : Place → List (ℤ × LinearSum) → List ℤ
products place = map (λ s. s.0 *ℤ number_at place s.1)

-- the parts of each row are in order
abbrev pub RowsInOrder : List LinearSum → Type 0
RowsInOrder [] = Unit {0}
RowsInOrder (t ∷ ts) = InOrder 0 t.parts × RowsInOrder ts

-- the sum for a column is the divisor times the row's coefficient
abbrev pub DividesAt : List LinearSum → Derived → ℕ → Type 0
DividesAt rows d x =
    FitsAlong (pos 0) (column_products x (summands rows d.parts))
    × (total (column_products x (summands rows d.parts)) ≡ d.divide *ℤ coefficient x d.row.term)

abbrev pub DividesParts : List LinearSum → Derived → List (ℕ × ℤ) → Type 0
DividesParts rows d [] = Unit {0}
DividesParts rows d (p ∷ ps) = DividesAt rows d p.0 × DividesParts rows d ps

abbrev pub DividesAll : List LinearSum → Derived → List ℕ → Type 0
DividesAll rows d [] = Unit {0}
DividesAll rows d (x ∷ xs) = DividesAt rows d x × DividesAll rows d xs

-- the rows that parts name
abbrev pub named_rows : List LinearSum → List (ℕ × ℤ) → List LinearSum
named_rows rows = map (λ p. row_at rows p.0)

-- the same for the columns of the rows that parts name
abbrev pub DividesNamed : List LinearSum → Derived → List (ℕ × ℤ) → Type 0
DividesNamed rows d ps = DividesAll rows d (columns_of (named_rows rows ps))

abbrev pub IsRightConstant : List LinearSum → Derived → Type 0
IsRightConstant rows d =
    FitsAlong (pos 0) (constant_products (summands rows d.parts))
    × IsRoundedUp (total (constant_products (summands rows d.parts))) d.divide d.row.term.constant
