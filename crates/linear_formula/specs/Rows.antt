-- Rows where they lie, as one list.
use Rattle.std.specs.Prelude.{List, ◌++◌, flat_map}
use Rattle.linear_formula.specs.declared.formula.Atom.{Atom}
use Rattle.linear_formula.specs.declared.joined.Rows.{Rows}

-- those of the blocks, and then the others
abbrev pub all_rows : Rows → List Atom
all_rows r = flat_map (λ b. b) r.blocks.now ++ r.own.now
