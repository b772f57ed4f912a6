-- Procedures without a statement.
use Rattle.std.specs.Prelude.{◌≡◌, ℕ}
use Rattle.c_tree.specs.Syntax.{PureProcedure, no_statements}

pub record IsEmpty (p : PureProcedure) (params slots : ℕ) : Type 0 where
  pub params_are : p.params ≡ params
  pub slots_are : p.slots ≡ slots
  pub none : p.body ≡ no_statements
