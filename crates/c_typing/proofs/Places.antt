-- What the name of a variable means, in the measures of a program.
use Rattle.std.proofs.Common.{◌≡◌, ℕ, ◌+◌, ◌<◌, ◌≤◌, Bool, true, false, ◌&&◌, List, [], length, Option, Some, None, is_none, unwrap_or, nat_lt, pos, refl, arith, if◌then◌else◌}
use Rattle.std.proofs.lemmas.Bool.{lt-ltb}
use Rattle.c_tree.specs.declared.tree.Op.{Op}
use Rattle.c_tree.specs.Constants.{constant_value}
use Rattle.c_tree.specs.Operators.{is_division}
use Rattle.c_tree.specs.Syntax as program
use Rattle.c_tree.specs.Syntax.{Expression, PureProgram}
use Rattle.c_tree.specs.WellFormed.{is_well_scoped, runs_well_scoped, is_linear, runs_linear, nodes, statement_nodes, asserted_by, divides_by_literals, runs_divide_by_literals}
use Rattle.c_tree.specs.SourceTree.{Identifier}
use Rattle.c_typing.specs.declared.fault.TypeFault.TheVariants.{UnknownName}
use Rattle.c_typing.specs.Scope.{Scope, FileScope, slot_of, global_of}
use Rattle.c_typing.specs.Faults.{name_faults}
use Rattle.c_typing.specs.Lowering.{VariablePlace, local, global, place_from, place, read_of, set_of, changed, right_side}
use Rattle.c_typing.proofs.Basics.{no_fault, both, Below}
use Rattle.c_typing.proofs.Numbered.{global_high}

-- Names exist

module _ (P : PureProgram) (slots : ℕ) where
  abbrev pub IsThere : VariablePlace → Type 0
  IsThere (local s) = s < slots
  IsThere (global y) = y < length P.globals

  pub place-there : (file : FileScope) (ss : List Scope) (n : Identifier) → length file.globals ≤ length P.globals → Below ss slots →
      name_faults file ss n ≡ [] → IsThere (place file ss n.name)
  place-there file ss n few below e = go (slot_of ss n.name) (global_of file.globals n.name) (below.below n.name)
      (global_high file.globals n.name)
      (no_fault (is_none (slot_of ss n.name) && is_none (global_of file.globals n.name)) UnknownName n.at e)
    where
      go : (o g : Option ℕ) → ((s : ℕ) → o ≡ Some s → s < slots) → ((y : ℕ) → g ≡ Some y → y < length file.globals) →
          (is_none o && is_none g) ≡ false → IsThere (place_from o g)
      go (Some s) g low high e = low s refl
      go None (Some y) low high e = let h = high y refl in omega arith
      go None None low high e = absurd cc

  pub read-sound : (v : VariablePlace) → IsThere v → is_well_scoped P slots (read_of v) ≡ true
  read-sound (local s) h = lt-ltb s slots h
  read-sound (global y) h = lt-ltb y (length P.globals) h

  pub set-sound : (l : Bool) (v : VariablePlace) (e : Expression) → IsThere v → is_well_scoped P slots e ≡ true →
      runs_well_scoped P slots l (set_of v e) ≡ true
  set-sound l (local s) e h sound = both (nat_lt s slots) (is_well_scoped P slots e) (lt-ltb s slots h) sound
  set-sound l (global y) e h sound = both (nat_lt y (length P.globals)) (is_well_scoped P slots e) (lt-ltb y (length P.globals) h) sound

  pub changed-sound : (l : Bool) (v : VariablePlace) (o : Op) (e : Expression) → IsThere v → is_well_scoped P slots e ≡ true →
      runs_well_scoped P slots l (changed v o e) ≡ true
  changed-sound l v o e h sound = set-sound l v (program.binary o (read_of v) e) h
      (both (is_well_scoped P slots (read_of v)) (is_well_scoped P slots e) (read-sound v h) sound)

  pub right-sound : (o : Op) (e : Expression) → is_well_scoped P slots e ≡ true → is_well_scoped P slots (right_side o e) ≡ true
  right-sound o e h = go (is_division o)
    where
      go : (b : Bool) → is_well_scoped P slots (if b then program.literal (unwrap_or (constant_value e) (pos 0)) else e) ≡ true
      go true = refl
      go false = h

-- Products

pub read-linear : (v : VariablePlace) → is_linear (read_of v) ≡ true
read-linear (local s) = refl
read-linear (global y) = refl

pub set-linear : (v : VariablePlace) (e : Expression) → is_linear e ≡ true → runs_linear (set_of v e) ≡ true
set-linear (local s) e h = h
set-linear (global y) e h = h

pub right-linear : (o : Op) (e : Expression) → is_linear e ≡ true → is_linear (right_side o e) ≡ true
right-linear o e h = go (is_division o)
  where
    go : (b : Bool) → is_linear (if b then program.literal (unwrap_or (constant_value e) (pos 0)) else e) ≡ true
    go true = refl
    go false = h

-- Assertions

pub set-asserts : (v : VariablePlace) (e : Expression) → asserted_by (set_of v e) ≡ []
set-asserts (local s) e = refl
set-asserts (global y) e = refl

-- Nodes

pub read-nodes : (v : VariablePlace) → nodes (read_of v) ≡ 1
read-nodes (local s) = refl
read-nodes (global y) = refl

pub set-nodes : (v : VariablePlace) (e : Expression) → statement_nodes (set_of v e) ≡ 1 + nodes e
set-nodes (local s) e = refl
set-nodes (global y) e = refl

pub changed-nodes : (v : VariablePlace) (o : Op) (e : Expression) → statement_nodes (changed v o e) ≡ 3 + nodes e
changed-nodes v o e = omega (arith, set-nodes v (program.binary o (read_of v) e), read-nodes v)

some-node : (e : Expression) → 1 ≤ nodes e
some-node (program.literal n) = omega arith
some-node (program.read x) = omega arith
some-node (program.read_global y) = omega arith
some-node program.input = omega arith
some-node (program.call p es) = omega arith
some-node (program.negate e) = omega arith
some-node (program.not e) = omega arith
some-node (program.binary o a b) = omega arith

pub right-nodes : (o : Op) (e : Expression) → nodes (right_side o e) ≤ nodes e
right-nodes o e = go (is_division o)
  where
    go : (b : Bool) → nodes (if b then program.literal (unwrap_or (constant_value e) (pos 0)) else e) ≤ nodes e
    go true = some-node e
    go false = omega arith

-- Divisions

pub read-divides : (v : VariablePlace) → divides_by_literals (read_of v) ≡ true
read-divides (local s) = refl
read-divides (global y) = refl

pub set-divides : (v : VariablePlace) (e : Expression) → divides_by_literals e ≡ true → runs_divide_by_literals (set_of v e) ≡ true
set-divides (local s) e h = h
set-divides (global y) e h = h
