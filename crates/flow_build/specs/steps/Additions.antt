-- What is added for expressions.
use Rattle.std.specs.Prelude.{◌≡◌, ℕ, ◌+◌, ◌*◌, ◌≤◌, Bool, List, ◌++◌}
use Rattle.c_tree.specs.declared.tree.Op.{Op}
use Rattle.c_tree.specs.Syntax.{Expression}
use Rattle.flow_build.specs.declared.builder.Builder.{Builder}
use Rattle.flow_build.specs.declared.layout.Layout.{Layout}
use Rattle.flow_build.specs.declared.landing.Landed.{Landed}
use Rattle.flow_build.specs.declared.landing.Reached.{Reached}
use Rattle.flow_build.specs.declared.landing.BothSides.{BothSides}
use Rattle.flow_build.specs.declared.target.Target.{Target}
use Rattle.flow_build.specs.steps.Forms.{Value, Values, Test}
use Rattle.c_tree.specs.Constants.{constant_value}
use Rattle.flow_build.specs.steps.Translation.{has_call, in_slot, kept_if, value_by, test_by, value_of, test_of}
use Rattle.flow_build.specs.steps.Blocks.{Block, edges_of}
use Rattle.flow_build.specs.steps.Lowering.{operand_at, landing, landing_of_all, argument_slot, nodes_of, nodes_of_all, nodes_of_test, slots_of, slots_of_all, slots_of_test, value_blocks, values_blocks, test_blocks}
use Rattle.flow_build.specs.steps.Building.{is_in_place}

abbrev pub binary_value : Layout → Op → Expression → Expression → Value
binary_value L op a b = value_by op (constant_value a) (constant_value b) (has_call b)
    (value_of L a) (value_of L b) (test_of L a) (test_of L b)

abbrev pub binary_test : Layout → Op → Expression → Expression → Test
binary_test L op a b = test_by op (constant_value a) (constant_value b) (has_call b)
    (value_of L a) (value_of L b) (test_of L a) (test_of L b)

abbrev pub argument_of : (later_call : Bool) → Value → Value
argument_of later_call v = in_slot (kept_if later_call v)

-- the numbers of n expression nodes fit
pub record HasRoom (n t : ℕ) (old : Builder) : Type 0 where
  pub nodes : old.next + 5 * n ≤ 4000000000
  pub slots : t + 2 * n ≤ 4000000000

-- and so few numbers are taken
pub record TakesFew (n t : ℕ) (old new : Builder) (slot : ℕ) : Type 0 where
  pub nodes : new.next + 1 ≤ old.next + 5 * n
  pub slots : slot + 1 ≤ t + 2 * n

pub record TakesFewAll (n t : ℕ) (old new : Builder) (slot : ℕ) : Type 0 where
  pub nodes : new.next ≤ old.next + 5 * n
  pub slots : slot ≤ t + 2 * n

-- these blocks are added, and the given number of nodes taken
pub record AddsBlocks (blocks : List Block) (nodes : ℕ) (old new : Builder) : Type 0 where
  pub edges : new.edges.items ≡ old.edges.items ++ edges_of blocks
  pub next : new.next ≡ old.next + nodes

-- a value's blocks are added, from a node on
pub record Adds (v : Value) (from t : ℕ) (old new : Builder) (l : Landed) : Type 0 where
  pub blocks : AddsBlocks (value_blocks v from t old.next) (nodes_of v) old new
  pub node : l.node ≡ landing v from old.next
  pub operand : l.operand ≡ operand_at v t
  pub slot : l.slot ≡ t + slots_of v
  pub in_place : l.in_place ≡ is_in_place v

pub record AddsAll (vs : Values) (from t : ℕ) (old new : Builder) (l : Reached) : Type 0 where
  pub blocks : AddsBlocks (values_blocks vs from t old.next) (nodes_of_all vs) old new
  pub node : l.node ≡ landing_of_all vs from old.next
  pub slot : l.slot ≡ t + slots_of_all vs

-- a value in a slot
pub record AddsSlot (v : Value) (from t : ℕ) (old new : Builder) (l : Reached) (slot : ℕ) : Type
    0 where
  pub blocks : AddsBlocks (value_blocks v from t old.next) (nodes_of v) old new
  pub node : l.node ≡ landing v from old.next
  pub free : l.slot ≡ t + slots_of v
  pub slot_is : slot ≡ argument_slot v t

-- the values of both sides
pub record AddsBoth (v u : Value) (from t : ℕ) (old new : Builder) (l : BothSides) : Type 0 where
  pub blocks : AddsBlocks (value_blocks v from t old.next ++ value_blocks u
      (landing v from old.next)
      (t + slots_of v) (old.next + nodes_of v)) (nodes_of v + nodes_of u) old new
  pub left : l.left ≡ operand_at v t
  pub right : l.right.operand ≡ operand_at u (t + slots_of v)
  pub node : l.right.node ≡ landing u (landing v from old.next) (old.next + nodes_of v)
  pub slot : l.right.slot ≡ t + slots_of v + slots_of u
  pub in_place : l.right.in_place ≡ is_in_place u

-- a test's blocks are added, from a node to one of the targets
pub record AddsTest (c : Test) (from : ℕ) (met unmet : Target) (t : ℕ) (old new : Builder)
    (free : ℕ) : Type 0 where
  pub blocks : AddsBlocks (test_blocks c from met unmet t old.next) (nodes_of_test c) old new
  pub slot : free ≡ t + slots_of_test c
