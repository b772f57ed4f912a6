-- The program of a tree, or its first fault.
use Rattle.std.specs.Prelude.{◌≡◌, ℕ, ◌+◌, ◌<◌, List, [], IsSome, Contains, codes, Result, Ok, Err, ◌⊎◌}
use Rattle.c_tree.specs.declared.tree.Pos.{Pos}
use Rattle.c_tree.specs.declared.tree.Program.{Program}
use Rattle.c_tree.specs.Syntax.{PureProgram}
use Rattle.c_tree.specs.Whole.{program_of}
use Rattle.c_tree.specs.SourceTree.{FileItem}
use Rattle.c_typing.specs.declared.fault.TypeFault.{TypeFault}
use Rattle.c_typing.specs.declared.fault.TypeFault.TheVariants.{UnknownName, Duplicate, WrongCount, VoidValue, NotLinear, NoMain, MainShape, OutsideLoop, OverLimit, BadDivisor}
use Rattle.c_typing.specs.declared.fault.Which.{Which}
use Rattle.c_typing.specs.declared.fault.Which.TheVariants.{Procedures, Parameters, Variables, Tokens, Assertions}
use Rattle.c_typing.specs.declared.fault.TypeError.{TypeError}
use Rattle.c_typing.specs.declared.fault.TypeError.TheVariants.{Refused, Memory}
use Rattle.c_typing.specs.Scope.{procedures_of, number_of}
use Rattle.c_typing.specs.Faults.{Fault, all_faults}
use Rattle.c_typing.specs.Lowering.{lowered_file}

-- the order of faults at one place
abbrev pub which_rank : Which → ℕ
which_rank Procedures = 0
which_rank Parameters = 1
which_rank Variables = 2
which_rank Tokens = 3
which_rank Assertions = 4

abbrev pub rank : TypeFault → ℕ
rank UnknownName = 1
rank Duplicate = 2
rank WrongCount = 3
rank VoidValue = 4
rank NotLinear = 5
rank NoMain = 6
rank MainShape = 7
rank OutsideLoop = 8
rank (OverLimit w) = 9 + which_rank w
rank BadDivisor = 14

-- by line, then by column, then by the order of faults
abbrev pub IsBefore : Fault → Fault → Type 0
IsBefore f g =
    (f.at.line < g.at.line)
    ⊎ ((f.at.line ≡ g.at.line)
    × ((f.at.column < g.at.column) ⊎ ((f.at.column ≡ g.at.column) × (rank f.fault < rank g.fault))))

abbrev pub DefinesMain : List FileItem → Type 0
DefinesMain is = IsSome (number_of (procedures_of is) (codes "main"))

abbrev pub start : Pos
start = record { line = 1; column = 1 }

-- the tree has no fault and a `main`, and this is its program
pub record IsProgram (is : List FileItem) (P : PureProgram) : Type 0 where
  pub faultless : all_faults is ≡ []
  pub main : DefinesMain is
  pub lowered : P ≡ lowered_file is

-- a fault of the tree, and none is before it
pub record IsFirstOf (is : List FileItem) (f : Fault) : Type 0 where
  pub there : Contains (all_faults is) f
  pub first : (g : Fault) → Contains (all_faults is) g → IsBefore g f → ⊥

-- nothing else is wrong, and no `main` is defined
pub record LacksMain (is : List FileItem) (f : Fault) : Type 0 where
  pub faultless : all_faults is ≡ []
  pub no_main : DefinesMain is → ⊥
  pub told : f ≡ record { fault = NoMain; at = start }

abbrev pub IsFirstFault : List FileItem → TypeFault → Pos → Type 0
IsFirstFault is f p = IsFirstOf is (record { fault = f; at = p })
    ⊎ LacksMain is (record { fault = f; at = p })

-- this program is answered, unless memory runs out
abbrev pub Gives : Result Program TypeError → PureProgram → Type 0
Gives (Ok given) P = program_of given ≡ P
Gives (Err e) P = e ≡ Memory

-- this fault is answered, unless memory runs out
abbrev pub Refuses : Result Program TypeError → TypeFault → Pos → Type 0
Refuses (Ok given) f p = ⊥
Refuses (Err e) f p = (e ≡ Refused f p) ⊎ (e ≡ Memory)
