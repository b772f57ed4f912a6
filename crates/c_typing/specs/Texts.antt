-- The texts of faults.
use Rattle.std.specs.Prelude.{ℕ, List, codes}
use Rattle.c_typing.specs.declared.fault.TypeFault.{TypeFault}
use Rattle.c_typing.specs.declared.fault.TypeFault.TheVariants.{UnknownName, Duplicate, WrongCount, VoidValue, NotLinear, NoMain, MainShape, OutsideLoop, OverLimit, BadDivisor}
use Rattle.c_typing.specs.declared.fault.Which.TheVariants.{Procedures, Parameters, Variables, Tokens, Assertions}

abbrev pub type_fault_text : TypeFault → List ℕ
type_fault_text UnknownName = codes "unknown name"
type_fault_text Duplicate = codes "duplicate name"
type_fault_text WrongCount = codes "wrong number of arguments"
type_fault_text VoidValue = codes "void used as value"
type_fault_text NotLinear = codes "product of two non-constants"
type_fault_text NoMain = codes "no main"
type_fault_text MainShape = codes "main has the wrong shape"
type_fault_text OutsideLoop = codes "break or continue outside a loop"
type_fault_text (OverLimit Procedures) = codes "too many procedures"
type_fault_text (OverLimit Parameters) = codes "too many parameters"
type_fault_text (OverLimit Variables) = codes "too many variables"
type_fault_text (OverLimit Tokens) = codes "too many tokens"
type_fault_text (OverLimit Assertions) = codes "too many assertions"
type_fault_text BadDivisor = codes "divisor not allowed"
