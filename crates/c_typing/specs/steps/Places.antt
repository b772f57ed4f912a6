-- What contracts see of what a name of a variable means in the code.
use Rattle.c_typing.specs.declared.lower.variable.Variable.{Variable}
use Rattle.c_typing.specs.declared.lower.variable.Variable.TheVariants as variable
use Rattle.c_typing.specs.Lowering.{VariablePlace, local, global}

abbrev pub place_of : Variable → VariablePlace
place_of (variable.Slot s) = local s
place_of (variable.Global y) = global y
