-- What contracts see of a file scope in the code.
use Rattle.std.specs.Prelude.{take}
use Rattle.c_typing.specs.declared.table.FileScope.{FileScope as Shared}
use Rattle.c_typing.specs.Scope.{FileScope}
use Rattle.c_typing.specs.steps.Tables.{procedures_in}
use Rattle.c_typing.specs.steps.Listed.{names_in}

-- all procedures of the file, and its first globals
abbrev pub file_scope : Shared → FileScope
file_scope f = record {
  procedures = procedures_in f.table.now.items.now;
  globals = take f.globals (names_in f.table.now.items.now);
}
