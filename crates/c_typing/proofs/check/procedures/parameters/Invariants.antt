use Rattle.std.proofs.Common.{◌≡◌, drop}
use Rattle.c_typing.specs.steps.Tables.{scopes_of, notes_of}
use Rattle.c_typing.proofs.Declaring.{parameters_left, parameters_zeros}
use Rattle.c_typing.proofs.check.procedures.parameters.Given as goal

abbrev pub invariant-loop-named : goal.invariant-loop-named
invariant-loop-named l = record {
  notes : parameters_left (scopes_of l.scopes) (notes_of l.notes) (drop l.named-index l.names) ≡ parameters_left (scopes_of l.fn.scopes)
      (notes_of l.fn.notes) l.fn.names;
  scopes : parameters_zeros (scopes_of l.scopes) (drop l.named-index l.names) ≡ parameters_zeros (scopes_of l.fn.scopes) l.fn.names;
}
