use Rattle.std.proofs.Common.{◌≡◌, map, drop}
use Rattle.c_tree.specs.SourceView.{identifier_of}
use Rattle.c_typing.specs.Scope.{with_names}
use Rattle.c_typing.specs.steps.Tables.{scopes_of}
use Rattle.c_typing.proofs.lower.program.parameters.Given as goal

abbrev pub invariant-loop-named : goal.invariant-loop-named
invariant-loop-named l = record {
  slot : l.slot ≡ l.named-index;
  scopes : with_names (scopes_of l.scopes) l.slot (map identifier_of (drop l.named-index l.names)) ≡ with_names (scopes_of l.fn.scopes) 0
      (map identifier_of l.names);
}
