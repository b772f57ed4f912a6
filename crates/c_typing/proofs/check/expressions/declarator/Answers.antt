use Rattle.std.proofs.Common.{[], ◌∷◌}
use Rattle.c_tree.specs.SourceView.{declarator_of}
use Rattle.c_typing.specs.Scope.{asserts_of_optional}
use Rattle.c_typing.specs.Faults.{optional_faults, declared_faults}
use Rattle.c_typing.specs.steps.Tables.{scopes_of, notes_of}
use Rattle.c_typing.specs.steps.FileScopes.{file_scope}
use Rattle.c_typing.proofs.Declaring.{noted_last}
use Rattle.c_typing.proofs.check.expressions.declarator.Goals as goal

pub returns-clause-notes : goal.returns-clause-notes
returns-clause-notes c =
    let file = file_scope c.args.file.now in
    let ss = scopes_of c.args.scopes.now in
    let d = declarator_of c.args.tree.now in
    noted_last (notes_of c.args.notes.now) (notes_of c.optional.new.notes) (notes_of c.declared.new.notes) (optional_faults file ss d.value)
    (declared_faults file ss d.named) [] (d.named ∷ []) (asserts_of_optional d.value) c.in_ok-optional.ensures
    c.in_ok-declared.ensures.notes
