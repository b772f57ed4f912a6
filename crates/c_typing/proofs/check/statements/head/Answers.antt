use Rattle.c_tree.specs.SourceView.{init_of, optional_tree, optional_simple}
use Rattle.std.proofs.Common.{false}
use Rattle.c_typing.specs.steps.Tables.{scopes_of, notes_of}
use Rattle.c_typing.specs.steps.FileScopes.{file_scope}
use Rattle.c_typing.proofs.Saying.{head_said}
use Rattle.c_typing.proofs.check.statements.head.Goals as goal

pub returns-clause-notes : goal.returns-clause-notes
returns-clause-notes c =
    head_said (file_scope c.args.file.now) false (scopes_of c.args.scopes.now) (scopes_of c.open.new.self)
    (scopes_of c.first.new.scopes) (notes_of c.args.notes.now) (notes_of c.first.new.notes) (notes_of c.optional.new.notes)
    (notes_of c.step.new.notes)
    (init_of c.args.start.now) (optional_tree c.args.test.now) (optional_simple c.args.next.now) c.in_ok-open.ensures
    c.in_ok-first.ensures.scopes c.in_ok-first.ensures.notes c.in_ok-optional.ensures c.in_ok-step.ensures
