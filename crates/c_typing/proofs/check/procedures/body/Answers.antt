use Rattle.c_typing.specs.steps.Tables.{scopes_of, notes_of}
use Rattle.c_typing.specs.steps.FileScopes.{file_scope}
use Rattle.std.proofs.Common.{◌∙◌, ap, [], ◌∷◌}
use Rattle.c_typing.proofs.Procedural.{body_said}
use Rattle.c_typing.proofs.check.procedures.body.Goals as goal

pub returns : goal.returns
returns c =
    body_said (file_scope c.args.file.now) c.args.tree.now.void (scopes_of c.open.new.self)
    (scopes_of c.parameters.new.scopes)
    (notes_of c.args.notes.now) (notes_of c.parameters.new.notes) (notes_of c.limit.new.self) (notes_of c.statements.new.notes)
    c.args.tree.now.params.items c.deref.result.now c.deref-2.result.now c.args.tree.now.body.items c.deref-3.result.now c.place_at.result
    (c.in_ok-open.ensures ∙ ap (λ s. [] ∷ s) c.new-scopes.ensures) c.deref.ensures.value c.deref-2.ensures.value c.deref-3.ensures.value
    c.in_ok-parameters.ensures.scopes c.in_ok-parameters.ensures.notes c.place_at.ensures c.limit.ensures c.in_ok-statements.ensures.notes
