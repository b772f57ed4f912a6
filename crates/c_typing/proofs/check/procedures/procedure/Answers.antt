use Rattle.c_tree.specs.FileView.{procedure_tree_of}
use Rattle.c_typing.specs.steps.Tables.{notes_of, best_of, is_again}
use Rattle.c_typing.specs.steps.FileScopes.{file_scope}
use Rattle.c_typing.proofs.Procedural.{procedure_said}
use Rattle.c_typing.proofs.check.procedures.procedure.Goals as goal

pub returns-clause-best : goal.returns-clause-best
returns-clause-best c =
    let file = file_scope c.args.file.now in
    let p = procedure_tree_of c.args.tree.now in
    procedure_said file (is_again file.procedures c.args.number p) p (best_of c.args.notes.now.best) (notes_of c.forget_names.new.self)
    (notes_of c.heading.new.notes) (notes_of c.body.new.notes) (notes_of c.limit.new.self) (notes_of c.limit-2.new.self) c.deref.result.now
    c.place-past.result
    c.forget_names.ensures.best c.forget_names.ensures.declared c.heading.ensures c.in_ok-body.ensures c.deref.ensures.value
    c.place-past.ensures c.limit.ensures c.limit-2.ensures
