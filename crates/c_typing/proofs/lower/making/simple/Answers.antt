use Rattle.c_typing.specs.steps.Tables.{callee_from}
use Rattle.c_typing.specs.steps.FileScopes.{file_scope}
use Rattle.c_typing.proofs.Lowered.{callee_fits}
use Rattle.c_typing.proofs.lower.making.simple.Goals as goal

pub called_statement-requires : goal.called_statement-requires
called_statement-requires c = callee_fits (file_scope c.args.file.now).procedures c.as_str.result.now
    (callee_from c.callee_of-called.result)
    c.requires.procedures c.callee_of-called.ensures
