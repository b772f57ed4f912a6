use Rattle.std.proofs.Common.{rules}
use Rattle.c_typing.specs.steps.FileScopes.{file_scope}
use Rattle.c_typing.proofs.Numbered.{global_small}
use Rattle.c_typing.proofs.lower.variable.variable_named.Goals as goal

pub overflow_cast-result : goal.overflow_cast-result
overflow_cast-result c =
    let small = global_small (file_scope c.args.file.now).globals c.as_str-name.result.now c.global_of.result c.in-Some-global_of.number
    c.requires.globals c.global_of.ensures c.in-Some-global_of.is in
    search (rules, small)
