use Rattle.std.proofs.Common.{Some}
use Rattle.c_typing.proofs.Known.{must_succeed, changed, none_there}
use Rattle.c_typing.proofs.scopes.restore.Goals as goal

pub returns-in-Some : goal.returns-in-Some
returns-in-Some c =
    let updates = must_succeed c.insert.result c.insert.ensures.updates c.insert.ensures.absent (none_there _ c.requires) in
    changed c.args.name.now c.args.meanings.now c.insert.new.self (Some c.in-Some.meaning) c.args.before updates c.in-Some.is

pub returns-in-None : goal.returns-in-None
returns-in-None c =
    changed c.args.name.now c.args.meanings.now c.swap_remove.new.self _ c.args.before c.swap_remove.ensures.updates c.in-None.is
