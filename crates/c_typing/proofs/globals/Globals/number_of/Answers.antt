use Rattle.c_typing.specs.Scope.{global_names}
use Rattle.c_typing.specs.steps.Listed.{listed}
use Rattle.c_typing.proofs.Numbered.{number_known, number_past, number_none}
use Rattle.c_typing.proofs.globals.Globals.number_of.Goals as goal

pub returns-then-number-known : goal.returns-then-number-known
returns-then-number-known c = number_known (global_names (listed c.args.self.now.list.items)) c.args.name.now c.first.result
    c.in-Some.number c.args.known c.first.ensures c.in-Some.is c.if-number-known.true

pub returns-else-number-known : goal.returns-else-number-known
returns-else-number-known c = number_past (global_names (listed c.args.self.now.list.items)) c.args.name.now c.first.result
    c.in-Some.number c.args.known c.first.ensures c.in-Some.is c.if-number-known.false

pub returns-in-None : goal.returns-in-None
returns-in-None c = number_none (global_names (listed c.args.self.now.list.items)) c.args.name.now c.first.result c.args.known
    c.first.ensures c.in-None.is
