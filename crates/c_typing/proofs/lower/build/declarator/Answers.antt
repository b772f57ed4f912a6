use Rattle.std.proofs.Common.{ap}
use Rattle.c_tree.specs.Syntax as program
use Rattle.c_tree.specs.declared.tree.Stmt.{Set}
use Rattle.c_typing.proofs.Building.{set_pushed}
use Rattle.c_typing.proofs.lower.build.declarator.Goals as goal

pub returns-clause-out : goal.returns-clause-out
returns-clause-out c = set_pushed c.args.out.now.items c.push.new.self.items (Set c.args.state.now.next c.in_ok-value.value) _
    c.in_ok-push.ensures.items (ap (program.set c.args.state.now.next) c.in_ok-value.ensures)
