use Rattle.c_typing.proofs.Tabled.{back_again}
use Rattle.c_typing.proofs.check.statements.alone.Goals as goal

pub returns-clause-scopes : goal.returns-clause-scopes
returns-clause-scopes c = back_again c.args.scopes.now.entries.items c.declarators.new.scopes.entries.items c.back_to.new.self.entries.items
    c.mark-mark.result c.mark-mark.ensures c.in_ok-declarators.ensures.longer c.back_to.ensures
