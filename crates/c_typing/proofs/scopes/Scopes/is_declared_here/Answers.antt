use Rattle.std.proofs.Common.{ap, sym}
use Rattle.c_typing.proofs.Known.{here_told, is_here}
use Rattle.c_typing.proofs.scopes.Scopes.is_declared_here.Goals as goal

pub returns-in-Some : goal.returns-in-Some
returns-in-Some c =
    let s = c.args.self.now in
    here_told s.entries.items c.args.name.now c.meaning_of.result s.depth _ c.meaning_of.ensures s.depth_is
    (sym (ap (is_here s.depth) c.in-Some.is))

pub returns-in-None : goal.returns-in-None
returns-in-None c =
    let s = c.args.self.now in
    here_told s.entries.items c.args.name.now c.meaning_of.result s.depth _ c.meaning_of.ensures s.depth_is
    (sym (ap (is_here s.depth) c.in-None.is))
