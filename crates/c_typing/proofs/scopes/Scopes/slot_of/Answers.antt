use Rattle.std.proofs.Common.{ap, sym, option_map}
use Rattle.c_typing.proofs.Known.{slot_told}
use Rattle.c_typing.proofs.scopes.Scopes.slot_of.Goals as goal

pub returns-in-Some : goal.returns-in-Some
returns-in-Some c = slot_told c.args.self.now.entries.items c.args.name.now c.meaning_of.result _ c.meaning_of.ensures
    (sym (ap (option_map (λ m. m.slot)) c.in-Some.is))

pub returns-in-None : goal.returns-in-None
returns-in-None c = slot_told c.args.self.now.entries.items c.args.name.now c.meaning_of.result _ c.meaning_of.ensures
    (sym (ap (option_map (λ m. m.slot)) c.in-None.is))
