use Rattle.std.proofs.Common.{◌∙◌, ap, sym, [], ◌∷◌, length, arith}
use Rattle.std.proofs.lemmas.List.{length-append}
use Rattle.c_typing.specs.steps.Tables.{scopes_onto, outer_of}
use Rattle.c_typing.proofs.Tabled.{close_opens, close_declares}
use Rattle.c_typing.proofs.scopes.Scopes.close.Goals as goal

pub returns-in-Opens : goal.returns-in-Opens
returns-in-Opens c = close_opens c.loop-entry.self.entries.items c.take_back.new.self.entries.items c.in-Some.entry c.in-Some.ensures
    c.in-Opens.is ∙ c.loop-entry.invariant

pub loop-entry-preserved : goal.loop-entry-preserved
loop-entry-preserved c =
    close_declares c.loop-entry.self.entries.items c.take_back.new.self.entries.items c.in-Some.entry c.in_default-entry.field-0
    c.in_default-entry.field-1 c.in_default-entry.field-2 c.in-Some.ensures c.in_default-entry.is ∙ c.loop-entry.invariant

pub loop-entry-smaller : goal.loop-entry-smaller
loop-entry-smaller c = let same = ap length c.in-Some.ensures in let more = length-append c.take_back.new.self.entries.items
    (c.in-Some.entry ∷ []) in omega arith

pub returns : goal.returns
returns c = ap (scopes_onto []) c.in_default.ensures.1 ∙ sym (ap (λ r. outer_of (scopes_onto [] r)) c.in_default.ensures.0)
    ∙ c.loop-entry.invariant
