use Rattle.std.proofs.Common.{◌≡◌, ◌<◌, ◌++◌, [], ◌∷◌, if◌then◌else◌, ap, sym, ◌∙◌, arith}
use Rattle.std.specs.Vec.{vec_len, vec_capacity}
use Rattle.c_typing.specs.declared.scopes.Entry.TheVariants.{Declares}
use Rattle.c_typing.specs.steps.Meanings.{depth_onto}
use Rattle.c_typing.specs.steps.Tables.{scopes_onto}
use Rattle.c_typing.proofs.Tabled.{scopes_onto-append}
use Rattle.c_typing.proofs.Known.{depth-append, declared_linked}
use Rattle.c_typing.proofs.scopes.Scopes.declare.Goals as goal

-- there is room for the entry, so that it is pushed
pub invariant_of-self-2 : goal.invariant_of-self-2
invariant_of-self-2 c =
    let old = c.args.self.now.entries.items in
    let entry = Declares c.args.name c.args.slot c.meaning_of-before.result in
    let room : vec_len c.reserve.new.self < vec_capacity c.reserve.new.self = omega (arith, c.in_ok-reserve.ensures.ok) in
    let pushed : c.push.new.self.items ≡ old ++ entry ∷ [] = c.push.ensures.items
    ∙ ap (λ b. if b then (c.reserve.new.self.items ++ entry ∷ []) else c.reserve.new.self.items) (c.push.ensures.succeeds room)
    ∙ ap (λ l. l ++ entry ∷ []) c.in_ok-reserve.ensures.items in
    record {
      depth_is = c.args.self.now.depth_is ∙ sym (depth-append 0 old (entry ∷ [])) ∙ ap (depth_onto 0) (sym pushed);
      linked = declared_linked old c.push.new.self.items c.args.name c.args.slot c.args.self.now.depth c.meaning_of-before.result
          c.args.self.now.meanings c.insert.new.self pushed c.meaning_of-before.ensures c.args.self.now.depth_is
          c.args.self.now.linked c.in_ok-insert.ensures.updates;
    }

pub returns-clause-scopes : goal.returns-clause-scopes
returns-clause-scopes c =
    let entry = Declares c.args.name c.args.slot c.meaning_of-before.result in
    ap (scopes_onto []) (c.in_ok-push.ensures.items ∙ ap (λ l. l ++ entry ∷ []) c.in_ok-reserve.ensures.items) ∙ scopes_onto-append []
    c.args.self.now.entries.items (entry ∷ [])
