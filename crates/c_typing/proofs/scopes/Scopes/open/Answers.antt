use Rattle.std.proofs.Common.{◌+◌, [], ◌∷◌, ap, sym, ◌∙◌, arith}
use Rattle.c_typing.specs.declared.scopes.Entry.TheVariants.{Opens}
use Rattle.c_typing.specs.steps.Meanings.{depth_onto}
use Rattle.c_typing.specs.steps.Tables.{scopes_onto}
use Rattle.c_typing.proofs.Tabled.{scopes_onto-append}
use Rattle.c_typing.proofs.Known.{depth-append, depth-within, opened_linked}
use Rattle.c_typing.proofs.scopes.Scopes.open.Goals as goal

pub overflow_add-self : goal.overflow_add-self
overflow_add-self c =
    let depth = c.args.self.now.depth_is in
    let few = depth-within 0 c.args.self.now.entries.items in
    let len = c.in_ok-push.ensures.len in
    omega arith

pub invariant_of-self-2 : goal.invariant_of-self-2
invariant_of-self-2 c =
    let old = c.args.self.now.entries.items in
    record {
      depth_is = ap (λ d. d + 1) c.args.self.now.depth_is ∙ sym (depth-append 0 old (Opens ∷ [])) ∙ ap (depth_onto 0)
          (sym c.in_ok-push.ensures.items);
      linked = opened_linked old c.push.new.self.items c.args.self.now.meanings c.in_ok-push.ensures.items c.args.self.now.linked;
    }

pub returns : goal.returns
returns c = ap (scopes_onto []) c.in_ok-push.ensures.items ∙ scopes_onto-append [] c.args.self.now.entries.items (Opens ∷ [])
