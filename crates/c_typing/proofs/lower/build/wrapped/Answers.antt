use Rattle.std.proofs.Common.{◌∙◌, ◌++◌, [], ◌∷◌, ap}
use Rattle.std.proofs.lemmas.Result.{IfOk-weaker}
use Rattle.c_tree.specs.View.{statement_of}
use Rattle.c_typing.proofs.Building.{wrapped_said}
use Rattle.c_typing.proofs.lower.build.wrapped.Goals as goal

pub returns-in_ok-push-in_default : goal.returns-in_ok-push-in_default
returns-in_ok-push-in_default c =
    IfOk-weaker c.boxed.result _ _ (λ b e.
    wrapped_said c.args.tree.now c.args.before.items c.push.new.self.items c.args.whole.value (statement_of b.value)
    c.in_default.not-Nothing
    (c.in_ok-push-in_default.ensures.items ∙ ap (λ x. c.args.before.items ++ x ∷ []) c.into_inner.ensures) (e ∙ c.block.ensures))
    c.boxed.ensures
