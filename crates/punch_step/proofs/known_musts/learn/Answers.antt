use Rattle.std.proofs.Common.{List, ℕ, ap, refl, subst, ◌∙◌}
use Rattle.flow_graph.specs.Calls.{CallSite}
use Rattle.punch_step.specs.KnownMusts.{IsKept}
use Rattle.punch_step.proofs.known_musts.learn.Goals as goal

pub returns-then-is_of : goal.returns-then-is_of
returns-then-is_of c =
    let known = c.in-Some.known in (
      known,
      refl,
      subst (λ (args : List ℕ). IsKept c.args.must.now args c.args.before known)
          (c.arguments.ensures ∙ ap (λ (s : CallSite). s.arguments) c.of.ensures) (c.if-is_of.ensures refl),
    )
