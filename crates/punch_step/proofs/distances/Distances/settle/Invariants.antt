use Rattle.std.proofs.Common.{◌≡◌}
use Rattle.punch_step.specs.steps.Following.{AreOf, KeepsRest}
use Rattle.punch_step.proofs.distances.Distances.settle.Given as goal

abbrev pub invariant-loop : goal.invariant-loop
invariant-loop l = record {
  rest : KeepsRest l.fn.self l.self;
  noted : l.self.noted ≡ l.fn.self.noted;
  far : AreOf l.partition l.self;
}
