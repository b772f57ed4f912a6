-- A step off the shortest path is legal, and ends no slice.
use Rattle.std.proofs.Common.{◌≡◌, List, None, length, refl}
use Rattle.flow_graph.specs.declared.graph.Graph.{Graph}
use Rattle.query_rules.specs.Legal.{IsLegal}
use Rattle.query_rules.specs.Steps.{Model}
use Rattle.query_rules.specs.declared.step.Step.{Step}
use Rattle.query_rules.specs.declared.step.Step.TheVariants as step
use Rattle.summary_form.specs.declared.summary.Summary.{Summary}
use Rattle.punch_step.specs.Confirming.{IsSideStep}
use Rattle.punch_step.specs.Slices.{SeesAll, end_of}

pub side_legal : (g : Graph) (table : List Summary) (m : Model) (s : Step) → IsSideStep g table m s →
    IsLegal g table m s × SeesAll (length table) s × (None ≡ end_of s)
side_legal g table m (step.Extend k n point) h = (h, tt, refl)
side_legal g table m (step.Split k atoms follows proofs) h = absurd h
side_legal g table m (step.Kill k by) h = absurd h
side_legal g table m (step.CallExtend k n place point) h = absurd h
side_legal g table m (step.CallSplit k place atoms follows proofs) h = absurd h
side_legal g table m (step.CallPart k by atom atoms follows proofs) h = absurd h
side_legal g table m (step.Ask k q follows seen) h = absurd h
side_legal g table m (step.Feed i) h = absurd h
side_legal g table m (step.Stuck k why seen) h = absurd h
