use Rattle.lia_solver.proofs.Closing.{both-hold, ends-in_contradiction}
use Rattle.lia_solver.specs.steps.Entries.{sum_at}
use Rattle.lia_solver.proofs.derivation.derived_contradiction.Goals as goal

pub returns-in-Made-clause-right : goal.returns-in-Made-clause-right
returns-in-Made-clause-right c =
    both-hold c.derived.result _ _ _ (λ steps right ends base size origins. (
      right base size origins,
      ends-in_contradiction (sum_at c.args.table.now c.args.place) steps.items c.requires.never ends,
    )) c.derived.ensures.right c.derived.ensures.ends
