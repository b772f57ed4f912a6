use Rattle.std.proofs.Common.{List, IfOk, subst, sym}
use Rattle.board_lock.specs.Views.{StartsWith}
use Rattle.bolt_core.specs.Histories.{Told}
use Rattle.bolt_workers.proofs.Crews.{fresh_begins}
use Rattle.bolt_workers.proofs.work.work.Goals as goal

pub returns-clause-begins : goal.returns-clause-begins
returns-clause-begins g c =
    subst (λ (h : List Told). IfOk c.work_under.result (λ b. StartsWith b.core.history h)) (sym c.requires.fresh)
    (fresh_begins c.work_under.result)
