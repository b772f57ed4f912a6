use Rattle.std.proofs.Common.{◌++◌, List, ap, sym}
use Rattle.bolt_core.specs.Histories.{Told}
use Rattle.bolt_rounds.proofs.rounds.rounds.Goals as goal

pub returns-clause-begins : goal.returns-clause-begins
returns-clause-begins g c =
    let h = c.run.new.board.core.history in record { rest = h; is = ap (λ (l : List Told). l ++ h) (sym c.requires.fresh) }
