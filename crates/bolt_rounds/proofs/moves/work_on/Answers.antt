use Rattle.std.proofs.lemmas.Result.{IfOk-weaker}
use Rattle.bolt_rounds.proofs.moves.work_on.Goals as goal

pub worked_by-requires-clause-job : goal.worked_by-requires-clause-job
worked_by-requires-clause-job g c =
    let r = c.requires in
    record { board = g.board; is_board = r.0; graphs = r.1.0; table = r.1.1.0; taken = r.1.1.1.0 }

pub returns-clause-may : goal.returns-clause-may
returns-clause-may g c =
    let r = c.requires in
    IfOk-weaker c.worked_by.result _ _ (λ w m. m g.board r.0 r.1.0 r.1.1.0 r.1.1.1.0) c.worked_by.ensures.may
