use Rattle.std.proofs.lemmas.Result.{IfOk-weaker}
use Rattle.bolt_rounds.proofs.Shown.{spare_is_shown}
use Rattle.bolt_rounds.proofs.moves.spare_of.Goals as goal

pub returns-clause-which : goal.returns-clause-which
returns-clause-which g c = IfOk-weaker c.spare_by.result _ _ (λ s e. e g.board c.requires.1) c.spare_by.ensures

pub returns-clause-shown : goal.returns-clause-shown
returns-clause-shown g c =
    let w = c.args.worked.now in
    IfOk-weaker c.spare_by.result _ _ (λ s e. spare_is_shown g.board c.requires.0 w.job w.next c.requires.1 s (e g.board c.requires.1))
    c.spare_by.ensures
