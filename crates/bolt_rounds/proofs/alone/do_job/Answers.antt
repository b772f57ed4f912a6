use Rattle.std.proofs.Common.{ℕ, sym, subst}
use Rattle.bolt_core.specs.Keeps.{IsNow}
use Rattle.bolt_rounds.specs.steps.Turning.{GivesBack}
use Rattle.bolt_rounds.proofs.Turning.{given_back, not_gone}
use Rattle.bolt_rounds.proofs.alone.do_job.Goals as goal

pub unreachable-requires : goal.unreachable-requires
unreachable-requires g c =
    let old = c.args.board.now in
    let j = c.in_ok-worked.worked.job in
    let same = c.in_ok-worked.ensures.same in
    let now = subst (λ (i : ℕ). IsNow old.core i j.taken) (sym same.0)
    (subst (λ (t : ℕ). IsNow old.core c.args.job.id t) (sym same.1) c.requires.1.1.1) in
    not_gone old c.hand_in.new.board j c.in_default.field-0 c.reached.ensures now c.in_default.ensures.moved

pub returns-clause-back : goal.returns-clause-back
returns-clause-back g c =
    let old = c.args.board.now in
    let j = c.in_ok-worked.worked.job in
    let same = c.in_ok-worked.ensures.same in
    let now = subst (λ (i : ℕ). IsNow old.core i j.taken) (sym same.0)
    (subst (λ (t : ℕ). IsNow old.core c.args.job.id t) (sym same.1) c.requires.1.1.1) in
    subst (λ (i : ℕ). GivesBack old i c.hand_in.new.board) same.0
    (given_back old c.hand_in.new.board 0 j c.reached.ensures now c.in_ok-worked.worked.next c.in-Ok.ensures.moved)
