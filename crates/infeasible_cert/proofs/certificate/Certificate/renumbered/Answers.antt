use Rattle.std.proofs.Common.{◌≡◌, List, length, sym, subst}
use Rattle.std.proofs.lemmas.Result.{IfOk-weaker}
use Rattle.linear_formula.specs.declared.formula.Atom.{Atom}
use Rattle.linear_formula.specs.Extremes.{AreExtremes}
use Rattle.infeasible_cert.specs.Refutation.{refutation_of}
use Rattle.infeasible_cert.specs.Right.{Refutes}
use Rattle.infeasible_cert.specs.Terms.{HasTerms}
use Rattle.infeasible_cert.specs.steps.Renumbering.{renumbered}
use Rattle.infeasible_cert.proofs.Renumbering.{refutes_among, terms_same}
use Rattle.infeasible_cert.proofs.certificate.Certificate.renumbered.Goals as goal

pub returns-clause-refutes : goal.returns-clause-refutes
returns-clause-refutes c =
    let before = refutation_of c.args.self.now in
    IfOk-weaker c.renumber.result (λ d. refutation_of d ≡ renumbered c.args.numbers.now c.args.count before)
    (λ d. (rows all : List Atom) → AreExtremes c.args.numbers.now rows all → c.args.count ≡ length all → Refutes rows before → Refutes all
    (refutation_of d)) (λ d e rows all x n r. subst (Refutes all) (sym e) (refutes_among c.args.numbers.now c.args.count before rows all x n
    r)) c.renumber.ensures

pub returns-clause-terms : goal.returns-clause-terms
returns-clause-terms c =
    let before = refutation_of c.args.self.now in
    IfOk-weaker c.renumber.result (λ d. refutation_of d ≡ renumbered c.args.numbers.now c.args.count before)
    (λ d. HasTerms before → HasTerms (refutation_of d)) (λ d e h. subst HasTerms (sym e)
    (terms_same c.args.numbers.now c.args.count before h)) c.renumber.ensures
