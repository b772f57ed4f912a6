use Rattle.std.proofs.lemmas.Result.{on_ok_weaker}
use Rattle.linear_formula.specs.LinearSum.{value_of}
use Rattle.linear_formula.proofs.Finishing.{negated_holds}
use Rattle.linear_formula.proofs.formula.Atom.negate.Goals as goal

pub returns-clause-law : goal.returns-clause-law
returns-clause-law c =
    on_ok_weaker c.negate.result (λ h v. negated_holds (value_of v c.args.self.now.term) (value_of v c.negate.new.self) (h v))
    c.negate.ensures.law
