use Rattle.std.proofs.Common.{List, subst}
use Rattle.linear_formula.specs.declared.formula.Atom.{Atom}
use Rattle.shadow_elim.specs.Questions.{IsMet}
use Rattle.query_rules.specs.Crossings.{IsRead}
use Rattle.query_rules.specs.Rows.{seen_at}
use Rattle.punch_step.specs.ByMusts.{marking}
use Rattle.punch_step.specs.Sights.{IsSight}
use Rattle.punch_step.proofs.by_known_must.is_met.Goals as goal

pub returns-in-Met : goal.returns-in-Met
returns-in-Met c = λ _.
    let a = c.args.calling.now in
    let both = c.in_ok-both.both.atoms in
    let seen = subst (IsSight a.query.now (marking a) both) c.in-Met.is c.in_ok-look.ensures in
    subst (λ (xs : List Atom). IsRead (marking a) xs × IsMet (seen_at a.query.now (marking a) xs)) c.in_ok-both.ensures (seen.0, seen.1)
