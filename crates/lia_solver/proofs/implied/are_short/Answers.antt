use Rattle.std.proofs.Common.{◌<◌, length, arith, subst}
use Rattle.std.proofs.lemmas.List.Elements.{All-more}
use Rattle.linear_formula.specs.declared.formula.Atom.{Atom}
use Rattle.lia_solver.specs.steps.Implied.{IsShort}
use Rattle.lia_solver.proofs.implied.are_short.Goals as goal

pub loop-atom-preserved : goal.loop-atom-preserved
loop-atom-preserved c =
    let h : c.loop-atom.atom-index < length c.args.atoms.now = omega arith in
    All-more (λ (a : Atom). IsShort a.term) c.args.atoms.now c.loop-atom.atom-index c.atom-item.result h c.loop-atom.invariant
    (subst (λ (a : Atom). IsShort a.term) c.atom-item.is (c.is_short.ensures c.if-not-is_short.false))
