use Rattle.std.proofs.Common.{◌∙◌, subst, Option, List, IfSome}
use Rattle.std.specs.Prelude.{IsTrue}
use Rattle.std.specs.List.{list_all}
use Rattle.linear_formula.specs.Extremes.{IsOutline}
use Rattle.linear_formula.specs.declared.formula.Atom.{Atom}
use Rattle.shadow_elim.specs.Questions.{is_negatable}
use Rattle.punch_step.specs.Cuts.{IsCut}
use Rattle.punch_step.specs.Frontiers.{trail_at}
use Rattle.punch_step.specs.declared.cut.Cut.{Cut}
use Rattle.punch_step.proofs.CutOff.{split_by, unnegatable_none}
use Rattle.punch_step.proofs.by_extremes.split.Goals as goal

pub returns : goal.returns
returns c = λ number.
    let f = c.args.frontier.now in
    let cuts = subst (λ (o : Option Cut). IfSome o (λ x. (whole : List Atom) → IsOutline c.args.pre.now whole →
    IsCut f.query.now (trail_at f) f.source.now.atoms whole x)) c.in-Some.is c.in_ok-cut.ensures in
    split_by f c.args.source.now c.args.pre.now c.in-Some.cut c.none.result c.from_vec.result number c.none.ensures c.requires.source
    c.requires.pre
    c.requires.possible c.if-frontier-eq0.false
    (subst (λ (xs : List Atom). IsTrue (list_all is_negatable xs)) c.as_slice.ensures.value
    (unnegatable_none c.as_slice.result.now c.in_ok-first_unnegatable.field-0 c.in_default-2.not-Some c.in_ok-first_unnegatable.ensures))
    cuts
    (c.from_vec.ensures ∙ c.in_ok-proofs.ensures.items)
