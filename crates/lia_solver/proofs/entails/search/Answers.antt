use Rattle.std.proofs.Common.{◌≡◌, List, sym, ap, subst, ◌∙◌}
use Rattle.linear_formula.specs.LinearSum.{Valuation, Is64, valuation}
use Rattle.linear_formula.specs.Formula.{HoldsAll}
use Rattle.linear_formula.specs.declared.formula.Atom.{Atom}
use Rattle.infeasible_cert.specs.Refutation.{refutation_of}
use Rattle.infeasible_cert.specs.Right.{Refutes, columns_of, rows_of, with_columns}
use Rattle.infeasible_cert.specs.Terms.{HasTerms}
use Rattle.shadow_elim.specs.Plan.{solution}
use Rattle.shadow_elim.specs.Questions.{with_negation}
use Rattle.lia_solver.specs.Answers.{IsAnswer, IfPoint, IfNever}
use Rattle.lia_solver.specs.declared.solved.Solved.{Solved}
use Rattle.lia_solver.proofs.Asking.{can-negate, asked-is, asked-columns, question-is, follows, fails}
use Rattle.lia_solver.proofs.entails.search.Goals as goal

pub solve_along-requires-clause-columns : goal.solve_along-requires-clause-columns
solve_along-requires-clause-columns c =
    asked-columns c.args.left.cube.atoms c.push.new.self c.args.negation c.args.left.columns.items c.in_ok-all.all.items
    c.in_ok-push.ensures c.requires.columns_are (c.in_ok-all.ensures
    ∙ ap (λ ps. with_columns ps c.deref.result.now) c.parts.ensures.value
    ∙ ap (with_columns c.args.negation.term.parts) c.deref.ensures.value)
    ∙ ap (λ (as_ : List Atom). columns_of (rows_of as_)) (sym c.of-rows.ensures.rows)

pub returns-in-Never : goal.returns-in-Never
returns-in-Never c = λ atom n.
    let left = c.args.left.cube.atoms in let asked = c.push.new.self in let other = c.args.negation in
    let is : asked ≡ with_negation left atom = asked-is left asked atom other c.in_ok-push.ensures n.value in
    let plan = subst (IsAnswer (solution asked)) c.in-Never.is (subst (λ (as_ : List Atom). IsAnswer (solution as_)
    c.in_ok-certificate.field-0) c.of-rows.ensures.rows c.in_ok-certificate.ensures.plan) in
    let never = subst (λ (s : Solved). IfNever s (λ d. Refutes asked (refutation_of d))) c.in-Never.is (subst
    (λ (as_ : List Atom). IfNever c.in_ok-certificate.field-0 (λ d. Refutes as_ (refutation_of d))) c.of-rows.ensures.rows
    c.in_ok-certificate.ensures.never) in
    let terms = subst (λ (s : Solved). IfNever s (λ d. HasTerms (refutation_of d))) c.in-Never.is c.in_ok-certificate.ensures.terms in
    let sound = subst (λ (s : Solved). IfNever s (λ d. (v : Valuation) → Is64 v → HoldsAll v asked → ⊥)) c.in-Never.is
    (subst (λ (as_ : List Atom). IfNever c.in_ok-certificate.field-0 (λ d. (v : Valuation) → Is64 v → HoldsAll v as_ → ⊥))
    c.of-rows.ensures.rows c.in_ok-certificate.ensures.sound) in (
      (
        (can-negate atom other.term n.value n.term, (plan.0, ap solution (sym is) ∙ plan.1)),
        subst (λ (as_ : List Atom). Refutes as_ (refutation_of c.in-Never.certificate)) is never,
        terms,
        record {
          atoms_are = c.without_last.ensures left other c.in_ok-push.ensures;
          columns_are = c.requires.columns_are;
          simple = c.requires.simple;
        },
      ),
      follows left asked atom other c.in_ok-push.ensures n.law sound,
    )

pub returns-in-Point : goal.returns-in-Point
returns-in-Point c = λ atom n.
    let left = c.args.left.cube.atoms in let asked = c.push.new.self in let other = c.args.negation in
    let is : asked ≡ with_negation left atom = asked-is left asked atom other c.in_ok-push.ensures n.value in
    let plan = subst (IsAnswer (solution asked)) c.in-Point.is (subst (λ (as_ : List Atom). IsAnswer (solution as_)
    c.in_ok-certificate.field-0) c.of-rows.ensures.rows c.in_ok-certificate.ensures.plan) in
    let point = subst (λ (s : Solved). IfPoint s (λ at. HoldsAll (valuation at) asked)) c.in-Point.is (subst
    (λ (as_ : List Atom). IfPoint c.in_ok-certificate.field-0 (λ at. HoldsAll (valuation at) as_)) c.of-rows.ensures.rows
    c.in_ok-certificate.ensures.point) in (
      (
        (can-negate atom other.term n.value n.term, ap solution (sym is) ∙ plan),
        subst (HoldsAll (valuation c.in-Point.at)) is point,
      ),
      fails left asked atom other (valuation c.in-Point.at) c.in_ok-push.ensures (n.law (valuation c.in-Point.at)) point,
    )

pub returns-in-Limit : goal.returns-in-Limit
returns-in-Limit c = λ atom n.
    let left = c.args.left.cube.atoms in let asked = c.push.new.self in
    let is : asked ≡ with_negation left atom = asked-is left asked atom c.args.negation c.in_ok-push.ensures n.value in (
      (
        question-is left asked atom (can-negate atom c.args.negation.term n.value n.term) is,
        subst (IsAnswer (solution asked)) c.in-Limit.is (subst (λ (as_ : List Atom). IsAnswer (solution as_)
            c.in_ok-certificate.field-0) c.of-rows.ensures.rows c.in_ok-certificate.ensures.plan),
      ),
      tt,
    )
