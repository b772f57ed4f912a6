use Rattle.std.proofs.Common.{List, [], length, arith, ap, subst, ◌∙◌}
use Rattle.linear_formula.specs.Rows.{all_rows}
use Rattle.linear_formula.specs.declared.formula.Cube.{Cube}
use Rattle.infeasible_cert.specs.Refutation.{refutation_of}
use Rattle.infeasible_cert.proofs.Sound.{right-sound}
use Rattle.shadow_elim.specs.Plan.{search}
use Rattle.lia_solver.specs.declared.search.Searched.{Searched}
use Rattle.lia_solver.specs.steps.Branches.{IsSearched}
use Rattle.lia_solver.specs.steps.Further.{AreSearchedTerms}
use Rattle.lia_solver.proofs.Solving.{too-many-columns, few-columns, refutes-whole, point-64, limit-branches}
use Rattle.lia_solver.proofs.solve.solve_along.Goals as goal

pub returns-then-len-gt-MAX_COLUMNS-clause-plan : goal.returns-then-len-gt-MAX_COLUMNS-clause-plan
returns-then-len-gt-MAX_COLUMNS-clause-plan c =
    too-many-columns (all_rows c.args.rows.now) (omega (arith, ap length c.requires.columns, c.len.ensures, c.if-len-gt-MAX_COLUMNS.true))

pub returns-in-Answer-clause-plan : goal.returns-in-Answer-clause-plan
returns-in-Answer-clause-plan c =
    let atoms = all_rows c.args.rows.now in
    let few = few-columns atoms (omega (arith, ap length c.requires.columns, c.len.ensures, c.if-len-gt-MAX_COLUMNS.false)) in
    let whole = subst (λ (ps : List Cube). IsSearched atoms [] 512 c.question.new.self.splits.items (search 512 ps atoms)
    c.in_ok-solved.field-0) c.new-search.ensures.splits c.in_ok-solved.ensures.searched in
    let answer = subst (λ (s : Searched). IsSearched atoms [] 512 c.question.new.self.splits.items (search 512 [] atoms) s)
    c.in-Answer.is whole in
    rw few answer.0

pub returns-in-Answer-clause-point : goal.returns-in-Answer-clause-point
returns-in-Answer-clause-point c =
    let atoms = all_rows c.args.rows.now in
    let whole = subst (λ (ps : List Cube). IsSearched atoms [] 512 c.question.new.self.splits.items (search 512 ps atoms)
    c.in_ok-solved.field-0) c.new-search.ensures.splits c.in_ok-solved.ensures.searched in
    (subst (λ (s : Searched). IsSearched atoms [] 512 c.question.new.self.splits.items (search 512 [] atoms) s) c.in-Answer.is whole).1

pub returns-clause-plan : goal.returns-clause-plan
returns-clause-plan c =
    let atoms = all_rows c.args.rows.now in
    let few = few-columns atoms (omega (arith, ap length c.requires.columns, c.len.ensures, c.if-len-gt-MAX_COLUMNS.false)) in
    let whole = subst (λ (ps : List Cube). IsSearched atoms [] 512 c.question.new.self.splits.items (search 512 ps atoms)
    c.in_ok-solved.field-0) c.new-search.ensures.splits c.in_ok-solved.ensures.searched in
    let found = subst (λ (s : Searched). IsSearched atoms [] 512 c.question.new.self.splits.items (search 512 [] atoms) s)
    c.in-Nothing.is whole in
    (c.question.new.self.splits.items, few ∙ found.0)

pub returns-clause-never : goal.returns-clause-never
returns-clause-never c =
    let atoms = all_rows c.args.rows.now in
    let whole = subst (λ (ps : List Cube). IsSearched atoms [] 512 c.question.new.self.splits.items (search 512 ps atoms)
    c.in_ok-solved.field-0) c.new-search.ensures.splits c.in_ok-solved.ensures.searched in
    let found = subst (λ (s : Searched). IsSearched atoms [] 512 c.question.new.self.splits.items (search 512 [] atoms) s)
    c.in-Nothing.is whole in
    record { shallow = found.1; right = refutes-whole atoms (refutation_of c.in-Nothing.certificate) found.2 }

pub returns-clause-sound : goal.returns-clause-sound
returns-clause-sound c = λ v w h.
    let atoms = all_rows c.args.rows.now in
    let r = refutation_of c.in-Nothing.certificate in
    right-sound atoms r v c.requires.terms (subst AreSearchedTerms c.in-Nothing.is c.in_ok-solved.ensures.terms)
    (returns-clause-never c) w h

pub returns-in-Answer-clause-values : goal.returns-in-Answer-clause-values
returns-in-Answer-clause-values c =
    point-64 (all_rows c.args.rows.now) c.in-Answer.solved (returns-in-Answer-clause-plan c)

pub returns-clause-terms : goal.returns-clause-terms
returns-clause-terms c = subst AreSearchedTerms c.in-Nothing.is c.in_ok-solved.ensures.terms

pub returns-in-Answer-clause-branches : goal.returns-in-Answer-clause-branches
returns-in-Answer-clause-branches c = limit-branches (all_rows c.args.rows.now) c.in-Answer.solved (returns-in-Answer-clause-plan c)
