use Rattle.std.proofs.Common.{◌≡◌, List, ◌++◌, take, sym, ap, subst, ◌∙◌}
use Rattle.std.specs.Prelude.{IsTrue}
use Rattle.std.proofs.lemmas.List.{take-append-drop}
use Rattle.linear_formula.specs.Formula.{are_terms}
use Rattle.linear_formula.specs.declared.formula.Atom.{Atom}
use Rattle.lia_solver.proofs.search.Search.outcome.Goals as goal

pub solve_branch-requires-clause-terms : goal.solve_branch-requires-clause-terms
solve_branch-requires-clause-terms c =
    let n = c.args.self.now.atoms in
    let atoms = c.as_slice.result.now in
    let whole : c.split_at.result.0.now ++ c.split_at.result.1.now ≡ c.args.cube.now.atoms =
    ap (λ xs. xs ++ c.split_at.result.1.now) c.split_at.ensures.front ∙ ap (λ ys. take n atoms ++ ys) c.split_at.ensures.back
    ∙ take-append-drop n atoms ∙ c.as_slice.ensures.value in
    subst (λ (as_ : List Atom). IsTrue (are_terms as_)) (sym whole) c.as_slice.ensures.terms
