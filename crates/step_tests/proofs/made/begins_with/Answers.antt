use Rattle.std.proofs.Common.{ap, refl, sym, ◌∙◌}
use Rattle.std.specs.Prelude.{slice_get}
use Rattle.std.proofs.lemmas.Bool.{eqb-true}
use Rattle.std.proofs.lemmas.Option.{slice_get_read}
use Rattle.step_tests.proofs.made.begins_with.Goals as goal

pub returns-in-Some : goal.returns-in-Some
returns-in-Some c = λ yes.
    let e = c.in-Some.ensures.lookup in
    let g = c.in-Some.graph.now in
    let there = ap (λ xs. slice_get xs 0) (sym c.as_slice.ensures)
    ∙ slice_get_read c.as_slice.result.now _ 0 g refl e.3.0 e.1 in
    (g, there, eqb-true g.params c.args.params yes)
