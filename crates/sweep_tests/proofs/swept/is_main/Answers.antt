use Rattle.std.proofs.Common.{refl}
use Rattle.std.proofs.lemmas.Bool.{eqb-true}
use Rattle.std.proofs.lemmas.Option.{slice_get_read}
use Rattle.sweep_tests.proofs.swept.is_main.Goals as goal

pub returns-in-Some : goal.returns-in-Some
returns-in-Some c = λ yes.
    let e = c.in-Some.ensures.lookup in
    let g = c.in-Some.graph.now in
    (g, slice_get_read c.args.graphs.now _ c.args.main g refl e.3.0 e.1, eqb-true g.params 0 yes)
