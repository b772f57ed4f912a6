use Rattle.std.proofs.Common.{◌≤◌, ◌∙◌, length, refl, ap, arith}
use Rattle.std.proofs.lemmas.Bool.Decides.{nat_tests}
use Rattle.flow_graph.specs.declared.graphs.Graphs.{Graphs}
use Rattle.bolt_rounds.specs.declared.crew.Crew.{Crew}
use Rattle.bolt_rounds.proofs.Rounding.{to_give}
use Rattle.bolt_rounds.proofs.rounds.round.Goals as goal

pub give_all-requires-after_bounds : goal.give_all-requires-after_bounds
give_all-requires-after_bounds g c κs within =
    let b = c.take_all.new.board in
    let crew = c.take_all.new.crew in
    let t = c.in_ok-take_all.ensures.taken in
    let next : Crew = record { workers = crew.workers; known = crew.known; places = c.slice_all.new.places } in
    let some : 1 ≤ length crew.places.items = grind (arith, nat_tests) in
    to_give b c.reached.ensures c.deref.result.now.graphs crew.known.summaries
    (ap (λ (x : Graphs). x.graphs) c.deref.ensures ∙ c.graphs.ensures) (t.known some) c.args.board.now crew next t c.slice_all.ensures.made
    refl c.slice_all.ensures.capacity refl
