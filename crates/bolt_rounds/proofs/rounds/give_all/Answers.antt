use Rattle.std.proofs.Common.{◌≤◌, length, refl, arith}
use Rattle.std.proofs.lemmas.Bool.Decides.{nat_tests}
use Rattle.bolt_rounds.specs.declared.crew.Crew.{Crew}
use Rattle.bolt_rounds.proofs.Rounding.{first_removed, longer_then, one_given}
use Rattle.bolt_rounds.proofs.Turning.{same_program}
use Rattle.bolt_rounds.proofs.rounds.give_all.Goals as goal

pub loop-crew-preserved : goal.loop-crew-preserved
loop-crew-preserved g c =
    let l = c.loop-crew in
    let r = c.remove-place in
    let p = r.result in
    let next : Crew = record { workers = l.crew.workers; known = l.crew.known; places = r.new.self } in
    let d = c.in_ok-give_one.ensures in
    let some : 1 ≤ length l.crew.places.items = grind (arith, nat_tests) in
    let items = first_removed l.crew.places.items r.new.self.items p some r.ensures.value r.ensures.by_index.2 in
    record {
      same = same_program c.args.board.now l.board c.give_one.new.board l.invariant.same d.same;
      more = longer_then l.board c.give_one.new.board p d.same d.given _ l.invariant.more;
      rest = one_given l.board c.give_one.new.board p d.same d.given l.crew next l.invariant.rest items refl r.ensures.capacity refl;
    }
