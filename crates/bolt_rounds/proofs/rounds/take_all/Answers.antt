use Rattle.std.proofs.Common.{refl, subst, arith}
use Rattle.bolt_core.specs.Boards.{Gives, IsIdle, IsTaken}
use Rattle.bolt_rounds.specs.declared.crew.Crew.{Crew}
use Rattle.bolt_rounds.specs.declared.crew.Place.{Place}
use Rattle.bolt_rounds.specs.declared.crew.Stage.TheVariants as stage
use Rattle.bolt_rounds.proofs.Rounding.{idle_over, one_taken}
use Rattle.bolt_rounds.proofs.Turning.{just_taken, same_program}
use Rattle.bolt_rounds.proofs.rounds.take_all.Goals as goal

pub returns-in-Ok-Idle-clause-over : goal.returns-in-Ok-Idle-clause-over
returns-in-Ok-Idle-clause-over g c =
    let l = c.loop-worker in
    let f = c.in-Ok-Idle.ensures in
    let i : IsIdle l.board c.fetch.new.board = subst (Gives l.board l.worker c.fetch.new.board) c.in-Ok-Idle.field-0-is f.taken in
    idle_over l.board c.fetch.new.board l.crew.places.items f.board l.invariant.taken.out i.busy

pub loop-worker-preserved : goal.loop-worker-preserved
loop-worker-preserved g c =
    let l = c.loop-worker in
    let old = l.board in
    let new = c.fetch.new.board in
    let j = c.in-Ok-Job.job in
    let f = c.in-Ok-Job.ensures in
    let t : IsTaken old l.worker new j = subst (Gives old l.worker new) c.in-Ok-Job.field-0-is f.taken in
    let p : Place = record { worker = l.worker; call = c.begin-call.result; stage = stage.Taken j } in
    let u = c.push_reserved in
    let next : Crew = record { workers = l.crew.workers; known = c.fetch.new.known; places = u.new.self } in
    record {
      same = same_program c.args.board.now old new l.invariant.same f.same;
      taken = one_taken old new l.worker j f.board f.same t c.args.board.now l.crew next p l.invariant.same
          (just_taken old new l.worker j f.board t) refl l.invariant.taken refl u.ensures.capacity f.room f.known u.ensures.items;
      all = l.invariant.all;
      many = omega (arith, u.ensures.len, l.invariant.many);
    }
