use Rattle.std.proofs.Common.{◌+◌, ◌*◌, ◌<◌, ◌^◌, List, ℕ, get_or, inr, refl, arith, subst}
use Rattle.std.proofs.lemmas.List.{take_all}
use Rattle.infeasible_cert.specs.Right.{range_rows}
use Rattle.lia_solver.specs.steps.Gathered.{ArePut}
use Rattle.lia_solver.specs.steps.Numbers.{numbered_from}
use Rattle.lia_solver.proofs.Putting.{put-ranges}
use Rattle.lia_solver.proofs.gather.put_ranges.Goals as goal

pub loop-place-preserved : goal.loop-place-preserved
loop-place-preserved c =
    let x = get_or c.args.columns.now c.loop-place.place 0 in
    let number = c.args.first + 2 * c.loop-place.place in
    let fits = c.type_inv.columns c.loop-place.place in
    let small : x < 2 ^ 32 = omega (arith, fits) in
    put-ranges c.args.columns.now c.args.first c.loop-place.place number (number + 1) x c.args.table.now c.loop-place.table c.add.new.self
    c.add-in-loop-place.new.self c.loop-place-test.true refl refl refl c.loop-place.invariant (inr (refl, c.in_ok-add.ensures))
    (inr (refl, c.in_ok-add-2.ensures))
    small

pub returns : goal.returns
returns c =
    subst (λ (xs : List ℕ). ArePut (numbered_from c.args.first (range_rows xs)) c.args.table.now c.loop-place.table)
    (take_all c.loop-place.place c.args.columns.now c.loop-place-test.false) c.loop-place.invariant
