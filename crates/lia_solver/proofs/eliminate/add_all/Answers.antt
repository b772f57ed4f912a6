use Rattle.std.proofs.Common.{arith}
use Rattle.lia_solver.proofs.Growing.{lowers-then}
use Rattle.lia_solver.proofs.Summing.{eliminated-none, eliminated-more, has-wide_back, narrow-back, overfull-is, overfull-all, behind-all, passed-fits}
use Rattle.lia_solver.proofs.eliminate.add_all.Goals as goal

pub loop-place-init : goal.loop-place-init
loop-place-init c = eliminated-none c.args.column c.args.table.now c.requires.rows

pub add_sums_of-requires-clause-place : goal.add_sums_of-requires-clause-place
add_sums_of-requires-clause-place c =
    omega (arith, c.loop-place-test.true, c.len-place-end.ensures, c.loop-place.invariant.grown.count)

pub add_sums_of-requires-clause-lowers : goal.add_sums_of-requires-clause-lowers
add_sums_of-requires-clause-lowers c =
    lowers-then c.args.column c.args.table.now c.loop-place.table c.args.lowers.now c.loop-place.invariant.grown.same c.requires.lowers

pub returns-then-not-branch : goal.returns-then-not-branch
returns-then-not-branch c =
    has-wide_back c.args.column c.args.table.now c.loop-place.table c.requires.rows c.loop-place.invariant.grown
    (c.in_ok-add_sums_of.ensures.wide c.if-not-branch.true)

pub overflow_sub-len : goal.overflow_sub-len
overflow_sub-len c =
    let e = eliminated-more c.args.column c.args.table.now c.loop-place.table c.add_sums_of.new.table c.loop-place.place c.requires.rows
    c.loop-place.invariant c.in_ok-add_sums_of.ensures.grown (c.in_ok-add_sums_of.ensures.sums c.if-not-branch.false) in
    omega (
      arith,
      c.len.ensures,
      passed-fits c.args.column c.args.table.now c.add_sums_of.new.table c.args.behind e.grown
          c.requires.passed,
    )

pub are_all_narrow-requires-clause-lowers : goal.are_all_narrow-requires-clause-lowers
are_all_narrow-requires-clause-lowers c =
    let e = eliminated-more c.args.column c.args.table.now c.loop-place.table c.add_sums_of.new.table c.loop-place.place c.requires.rows
    c.loop-place.invariant c.in_ok-add_sums_of.ensures.grown (c.in_ok-add_sums_of.ensures.sums c.if-not-branch.false) in
    lowers-then c.args.column c.args.table.now c.add_sums_of.new.table c.args.lowers.now e.grown.same c.requires.lowers

pub returns-then-narrow : goal.returns-then-narrow
returns-then-narrow c =
    let e = eliminated-more c.args.column c.args.table.now c.loop-place.table c.add_sums_of.new.table c.loop-place.place c.requires.rows
    c.loop-place.invariant c.in_ok-add_sums_of.ensures.grown (c.in_ok-add_sums_of.ensures.sums c.if-not-branch.false) in
    overfull-is c.args.column c.args.table.now c.add_sums_of.new.table c.args.behind e.grown
    (narrow-back c.args.column c.args.table.now c.add_sums_of.new.table e.grown (c.in_ok-narrow.ensures.narrow c.if-narrow.true))
    c.requires.passed (omega (
      arith,
      c.len.ensures,
      c.if-len-behind-gt-MAX_ROWS.true,
      passed-fits c.args.column c.args.table.now
          c.add_sums_of.new.table c.args.behind e.grown c.requires.passed,
    ))

pub returns-else-narrow : goal.returns-else-narrow
returns-else-narrow c =
    let e = eliminated-more c.args.column c.args.table.now c.loop-place.table c.add_sums_of.new.table c.loop-place.place c.requires.rows
    c.loop-place.invariant c.in_ok-add_sums_of.ensures.grown (c.in_ok-add_sums_of.ensures.sums c.if-not-branch.false) in
    has-wide_back c.args.column c.args.table.now c.add_sums_of.new.table c.requires.rows e.grown
    (c.in_ok-narrow.ensures.wide c.if-narrow.false)

pub loop-place-preserved : goal.loop-place-preserved
loop-place-preserved c =
    eliminated-more c.args.column c.args.table.now c.loop-place.table c.add_sums_of.new.table c.loop-place.place c.requires.rows
    c.loop-place.invariant c.in_ok-add_sums_of.ensures.grown (c.in_ok-add_sums_of.ensures.sums c.if-not-branch.false)

pub overflow_sub-len-2 : goal.overflow_sub-len-2
overflow_sub-len-2 c =
    omega (
      arith,
      c.len-2.ensures,
      passed-fits c.args.column c.args.table.now c.loop-place.table c.args.behind
          c.loop-place.invariant.grown c.requires.passed,
    )

pub returns-then-len-behind-gt-MAX_ROWS-2 : goal.returns-then-len-behind-gt-MAX_ROWS-2
returns-then-len-behind-gt-MAX_ROWS-2 c =
    overfull-all c.args.column c.args.table.now c.loop-place.table c.loop-place.place c.args.behind
    (omega (arith, c.loop-place-test.false, c.len-place-end.ensures)) c.loop-place.invariant c.requires.passed
    (omega (
      arith,
      c.len-2.ensures,
      c.if-len-behind-gt-MAX_ROWS-2.true,
      passed-fits c.args.column c.args.table.now
          c.loop-place.table c.args.behind c.loop-place.invariant.grown c.requires.passed,
    ))

pub returns : goal.returns
returns c =
    behind-all c.args.column c.args.table.now c.loop-place.table c.loop-place.place c.args.behind
    (omega (arith, c.loop-place-test.false, c.len-place-end.ensures)) c.loop-place.invariant c.requires.passed
    (omega (
      arith,
      c.len-2.ensures,
      c.if-len-behind-gt-MAX_ROWS-2.false,
      passed-fits c.args.column c.args.table.now
          c.loop-place.table c.args.behind c.loop-place.invariant.grown c.requires.passed,
    ))
