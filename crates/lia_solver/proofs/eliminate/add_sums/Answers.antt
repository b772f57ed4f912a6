use Rattle.std.proofs.Common.{get_or}
use Rattle.lia_solver.proofs.Growing.{grown-then, paired-forth}
use Rattle.lia_solver.proofs.Summing.{listed-there, paired-of, summed-none, summed-more, summed-all, has-wide_back}
use Rattle.lia_solver.proofs.TwoColumns.{sides-stay}
use Rattle.lia_solver.proofs.eliminate.add_sums.Goals as goal

pub loop-lower-init : goal.loop-lower-init
loop-lower-init c = (
  summed-none c.args.column c.args.table.now c.args.upper c.args.lowers.now c.requires.rows,
  c.sides_of-sides.ensures,
)

pub add_sum-requires-clause-paired : goal.add_sum-requires-clause-paired
add_sum-requires-clause-paired c =
    let l = get_or c.args.lowers.now c.loop-lower.lower-index 0 in
    paired-forth c.args.column c.args.table.now c.loop-lower.table c.args.upper l c.loop-lower.invariant.0.grown.rows
    c.loop-lower.invariant.0.grown.same
    (paired-of c.args.column c.args.table.now c.args.upper l c.args.lowers.now c.requires.rows c.requires.upper c.requires.lowers
    (listed-there c.args.lowers.now c.loop-lower.lower-index 0 c.loop-lower-test.true))

pub returns-then-not-branch-clause-grown : goal.returns-then-not-branch-clause-grown
returns-then-not-branch-clause-grown c =
    grown-then c.args.column c.args.table.now c.loop-lower.table c.add_sum.new.table c.requires.rows c.loop-lower.invariant.0.grown
    c.in_ok-add_sum.ensures.grown

pub returns-then-not-branch-clause-wide : goal.returns-then-not-branch-clause-wide
returns-then-not-branch-clause-wide c = λ _.
    has-wide_back c.args.column c.args.table.now c.loop-lower.table c.requires.rows c.loop-lower.invariant.0.grown
    (c.in_ok-add_sum.ensures.wide c.if-not-branch.true)

pub loop-lower-preserved : goal.loop-lower-preserved
loop-lower-preserved c = (
  summed-more c.args.column c.args.table.now c.loop-lower.table c.add_sum.new.table c.args.upper c.args.lowers.now
      c.loop-lower.lower-index c.requires.rows c.requires.upper c.requires.lowers c.loop-lower-test.true c.loop-lower.invariant.0
      c.in_ok-add_sum.ensures.grown (c.in_ok-add_sum.ensures.summed c.if-not-branch.false),
  sides-stay c.args.column c.sides_of-sides.result c.loop-lower.table c.add_sum.new.table c.in_ok-add_sum.ensures.grown
      c.loop-lower.invariant.1,
)

pub returns-clause-sums : goal.returns-clause-sums
returns-clause-sums c = λ e l k.
    summed-all c.args.column c.args.table.now c.loop-lower.table c.args.upper c.args.lowers.now c.loop-lower.lower-index
    c.loop-lower-test.false c.loop-lower.invariant.0 l k
