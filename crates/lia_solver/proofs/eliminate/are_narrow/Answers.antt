use Rattle.std.proofs.Common.{get_or, Err, ap}
use Rattle.shadow_elim.proofs.FittingSums.{fit-within}
use Rattle.lia_solver.specs.steps.Entries.{sum_at}
use Rattle.lia_solver.proofs.FirstColumns.{above-upper, below-lower}
use Rattle.lia_solver.proofs.Summing.{listed-there, paired-of, narrow-more}
use Rattle.lia_solver.proofs.eliminate.are_narrow.Goals as goal

pub measure-requires : goal.measure-requires
measure-requires c =
    paired-of c.args.column c.args.table.now c.args.upper (get_or c.args.lowers.now c.loop-lower.lower-index 0) c.args.lowers.now
    c.requires.rows c.requires.upper c.requires.lowers (listed-there c.args.lowers.now c.loop-lower.lower-index 0 c.loop-lower-test.true)

pub returns-in-Err-Wide-clause-wide : goal.returns-in-Err-Wide-clause-wide
returns-in-Err-Wide-clause-wide c = λ e.
    record {
      upper = c.args.upper;
      lower = get_or c.args.lowers.now c.loop-lower.lower-index 0;
      paired = paired-of c.args.column c.args.table.now c.args.upper (get_or c.args.lowers.now c.loop-lower.lower-index 0) c.args.lowers.now
          c.requires.rows c.requires.upper c.requires.lowers
          (listed-there c.args.lowers.now c.loop-lower.lower-index 0 c.loop-lower-test.true);
      wide = c.in-Err-Wide.ensures.wide (ap Err c.in-Err-Wide.field-0-is);
    }

pub loop-lower-preserved : goal.loop-lower-preserved
loop-lower-preserved c =
    narrow-more c.args.column c.args.table.now c.args.upper c.args.lowers.now c.loop-lower.lower-index c.loop-lower-test.true
    c.loop-lower.invariant c.in-Ok.ensures.within

pub returns-then-do_fit-clause-sums : goal.returns-then-do_fit-clause-sums
returns-then-do_fit-clause-sums c = λ _ l k.
    let u = c.args.upper in
    let rows = c.args.table.now in
    let p = paired-of c.args.column rows u l c.args.lowers.now c.requires.rows c.requires.upper c.requires.lowers k in
    fit-within c.args.column (sum_at rows u) (sum_at rows l) c.sizes_at.result c.args.sizes (p.terms.greatest u p.upper_place)
    (p.terms.greatest l p.lower_place) (above-upper c.args.column (sum_at rows u) p.above)
    (below-lower c.args.column (sum_at rows l) p.below) c.sizes_at.ensures.sized (c.requires.sized l k)
    (c.do_fit.ensures.0 c.if-do_fit.true)
