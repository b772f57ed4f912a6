use Rattle.shadow_elim.specs.Stages.{terms_of}
use Rattle.shadow_elim.proofs.InPlace.{ranges-pushed}
use Rattle.shadow_elim.proofs.eliminate.push_ranges.Goals as goal

pub loop-column-preserved : goal.loop-column-preserved
loop-column-preserved c = record {
  terms = ranges-pushed c.args.columns.now c.loop-column.column-index c.in_ok-upper_range.field-0 c.in_ok-lower_range.field-0
      (terms_of c.args.rows.now.items) (terms_of c.loop-column.rows.items) (terms_of c.push_row.new.rows.items)
      (terms_of c.push_row-in-loop-column.new.rows.items) c.loop-column-test.true c.loop-column.invariant.terms c.in_ok-upper_range.ensures
      c.in_ok-lower_range.ensures c.in_ok-push_row.ensures.terms c.in_ok-push_row-2.ensures.terms;
  numbers = c.in_ok-push_row-2.ensures.numbers;
}
