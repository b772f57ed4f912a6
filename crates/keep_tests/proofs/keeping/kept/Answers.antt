use Rattle.std.proofs.Common.{map, sym, subst}
use Rattle.std.specs.Arc.{arc_value}
use Rattle.c_tree.specs.Whole.{program_of}
use Rattle.summary_keep.specs.Keeping.{SummariesHold}
use Rattle.keep_tests.proofs.Impossible.{all_hold}
use Rattle.keep_tests.proofs.keeping.kept.Goals as goal

pub keep-requires-clause-hold : goal.keep-requires-clause-hold
keep-requires-clause-hold c =
    let P = program_of c.in_ok-old.old in
    subst (λ l. SummariesHold P (map arc_value l)) (sym c.deref.ensures.value)
    (all_hold P (map arc_value c.in_ok-summaries.summaries.items) c.in_ok-summaries.ensures)
