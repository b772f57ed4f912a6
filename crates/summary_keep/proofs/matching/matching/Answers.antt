use Rattle.std.proofs.Common.{subst, length}
use Rattle.c_tree.specs.Whole.{program_of}
use Rattle.summary_keep.specs.Keeping.{related_by}
use Rattle.summary_keep.specs.steps.Pairing.{ArePairedBelow}
use Rattle.summary_keep.proofs.Pairs.{is_matching_of}
use Rattle.summary_keep.proofs.matching.matching.Goals as goal

pub returns : goal.returns
returns c =
    let P = program_of c.args.old.now in
    let Q = program_of c.args.new.now in
    is_matching_of P Q c.args.old.now.well_formed c.in_ok-procs.procs.items c.in_ok-asserts.asserts.items c.in_ok-procs.ensures.each
    c.in_ok-procs.ensures.greatest
    (subst (λ l. ArePairedBelow P Q (related_by l) (length l) c.in_ok-asserts.asserts.items) c.deref.ensures.value c.in_ok-asserts.ensures)
