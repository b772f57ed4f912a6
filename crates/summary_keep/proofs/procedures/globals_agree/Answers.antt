use Rattle.std.proofs.lemmas.Bool.Decides.{Decides-int_eq}
use Rattle.std.proofs.lemmas.Slice.Eq.{slice_eq-Decides}
use Rattle.c_tree.specs.Whole.{program_of}
use Rattle.summary_keep.proofs.Globals.{by_values}
use Rattle.summary_keep.proofs.procedures.globals_agree.Goals as goal

pub returns-then-place-old : goal.returns-then-place-old
returns-then-place-old c =
    let same = slice_eq-Decides Decides-int_eq _ _ _ c.eq.ensures in
    by_values (program_of c.args.old.now) (program_of c.args.new.now) c.args.place c.eq.result
    c.if-place-old.true (same.0, same.1)
