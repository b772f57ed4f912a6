use Rattle.std.proofs.Common.{◌≡◌, refl}
use Rattle.std.specs.Prelude.{Some, slice_get}
use Rattle.std.proofs.lemmas.Option.{slice_get_read}
use Rattle.punch_step.proofs.Passing.{all_passed, some_more_passed}
use Rattle.punch_step.proofs.confirm.are_some.Goals as goal

pub loop-atom-preserved : goal.loop-atom-preserved
loop-atom-preserved c =
    let n = c.loop-atom.atom-index in let a = c.atom-item.result in
    let there : slice_get c.args.of.now n ≡ Some a = slice_get_read c.args.of.now _ n a refl c.loop-atom-test.true c.atom-item.is in
    record {
      within = c.passed-next.ensures.within;
      some = some_more_passed c.args.atoms.now c.args.of.now c.loop-atom.next c.passed-next.result n a there c.passed-next.ensures.passed
          c.loop-atom.invariant.some;
    }

pub returns : goal.returns
returns c = all_passed c.args.atoms.now c.args.of.now c.loop-atom.next c.loop-atom.atom-index c.loop-atom.invariant.within
    c.loop-atom-test.false c.loop-atom.invariant.some
