use Rattle.std.proofs.Common.{subst, sym, ap, arith, take, drop, length, length-drop}
use Rattle.std.proofs.Math.Seq.{take-add}
use Rattle.std.specs.Io.KnownBytes.{Appends}
use Rattle.std.proofs.KnownBytes.{Appends-trans}
use Rattle.outer_io.proofs.Known.{whole_rest}
use Rattle.outer_io.proofs.transfer.write_all.Goals as goal

pub loop-done-preserved : goal.loop-done-preserved
loop-done-preserved g c =
    let i = c.loop-done.invariant in
    let e = c.in_ok-done.ensures in
    record {
      within = omega (
        arith,
        i.within,
        e.some.1,
        ap length (whole_rest c.args.bytes.now c.loop-done.done),
        length-drop c.loop-done.done
            c.args.bytes.now,
      );
      wrote = subst (λ x. Appends (g.K.Sink.taken c.args.sink.now) (g.K.Sink.taken c.write.new.self) x)
          (sym (take-add c.loop-done.done c.in_ok-done.field-0 c.args.bytes.now))
          (Appends-trans _ _ _ (take c.loop-done.done c.args.bytes.now) (take c.in_ok-done.field-0 (drop c.loop-done.done c.args.bytes.now))
          i.wrote
          (subst (λ x. Appends (g.K.Sink.taken c.loop-done.sink) (g.K.Sink.taken c.write.new.self) (take c.in_ok-done.field-0 x))
          (whole_rest c.args.bytes.now c.loop-done.done) e.bytes));
      later = omega (arith, i.later, c.write.ensures.cause.later);
    }
