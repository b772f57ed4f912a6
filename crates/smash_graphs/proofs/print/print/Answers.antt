use Rattle.std.proofs.Common.{Err, sym, ap, ◌∙◌, subst}
use Rattle.source_program.specs.Ends.{Change, IsWhole, change}
use Rattle.source_program.specs.Source.{source_limit}
use Rattle.smash_graphs.proofs.Printing.{read_ends, long_ends, completes}
use Rattle.smash_graphs.proofs.print.print.Goals as goal

pub returns-in-Ok-clause-prints : goal.returns-in-Ok-clause-prints
returns-in-Ok-clause-prints g c =
    let source : Change = change (g.S.Source.left c.args.source.now) (g.S.Source.left c.read_all.new.source)
    (g.S.Source.faults c.args.source.now) (g.S.Source.faults c.read_all.new.source) in
    let sink : Change = change (g.K.Sink.taken c.args.sink.now) (g.K.Sink.taken c.reply_with.new.sink)
    (g.K.Sink.faults c.args.sink.now) (g.K.Sink.faults c.reply_with.new.sink) in
    let read : IsWhole source_limit source c.in-Ok.bytes.items =
    record { consumed = c.in-Ok.ensures.ok.0; at_end = c.in-Ok.ensures.ok.1; fits = c.in-Ok.ensures.ok.2 } in
    read_ends c.reply_with.result source sink c.deref.result.now (subst (IsWhole source_limit source) (sym c.deref.ensures.value) read)
    c.reply_with.ensures

pub returns-in-Ok-clause-complete : goal.returns-in-Ok-clause-complete
returns-in-Ok-clause-complete g c = completes _ _ _ (returns-in-Ok-clause-prints g c)

pub returns-in-Err-TooLong-clause-prints : goal.returns-in-Err-TooLong-clause-prints
returns-in-Err-TooLong-clause-prints g c =
    let source : Change = change (g.S.Source.left c.args.source.now) (g.S.Source.left c.read_all.new.source)
    (g.S.Source.faults c.args.source.now) (g.S.Source.faults c.read_all.new.source) in
    let sink : Change = change (g.K.Sink.taken c.args.sink.now) (g.K.Sink.taken c.tell_too_long.new.sink)
    (g.K.Sink.faults c.args.sink.now) (g.K.Sink.faults c.tell_too_long.new.sink) in
    long_ends c.tell_too_long.result source sink (c.read_all.ensures.long (c.in-Err-TooLong.is ∙ ap Err c.in-Err-TooLong.field-0-is))
    c.tell_too_long.ensures
