use Rattle.std.proofs.Common.{Err, ◌∙◌, ◌+◌, ap, subst}
use Rattle.outer_io.specs.Causes.{Took}
use Rattle.source_program.specs.Ends.{Change, change}
use Rattle.smash_run.specs.Analysis.{handed_by}
use Rattle.command_words.specs.Commands.{command_of}
use Rattle.smash_run.proofs.Obeyed.{refused_long}
use Rattle.smash_run.proofs.run.obey_source.Goals as goal

pub returns-in-Err-TooLong : goal.returns-in-Err-TooLong
returns-in-Err-TooLong g c =
    let source : Change = change (g.S.Source.left c.args.source.now) (g.S.Source.left c.read_all.new.source)
    (g.S.Source.faults c.args.source.now) (g.S.Source.faults c.read_all.new.source) in
    let sink : Change = change (g.K.Sink.taken c.args.sink.now) (g.K.Sink.taken c.tell_too_long.new.sink)
    (g.K.Sink.faults c.args.sink.now) (g.K.Sink.faults c.tell_too_long.new.sink) in
    refused_long (command_of c.args.command.now) c.tell_too_long.result.status source sink (handed_by c.tell_too_long.result)
    (subst (λ most. Took (g.S.Source.left c.args.source.now) (g.S.Source.left c.read_all.new.source) (most + 1)) c.limit.ensures
    (c.read_all.ensures.long (c.in-Err-TooLong.is ∙ ap Err c.in-Err-TooLong.field-0-is))) c.tell_too_long.ensures.nothing
    c.tell_too_long.ensures.ends
