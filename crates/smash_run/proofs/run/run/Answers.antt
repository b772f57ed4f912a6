use Rattle.std.proofs.Common.{ap, refl, rules, subst, sym}
use mathlib.Core.Logic.{inl}
use Rattle.std.specs.Prelude.{map, string_bytes}
use Rattle.report_text.specs.Usage.{usage_text}
use Rattle.smash_run.specs.Run.{Obeys}
use Rattle.source_program.specs.Ends.{Change, change, EndsWith}
use Rattle.command_words.specs.Words.{IsCommand, workload}
use Rattle.smash_run.specs.Analysis.{handed_by}
use Rattle.smash_run.specs.steps.Handing.{EndsSilent}
use Rattle.command_words.specs.Commands.{command_of}
use Rattle.source_program.proofs.Taking.{took_none}
use Rattle.smash_run.proofs.Bounded.{bounded}
use Rattle.smash_run.proofs.Completed.{completes}
use Rattle.smash_run.proofs.Obeyed.{nothing_read}
use Rattle.command_words.proofs.WordsRuns.{some_at}
use Rattle.command_words.proofs.WordsCommand.{one_command}
use Rattle.smash_run.proofs.run.run.Goals as goal

pub returns-in-Ok-Some-clause-obeys : goal.returns-in-Ok-Some-clause-obeys
returns-in-Ok-Some-clause-obeys g c given is =
    subst
    (λ z. Obeys z c.obey.result.status (change (g.S.Source.left c.args.source.now) (g.S.Source.left c.obey.new.source)
    (g.S.Source.faults c.args.source.now) (g.S.Source.faults c.obey.new.source))
    (change (g.K.Sink.taken c.args.sink.now) (g.K.Sink.taken c.obey.new.sink) (g.K.Sink.faults c.args.sink.now)
    (g.K.Sink.faults c.obey.new.sink)) (handed_by c.obey.result))
    (one_command (map string_bytes c.args.words.now) (command_of c.in-Ok-Some.given) given
    (some_at (λ k. IsCommand c.args.words.now (command_of k)) c.in-Ok-Some.field-0 c.in-Ok-Some.given c.in-Ok-Some.field-0-is
    c.in-Ok-Some.ensures.some) is)
    c.obey.ensures.obeys

pub returns-in-Ok-Some-clause-complete : goal.returns-in-Ok-Some-clause-complete
returns-in-Ok-Some-clause-complete g c given is = completes given _ _ _ _ (returns-in-Ok-Some-clause-obeys g c given is)

pub returns-in-Ok-Some-clause-workload_unread : goal.returns-in-Ok-Some-clause-workload_unread
returns-in-Ok-Some-clause-workload_unread g c n b w is =
    c.obey.ensures.unread n b w
    (one_command (map string_bytes c.args.words.now) (command_of c.in-Ok-Some.given) (workload n b w)
    (some_at (λ k. IsCommand c.args.words.now (command_of k)) c.in-Ok-Some.field-0 c.in-Ok-Some.given c.in-Ok-Some.field-0-is
    c.in-Ok-Some.ensures.some) is)

pub returns-in-Ok-Some-clause-bounded : goal.returns-in-Ok-Some-clause-bounded
returns-in-Ok-Some-clause-bounded g c given is =
    bounded given _ _ _ _ (λ n b w e. sym (ap g.S.Source.left (returns-in-Ok-Some-clause-workload_unread g c n b w
    (subst (IsCommand c.args.words.now) e is)))) (returns-in-Ok-Some-clause-obeys g c given is)

pub returns-in-Err-clause-obeys : goal.returns-in-Err-clause-obeys
returns-in-Err-clause-obeys g c given is =
    let left = g.S.Source.left c.args.source.now in
    let faults = g.S.Source.faults c.args.source.now in
    let source : Change = change left left faults faults in
    let taken = g.K.Sink.taken c.args.sink.now in
    let failed = g.K.Sink.faults c.args.sink.now in
    let sink : Change = change taken taken failed failed in
    let m : EndsSilent c.end-in-Err.result.status sink (handed_by c.end-in-Err.result) =
    record { is_seven = c.end-in-Err.ensures.status; silent = search rules; nothing = c.end-in-Err.ensures.nothing } in
    nothing_read given c.end-in-Err.result.status source sink (handed_by c.end-in-Err.result) refl m

pub returns-in-Err-clause-complete : goal.returns-in-Err-clause-complete
returns-in-Err-clause-complete g c given is = completes given _ _ _ _ (returns-in-Err-clause-obeys g c given is)

pub returns-in-Err-clause-bounded : goal.returns-in-Err-clause-bounded
returns-in-Err-clause-bounded g c given is = took_none _ _

pub returns-in-Ok-None-clause-usage : goal.returns-in-Ok-None-clause-usage
returns-in-Ok-None-clause-usage g c _ =
    let sink = change (g.K.Sink.taken c.args.sink.now) (g.K.Sink.taken c.tell.new.sink) (g.K.Sink.faults c.args.sink.now)
    (g.K.Sink.faults c.tell.new.sink) in
    record {
      ends = inl (subst (λ status. EndsWith status sink 4 usage_text) (sym c.end.ensures.status)
          (subst (λ text. EndsWith c.tell.result sink 4 text) c.usage.ensures c.tell.ensures));
      nothing = c.end.ensures.nothing;
    }
