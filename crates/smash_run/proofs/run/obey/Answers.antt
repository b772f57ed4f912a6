use Rattle.std.proofs.Common.{◌⊎◌, ◌∙◌, subst, sym, refl, inr, rules}
use Rattle.smash_run.specs.Run.{Obeys}
use Rattle.source_program.specs.Ends.{Change, change}
use Rattle.smash_run.specs.Analysis.{handed_by}
use Rattle.smash_run.specs.steps.Handing.{EndsAsked, EndsSilent}
use Rattle.command_words.specs.Words.{workload}
use Rattle.command_words.specs.Commands.{FitsCommand, command_of}
use Rattle.smash_run.proofs.Obeyed.{silently, workload_ends}
use Rattle.smash_run.proofs.run.obey.Goals as goal

pub returns-in-Ok-clause-obeys : goal.returns-in-Ok-clause-obeys
returns-in-Ok-clause-obeys g c =
    let left = g.S.Source.left c.args.source.now in
    let faults = g.S.Source.faults c.args.source.now in
    let source : Change = change left left faults faults in
    let sink : Change = change (g.K.Sink.taken c.args.sink.now) (g.K.Sink.taken c.reply_with.new.sink) (g.K.Sink.faults c.args.sink.now)
    (g.K.Sink.faults c.reply_with.new.sink) in
    let status = c.reply_with.result.status in
    let w = handed_by c.reply_with.result in
    let fits = subst (λ k. FitsCommand (command_of k)) c.in-Workload.is c.requires in
    let ends = subst (λ k. EndsAsked (command_of k) c.deref.result.now status sink w ⊎ EndsSilent status sink w) c.in-Workload.is
    c.reply_with.ensures in
    subst (λ k. Obeys (command_of k) status source sink w) (sym c.in-Workload.is)
    (workload_ends c.in-Workload.number c.in-Workload.budget c.in-Workload.workers status source sink w refl c.deref.result.now fits.0
    fits.1
    (c.deref.ensures.value ∙ c.in-Ok.ensures.text) ends)

pub returns-in-Err-clause-obeys : goal.returns-in-Err-clause-obeys
returns-in-Err-clause-obeys g c =
    let left = g.S.Source.left c.args.source.now in
    let faults = g.S.Source.faults c.args.source.now in
    let source : Change = change left left faults faults in
    let taken = g.K.Sink.taken c.args.sink.now in
    let failed = g.K.Sink.faults c.args.sink.now in
    let sink : Change = change taken taken failed failed in
    let status = c.end.result.status in
    let w = handed_by c.end.result in
    let m : EndsSilent status sink w =
    record { is_seven = c.end.ensures.status; silent = search rules; nothing = c.end.ensures.nothing } in
    subst (λ k. Obeys (command_of k) status source sink w) (sym c.in-Workload.is)
    (inr (silently (workload c.in-Workload.number c.in-Workload.budget c.in-Workload.workers) status source sink w refl m))
