use Rattle.std.proofs.Common.{◌∙◌, ap}
use Rattle.std.specs.Prelude.{map}
use Rattle.report_text.specs.Sweeps.{entry_of, sweep_text}
use Rattle.smash_run.specs.Swept.{sweep_status, unfound_at}
use Rattle.smash_run.proofs.sweeps.swept_reply.Goals as goal

pub returns : goal.returns
returns c =
    let others = unfound_at c.args.edges c.args.paths.now.end in
    let places = c.args.program.now.asserts.items in
    record {
      ended = c.bare_reply.ensures.status ∙ (c.status.ensures
          ∙ (ap (λ o. sweep_status o (map entry_of c.deref-2.result.now)) c.unfound-others.ensures
          ∙ ap (λ xs. sweep_status others (map entry_of xs)) c.deref-2.ensures.value));
      told = ap (λ t. t.items) c.bare_reply.ensures.text ∙ (c.in_ok-text.ensures
          ∙ (ap (λ o. sweep_text o places (map entry_of c.deref.result.now)) c.unfound-others.ensures
          ∙ ap (λ xs. sweep_text others places (map entry_of xs)) c.deref.ensures.value));
      nothing = c.bare_reply.ensures.nothing;
    }
