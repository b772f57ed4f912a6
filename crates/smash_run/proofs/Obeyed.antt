-- How commands end.
use Rattle.std.proofs.Common.{◌≡◌, ◌⊎◌, ℕ, ◌+◌, ◌≤◌, List, arith, subst, sym, inl, inr}
use Rattle.outer_io.specs.Causes.{Took, TookAtMost}
use Rattle.workload_gen.specs.Workload.{text_of, workload_lines}
use Rattle.smash_run.specs.Analysis.{Witness, no_witness}
use Rattle.smash_run.specs.Run.{limit_of, long_text_of, EndsEmpty, EndsWorkload, Obeys, ObeysSource}
use Rattle.source_program.specs.Ends.{Change, EndsWith, StaysAsItWas}
use Rattle.source_program.specs.Source.{IsAccepted}
use Rattle.command_words.specs.Words.{Command, check, replay, workload, bundle, recheck, sweep, edit}
use Rattle.smash_run.specs.steps.Handing.{EndsAsked, EndsSilent}
use Rattle.source_program.proofs.Taking.{took_none}
use Rattle.workload_accepted.proofs.WorkloadAccepted.{workload_accepted}

-- memory ran out, and the source is as it was
pub silently : (c : Command) (status : ℕ) (source sink : Change) (w : Witness) → source.before ≡ source.after →
    EndsSilent status sink w → EndsEmpty c status source sink w
silently c status source sink w same m = record {
  taken = subst (λ a. TookAtMost source.before a (limit_of c + 1)) same (took_none source.before (limit_of c + 1));
  is_seven = m.is_seven;
  silent = m.silent;
  nothing = m.nothing;
}

module _ (n b v status : ℕ) (source sink : Change) (w : Witness) (same : source.before ≡ source.after) where
  -- the text of a workload is never refused
  pub workload_ends : (bytes : List ℕ) → 1 ≤ n → n ≤ 60 → bytes ≡ text_of (workload_lines n) →
      EndsAsked (workload n b v) bytes status sink w ⊎ EndsSilent status sink w →
      EndsWorkload n b status sink w ⊎ EndsEmpty (workload n b v) status source sink w
  workload_ends bytes some few is (inr m) = inr (silently (workload n b v) status source sink w same m)
  workload_ends bytes some few is (inl e) =
      let a = workload_accepted n some few in
      inl (record {
        program = a.0;
        accepted = a.1;
        each = a.2;
        due = e.due;
        text = e.text;
        reported = e.settled a.0 (subst (λ t. IsAccepted t a.0) (sym is) a.1);
        ends = e.ends;
      })

-- memory ran out before the source was read
pub nothing_read : (c : Command) (status : ℕ) (source sink : Change) (w : Witness) → source.before ≡ source.after →
    EndsSilent status sink w →
    Obeys c status source sink w
nothing_read (workload n b v) status source sink w same m = inr (silently (workload n b v) status source sink w same m)
nothing_read (check b v) status source sink w same m = inr (inr (inr (silently (check b v) status source sink w same m)))
nothing_read (replay f zs) status source sink w same m = inr (inr (inr (silently (replay f zs) status source sink w same m)))
nothing_read (bundle k b) status source sink w same m = inr (inr (inr (silently (bundle k b) status source sink w same m)))
nothing_read recheck status source sink w same m = inr (inr (inr (silently recheck status source sink w same m)))
nothing_read (sweep e) status source sink w same m = inr (inr (inr (silently (sweep e) status source sink w same m)))
nothing_read (edit n b v) status source sink w same m = inr (inr (inr (silently (edit n b v) status source sink w same m)))

-- the source was too long
pub refused_long : (c : Command) (status : ℕ) (source sink : Change) (w : Witness) → Took source.before source.after (limit_of c + 1) →
    w ≡ no_witness → EndsWith status sink 3 (long_text_of c) ⊎ ((status ≡ 7) × StaysAsItWas sink) → ObeysSource c status source sink w
refused_long c status source sink w took nothing (inl e) = inr (inl (record { taken = took; ends = e; nothing = nothing }))
refused_long c status source sink w took nothing (inr (seven, silent)) =
    inr (inr (inr (record { taken = (limit_of c + 1, omega arith, took); is_seven = seven; silent = silent; nothing = nothing })))
