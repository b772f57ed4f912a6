-- A command takes one byte more than it may read at most.
use Rattle.std.proofs.Common.{◌≡◌, subst, ℕ, ◌+◌, refl, arith, inl, inr}
use Rattle.outer_io.specs.Causes.{TookAtMost}
use Rattle.source_program.specs.Source.{source_limit}
use Rattle.smash_run.specs.Analysis.{Witness}
use Rattle.command_words.specs.Words.{Command, check, replay, workload, bundle, recheck, sweep, edit}
use Rattle.smash_run.specs.Run.{limit_of, Obeys, ObeysSource}
use Rattle.source_program.specs.Ends.{Change, TakesAtMost}
use Rattle.source_program.proofs.Taking.{took_none, took_whole}

source_bounded : (c : Command) (status : ℕ) (source sink : Change) (w : Witness) → ObeysSource c status source sink w →
    TakesAtMost source (limit_of c + 1)
source_bounded c status source sink w (inl e) =
    took_whole source.before source.after e.bytes (limit_of c) e.read.consumed e.read.fits
source_bounded c status source sink w (inr (inl l)) = (limit_of c + 1, omega arith, l.taken)
source_bounded c status source sink w (inr (inr (inl b))) = (b.taken.0, omega (arith, b.taken.1), b.taken.2)
source_bounded c status source sink w (inr (inr (inr m))) = m.taken

-- a source that is as it was gave nothing
pub bounded : (c : Command) (status : ℕ) (source sink : Change) (w : Witness) →
    ((n b v : ℕ) → c ≡ workload n b v → source.before ≡ source.after) → Obeys c status source sink w → TakesAtMost source (limit_of c + 1)
bounded (workload n b v) status source sink w same h =
    subst (λ a. TookAtMost source.before a (source_limit + 1)) (same n b v refl) (took_none source.before (source_limit + 1))
bounded (check b v) status source sink w same h = source_bounded (check b v) status source sink w h
bounded (replay f zs) status source sink w same h = source_bounded (replay f zs) status source sink w h
bounded (bundle k b) status source sink w same h = source_bounded (bundle k b) status source sink w h
bounded recheck status source sink w same h = source_bounded recheck status source sink w h
bounded (sweep e) status source sink w same h = source_bounded (sweep e) status source sink w h
bounded (edit n b v) status source sink w same h = source_bounded (edit n b v) status source sink w h
