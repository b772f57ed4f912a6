-- Where nothing fails, what is accepted is answered.
use Rattle.std.proofs.Common.{◌≡◌, ◌⊎◌, ℕ, suc, ◌<◌, ◌≤◌, List, length, Bool, leb, true, false, cond, sym, subst, arith}
use Rattle.std.specs.List.{list_any}
use Rattle.std.proofs.lemmas.Bool.Decides.{leb_tells}
use mathlib.Core.Logic.{inl, inr}
use Rattle.c_tree.specs.Syntax.{PureProgram}
use Rattle.c_tree.specs.declared.tree.AssertPlace.{AssertPlace}
use Rattle.bolt_core.specs.Boards.{Shown}
use Rattle.c_tree.specs.Meaning.{ReplayOutcome, Comes, Starved, Fuel, Returned, Stopped, Failed}
use Rattle.bolt_core.specs.declared.job.Verdict.{Verdict}
use Rattle.bolt_core.specs.declared.job.Verdict.TheVariants as verdict
use Rattle.proof_bundle.specs.Claims.{PureBundle}
use Rattle.proof_bundle.specs.Text.{bundle_text}
use Rattle.bundle_check.specs.RightClaims.{IsFirstWrong, IsRightProof}
use Rattle.report_text.specs.Bundles.{accepted_line, rejected_line}
use Rattle.report_text.specs.Sweeps.{is_found_entry, is_unknown_entry}
use Rattle.report_text.specs.Report.{is_found, is_unknown}
use Rattle.smash_run.specs.Analysis.{Witness}
use Rattle.command_words.specs.Words.{Command, check, replay, workload, bundle, recheck, sweep, edit}
use Rattle.smash_run.specs.Answers.{AnswersBundle, IsGood, Settles}
use Rattle.smash_run.specs.Asked.{replay_status, status_of}
use Rattle.smash_run.specs.Bundled.{HasFewer, IsBundled, IsRechecked, TellsProof, TellsVerdict, bundle_limit}
use Rattle.smash_run.specs.Swept.{entries_of, unfound_at}
use Rattle.smash_run.specs.Run.{EndsWorkload, Obeys, ObeysSource, Completes, CompletesSource, IsVerdictStatus}
use Rattle.source_program.specs.Ends.{Change, EndsWith, HasFault}
use Rattle.source_program.proofs.Taking.{whole, at_most}

three_way : (found unknown : Bool) (status : ℕ) → status ≡ cond found 1 (cond unknown 2 0) → IsVerdictStatus status
three_way true unknown status h = inr (inl h)
three_way false true status h = inr (inr (inl h))
three_way false false status h = inl h

check_ends : (vs : List Verdict) (status : ℕ) → status ≡ status_of vs → IsVerdictStatus status
check_ends vs status e = three_way (list_any is_found vs) (list_any is_unknown vs) status e

replay_ends : (o : ReplayOutcome) (status : ℕ) → status ≡ replay_status o → IsVerdictStatus status
replay_ends (Comes (Returned v)) status e = inl e
replay_ends (Comes Stopped) status e = inl e
replay_ends (Comes (Failed id)) status e = inr (inl e)
replay_ends Starved status e = inr (inr (inl e))
replay_ends Fuel status e = inr (inr (inl e))

-- fewer assertions than the number of one of them
none_fewer : (P : PureProgram) (n status : ℕ) (text : List ℕ) (w : Witness) → HasFewer P n status text w → n ≤ length P.asserts → ⊥
none_fewer P n status text w h there = omega (arith, h.fewer, there)

proof_ends : (board : Shown) (bytes : List ℕ) (id : ℕ) (place : AssertPlace) (status : ℕ) (text : List ℕ) →
    TellsProof board bytes id place status text → IsVerdictStatus status
proof_ends board bytes id place status text t = by_length (leb_tells (length (bundle_text t.bundle)) bundle_limit) where
  by_length : ((leb (length (bundle_text t.bundle)) bundle_limit ≡ true) × (length (bundle_text t.bundle) ≤ bundle_limit))
      ⊎ ((leb (length (bundle_text t.bundle)) bundle_limit ≡ false) × (bundle_limit < length (bundle_text t.bundle))) →
      IsVerdictStatus status
  by_length (inl h) = inl (t.fits h.1).0
  by_length (inr h) = inr (inr (inl (t.long h.1).0))

verdict_ends : (board : Shown) (bytes : List ℕ) (id : ℕ) (place : AssertPlace) (v : Verdict) (status : ℕ) (text : List ℕ) →
    TellsVerdict board bytes id place v status text → IsVerdictStatus status
verdict_ends board bytes id place verdict.Proved status text t = proof_ends board bytes id place status text t
verdict_ends board bytes id place (verdict.Found list) status text t = inr (inl t.0)
verdict_ends board bytes id place (verdict.Budget n) status text t = inr (inr (inl t.0))
verdict_ends board bytes id place (verdict.Limit kind) status text t = inr (inr (inl t.0))

recheck_ends : (P : PureProgram) (b : PureBundle) (status : ℕ) (text : List ℕ) (w : Witness) → IsRechecked P b status text w →
    IsVerdictStatus status
recheck_ends P b status text w k = by_told k.told where
  by_told : (IsRightProof k.graphs P.main b × (status ≡ 0) × (text ≡ accepted_line k.place))
      ⊎ ((n : ℕ) × IsFirstWrong k.graphs P.main b n × (status ≡ 2) × (text ≡ rejected_line n)) → IsVerdictStatus status
  by_told (inl r) = inl r.1
  by_told (inr r) = inr (inr (inl r.2))

-- the status of an answer to what is accepted is one of a verdict
answered : (c : Command) (bytes : List ℕ) (status : ℕ) (text : List ℕ) (w : Witness) → Settles c bytes status text w → IsGood c bytes →
    IsVerdictStatus status
answered (check budget workers) bytes status text w s good =
    let k = s good.0 good.1 in
    check_ends k.verdicts status k.ended
answered (replay fuel list) bytes status text w s good =
    let k = s good.0 good.1 in
    replay_ends k.outcome status k.ended
answered (workload number budget workers) bytes status text w s good =
    let k = s good.0 good.1 in
    check_ends k.verdicts status k.ended
answered (bundle number budget) bytes status text w s good = by_case (s good.0 good.1) where
  by_case : HasFewer good.0 number status text w ⊎ IsBundled good.0 bytes number budget status text w → IsVerdictStatus status
  by_case (inl h) = absurd (none_fewer good.0 number status text w h good.2)
  by_case (inr k) = verdict_ends k.board bytes k.id k.place k.verdict status text k.told
answered recheck bytes status text w s good = by_case (s good.bundle good.program good.is good.accepted) where
  by_case : AnswersBundle good.bundle good.program status text w → IsVerdictStatus status
  by_case (inl h) = absurd (none_fewer good.program (suc good.bundle.id) status text w h good.there)
  by_case (inr k) = recheck_ends good.program good.bundle status text w k
answered (sweep edges) bytes status text w s good =
    let k = s good.0 good.1 in
    three_way (list_any is_found_entry (entries_of k.swept))
    (list_any (is_unknown_entry (unfound_at edges k.swept.end)) (entries_of k.swept)) status k.ended
answered (edit old_length budget workers) bytes status text w s good =
    let k = s.both good.long_enough good.old good.new good.old_accepted good.new_accepted in
    check_ends k.verdicts status k.ended

source_completes : (c : Command) (status : ℕ) (source sink : Change) (w : Witness) → ObeysSource c status source sink w →
    CompletesSource c status source sink
source_completes c status source sink w (inl k) all told fits good read_well write_well = ended k.ends
  where
    same : k.bytes ≡ all
    same = whole source.before source.after all k.bytes told k.read.consumed k.read.at_end

    ended : EndsWith status sink k.due k.text → IsVerdictStatus status
    ended (inl e) = subst IsVerdictStatus (sym e.0)
        (answered c k.bytes k.due k.text w k.settled (subst (IsGood c) (sym same) good))
    ended (inr e) = absurd (write_well e.1)
source_completes c status source sink w (inr (inl l)) all told fits good read_well write_well =
    absurd (omega (arith, at_most source.before source.after all l.taken.0 told l.taken.1, l.taken.2, fits))
source_completes c status source sink w (inr (inr (inl b))) all told fits good read_well write_well = absurd (read_well b.failed)
source_completes c status source sink w (inr (inr (inr m))) all told fits good read_well write_well = inr (inr (inr m.is_seven))

workload_completes : (n b status : ℕ) (sink : Change) (w : Witness) → EndsWorkload n b status sink w → (HasFault sink → ⊥) →
    IsVerdictStatus status
workload_completes n b status sink w k write_well = ended k.ends
  where
    ended : EndsWith status sink k.due k.text → IsVerdictStatus status
    ended (inl e) = subst IsVerdictStatus (sym e.0) (check_ends k.reported.verdicts k.due k.reported.ended)
    ended (inr e) = absurd (write_well e.1)

pub completes : (c : Command) (status : ℕ) (source sink : Change) (w : Witness) → Obeys c status source sink w →
    Completes c status source sink
completes (workload n b v) status source sink w (inl k) = workload_completes n b status sink w k
completes (workload n b v) status source sink w (inr m) = λ write_well. inr (inr (inr m.is_seven))
completes (check b v) status source sink w h = source_completes (check b v) status source sink w h
completes (replay f zs) status source sink w h = source_completes (replay f zs) status source sink w h
completes (bundle k b) status source sink w h = source_completes (bundle k b) status source sink w h
completes recheck status source sink w h = source_completes recheck status source sink w h
completes (sweep e) status source sink w h = source_completes (sweep e) status source sink w h
completes (edit n b v) status source sink w h = source_completes (edit n b v) status source sink w h
