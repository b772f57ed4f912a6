-- A whole run.
use Rattle.std.proofs.Common.{◌≡◌, ℕ, ◌+◌, ◌-◌, ◌≤◌, List, [], length, drop, Option, Some, None, ℤ, IsTrue, refl, sym, ap, ◌∙◌, subst, arith}
use Rattle.std.specs.Prelude.{slice_get}
use Rattle.std.proofs.lemmas.List.{drop_all, length-drop}
use Rattle.c_tree.specs.Syntax.{PureProcedure, PureProgram}
use Rattle.c_tree.specs.WellFormed.{takes, IsWellFormed}
use Rattle.c_tree.specs.Meaning.{World, Progress, goes, ends, Relation, Gives, Onward, Then, ReplayOutcome, Comes, Starved, Fuel, Returned, Stopped, Failed, replay_of, world_of, started, Replays}
use Rattle.run_replay.specs.steps.Machine.{Waiting, Snapshot, Moment, Control, over, world, enters}
use Rattle.run_replay.specs.steps.Results.{result_of, AnyRun, Results}
use Rattle.run_replay.specs.steps.Standing.{Stands}
use Rattle.run_replay.specs.declared.outcome.Outcome.{Outcome as Outcome_of}
use Rattle.run_replay.specs.declared.machine.Next.{Next}
use Rattle.run_replay.specs.declared.machine.Next.TheVariants.{Begin, Value, Run, Flow as Left_by, Ended}
use Rattle.run_replay.specs.steps.View.{control_of}
use Rattle.run_replay.proofs.Falls.{IsOver}
use Rattle.run_replay.proofs.Keeps.{enters_keeps}
use Rattle.run_replay.proofs.Stands.{enters_stands}
use Rattle.run_replay.proofs.Fed.{Fed, enters_fed}

then_gives_it : {A : Type 0} (P : Relation A) (w : World) (o : Progress A) → Then P (λ v. Gives v) w o → P w o
then_gives_it {A} P w o h = on h.0 h.1 h.2
  where
    on : (r : Progress A) → P w r → Onward (λ v. Gives v) r o → P w o
    on (goes w1 v) p k = subst (P w) (sym k) p
    on (ends w1 e) p k = subst (P w) (sym k) p

-- before `main` begins
abbrev pub start : (globals inputs : List ℤ) → ℕ → Snapshot
start globals inputs fuel = record {
  waits = [];
  arguments = [];
  under = [];
  frame = [];
  globals = globals;
  inputs = inputs;
  used = 0;
  steps_left = fuel;
}

main_in : (f : Option PureProcedure) (n : ℕ) → IsTrue (takes f n) → (q : PureProcedure) × (f ≡ Some q)
main_in None n h = cc
main_in (Some q) n h = (q, refl)

pub main_keeps : (P : PureProgram) (formed : IsWellFormed P) (inputs : List ℤ) (fuel : ℕ) (o : Progress ℤ) →
    (let r = enters P P.main (start P.globals inputs fuel) in Results P r.0 r.1 (world r.1) o) →
    AnyRun P P.main [] (started P.globals inputs fuel) o
main_keeps P formed inputs fuel o h =
    let f = main_in (slice_get P.procedures P.main) 0 formed.main_takes_none in
    let n = length {A = ℤ} [] - f.0.params in
    let none : drop {A = ℤ} n [] ≡ [] = drop_all n [] (omega arith) in
    then_gives_it (AnyRun P P.main []) (started P.globals inputs fuel) o
    (subst (λ args. Then (AnyRun P P.main args) (λ v. Gives v) (started P.globals inputs fuel) o) none
    (enters_keeps P P.main f.0 (start P.globals inputs fuel) o f.1 h))

pub main_stands : (P : PureProgram) (formed : IsWellFormed P) (inputs : List ℤ) (fuel : ℕ) →
    (let r = enters P P.main (start P.globals inputs fuel) in
    Stands P r.0 r.1.waits)
main_stands P formed inputs fuel = enters_stands P formed P.main (slice_get P.procedures P.main) (start P.globals inputs fuel) refl tt

pub main_fed : (P : PureProgram) (inputs : List ℤ) (fuel : ℕ) → (let r = enters P P.main (start P.globals inputs fuel) in
    Fed inputs r.0 r.1)
main_fed P inputs fuel = enters_fed inputs (slice_get P.procedures P.main) (start P.globals inputs fuel) (refl, omega arith)

replay_result : (r : ReplayOutcome) (w : World) → r ≡ replay_of (result_of r w)
replay_result (Comes (Returned v)) w = refl
replay_result (Comes Stopped) w = refl
replay_result (Comes (Failed id)) w = refl
replay_result Starved w = refl
replay_result Fuel w = refl

world_result : (r : ReplayOutcome) (w : World) → world_of (result_of r w) ≡ w
world_result (Comes (Returned v)) w = refl
world_result (Comes Stopped) w = refl
world_result (Comes (Failed id)) w = refl
world_result Starved w = refl
world_result Fuel w = refl

-- a run that is over is a replay
pub replays_at : (P : PureProgram) (inputs : List ℤ) (fuel : ℕ) (r : ReplayOutcome) (m : Snapshot) → Fed inputs (over r) m →
    ((o : Progress ℤ) → Results P (over r) m (world m) o → AnyRun P P.main [] (started P.globals inputs fuel) o) →
    Replays P inputs fuel r m.used
replays_at P inputs fuel r m fed results =
    let run = results (result_of r (world m)) refl in
    let le : m.used ≤ length m.inputs = fed.1 in
    let left : m.used + length (drop m.used m.inputs) ≡ length m.inputs = omega (arith, length-drop m.used m.inputs) in (
      run.0,
      result_of r (world m),
      run.1,
      replay_result r (world m),
      ap (λ w. m.used + length w.inputs) (world_result r (world m)) ∙ left
          ∙ ap length fed.0,
    )

-- what holds at a moment holds where a machine arrives at it
pub arrived : (F : Control → Snapshot → Type 0) (c : Control) (m : Snapshot) (r : Moment) → (c ≡ r.0) × (m ≡ r.1) → F r.0 r.1 → F c m
arrived F c m r e h = subst (λ x. F x m) (sym e.0) (subst (F r.0) (sym e.1) h)

pub start_is : (waits : List Waiting) (arguments under frame globals before inputs : List ℤ) (fuel : ℕ) → waits ≡ [] → arguments ≡ [] →
    under ≡ [] → frame ≡ [] → globals ≡ before →
    ◌≡◌ {A = Snapshot} (record {
      waits = waits;
      arguments = arguments;
      under = under;
      frame = frame;
      globals = globals;
      inputs = inputs;
      used = 0;
      steps_left = fuel;
    })
    (start before inputs fuel)
start_is waits arguments under frame globals before inputs fuel a b c d e = cc

pub not_over : (n : Next) → ((o : Outcome_of) → n ≡ Ended o → ⊥) → IsOver (control_of n) → ⊥
not_over (Begin e) h k = k
not_over (Value v) h k = k
not_over (Run a) h k = k
not_over (Left_by f) h k = k
not_over (Ended o) h k = h o refl
