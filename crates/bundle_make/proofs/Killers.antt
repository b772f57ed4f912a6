-- Which asked queries kill is what the walk along the steps takes it for.
use Rattle.std.proofs.Common.{◌≡◌, ℕ, suc, List, [], ◌∷◌, Bool, true, false, ◌||◌, Some, refl, sym, ap, ◌∙◌, ◌==◌}
use Rattle.std.proofs.lemmas.Bool.{eqb-true}
use Rattle.std.specs.Cmp.{both_ways}
use Rattle.may_partition.specs.declared.region.RegionEdge.{RegionEdge}
use Rattle.query_rules.specs.Seen.{Seen}
use Rattle.query_rules.specs.declared.step.Killer.TheVariants as killer
use Rattle.query_rules.specs.declared.step.Step.{Step}
use Rattle.query_rules.specs.declared.step.Step.TheVariants as step
use Rattle.bundle_check.proofs.Naming.{child_kills, told_kill}
use Rattle.bundle_make.specs.Bundling.{KillsByChild}
use Rattle.bundle_make.specs.steps.Killing.{AreKilled, is_killed}

clash : false ≡ true → ⊥
clash e = cc

-- whether a step kills by the asked query of this number
abbrev kills_by : Step → ℕ → Bool
kills_by (step.Kill k (killer.Child j)) i = j == i
kills_by _ i = false

child_step : (s : Step) (steps : List Step) (i : ℕ) → child_kills (s ∷ steps) i ≡ (kills_by s i || child_kills steps i)
child_step (step.Extend k trail point) steps i = refl
child_step (step.Split k atoms follows proofs) steps i = refl
child_step (step.Kill k (killer.Certificate c)) steps i = refl
child_step (step.Kill k (killer.Table place proof)) steps i = refl
child_step (step.Kill k (killer.Child j)) steps i = refl
child_step (step.Kill k (killer.Ancestor level proof)) steps i = refl
child_step (step.CallExtend k trail place point) steps i = refl
child_step (step.CallSplit k place atoms follows proofs) steps i = refl
child_step (step.CallPart k by atom atoms follows proofs) steps i = refl
child_step (step.Ask k q follows seen) steps i = refl
child_step (step.Feed j) steps i = refl
child_step (step.Stuck k why seen) steps i = refl

is_kill : (s : Step) (i : ℕ) → kills_by s i ≡ true → (k : RegionEdge) × (s ≡ step.Kill k (killer.Child i))
is_kill (step.Extend k trail point) i e = absurd (clash e)
is_kill (step.Split k atoms follows proofs) i e = absurd (clash e)
is_kill (step.Kill k (killer.Certificate c)) i e = absurd (clash e)
is_kill (step.Kill k (killer.Table place proof)) i e = absurd (clash e)
is_kill (step.Kill k (killer.Child j)) i e = (k, ap (λ x. step.Kill k (killer.Child x)) (eqb-true j i e))
is_kill (step.Kill k (killer.Ancestor level proof)) i e = absurd (clash e)
is_kill (step.CallExtend k trail place point) i e = absurd (clash e)
is_kill (step.CallSplit k place atoms follows proofs) i e = absurd (clash e)
is_kill (step.CallPart k by atom atoms follows proofs) i e = absurd (clash e)
is_kill (step.Ask k q follows seen) i e = absurd (clash e)
is_kill (step.Feed j) i e = absurd (clash e)
is_kill (step.Stuck k why seen) i e = absurd (clash e)

found_kill : (steps : List Step) (i : ℕ) → child_kills steps i ≡ true → KillsByChild steps i
found_kill [] i e = absurd (clash e)
found_kill (s ∷ steps) i e = by_test (kills_by s i) refl (found_kill steps i) (sym (child_step s steps i) ∙ e) where
  by_test : (t : Bool) → kills_by s i ≡ t → (child_kills steps i ≡ true → KillsByChild steps i) → (t || child_kills steps i) ≡ true →
      KillsByChild (s ∷ steps) i
  by_test true is rest h = let w = is_kill s i is in (0, w.0, ap Some w.1)
  by_test false is rest h = let w = rest h in (suc w.0, w.1, w.2)

pub same_kills : (s : Seen) (ks : List Bool) → AreKilled s ks → (j : ℕ) → is_killed ks j ≡ child_kills s.steps j
same_kills s ks h j = both_ways (is_killed ks j) (child_kills s.steps j)
    (λ e. let w = h.kills j e in told_kill s.steps w.0 w.1 j w.2) (λ e. h.all_kills j (found_kill s.steps j e))
