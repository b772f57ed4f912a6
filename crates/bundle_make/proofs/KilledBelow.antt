-- Which asked queries the steps kill by, one step after the other.
use Rattle.std.proofs.Common.{◌≡◌, ⊎_elim, ℕ, zero, suc, ◌+◌, ◌<◌, ◌≤◌, List, length, get_or, set, replicate, Bool, true, false, Some, arith, refl, sym, subst, ap, ◌∙◌}
use Rattle.std.specs.Prelude.{slice_get}
use Rattle.std.proofs.lemmas.Bool.{cases_eq, cases_lt}
use Rattle.std.proofs.lemmas.List.{get_or-set_other, get_or-set_same, length-set}
use Rattle.std.proofs.lemmas.Option.{same_Some, slice_get-get_or, slice_get_within}
use Rattle.may_partition.specs.declared.region.RegionEdge.{RegionEdge}
use Rattle.query_rules.specs.Seen.{Seen}
use Rattle.query_rules.specs.declared.step.Killer.TheVariants as killer
use Rattle.query_rules.specs.declared.step.Step.{Step}
use Rattle.query_rules.specs.declared.step.Step.TheVariants as step
use Rattle.bundle_make.specs.steps.Killing.{AreKilled, is_killed}

clash : false ≡ true → ⊥
clash e = cc

-- some step before a place kills by the asked query of this number
abbrev pub KillsBelow : List Step → (i j : ℕ) → Type 0
KillsBelow steps i j = (n : ℕ) × (n < i) × (k : RegionEdge) × (slice_get steps n ≡ Some (step.Kill k (killer.Child j)))

-- those of the steps before a place
pub record AreKilledBelow (s : Seen) (ks : List Bool) (i : ℕ) : Type 0 where
  pub many : length ks ≡ length s.asked
  pub kills : (j : ℕ) → is_killed ks j ≡ true → KillsBelow s.steps i j
  pub all_kills : (j : ℕ) → KillsBelow s.steps i j → is_killed ks j ≡ true

none_killed : (n j : ℕ) → get_or (replicate n false) j false ≡ false
none_killed zero j = refl
none_killed (suc n) zero = refl
none_killed (suc n) (suc j) = none_killed n j

pub killed_before : (s : Seen) (ks : List Bool) → ks ≡ replicate (length s.asked) false → length ks ≡ length s.asked → AreKilledBelow s ks 0
killed_before s ks is many = record {
  many = many;
  kills = λ j e. absurd (clash (sym (ap (λ xs. get_or xs j false) is ∙ none_killed (length s.asked) j) ∙ e));
  all_kills = λ j w. absurd (omega (arith, w.1));
}

module _ (s : Seen) (ks : List Bool) (i : ℕ) (t d : Step) (low : i < length s.steps) (at : t ≡ get_or s.steps i d)
    (h : AreKilledBelow s ks i) where
  here : slice_get s.steps i ≡ Some t
  here = slice_get-get_or s.steps i d low ∙ ap Some (sym at)

  longer : (j : ℕ) → KillsBelow s.steps i j → KillsBelow s.steps (i + 1) j
  longer j w = (w.0, omega (arith, w.1), w.2, w.3)

  -- the step kills by no asked query
  pub killed_other : ((k : RegionEdge) (j : ℕ) → t ≡ step.Kill k (killer.Child j) → ⊥) → AreKilledBelow s ks (i + 1)
  killed_other none = record {
    many = h.many;
    kills = λ j e. longer j (h.kills j e);
    all_kills = λ j w. ⊎_elim (λ l. h.all_kills j (w.0, l, w.2, w.3)) (λ g. absurd (none w.2 j (same_Some t (step.Kill w.2 (killer.Child j))
        (sym here ∙ (ap (slice_get s.steps) (at_place w.0 w.1 g) ∙ w.3))))) (cases_lt w.0 i);
  } where
    at_place : (n : ℕ) → n < i + 1 → i ≤ n → i ≡ n
    at_place n a b = omega (arith, a, b)

  -- the step kills by this one
  pub killed_by : (k : RegionEdge) (c : ℕ) → t ≡ step.Kill k (killer.Child c) → ((n j : ℕ) (l : RegionEdge) →
      slice_get s.steps n ≡ Some (step.Kill l (killer.Child j)) → j < length s.asked) → AreKilledBelow s (set ks c true) (i + 1)
  killed_by k c is asked = record {
    many = length-set ks c true ∙ h.many;
    kills = λ j e. ⊎_elim (λ same. subst (KillsBelow s.steps (i + 1)) (sym same) (i, omega arith, k, here ∙ ap Some is))
        (λ other. longer j (h.kills j (sym (get_or-set_other ks c j true false other) ∙ e))) (cases_eq j c);
    all_kills = λ j w. ⊎_elim (λ same. subst (λ x. is_killed (set ks c true) x ≡ true) (sym same) its)
        (λ other. get_or-set_other ks c j true false other ∙ ⊎_elim (λ l. h.all_kills j (w.0, l, w.2, w.3))
        (λ g. absurd (other (same_child w.2 j (sym is ∙ same_Some t (step.Kill w.2 (killer.Child j))
        (sym here ∙ (ap (slice_get s.steps) (at_place w.0 w.1 g) ∙ w.3)))))) (cases_lt w.0 i)) (cases_eq j c);
  } where
    at_place : (n : ℕ) → n < i + 1 → i ≤ n → i ≡ n
    at_place n a b = omega (arith, a, b)

    its : is_killed (set ks c true) c ≡ true
    its = get_or-set_same ks c true false (omega (arith, asked i c k (here ∙ ap Some is), h.many))

    same_child : (l : RegionEdge) (j : ℕ) → step.Kill k (killer.Child c) ≡ step.Kill l (killer.Child j) → j ≡ c
    same_child l j e = cc

pub killed_all : (s : Seen) (ks : List Bool) (i : ℕ) → length s.steps ≤ i → AreKilledBelow s ks i → AreKilled s ks
killed_all s ks i past h = record {
  many = h.many;
  kills = λ j e. let w = h.kills j e in (w.0, w.2, w.3);
  all_kills = λ j w. h.all_kills j (w.0, omega (arith, slice_get_within s.steps w.0 (step.Kill w.1 (killer.Child j)) w.2, past), w.1, w.2);
}
