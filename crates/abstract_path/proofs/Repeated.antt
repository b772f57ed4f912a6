-- Distances stay right where an edge is shut that is no region's first edge.
use Rattle.std.proofs.Common.{◌≡◌, ◌≢◌, ℕ, ◌<◌, inl, inr, Bool, true, false, List, length, set, sym, ap, ◌∙◌, get_or-set_same, get_or-set_other, slice_index}
use Rattle.std.proofs.lemmas.Bool.{cases_eq}
use Rattle.abstract_path.specs.Routes.{is_at}
use Rattle.abstract_path.specs.steps.Layers.{IsMeasured}

pub measured_without : (edges : List (ℕ × ℕ)) (shut : List Bool) (regions target : ℕ) (far way : List ℕ) (n : ℕ) → n < length shut →
    IsMeasured edges shut regions target far way → ((r : ℕ) → slice_index far r ≢ 0 → slice_index way r ≢ n) →
    IsMeasured edges (set shut n true) regions target far way
measured_without edges shut regions target far way n h m other = record {
  fars = m.fars;
  ways = m.ways;
  at_target = m.at_target;
  leads = λ r k. elim (m.leads r k) [
    | inl e ↦ inl e
    | inr w ↦ inr (w.0, (w.1.0, get_or-set_other shut n (slice_index way r) true false (other r k) ∙ w.1.1), w.2, w.3)
  ];
  low = m.low;
  settled = λ r k e a o. m.settled r k e a (o.0, was_open e o.1);
} where
  clash : true ≡ false → ⊥
  clash p = cc

  was_open : (e : ℕ) → is_at (set shut n true) e ≡ false → is_at shut e ≡ false
  was_open e f = elim (cases_eq e n) [
    | inl s ↦ absurd (clash (sym (ap (is_at (set shut n true)) s ∙ get_or-set_same shut n true false h) ∙ f))
    | inr d ↦ sym (get_or-set_other shut n e true false d) ∙ f
  ]
