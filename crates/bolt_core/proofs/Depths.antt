-- The laws of giving.
use Rattle.std.proofs.Common.{ℕ, zero, suc, ◌≤◌, List, [], ◌∷◌, ◌++◌, length, drop, arith}
use Rattle.bolt_core.specs.Given.{AllAt, Gives, IsGraded}

module _ {Q : Type 0} (nm : ℕ → Q → Type 0) where
  pub all_less : IsGraded nm → (d : ℕ) (qs : List Q) → AllAt nm (suc d) qs → AllAt nm d qs
  all_less g d [] h = tt
  all_less g d (q ∷ qs) h = (g.less d q h.0, all_less g d qs h.1)

  pub all_push : (d : ℕ) (qs : List Q) (q : Q) → AllAt nm d qs → nm d q → AllAt nm d (qs ++ q ∷ [])
  all_push d [] q h k = (k, tt)
  all_push d (x ∷ qs) q h k = (h.0, all_push d qs q h.1 k)

  pub all_drop : (d j : ℕ) (qs : List Q) → AllAt nm d qs → AllAt nm d (drop j qs)
  all_drop d zero qs h = h
  all_drop d (suc j) [] h = tt
  all_drop d (suc j) (x ∷ qs) h = all_drop d j qs h.1

  -- what is dropped of a longer list
  pub all_drop_push : (d l : ℕ) (qs : List Q) (q : Q) → AllAt nm d (drop l qs) → nm d q → AllAt nm d (drop l (qs ++ q ∷ []))
  all_drop_push d zero qs q h k = all_push d qs q h k
  all_drop_push d (suc l) [] q h k = all_drop d l [] tt
  all_drop_push d (suc l) (x ∷ qs) q h k = all_drop_push d l qs q h k

  pub all_deeper : (d l j : ℕ) (qs : List Q) → l ≤ j → AllAt nm d (drop l qs) → AllAt nm d (drop j qs)
  all_deeper d zero j qs le h = all_drop d j qs h
  all_deeper d (suc l) zero qs le h = absurd (omega arith)
  all_deeper d (suc l) (suc j) [] le h = tt
  all_deeper d (suc l) (suc j) (x ∷ qs) le h = all_deeper d l j qs (omega arith) h

  pub all_past : (d l : ℕ) (qs : List Q) → length qs ≤ l → AllAt nm d (drop l qs)
  all_past d zero [] le = tt
  all_past d zero (x ∷ qs) le = absurd (omega arith)
  all_past d (suc l) [] le = tt
  all_past d (suc l) (x ∷ qs) le = all_past d l qs (omega arith)

  -- A query that is given by others and itself is given by the others. H stands for the others at each depth.
  discharge_by : IsGraded nm → (H : ℕ → Type 0) → ((d : ℕ) → H (suc d) → H d) → (s : Q) → ((d : ℕ) → H d → nm d s → nm (suc d) s) →
      (d : ℕ) →
      H d → nm (suc d) s
  discharge_by g H less s next zero h = next zero h (g.none s)
  discharge_by g H less s next (suc d) h = next (suc d) h (discharge_by g H less s next d (less d h))

  pub discharge : IsGraded nm → (j : ℕ) (given : List Q) (s : Q) → Gives nm (drop j (given ++ s ∷ [])) s → Gives nm (drop j given) s
  discharge g j given s h = record {
    next = discharge_by g (λ d. AllAt nm d (drop j given)) (λ d. all_less g d (drop j given)) s
        (λ d a k. h.next d (all_drop_push d j given s a k));
  }

  pub given_always : IsGraded nm → (given : List Q) (s : Q) → Gives nm given s → ((d : ℕ) → AllAt nm d given) → (d : ℕ) → nm d s
  given_always g given s h a zero = g.none s
  given_always g given s h a (suc d) = h.next d (a d)
