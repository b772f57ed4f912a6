-- How candidates get their numbers, one after the other.
use Rattle.std.proofs.Common.{◌≡◌, ℕ, ◌+◌, List, [], ◌∷◌, ◌++◌, length, arith, refl, sym, ap, ◌∙◌}
use Rattle.std.proofs.lemmas.List.{append_assoc, length-append}
use Rattle.linear_formula.specs.LinearSum.{LinearSum}
use Rattle.infeasible_cert.specs.declared.certificate.Derived.{Derived}
use Rattle.shadow_elim.specs.declared.row.Row.{Row}
use Rattle.shadow_elim.specs.declared.pairing.Candidate.{Candidate}
use Rattle.shadow_elim.specs.declared.pairing.Origin.{Origin}
use Rattle.shadow_elim.specs.declared.pairing.Origin.TheVariants.{Known, Made}
use Rattle.shadow_elim.specs.steps.Making.{step_of, with_step, steps_of, number_of, next_after, numbered}

steps-push : (cs : List Candidate) (c : Candidate) → steps_of (cs ++ c ∷ []) ≡ steps_of cs ++ with_step c.origin c.term []
steps-push [] c = refl
steps-push (b ∷ cs) c = by_origin b.origin b.term (steps-push cs c) where
  by_origin : (o : Origin) (t : LinearSum) → steps_of (cs ++ c ∷ []) ≡ steps_of cs ++ with_step c.origin c.term [] →
      with_step o t (steps_of (cs ++ c ∷ [])) ≡ with_step o t (steps_of cs) ++ with_step c.origin c.term []
  by_origin (Known n) t e = e
  by_origin (Made m) t e = ap (λ (ds : List Derived). step_of t m ∷ ds) e

abbrev row_from : ℕ → Candidate → Row
row_from next c = record { term = c.term; number = number_of next c.origin }

numbered-push : (next : ℕ) (cs : List Candidate) (c : Candidate) → numbered next (cs ++ c ∷ []) ≡ numbered next cs
    ++ row_from (next + length (steps_of cs)) c ∷ []
numbered-push next [] c = ap (λ (n : ℕ). row_from n c ∷ []) (same next) where
  same : (n : ℕ) → n ≡ n + 0
  same n = omega arith
numbered-push next (b ∷ cs) c =
    ap (λ (rs : List Row). row_from next b ∷ rs) (numbered-push (next_after next b.origin) cs c
    ∙ ap (λ (n : ℕ). numbered (next_after next b.origin) cs ++ row_from n c ∷ []) (by_origin b.origin b.term)) where
      by_origin : (o : Origin) (t : LinearSum) → next_after next o + length (steps_of cs) ≡ next + length (with_step o t (steps_of cs))
      by_origin (Known n) t = refl
      by_origin (Made m) t = omega arith

-- the rows and the steps after these candidates
pub record IsNumbered (first : ℕ) (old : List Derived) (cs : List Candidate) (rs : List Row) (ds : List Derived) : Type 0 where
  pub rows : rs ≡ numbered (first + length old) cs
  pub steps : ds ≡ old ++ steps_of cs

-- nothing is added
pub none-added : (ds : List Derived) → ds ≡ ds ++ []
none-added [] = refl
none-added (d ∷ ds) = ap (λ (es : List Derived). d ∷ es) (none-added ds)

-- one more candidate, with its number and its derivation
pub numbered-more : (first : ℕ) (old : List Derived) (cs : List Candidate) (rows : List Row) (steps : List Derived) (c : Candidate)
    (row : Row) (next : List Row) (more : List Derived) → IsNumbered first old cs rows steps →
    row ≡ record { term = c.term; number = number_of (first + length steps) c.origin } → next ≡ rows ++ row ∷ [] →
    more ≡ steps ++ with_step c.origin c.term [] → IsNumbered first old (cs ++ c ∷ []) next more
numbered-more first old cs rows steps c row next more h r e f = record {
  rows = e ∙ (ap (λ (x : Row). rows ++ x ∷ []) (r ∙ ap (λ (k : ℕ). row_from k c) number)
      ∙ (ap (λ (rs : List Row). rs ++ row_from (first + length old + length (steps_of cs)) c ∷ []) h.rows
      ∙ sym (numbered-push (first + length old) cs c)));
  steps = f ∙ (ap (λ (ds : List Derived). ds ++ with_step c.origin c.term []) h.steps
      ∙ (append_assoc old (steps_of cs) (with_step c.origin c.term []) ∙ ap (λ (ds : List Derived). old ++ ds) (sym (steps-push cs c))));
} where
  number : first + length steps ≡ first + length old + length (steps_of cs)
  number = omega (arith, ap length h.steps, length-append old (steps_of cs))
