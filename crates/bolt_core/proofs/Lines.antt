-- The line from a root down to a query.
use Rattle.std.proofs.Common.{◌≡◌, ℕ, zero, suc, ◌<◌, ◌≤◌, List, [], ◌∷◌, ◌++◌, length, Option, Some, None, refl, ap, ◌∙◌, subst, arith}
use Rattle.std.specs.Prelude.{slice_get}
use Rattle.std.proofs.lemmas.List.{length_push}
use Rattle.summary_form.specs.declared.query.Query.{Query}
use Rattle.bolt_core.specs.Groups.{Node, line_above, line_at, line_upto, line, ancestors}
use Rattle.bolt_core.specs.Keeps.{AreLevelled, Placed}

module _ (ns : List Node) (t : AreLevelled ns) where
  same_above : (f h : ℕ → List Query) (i : ℕ) (o : Option ℕ) (level : ℕ) → Placed ns i o level →
      ((p : ℕ) (x : Node) → p < i → slice_get ns p ≡ Some x → f p ≡ h p) → line_above f o ≡ line_above h o
  same_above f h i None level d same = refl
  same_above f h i (Some p) level d same = same p d.1 d.0 d.2

  -- more steps than places change nothing
  same_line : (m n i : ℕ) (x : Node) → i < m → i < n → slice_get ns i ≡ Some x → line_upto ns m i ≡ line_upto ns n i
  same_line zero n i x lt lt2 a = absurd (omega arith)
  same_line (suc m) zero i x lt lt2 a = absurd (omega arith)
  same_line (suc m) (suc n) i x lt lt2 a = rw a
      (ap (λ qs. qs ++ x.query ∷ []) (same_above (line_upto ns m) (line_upto ns n) i x.parent x.level (t.placed i x a)
      (λ p y less b. same_line m n p y (omega (arith, less)) (omega (arith, less)) b)))

  short_above : (f : ℕ → List Query) (i : ℕ) (o : Option ℕ) (level : ℕ) → Placed ns i o level →
      ((p : ℕ) (x : Node) → p < i → slice_get ns p ≡ Some x → length (f p) ≤ suc x.level) → length (line_above f o) ≤ level
  short_above f i None level d short = omega arith
  short_above f i (Some p) level d short = omega (arith, short p d.1 d.0 d.2, d.3)

  line_short : (m i : ℕ) (x : Node) → i < m → slice_get ns i ≡ Some x → length (line_upto ns m i) ≤ suc x.level
  line_short zero i x lt a = absurd (omega arith)
  line_short (suc m) i x lt a = rw a (omega (
    arith,
    length_push (line_above (line_upto ns m) x.parent) x.query,
    short_above (line_upto ns m)
        i x.parent x.level (t.placed i x a) (λ p y less b. line_short m p y (omega (arith, less)) b),
  ))

  pub ancestors_short : (i : ℕ) (x : Node) → slice_get ns i ≡ Some x → length (ancestors ns i x.parent) ≤ x.level
  ancestors_short i x a = short_above (line_upto ns i) i x.parent x.level (t.placed i x a) (λ p y less b. line_short i p y less b)

  pub line_step : (i : ℕ) (x : Node) → slice_get ns i ≡ Some x → line ns i ≡ ancestors ns i x.parent ++ x.query ∷ []
  line_step i x a = ap (line_at (line_upto ns i)) a

  pub ancestors_line : (i : ℕ) (x : Node) (p : ℕ) → slice_get ns i ≡ Some x → x.parent ≡ Some p → ancestors ns i x.parent ≡ line ns p
  ancestors_line i x p a n =
      let h : Placed ns i (Some p) x.level = subst (λ o. Placed ns i o x.level) n (t.placed i x a) in
      ap (ancestors ns i) n ∙ same_line i (suc p) p h.1 (omega (arith, h.0)) (omega arith) h.2

  level_by : (i : ℕ) (o : Option ℕ) (level : ℕ) → Placed ns i o level →
      ((p : ℕ) (x : Node) → p < i → slice_get ns p ≡ Some x → x.level ≤ p) → level ≤ i
  level_by i None level d above = omega (arith, d)
  level_by i (Some p) level d above = omega (arith, d.0, d.3, above p d.1 d.0 d.2)

  level_upto : (m i : ℕ) (x : Node) → i < m → slice_get ns i ≡ Some x → x.level ≤ i
  level_upto zero i x lt a = absurd (omega arith)
  level_upto (suc m) i x lt a = level_by i x.parent x.level (t.placed i x a)
      (λ p y less b. level_upto m p y (omega (arith, less, lt)) b)

  -- a level is at most the number
  pub level_within : (i : ℕ) (x : Node) → slice_get ns i ≡ Some x → x.level ≤ i
  level_within i x a = level_upto (suc i) i x (omega arith) a
