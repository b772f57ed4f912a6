-- Where the queries to which the stored kills lead have claims, the steps are named as they are made.
use Rattle.std.proofs.Common.{◌≡◌, ℕ, zero, suc, ◌+◌, List, [], ◌∷◌, ◌++◌, length, Bool, true, false, ◌||◌, ◌==◌, Some, arith, refl, sym, subst, ap, ◌∙◌}
use Rattle.std.specs.Prelude.{slice_get}
use Rattle.std.proofs.lemmas.Option.{same_Some, none-some}
use borrow.Author.Tests.{eqb-true, eq-eqb}
use Rattle.infeasible_cert.specs.declared.certificate.Certificate.{Certificate}
use Rattle.flow_graph.specs.declared.graph.Graph.{Graph}
use Rattle.may_partition.specs.declared.region.RegionEdge.{RegionEdge}
use Rattle.may_partition.proofs.Pieces.{get_left, get_right}
use Rattle.summary_form.specs.declared.query.Query.{Query}
use Rattle.summary_form.specs.declared.summary.Summary.{Summary}
use Rattle.query_rules.specs.Laws.{IsGrounded}
use Rattle.query_rules.specs.Paths.{HasNoPath}
use Rattle.query_rules.specs.Rows.{levels_known}
use Rattle.query_rules.specs.States.{Happening, made, heard, after, after_all}
use Rattle.query_rules.specs.Steps.{Model, begin_model, stepped, updated, with_child, with_news}
use Rattle.query_rules.specs.declared.step.Asked.{Asked}
use Rattle.query_rules.specs.declared.step.Killer.{Killer}
use Rattle.query_rules.specs.declared.step.Killer.TheVariants as killer
use Rattle.query_rules.specs.declared.step.News.TheVariants as news
use Rattle.query_rules.specs.declared.step.Step.{Step}
use Rattle.query_rules.specs.declared.step.Step.TheVariants as step
use Rattle.proof_bundle.specs.Claims.{PureMove}
use Rattle.bundle_check.specs.Made.{AreNamed, HasClaim, IsNamed}
use Rattle.bundle_check.specs.Named.{AreLed}
use Rattle.bundle_check.specs.RightClaims.{IsRightClaim}
use Rattle.bundle_check.proofs.Closed.{closed_proved}
use Rattle.bundle_check.proofs.Travelling.{or_true}

-- Which asked entries kill

abbrev is_by : Killer → ℕ → Bool
is_by (killer.Child j) i = j == i
is_by _ i = false

abbrev kills_by : Step → ℕ → Bool
kills_by (step.Kill k by) i = is_by by i
kills_by _ i = false

abbrev pub child_kills : List Step → ℕ → Bool
child_kills [] i = false
child_kills (s ∷ steps) i = kills_by s i || child_kills steps i

clash : false ≡ true → ⊥
clash e = cc

or_left : (t u : Bool) → t ≡ true → (t || u) ≡ true
or_left true u e = refl
or_left false u e = absurd (clash e)

pub told_kill : (steps : List Step) (n : ℕ) (k : RegionEdge) (i : ℕ) → slice_get steps n ≡ Some (step.Kill k (killer.Child i)) →
    child_kills steps i ≡ true
told_kill [] n k i e = absurd (none-some _ e)
told_kill (s ∷ steps) zero k i e =
    or_left (kills_by s i) (child_kills steps i)
    (ap (λ x. kills_by x i) (same_Some s (step.Kill k (killer.Child i)) e) ∙ eq-eqb i i refl)
told_kill (s ∷ steps) (suc n) k i e = or_true (kills_by s i) (child_kills steps i) (told_kill steps n k i e)

abbrev Found : List Step → ℕ → Type 0
Found steps i = (n : ℕ) × (k : RegionEdge) × (slice_get steps n ≡ Some (step.Kill k (killer.Child i)))

is_kill : (s : Step) (i : ℕ) → kills_by s i ≡ true → (k : RegionEdge) × (s ≡ step.Kill k (killer.Child i))
is_kill (step.Extend k trail point) i e = absurd (clash e)
is_kill (step.Split k atoms follows proofs) i e = absurd (clash e)
is_kill (step.Kill k (killer.Certificate c)) i e = absurd (clash e)
is_kill (step.Kill k (killer.Table place proof)) i e = absurd (clash e)
is_kill (step.Kill k (killer.Child j)) i e = (k, ap (λ x. step.Kill k (killer.Child x)) (eqb-true j i e))
is_kill (step.Kill k (killer.Ancestor level proof)) i e = absurd (clash e)
is_kill (step.CallExtend k trail place point) i e = absurd (clash e)
is_kill (step.CallSplit k place atoms follows proofs) i e = absurd (clash e)
is_kill (step.CallPart k by atom atoms follows proofs) i e = absurd (clash e)
is_kill (step.Ask k q follows seen) i e = absurd (clash e)
is_kill (step.Feed j) i e = absurd (clash e)
is_kill (step.Stuck k why seen) i e = absurd (clash e)

found_kill : (steps : List Step) (i : ℕ) → child_kills steps i ≡ true → Found steps i
found_kill [] i e = absurd (clash e)
found_kill (s ∷ steps) i e = by_test (kills_by s i) refl (found_kill steps i) e where
  by_test : (t : Bool) → kills_by s i ≡ t → (child_kills steps i ≡ true → Found steps i) → (t || child_kills steps i) ≡ true →
      Found (s ∷ steps) i
  by_test true is rest h = let w = is_kill s i is in (0, w.0, ap Some w.1)
  by_test false is rest h = let w = rest h in (suc w.0, w.1, w.2)

-- States become longer

pub record Extends (m n : Model) : Type 0 where
  pub steps : (i : ℕ) (s : Step) → slice_get m.steps i ≡ Some s → slice_get n.steps i ≡ Some s
  pub asked : (i : ℕ) (e : Asked) → slice_get m.asked i ≡ Some e → (x : Asked) × (slice_get n.asked i ≡ Some x) × (x.query ≡ e.query)
  pub levels : levels_known n ≡ levels_known m

whole : (m : Model) → Extends m m
whole m = record { steps = λ i s e. e; asked = λ i e at. (e, at, refl); levels = refl }

longer : (m n o : Model) → Extends m n → Extends n o → Extends m o
longer m n o h k = record {
  steps = λ i s e. k.steps i s (h.steps i s e);
  asked = λ i e at. let a = h.asked i e at in let b = k.asked i a.0 a.1 in (b.0, b.1, b.2 ∙ a.2);
  levels = k.levels ∙ h.levels;
}

abbrev Same : List Asked → List Asked → Type 0
Same xs ys = (i : ℕ) (e : Asked) → slice_get xs i ≡ Some e → (x : Asked) × (slice_get ys i ≡ Some x) × (x.query ≡ e.query)

same_updated : (f : Asked → Asked) → ((a : Asked) → (f a).query ≡ a.query) → (xs : List Asked) (j : ℕ) → Same xs (updated f xs j)
same_updated f h [] j i e at = absurd (none-some e at)
same_updated f h (x ∷ xs) zero zero e at = (f x, refl, h x ∙ ap (λ (y : Asked). y.query) (same_Some x e at))
same_updated f h (x ∷ xs) zero (suc i) e at = (e, at, refl)
same_updated f h (x ∷ xs) (suc j) zero e at = (e, at, refl)
same_updated f h (x ∷ xs) (suc j) (suc i) e at = same_updated f h xs j i e at

extends : (m n : Model) (s : Step) → n.steps ≡ m.steps ++ s ∷ [] → Same m.asked n.asked → levels_known n ≡ levels_known m → Extends m n
extends m n s e a l = record {
  steps = λ i t at. subst (λ xs. slice_get xs i ≡ Some t) (sym e) (get_left m.steps i (s ∷ []) t at);
  asked = a;
  levels = l;
}

same_all : (xs : List Asked) → Same xs xs
same_all xs i e at = (e, at, refl)

module _ (gs : List Graph) (g : Graph) (table : List Summary) where
  step_extends : (s : Step) (t : List Summary) (m : Model) → Extends m (stepped g t s m)
  step_extends (step.Extend k trail point) t m =
      extends m (stepped g t (step.Extend k trail point) m) (step.Extend k trail point) refl (same_all m.asked) refl
  step_extends (step.Split k atoms follows proofs) t m =
      extends m (stepped g t (step.Split k atoms follows proofs) m) (step.Split k atoms follows proofs) refl (same_all m.asked) refl
  step_extends (step.Kill k by) t m = extends m (stepped g t (step.Kill k by) m) (step.Kill k by) refl (same_all m.asked) refl
  step_extends (step.CallExtend k trail place point) t m =
      extends m (stepped g t (step.CallExtend k trail place point) m) (step.CallExtend k trail place point) refl (same_all m.asked) refl
  step_extends (step.CallSplit k place atoms follows proofs) t m =
      extends m (stepped g t (step.CallSplit k place atoms follows proofs) m) (step.CallSplit k place atoms follows proofs) refl
      (same_all m.asked) refl
  step_extends (step.CallPart k by atom atoms follows proofs) t m =
      extends m (stepped g t (step.CallPart k by atom atoms follows proofs) m) (step.CallPart k by atom atoms follows proofs) refl
      (same_all m.asked) refl
  step_extends (step.Ask k q follows seen) t m =
      extends m (stepped g t (step.Ask k q follows seen) m) (step.Ask k q follows seen) refl
      (λ i e at. (e, get_left m.asked i (record { edge = k; query = q; child = 0; news = news.Waiting } ∷ []) e at, refl)) refl
  step_extends (step.Feed i) t m =
      extends m (stepped g t (step.Feed i) m) (step.Feed i) refl (same_updated (with_news news.Waiting) (λ a. refl) m.asked i) refl
  step_extends (step.Stuck k why seen) t m =
      extends m (stepped g t (step.Stuck k why seen) m) (step.Stuck k why seen) refl (same_all m.asked) refl

  one_extends : (e : Happening) (m : Model) → Extends m (after gs g table e m)
  one_extends (made s n) m = step_extends s _ m
  one_extends (heard i number known) m = record {
    steps = λ j s e. e;
    asked = same_updated (with_child number known) (λ a. refl) m.asked i;
    levels = refl;
  }

  pub all_extend : (es : List Happening) (m : Model) → Extends m (after_all gs g table es m)
  all_extend [] m = whole m
  all_extend (e ∷ es) m =
      longer m (after gs g table e m) (after_all gs g table es (after gs g table e m)) (one_extends e m)
      (all_extend es (after gs g table e m))

  module _ (claims : List Query) (last : Model) (led : AreLed table claims last) where
    -- the step that was made is a stored one
    stored : (s : Step) (m n : Model) → n.steps ≡ m.steps ++ s ∷ [] → Extends n last → (i : ℕ) × (slice_get last.steps i ≡ Some s)
    stored s m n e x = (
      length m.steps + 0,
      x.steps (length m.steps + 0) s (subst (λ xs. slice_get xs (length m.steps + 0) ≡ Some s) (sym e)
          (get_right m.steps 0 (s ∷ []) s refl)),
    )

    named_kill : (k : RegionEdge) (by : Killer) (t : List Summary) (m : Model) → Extends (stepped g t (step.Kill k by) m) last →
        IsNamed g table claims (child_kills last.steps) m (step.Kill k by)
    named_kill k (killer.Certificate c) t m x = tt
    named_kill k (killer.Table place proof) t m x =
        let w = stored (step.Kill k (killer.Table place proof)) m (stepped g t (step.Kill k (killer.Table place proof)) m) refl x in
        led w.0 k (killer.Table place proof) w.1
    named_kill k (killer.Child i) t m x =
        let w = stored (step.Kill k (killer.Child i)) m (stepped g t (step.Kill k (killer.Child i)) m) refl x in
        told_kill last.steps w.0 k i w.1
    named_kill k (killer.Ancestor level proof) t m x =
        let w = stored (step.Kill k (killer.Ancestor level proof)) m (stepped g t (step.Kill k (killer.Ancestor level proof)) m) refl x in
        λ s at. led w.0 k (killer.Ancestor level proof) w.1 s (ap (λ qs. slice_get qs level) x.levels ∙ at)

    named_ask : (k : RegionEdge) (q : Query) (follows : List Certificate) (seen : ℕ) (t : List Summary) (m : Model) →
        Extends (stepped g t (step.Ask k q follows seen) m) last → child_kills last.steps (length m.asked) ≡ true → HasClaim claims q
    named_ask k q follows seen t m x e =
        let w = found_kill last.steps (length m.asked) e in
        let entry : Asked = record { edge = k; query = q; child = 0; news = news.Waiting } in
        let here : slice_get (m.asked ++ entry ∷ []) (length m.asked) ≡ Some entry = subst (λ i. slice_get (m.asked ++ entry ∷ []) i
        ≡ Some entry) (omega arith) (get_right m.asked 0 (entry ∷ []) entry refl) in
        let a = x.asked (length m.asked) entry here in
        subst (HasClaim claims) a.2 (led w.0 w.1 (killer.Child (length m.asked)) w.2 a.0 a.1)

    named_step : (s : Step) (t : List Summary) (m : Model) → Extends (stepped g t s m) last →
        IsNamed g table claims (child_kills last.steps) m s
    named_step (step.Extend k trail point) t m x = tt
    named_step (step.Split k atoms follows proofs) t m x = tt
    named_step (step.Kill k by) t m x = named_kill k by t m x
    named_step (step.CallExtend k trail place point) t m x = tt
    named_step (step.CallSplit k place atoms follows proofs) t m x = tt
    named_step (step.CallPart k by atom atoms follows proofs) t m x = tt
    named_step (step.Ask k q follows seen) t m x = λ e. named_ask k q follows seen t m x e
    named_step (step.Feed i) t m x = tt
    named_step (step.Stuck k why seen) t m x = tt

    named_all : (es : List Happening) (m : Model) → after_all gs g table es m ≡ last →
        AreNamed g table claims (child_kills last.steps) gs es m
    named_all [] m e = tt
    named_all (made s n ∷ es) m e =
        let next : Model = after gs g table (made s n) m in
        (named_step s _ m (subst (λ (x : Model). Extends next x) e (all_extend es next)), named_all es next e)
    named_all (heard i number known ∷ es) m e = named_all es (after gs g table (heard i number known) m) e

pub steps_prove : (gs : List Graph) (g : Graph) (table : List Summary) (q : Query) (ancestors : List Query) (m : Model) →
    IsGrounded gs g table q ancestors m → HasNoPath g m.query m.parted → (claims : List Query) → AreLed table claims m →
    (ms : List PureMove) × IsRightClaim gs claims (record { query = q; moves = ms })
steps_prove gs g table q ancestors m s none claims led =
    closed_proved gs g table q ancestors m s none claims (child_kills m.steps)
    (named_all gs g table claims m led s.state.happenings (begin_model g q ancestors) (sym s.state.reached))
