-- The first event that ended a job, by a walk over the stored events.
use Rattle.std.proofs.Common.{◌≡◌, ℕ, zero, suc, ◌+◌, ◌<◌, List, [], ◌∷◌, length, map, Bool, true, false, Option, Some, None, refl, sym, ap, ◌∙◌, subst, ◌⊎◌, inl, inr, ⊎_elim, arith}
use Rattle.std.specs.Prelude.{slice_get, ◌||◌}
use Rattle.std.proofs.lemmas.List.{length-map}
use Rattle.std.proofs.lemmas.Bool.{both_ways, eqb-true, eq-eqb, or_cases}
use Rattle.query_tree.specs.declared.Entry.{Entry}
use Rattle.query_tree.specs.declared.Status.{Status}
use Rattle.query_tree.specs.declared.Status.TheVariants.{Ready, Running, Blocked, Starved, Closed, Dropped}
use Rattle.query_tree.specs.Woods.{WasDropped}
use Rattle.query_tree.proofs.Lists.{present}
use Rattle.query_rules.specs.Seen.{Seen}
use Rattle.summary_form.specs.declared.query.Query.{Query}
use Rattle.summary_form.specs.declared.summary.Summary.{Summary}
use Rattle.bolt_core.specs.declared.event.Event.{Event as Stored}
use Rattle.bolt_core.specs.declared.event.Event.TheVariants as stored
use Rattle.bolt_core.specs.declared.slot.Slot.{Slot}
use Rattle.bolt_core.specs.Boards.{IsSettled, asked_as, core_of, said_as, told_by}
use Rattle.bolt_core.specs.Histories.{gives_back}
use Rattle.bolt_core.specs.Keeps.{IsEnd}
use Rattle.bolt_core.specs.steps.Ends.{is_dropped_by, is_end, is_given_back}

said_back : (i w j : ℕ) (o : Option Summary) → gives_back i (said_as w j o) ≡ false
said_back i w j None = refl
said_back i w j (Some s) = refl

told_back : (qs : List Query) (ts : List Summary) (i : ℕ) (e : Stored) → IsSettled (length qs) (length ts) e →
    gives_back i (told_by qs ts e) ≡ is_given_back i e
told_back qs ts i (stored.Take w j left steps waiting) s = refl
told_back qs ts i (stored.Publish w j place) s = said_back i w j (slice_get ts place)
told_back qs ts i (stored.Ask w j n c) s =
    let p = present qs c s in
    ap (λ (o : Option Query). gives_back i (asked_as w j n c o)) p.1
told_back qs ts i (stored.Feed w j n c) s = refl
told_back qs ts i (stored.Park w j n rest) s = refl
told_back qs ts i (stored.Close w j n how from more) s = refl
told_back qs ts i (stored.Stop w) s = refl

pub get_map : {X Y : Type 0} (f : X → Y) (xs : List X) (k : ℕ) (x : X) → slice_get xs k ≡ Some x → slice_get (map f xs) k ≡ Some (f x)
get_map f [] k x a = absurd (cc)
get_map f (y ∷ xs) zero x a = let e : y ≡ x = cc in ap (λ z. Some (f z)) e
get_map f (y ∷ xs) (suc k) x a = get_map f xs k x a

dropped_is : (k : ℕ) (s : Status) → is_dropped_by k s ≡ true → s ≡ Dropped k
dropped_is k Ready h = absurd (cc)
dropped_is k Running h = absurd (cc)
dropped_is k Blocked h = absurd (cc)
dropped_is k Starved h = absurd (cc)
dropped_is k Closed h = absurd (cc)
dropped_is k (Dropped n) h = ap Dropped (eqb-true n k h)

or_left : (a b : Bool) → (a || b) ≡ false → a ≡ false
or_left true b h = h
or_left false b h = refl

or_right : (a b : Bool) → (a || b) ≡ false → b ≡ false
or_right true b h = absurd (cc)
or_right false b h = h

module _ (ks : List Summary) (es : List (Entry Seen)) (ss : List Slot) (ts : List Summary) (xs : List Stored) (st : Bool) (i k : ℕ)
    (x : Stored)
    (a : slice_get xs k ≡ Some x) (s : Status) (lt : i < length es) (same : (e : Entry Seen) → slice_get es i ≡ Some e → s ≡ e.status)
    (set : IsSettled (length ss) (length ts) x) where
  abbrev qs : List Query
  qs = map (λ s. s.query.value) ss

  back_is : gives_back i (told_by qs ts x) ≡ is_given_back i x
  back_is =
      let n : length ss ≡ length qs = sym (length-map ss (λ s. s.query.value)) in
      told_back qs ts i x (subst (λ n. IsSettled n (length ts) x) n set)

  pub end_here : is_end k i s x ≡ true → IsEnd (core_of ks es ss ts xs st) i k
  end_here h =
      let p = present es i lt in
      record {
        event = told_by qs ts x;
        at = get_map (told_by qs ts) xs k x a;
        ends = ⊎_elim
            (λ b. inl (back_is ∙ b))
            (λ d. inr (record { own = p.0; at = p.1; dropped = sym (same p.0 p.1) ∙ dropped_is k s d }))
            (or_cases (is_given_back i x) (is_dropped_by k s) h);
      }

  pub not_here : is_end k i s x ≡ false → IsEnd (core_of ks es ss ts xs st) i k → ⊥
  not_here h z =
      let is : Some (told_by qs ts x) ≡ Some z.event = sym (get_map (told_by qs ts) xs k x a) ∙ z.at in
      let e : told_by qs ts x ≡ z.event = cc in
      ⊎_elim
      (λ (b : gives_back i z.event ≡ true). both_ways (is_given_back i x) (or_left (is_given_back i x) (is_dropped_by k s) h)
      (sym back_is ∙ (ap (gives_back i) e ∙ b)))
      (λ (d : WasDropped es i k). both_ways (is_dropped_by k s) (or_right (is_given_back i x) (is_dropped_by k s) h)
      (ap (is_dropped_by k) (same d.own d.at ∙ d.dropped) ∙ eq-eqb k k refl))
      z.ends

pub below : (j k : ℕ) → j < k + 1 → (j < k) ⊎ (j ≡ k)
below zero zero h = inr refl
below zero (suc k) h = inl (omega arith)
below (suc j) zero h = absurd (omega (arith, h))
below (suc j) (suc k) h = ⊎_elim (λ a. inl (omega (arith, a))) (λ a. inr (ap suc a)) (below j k (omega (arith, h)))
