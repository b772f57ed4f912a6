-- A query is taken.
use Rattle.std.proofs.Common.{◌≡◌, ℕ, List, Bool, true, Some, refl, sym, ◌∙◌, subst, arith}
use Rattle.std.specs.Prelude.{slice_get}
use Rattle.std.proofs.lemmas.Bool.{and_parts}
use Rattle.query_tree.specs.declared.Status.TheVariants.{Ready, Dropped}
use Rattle.query_tree.specs.declared.Entry.{Entry}
use Rattle.query_tree.specs.Forest.{tally, is_open, is_live, is_live_child, has_live_child, is_place, take_at, after_take}
use Rattle.query_tree.specs.Kept.{leans, Ended, worth, IsFine, LiveChild, IsLeaning, IsKept}
use Rattle.query_tree.proofs.Lists.{any_at, tally_changed, tally_same}
use Rattle.query_tree.proofs.Keeps.{SameFrame, tree_changed, shut_changed, lean_changed, fine_changed, roots_changed, granted_same}
use Rattle.query_tree.proofs.Ended.{ended_changed}
use Rattle.query_tree.proofs.Tests.{cond_eq, place_is, one_at}

module _ {T : Type 0} where
  pub child_from : (es : List (Entry T)) (i : ℕ) → has_live_child es i ≡ true → LiveChild es i
  child_from es i h =
      let r = any_at (is_live_child i) es h in
      let b = and_parts (is_place r.1.parent i) (is_live r.1.status) r.3 in
      record { place = r.0; child = r.1; at = r.2; parent = place_is r.1.parent i b.0; live = b.1 }

  take_frame : (i : ℕ) (w : Bool) (k : ℕ) (e : Entry T) → SameFrame e (take_at i w k e)
  take_frame i w k e = cond_eq (SameFrame e) k i _ e (λ _. record { parent = refl; root = refl; grant = refl })
      (λ _. record { parent = refl; root = refl; grant = refl })

  module _ (es : List (Entry T)) (i : ℕ) (own : Entry T) (at : slice_get es i ≡ Some own) (ready : own.status ≡ Ready) where
    w : Bool
    w = has_live_child es i

    opens : (k : ℕ) (e : Entry T) → slice_get es k ≡ Some e → is_open (take_at i (has_live_child es i) k e).status ≡ is_open e.status
    opens k e a = cond_eq (λ x. is_open x.status ≡ is_open e.status) k i _ e (λ s. rw (one_at es i k own e at a s, ready) refl) (λ _. refl)

    each : IsLeaning es → (k : ℕ) (e : Entry T) → slice_get es k ≡ Some e → let x = take_at i (has_live_child es i) k e in
        leans x.status x.waiting x.stirred ≡ true → LiveChild es k
    each l k e a = cond_eq (λ x. leans x.status x.waiting x.stirred ≡ true → LiveChild es k) k i _ e
        (λ s h. subst (LiveChild es) (sym s) (child_from es i (and_parts (has_live_child es i) true h).0))
        (λ _ h. l.leaning k e a h)

    lives : (c : ℕ) (e : Entry T) → is_live e.status ≡ true → is_live (take_at i (has_live_child es i) c e).status ≡ true
    lives c e h = cond_eq (λ (x : Entry T). is_live x.status ≡ true) c i _ e (λ _. refl) (λ _. h)

    fine : (k : ℕ) (e : Entry T) → IsFine e → IsFine (take_at i (has_live_child es i) k e)
    fine k e h = cond_eq IsFine k i _ e (λ _. record { holds = omega arith; held = refl }) (λ _. h)

    drops : (k : ℕ) (e : Entry T) (n : ℕ) → slice_get es k ≡ Some e → (take_at i (has_live_child es i) k e).status ≡ Dropped n → e.status
        ≡ Dropped n
    drops k e n a = cond_eq (λ (x : Entry T). x.status ≡ Dropped n → e.status ≡ Dropped n) k i _ e (λ _ h. absurd (cc)) (λ _ h. h)

    ends : (n k : ℕ) (e : Entry T) → slice_get es k ≡ Some e → Ended n e.status → Ended n (take_at i (has_live_child es i) k e).status
    ends n k e a h = cond_eq (λ (x : Entry T). Ended n x.status) k i _ e
        (λ s. let z : Ended n own.status = subst (λ (x : Entry T). Ended n x.status) (one_at es i k own e at a s) h in
        absurd (rw ready at z))
        (λ _. h)

    sums : (sel : ℕ → Bool) → tally (worth sel) (after_take es i) ≡ tally (worth sel) es
    sums sel = tally_changed (worth sel) _ 0 es ∙ tally_same _ _ es (λ k e a. cond_eq (λ (x : Entry T). worth sel k x ≡ worth sel k e) k i _
        e (λ _. refl) (λ _. refl))

    pub take_kept : IsKept es → IsKept (after_take es i)
    take_kept h = record {
      tree = tree_changed es _ (take_frame i (has_live_child es i)) h.tree;
      shut = shut_changed es _ (take_frame i (has_live_child es i)) opens h.shut;
      leaning = lean_changed es _ (take_frame i (has_live_child es i)) (each h.leaning) (λ c p e q a b n live l. lives c e live);
      granted = granted_same es _ (roots_changed es _ (take_frame i (has_live_child es i))) sums h.granted;
      each = fine_changed es _ (take_frame i (has_live_child es i)) (λ k e a f. fine k e f) h.each;
      ended = ended_changed es _ (take_frame i (has_live_child es i)) drops ends h.ended;
    }
