-- The events and the queries of a board keep within its grants.
use Rattle.std.proofs.Common.{◌≡◌, ℕ, suc, ◌+◌, ◌-◌, ◌*◌, ◌<◌, ◌≤◌, List, [], ◌∷◌, ◌++◌, length, refl, ap, subst, ◌∙◌, arith}
use Rattle.std.specs.Prelude.{◌&&◌}
use Rattle.std.proofs.lemmas.Bool.{cond_both}
use Rattle.std.proofs.lemmas.List.{length_push}
use Rattle.std.proofs.Math.Nat.{suc-mul}
use Rattle.query_tree.specs.declared.Status.{Status}
use Rattle.query_tree.specs.declared.Entry.{Entry}
use Rattle.query_tree.specs.Forest.{after_root, at_rest, back_as, back_at, changed, child_of, close_at, fed_at, has_live_child, is_place, is_starved, less_at, part, rest_at, root_of, share, stir, take_at, tally}
use Rattle.query_tree.specs.Kept.{grant_of, of_all, worth}
use Rattle.query_tree.proofs.Close.{close_cases}
use Rattle.query_tree.proofs.Lists.{tally_changed, tally_le, tally_pushed, tally_same}
use Rattle.query_tree.proofs.Tests.{cond_eq}
use Rattle.bolt_core.specs.Histories.{Told, asked, closed, fed, parked, said, stopped, took}
use Rattle.bolt_core.specs.KeptEntries.{KeepsEntries}
use Rattle.bolt_core.specs.Keeps.{spent_of}
use Rattle.bolt_core.specs.Machine.{Core, Event, Reached, Reads, node_of_root, opening, told_child}
use Rattle.bolt_core.proofs.Credits.{room_enough}

-- Grants stay
module _ {T : Type 0} where
  same_grants : (es : List (Entry T)) (f : ℕ → Entry T → Entry T) → ((k : ℕ) (e : Entry T) → (f k e).grant ≡ e.grant) →
      tally grant_of (changed f es) ≡ tally grant_of es
  same_grants es f same = tally_changed grant_of f 0 es ∙ tally_same (λ k e. grant_of k (f k e)) grant_of es (λ k e a. same k e)

  rest_grant : (own : Entry T) (i : ℕ) (st : Status) (left n : ℕ) (p : T) (k : ℕ) (x : Entry T) → (rest_at own i st left n p k x).grant
      ≡ x.grant
  rest_grant own i st left n p k x = cond_eq (λ (y : Entry T). y.grant ≡ x.grant) k i _ _
      (λ _. refl)
      (λ _. cond_both (is_place own.parent k && is_starved st) (stir x) x (λ (y : Entry T). y.grant ≡ x.grant) (λ _. refl) (λ _. refl))

  less_grants : (es : List (Entry T)) (own : Entry T) (i n : ℕ) (p : T) (m : ℕ) →
      tally grant_of (changed (less_at own i n p m) es) ≡ tally grant_of es
  less_grants es own i n p m =
      same_grants es (less_at own i n p m) (λ k e. rest_grant own i (at_rest ((own.left - n) - m)) ((own.left - n) - m) n p k e)

  close_grant : (es : List (Entry T)) (own : Entry T) (i n : ℕ) (p : T) (stamp k : ℕ) (e : Entry T) →
      (close_at es own i n p stamp k e).grant ≡ e.grant
  close_grant es own i n p stamp k e =
      close_cases (λ (y : Entry T). y.grant ≡ e.grant) es own i n p stamp k e (λ _. refl) (λ _ _. refl) (λ _ _ _. refl) (λ _ _ _. refl)

module _ {S : Type 0} (R : Reads S) where
  abbrev pub grants_of : Core S → ℕ
  grants_of c = tally grant_of c.entries

  pub event_grants : (old new : Core S) (e : Told) → Event R old e new → grants_of new ≡ grants_of old
  event_grants old new (took w i left steps waiting) t =
      ap grants_of t.new_is ∙ same_grants old.entries (take_at i (has_live_child old.entries i))
      (λ k e. cond_eq (λ (y : Entry S). y.grant ≡ e.grant) k i _ _ (λ _. refl) (λ _. refl))
  event_grants old new (said w i s) t = ap grants_of t.new_is
  event_grants old new (asked w i n c q) t =
      let m = part (t.own.left - n) in
      let p : S = told_child R t.job.state c in
      let fs : List (Entry S) = changed (less_at t.own i n p m) old.entries in
      let a : grants_of new ≡ tally grant_of (fs ++ child_of t.own i n t.child ∷ []) = ap grants_of t.new_is in
      omega (arith, a, tally_pushed grant_of fs (child_of t.own i n t.child), less_grants old.entries t.own i n p m)
  event_grants old new (fed w i n c) t =
      let m = share t.child (t.own.left - n) in
      ap grants_of t.new_is ∙ (same_grants _ (fed_at c m)
      (λ k e. cond_eq (λ (y : Entry S). y.grant ≡ e.grant) k c _ _ (λ _. refl) (λ _. refl))
      ∙ less_grants old.entries t.own i n t.job.state m)
  event_grants old new (parked w i n r) t =
      let st : Status = back_as r t.own.stirred (t.own.left - n) in
      ap grants_of t.new_is ∙ same_grants old.entries (back_at t.own i n r t.job.state)
      (λ k e. rest_grant t.own i st (t.own.left - n) n t.job.state k e)
  event_grants old new (closed w i n how ss) t =
      ap grants_of t.new_is ∙ same_grants old.entries (close_at old.entries t.own i n t.job.state (length old.history))
      (close_grant old.entries t.own i n t.job.state (length old.history))
  event_grants old new (stopped w) t = ap grants_of t.2

  pub event_history : (old new : Core S) (e : Told) → Event R old e new → new.history ≡ old.history ++ e ∷ []
  event_history old new (took w i left steps waiting) t = ap (λ (c : Core S). c.history) t.new_is
  event_history old new (said w i s) t = ap (λ (c : Core S). c.history) t.new_is
  event_history old new (asked w i n c q) t = ap (λ (c : Core S). c.history) t.new_is
  event_history old new (fed w i n c) t = ap (λ (c : Core S). c.history) t.new_is
  event_history old new (parked w i n r) t = ap (λ (c : Core S). c.history) t.new_is
  event_history old new (closed w i n how ss) t = ap (λ (c : Core S). c.history) t.new_is
  event_history old new (stopped w) t = ap (λ (c : Core S). c.history) t.2

  -- no event changes with which summaries the board opened
  pub event_kept : (old new : Core S) (e : Told) → Event R old e new → new.kept ≡ old.kept
  event_kept old new (took w i left steps waiting) t = ap (λ (c : Core S). c.kept) t.new_is
  event_kept old new (said w i s) t = ap (λ (c : Core S). c.kept) t.new_is
  event_kept old new (asked w i n c q) t = ap (λ (c : Core S). c.kept) t.new_is
  event_kept old new (fed w i n c) t = ap (λ (c : Core S). c.kept) t.new_is
  event_kept old new (parked w i n r) t = ap (λ (c : Core S). c.kept) t.new_is
  event_kept old new (closed w i n how ss) t = ap (λ (c : Core S). c.kept) t.new_is
  event_kept old new (stopped w) t = ap (λ (c : Core S). c.kept) t.2

  pub run_grants : (h : List Told) (old new : Core S) → Reached R old h new → grants_of new ≡ grants_of old
  run_grants [] old new r = ap grants_of r
  run_grants (e ∷ h) old new r = run_grants h r.0 new r.2 ∙ event_grants old r.0 e r.1

  pub reached_more : (h : List Told) (e : Told) (old mid new : Core S) → Reached R old h mid → Event R mid e new →
      Reached R old (h ++ e ∷ []) new
  reached_more [] e old mid new r s = (new, subst (λ (c : Core S). Event R c e new) r s, refl)
  reached_more (x ∷ h) e old mid new r s = (r.0, r.1, reached_more h e r.0 mid new r.2 s)

  -- each root has its grant
  pub opening_grants : (grant : ℕ) (ss : List S) (c : Core S) → grants_of (opening R grant ss c) ≡ grants_of c + length ss * grant
  opening_grants grant [] c = omega arith
  opening_grants grant (s ∷ ss) c =
      let mid : Core S = record c { entries = after_root c.entries grant s; nodes = c.nodes ++ node_of_root R s ∷ [] } in
      let p = tally_pushed grant_of c.entries (root_of (length c.entries) grant s) in
      let m : suc (length ss) * grant ≡ length ss * grant + grant = suc-mul (length ss) grant in
      omega (arith, opening_grants grant ss mid, p, m)

  -- What the grants bound
  module _ (roots : ℕ) (c : Core S) (h : KeepsEntries R roots c) where
    pub steps_within : tally spent_of c.entries ≤ grants_of c
    steps_within = omega (arith, h.kept.granted.all, tally_le spent_of (worth of_all) c.entries (λ k e a. omega arith))

    pub events_within : 1 ≤ roots → length c.history ≤ 16 * (grants_of c + roots)
    events_within some = room_enough c.entries _ c.is_stopped (length c.history) roots (grants_of c) h.room steps_within some

    pub queries_within : length c.entries ≤ grants_of c + roots
    queries_within = omega (arith, h.room.few, steps_within)

  -- where an event may come, there is room for it
  pub event_fits : (roots : ℕ) (old new : Core S) (e : Told) → Event R old e new → KeepsEntries R roots new → 1 ≤ roots →
      length old.history < 16 * (grants_of old + roots)
  event_fits roots old new e t h some =
      omega (
        arith,
        events_within roots new h some,
        event_grants old new e t,
        ap length (event_history old new e t),
        length_push old.history e,
      )
