-- What a call stores of a job: the query's entry keeps the state that was handed in.
use Rattle.std.proofs.Common.{◌≡◌, ℕ, ◌-◌, List, Some, refl, sym, subst}
use Rattle.std.specs.Prelude.{slice_get}
use Rattle.query_tree.specs.declared.Entry.{Entry}
use Rattle.query_tree.specs.declared.Rest.{Rest}
use Rattle.query_tree.specs.declared.Status.{Status}
use Rattle.query_tree.specs.Forest.{after_ask, after_back, after_close, after_feed, at_rest, back_as, changed, child_of, close_at, fed_at, less_at, part, rest_at, share}
use Rattle.query_tree.specs.Woods.{Fed, Went}
use Rattle.query_tree.proofs.Close.{close_cases}
use Rattle.query_tree.proofs.Lists.{to_changed, to_pushed}
use Rattle.query_tree.proofs.Tests.{cond_eq}

module _ {T : Type 0} where
  -- the entry at this place keeps the payload
  abbrev pub Keeps : List (Entry T) → ℕ → T → Type 0
  Keeps es i p = (e : Entry T) × (slice_get es i ≡ Some e) × (e.payload ≡ Some p)

  module _ (es fs : List (Entry T)) (i n : ℕ) (p : T) where
    rested : (own : Entry T) → slice_get es i ≡ Some own → (st : Status) (left : ℕ) → Keeps (changed (rest_at own i st left n p) es) i p
    rested own at st left = (
      rest_at own i st left n p i own,
      to_changed (rest_at own i st left n p) es i own at,
      cond_eq (λ (e : Entry T). e.payload ≡ Some p) i i _ _ (λ _. refl) (λ no'. absurd (no' refl)),
    )

    pub back_stores : (r : Rest) → Went (λ own. after_back es own i n r p) es fs i → Keeps fs i p
    back_stores r t = subst (λ gs. Keeps gs i p) (sym t.becomes) (rested t.own t.at (back_as r t.own.stirred (t.own.left - n))
        (t.own.left - n))

    pub ask_stores : (c : T) → Went (λ own. after_ask es own i n p c) es fs i → Keeps fs i p
    ask_stores c t =
        let m : ℕ = part (t.own.left - n) in
        let k = rested t.own t.at (at_rest ((t.own.left - n) - m)) ((t.own.left - n) - m) in
        subst (λ gs. Keeps gs i p) (sym t.becomes)
        (k.0, to_pushed (changed (less_at t.own i n p m) es) (child_of t.own i n c) i k.0 k.1, k.2)

    pub feed_stores : (c : ℕ) → Fed (λ own child. after_feed es own i n p c child) es fs i c → Keeps fs i p
    feed_stores c t =
        let m : ℕ = share t.entry (t.own.left - n) in
        let k = rested t.own t.at (at_rest ((t.own.left - n) - m)) ((t.own.left - n) - m) in
        subst (λ gs. Keeps gs i p) (sym t.becomes) (
          fed_at c m i k.0,
          to_changed (fed_at c m) (changed (less_at t.own i n p m) es) i k.0 k.1,
          cond_eq (λ (e : Entry T). e.payload ≡ Some p) i c _ _ (λ _. k.2) (λ _. k.2),
        )

    pub close_stores : (stamp : ℕ) → Went (λ own. after_close es own i n p stamp) es fs i → Keeps fs i p
    close_stores stamp t = subst (λ gs. Keeps gs i p) (sym t.becomes) (
      close_at es t.own i n p stamp i t.own,
      to_changed (close_at es t.own i n p stamp) es i t.own t.at,
      close_cases (λ (e : Entry T). e.payload ≡ Some p) es t.own i n p stamp i t.own (λ _. refl) (λ no' _. absurd (no' refl))
          (λ no' _ _. absurd (no' refl)) (λ no' _ _. absurd (no' refl)),
    )
