-- A payload has as many stored steps as its entry says.
use Rattle.std.proofs.Common.{◌≡◌, ℕ, ◌+◌, ◌-◌, List, Some, sym, subst, ⊎_elim}
use Rattle.std.specs.Prelude.{slice_get, ◌&&◌}
use Rattle.std.proofs.lemmas.Bool.{cond_both}
use Rattle.query_tree.specs.declared.Status.{Status}
use Rattle.query_tree.specs.declared.Rest.{Rest}
use Rattle.query_tree.specs.declared.Entry.{Entry}
use Rattle.query_tree.specs.Forest.{changed, is_starved, is_place, has_live_child, at_rest, back_as, stir, part, share, take_at, rest_at, less_at, fed_at, child_of, close_at, after_take, after_back, after_ask, after_feed, after_close}
use Rattle.query_tree.proofs.Lists.{from_changed, from_pushed}
use Rattle.query_tree.proofs.Tests.{cond_eq, one_at}
use Rattle.query_tree.proofs.Close.{close_cases}
use Rattle.bolt_core.specs.Machine.{Reads}
use Rattle.bolt_core.specs.Keeps.{AreStored}

module _ {S : Type 0} (R : Reads S) where
  abbrev pub StoredIn : Entry S → Type 0
  StoredIn e = (p : S) → e.payload ≡ Some p → R.steps p ≡ e.spent

  each_changed : (es : List (Entry S)) (f : ℕ → Entry S → Entry S) → ((k : ℕ) (e : Entry S) → slice_get es k ≡ Some e → StoredIn e →
      StoredIn (f k e)) → AreStored R es → AreStored R (changed f es)
  each_changed es f keeps s = record {
    stored = λ i e a.
        let r = from_changed f es i e a in
        subst (StoredIn) (sym r.2) (keeps i r.0 r.1 (s.stored i r.0 r.1));
  }

  module _ (es : List (Entry S)) (own : Entry S) (i : ℕ) (at : slice_get es i ≡ Some own) (h : AreStored R es) where
    pub take_stored : AreStored R (after_take es i)
    take_stored = each_changed es (take_at i (has_live_child es i)) (λ k e a s. cond_eq (StoredIn) k i _ _ (λ _ p is. absurd (cc)) (λ _. s))
        h

    module _ (n : ℕ) (p : S) (made : R.steps p ≡ own.spent + n) where
      given_stored : (k : ℕ) (e : Entry S) → slice_get es k ≡ Some e → k ≡ i → (q : S) → Some p ≡ Some q → R.steps q ≡ e.spent + n
      given_stored k e a d q is = let o : e ≡ own = one_at es i k own e at a d in cc

      rest_stored : (st : Status) (left : ℕ) → AreStored R (changed (rest_at own i st left n p) es)
      rest_stored st left = each_changed es (rest_at own i st left n p) (λ k e a s. cond_eq (StoredIn) k i _ _
          (λ d. given_stored k e a d)
          (λ _. cond_both (is_place own.parent k && is_starved st) (stir e) e (StoredIn) (λ _. s) (λ _. s))) h

      pub back_stored : (r : Rest) → AreStored R (after_back es own i n r p)
      back_stored r = rest_stored (back_as r own.stirred (own.left - n)) (own.left - n)

      pub ask_stored : (c : S) → R.steps c ≡ 0 → AreStored R (after_ask es own i n p c)
      ask_stored c fresh =
          let m : ℕ = part (own.left - n) in
          let fs : List (Entry S) = changed (less_at own i n p m) es in
          let k : AreStored R fs = rest_stored (at_rest ((own.left - n) - m)) ((own.left - n) - m) in
          record {
            stored = λ j e a. ⊎_elim
                (λ b. k.stored j e b)
                (λ b. subst (StoredIn) (sym b.1) (λ q is. let w : Some c ≡ Some q = is in cc))
                (from_pushed fs (child_of own i n c) j e a);
          }

      pub feed_stored : (c : ℕ) (child : Entry S) → AreStored R (after_feed es own i n p c child)
      feed_stored c child =
          let m : ℕ = share child (own.left - n) in
          let fs : List (Entry S) = changed (less_at own i n p m) es in
          each_changed fs (fed_at c m) (λ k e a s. cond_eq (StoredIn) k c _ _ (λ _. s) (λ _. s))
          (rest_stored (at_rest ((own.left - n) - m)) ((own.left - n) - m))

      pub close_stored : (stamp : ℕ) → AreStored R (after_close es own i n p stamp)
      close_stored stamp = each_changed es (close_at es own i n p stamp) (λ k e a s. close_cases (StoredIn) es own i n p stamp k e
          (λ d. given_stored k e a d)
          (λ _ _. s)
          (λ _ _ _. s)
          (λ _ _ _. s)) h
