-- What is not at its end keeps something left.
use Rattle.std.proofs.Common.{◌≡◌, ℕ, zero, suc, ◌+◌, ◌-◌, ◌≤◌, List, Bool, Some, refl, sym, ap, ◌∙◌, subst, ⊎_elim, arith}
use Rattle.std.specs.Prelude.{slice_get, ◌==◌, ◌&&◌}
use Rattle.std.proofs.lemmas.Bool.{cond_both, eqb-false}
use Rattle.query_tree.specs.declared.Status.{Status}
use Rattle.query_tree.specs.declared.Status.TheVariants.{Ready, Running, Blocked, Starved, Closed, Dropped}
use Rattle.query_tree.specs.declared.Rest.{Rest}
use Rattle.query_tree.specs.declared.Rest.TheVariants.{Ready as RestReady, Blocked as RestBlocked, Starved as RestStarved}
use Rattle.query_tree.specs.declared.Entry.{Entry}
use Rattle.query_tree.specs.Forest.{changed, is_starved, is_place, has_live_child, woken, fed, at_rest, back_as, stir, part, share, take_at, rest_at, less_at, fed_at, child_of, purse, close_at, after_take, after_back, after_ask, after_feed, after_close}
use Rattle.query_tree.proofs.Lists.{from_changed, from_pushed}
use Rattle.query_tree.proofs.Tests.{cond_eq, one_at}
use Rattle.query_tree.proofs.Close.{close_cases}
use Rattle.bolt_core.specs.Keeps.{Stocked, AreStocked}

rest_stocked : (m l : ℕ) → Stocked (at_rest m) m l
rest_stocked m l = cond_both (m == 0) Starved Ready (λ s. Stocked s m l) (λ _. tt) (λ e. let n : m ≡ 0 → ⊥ = eqb-false m 0 e in
    positive m n)
  where
    positive : (m : ℕ) → (m ≡ 0 → ⊥) → 1 ≤ m
    positive zero h = absurd (h refl)
    positive (suc m) h = omega arith

woken_stocked : (s : Status) (m l : ℕ) → Stocked s m l → Stocked (woken s) m l
woken_stocked Ready m l h = h
woken_stocked Running m l h = h
woken_stocked Blocked m l h = h
woken_stocked Starved m l h = h
woken_stocked Closed m l h = h
woken_stocked (Dropped n) m l h = h

fed_stocked : (s : Status) (m n l : ℕ) → Stocked s m l → Stocked (fed (m + n) s) (m + n) l
fed_stocked Ready m n l h = omega (arith, h)
fed_stocked Running m n l h = h
fed_stocked Blocked m n l h = omega (arith, h)
fed_stocked Starved m n l h = rest_stocked (m + n) l
fed_stocked Closed m n l h = h
fed_stocked (Dropped k) m n l h = h

-- something of the job is left, where it is not parked as Starved
abbrev pub Leaves : Rest → ℕ → Type 0
Leaves RestReady m = 1 ≤ m
Leaves RestBlocked m = 1 ≤ m
Leaves RestStarved m = Unit {0}

back_stocked : (r : Rest) (b : Bool) (m l : ℕ) → Leaves r m → Stocked (back_as r b m) m l
back_stocked RestReady b m l h = h
back_stocked RestBlocked b m l h = cond_both b Ready Blocked (λ s. Stocked s m l) (λ _. h) (λ _. h)
back_stocked RestStarved b m l h = rest_stocked m l

module _ {T : Type 0} where
  each_changed : (es : List (Entry T)) (f : ℕ → Entry T → Entry T) → ((k : ℕ) (e : Entry T) → slice_get es k ≡ Some e →
      Stocked e.status e.left e.lent → Stocked (f k e).status (f k e).left (f k e).lent) → AreStocked es → AreStocked (changed f es)
  each_changed es f keeps s = record {
    stocked = λ i e a.
        let r = from_changed f es i e a in
        subst (λ (y : Entry T). Stocked y.status y.left y.lent) (sym r.2) (keeps i r.0 r.1 (s.stocked i r.0 r.1));
  }

  module _ (es : List (Entry T)) (own : Entry T) (i : ℕ) (at : slice_get es i ≡ Some own) (h : AreStocked es) where
    pub take_stocked : own.status ≡ Ready → AreStocked (after_take es i)
    take_stocked ready = each_changed es (take_at i (has_live_child es i))
        (λ k e a s. cond_eq (λ (y : Entry T). Stocked y.status y.left y.lent) k i _ _
        (λ d. let r : e.status ≡ Ready = ap (λ (x : Entry T). x.status) (one_at es i k own e at a d) ∙ ready in rw r at s)
        (λ _. s)) h

    rest_kept : (st : Status) (left n : ℕ) (p : T) → ((l : ℕ) → Stocked st left l) → AreStocked (changed (rest_at own i st left n p) es)
    rest_kept st left n p ok = each_changed es (rest_at own i st left n p)
        (λ k e a s. cond_eq (λ (y : Entry T). Stocked y.status y.left y.lent) k i _ _
        (λ d. ok e.lent)
        (λ _. cond_both (is_place own.parent k && is_starved st) (stir e) e (λ (y : Entry T). Stocked y.status y.left y.lent)
        (λ _. woken_stocked e.status e.left e.lent s) (λ _. s))) h

    pub back_stocks : (n : ℕ) (r : Rest) (p : T) → Leaves r (own.left - n) → AreStocked (after_back es own i n r p)
    back_stocks n r p le = rest_kept (back_as r own.stirred (own.left - n)) (own.left - n) n p
        (λ l. back_stocked r own.stirred (own.left - n) l le)

    pub ask_stocks : (n : ℕ) (p c : T) → AreStocked (after_ask es own i n p c)
    ask_stocks n p c =
        let m : ℕ = part (own.left - n) in
        let fs : List (Entry T) = changed (less_at own i n p m) es in
        let k : AreStocked fs = rest_kept (at_rest ((own.left - n) - m)) ((own.left - n) - m) n p (λ l. rest_stocked ((own.left - n) - m) l)
        in
        record {
          stocked = λ j e a. ⊎_elim
              (λ b. k.stocked j e b)
              (λ b. subst (λ (y : Entry T). Stocked y.status y.left y.lent) (sym b.1) (rest_stocked m 0))
              (from_pushed fs (child_of own i n c) j e a);
        }

    pub feed_stocks : (n : ℕ) (p : T) (c : ℕ) (child : Entry T) → AreStocked (after_feed es own i n p c child)
    feed_stocks n p c child =
        let m : ℕ = share child (own.left - n) in
        let fs : List (Entry T) = changed (less_at own i n p m) es in
        each_changed fs (fed_at c m) (λ k e a s. cond_eq (λ (y : Entry T). Stocked y.status y.left y.lent) k c _ _
        (λ _. fed_stocked e.status e.left m e.lent s) (λ _. s))
        (rest_kept (at_rest ((own.left - n) - m)) ((own.left - n) - m) n p (λ l. rest_stocked ((own.left - n) - m) l))

    pub close_stocks : (n : ℕ) (p : T) (stamp : ℕ) → AreStocked (after_close es own i n p stamp)
    close_stocks n p stamp = each_changed es (close_at es own i n p stamp)
        (λ k e a s. close_cases (λ (y : Entry T). Stocked y.status y.left y.lent) es own i n p stamp k e
        (λ _. tt)
        (λ _ _. tt)
        (λ _ _ _. fed_stocked (woken e.status) e.left (purse es own i n) e.lent (woken_stocked e.status e.left e.lent s))
        (λ _ _ _. s)) h
