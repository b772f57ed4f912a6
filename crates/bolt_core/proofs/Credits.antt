-- Each event keeps the room for events.
use Rattle.std.proofs.Common.{◌≡◌, ℕ, suc, ◌+◌, ◌-◌, ◌*◌, ◌<◌, ◌≤◌, List, [], ◌∷◌, length, Bool, true, false, cond, Option, Some, None, refl, ap, ◌∙◌, ◌⊎◌, ⊎_elim, arith}
use Rattle.std.specs.Prelude.{slice_get, ◌==◌, ◌&&◌, ◌||◌}
use Rattle.std.proofs.lemmas.List.{length_push}
use Rattle.std.proofs.lemmas.Bool.{cond_both, cases_eq, eq-eqb, ne_eqb}
use Rattle.query_tree.specs.declared.Status.{Status}
use Rattle.query_tree.specs.declared.Status.TheVariants.{Ready, Running, Blocked, Starved, Closed, Dropped}
use Rattle.query_tree.specs.declared.Rest.{Rest}
use Rattle.query_tree.specs.declared.Rest.TheVariants.{Ready as RestReady, Blocked as RestBlocked, Starved as RestStarved}
use Rattle.query_tree.specs.declared.Entry.{Entry}
use Rattle.query_tree.specs.Forest.{changed, tally_from, tally, is_starved, is_place, has_live_child, woken, fed, at_rest, back_as, stir, take_at, rest_at, back_at, less_at, part, share, fed_at, child_of, root_of, purse, close_at, after_take, after_back, after_ask, after_feed, after_close, after_root}
use Rattle.query_tree.proofs.Lists.{tally_changed, tally_same, tally_le, tally_plus, tally_one, tally_pushed, length_changed}
use Rattle.query_tree.proofs.Tests.{cond_eq, one_at}
use Rattle.query_tree.proofs.Close.{close_cases}
use Rattle.bolt_core.specs.Keeps.{credit_of, credit, unsaid, spent_of, HasRoom}

-- what is counted at one place alone, if it is there
one_at_most : {X : Type 0} (n i k : ℕ) (xs : List X) → tally_from k (λ j x. cond (j == i) n 0) xs ≤ n
one_at_most n i k [] = omega arith
one_at_most n i k (x ∷ xs) = cond_eq (λ (m : ℕ). m + tally_from (suc k) (λ j x. cond (j == i) n 0) xs ≤ n) k i n 0
    (λ d. omega (arith, past n i (suc k) xs (omega (arith, d))))
    (λ _. omega (arith, one_at_most n i (suc k) xs))
  where
    past : {X : Type 0} (n i k : ℕ) (xs : List X) → i < k → tally_from k (λ j x. cond (j == i) n 0) xs ≤ 0
    past n i k [] lt = omega arith
    past n i k (x ∷ xs) lt = rw (ne_eqb k i (λ e. omega (arith, e))) (omega (arith, past n i (suc k) xs (omega arith)))

none_at_all : {X : Type 0} (k : ℕ) (xs : List X) → tally_from k (λ j (x : X). 0) xs ≤ 0
none_at_all k [] = omega arith
none_at_all k (x ∷ xs) = omega (arith, none_at_all (suc k) xs)

-- a parent that is stirred counts at most once
place_at_most : {X : Type 0} (n : ℕ) (o : Option ℕ) (b : Bool) (xs : List X) → tally (λ j (x : X). cond b (cond (is_place o j) n 0) 0) xs ≤
    cond b n 0
place_at_most n o false xs = none_at_all 0 xs
place_at_most n None true xs = omega (arith, none_at_all 0 xs)
place_at_most n (Some q) true xs = one_at_most n q 0 xs

woken_credit : (s : Status) (b : Bool) → credit_of (woken s) true ≤ credit_of s b + 2
woken_credit Ready b = omega arith
woken_credit Running true = omega arith
woken_credit Running false = omega arith
woken_credit Blocked b = omega arith
woken_credit Starved b = omega arith
woken_credit Closed b = omega arith
woken_credit (Dropped n) b = omega arith

rest_most : (m : ℕ) (b : Bool) → credit_of (at_rest m) b + cond (is_starved (at_rest m)) 2 0 ≤ 4
rest_most m b = cond_both (m == 0) Starved Ready (λ s. credit_of s b + cond (is_starved s) 2 0 ≤ 4) (λ _. omega arith) (λ _. omega arith)

rest_only : (m : ℕ) (b : Bool) → credit_of (at_rest m) b ≤ 4
rest_only m b = cond_both (m == 0) Starved Ready (λ s. credit_of s b ≤ 4) (λ _. omega arith) (λ _. omega arith)

fed_credit : (m : ℕ) (s : Status) (b : Bool) → credit_of (fed m s) b ≤ credit_of s b + 2
fed_credit m Ready b = omega arith
fed_credit m Running b = omega arith
fed_credit m Blocked b = omega arith
fed_credit m Starved b = omega (arith, rest_only m b)
fed_credit m Closed b = omega arith
fed_credit m (Dropped n) b = omega arith

paid_credit : (m : ℕ) (s : Status) (b : Bool) → credit_of (fed m (woken s)) true ≤ credit_of s b + 2
paid_credit m Ready b = omega arith
paid_credit m Running true = omega arith
paid_credit m Running false = omega arith
paid_credit m Blocked b = omega arith
paid_credit m Starved b = omega (arith, rest_only m true)
paid_credit m Closed b = omega arith
paid_credit m (Dropped n) b = omega arith

running_credit : (b : Bool) → 3 ≤ credit_of Running b
running_credit true = omega arith
running_credit false = omega arith

-- A park as Blocked pays for itself; each other way to give a job back has made a step
back_credit : (r : Rest) (b : Bool) (m : ℕ) → credit_of (back_as r b m) b + cond (is_starved (back_as r b m)) 2 0 ≤ credit_of Running b + 1
back_credit RestReady true m = omega arith
back_credit RestReady false m = omega arith
back_credit RestBlocked true m = omega arith
back_credit RestBlocked false m = omega arith
back_credit RestStarved true m = omega (arith, rest_most m true)
back_credit RestStarved false m = omega (arith, rest_most m false)

blocked_credit : (b : Bool) (m : ℕ) → credit_of (back_as RestBlocked b m) b + cond (is_starved (back_as RestBlocked b m)) 2 0
    + 1 ≤ credit_of Running b
blocked_credit true m = omega arith
blocked_credit false m = omega arith

unsaid_one : (b : Bool) → cond b 0 1 ≤ 1
unsaid_one true = omega arith
unsaid_one false = omega arith

module _ {T : Type 0} where
  module _ (es : List (Entry T)) (own : Entry T) (i : ℕ) (at : slice_get es i ≡ Some own) where
    take_credit : own.status ≡ Ready → tally credit (after_take es i) + 4 ≡ tally credit es + 3
    take_credit ready =
        let e1 : tally (λ k e. credit k (take_at i (has_live_child es i) k e) + cond (k == i) 4 0) es
        ≡ tally (λ k e. credit k e + cond (k == i) 3 0) es =
        tally_same _ _ es (λ k e a. cond_eq (λ (x : Entry T). credit k x + cond (k == i) 4 0 ≡ credit k e + cond (k == i) 3 0) k i _ _
        (λ d. rw (eq-eqb k i d, one_at es i k own e at a d, ready) refl)
        (λ d. rw (ne_eqb k i d) refl)) in
        omega (
          arith,
          e1,
          tally_changed credit (take_at i (has_live_child es i)) 0 es,
          tally_plus (λ k e. credit k (take_at i (has_live_child es i) k e)) (λ k e. cond (k == i) 4 0) 0 es,
          tally_plus credit (λ k e. cond (k == i) 3 0) 0 es,
          tally_one 4 i es own at,
          tally_one 3 i es own at,
        )

    take_spent : tally spent_of (after_take es i) ≡ tally spent_of es
    take_spent = tally_changed spent_of (take_at i (has_live_child es i)) 0 es ∙ tally_same _ _ es
        (λ k e a. cond_eq (λ (x : Entry T). spent_of k x ≡ spent_of k e) k i _ _ (λ _. refl) (λ _. refl))

    module _ (st : Status) (left s : ℕ) (p : T) where
      stir_credit : (o : Option ℕ) (k : ℕ) (e : Entry T) → credit k (cond (is_place o k && is_starved st) (stir e) e) ≤ credit k e
          + cond (is_starved st) (cond (is_place o k) 2 0) 0
      stir_credit o k e = by_tests (is_place o k) (is_starved st)
        where
          by_tests : (a b : Bool) → credit k (cond (a && b) (stir e) e) ≤ credit k e + cond b (cond a 2 0) 0
          by_tests true true = woken_credit e.status e.stirred
          by_tests true false = omega arith
          by_tests false true = omega arith
          by_tests false false = omega arith

      rest_credit : tally credit (changed (rest_at own i st left s p) es) + credit_of own.status own.stirred ≤ tally credit es
          + (credit_of st own.stirred + cond (is_starved st) 2 0)
      rest_credit =
          let out : ℕ = credit_of own.status own.stirred in
          let into : ℕ = credit_of st own.stirred in
          let e1 : tally (λ k e. credit k (rest_at own i st left s p k e) + cond (k == i) out 0) es ≤ tally
          (λ k e. credit k e + (cond (k == i) into 0 + cond (is_starved st) (cond (is_place own.parent k) 2 0) 0)) es =
          tally_le _ _ es (λ k e a. cond_eq (λ (x : Entry T). credit k x + cond (k == i) out 0 ≤ credit k e
          + (cond (k == i) into 0 + cond (is_starved st) (cond (is_place own.parent k) 2 0) 0)) k i _ _
          (λ d. rw (eq-eqb k i d, one_at es i k own e at a d) (omega arith))
          (λ d. rw (ne_eqb k i d) (omega (arith, stir_credit own.parent k e)))) in
          omega (
            arith,
            e1,
            tally_changed credit (rest_at own i st left s p) 0 es,
            tally_plus (λ k e. credit k (rest_at own i st left s p k e)) (λ k e. cond (k == i) out 0) 0 es,
            tally_plus credit (λ k e. cond (k == i) into 0 + cond (is_starved st) (cond (is_place own.parent k) 2 0) 0) 0 es,
            tally_plus (λ k (e : Entry T). cond (k == i) into 0) (λ k e. cond (is_starved st) (cond (is_place own.parent k) 2 0) 0) 0 es,
            tally_one out i es own at,
            tally_one into i es own at,
            place_at_most 2 own.parent (is_starved st) es,
          )

      rest_spent : tally spent_of (changed (rest_at own i st left s p) es) ≡ tally spent_of es + s
      rest_spent =
          let e1 : tally (λ k e. spent_of k (rest_at own i st left s p k e)) es ≡ tally (λ k e. spent_of k e + cond (k == i) s 0) es =
          tally_same _ _ es (λ k e a. cond_eq (λ (x : Entry T). spent_of k x ≡ spent_of k e + cond (k == i) s 0) k i _ _
          (λ d. rw (eq-eqb k i d) refl)
          (λ d. rw (ne_eqb k i d) (cond_both (is_place own.parent k && is_starved st) (stir e) e (λ (x : Entry T). spent_of k x
          ≡ spent_of k e + 0) (λ _. omega arith) (λ _. omega arith)))) in
          omega (
            arith,
            e1,
            tally_changed spent_of (rest_at own i st left s p) 0 es,
            tally_plus spent_of (λ k (e : Entry T). cond (k == i) s 0) 0 es,
            tally_one s i es own at,
          )

    module _ (s : ℕ) (p : T) (stamp : ℕ) (runs : own.status ≡ Running) where
      close_credit : tally credit (after_close es own i s p stamp) + 3 ≤ tally credit es + 2
      close_credit =
          let e1 : tally (λ k e. credit k (close_at es own i s p stamp k e) + cond (k == i) 3 0) es ≤ tally
          (λ k e. credit k e + cond true (cond (is_place own.parent k) 2 0) 0) es =
          tally_le _ _ es (λ k e a. close_cases (λ (x : Entry T). credit k x + cond (k == i) 3 0 ≤ credit k e + cond (is_place own.parent k)
          2 0)
          es own i s p stamp k e
          (λ d. let r : e.status ≡ Running = ap (λ (x : Entry T). x.status) (one_at es i k own e at a d) ∙ runs in
          rw (eq-eqb k i d, r) (omega (arith, running_credit e.stirred)))
          (λ d _. rw (ne_eqb k i d) (omega arith))
          (λ d _ u. rw (ne_eqb k i d, u) (omega (arith, paid_credit (e.left + purse es own i s) e.status e.stirred)))
          (λ d _ u. rw (ne_eqb k i d, u) (omega arith))) in
          omega (
            arith,
            e1,
            tally_changed credit (close_at es own i s p stamp) 0 es,
            tally_plus (λ k e. credit k (close_at es own i s p stamp k e)) (λ k e. cond (k == i) 3 0) 0 es,
            tally_plus credit (λ k e. cond true (cond (is_place own.parent k) 2 0) 0) 0 es,
            tally_one 3 i es own at,
            place_at_most 2 own.parent true es,
          )

      close_spent : tally spent_of (after_close es own i s p stamp) ≡ tally spent_of es + s
      close_spent =
          let e1 : tally (λ k e. spent_of k (close_at es own i s p stamp k e)) es ≡ tally (λ k e. spent_of k e + cond (k == i) s 0) es =
          tally_same _ _ es (λ k e a. close_cases (λ (x : Entry T). spent_of k x ≡ spent_of k e + cond (k == i) s 0) es own i s p stamp k e
          (λ d. rw (eq-eqb k i d) refl)
          (λ d _. rw (ne_eqb k i d) (omega arith))
          (λ d _ _. rw (ne_eqb k i d) (omega arith))
          (λ d _ _. rw (ne_eqb k i d) (omega arith))) in
          omega (
            arith,
            e1,
            tally_changed spent_of (close_at es own i s p stamp) 0 es,
            tally_plus spent_of (λ k (e : Entry T). cond (k == i) s 0) 0 es,
            tally_one s i es own at,
          )

  fed_at_credit : (es : List (Entry T)) (c n : ℕ) → tally credit (changed (fed_at c n) es) ≤ tally credit es + 2
  fed_at_credit es c n =
      let e1 : tally (λ k e. credit k (fed_at c n k e)) es ≤ tally (λ k e. credit k e + cond (k == c) 2 0) es =
      tally_le _ _ es (λ k e a. cond_eq (λ (x : Entry T). credit k x ≤ credit k e + cond (k == c) 2 0) k c _ _
      (λ d. rw (eq-eqb k c d) (fed_credit (e.left + n) e.status e.stirred))
      (λ d. rw (ne_eqb k c d) (omega arith))) in
      omega (
        arith,
        e1,
        tally_changed credit (fed_at c n) 0 es,
        tally_plus credit (λ k (e : Entry T). cond (k == c) 2 0) 0 es,
        one_at_most 2 c 0 es,
      )

  fed_at_spent : (es : List (Entry T)) (c n : ℕ) → tally spent_of (changed (fed_at c n) es) ≡ tally spent_of es
  fed_at_spent es c n = tally_changed spent_of (fed_at c n) 0 es ∙ tally_same _ _ es
      (λ k e a. cond_eq (λ (x : Entry T). spent_of k x ≡ spent_of k e) k c _ _ (λ _. refl) (λ _. refl))

  -- what may be published stands by the places alone
  unsaid_changed : (said : ℕ → Bool) (f : ℕ → Entry T → Entry T) (es : List (Entry T)) → tally (unsaid said) (changed f es)
      ≡ tally (unsaid said) es
  unsaid_changed said f es = tally_changed (unsaid said) f 0 es

  -- The events
  module _ (es : List (Entry T)) (said : ℕ → Bool) (stopped : Bool) (n roots : ℕ) (h : HasRoom es said stopped n roots) where
    pub room_take : (own : Entry T) (i : ℕ) → slice_get es i ≡ Some own → own.status ≡ Ready → HasRoom (after_take es i) said stopped
        (n + 1) roots
    room_take own i at ready =
        let len = length_changed (take_at i (has_live_child es i)) 0 es in
        record {
          owed = omega (
            arith,
            h.owed,
            take_credit es own i at ready,
            take_spent es own i at,
            unsaid_changed said (take_at i (has_live_child es i)) es,
            len,
          );
          few = omega (arith, h.few, take_spent es own i at, len);
        }

    pub room_back : (own : Entry T) (i : ℕ) → slice_get es i ≡ Some own → own.status ≡ Running → (s : ℕ) (r : Rest) (p : T) →
        (1 ≤ s) ⊎ (r ≡ RestBlocked) → HasRoom (after_back es own i s r p) said stopped (n + 1) roots
    room_back own i at runs s r p made =
        let st : Status = back_as r own.stirred (own.left - s) in
        let len = length_changed (back_at own i s r p) 0 es in
        let c = rest_credit es own i at st (own.left - s) s p in
        let run : credit_of own.status own.stirred ≡ credit_of Running own.stirred = ap (λ z. credit_of z own.stirred) runs in
        let sp = rest_spent es own i at st (own.left - s) s p in
        record {
          owed = ⊎_elim
              (λ k. omega (
                arith,
                h.owed,
                c,
                run,
                back_credit r own.stirred (own.left - s),
                sp,
                unsaid_changed said (back_at own i s r p) es,
                len,
                k,
              ))
              (λ k. let b : credit_of st own.stirred + cond (is_starved st) 2 0 + 1 ≤ credit_of Running own.stirred = rw k
              (blocked_credit own.stirred (own.left - s)) in
              omega (arith, h.owed, c, run, b, sp, unsaid_changed said (back_at own i s r p) es, len)) made;
          few = omega (arith, h.few, sp, len);
        }

    pub room_ask : (own : Entry T) (i : ℕ) → slice_get es i ≡ Some own → own.status ≡ Running → (s : ℕ) (p c : T) → 1 ≤ s →
        HasRoom (after_ask es own i s p c) said stopped (n + 1) roots
    room_ask own i at runs s p c made =
        let m : ℕ = part (own.left - s) in
        let keep : ℕ = (own.left - s) - m in
        let fs : List (Entry T) = changed (less_at own i s p m) es in
        let x : Entry T = child_of own i s c in
        let len = length_changed (less_at own i s p m) 0 es in
        let cr = rest_credit es own i at (at_rest keep) keep s p in
        let run : credit_of own.status own.stirred ≡ credit_of Running own.stirred = ap (λ z. credit_of z own.stirred) runs in
        let sp = rest_spent es own i at (at_rest keep) keep s p in
        record {
          owed = omega (
            arith,
            h.owed,
            cr,
            run,
            running_credit own.stirred,
            rest_most keep own.stirred,
            rest_only m false,
            sp,
            unsaid_changed said (less_at own i s p m) es,
            len,
            made,
            tally_pushed credit fs x,
            tally_pushed (unsaid said) fs x,
            tally_pushed spent_of fs x,
            length_push fs x,
            unsaid_one (said (length fs)),
          );
          few = omega (arith, h.few, sp, len, made, tally_pushed spent_of fs x, length_push fs x);
        }

    pub room_feed : (own : Entry T) (i : ℕ) → slice_get es i ≡ Some own → own.status ≡ Running → (s : ℕ) (p : T) (c : ℕ) (child : Entry T) →
        1 ≤ s → HasRoom (after_feed es own i s p c child) said stopped (n + 1) roots
    room_feed own i at runs s p c child made =
        let m : ℕ = share child (own.left - s) in
        let keep : ℕ = (own.left - s) - m in
        let fs : List (Entry T) = changed (less_at own i s p m) es in
        let len = length_changed (less_at own i s p m) 0 es in
        let len2 = length_changed (fed_at c m) 0 fs in
        let cr = rest_credit es own i at (at_rest keep) keep s p in
        let run : credit_of own.status own.stirred ≡ credit_of Running own.stirred = ap (λ z. credit_of z own.stirred) runs in
        let sp = rest_spent es own i at (at_rest keep) keep s p in
        record {
          owed = omega (
            arith,
            h.owed,
            cr,
            run,
            running_credit own.stirred,
            rest_most keep own.stirred,
            sp,
            unsaid_changed said (less_at own i s p m) es,
            len,
            made,
            fed_at_credit fs c m,
            fed_at_spent fs c m,
            unsaid_changed said (fed_at c m) fs,
            len2,
          );
          few = omega (arith, h.few, sp, len, len2, fed_at_spent fs c m);
        }

    pub room_close : (own : Entry T) (i : ℕ) → slice_get es i ≡ Some own → own.status ≡ Running → (s : ℕ) (p : T) (stamp : ℕ) →
        HasRoom (after_close es own i s p stamp) said stopped (n + 1) roots
    room_close own i at runs s p stamp =
        let len = length_changed (close_at es own i s p stamp) 0 es in
        record {
          owed = omega (
            arith,
            h.owed,
            close_credit es own i at s p stamp runs,
            close_spent es own i at s p stamp runs,
            unsaid_changed said (close_at es own i s p stamp) es,
            len,
          );
          few = omega (arith, h.few, close_spent es own i at s p stamp runs, len);
        }

    pub room_publish : (own : Entry T) (i : ℕ) → slice_get es i ≡ Some own → said i ≡ false → HasRoom es (λ k. (k == i) || said k) stopped
        (n + 1) roots
    room_publish own i at not' =
        let e1 : tally (λ k e. unsaid (λ j. (j == i) || said j) k e + cond (k == i) 1 0) es ≡ tally (unsaid said) es =
        tally_same _ (unsaid said) es (λ k e a. ⊎_elim
        (λ d. rw (eq-eqb k i d, d, not') refl)
        (λ d. rw (ne_eqb k i d) (omega arith))
        (cases_eq k i)) in
        record {
          owed = omega (
            arith,
            h.owed,
            e1,
            tally_plus (unsaid (λ j. (j == i) || said j)) (λ k (e : Entry T). cond (k == i) 1 0) 0 es,
            tally_one 1 i es own at,
          );
          few = h.few;
        }

    pub room_root : (grant : ℕ) (p : T) → HasRoom (after_root es grant p) said stopped n (roots + 1)
    room_root grant p =
        let x : Entry T = root_of (length es) grant p in
        record {
          owed = omega (
            arith,
            h.owed,
            tally_pushed credit es x,
            tally_pushed (unsaid said) es x,
            tally_pushed spent_of es x,
            length_push es x,
            unsaid_one (said (length es)),
          );
          few = omega (arith, h.few, tally_pushed spent_of es x, length_push es x);
        }

  pub room_stop : (es : List (Entry T)) (said : ℕ → Bool) (n roots : ℕ) → HasRoom es said false n roots → HasRoom es said true (n + 1) roots
  room_stop es said n roots h = record { owed = omega (arith, h.owed); few = h.few }

  -- So the reserve is enough.
  pub room_enough : (es : List (Entry T)) (said : ℕ → Bool) (stopped : Bool) (n roots grants : ℕ) → HasRoom es said stopped n roots →
      tally spent_of es ≤ grants → 1 ≤ roots → n ≤ 16 * (grants + roots)
  room_enough es said stopped n roots grants h le some = omega (arith, h.owed, h.few)
