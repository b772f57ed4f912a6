-- A job is given back, with or without a part for a child.
use Rattle.std.proofs.Common.{◌≡◌, ℕ, ◌+◌, ◌-◌, ◌≤◌, List, length, Bool, true, false, cond, Some, refl, sym, ap, ◌∙◌, subst, ⊎_elim, arith}
use Rattle.std.specs.Prelude.{slice_get, ◌==◌, ◌&&◌}
use Rattle.std.proofs.lemmas.Bool.{cond_both, and_from, both_ways, cases_Bool, eq-eqb, ne_eqb}
use Rattle.query_tree.specs.declared.Status.{Status}
use Rattle.query_tree.specs.declared.Status.TheVariants.{Running, Dropped}
use Rattle.query_tree.specs.declared.Rest.{Rest}
use Rattle.query_tree.specs.declared.Entry.{Entry}
use Rattle.query_tree.specs.Forest.{changed, tally, is_open, is_live, is_starved, is_none, is_place, woken, at_rest, back_as, stir, rest_at, less_at, part, child_of, after_back, after_ask}
use Rattle.query_tree.specs.Kept.{leans, Ended, HasEnded, Holds, Held, worth, IsFine, Rooted, LiveChild, IsTree, IsShut, IsLeaning, AreFine, IsKept}
use Rattle.query_tree.proofs.Lists.{tally_changed, tally_same, tally_plus, tally_one, tally_pushed, to_changed, within, length_changed}
use Rattle.query_tree.proofs.Keeps.{SameFrame, Roots, tree_changed, shut_changed, lean_changed, fine_changed, roots_changed, roots_pushed, roots_then, granted_same, tree_pushed, shut_pushed, lean_pushed, fine_pushed}
use Rattle.query_tree.proofs.Ended.{dropped_shut, woken_dropped, woken_ended, rest_dropped, ended_changed, ended_pushed}
use Rattle.query_tree.proofs.Tests.{cond_eq, is_place_at, one_at, live_woken, open_woken, leans_stirred, holds_woken, open_rest, leans_rest, live_rest, holds_rest, open_back, live_back, holds_back, held_woken, held_rest, held_back, MayRest, leans_back}

pub cond_sum : (b : Bool) (x y z : ℕ) → x ≡ y + z → cond b x 0 ≡ cond b y 0 + cond b z 0
cond_sum true x y z h = h
cond_sum false x y z h = refl

module _ {T : Type 0} where
  pub rest_frame : (own : Entry T) (i : ℕ) (st : Status) (left s : ℕ) (p : T) (k : ℕ) (e : Entry T) →
      SameFrame e (rest_at own i st left s p k e)
  rest_frame own i st left s p k e = cond_eq (SameFrame e) k i _ _ (λ _. record { parent = refl; root = refl; grant = refl })
      (λ _. cond_both (is_place own.parent k && is_starved st) (stir e) e (SameFrame e)
      (λ _. record { parent = refl; root = refl; grant = refl })
      (λ _. record { parent = refl; root = refl; grant = refl }))

  -- what may be said of the status in which a job is given back
  pub record Rests (own : Entry T) (st : Status) (left : ℕ) : Type 0 where
    pub opened : is_open st ≡ true
    pub live : is_starved st ≡ false → is_live st ≡ true
    pub leans : leans st own.waiting own.stirred ≡ true → leans own.status own.waiting own.stirred ≡ true
    pub holds : Holds st left own.lent (is_none own.parent)
    pub held : Held st false

  module _ (es : List (Entry T)) (own : Entry T) (i : ℕ) (at : slice_get es i ≡ Some own) (runs : own.status ≡ Running) (st : Status)
      (left s : ℕ) (p : T) (ok : Rests own st left) where
    opens : (k : ℕ) (e : Entry T) → slice_get es k ≡ Some e → is_open (rest_at own i st left s p k e).status ≡ is_open e.status
    opens k e a = cond_eq (λ (x : Entry T). is_open x.status ≡ is_open e.status) k i _ _
        (λ d. rw (one_at es i k own e at a d, runs) ok.opened)
        (λ _. cond_both (is_place own.parent k && is_starved st) (stir e) e (λ (x : Entry T). is_open x.status ≡ is_open e.status)
        (λ _. open_woken e.status) (λ _. refl))

    each : IsLeaning es → (k : ℕ) (e : Entry T) → slice_get es k ≡ Some e → let x = rest_at own i st left s p k e in
        leans x.status x.waiting x.stirred ≡ true → LiveChild es k
    each l k e a = cond_eq (λ (x : Entry T). leans x.status x.waiting x.stirred ≡ true → LiveChild es k) k i _ _
        (λ d h. l.leaning k e a (subst (λ (x : Entry T). leans x.status x.waiting x.stirred ≡ true) (sym (one_at es i k own e at a d))
        (ok.leans (subst (λ (x : Entry T). leans st x.waiting x.stirred ≡ true) (one_at es i k own e at a d) h))))
        (λ _. cond_both (is_place own.parent k && is_starved st) (stir e) e (λ (x : Entry T). leans x.status x.waiting x.stirred ≡ true →
        LiveChild es k)
        (λ _ h. absurd (both_ways (leans (woken e.status) e.waiting true) (leans_stirred e.status e.waiting) h))
        (λ _ h. l.leaning k e a h))

    -- the parent of a query that became Starved was stirred, and leans on nothing
    parent_leans : IsTree es → (q : ℕ) (x : Entry T) → own.parent ≡ Some q → is_starved st ≡ true → let y = rest_at own i st left s p q x in
        leans y.status y.waiting y.stirred ≡ false
    parent_leans t q x n h = cond_eq (λ (y : Entry T). leans y.status y.waiting y.stirred ≡ false) q i _ _
        (λ d. let r : Rooted es i (Some q) own.root = rw n at (t.rooted i own at) in absurd (omega (arith, r.0, d)))
        (λ _. rw (and_from (is_place own.parent q) (is_starved st) (is_place_at own.parent q n) h) (leans_stirred x.status x.waiting))

    lives : IsTree es → (c q : ℕ) (e x : Entry T) → slice_get es c ≡ Some e → slice_get es q ≡ Some x → e.parent ≡ Some q → is_live e.status
        ≡ true → let y = rest_at own i st left s p q x in leans y.status y.waiting y.stirred ≡ true →
        is_live (rest_at own i st left s p c e).status ≡ true
    lives t c q e x a b n live l = cond_eq (λ (y : Entry T). is_live y.status ≡ true) c i _ _
        (λ d. ⊎_elim
        (λ h. let n' : own.parent ≡ Some q = ap (λ (y : Entry T). y.parent) (sym (one_at es i c own e at a d)) ∙ n in
        absurd (both_ways (let y = rest_at own i st left s p q x in leans y.status y.waiting y.stirred) (parent_leans t q x n' h) l))
        ok.live
        (cases_Bool (is_starved st)))
        (λ _. cond_both (is_place own.parent c && is_starved st) (stir e) e (λ (y : Entry T). is_live y.status ≡ true)
        (λ _. live_woken e.status live) (λ _. live))

    fine : (k : ℕ) (e : Entry T) → slice_get es k ≡ Some e → IsFine e → IsFine (rest_at own i st left s p k e)
    fine k e a h = cond_eq IsFine k i _ _
        (λ d. record {
          holds = subst (λ (y : Entry T). Holds st left y.lent (is_none y.parent)) (sym (one_at es i k own e at a d)) ok.holds;
          held = ok.held;
        })
        (λ _. cond_both (is_place own.parent k && is_starved st) (stir e) e IsFine
        (λ _. record {
          holds = holds_woken e.status e.left e.lent (is_none e.parent) h.holds;
          held = held_woken e.status (is_none e.payload)
              h.held;
        })
        (λ _. h))

    -- the sums but for the query's own entry
    pub rest_sum : (sel : ℕ → Bool) → tally (worth sel) (changed (rest_at own i st left s p) es) + cond (sel own.root)
        (own.left + own.spent)
        0 ≡ tally (worth sel) es + cond (sel own.root) (left + (own.spent + s)) 0
    rest_sum sel =
        let out : ℕ = cond (sel own.root) (own.left + own.spent) 0 in
        let into : ℕ = cond (sel own.root) (left + (own.spent + s)) 0 in
        let e1 : tally (λ k e. worth sel k (rest_at own i st left s p k e) + cond (k == i) out 0) es
        ≡ tally (λ k e. worth sel k e + cond (k == i) into 0) es =
        tally_same _ _ es (λ k e a. cond_eq (λ (x : Entry T). worth sel k x + cond (k == i) out 0 ≡ worth sel k e + cond (k == i) into 0) k
        i _ _
        (λ d. rw (one_at es i k own e at a d, eq-eqb k i d) (omega arith))
        (λ d. rw (ne_eqb k i d) (cond_both (is_place own.parent k && is_starved st) (stir e) e (λ (x : Entry T). worth sel k x + 0
        ≡ worth sel k e + 0) (λ _. refl) (λ _. refl)))) in
        omega (
          arith,
          e1,
          tally_changed (worth sel) (rest_at own i st left s p) 0 es,
          tally_plus (λ k e. worth sel k (rest_at own i st left s p k e)) (λ k e. cond (k == i) out 0) 0 es,
          tally_plus (worth sel) (λ k e. cond (k == i) into 0) 0 es,
          tally_one out i es own at,
          tally_one into i es own at,
        )

    pub rest_tree : IsTree es → IsTree (changed (rest_at own i st left s p) es)
    rest_tree = tree_changed es _ (rest_frame own i st left s p)

    pub rest_shut : IsShut es → IsShut (changed (rest_at own i st left s p) es)
    rest_shut = shut_changed es _ (rest_frame own i st left s p) opens

    pub rest_leaning : IsTree es → IsLeaning es → IsLeaning (changed (rest_at own i st left s p) es)
    rest_leaning t l = lean_changed es _ (rest_frame own i st left s p) (each l) (lives t)

    pub rest_fine : AreFine es → AreFine (changed (rest_at own i st left s p) es)
    rest_fine = fine_changed es _ (rest_frame own i st left s p) fine

    drops : (k : ℕ) (e : Entry T) (n : ℕ) → slice_get es k ≡ Some e → (rest_at own i st left s p k e).status ≡ Dropped n → e.status
        ≡ Dropped n
    drops k e n a = cond_eq (λ (x : Entry T). x.status ≡ Dropped n → e.status ≡ Dropped n) k i _ _
        (λ _ h. absurd (dropped_shut n st ok.opened h))
        (λ _. cond_both (is_place own.parent k && is_starved st) (stir e) e (λ (x : Entry T). x.status ≡ Dropped n → e.status ≡ Dropped n)
        (λ _ h. woken_dropped n e.status h) (λ _ h. h))

    ends : (n k : ℕ) (e : Entry T) → slice_get es k ≡ Some e → Ended n e.status → Ended n (rest_at own i st left s p k e).status
    ends n k e a h = cond_eq (λ (x : Entry T). Ended n x.status) k i _ _
        (λ d. let z : Ended n own.status = subst (λ (x : Entry T). Ended n x.status) (one_at es i k own e at a d) h in
        absurd (rw runs at z))
        (λ _. cond_both (is_place own.parent k && is_starved st) (stir e) e (λ (x : Entry T). Ended n x.status)
        (λ _. woken_ended n e.status h) (λ _. h))

    pub rest_ended : HasEnded es → HasEnded (changed (rest_at own i st left s p) es)
    rest_ended = ended_changed es _ (rest_frame own i st left s p) drops ends

    pub rest_roots : Roots es (changed (rest_at own i st left s p) es)
    rest_roots = roots_changed es _ (rest_frame own i st left s p)

  -- A Park
  module _ (es : List (Entry T)) (own : Entry T) (i : ℕ) (at : slice_get es i ≡ Some own) (runs : own.status ≡ Running) (s : ℕ)
      (rest : Rest)
      (p : T) (le : s ≤ own.lent) (may : MayRest rest own.waiting) where
    back_ok : Rests own (back_as rest own.stirred (own.left - s)) (own.left - s)
    back_ok = record {
      opened = open_back rest own.stirred (own.left - s);
      live = live_back rest own.stirred (own.left - s);
      leans = λ h. rw runs (leans_back rest own.waiting own.stirred (own.left - s) may h);
      holds = holds_back rest own.stirred (own.left - s) own.lent (is_none own.parent);
      held = held_back rest own.stirred (own.left - s) false refl;
    }

    pub back_kept : IsKept es → IsKept (after_back es own i s rest p)
    back_kept h =
        let st = back_as rest own.stirred (own.left - s) in
        let le2 : own.lent ≤ own.left = rw runs at ((h.each.fine i own at).holds) in
        record {
          tree = rest_tree es own i at runs st (own.left - s) s p back_ok h.tree;
          shut = rest_shut es own i at runs st (own.left - s) s p back_ok h.shut;
          leaning = rest_leaning es own i at runs st (own.left - s) s p back_ok h.tree h.leaning;
          granted = granted_same es _ (rest_roots es own i at runs st (own.left - s) s p back_ok)
              (λ sel. let same : own.left + own.spent ≡ (own.left - s) + (own.spent + s) = omega arith in
              let e = ap (λ n. cond (sel own.root) n 0) same in
              omega (arith, rest_sum es own i at runs st (own.left - s) s p back_ok sel, e)) h.granted;
          each = rest_fine es own i at runs st (own.left - s) s p back_ok h.each;
          ended = rest_ended es own i at runs st (own.left - s) s p back_ok h.ended;
        }

  -- A job is given back, and n of what is left goes elsewhere
  module _ (es : List (Entry T)) (own : Entry T) (i : ℕ) (at : slice_get es i ≡ Some own) (runs : own.status ≡ Running) (s : ℕ) (p : T)
      (n : ℕ) where
    pub less_ok : Rests own (at_rest ((own.left - s) - n)) ((own.left - s) - n)
    less_ok = record {
      opened = open_rest ((own.left - s) - n);
      live = live_rest ((own.left - s) - n);
      leans = λ h. absurd (both_ways (leans (at_rest ((own.left - s) - n)) own.waiting own.stirred)
          (leans_rest ((own.left - s) - n) own.waiting own.stirred) h);
      holds = holds_rest ((own.left - s) - n) own.lent (is_none own.parent);
      held = held_rest ((own.left - s) - n) false refl;
    }

    pub less_sum : s + n ≤ own.left → (sel : ℕ → Bool) → tally (worth sel) (changed (less_at own i s p n) es) + cond (sel own.root) n 0
        ≡ tally (worth sel) es
    less_sum le sel =
        let m : ℕ = (own.left - s) - n in
        let e = cond_sum (sel own.root) (own.left + own.spent) (m + (own.spent + s)) n (omega arith) in
        omega (arith, e, rest_sum es own i at runs (at_rest m) m s p less_ok sel)

  module _ (es : List (Entry T)) (own : Entry T) (i : ℕ) (at : slice_get es i ≡ Some own) (runs : own.status ≡ Running) (s : ℕ) (p : T)
      (le : s ≤ own.lent) (child : T) where
    pub ask_kept : IsKept es → IsKept (after_ask es own i s p child)
    ask_kept h =
        let n : ℕ = part (own.left - s) in
        let m : ℕ = (own.left - s) - n in
        let le2 : own.lent ≤ own.left = rw runs at ((h.each.fine i own at).holds) in
        let fs : List (Entry T) = changed (less_at own i s p n) es in
        let x : Entry T = child_of own i s child in
        let ok = less_ok es own i at runs s p n in
        let tree : IsTree fs = rest_tree es own i at runs (at_rest m) m s p ok h.tree in
        let at' : slice_get fs i ≡ Some (less_at own i s p n i own) = to_changed (less_at own i s p n) es i own at in
        let len : length fs ≡ length es = length_changed (less_at own i s p n) 0 es in
        let own' : Entry T = less_at own i s p n i own in
        let frame = rest_frame own i (at_rest m) m s p i own in
        let opened : is_open own'.status ≡ true = rw (eq-eqb i i refl) (open_rest m) in
        let rooted : Rooted fs (length fs) (Some i) own.root = (omega (arith, len, within es i own at), own', at', frame.root) in
        record {
          tree = tree_pushed fs x tree rooted;
          shut = shut_pushed fs x tree (rest_shut es own i at runs (at_rest m) m s p ok h.shut) rooted
              (λ q a. subst (λ (y : Entry T). is_open y.status ≡ true) (sym (one_at fs i i own' q at' a refl)) opened);
          leaning = lean_pushed fs x (leans_rest n false false) (rest_leaning es own i at runs (at_rest m) m s p ok h.tree h.leaning);
          granted = granted_same es _ (roots_then es fs _ (rest_roots es own i at runs (at_rest m) m s p ok)
              (roots_pushed fs x i refl refl))
              (λ sel. let plain : n + 0 ≡ n = omega arith in let e : cond (sel own.root) (n + 0) 0 ≡ cond (sel own.root) n 0 =
              ap (λ v. cond (sel own.root) v 0) plain in omega (
                arith,
                tally_pushed (worth sel) fs x,
                less_sum es own i at runs s p n
                    (omega arith) sel,
                e,
              )) h.granted;
          each = fine_pushed fs x (record { holds = holds_rest n 0 false; held = held_rest n false refl })
              (rest_fine es own i at runs (at_rest m) m s p ok h.each);
          ended = ended_pushed fs x tree (λ v. rest_dropped v n) (rest_ended es own i at runs (at_rest m) m s p ok h.ended);
        }
