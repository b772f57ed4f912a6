-- A child is fed, and a root is added.
use Rattle.std.proofs.Common.{◌≡◌, ℕ, ◌+◌, ◌-◌, ◌^◌, ◌<◌, ◌≤◌, List, [], length, Bool, true, false, cond, Some, refl, sym, ap, ◌∙◌, ⊎_elim, arith}
use Rattle.std.specs.Prelude.{slice_get, ◌==◌}
use Rattle.std.proofs.lemmas.Bool.{cond_both, and_left, cases_eq, eq-eqb, ne_eqb, false_from_ne_true}
use Rattle.query_tree.specs.declared.Status.TheVariants.{Running, Dropped}
use Rattle.query_tree.specs.declared.Entry.{Entry}
use Rattle.query_tree.specs.Forest.{fed, changed, tally, is_open, is_live, is_starved, is_none, is_place, at_rest, less_at, part, share, fed_at, root_of, after_feed, after_root}
use Rattle.query_tree.specs.Kept.{leans, Ended, HasEnded, worth, grant_of, of_root, of_all, IsFine, Rooted, LiveChild, IsTree, IsShut, IsLeaning, AreFine, IsKept}
use Rattle.query_tree.proofs.Lists.{tally_changed, tally_same, tally_plus, tally_one, tally_le, tally_pushed, tally_zero, to_changed, from_pushed, within}
use Rattle.query_tree.proofs.Keeps.{SameFrame, tree_changed, shut_changed, lean_changed, fine_changed, roots_changed, roots_then, granted_same, tree_pushed, shut_pushed, lean_pushed, fine_pushed, root_below}
use Rattle.query_tree.proofs.Ended.{fed_dropped, fed_ended, ended_changed, ended_pushed}
use Rattle.query_tree.proofs.Tests.{cond_eq, place_is, one_at, open_fed, live_fed, leans_fed, holds_fed, held_fed}
use Rattle.query_tree.proofs.Back.{less_ok, less_sum, rest_tree, rest_shut, rest_leaning, rest_fine, rest_ended, rest_roots}

module _ {T : Type 0} where
  -- what is left of a query and what it spent is within its tree's sum
  pub one_le : (es : List (Entry T)) (k : ℕ) (e : Entry T) → slice_get es k ≡ Some e → e.left + e.spent ≤ tally (worth (of_root e.root)) es
  one_le es k e a =
      let n : ℕ = e.left + e.spent in
      omega (
        arith,
        tally_one n k es e a,
        tally_le (λ j x. cond (j == k) n 0) (worth (of_root e.root)) es (λ j x b. cond_eq (λ (m : ℕ). m ≤ worth (of_root e.root) j x) j k n
            0
            (λ d. rw (one_at es k j e x a b d, eq-eqb e.root e.root refl) (omega arith))
            (λ _. omega arith)),
      )

  fed_frame : (c n k : ℕ) (e : Entry T) → SameFrame e (fed_at c n k e)
  fed_frame c n k e = cond_eq (SameFrame e) k c _ e (λ _. record { parent = refl; root = refl; grant = refl })
      (λ _. record { parent = refl; root = refl; grant = refl })

  module _ (es : List (Entry T)) (c : ℕ) (child : Entry T) (at : slice_get es c ≡ Some child) (n : ℕ) (none : is_open child.status ≡ false →
      n ≡ 0) where
    opens : (k : ℕ) (e : Entry T) → is_open (fed_at c n k e).status ≡ is_open e.status
    opens k e = cond_eq (λ (x : Entry T). is_open x.status ≡ is_open e.status) k c _ e (λ _. open_fed (e.left + n) e.status) (λ _. refl)

    each : IsLeaning es → (k : ℕ) (e : Entry T) → slice_get es k ≡ Some e → let x = fed_at c n k e in leans x.status x.waiting x.stirred
        ≡ true → LiveChild es k
    each l k e a = cond_eq (λ (x : Entry T). leans x.status x.waiting x.stirred ≡ true → LiveChild es k) k c _ e
        (λ _ h. l.leaning k e a (leans_fed (e.left + n) e.status e.waiting e.stirred h))
        (λ _ h. l.leaning k e a h)

    lives : (k : ℕ) (e : Entry T) → is_live e.status ≡ true → is_live (fed_at c n k e).status ≡ true
    lives k e h = cond_eq (λ (x : Entry T). is_live x.status ≡ true) k c _ e (λ _. live_fed (e.left + n) e.status h) (λ _. h)

    fine : (k : ℕ) (e : Entry T) → slice_get es k ≡ Some e → IsFine e → IsFine (fed_at c n k e)
    fine k e a h = cond_eq IsFine k c _ e
        (λ d. record {
          holds = holds_fed e.status e.left e.lent n (is_none e.parent)
              (λ z. none (ap (λ (x : Entry T). is_open x.status) (sym (one_at es c k child e at a d)) ∙ z)) h.holds;
          held = held_fed (e.left + n) e.status (is_none e.payload) h.held;
        })
        (λ _. h)

    fed_sum : (sel : ℕ → Bool) → tally (worth sel) (changed (fed_at c n) es) ≡ tally (worth sel) es + cond (sel child.root) n 0
    fed_sum sel =
        let into : ℕ = cond (sel child.root) n 0 in
        let e1 : tally (λ k e. worth sel k (fed_at c n k e)) es ≡ tally (λ k e. worth sel k e + cond (k == c) into 0) es =
        tally_same _ _ es (λ k e a. cond_eq (λ (x : Entry T). worth sel k x ≡ worth sel k e + cond (k == c) into 0) k c _ e
        (λ d. rw (one_at es c k child e at a d, eq-eqb k c d) (cond_more (sel child.root) child.left child.spent n))
        (λ d. rw (ne_eqb k c d) (omega arith))) in
        omega (
          arith,
          e1,
          tally_changed (worth sel) (fed_at c n) 0 es,
          tally_plus (worth sel) (λ k e. cond (k == c) into 0) 0 es,
          tally_one into c es child at,
        )
      where
        cond_more : (b : Bool) (l s n : ℕ) → cond b ((l + n) + s) 0 ≡ cond b (l + s) 0 + cond b n 0
        cond_more true l s n = omega arith
        cond_more false l s n = refl

    pub fed_ended_all : HasEnded es → HasEnded (changed (fed_at c n) es)
    fed_ended_all = ended_changed es _ (fed_frame c n)
        (λ k e v a. cond_eq (λ (x : Entry T). x.status ≡ Dropped v → e.status ≡ Dropped v) k c _ e
        (λ _ h. fed_dropped v (e.left + n) e.status h) (λ _ h. h))
        (λ v k e a h. cond_eq (λ (x : Entry T). Ended v x.status) k c _ e (λ _. fed_ended v (e.left + n) e.status h) (λ _. h))

    pub fed_kept : IsTree es → IsShut es → IsLeaning es → AreFine es → IsTree (changed (fed_at c n) es) × IsShut (changed (fed_at c n) es)
        × IsLeaning (changed (fed_at c n) es) × AreFine (changed (fed_at c n) es)
    fed_kept t s l f = (
      tree_changed es _ (fed_frame c n) t,
      shut_changed es _ (fed_frame c n) (λ k e a. opens k e) s,
      lean_changed es _ (fed_frame c n) (each l) (λ k q e x a b m live h. lives k e live),
      fine_changed es _ (fed_frame c n) fine f,
    )

  child_stays : (es : List (Entry T)) (own : Entry T) (i : ℕ) → slice_get es i ≡ Some own → (s : ℕ) (p : T) (n c : ℕ) (child : Entry T) →
      IsTree es → Rooted es c (Some i) child.root → less_at own i s p n c child ≡ child
  child_stays es own i at s p n c child t up = cond_eq (λ x. x ≡ child) c i _ _
      (λ d. absurd (omega (arith, up.0, d)))
      (λ _. rw (and_left (is_place own.parent c) (is_starved (at_rest ((own.left - s) - n)))
      (false_from_ne_true (is_place own.parent c) (λ b.
      let r : Rooted es i (Some c) own.root = rw (place_is own.parent c b) at (t.rooted i own at) in omega (arith, up.0, r.0)))) refl)

  share_less : (child : Entry T) (m : ℕ) → share child m ≤ m
  share_less child m = cond_both (is_open child.status) (part m) 0 (λ n. n ≤ m) (λ _. omega arith) (λ _. omega arith)

  pub share_none : (child : Entry T) (m : ℕ) → is_open child.status ≡ false → share child m ≡ 0
  share_none child m h = rw h refl

  module _ (es : List (Entry T)) (own : Entry T) (i : ℕ) (at : slice_get es i ≡ Some own) (runs : own.status ≡ Running) (s : ℕ) (p : T)
      (le : s ≤ own.lent) (c : ℕ) (child : Entry T) (at_c : slice_get es c ≡ Some child) (is_child : child.parent ≡ Some i) where
    pub feed_kept : IsKept es → IsKept (after_feed es own i s p c child)
    feed_kept h =
        let n : ℕ = share child (own.left - s) in
        let m : ℕ = (own.left - s) - n in
        let le2 : own.lent ≤ own.left = rw runs at ((h.each.fine i own at).holds) in
        let le3 : n ≤ own.left - s = share_less child (own.left - s) in
        let fs : List (Entry T) = changed (less_at own i s p n) es in
        let ok = less_ok es own i at runs s p n in
        let tree : IsTree fs = rest_tree es own i at runs (at_rest m) m s p ok h.tree in
        let up : Rooted es c (Some i) child.root = rw is_child at (h.tree.rooted c child at_c) in
        let same : less_at own i s p n c child ≡ child = child_stays es own i at s p n c child h.tree up in
        let at' : slice_get fs c ≡ Some child = to_changed (less_at own i s p n) es c child at_c ∙ ap Some same in
        let root : own.root ≡ child.root = ap (λ (x : Entry T). x.root) (sym (one_at es i i own up.1 at up.2 refl)) ∙ up.3 in
        let kept = fed_kept fs c child at' n (share_none child (own.left - s)) tree (rest_shut es own i at runs (at_rest m) m s p ok h.shut)
        (rest_leaning es own i at runs (at_rest m) m s p ok h.tree h.leaning) (rest_fine es own i at runs (at_rest m) m s p ok h.each) in
        record {
          tree = kept.0;
          shut = kept.1;
          leaning = kept.2;
          granted = granted_same es _ (roots_then es fs _ (rest_roots es own i at runs (at_rest m) m s p ok)
              (roots_changed fs _ (fed_frame c n)))
              (λ sel. omega (
                arith,
                fed_sum fs c child at' n (share_none child (own.left - s)) sel,
                less_sum es own i at runs s p n
                    (omega arith) sel,
                ap (λ (x : ℕ). cond (sel x) n 0) root,
              )) h.granted;
          each = kept.3;
          ended = fed_ended_all fs c child at' n (share_none child (own.left - s))
              (rest_ended es own i at runs (at_rest m) m s p ok h.ended);
        }

    -- the child is as before, once the job was given back
    pub child_there : IsKept es → slice_get (changed (less_at own i s p (share child (own.left - s))) es) c ≡ Some child
    child_there h =
        let n : ℕ = share child (own.left - s) in
        let up : Rooted es c (Some i) child.root = rw is_child at (h.tree.rooted c child at_c) in
        to_changed (less_at own i s p n) es c child at_c ∙ ap Some (child_stays es own i at s p n c child h.tree up)

    -- what it gets fits
    pub feed_fits : IsKept es → child.left + share child (own.left - s) < 2 ^ 32
    feed_fits h =
        let n : ℕ = share child (own.left - s) in
        let k = feed_kept h in
        let y : Entry T = record child { left = child.left + n; status = fed (child.left + n) child.status } in
        let a : slice_get (after_feed es own i s p c child) c ≡ Some y = to_changed (fed_at c n) (changed (less_at own i s p n) es) c child
        (child_there h) ∙ rw (eq-eqb c c refl) refl in
        omega (arith, one_le (after_feed es own i s p c child) c y a, k.granted.small y.root)

  -- A root is added
  pub root_kept : (es : List (Entry T)) (grant : ℕ) (p : T) → grant < 2 ^ 32 → IsKept es → IsKept (after_root es grant p)
  root_kept es grant p fits h =
      let x : Entry T = root_of (length es) grant p in
      record {
        tree = tree_pushed es x h.tree refl;
        shut = shut_pushed es x h.tree h.shut refl tt;
        leaning = lean_pushed es x refl h.leaning;
        granted = record {
          granted = λ i e a n. ⊎_elim
              (λ b. let ne : (length es == i) ≡ false = ne_eqb (length es) i (λ d. omega (arith, within es i e b, d)) in
              let z : worth (of_root i) (length es) x ≡ 0 = rw ne refl in
              omega (arith, tally_pushed (worth (of_root i)) es x, h.granted.granted i e b n, z))
              (λ b. let eq : (length es == i) ≡ true = eq-eqb (length es) i (sym b.0) in
              let z : worth (of_root i) (length es) x ≡ grant + 0 = rw eq refl in
              let g : e.grant ≡ grant = ap (λ (y : Entry T). y.grant) b.1 in
              let none : tally (worth (of_root i)) es ≡ 0 = tally_same (worth (of_root i)) (λ _ _. 0) es
              (λ k y c. rw (ne_eqb y.root i (λ d. omega (arith, d, root_below es h.tree k k y (omega arith) c, within es k y c, b.0))) refl)
              ∙ tally_zero 0 es in
              omega (arith, tally_pushed (worth (of_root i)) es x, z, g, none))
              (from_pushed es x i e a);
          small = λ r. ⊎_elim
              (λ d. let none : tally (worth (of_root r)) es ≡ 0 = tally_same (worth (of_root r)) (λ _ _. 0) es
              (λ k y c. rw (ne_eqb y.root r (λ z. omega (arith, z, d, root_below es h.tree k k y (omega arith) c, within es k y c))) refl)
              ∙ tally_zero 0 es in
              let z : worth (of_root r) (length es) x ≡ grant + 0 = rw (eq-eqb (length es) r d) refl in
              omega (arith, tally_pushed (worth (of_root r)) es x, none, z, fits))
              (λ d. let z : worth (of_root r) (length es) x ≡ 0 = rw (ne_eqb (length es) r d) refl in
              omega (arith, tally_pushed (worth (of_root r)) es x, z, h.granted.small r))
              (cases_eq (length es) r);
          all = omega (arith, tally_pushed (worth of_all) es x, tally_pushed grant_of es x, h.granted.all);
        };
        each = fine_pushed es x (record { holds = tt; held = refl }) h.each;
        ended = ended_pushed es x h.tree (λ n d. absurd (cc)) h.ended;
      }

  pub none_kept : (es : List (Entry T)) → es ≡ [] → IsKept es
  none_kept es is = rw is (record {
    tree = record { rooted = λ i e a. absurd (cc) };
    shut = record { above = λ i e a o. absurd (cc) };
    leaning = record { leaning = λ i e a l. absurd (cc) };
    granted = record { granted = λ i e a n. absurd (cc); small = λ r. omega arith; all = refl };
    each = record { fine = λ i e a. absurd (cc) };
    ended = record { ended = λ i e n a d. absurd (cc) };
  })
