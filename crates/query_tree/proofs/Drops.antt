-- The open queries under one are dropped, each before its children.
use Rattle.std.proofs.Common.{◌≡◌, ℕ, zero, suc, ◌+◌, ◌*◌, ◌<◌, ◌≤◌, List, [], ◌∷◌, ◌++◌, length, Bool, true, false, cond, Option, Some, None, refl, sym, ap, ◌∙◌, subst, ◌⊎◌, inl, inr, ⊎_elim, arith}
use Rattle.std.specs.Prelude.{slice_get, ◌==◌, ◌||◌}
use Rattle.std.specs.List.{Contains}
use Rattle.std.proofs.lemmas.Bool.{cond_both, and_parts, both_ways, cases_Bool, cases_eq, eq-eqb, ne_eqb, false_from_ne_true}
use Rattle.std.proofs.lemmas.List.{length_push}
use Rattle.std.proofs.lemmas.List.Elements.{Contains-push, Contains-push_cases, Contains-append_left}
use Rattle.std.proofs.lemmas.Nat.{mul-add-lt}
use Rattle.std.proofs.Math.Nat.{mul_comm}
use Rattle.query_tree.specs.declared.Entry.{Entry}
use Rattle.query_tree.specs.Forest.{changed, tally, is_open, is_place, is_above, parent_of, is_under, is_lost, lost_left, dropped, dropped_at}
use Rattle.query_tree.specs.Kept.{OpenAbove, IsTree, IsShut}
use Rattle.query_tree.specs.Kin.{Kin, child_below, Links}
use Rattle.query_tree.specs.Live.{one}
use Rattle.query_tree.proofs.Chains.{Greatest, below_some, below_none, below_same, parents_changed}
use Rattle.query_tree.proofs.Close.{rooted_parent, under_step, under_parent}
use Rattle.query_tree.proofs.Counting.{tally_swap, tally_has, tally_most}
use Rattle.query_tree.proofs.Keeps.{SameFrame, tree_changed}
use Rattle.query_tree.proofs.Lists.{to_changed, from_changed, changed_same, changed_changed, unchanged, length_changed, present, within, tally_same, tally_zero}
use Rattle.query_tree.proofs.Tests.{cond_eq, one_at}

-- where a walk is along the children of one query
abbrev pub place_of : Option ℕ → ℕ
place_of None = 0
place_of (Some c) = suc c

no_work : (p : ℕ) → Contains [] p → ⊥
no_work p h = omega (arith, h.1)

above_same : (f g : ℕ → Bool) (i : ℕ) (o : Option ℕ) → ((p : ℕ) → f p ≡ g p) → is_above f i o ≡ is_above g i o
above_same f g i None h = refl
above_same f g i (Some p) h = ap (λ b. (p == i) || b) (h p)

rank_lower : (m n k p q : ℕ) → m + 1 ≤ k → p < n → m * n + p < k * n + q
rank_lower m n k p q le lt = omega (arith, mul-add-lt m n p k (omega arith) lt, mul_comm n k)

module _ {T : Type 0} where
  abbrev pub opened : ℕ → Entry T → ℕ
  opened k e = one (is_open e.status)

  -- what falls as a walk goes on
  abbrev pub to_walk : List (Entry T) → List ℕ → Option ℕ → ℕ
  to_walk es work at = (2 * tally opened es + length work) * suc (length es) + place_of at

  -- the query that closes, or one under it
  pub record Goes (es : List (Entry T)) (id p : ℕ) : Type 0 where
    pub here : p < length es
    pub up : (p ≡ id) ⊎ (is_under es p id p ≡ true)

  -- the query that closes, or one that is not open
  abbrev pub Cut : List (Entry T) → ℕ → ℕ → Type 0
  Cut es id p = (p ≡ id) ⊎ ((q : Entry T) → slice_get es p ≡ Some q → is_open q.status ≡ false)

  -- A walk, from the entries at first to those now: what is open under what closes or is not open is still to come
  pub record Walk (es fs : List (Entry T)) (id stamp left : ℕ) (work : List ℕ) (at : Option ℕ) : Type 0 where
    pub tree : IsTree fs
    pub size : length fs ≡ length es
    pub becomes : changed (dropped_at fs id stamp) fs ≡ changed (dropped_at es id stamp) es
    pub sum : left + tally (lost_left fs id) fs ≡ tally (lost_left es id) es
    pub few : length work + tally opened fs ≤ length fs
    pub current : ℕ
    pub bound : ℕ
    pub inside : bound ≤ length fs
    pub place : at ≡ child_below fs current bound
    pub goes : Goes fs id current
    pub goes_all : (p : ℕ) → Contains work p → Goes fs id p
    pub ahead : (k : ℕ) (e : Entry T) (p : ℕ) → slice_get fs k ≡ Some e → is_open e.status ≡ true → e.parent ≡ Some p → Cut fs id p →
        Contains work p ⊎ ((p ≡ current) × (k < bound))

  -- the parent of what stands in a place
  parent_at : (es : List (Entry T)) (k : ℕ) (e : Entry T) (p : ℕ) → slice_get es k ≡ Some e → e.parent ≡ Some p →
      parent_of (slice_get es k) ≡ Some p
  parent_at es k e p a n = ap parent_of a ∙ n

  pub walk_start : (es : List (Entry T)) (id stamp : ℕ) (at : Option ℕ) → IsTree es → IsShut es → id < length es →
      at ≡ child_below es id (length es) → Walk es es id stamp 0 [] at
  walk_start es id stamp at t s lt place = record {
    tree = t;
    size = refl;
    becomes = refl;
    sum = omega arith;
    few = omega (arith, tally_most (λ j (e : Entry T). is_open e.status) es);
    current = id;
    bound = length es;
    inside = omega arith;
    place = place;
    goes = record { here = lt; up = inl refl };
    goes_all = λ p w. absurd (no_work p w);
    ahead = λ k e p a o n cut. ⊎_elim
        (λ d. inr (d, within es k e a))
        (λ off.
        let r = rooted_parent es t k e p a n in
        let above : OpenAbove es (Some p) = subst (OpenAbove es) n (s.above k e a o) in
        absurd (both_ways (is_open r.1.status) (off r.1 r.2) (above r.1 r.2)))
        cut;
  }

  module _ (es fs : List (Entry T)) (id stamp left : ℕ) (work : List ℕ) where
    -- to the children of the next query
    pub walk_pop : (p : ℕ) (at : Option ℕ) → Walk es fs id stamp left (work ++ p ∷ []) None → at ≡ child_below fs p (length fs) →
        Walk es fs id stamp left work at
    walk_pop p at w place = record {
      tree = w.tree;
      size = w.size;
      becomes = w.becomes;
      sum = w.sum;
      few = omega (arith, w.few, length_push work p);
      current = p;
      bound = length fs;
      inside = omega arith;
      place = place;
      goes = w.goes_all p (Contains-push work p);
      goes_all = λ q c. w.goes_all q (Contains-append_left work (p ∷ []) q c);
      ahead = λ k e q a o n cut. ⊎_elim
          (λ c. ⊎_elim (λ d. inl d) (λ d. inr (sym d, within fs k e a)) (Contains-push_cases work p q c))
          (λ c. absurd (below_none fs w.current w.bound k (sym w.place) c.1 (parent_at fs k e q a n ∙ ap Some c.0)))
          (w.ahead k e q a o n cut);
    }

    -- past a child that is not open
    pub walk_skip : (c : ℕ) (x : Entry T) (at : Option ℕ) → (w : Walk es fs id stamp left work (Some c)) → slice_get fs c ≡ Some x →
        is_open x.status ≡ false → at ≡ child_below fs w.current c → Walk es fs id stamp left work at
    walk_skip c x at w here off place =
        let g : Greatest fs w.current w.bound c = below_some fs w.current w.bound c (sym w.place) in
        record {
          tree = w.tree;
          size = w.size;
          becomes = w.becomes;
          sum = w.sum;
          few = w.few;
          current = w.current;
          bound = c;
          inside = omega (arith, within fs c x here);
          place = place;
          goes = w.goes;
          goes_all = w.goes_all;
          ahead = λ k e q a o n cut. ⊎_elim
              (λ d. inl d)
              (λ d. inr (
                d.0,
                ⊎_elim
                    (λ s. absurd (both_ways (is_open e.status) (ap (λ (y : Entry T). is_open y.status) (one_at fs c k x e here a s) ∙ off)
                    o))
                    (λ s. omega (arith, s, g.others k d.1 (parent_at fs k e q a n ∙ ap Some d.0)))
                    (cases_eq k c),
              ))
              (w.ahead k e q a o n cut);
        }

  -- What a drop leaves as it was

  under_same : (es fs : List (Entry T)) → ((k : ℕ) → parent_of (slice_get fs k) ≡ parent_of (slice_get es k)) → (n i k : ℕ) →
      is_under fs n i k ≡ is_under es n i k
  under_same es fs h zero i k = refl
  under_same es fs h (suc n) i k =
      ap (is_above (is_under fs n i) i) (h k) ∙ above_same (is_under fs n i) (is_under es n i) i (parent_of (slice_get es k))
      (λ p. under_same es fs h n i p)

  module _ (fs : List (Entry T)) (id stamp c : ℕ) (x : Entry T) (here : slice_get fs c ≡ Some x) (on : is_open x.status ≡ true)
      (under : is_under fs c id c ≡ true) where
    abbrev pub drops : ℕ → Entry T → Entry T
    drops k e = cond (k == c) (dropped stamp e) e

    abbrev pub gs : List (Entry T)
    gs = changed drops fs

    pub drop_parent : (k : ℕ) (e : Entry T) → (drops k e).parent ≡ e.parent
    drop_parent k e = cond_eq (λ (y : Entry T). y.parent ≡ e.parent) k c (dropped stamp e) e (λ _. refl) (λ _. refl)

    drop_frame : (k : ℕ) (e : Entry T) → SameFrame e (drops k e)
    drop_frame k e = cond_eq (SameFrame e) k c (dropped stamp e) e (λ _. record { parent = refl; root = refl; grant = refl })
        (λ _. record { parent = refl; root = refl; grant = refl })

    parents : (k : ℕ) → parent_of (slice_get gs k) ≡ parent_of (slice_get fs k)
    parents = parents_changed fs drops drop_parent

    still_under : (k : ℕ) → is_under gs k id k ≡ is_under fs k id k
    still_under k = under_same fs gs parents k id k

    still_lost : (k : ℕ) (e : Entry T) → is_lost gs id k e ≡ is_lost fs id k e
    still_lost k e = rw (still_under k) refl

    own_lost : is_lost fs id c x ≡ true
    own_lost = rw (on, under) refl

    tree_drop : IsTree fs → IsTree gs
    tree_drop t = tree_changed fs drops drop_frame t

    drop_becomes : changed (dropped_at gs id stamp) gs ≡ changed (dropped_at fs id stamp) fs
    drop_becomes = changed_changed drops (dropped_at gs id stamp) 0 fs ∙ changed_same _ _ fs (λ k e a.
        cond_eq (λ (y : Entry T). dropped_at gs id stamp k y ≡ dropped_at fs id stamp k e) k c (dropped stamp e) e
        (λ d. rw (one_at fs c k x e here a d, d, own_lost) refl)
        (λ d. rw (still_lost k e) refl))

    drop_sum : x.left + tally (lost_left gs id) gs ≡ tally (lost_left fs id) fs
    drop_sum =
        let same : tally (lost_left gs id) gs ≡ tally (lost_left fs id) gs =
        tally_same _ _ gs (λ k e a. rw (still_lost k e) refl) in
        let was : lost_left fs id c x ≡ x.left = rw own_lost refl in
        let now : lost_left fs id c (drops c x) ≡ 0 = rw (eq-eqb c c refl) refl in
        omega (
          arith,
          same,
          was,
          now,
          tally_swap (lost_left fs id) drops c fs x here (λ j y a d. rw (ne_eqb j c d) refl),
        )

    drop_opened : tally opened gs + 1 ≡ tally opened fs
    drop_opened =
        let was : opened c x ≡ 1 = rw on refl in
        let now : opened c (drops c x) ≡ 0 = rw (eq-eqb c c refl) refl in
        omega (arith, was, now, tally_swap opened drops c fs x here (λ j y a d. rw (ne_eqb j c d) refl))

    goes_still : (p : ℕ) → Goes fs id p → Goes gs id p
    goes_still p h = record {
      here = omega (arith, h.here, length_changed drops 0 fs);
      up = ⊎_elim (λ d. inl d) (λ u. inr (still_under p ∙ u)) h.up;
    }

    -- what is still open was, in another place
    was_open : (k : ℕ) (e : Entry T) → slice_get gs k ≡ Some e → is_open e.status ≡ true → (k ≡ c → ⊥) × (slice_get fs k ≡ Some e)
    was_open k e a o =
        let r = from_changed drops fs k e a in
        ⊎_elim
        (λ d. let off : is_open (drops k r.0).status ≡ false = rw (eq-eqb k c d) refl in
        absurd (both_ways (is_open e.status) (ap (λ (y : Entry T). is_open y.status) r.2 ∙ off) o))
        (λ d. let same : drops k r.0 ≡ r.0 = rw (ne_eqb k c d) refl in (d, r.1 ∙ ap Some (sym (r.2 ∙ same))))
        (cases_eq k c)

    was_cut : (p : ℕ) → (p ≡ c → ⊥) → Cut gs id p → Cut fs id p
    was_cut p d h = ⊎_elim (λ s. inl s)
        (λ off. inr (λ q a. off q (to_changed drops fs p q a ∙ ap Some (rw (ne_eqb p c d) refl))))
        h

  -- a child is dropped, and is to be gone to
  pub walk_drop : (es fs : List (Entry T)) (id stamp left : ℕ) (work : List ℕ) (c : ℕ) (x : Entry T) (at : Option ℕ) →
      (w : Walk es fs id stamp left work (Some c)) → slice_get fs c ≡ Some x → is_open x.status ≡ true → at ≡ child_below fs w.current c →
      (under : is_under fs c id c ≡ true) →
      Walk es (changed (λ k e. cond (k == c) (dropped stamp e) e) fs) id stamp (left + x.left) (work ++ c ∷ []) at
  walk_drop es fs id stamp left work c x at w here on place under =
      let g : Greatest fs w.current w.bound c = below_some fs w.current w.bound c (sym w.place) in
      let len : length (gs fs id stamp c x here on under) ≡ length fs = length_changed (drops fs id stamp c x here on under) 0 fs in
      let own : Goes fs id c = record { here = within fs c x here; up = inr under } in
      record {
        tree = tree_drop fs id stamp c x here on under w.tree;
        size = len ∙ w.size;
        becomes = drop_becomes fs id stamp c x here on under ∙ w.becomes;
        sum = omega (arith, w.sum, drop_sum fs id stamp c x here on under);
        few = omega (arith, w.few, len, length_push work c, drop_opened fs id stamp c x here on under);
        current = w.current;
        bound = c;
        inside = omega (arith, len, within fs c x here);
        place = place ∙ sym (below_same fs (gs fs id stamp c x here on under) w.current c
            (λ k lt. parents fs id stamp c x here on under k));
        goes = goes_still fs id stamp c x here on under w.current w.goes;
        goes_all = λ p h. goes_still fs id stamp c x here on under p (⊎_elim (λ b. w.goes_all p b)
            (λ d. subst (Goes fs id) d own) (Contains-push_cases work c p h));
        ahead = λ k e p a o n cut.
            let b = was_open fs id stamp c x here on under k e a o in
            ⊎_elim
            (λ d. inl (subst (Contains (work ++ c ∷ [])) (sym d) (Contains-push work c)))
            (λ d. ⊎_elim
            (λ m. inl (Contains-append_left work (c ∷ []) p m))
            (λ m. inr (m.0, omega (arith, b.0, g.others k m.1 (parent_at fs k e p b.1 n ∙ ap Some m.0))))
            (w.ahead k e p b.1 o n (was_cut fs id stamp c x here on under p d cut)))
            (cases_eq p c);
      }

  module _ (es fs : List (Entry T)) (id stamp left : ℕ) (work : List ℕ) (c : ℕ) (w : Walk es fs id stamp left work (Some c)) where
    pub here_is : (x : Entry T) × (slice_get fs c ≡ Some x) × (x.parent ≡ Some w.current)
    here_is =
        let g : Greatest fs w.current w.bound c = below_some fs w.current w.bound c (sym w.place) in
        let p = present fs c (omega (arith, g.below, w.inside)) in
        (p.0, p.1, sym (ap parent_of p.1) ∙ g.child)

    pub under_is : is_under fs c id c ≡ true
    under_is =
        let r = rooted_parent fs w.tree c here_is.0 w.current here_is.1 here_is.2 in
        under_step fs id c here_is.0 w.current here_is.1 here_is.2 r.0 w.goes.up

    pub next_is : (r : Kin) (o : Option ℕ) → Links fs r → slice_get r.older c ≡ Some o → o ≡ child_below fs w.current c
    next_is r o h a = h.older c o here_is.0 w.current a here_is.1 here_is.2

    -- what the code finds of the child
    pub child_found : (b v : Bool) → ((e : Entry T) → slice_get fs c ≡ Some e → b ≡ is_open e.status) → b ≡ v →
        is_open here_is.0.status ≡ v
    child_found b v says is = sym (says here_is.0 here_is.1) ∙ is

    lost_is : (x : Entry T) → slice_get fs c ≡ Some x → is_open x.status ≡ true → x.left ≤ tally (lost_left fs id) fs
    lost_is x a o =
        let lost : lost_left fs id c x ≡ x.left = rw (o, under_is) refl in
        omega (arith, lost, tally_has (lost_left fs id) c fs x a)

    pub left_fits : (x : Entry T) → slice_get fs c ≡ Some x → is_open x.status ≡ true → left + x.left ≤ tally (lost_left es id) es
    left_fits x a o = omega (arith, lost_is x a o, w.sum)

    pub work_fits : (x : Entry T) → slice_get fs c ≡ Some x → is_open x.status ≡ true → length work < length es
    work_fits x a o =
        let one' : opened c x ≡ 1 = rw o refl in
        omega (arith, one', tally_has opened c fs x a, w.few, w.size)

  -- The end

  module _ (es fs : List (Entry T)) (id stamp left : ℕ) (w : Walk es fs id stamp left [] None) where
    not_cut : (k : ℕ) (e : Entry T) (p : ℕ) → slice_get fs k ≡ Some e → is_open e.status ≡ true → e.parent ≡ Some p → Cut fs id p → ⊥
    not_cut k e p a o n cut = ⊎_elim
        (λ m. no_work p m)
        (λ m. below_none fs w.current w.bound k (sym w.place) m.1 (parent_at fs k e p a n ∙ ap Some m.0))
        (w.ahead k e p a o n cut)

    has_parent : (k : ℕ) (e : Entry T) → slice_get fs k ≡ Some e → is_under fs k id k ≡ true → (o : Option ℕ) → e.parent ≡ o →
        (p : ℕ) × (e.parent ≡ Some p)
    has_parent zero e a u o n = absurd (cc)
    has_parent (suc k) e a u None n =
        let z : false ≡ true = subst (λ q. is_above (is_under fs k id) id q ≡ true) (ap parent_of a ∙ n) u in absurd (cc)
    has_parent (suc k) e a u (Some p) n = (p, n)

    -- by the number of places that may stand above
    none_open : (m k : ℕ) (e : Entry T) → k < m → slice_get fs k ≡ Some e → is_open e.status ≡ true → is_under fs k id k ≡ true → ⊥
    none_open zero k e lt a o u = omega arith
    none_open (suc m) k e lt a o u =
        let n = has_parent k e a u e.parent refl in
        let r = rooted_parent fs w.tree k e n.0 a n.1 in
        ⊎_elim
        (λ d. not_cut k e n.0 a o n.1 (inl d))
        (λ v. ⊎_elim
        (λ on. none_open m n.0 r.1 (omega (arith, r.0)) r.2 on v)
        (λ off. not_cut k e n.0 a o n.1 (inr (λ q b. ap (λ (y : Entry T). is_open y.status) (one_at fs n.0 n.0 r.1 q r.2 b refl) ∙ off)))
        (cases_Bool (is_open r.1.status)))
        (under_parent fs w.tree id k e n.0 a n.1 u)

    none_lost : (k : ℕ) (e : Entry T) → slice_get fs k ≡ Some e → is_lost fs id k e ≡ false
    none_lost k e a = false_from_ne_true (is_lost fs id k e) (λ l.
        let b = and_parts (is_open e.status) (is_under fs k id k) l in
        none_open (suc k) k e (omega arith) a b.0 b.1)

    pub walk_done : fs ≡ changed (dropped_at es id stamp) es
    walk_done = sym (unchanged (dropped_at fs id stamp) fs (λ k e a. rw (none_lost k e a) refl)) ∙ w.becomes

    pub walk_left : left ≡ tally (lost_left es id) es
    walk_left =
        let none : tally (lost_left fs id) fs ≡ 0 = tally_same (lost_left fs id) (λ _ _. 0) fs (λ k e a. rw (none_lost k e a) refl)
        ∙ tally_zero 0 fs in
        omega (arith, none, w.sum)

  -- That it ends

  place_le : (es : List (Entry T)) (p n : ℕ) → place_of (child_below es p n) ≤ n
  place_le es p zero = omega arith
  place_le es p (suc n) = cond_both (is_place (parent_of (slice_get es n)) p) (Some n) (child_below es p n)
      (λ (o : Option ℕ). place_of o ≤ suc n) (λ _. omega arith) (λ _. omega (arith, place_le es p n))

  pub falls_pop : (fs : List (Entry T)) (work was : List ℕ) (p n : ℕ) (at before : Option ℕ) → was ≡ work ++ p ∷ [] → before ≡ None →
      n ≤ length fs → at ≡ child_below fs p n → to_walk fs work at < to_walk fs was before
  falls_pop fs work was p n at before e1 e2 le is = rw (e1, e2)
      (rank_lower (2 * tally opened fs + length work) (suc (length fs)) (2 * tally opened fs + length (work ++ p ∷ [])) (place_of at) 0
      (omega (arith, length_push work p)) (omega (arith, ap place_of is, place_le fs p n)))

  pub falls_skip : (fs : List (Entry T)) (work : List ℕ) (p c : ℕ) (at : Option ℕ) → at ≡ child_below fs p c →
      to_walk fs work at < to_walk fs work (Some c)
  falls_skip fs work p c at is = omega (arith, ap place_of is, place_le fs p c)

  pub falls_drop : (fs : List (Entry T)) (id stamp c : ℕ) (x : Entry T) (here : slice_get fs c ≡ Some x) (on : is_open x.status ≡ true)
      (under : is_under fs c id c ≡ true) (work : List ℕ) (p : ℕ) (at : Option ℕ) → at ≡ child_below fs p c →
      to_walk (changed (λ k e. cond (k == c) (dropped stamp e) e) fs) (work ++ c ∷ []) at < to_walk fs work (Some c)
  falls_drop fs id stamp c x here on under work p at is =
      let len : length (gs fs id stamp c x here on under) ≡ length fs = length_changed (drops fs id stamp c x here on under) 0 fs in
      subst (λ n. (2 * tally opened (gs fs id stamp c x here on under) + length (work ++ c ∷ [])) * suc n + place_of at
      < to_walk fs work (Some c)) (sym len) (rank_lower (2 * tally opened (gs fs id stamp c x here on under) + length (work ++ c ∷ []))
      (suc (length fs))
      (2 * tally opened fs + length work) (place_of at) (suc c)
      (omega (arith, length_push work c, drop_opened fs id stamp c x here on under))
      (omega (arith, ap place_of is, place_le fs p c, within fs c x here)))

  -- The code

  pub walk_seen : (es fs gs : List (Entry T)) (id stamp l m : ℕ) (v u : List ℕ) (a b : Option ℕ) → fs ≡ gs → l ≡ m → v ≡ u → a ≡ b →
      Walk es gs id stamp m u b → Walk es fs id stamp l v a
  walk_seen es fs gs id stamp l m v u a b e1 e2 e3 e4 h = rw (e1, e2, e3, e4) h

  pub falls_seen : (fs gs : List (Entry T)) (v u : List ℕ) (a b at : Option ℕ) (hs : List (Entry T)) (ps : List ℕ) → fs ≡ gs → v ≡ u →
      a ≡ b → to_walk gs u at < to_walk hs ps b → to_walk fs v at < to_walk hs ps a
  falls_seen fs gs v u a b at hs ps e1 e2 e3 h = rw (e1, e2, e3) h

  pub pop_here : (es fs : List (Entry T)) (id stamp left : ℕ) (work : List ℕ) (p : ℕ) → Walk es fs id stamp left (work ++ p ∷ []) None →
      p < length fs
  pop_here es fs id stamp left work p w = let g = w.goes_all p (Contains-push work p) in g.here

  pub child_here : (es fs : List (Entry T)) (id stamp left : ℕ) (work : List ℕ) (at : Option ℕ) (c : ℕ) →
      Walk es fs id stamp left work at → at ≡ Some c → c < length fs
  child_here es fs id stamp left work at c w is =
      let v : Walk es fs id stamp left work (Some c) = walk_seen es fs fs id stamp left left work work (Some c) at refl refl refl (sym is) w
      in
      let x = here_is es fs id stamp left work c v in
      within fs c x.0 x.1
