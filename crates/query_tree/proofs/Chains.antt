-- The children of each query, as entries change and are added.
use Rattle.std.proofs.Common.{◌≡◌, ℕ, zero, suc, ◌<◌, ◌≤◌, List, [], ◌∷◌, ◌++◌, length, Bool, true, false, cond, Option, Some, None, refl, sym, ap, ◌∙◌, subst, ⊎_elim, arith}
use Rattle.std.specs.Prelude.{slice_get, ◌==◌}
use Rattle.std.proofs.lemmas.Bool.{cases_eq, false_from_ne_true}
use Rattle.std.proofs.lemmas.List.{length_push}
use Rattle.query_tree.specs.declared.Status.{Status}
use Rattle.query_tree.specs.declared.Entry.{Entry}
use Rattle.query_tree.specs.Forest.{changed_from, changed, is_place, parent_of, rest_at, fed_at, take_at}
use Rattle.query_tree.specs.Kin.{Kin, Joins, child_below, Links}
use Rattle.query_tree.proofs.Counting.{rest_moves}
use Rattle.query_tree.proofs.Lists.{from_changed, from_pushed, to_pushed, length_changed, within, present}
use Rattle.query_tree.proofs.Marks.{get_pushed}
use Rattle.query_tree.proofs.Tests.{cond_eq, place_is, is_place_at}

below_cases : (b : Bool) (n : ℕ) (o : Option ℕ) (c : ℕ) → cond b (Some n) o ≡ Some c → (P : ℕ → Type 0) → (b ≡ true → P n) →
    (b ≡ false → o ≡ Some c → P c) → P c
below_cases true n o c h P t f = let e : n ≡ c = cc in subst P e (t refl)
below_cases false n o c h P t f = f refl h

none_cases : (b : Bool) (n : ℕ) (o : Option ℕ) → cond b (Some n) o ≡ None → (b ≡ false) × (o ≡ None)
none_cases true n o h = absurd (cc)
none_cases false n o h = (refl, h)

module _ {T : Type 0} where
  -- the greatest child below n
  pub record Greatest (es : List (Entry T)) (p n c : ℕ) : Type 0 where
    pub below : c < n
    pub child : parent_of (slice_get es c) ≡ Some p
    pub others : (k : ℕ) → k < n → parent_of (slice_get es k) ≡ Some p → k ≤ c

  pub below_some : (es : List (Entry T)) (p n c : ℕ) → child_below es p n ≡ Some c → Greatest es p n c
  below_some es p zero c h = absurd (cc)
  below_some es p (suc n) c h = below_cases (is_place (parent_of (slice_get es n)) p) n (child_below es p n) c h (Greatest es p (suc n))
      (λ b. record {
        below = omega arith;
        child = place_is (parent_of (slice_get es n)) p b;
        others = λ k lt a. omega arith;
      })
      (λ b e.
      let g : Greatest es p n c = below_some es p n c e in record {
        below = omega (arith, g.below);
        child = g.child;
        others = λ k lt a. ⊎_elim
            (λ d. let t : is_place (parent_of (slice_get es n)) p ≡ true =
            is_place_at (parent_of (slice_get es n)) p (ap (λ j. parent_of (slice_get es j)) (sym d) ∙ a) in absurd (cc))
            (λ d. g.others k (omega (arith, d)) a)
            (cases_eq k n);
      })

  pub below_none : (es : List (Entry T)) (p n k : ℕ) → child_below es p n ≡ None → k < n → parent_of (slice_get es k) ≡ Some p → ⊥
  below_none es p zero k h lt a = omega arith
  below_none es p (suc n) k h lt a =
      let r = none_cases (is_place (parent_of (slice_get es n)) p) n (child_below es p n) h in
      ⊎_elim
      (λ d. let t : is_place (parent_of (slice_get es n)) p ≡ true =
      is_place_at (parent_of (slice_get es n)) p (ap (λ j. parent_of (slice_get es j)) (sym d) ∙ a) in
      let f : is_place (parent_of (slice_get es n)) p ≡ false = r.0 in absurd (cc))
      (λ d. below_none es p n k r.1 (omega (arith, d)) a)
      (cases_eq k n)

  pub below_same : (es fs : List (Entry T)) (p n : ℕ) →
      ((k : ℕ) → k < n → parent_of (slice_get fs k) ≡ parent_of (slice_get es k)) → child_below fs p n ≡ child_below es p n
  below_same es fs p zero h = refl
  below_same es fs p (suc n) h =
      let here : parent_of (slice_get fs n) ≡ parent_of (slice_get es n) = h n (omega arith) in
      let rest : child_below fs p n ≡ child_below es p n = below_same es fs p n (λ k lt. h k (omega arith)) in
      rw (here, rest) refl

  none_below : (es : List (Entry T)) (p n : ℕ) → ((k : ℕ) → k < n → parent_of (slice_get es k) ≡ Some p → ⊥) → child_below es p n ≡ None
  none_below es p zero h = refl
  none_below es p (suc n) h =
      let off : is_place (parent_of (slice_get es n)) p ≡ false = false_from_ne_true (is_place (parent_of (slice_get es n)) p)
      (λ b. h n (omega arith) (place_is (parent_of (slice_get es n)) p b)) in
      rw off (none_below es p n (λ k lt. h k (omega arith)))

  parents_from : (g : ℕ → Entry T → Entry T) → ((k : ℕ) (e : Entry T) → (g k e).parent ≡ e.parent) → (n : ℕ) (es : List (Entry T)) (k : ℕ) →
      parent_of (slice_get (changed_from n g es) k) ≡ parent_of (slice_get es k)
  parents_from g frame n [] k = refl
  parents_from g frame n (x ∷ es) zero = frame n x
  parents_from g frame n (x ∷ es) (suc k) = parents_from g frame (suc n) es k

  pub parents_changed : (es : List (Entry T)) (g : ℕ → Entry T → Entry T) → ((k : ℕ) (e : Entry T) → (g k e).parent ≡ e.parent) → (k : ℕ) →
      parent_of (slice_get (changed g es) k) ≡ parent_of (slice_get es k)
  parents_changed es g frame k = parents_from g frame 0 es k

  pub links_changed : (es : List (Entry T)) (g : ℕ → Entry T → Entry T) (r : Kin) → ((k : ℕ) (e : Entry T) → (g k e).parent ≡ e.parent) →
      Links es r → Links (changed g es) r
  links_changed es g r frame h =
      let len : length (changed g es) ≡ length es = length_changed g 0 es in
      record {
        latest_size = h.latest_size ∙ sym len;
        older_size = h.older_size ∙ sym len;
        latest = λ p o a. h.latest p o a ∙ (sym (below_same es (changed g es) p (length es) (λ j lt. parents_changed es g frame j))
            ∙ ap (child_below (changed g es) p) (sym len));
        older = λ k o e p a b n.
            let x = from_changed g es k e b in
            let up : x.0.parent ≡ Some p = sym (frame k x.0) ∙ (ap (λ (y : Entry T). y.parent) (sym x.2) ∙ n) in
            h.older k o x.0 p a x.1 up
            ∙ sym (below_same es (changed g es) p k (λ j lt. parents_changed es g frame j));
      }

  -- of the same links
  pub links_from : (es : List (Entry T)) (r s : Kin) → s.latest ≡ r.latest → s.older ≡ r.older → Links es r → Links es s
  links_from es r s a b h = record {
    latest_size = ap length a ∙ h.latest_size;
    older_size = ap length b ∙ h.older_size;
    latest = λ p o q. h.latest p o (ap (λ xs. slice_get xs p) (sym a) ∙ q);
    older = λ k o e p q. h.older k o e p (ap (λ xs. slice_get xs k) (sym b) ∙ q);
  }

  module _ (es : List (Entry T)) (x : Entry T) (r s : Kin) (j : Joins r s x.parent) (h : Links es r)
      (below : (p : ℕ) → x.parent ≡ Some p → p < length es)
      (above : (i : ℕ) (e : Entry T) (p : ℕ) → slice_get es i ≡ Some e → e.parent ≡ Some p → p < i) where
    old_parents : (k : ℕ) → k < length es → parent_of (slice_get (es ++ x ∷ []) k) ≡ parent_of (slice_get es k)
    old_parents k lt =
        let e = present es k lt in
        ap parent_of (to_pushed es x k e.0 e.1) ∙ sym (ap parent_of e.1)

    held : (o : Option (Entry T)) (p : ℕ) → parent_of o ≡ Some p → (e : Entry T) × (o ≡ Some e) × (e.parent ≡ Some p)
    held None p a = absurd (cc)
    held (Some e) p a = (e, refl, a)

    -- the new query's own children, and those of the others
    own_latest : child_below (es ++ x ∷ []) (length es) (suc (length es)) ≡ None
    own_latest = none_below (es ++ x ∷ []) (length es) (suc (length es)) (λ k lt a.
        let e = held (slice_get (es ++ x ∷ []) k) (length es) a in
        ⊎_elim (λ b. omega (arith, above k e.0 (length es) b e.2, within es k e.0 b))
        (λ b. let up : x.parent ≡ Some (length es) = ap (λ (y : Entry T). y.parent) (sym b.1) ∙ e.2 in
        omega (arith, below (length es) up))
        (from_pushed es x k e.0 e.1))

    other_latest : (p : ℕ) → child_below (es ++ x ∷ []) p (suc (length es))
        ≡ cond (is_place x.parent p) (Some (length es)) (child_below es p (length es))
    other_latest p =
        let here : parent_of (slice_get (es ++ x ∷ []) (length es)) ≡ x.parent = ap parent_of (get_pushed es x) in
        let rest : child_below (es ++ x ∷ []) p (length es) ≡ child_below es p (length es) =
        below_same es (es ++ x ∷ []) p (length es) old_parents in
        rw (here, rest) refl

    latest_of : (p : ℕ) (o : Option ℕ) (b : Bool) → cond b (o ≡ Some (length r.latest)) (slice_get r.latest p ≡ Some o) →
        o ≡ cond b (Some (length es)) (child_below es p (length es))
    latest_of p o true a = a ∙ ap Some h.latest_size
    latest_of p o false a = h.latest p o a

    joined_latest : (p : ℕ) (o : Option ℕ) → slice_get s.latest p ≡ Some o → o ≡ child_below (es ++ x ∷ []) p (suc (length es))
    joined_latest p o a = ⊎_elim
        (λ d. let e : slice_get s.latest (length r.latest) ≡ Some o = ap (slice_get s.latest) (sym d) ∙ a in
        let f : slice_get s.latest (length r.latest) ≡ Some None = j.own in
        let n : o ≡ None = cc in
        n ∙ (sym own_latest ∙ ap (λ q. child_below (es ++ x ∷ []) q (suc (length es))) (sym h.latest_size ∙ sym d)))
        (λ d. latest_of p o (is_place x.parent p)
        (j.latest p o (omega (arith, d, within s.latest p o a, j.latest_size)) a) ∙ sym (other_latest p))
        (cases_eq p (length r.latest))

    joined_older : (k : ℕ) (o : Option ℕ) (e : Entry T) (p : ℕ) → slice_get s.older k ≡ Some o →
        slice_get (es ++ x ∷ []) k ≡ Some e → e.parent ≡ Some p → o ≡ child_below (es ++ x ∷ []) p k
    joined_older k o e p a b n = ⊎_elim
        (λ c. h.older k o e p (j.older k o (omega (arith, h.older_size, within es k e c)) a) c n
        ∙ sym (below_same es (es ++ x ∷ []) p k (λ i lt. old_parents i (omega (arith, lt, within es k e c)))))
        (λ c. let up : x.parent ≡ Some p = ap (λ (y : Entry T). y.parent) (sym c.1) ∙ n in
        let same : k ≡ length r.older = c.0 ∙ sym h.older_size in
        h.latest p o (j.next p o up (ap (slice_get s.older) (sym same) ∙ a))
        ∙ (sym (below_same es (es ++ x ∷ []) p (length es) old_parents)
        ∙ ap (child_below (es ++ x ∷ []) p) (sym c.0)))
        (from_pushed es x k e b)

    pub links_pushed : Links (es ++ x ∷ []) s
    links_pushed =
        let len : length (es ++ x ∷ []) ≡ suc (length es) = omega (arith, length_push es x) in
        record {
          latest_size = omega (arith, len, j.latest_size, h.latest_size);
          older_size = omega (arith, len, j.older_size, h.older_size);
          latest = λ p o a. joined_latest p o a ∙ ap (child_below (es ++ x ∷ []) p) (sym len);
          older = joined_older;
        }

  pub links_written : (es fs : List (Entry T)) (f : Entry T → Entry T) (i : ℕ) (r : Kin) → ((e : Entry T) → (f e).parent ≡ e.parent) →
      fs ≡ changed (λ k e. cond (k == i) (f e) e) es → Links es r → Links fs r
  links_written es fs f i r same is h = rw is (links_changed es (λ k e. cond (k == i) (f e) e) r
      (λ k e. cond_eq (λ (x : Entry T). x.parent ≡ e.parent) k i (f e) e (λ _. same e) (λ _. refl)) h)

  -- The calls

  pub rest_links : (es : List (Entry T)) (own : Entry T) (i : ℕ) → slice_get es i ≡ Some own → (st : Status) (left steps : ℕ) (p : T)
      (r : Kin) →
      Links es r → Links (changed (rest_at own i st left steps p) es) r
  rest_links es own i at st left steps p r h =
      let m = rest_moves es own i at st left steps p in
      links_changed es (rest_at own i st left steps p) r m.frame h

  pub fed_links : (es : List (Entry T)) (c n : ℕ) (r : Kin) → Links es r → Links (changed (fed_at c n) es) r
  fed_links es c n r h = links_changed es (fed_at c n) r
      (λ k e. cond_eq (λ (x : Entry T). x.parent ≡ e.parent) k c _ e (λ _. refl) (λ _. refl)) h

  pub take_links : (es : List (Entry T)) (i : ℕ) (w : Bool) (r : Kin) → Links es r → Links (changed (take_at i w) es) r
  take_links es i w r h = links_changed es (take_at i w) r
      (λ k e. cond_eq (λ (x : Entry T). x.parent ≡ e.parent) k i _ e (λ _. refl) (λ _. refl)) h

  pub no_links : (es : List (Entry T)) (r : Kin) → es ≡ [] → r.latest ≡ [] → r.older ≡ [] → Links es r
  no_links es r is a b = record {
    latest_size = ap length a ∙ sym (ap length is);
    older_size = ap length b ∙ sym (ap length is);
    latest = λ p o q. let z : slice_get [] p ≡ Some o = ap (λ xs. slice_get xs p) (sym a) ∙ q in absurd (cc);
    older = λ k o e p q. let z : slice_get [] k ≡ Some o = ap (λ xs. slice_get xs k) (sym b) ∙ q in absurd (cc);
  }
