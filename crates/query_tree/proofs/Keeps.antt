-- What a change of each entry, and a new entry, keep.
use Rattle.std.proofs.Common.{◌≡◌, ℕ, zero, suc, ◌≤◌, List, [], ◌∷◌, ◌++◌, length, Bool, true, false, Option, Some, None, refl, sym, ap, ◌∙◌, subst, ⊎_elim, arith}
use Rattle.std.specs.Prelude.{slice_get}
use Rattle.std.proofs.lemmas.Bool.{both_ways}
use Rattle.query_tree.specs.declared.Entry.{Entry}
use Rattle.query_tree.specs.Forest.{changed, tally, is_open, is_live}
use Rattle.query_tree.specs.Kept.{leans, worth, grant_of, of_root, of_all, IsFine, Rooted, OpenAbove, LiveChild, IsTree, IsShut, IsLeaning, IsGranted, AreFine}
use Rattle.query_tree.proofs.Lists.{from_changed, to_changed, from_pushed, to_pushed, within, tally_changed, tally_same, tally_pushed}

module _ {T : Type 0} where
  pub record SameFrame (e f : Entry T) : Type 0 where
    pub parent : f.parent ≡ e.parent
    pub root : f.root ≡ e.root
    pub grant : f.grant ≡ e.grant

  -- each root was one, with the same grant
  pub record Roots (es fs : List (Entry T)) : Type 0 where
    pub from : (i : ℕ) (e : Entry T) → slice_get fs i ≡ Some e → e.parent ≡ None → (o : Entry T) × (slice_get es i ≡ Some o)
        × (o.parent ≡ None) × (e.grant ≡ o.grant)
    pub sum : tally grant_of fs ≡ tally grant_of es

  module _ (es : List (Entry T)) (f : ℕ → Entry T → Entry T) (frame : (k : ℕ) (e : Entry T) → SameFrame e (f k e)) where
    rooted_changed : (i : ℕ) (o : Option ℕ) (root : ℕ) → Rooted es i o root → Rooted (changed f es) i o root
    rooted_changed i None root h = h
    rooted_changed i (Some p) root h = (h.0, f p h.1, to_changed f es p h.1 h.2, (frame p h.1).root ∙ h.3)

    rooted_at : (i : ℕ) (x : Entry T) → Rooted es i x.parent x.root → Rooted (changed f es) i (f i x).parent (f i x).root
    rooted_at i x h = rw ((frame i x).parent, (frame i x).root) (rooted_changed i x.parent x.root h)

    pub tree_changed : IsTree es → IsTree (changed f es)
    tree_changed t = record {
      rooted = λ i e a.
          let r = from_changed f es i e a in
          subst (λ (y : Entry T). Rooted (changed f es) i y.parent y.root) (sym r.2) (rooted_at i r.0 (t.rooted i r.0 r.1));
    }

    open_changed : ((k : ℕ) (e : Entry T) → slice_get es k ≡ Some e → is_open e.status ≡ true → is_open (f k e).status ≡ true) →
        (o : Option ℕ) → OpenAbove es o → OpenAbove (changed f es) o
    open_changed opens None h = h
    open_changed opens (Some p) h = λ q a.
        let r = from_changed f es p q a in
        subst (λ (y : Entry T). is_open y.status ≡ true) (sym r.2) (opens p r.0 r.1 (h r.0 r.1))

    above_at : (k : ℕ) (x : Entry T) → OpenAbove (changed f es) x.parent → OpenAbove (changed f es) (f k x).parent
    above_at k x h = rw (frame k x).parent h

    pub shut_changed : ((k : ℕ) (e : Entry T) → slice_get es k ≡ Some e → is_open (f k e).status ≡ is_open e.status) → IsShut es →
        IsShut (changed f es)
    shut_changed opens s = record {
      above = λ i e a o.
          let r = from_changed f es i e a in
          let was : is_open r.0.status ≡ true = sym (opens i r.0 r.1) ∙ (ap (λ (x : Entry T). is_open x.status) (sym r.2) ∙ o) in
          subst (λ (y : Entry T). OpenAbove (changed f es) y.parent) (sym r.2)
          (above_at i r.0 (open_changed (λ k x b w. opens k x b ∙ w) r.0.parent (s.above i r.0 r.1 was)));
    }

    pub lean_changed : ((k : ℕ) (e : Entry T) → slice_get es k ≡ Some e → leans (f k e).status (f k e).waiting (f k e).stirred ≡ true →
        LiveChild es k)
        → ((c p : ℕ) (e q : Entry T) → slice_get es c ≡ Some e → slice_get es p ≡ Some q → e.parent ≡ Some p → is_live e.status ≡ true →
        leans (f p q).status (f p q).waiting (f p q).stirred ≡ true → is_live (f c e).status ≡ true)
        → IsLeaning (changed f es)
    lean_changed each live = record {
      leaning = λ i e a l.
          let r = from_changed f es i e a in
          let was : leans (f i r.0).status (f i r.0).waiting (f i r.0).stirred
          ≡ true = ap (λ (x : Entry T). leans x.status x.waiting x.stirred)
          (sym r.2) ∙ l in
          let c = each i r.0 r.1 was in
          record {
            place = c.place;
            child = f c.place c.child;
            at = to_changed f es c.place c.child c.at;
            parent = (frame c.place c.child).parent ∙ c.parent;
            live = live c.place i c.child r.0 c.at r.1 c.parent c.live was;
          };
    }

    pub fine_changed : ((k : ℕ) (e : Entry T) → slice_get es k ≡ Some e → IsFine e → IsFine (f k e)) → AreFine es → AreFine (changed f es)
    fine_changed each s = record {
      fine = λ i e a.
          let r = from_changed f es i e a in
          subst IsFine (sym r.2) (each i r.0 r.1 (s.fine i r.0 r.1));
    }

    pub roots_changed : Roots es (changed f es)
    roots_changed = record {
      from = λ i e a n.
          let r = from_changed f es i e a in
          let p : r.0.parent ≡ None = sym (frame i r.0).parent ∙ (ap (λ (x : Entry T). x.parent) (sym r.2) ∙ n) in
          let g : e.grant ≡ r.0.grant = ap (λ (x : Entry T). x.grant) r.2 ∙ (frame i r.0).grant in
          (r.0, r.1, p, g);
      sum = tally_changed grant_of f 0 es ∙ tally_same (λ k e. grant_of k (f k e)) grant_of es (λ k e a. (frame k e).grant);
    }

  pub roots_pushed : (es : List (Entry T)) (x : Entry T) (p : ℕ) → x.parent ≡ Some p → x.grant ≡ 0 → Roots es (es ++ x ∷ [])
  roots_pushed es x p h z = record {
    from = λ i e a n. ⊎_elim
        (λ b. (e, b, n, refl))
        (λ b. let d : Some p ≡ None = sym h ∙ (ap (λ (y : Entry T). y.parent) (sym b.1) ∙ n) in absurd (cc))
        (from_pushed es x i e a);
    sum = omega (arith, tally_pushed grant_of es x, z);
  }

  pub roots_then : (es fs gs : List (Entry T)) → Roots es fs → Roots fs gs → Roots es gs
  roots_then es fs gs r s = record {
    from = λ i e a n.
        let m = s.from i e a n in
        let o = r.from i m.0 m.1 m.2 in
        (o.0, o.1, o.2, m.3 ∙ o.3);
    sum = s.sum ∙ r.sum;
  }

  pub granted_same : (es fs : List (Entry T)) → Roots es fs → ((sel : ℕ → Bool) → tally (worth sel) fs ≡ tally (worth sel) es) →
      IsGranted es → IsGranted fs
  granted_same es fs r sums s = record {
    granted = λ i e a n.
        let o = r.from i e a n in
        sums (of_root i) ∙ (s.granted i o.0 o.1 o.2 ∙ sym o.3);
    small = λ r. omega (arith, sums (of_root r), s.small r);
    all = sums of_all ∙ (s.all ∙ sym r.sum);
  }

  -- no root stands above its tree's entries
  pub root_below : (es : List (Entry T)) → IsTree es → (n i : ℕ) (e : Entry T) → i ≤ n → slice_get es i ≡ Some e → e.root ≤ i
  root_below es t n i e le a = rooted_below es t n i e.parent e.root le (t.rooted i e a)
    where
      rooted_below : (es : List (Entry T)) → IsTree es → (n i : ℕ) (o : Option ℕ) (root : ℕ) → i ≤ n → Rooted es i o root → root ≤ i
      rooted_below es t n i None root le h = omega (arith, h)
      rooted_below es t zero i (Some p) root le h = absurd (omega (arith, h.0))
      rooted_below es t (suc n) i (Some p) root le h =
          let up : h.1.root ≤ p = rooted_below es t n p h.1.parent h.1.root (omega (arith, h.0)) (t.rooted p h.1 h.2) in
          omega (arith, up, h.0, h.3)

  module _ (es : List (Entry T)) (x : Entry T) where
    rooted_pushed : (i : ℕ) (o : Option ℕ) (root : ℕ) → Rooted es i o root → Rooted (es ++ x ∷ []) i o root
    rooted_pushed i None root h = h
    rooted_pushed i (Some p) root h = (h.0, h.1, to_pushed es x p h.1 h.2, h.3)

    pub tree_pushed : IsTree es → Rooted es (length es) x.parent x.root → IsTree (es ++ x ∷ [])
    tree_pushed t n = record {
      rooted = λ i e a. ⊎_elim
          (λ b. rooted_pushed i e.parent e.root (t.rooted i e b))
          (λ b. subst (λ (y : Entry T). Rooted (es ++ x ∷ []) i y.parent y.root) (sym b.1)
          (subst (λ j. Rooted (es ++ x ∷ []) j x.parent x.root) (sym b.0) (rooted_pushed (length es) x.parent x.root n)))
          (from_pushed es x i e a);
    }

    open_pushed : (i : ℕ) (o : Option ℕ) (root : ℕ) → Rooted es i o root → OpenAbove es o → OpenAbove (es ++ x ∷ []) o
    open_pushed i None root r h = h
    open_pushed i (Some p) root r h = λ q a. ⊎_elim
        (λ b. h q b)
        (λ b. absurd (omega (arith, b.0, within es p r.1 r.2)))
        (from_pushed es x p q a)

    pub shut_pushed : IsTree es → IsShut es → Rooted es (length es) x.parent x.root → OpenAbove es x.parent → IsShut (es ++ x ∷ [])
    shut_pushed t s n o = record {
      above = λ i e a w. ⊎_elim
          (λ b. open_pushed i e.parent e.root (t.rooted i e b) (s.above i e b w))
          (λ b. subst (λ (y : Entry T). OpenAbove (es ++ x ∷ []) y.parent) (sym b.1) (open_pushed (length es) x.parent x.root n o))
          (from_pushed es x i e a);
    }

    pub lean_pushed : leans x.status x.waiting x.stirred ≡ false → IsLeaning es → IsLeaning (es ++ x ∷ [])
    lean_pushed no' s = record {
      leaning = λ i e a l. ⊎_elim
          (λ b. let c = s.leaning i e b l in record {
            place = c.place;
            child = c.child;
            at = to_pushed es x c.place c.child c.at;
            parent = c.parent;
            live = c.live;
          })
          (λ b. absurd (both_ways (leans x.status x.waiting x.stirred) no' (ap (λ (y : Entry T). leans y.status y.waiting y.stirred)
          (sym b.1)
          ∙ l)))
          (from_pushed es x i e a);
    }

    pub fine_pushed : IsFine x → AreFine es → AreFine (es ++ x ∷ [])
    fine_pushed h s = record {
      fine = λ i e a. ⊎_elim (λ b. s.fine i e b) (λ b. subst IsFine (sym b.1) h) (from_pushed es x i e a);
    }
