-- What is above a query stays, where nodes keep their places, and where one is added.
use Rattle.std.proofs.Common.{◌≡◌, ℕ, zero, suc, ◌<◌, List, [], ◌∷◌, ◌++◌, length, Bool, Option, Some, None, refl, sym, ap, ◌∙◌, subst, ⊎_elim}
use Rattle.std.specs.Prelude.{slice_get, ◌&&◌}
use Rattle.std.proofs.lemmas.Bool.{cond_both}
use Rattle.query_tree.specs.Forest.{changed}
use Rattle.query_tree.proofs.Lists.{from_changed, to_changed, from_pushed, to_pushed}
use Rattle.query_tree.proofs.Tests.{cond_eq}
use Rattle.summary_form.specs.declared.query.Query.{Query}
use Rattle.bolt_core.specs.declared.slot.ClosedAs.{ClosedAs}
use Rattle.bolt_core.specs.Groups.{Node, line_above, line_at, line_upto, ancestors, is_member, leads, closed_at}
use Rattle.bolt_core.specs.Keeps.{AreLevelled, Placed}

pub record SameNode (n m : Node) : Type 0 where
  pub parent : m.parent ≡ n.parent
  pub level : m.level ≡ n.level
  pub query : m.query ≡ n.query

module _ (ns : List Node) (f : ℕ → Node → Node) (same : (k : ℕ) (n : Node) → SameNode n (f k n)) where
  placed_changed : (i : ℕ) (o : Option ℕ) (level : ℕ) → Placed ns i o level → Placed (changed f ns) i o level
  placed_changed i None level h = h
  placed_changed i (Some p) level h = (h.0, f p h.1, to_changed f ns p h.1 h.2, h.3 ∙ ap suc (sym (same p h.1).level))

  placed_same : (i : ℕ) (n : Node) → Placed (changed f ns) i n.parent n.level →
      Placed (changed f ns) i (f i n).parent (f i n).level
  placed_same i n h = rw ((same i n).parent, (same i n).level) h

  pub levelled_changed : AreLevelled ns → AreLevelled (changed f ns)
  levelled_changed t = record {
    placed = λ i m a.
        let r = from_changed f ns i m a in
        subst (λ (y : Node). Placed (changed f ns) i y.parent y.level) (sym r.2)
        (placed_same i r.0 (placed_changed i r.0.parent r.0.level (t.placed i r.0 r.1)));
  }

  above_same : (g h : ℕ → List Query) → ((p : ℕ) → g p ≡ h p) → (o : Option ℕ) → line_above g o ≡ line_above h o
  above_same g h e None = refl
  above_same g h e (Some p) = e p

  none_by : (i : ℕ) (o : Option Node) → slice_get (changed f ns) i ≡ o → slice_get ns i ≡ None →
      slice_get (changed f ns) i ≡ None
  none_by i None b a = b
  none_by i (Some m) b a = let r = from_changed f ns i m b in let e = sym a ∙ r.1 in absurd (cc)

  node_same : (g h : ℕ → List Query) → ((p : ℕ) → g p ≡ h p) → (i : ℕ) (n : Node) →
      line_at g (Some (f i n)) ≡ line_at h (Some n)
  node_same g h e i n = rw ((same i n).parent, (same i n).query) (ap (λ qs. qs ++ n.query ∷ []) (above_same g h e n.parent))

  at_same : (g h : ℕ → List Query) → ((p : ℕ) → g p ≡ h p) → (i : ℕ) (o : Option Node) → slice_get ns i ≡ o →
      line_at g (slice_get (changed f ns) i) ≡ line_at h o
  at_same g h e i None a = ap (line_at g) (none_by i (slice_get (changed f ns) i) refl a)
  at_same g h e i (Some n) a = ap (line_at g) (to_changed f ns i n a) ∙ node_same g h e i n

  line_changed : (m i : ℕ) → line_upto (changed f ns) m i ≡ line_upto ns m i
  line_changed zero i = refl
  line_changed (suc m) i = at_same (line_upto (changed f ns) m) (line_upto ns m) (line_changed m) i (slice_get ns i) refl

  pub ancestors_changed : (i : ℕ) (o : Option ℕ) → ancestors (changed f ns) i o ≡ ancestors ns i o
  ancestors_changed i o = above_same (line_upto (changed f ns) i) (line_upto ns i) (line_changed i) o

-- a new node changes no line
module _ (ns : List Node) (x : Node) (t : AreLevelled ns) where
  above_in : (g h : ℕ → List Query) (i : ℕ) (o : Option ℕ) (level : ℕ) → Placed ns i o level →
      ((p : ℕ) (n : Node) → p < i → slice_get ns p ≡ Some n → g p ≡ h p) → line_above g o ≡ line_above h o
  above_in g h i None level d e = refl
  above_in g h i (Some p) level d e = e p d.1 d.0 d.2

  line_pushed : (m i : ℕ) (n : Node) → slice_get ns i ≡ Some n → line_upto (ns ++ x ∷ []) m i ≡ line_upto ns m i
  line_pushed zero i n a = refl
  line_pushed (suc m) i n a =
      ap (line_at (line_upto (ns ++ x ∷ []) m)) (to_pushed ns x i n a)
      ∙ (ap (λ qs. qs ++ n.query ∷ []) (above_in (line_upto (ns ++ x ∷ []) m) (line_upto ns m) i n.parent n.level
      (t.placed i n a) (λ p y less b. line_pushed m p y b))
      ∙ ap (line_at (line_upto ns m)) (sym a))

  pub ancestors_pushed : (i : ℕ) (n : Node) → slice_get ns i ≡ Some n →
      ancestors (ns ++ x ∷ []) i n.parent ≡ ancestors ns i n.parent
  ancestors_pushed i n a = above_in (line_upto (ns ++ x ∷ []) i) (line_upto ns i) i n.parent n.level (t.placed i n a)
      (λ p y less b. line_pushed i p y b)

  placed_pushed : (i : ℕ) (o : Option ℕ) (level : ℕ) → Placed ns i o level → Placed (ns ++ x ∷ []) i o level
  placed_pushed i None level h = h
  placed_pushed i (Some p) level h = (h.0, h.1, to_pushed ns x p h.1 h.2, h.3)

  pub levelled_pushed : Placed ns (length ns) x.parent x.level → AreLevelled (ns ++ x ∷ [])
  levelled_pushed h = record {
    placed = λ i n a. ⊎_elim
        (λ b. placed_pushed i n.parent n.level (t.placed i n b))
        (λ b. subst (λ (y : Node). Placed (ns ++ x ∷ []) i y.parent y.level) (sym b.1)
        (subst (λ j. Placed (ns ++ x ∷ []) j x.parent x.level) (sym b.0) (placed_pushed (length ns) x.parent x.level h)))
        (from_pushed ns x i n a);
  }

pub close_same : (ns : List Node) (i : ℕ) (how : ClosedAs) (shown : Bool) (l k : ℕ) (n : Node) →
    SameNode n (closed_at ns i how shown l k n)
close_same ns i how shown l k n = cond_eq (SameNode n) k i _ _ (λ _. record { parent = refl; level = refl; query = refl })
    (λ _. cond_both (leads how && is_member ns i l k) _ n (SameNode n) (λ _. record { parent = refl; level = refl; query = refl })
    (λ _. record { parent = refl; level = refl; query = refl }))
