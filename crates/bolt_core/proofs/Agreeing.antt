-- The nodes and the history tell the same, whatever event comes.
use Rattle.std.proofs.Common.{◌≡◌, ℕ, ◌≤◌, List, [], ◌∷◌, ◌++◌, length, Bool, true, false, cond, Option, Some, None, refl, sym, ap, ◌∙◌, subst, ⊎_elim, arith, append_assoc, append-nil}
use Rattle.std.specs.Prelude.{slice_get, ◌==◌, ◌&&◌, ◌||◌}
use Rattle.std.proofs.lemmas.List.{length_push}
use Rattle.std.proofs.lemmas.Bool.{cond_both, eq-eqb, ne_eqb}
use Rattle.query_tree.specs.Forest.{changed}
use Rattle.query_tree.proofs.Lists.{from_changed, to_changed, from_pushed, to_pushed, within, length_changed}
use Rattle.query_tree.proofs.Marks.{get_pushed}
use Rattle.query_tree.proofs.Tests.{cond_eq}
use Rattle.summary_form.specs.declared.query.Query.{Query}
use Rattle.summary_form.specs.declared.summary.Summary.{Summary}
use Rattle.bolt_core.specs.declared.slot.ClosedAs.{ClosedAs}
use Rattle.bolt_core.specs.Groups.{Node, is_member, leads, closed_at}
use Rattle.bolt_core.specs.Histories.{Told, took, said, asked, fed, parked, closed, stopped, asks_by, asks_of, closes_by, closed_as, named, table_of, says_of, has_said}
use Rattle.bolt_core.specs.Keeps.{AgreeOn}
use Rattle.bolt_core.specs.Machine.{AllOf}
use Rattle.bolt_core.proofs.Links.{asks_more_of}
use Rattle.bolt_core.proofs.Publishes.{said_more}
use Rattle.bolt_core.proofs.Truths.{all_append, all_map}

abbrev pub orelse : {X : Type 0} → Option X → Option X → Option X
orelse None o = o
orelse (Some x) o = Some x

or_none : {X : Type 0} (o : Option X) → orelse o None ≡ o
or_none None = refl
or_none (Some x) = refl

or_false : (a b : Bool) → a ≡ false → (a || b) ≡ b
or_false true b h = absurd (cc)
or_false false b h = refl

abbrev pub IsAsk : List Node → ℕ → ℕ × Query → Type 0
IsAsk nodes i x = (n : Node) × (slice_get nodes x.0 ≡ Some n) × (n.parent ≡ Some i) × (n.query ≡ x.1)

-- Histories with one event more

closed_else : (b : Bool) (how : ClosedAs) (o p : Option ClosedAs) →
    cond b (Some how) (orelse o p) ≡ orelse (cond b (Some how) o) p
closed_else true how o p = refl
closed_else false how o p = refl

closes_else : (i : ℕ) (x : Told) (o p : Option ClosedAs) → closes_by i x (orelse o p) ≡ orelse (closes_by i x o) p
closes_else i (took w j l s b) o p = refl
closes_else i (said w j s) o p = refl
closes_else i (asked w j n c q) o p = refl
closes_else i (fed w j n c) o p = refl
closes_else i (parked w j n r) o p = refl
closes_else i (closed w j n how ss) o p = closed_else (j == i) how o p
closes_else i (stopped w) o p = refl

pub closed_push : (h : List Told) (e : Told) (i : ℕ) → closed_as (h ++ e ∷ []) i ≡ orelse (closed_as h i) (closes_by i e None)
closed_push [] e i = refl
closed_push (x ∷ h) e i = ap (closes_by i x) (closed_push h e i) ∙ closes_else i x (closed_as h i) (closes_by i e None)

-- the events of the beginning come first
pub closed_append : (xs ys : List Told) (i : ℕ) → closed_as (xs ++ ys) i ≡ orelse (closed_as xs i) (closed_as ys i)
closed_append [] ys i = refl
closed_append (x ∷ xs) ys i = ap (closes_by i x) (closed_append xs ys i) ∙ closes_else i x (closed_as xs i) (closed_as ys i)

pub asks_push : (h : List Told) (e : Told) (i : ℕ) → asks_of (h ++ e ∷ []) i ≡ asks_of h i ++ asks_by i e
asks_push [] e i = append-nil (asks_by i e)
asks_push (x ∷ h) e i = ap (λ ys. asks_by i x ++ ys) (asks_push h e i) ∙ sym (append_assoc (asks_by i x) (asks_of h i) (asks_by i e))

pub table_push : (h : List Told) (e : Told) → table_of (h ++ e ∷ []) ≡ table_of h ++ named e
table_push [] e = append-nil (named e)
table_push (x ∷ h) e = ap (λ ss. named x ++ ss) (table_push h e) ∙ sym (append_assoc (named x) (table_of h) (named e))

-- after summaries that were there before
pub kept_push : (ks : List Summary) (h : List Told) (e : Told) → ks ++ table_of (h ++ e ∷ []) ≡ (ks ++ table_of h) ++ named e
kept_push ks h e = ap (λ ts. ks ++ ts) (table_push h e) ∙ sym (append_assoc ks (table_of h) (named e))

-- an event that closes nothing
pub closes_not : (h : List Told) (e : Told) (i : ℕ) → closes_by i e None ≡ None → closed_as (h ++ e ∷ []) i ≡ closed_as h i
closes_not h e i n = closed_push h e i ∙ (ap (orelse (closed_as h i)) n ∙ or_none (closed_as h i))

pub says_not : (h : List Told) (e : Told) (i : ℕ) → says_of i e ≡ false → has_said (h ++ e ∷ []) i ≡ has_said h i
says_not h e i n = said_more h e i ∙ or_false (says_of i e) (has_said h i) n

-- What agrees

pub quiet_agree : (nodes : List Node) (h : List Told) (e : Told) → ((i : ℕ) → closes_by i e None ≡ None) →
    ((i : ℕ) → asks_by i e ≡ []) → AgreeOn nodes h → AgreeOn nodes (h ++ e ∷ [])
quiet_agree nodes h e c a g = record {
  closed = λ i n at. g.closed i n at ∙ sym (closes_not h e i (c i));
  asked = λ i. subst (AllOf (IsAsk nodes i)) (sym (asks_more_of h e i (a i))) (g.asked i);
  fresh = λ i le. closes_not h e i (c i) ∙ g.fresh i le;
}

-- a node that no event named
pub pushed_agree : (nodes : List Node) (h : List Told) (x : Node) → x.closed ≡ None → AgreeOn nodes h → AgreeOn (nodes ++ x ∷ []) h
pushed_agree nodes h x open' g = record {
  closed = λ k m at. ⊎_elim
      (λ b. g.closed k m b)
      (λ b. ap (λ (y : Node). y.closed) b.1 ∙ (open' ∙ sym (g.fresh k (omega (arith, b.0)))))
      (from_pushed nodes x k m at);
  asked = λ k. all_map (IsAsk nodes k) (IsAsk (nodes ++ x ∷ []) k) (λ y z. (z.0, to_pushed nodes x y.0 z.0 z.1, z.2, z.3))
      (asks_of h k) (g.asked k);
  fresh = λ k le. g.fresh k (omega (arith, le, length_push nodes x));
}

pub asked_agree : (nodes : List Node) (h : List Told) (w i n c : ℕ) (q : Query) (x : Node) → c ≡ length nodes →
    x.parent ≡ Some i → x.query ≡ q → x.closed ≡ None → AgreeOn nodes h → AgreeOn (nodes ++ x ∷ []) (h ++ asked w i n c q ∷ [])
asked_agree nodes h w i n c q x number up query' open' old =
    let e : Told = asked w i n c q in
    let g : AgreeOn (nodes ++ x ∷ []) h = pushed_agree nodes h x open' old in
    record {
      closed = λ k m at. g.closed k m at ∙ sym (closes_not h e k refl);
      asked = λ k. subst (AllOf (IsAsk (nodes ++ x ∷ []) k)) (sym (asks_push h e k))
          (all_append (IsAsk (nodes ++ x ∷ []) k) (asks_of h k) (asks_by k e) (g.asked k)
          (cond_eq (AllOf (IsAsk (nodes ++ x ∷ []) k)) i k ((c, q) ∷ []) []
          (λ d. ((x, ap (slice_get (nodes ++ x ∷ [])) number ∙ get_pushed nodes x, up ∙ ap Some d, query'), tt))
          (λ _. tt)));
      fresh = λ k le. closes_not h e k refl ∙ g.fresh k le;
    }

closed_frame : (ns : List Node) (i : ℕ) (how : ClosedAs) (shown : Bool) (l k : ℕ) (n : Node) →
    ((closed_at ns i how shown l k n).parent ≡ n.parent) × ((closed_at ns i how shown l k n).query ≡ n.query)
closed_frame ns i how shown l k n = cond_eq (λ (y : Node). (y.parent ≡ n.parent) × (y.query ≡ n.query)) k i _ _ (λ _. (refl, refl))
    (λ _. cond_both (leads how && is_member ns i l k) _ n (λ (y : Node). (y.parent ≡ n.parent) × (y.query ≡ n.query))
    (λ _. (refl, refl)) (λ _. (refl, refl)))

module _ (nodes : List Node) (h : List Told) (w i n : ℕ) (how : ClosedAs) (ss : List Summary) (shown : Bool) (l : ℕ)
    (own : Node) (at : slice_get nodes i ≡ Some own) (open' : own.closed ≡ None) (g : AgreeOn nodes h) where
  closes_else_where : (k : ℕ) → (i ≡ k → ⊥) → closes_by k (closed w i n how ss) None ≡ None
  closes_else_where k ne = rw (ne_eqb i k ne) refl

  closed_here : (k : ℕ) (x : Node) → slice_get nodes k ≡ Some x →
      (closed_at nodes i how shown l k x).closed ≡ closed_as (h ++ closed w i n how ss ∷ []) k
  closed_here k x a = cond_eq (λ (y : Node). y.closed ≡ closed_as (h ++ closed w i n how ss ∷ []) k) k i _ _
      (λ d.
      let none : closed_as h i ≡ None = sym (g.closed i own at) ∙ open' in
      let now : closed_as (h ++ closed w i n how ss ∷ []) k ≡ Some how =
      closed_push h (closed w i n how ss) k ∙ rw (d, none, eq-eqb i i refl) refl in
      sym now)
      (λ ne.
      let now : closed_as (h ++ closed w i n how ss ∷ []) k ≡ closed_as h k =
      closes_not h (closed w i n how ss) k (closes_else_where k (λ d. ne (sym d))) in
      cond_both (leads how && is_member nodes i l k) _ x (λ (y : Node). y.closed ≡ closed_as (h ++ closed w i n how ss ∷ []) k)
      (λ _. g.closed k x a ∙ sym now) (λ _. g.closed k x a ∙ sym now))

  pub closed_agree : AgreeOn (changed (closed_at nodes i how shown l) nodes) (h ++ closed w i n how ss ∷ [])
  closed_agree = record {
    closed = λ k m a.
        let r = from_changed (closed_at nodes i how shown l) nodes k m a in
        subst (λ (y : Node). y.closed ≡ closed_as (h ++ closed w i n how ss ∷ []) k) (sym r.2) (closed_here k r.0 r.1);
    asked = λ k. subst (AllOf (IsAsk (changed (closed_at nodes i how shown l) nodes) k)) (sym (asks_more_of h (closed w i n how ss) k refl))
        (all_map (IsAsk nodes k) (IsAsk (changed (closed_at nodes i how shown l) nodes) k)
        (λ y z. let f = closed_frame nodes i how shown l y.0 z.0 in
        (closed_at nodes i how shown l y.0 z.0, to_changed (closed_at nodes i how shown l) nodes y.0 z.0 z.1, f.0 ∙ z.2, f.1 ∙ z.3))
        (asks_of h k) (g.asked k));
    fresh = λ k le.
        let le2 : length nodes ≤ k = omega (arith, le, length_changed (closed_at nodes i how shown l) 0 nodes) in
        closes_not h (closed w i n how ss) k (closes_else_where k (λ d. omega (arith, d, le2, within nodes i own at))) ∙ g.fresh k le2;
  }
