-- What a close publishes holds, and what is known of closed queries stays known.
use Rattle.std.proofs.Common.{◌≡◌, ℕ, suc, List, [], ◌∷◌, ◌++◌, length, map, Bool, true, Some, None, sym, subst, ⊎_elim}
use Rattle.std.specs.Prelude.{slice_get, ◌==◌, ◌&&◌, filter, flat_map}
use Rattle.std.proofs.lemmas.Bool.{and_parts, cond_both}
use Rattle.query_tree.specs.Forest.{changed}
use Rattle.query_tree.proofs.Lists.{from_changed, from_pushed}
use Rattle.query_tree.proofs.Tests.{cond_eq, one_at}
use Rattle.summary_form.specs.declared.query.Query.{Query}
use Rattle.summary_form.specs.declared.summary.Summary.TheVariants as summary
use Rattle.bolt_core.specs.declared.slot.ClosedAs.{ClosedAs}
use Rattle.bolt_core.specs.Given.{Always, IsGraded}
use Rattle.bolt_core.specs.Groups.{Node, ancestors, level_in, is_member, places_from, group, leads, closed_at, query_in, queries_at}
use Rattle.bolt_core.specs.Keeps.{AreGiven, AreLevelled, GivenBy}
use Rattle.bolt_core.specs.Machine.{AllOf, HoldsBy, Reads}
use Rattle.bolt_core.proofs.Above.{ancestors_changed, ancestors_pushed, close_same}
use Rattle.bolt_core.proofs.Groups.{member_holds}

-- Each element of a list

pub all_append : {X : Type 0} (P : X → Type 0) (xs ys : List X) → AllOf P xs → AllOf P ys → AllOf P (xs ++ ys)
all_append P [] ys h k = k
all_append P (x ∷ xs) ys h k = (h.0, all_append P xs ys h.1 k)

pub all_map : {X : Type 0} (P R : X → Type 0) → ((x : X) → P x → R x) → (xs : List X) → AllOf P xs → AllOf R xs
all_map P R f [] h = tt
all_map P R f (x ∷ xs) h = (f x h.0, all_map P R f xs h.1)

pub all_filter : {X : Type 0} (P : X → Type 0) (p : X → Bool) → ((x : X) → p x ≡ true → P x) → (xs : List X) →
    AllOf P (filter p xs)
all_filter P p h [] = tt
all_filter P p h (x ∷ xs) = cond_both (p x) (x ∷ filter p xs) (filter p xs) (AllOf P) (λ e. (h x e, all_filter P p h xs))
    (λ _. all_filter P p h xs)

pub all_flat_map : {X Y : Type 0} (P : Y → Type 0) (f : X → List Y) → ((x : X) → AllOf P (f x)) → (xs : List X) →
    AllOf P (flat_map f xs)
all_flat_map P f h [] = tt
all_flat_map P f h (x ∷ xs) = all_append P (f x) (flat_map f xs) (h x) (all_flat_map P f h xs)

all_mapped : {X Y : Type 0} (P : X → Type 0) (R : Y → Type 0) (f : X → List Y) → ((x : X) → P x → AllOf R (f x)) →
    (xs : List X) → AllOf P xs → AllOf R (flat_map f xs)
all_mapped P R f h [] k = tt
all_mapped P R f h (x ∷ xs) k = all_append R (f x) (flat_map f xs) (h x k.0) (all_mapped P R f h xs k.1)

pub all_in_group : (ns : List Node) (lead l : ℕ) → AllOf (λ i. is_member ns lead l i ≡ true) (group ns lead l)
all_in_group ns lead l = all_flat_map (λ i. is_member ns lead l i ≡ true) _
    (λ k. all_filter (λ i. is_member ns lead l i ≡ true) (λ i. (level_in (slice_get ns i) == k) && is_member ns lead l i)
    (λ i e. (and_parts (level_in (slice_get ns i) == k) (is_member ns lead l i) e).1) (places_from 0 (length ns)))
    (places_from (suc l) (length ns))

module _ {S : Type 0} (R : Reads S) where
  -- where a query closes of which this is known
  pub given_closed : (ns : List Node) → AreGiven R ns → (i : ℕ) (n : Node) → slice_get ns i ≡ Some n → (how : ClosedAs) (shown : Bool) →
      GivenBy R.nm (ancestors ns i n.parent) n.query (Some how) → AreGiven R (changed (closed_at ns i how shown n.level) ns)
  given_closed ns s i n at how shown known = record {
    given = λ k m a.
        let f : ℕ → Node → Node = closed_at ns i how shown n.level in
        let r = from_changed f ns k m a in
        subst (λ (y : Node). GivenBy R.nm (ancestors (changed f ns) k y.parent) y.query y.closed) (sym r.2)
        (subst (λ qs. GivenBy R.nm qs (f k r.0).query (f k r.0).closed)
        (sym (ancestors_changed ns f (close_same ns i how shown n.level) k (f k r.0).parent))
        (here k r.0 r.1));
  }
    where
      here : (k : ℕ) (x : Node) → slice_get ns k ≡ Some x → let y = closed_at ns i how shown n.level k x in
          GivenBy R.nm (ancestors ns k y.parent) y.query y.closed
      here k x a = cond_eq (λ (y : Node). GivenBy R.nm (ancestors ns k y.parent) y.query y.closed) k i _ _
          (λ d. subst (λ (z : Node). GivenBy R.nm (ancestors ns k z.parent) z.query (Some how)) (sym (one_at ns i k n x at a d))
          (subst (λ j. GivenBy R.nm (ancestors ns j n.parent) n.query (Some how)) (sym d) known))
          (λ _. cond_both (leads how && is_member ns i n.level k) _ x
          (λ (y : Node). GivenBy R.nm (ancestors ns k y.parent) y.query y.closed) (λ _. s.given k x a) (λ _. s.given k x a))

  pub given_pushed : (ns : List Node) (x : Node) → AreLevelled ns → x.closed ≡ None → AreGiven R ns → AreGiven R (ns ++ x ∷ [])
  given_pushed ns x t open' s = record {
    given = λ i m a. ⊎_elim
        (λ b. subst (λ qs. GivenBy R.nm qs m.query m.closed) (sym (ancestors_pushed ns x t i m b)) (s.given i m b))
        (λ b. subst (λ (y : Node). GivenBy R.nm (ancestors (ns ++ x ∷ []) i y.parent) y.query y.closed) (sym b.1)
        (subst (λ o. GivenBy R.nm (ancestors (ns ++ x ∷ []) i x.parent) x.query o) (sym open') tt))
        (from_pushed ns x i m a);
  }

  true_not_mays : (qs : List Query) → AllOf (Always R.nm) qs → AllOf (HoldsBy R) (map summary.NotMay qs)
  true_not_mays [] h = tt
  true_not_mays (q ∷ qs) h = (h.0, true_not_mays qs h.1)

  query_at : (ns : List Node) (i : ℕ) (x : Node) → slice_get ns i ≡ Some x → Always R.nm x.query →
      AllOf (Always R.nm) (query_in (slice_get ns i))
  query_at ns i x a h = rw a (h, tt)

  -- what a leader's close publishes holds
  pub group_holds : IsGraded R.nm → (ns : List Node) → AreLevelled ns → AreGiven R ns → (i : ℕ) (n : Node) →
      slice_get ns i ≡ Some n → Always R.nm n.query →
      AllOf (HoldsBy R) (map summary.NotMay (n.query ∷ queries_at ns (group ns i n.level)))
  group_holds g ns t s i n at known = true_not_mays (n.query ∷ queries_at ns (group ns i n.level)) (
    known,
    all_mapped (λ k. is_member ns i n.level k ≡ true) (Always R.nm) (λ k. query_in (slice_get ns k))
        (λ k m. let h = member_holds R.nm g ns t s.given i n at known k m in query_at ns k h.0 h.1 h.2)
        (group ns i n.level) (all_in_group ns i n.level),
  )
