-- What an event makes of entries and nodes: parents, grants and queries stay, and what is closed was, or closed by it.
use Rattle.std.proofs.Common.{◌≡◌, ℕ, ◌+◌, ◌-◌, List, [], ◌∷◌, ◌++◌, true, Option, Some, refl, sym, ap, ◌∙◌, subst, ◌⊎◌, inl, inr, ⊎_elim}
use Rattle.std.specs.Prelude.{slice_get, ◌&&◌}
use Rattle.std.proofs.lemmas.Bool.{cond_both}
use Rattle.query_tree.specs.declared.Entry.{Entry}
use Rattle.query_tree.specs.declared.Status.{Status}
use Rattle.query_tree.specs.declared.Status.TheVariants.{Ready, Running, Blocked, Starved, Closed, Dropped}
use Rattle.query_tree.specs.Forest.{at_rest, back_as, changed, child_of, close_at, fed, fed_at, has_live_child, is_open, is_place, is_starved, part, purse, rest_at, share, stir, take_at, woken}
use Rattle.query_tree.proofs.Close.{close_cases}
use Rattle.query_tree.proofs.Lists.{from_changed, from_pushed, to_changed, to_pushed}
use Rattle.query_tree.proofs.Tests.{cond_eq, open_back, open_rest}
use Rattle.bolt_core.specs.Groups.{Node, closed_at}
use Rattle.bolt_core.specs.Histories.{Told, asked, closed, fed as told_fed, parked, said, stopped, took}
use Rattle.bolt_core.specs.Machine.{Closes, Core, Event, Reads, node_below, shows}
use Rattle.bolt_core.proofs.Above.{close_same}
use Rattle.bolt_core.proofs.Pairing.{closed_shut}

-- the node at this place, with the same query
pub record StillAsks (ns : List Node) (i : ℕ) (n : Node) : Type 0 where
  pub node : Node
  pub at : slice_get ns i ≡ Some node
  pub query : node.query ≡ n.query

closed_woken : (s : Status) → woken s ≡ Closed → s ≡ Closed
closed_woken Ready h = h
closed_woken Running h = h
closed_woken Blocked h = absurd (cc)
closed_woken Starved h = h
closed_woken Closed h = refl
closed_woken (Dropped n) h = h

closed_fed : (m : ℕ) (s : Status) → fed m s ≡ Closed → s ≡ Closed
closed_fed m Ready h = h
closed_fed m Running h = h
closed_fed m Blocked h = h
closed_fed m Starved h = absurd (closed_shut (at_rest m) (open_rest m) h)
closed_fed m Closed h = refl
closed_fed m (Dropped n) h = h

module _ {S : Type 0} where
  -- the entry at this place was closed before, with this payload
  pub record WasClosed (es : List (Entry S)) (i : ℕ) (payload : Option S) : Type 0 where
    pub entry : Entry S
    pub at : slice_get es i ≡ Some entry
    pub status : entry.status ≡ Closed
    pub same : payload ≡ entry.payload

  module _ (Here : ℕ → Option S → Type 0) where
    pub record Become (es fs : List (Entry S)) : Type 0 where
      pub to : (i : ℕ) (x : Entry S) → slice_get es i ≡ Some x →
          (y : Entry S) × (slice_get fs i ≡ Some y) × (y.parent ≡ x.parent) × (y.grant ≡ x.grant)
      pub from : (i : ℕ) (y : Entry S) → slice_get fs i ≡ Some y → y.status ≡ Closed → WasClosed es i y.payload ⊎ Here i y.payload

    record Turns (k : ℕ) (x y : Entry S) : Type 0 where
      parent : y.parent ≡ x.parent
      grant : y.grant ≡ x.grant
      shut : y.status ≡ Closed → ((x.status ≡ Closed) × (y.payload ≡ x.payload)) ⊎ Here k y.payload

    turns_same : (k : ℕ) (x : Entry S) → Turns k x x
    turns_same k x = record { parent = refl; grant = refl; shut = λ c. inl (c, refl) }

    become_same : (es : List (Entry S)) → Become es es
    become_same es = record {
      to = λ i x a. (x, a, refl, refl);
      from = λ i y a c. inl (record { entry = y; at = a; status = c; same = refl });
    }

    become_changed : (es : List (Entry S)) (f : ℕ → Entry S → Entry S) →
        ((k : ℕ) (x : Entry S) → slice_get es k ≡ Some x → Turns k x (f k x)) → Become es (changed f es)
    become_changed es f each = record {
      to = λ i x a. (f i x, to_changed f es i x a, (each i x a).parent, (each i x a).grant);
      from = λ i y a c.
          let r = from_changed f es i y a in
          let shut : (f i r.0).status ≡ Closed = ap (λ (z : Entry S). z.status) (sym r.2) ∙ c in
          subst (λ (z : Entry S). WasClosed es i z.payload ⊎ Here i z.payload) (sym r.2)
          (⊎_elim (λ w. inl (record { entry = r.0; at = r.1; status = w.0; same = w.1 })) (λ h. inr h) ((each i r.0 r.1).shut shut));
    }

    become_then : (es fs gs : List (Entry S)) → Become es fs → Become fs gs → Become es gs
    become_then es fs gs h k = record {
      to = λ i x a.
          let y = h.to i x a in
          let z = k.to i y.0 y.1 in
          (z.0, z.1, z.2 ∙ y.2, z.3 ∙ y.3);
      from = λ i z a c. ⊎_elim
          (λ w. ⊎_elim
          (λ v. inl (record { entry = v.entry; at = v.at; status = v.status; same = w.same ∙ v.same }))
          (λ v. inr (subst (Here i) (sym w.same) v))
          (h.from i w.entry w.at w.status))
          (λ v. inr v)
          (k.from i z a c);
    }

    become_pushed : (es : List (Entry S)) (x : Entry S) → is_open x.status ≡ true → Become es (es ++ x ∷ [])
    become_pushed es x opens = record {
      to = λ i y a. (y, to_pushed es x i y a, refl, refl);
      from = λ i y a c. ⊎_elim
          (λ o. inl (record { entry = y; at = o; status = c; same = refl }))
          (λ o. absurd (closed_shut x.status opens (ap (λ (z : Entry S). z.status) (sym o.1) ∙ c)))
          (from_pushed es x i y a);
    }

    become_rest : (es : List (Entry S)) (own : Entry S) (i : ℕ) (st : Status) → is_open st ≡ true → (left n : ℕ) (p : S) →
        Become es (changed (rest_at own i st left n p) es)
    become_rest es own i st opens left n p = become_changed es (rest_at own i st left n p) (λ k x a. cond_eq (Turns k x) k i _ _
        (λ _. record { parent = refl; grant = refl; shut = λ c. absurd (closed_shut st opens c) })
        (λ _. cond_both (is_place own.parent k && is_starved st) (stir x) x (Turns k x)
        (λ _. record { parent = refl; grant = refl; shut = λ c. inl (closed_woken x.status c, refl) })
        (λ _. turns_same k x)))

    become_fed : (es : List (Entry S)) (c n : ℕ) → Become es (changed (fed_at c n) es)
    become_fed es c n = become_changed es (fed_at c n) (λ k x a. cond_eq (Turns k x) k c _ x
        (λ _. record { parent = refl; grant = refl; shut = λ z. inl (closed_fed (x.left + n) x.status z, refl) })
        (λ _. turns_same k x))

    become_taken : (es : List (Entry S)) (i : ℕ) → Become es (changed (take_at i (has_live_child es i)) es)
    become_taken es i = become_changed es (take_at i (has_live_child es i)) (λ k x a. cond_eq (Turns k x) k i _ x
        (λ _. record { parent = refl; grant = refl; shut = λ c. absurd (cc) })
        (λ _. turns_same k x))

    become_closed : (es : List (Entry S)) (own : Entry S) (i n : ℕ) (p : S) (stamp : ℕ) → Here i (Some p) →
        Become es (changed (close_at es own i n p stamp) es)
    become_closed es own i n p stamp here = become_changed es (close_at es own i n p stamp) (λ k x a.
        close_cases (Turns k x) es own i n p stamp k x
        (λ d. record { parent = refl; grant = refl; shut = λ _. inr (subst (λ j. Here j (Some p)) (sym d) here) })
        (λ _ _. record { parent = refl; grant = refl; shut = λ c. absurd (cc) })
        (λ _ _ _. record {
          parent = refl;
          grant = refl;
          shut = λ c. inl (closed_woken x.status (closed_fed (x.left + purse es own i n) (woken x.status) c), refl);
        })
        (λ _ _ _. turns_same k x))

    module _ (R : Reads S) (old new : Core S) where
      -- what closes at the event
      abbrev pub ClosesHere : Told → Type 0
      ClosesHere (closed w i n shut ss) = (t : Closes R old i n shut ss (closed w i n shut ss) new) → Here i (Some t.job.state)
      ClosesHere _ = Unit {0}

      pub event_become : (e : Told) → Event R old e new → ClosesHere e → Become old.entries new.entries
      event_become (took w i left steps waiting) t h =
          subst (λ (c : Core S). Become old.entries c.entries) (sym t.new_is) (become_taken old.entries i)
      event_become (said w i s) t h = subst (λ (c : Core S). Become old.entries c.entries) (sym t.new_is) (become_same old.entries)
      event_become (asked w i n c q) t h =
          let m : ℕ = part (t.own.left - n) in
          let keep : ℕ = (t.own.left - n) - m in
          subst (λ (c : Core S). Become old.entries c.entries) (sym t.new_is)
          (become_then old.entries _ _ (become_rest old.entries t.own i (at_rest keep) (open_rest keep) keep n _)
          (become_pushed _ (child_of t.own i n t.child) (open_rest m)))
      event_become (told_fed w i n c) t h =
          let m : ℕ = share t.child (t.own.left - n) in
          let keep : ℕ = (t.own.left - n) - m in
          subst (λ (c : Core S). Become old.entries c.entries) (sym t.new_is)
          (become_then old.entries _ _ (become_rest old.entries t.own i (at_rest keep) (open_rest keep) keep n t.job.state)
          (become_fed _ c m))
      event_become (parked w i n r) t h =
          subst (λ (c : Core S). Become old.entries c.entries) (sym t.new_is)
          (become_rest old.entries t.own i (back_as r t.own.stirred (t.own.left - n)) (open_back r t.own.stirred (t.own.left - n))
          (t.own.left - n) n t.job.state)
      event_become (closed w i n shut ss) t h =
          subst (λ (c : Core S). Become old.entries c.entries) (sym t.new_is)
          (become_closed old.entries t.own i n t.job.state _ (h t))
      event_become (stopped w) t h = subst (λ (c : Core S). Become old.entries c.entries) (sym t.2) (become_same old.entries)

  module _ (R : Reads S) (old new : Core S) where
    pub event_asks : (e : Told) → Event R old e new → (i : ℕ) (n : Node) → slice_get old.nodes i ≡ Some n → StillAsks new.nodes i n
    event_asks (took w i left steps waiting) t k m a =
        subst (λ (c : Core S). StillAsks c.nodes k m) (sym t.new_is) (record { node = m; at = a; query = refl })
    event_asks (said w i s) t k m a =
        subst (λ (c : Core S). StillAsks c.nodes k m) (sym t.new_is) (record { node = m; at = a; query = refl })
    event_asks (asked w i n c q) t k m a = subst (λ (c : Core S). StillAsks c.nodes k m) (sym t.new_is)
        (record { node = m; at = to_pushed old.nodes (node_below R i t.sound.node q) k m a; query = refl })
    event_asks (told_fed w i n c) t k m a =
        subst (λ (c : Core S). StillAsks c.nodes k m) (sym t.new_is) (record { node = m; at = a; query = refl })
    event_asks (parked w i n r) t k m a =
        subst (λ (c : Core S). StillAsks c.nodes k m) (sym t.new_is) (record { node = m; at = a; query = refl })
    event_asks (closed w i n shut ss) t k m a =
        let f : ℕ → Node → Node = closed_at old.nodes i shut (shows R shut) t.sound.node.level in
        subst (λ (c : Core S). StillAsks c.nodes k m) (sym t.new_is) (record {
          node = f k m;
          at = to_changed f old.nodes k m a;
          query = (close_same old.nodes i shut (shows R shut) t.sound.node.level k m).query;
        })
    event_asks (stopped w) t k m a =
        subst (λ (c : Core S). StillAsks c.nodes k m) (sym t.2) (record { node = m; at = a; query = refl })
