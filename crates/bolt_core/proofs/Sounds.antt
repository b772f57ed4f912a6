-- A sound job stays sound as more events come.
use Rattle.std.proofs.Common.{◌≡◌, ℕ, ◌≤◌, List, [], ◌∷◌, ◌++◌, length, take, Some, refl, sym, ap, ◌∙◌, subst, arith}
use Rattle.std.specs.Prelude.{slice_get}
use Rattle.std.proofs.lemmas.List.{take-append-le}
use Rattle.query_tree.specs.Forest.{changed}
use Rattle.query_tree.proofs.Lists.{to_changed, to_pushed, within}
use Rattle.query_rules.specs.declared.step.Asked.{Asked}
use Rattle.summary_form.specs.declared.summary.Summary.{Summary}
use Rattle.bolt_core.specs.Groups.{Node, ancestors, closed_at}
use Rattle.bolt_core.specs.Histories.{Told, asked, asks_of, closed, closed_as, fed, named, parked, said, stopped, table_of, took}
use Rattle.bolt_core.specs.Keeps.{AreLevelled, Keeps}
use Rattle.bolt_core.specs.Lawful.{IsLawful}
use Rattle.bolt_core.specs.Machine.{AllOf, Core, Event, IsNews, IsSound, Job, Matches, Reached, Reads, asks_more, node_below, shows}
use Rattle.bolt_core.proofs.Above.{SameNode, ancestors_changed, ancestors_pushed, close_same}
use Rattle.bolt_core.proofs.Agreeing.{kept_push}
use Rattle.bolt_core.proofs.BoardKeeps.{event_keeps}
use Rattle.bolt_core.proofs.Payloads.{SameFor}
use Rattle.bolt_core.proofs.Reserve.{event_history, event_kept}

-- the node is there, with what a job knows of it
pub record IsFor (ns ms : List Node) (i : ℕ) (n : Node) : Type 0 where
  pub node : Node
  pub at : slice_get ms i ≡ Some node
  pub same : SameFor ns ms i n node

abbrev pub NodesStay : List Node → List Node → Type 0
NodesStay ns ms = (i : ℕ) (n : Node) → slice_get ns i ≡ Some n → IsFor ns ms i n

unchanged_stay : (ns : List Node) → NodesStay ns ns
unchanged_stay ns i n at = record { node = n; at = at; same = record { query = refl; level = refl; above = refl } }

pushed_stay : (ns : List Node) (x : Node) → AreLevelled ns → NodesStay ns (ns ++ x ∷ [])
pushed_stay ns x t i n at = record {
  node = n;
  at = to_pushed ns x i n at;
  same = record { query = refl; level = refl; above = ancestors_pushed ns x t i n at };
}

changed_stay : (ns : List Node) (f : ℕ → Node → Node) → ((k : ℕ) (n : Node) → SameNode n (f k n)) → NodesStay ns (changed f ns)
changed_stay ns f same i n at = record {
  node = f i n;
  at = to_changed f ns i n at;
  same = record {
    query = (same i n).query;
    level = (same i n).level;
    above = ancestors_changed ns f same i (f i n).parent ∙ ap (ancestors ns i) (same i n).parent;
  };
}

module _ {S : Type 0} (R : Reads S) where
  -- each node stays, but for what it closed as, and whether it was published
  pub event_stay : (old new : Core S) (e : Told) → Event R old e new → AreLevelled old.nodes → NodesStay old.nodes new.nodes
  event_stay old new (took w i left steps waiting) t l =
      subst (λ (c : Core S). NodesStay old.nodes c.nodes) (sym t.new_is) (unchanged_stay old.nodes)
  event_stay old new (said w i s) t l =
      subst (λ (c : Core S). NodesStay old.nodes c.nodes) (sym t.new_is) (unchanged_stay old.nodes)
  event_stay old new (asked w i n c q) t l =
      subst (λ (c : Core S). NodesStay old.nodes c.nodes) (sym t.new_is)
      (pushed_stay old.nodes (node_below R i t.sound.node q) l)
  event_stay old new (fed w i n c) t l =
      subst (λ (c : Core S). NodesStay old.nodes c.nodes) (sym t.new_is) (unchanged_stay old.nodes)
  event_stay old new (parked w i n r) t l =
      subst (λ (c : Core S). NodesStay old.nodes c.nodes) (sym t.new_is) (unchanged_stay old.nodes)
  event_stay old new (closed w i n shut ss) t l =
      subst (λ (c : Core S). NodesStay old.nodes c.nodes) (sym t.new_is)
      (changed_stay old.nodes (closed_at old.nodes i shut (shows R shut) t.sound.node.level)
      (close_same old.nodes i shut (shows R shut) t.sound.node.level))
  event_stay old new (stopped w) t l =
      subst (λ (c : Core S). NodesStay old.nodes c.nodes) (sym t.2) (unchanged_stay old.nodes)

  sound_behind : IsLawful R → (ks : List Summary) (h : List Told) (e : Told) (ns ms : List Node) → NodesStay ns ms → (j : Job S) →
      IsSound R ks h ns j → IsSound R ks (h ++ e ∷ []) ms j
  sound_behind g ks h e ns ms stay j s =
      let f : IsFor ns ms j.id s.node = stay j.id s.node s.node_at in
      let front : take j.taken (h ++ e ∷ []) ≡ take j.taken h =
      take-append-le j.taken h (e ∷ []) (omega (arith, within h j.taken _ s.take_at)) in
      record {
        worker = s.worker;
        stored = s.stored;
        waiting = s.waiting;
        node = f.node;
        take_at = to_pushed h e j.taken _ s.take_at;
        node_at = f.at;
        state = subst (λ (t : List Summary). R.IsState t j.state) (sym (kept_push ks h e))
            (g.longer (ks ++ table_of h) (named e) j.state s.state);
        query = s.query ∙ sym f.same.query;
        level = s.level ∙ sym f.same.level;
        above = s.above ∙ sym f.same.above;
        made = s.made;
        within = s.within;
        entries = subst (λ (x : List Told). Matches (R.entries j.state) (asks_of x j.id) (asks_more j.spent (R.last j.state))) (sym front)
            s.entries;
        news = subst (λ (x : List Told). AllOf (λ (a : Asked). IsNews a.news (closed_as x a.child)) (R.entries j.state)) (sym front) s.news;
        seen = subst (λ (x : List Told). AllOf (λ n. length (ks ++ table_of x) ≤ n) (R.seen j.state j.spent)) (sym front) s.seen;
      }

  pub sound_more : IsLawful R → (old new : Core S) (e : Told) → AreLevelled old.nodes → Event R old e new → (j : Job S) →
      IsSound R old.kept old.history old.nodes j → IsSound R new.kept new.history new.nodes j
  sound_more g old new e l t j s = subst (λ ks. IsSound R ks new.history new.nodes j) (sym (event_kept R old new e t))
      (subst (λ h. IsSound R old.kept h new.nodes j) (sym (event_history R old new e t))
      (sound_behind g old.kept old.history e old.nodes new.nodes (event_stay old new e t l) j s))

  pub sound_reached : IsLawful R → (roots : ℕ) (old : Core S) (es : List Told) (new : Core S) → Reached R old es new →
      Keeps R roots old → (j : Job S) → IsSound R old.kept old.history old.nodes j → IsSound R new.kept new.history new.nodes j
  sound_reached g roots old [] new r k j s = subst (λ (c : Core S). IsSound R c.kept c.history c.nodes j) (sym r) s
  sound_reached g roots old (e ∷ es) new r k j s =
      sound_reached g roots r.0 es new r.2 (event_keeps R g roots old r.0 e k r.1) j (sound_more g old r.0 e k.levelled r.1 j s)
