-- What a board publishes of a dropped query is one event.
use Rattle.std.proofs.Common.{◌≡◌, ℕ, ◌+◌, ◌<◌, ◌≤◌, List, [], ◌∷◌, ◌++◌, length, map, get_or, Bool, true, false, cond, Option, Some, None, Bor, refl, sym, ap, ◌∙◌, subst, ⊎_elim, arith}
use Rattle.std.specs.Prelude.{slice_get, slice_set, is_some, not, ◌==◌, ◌||◌}
use Rattle.std.specs.Option.{option_copied}
use Rattle.std.proofs.lemmas.Bool.{cond_both}
use Rattle.std.proofs.lemmas.List.{length_push}
use Rattle.query_tree.specs.declared.Entry.{Entry}
use Rattle.query_tree.specs.declared.Status.TheVariants.{Closed, Dropped}
use Rattle.query_tree.specs.Forest.{changed}
use Rattle.query_tree.proofs.Lists.{at_place, from_changed, from_pushed, length_changed, present, set_changed, within}
use Rattle.query_tree.proofs.Marks.{get_pushed}
use Rattle.query_rules.specs.Seen.{Seen}
use Rattle.summary_form.specs.declared.query.Query.{Query}
use Rattle.summary_form.specs.declared.summary.Summary.{Summary}
use Rattle.bolt_core.specs.declared.event.Event.{Event as Stored}
use Rattle.bolt_core.specs.declared.event.Event.TheVariants as stored
use Rattle.bolt_core.specs.declared.slot.Slot.{Slot}
use Rattle.bolt_core.specs.Boards.{IsBoard, IsRoomy, IsSettled, MayBeSaid, Publishes, Shown, core_of, history_of, most_summaries, node_of, said_as, told_by}
use Rattle.bolt_core.specs.Groups.{Node}
use Rattle.bolt_core.specs.Histories.{Told, has_said, said}
use Rattle.summary_table.specs.Tables.{exit_of, proc_of}
use Rattle.bolt_core.specs.Machine.{Core, HoldsBy}
use Rattle.bolt_core.specs.States.{reads}
use Rattle.bolt_core.proofs.BoardKeeps.{board_keeps, nodes_of}
use Rattle.bolt_core.proofs.ClosesOn.{Handed, all_longer, longer_settled, map_kept}
use Rattle.bolt_core.proofs.Going.{GoesOn, board_queries, goes_on, history_push}
use Rattle.bolt_core.proofs.Groups.{not_false}
use Rattle.bolt_core.proofs.JobsTaken.{has_slot}
use Rattle.bolt_core.proofs.Nodes.{open_node, table_before}
use Rattle.bolt_core.proofs.Publishes.{said_more}

none_copied : {T : Type 0} (o : Option (Bor T)) → is_some o ≡ false → option_copied o ≡ None
none_copied None e = refl
none_copied (Some x) e = absurd (cc)

-- One slot

abbrev pub said_slot : Slot → Slot
said_slot s = record s { said = true }

abbrev pub said_at : ℕ → ℕ → Slot → Slot
said_at i k s = cond (k == i) (said_slot s) s

node_same : (i k : ℕ) (x : Slot) → node_of (said_at i k x) ≡ node_of x
node_same i k x = cond_both (k == i) (said_slot x) x (λ y. node_of y ≡ node_of x) (λ _. refl) (λ _. refl)

query_same : (i k : ℕ) (x : Slot) → (said_at i k x).query.value ≡ x.query.value
query_same i k x = cond_both (k == i) (said_slot x) x (λ y. y.query.value ≡ x.query.value) (λ _. refl) (λ _. refl)

said_now : (b o : Bool) (x : Slot) → x.said ≡ o → (cond b (said_slot x) x).said ≡ (b || o)
said_now true o x e = refl
said_now false o x e = e

module _ (p : Shown) (es : List (Entry Seen)) (ss : List Slot) (ts : List Summary) (xs : List Stored) (st : Bool)
    (h : IsBoard (record p { core = core_of p.core.kept es ss ts xs st })) (f t s v : ℕ)
    (r : IsRoomy (record p { core = core_of p.core.kept es ss ts xs st }) ss xs f t s v) (i : ℕ) where
  abbrev before : Shown
  before = record p { core = core_of p.core.kept es ss ts xs st }

  pub slot_here : i < length es → i < length ss
  slot_here lt = omega (arith, lt, has_slot before h ss refl)

  module _ (lt : i < length es) (d : Slot) (is : d ≡ get_or ss i d) where
    slot_said : d.said ≡ has_said (history_of ss ts xs) i
    slot_said = r.said_is i d (at_place ss i d (slot_here lt) ∙ ap Some (sym is))

    pub may_say : (o : Option (Bor Seen)) → is_some o ≡ false → ((e : Entry Seen) → slice_get es i ≡ Some e → option_copied o ≡ e.payload) →
        (stamp : ℕ) → ((e : Entry Seen) → slice_get es i ≡ Some e → Dropped stamp ≡ e.status) → not d.said ≡ true → MayBeSaid before i
    may_say o none held stamp dropped fresh =
        let e = present es i lt in
        record {
          own = e.0;
          at = e.1;
          stamp = stamp;
          dropped = sym (dropped e.0 e.1);
          out = sym (held e.0 e.1) ∙ none_copied o none;
          once = sym slot_said ∙ not_false d.said fresh;
        }

    pub may_not_say : not d.said ≡ false → MayBeSaid before i → ⊥
    may_not_say told m =
        let o : d.said ≡ false = slot_said ∙ m.once in
        let e : not d.said ≡ true = ap not o in
        absurd (cc)

  -- A publish

  module _ (w : ℕ) (q : Summary) (m : MayBeSaid before i) (holds : HoldsBy (reads p.graphs) q)
      (fits : (n : Node) → slice_get (map node_of ss) i ≡ Some n →
      (proc_of q ≡ n.query.proc) × (exit_of q ≡ n.query.exit)) where
    abbrev marked : List Slot
    marked = changed (said_at i) ss

    abbrev event : Stored
    event = stored.Publish w i (length ts)

    nodes_are : map node_of marked ≡ map node_of ss
    nodes_are = map_kept node_of (said_at i) 0 ss (node_same i)

    queries_are : map (λ (x : Slot). x.query.value) marked ≡ map (λ (x : Slot). x.query.value) ss
    queries_are = map_kept (λ (x : Slot). x.query.value) (said_at i) 0 ss (query_same i)

    history_is : history_of marked (ts ++ q ∷ []) (xs ++ event ∷ []) ≡ history_of ss ts xs ++ said w i q ∷ []
    history_is =
        let us : List Summary = ts ++ q ∷ [] in
        let qs : List Query = map (λ (y : Slot). y.query.value) ss in
        history_push marked us xs event
        ∙ (ap (λ (l : List Query). map (told_by l us) xs ++ told_by l us event ∷ []) queries_are
        ∙ (ap (λ (l : List Told). l ++ told_by qs us event ∷ []) (all_longer (length ss) qs ts (q ∷ []) xs r.settled)
        ∙ ap (λ (o : Option Summary). history_of ss ts xs ++ said_as w i o ∷ []) (get_pushed ts q)))

    node_there : (n : Node) × (slice_get (map node_of ss) i ≡ Some n)
    node_there = present (map node_of ss) i (omega (arith, within es i m.own m.at, (board_keeps before h).paired.count))

    pub say_on : GoesOn before (said w i q) (core_of p.core.kept es marked (ts ++ q ∷ []) (xs ++ event ∷ []) st)
    say_on =
        let us : List Summary = ts ++ q ∷ [] in
        let ys : List Stored = xs ++ event ∷ [] in
        let n = node_there in
        let kinds = fits n.0 n.1 in
        goes_on before (said w i q) (core_of p.core.kept es marked us ys st) h
        (record {
          own = m.own;
          node = n.0;
          stamp = m.stamp;
          at = m.at;
          node_at = n.1;
          dropped = m.dropped;
          out = m.out;
          once = m.once;
          holds = holds;
          of_procedure = kinds.0;
          of_exit = kinds.1;
          new_is = ap (λ l. record (core_of p.core.kept es marked us ys st) { history = l }) history_is
              ∙ ap (λ (l : List Node). record (core_of p.core.kept es ss us ys st) {
                nodes = l;
                history = history_of ss ts xs ++ said w i q
                    ∷ [];
              })
              nodes_are;
        })
        (omega (arith, within es i m.own m.at))

    -- the table has room for it
    pub say_room : length ts < most_summaries before
    say_room =
        let k = board_keeps before h in
        let n = node_there in
        let open' = open_node es (map node_of ss) k.paired i m.own n.0 m.at n.1
        (λ z. let e : Dropped m.stamp ≡ Closed = sym m.dropped ∙ z in absurd (cc)) in
        omega (
          arith,
          table_before (reads p.graphs) before.core (nodes_of (reads p.graphs) p.asserts before.core k) i n.0 n.1 open' m.once,
          k.paired.count,
          board_queries before h,
        )

    pub roomy_say : (tr er : ℕ) → tr ≡ t → er ≡ v →
        IsRoomy (record p { core = core_of p.core.kept es marked (ts ++ q ∷ []) (xs ++ event ∷ []) st }) marked (xs ++ event ∷ []) f tr s er
    roomy_say tr er wide same =
        let us : List Summary = ts ++ q ∷ [] in
        let ys : List Stored = xs ++ event ∷ [] in
        let longer : length us ≡ length ts + 1 = length_push ts q in
        let more : length ts ≤ length us = omega (arith, longer) in
        let size : length marked ≡ length ss = length_changed (said_at i) 0 ss in
        record {
          queries = r.queries;
          kept = r.kept;
          summaries = wide ∙ r.summaries;
          happened = omega (arith, r.happened, same);
          settled = λ j x a. subst (λ k. IsSettled k (length us) x) (sym size)
              (⊎_elim
              (λ z. longer_settled (length ss) (length ts) (length us) x more (r.settled j x z))
              (λ z. let le : length ts < length us = omega (arith, longer) in subst (IsSettled (length ss) (length us)) (sym z.1) le)
              (from_pushed xs event j x a));
          handed = λ j y a.
              let x = from_changed (said_at i) ss j y a in
              subst Handed (sym x.2) (cond_both (j == i) (said_slot x.0) x.0 Handed (λ _. r.handed j x.0 x.1) (λ _. r.handed j x.0 x.1));
          shown = λ j y a k e.
              let x = from_changed (said_at i) ss j y a in
              let same : (said_at i j x.0).published ≡ x.0.published =
              cond_both (j == i) (said_slot x.0) x.0 (λ z. z.published ≡ x.0.published) (λ _. refl) (λ _. refl) in
              omega (
                arith,
                r.shown j x.0 x.1 k (sym same ∙ (ap (λ (z : Slot). z.published) (sym x.2) ∙ e)),
                length_push xs event,
              );
          said_is = λ j y a.
              let x = from_changed (said_at i) ss j y a in
              ap (λ (z : Slot). z.said) x.2
              ∙ (said_now (j == i) (has_said (history_of ss ts xs) j) x.0 (r.said_is j x.0 x.1)
              ∙ sym (ap (λ (l : List Told). has_said l j) history_is ∙ said_more (history_of ss ts xs) (said w i q) j));
        }

    -- with what the calls gave
    module _ (ls : List Slot) (are : ls ≡ marked) (us : List Summary) (table : us ≡ ts ++ q ∷ []) (ys : List Stored) (place : ℕ)
        (last : place ≡ length ts) (pushed : ys ≡ xs ++ stored.Publish w i place ∷ []) where
      event_is : ys ≡ xs ++ event ∷ []
      event_is = pushed ∙ ap (λ k. xs ++ stored.Publish w i k ∷ []) last

      pub say_goes : GoesOn before (said w i q) (core_of p.core.kept es ls us ys st)
      say_goes = subst (λ (x : Core Seen). GoesOn before (said w i q) x)
          (sym (ap (λ l. core_of p.core.kept es l us ys st) are ∙ (ap (λ l. core_of p.core.kept es marked l ys st) table
          ∙ ap (λ l. core_of p.core.kept es marked (ts ++ q ∷ []) l st) event_is)))
          say_on

      pub say_is : (x : Shown) → before ≡ x → Publishes x w i q (record p { core = core_of p.core.kept es ls us ys st })
      say_is x same = subst (λ (y : Shown). Publishes y w i q (record p { core = core_of p.core.kept es ls us ys st })) same (record {
        acts = λ _. say_goes.event;
        keeps = λ no. absurd (no m);
      })

      pub say_roomy : (tr er : ℕ) → tr ≡ t → er ≡ v → IsRoomy (record p { core = core_of p.core.kept es ls us ys st }) ls ys f tr s er
      say_roomy tr er wide same = rw (are, table, event_is) (roomy_say tr er wide same)

  -- what the write of a slot makes of them
  pub marked_is : (lt : i < length ss) (d : Slot) → d ≡ get_or ss i d → slice_set ss i (said_slot d) ≡ changed (said_at i) ss
  marked_is lt d is = ap (λ y. slice_set ss i (said_slot y)) is ∙ set_changed said_slot ss i d lt
