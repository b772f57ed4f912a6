-- What each event keeps of the nodes, the history and the table.
use Rattle.std.proofs.Common.{◌≡◌, ℕ, ◌+◌, ◌-◌, ◌<◌, ◌≤◌, List, [], ◌∷◌, ◌++◌, length, Bool, true, false, Option, Some, None, refl, sym, ap, ◌∙◌, subst, arith, append-nil}
use Rattle.std.specs.Prelude.{slice_get, ◌&&◌}
use Rattle.std.proofs.lemmas.Bool.{false_from_ne_true}
use Rattle.std.proofs.lemmas.List.{length-map}
use Rattle.query_tree.specs.declared.Entry.{Entry}
use Rattle.query_tree.specs.declared.Rest.{Rest}
use Rattle.query_tree.specs.declared.Status.TheVariants.{Running, Closed, Dropped}
use Rattle.query_tree.specs.Forest.{after_close, after_root, after_take, changed, child_of, is_none, is_open, less_at, part, root_of, tally}
use Rattle.query_tree.proofs.Lists.{within, tally_zero}
use Rattle.query_tree.proofs.Tests.{open_rest}
use Rattle.summary_form.specs.declared.query.Query.{Query}
use Rattle.summary_form.specs.declared.summary.Summary.{Summary}
use Rattle.summary_form.specs.declared.summary.Summary.TheVariants as summary
use Rattle.query_rules.specs.declared.step.Closing.{Closing}
use Rattle.query_rules.specs.declared.step.Closing.TheVariants as closing
use Rattle.bolt_core.specs.declared.slot.ClosedAs.{ClosedAs}
use Rattle.bolt_core.specs.declared.slot.ClosedAs.TheVariants as how
use Rattle.bolt_core.specs.Given.{IsGraded}
use Rattle.bolt_core.specs.Groups.{Node, ancestors, closed_at, discharged, group, is_member, leads, queries_at}
use Rattle.bolt_core.specs.Histories.{Told, asked, asks_by, closed, closes_by, fed, has_said, named, parked, said, says_of, stopped, table_of, took}
use Rattle.bolt_core.specs.Keeps.{AreGiven, AreLevelled, ArePaired, AreSaid, GivenBy, Placed, counts_once}
use Rattle.bolt_core.specs.KeptNodes.{KeepsNodes, NodesAreKept}
use Rattle.bolt_core.specs.Lawful.{GivenFrom, IsLawful}
use Rattle.bolt_core.specs.Machine.{AllOf, Asks, Closes, Core, Event, Feeds, HoldsBy, MayCloseAs, Parks, Reads, Says, Takes, appended, closed_how, first_board, node_below, node_of_root, opening, shows, told_child}
use Rattle.bolt_core.proofs.Above.{close_same, levelled_changed, levelled_pushed}
use Rattle.bolt_core.proofs.Agreeing.{asked_agree, closed_agree, pushed_agree, quiet_agree, says_not, kept_push}
use Rattle.bolt_core.proofs.Answering.{IsAnsweredIn, answered_closed, answered_last, answered_longer, answered_pushed}
use Rattle.bolt_core.proofs.Counting.{counted_before, counted_closed, counted_pushed, counted_quiet, counted_said, counted_within, group_length}
use Rattle.bolt_core.proofs.Groups.{close_given}
use Rattle.bolt_core.proofs.Lines.{ancestors_short}
use Rattle.bolt_core.proofs.Pairing.{back_paired, close_paired, feed_paired, less_paired, paired_pushed, take_paired}
use Rattle.bolt_core.proofs.Publishes.{said_more}
use Rattle.bolt_core.proofs.Truths.{all_append, given_closed, given_pushed, group_holds}

none_by : {X : Type 0} (o : Option X) → (is_none o ≡ false → ⊥) → o ≡ None
none_by None f = refl
none_by (Some x) f = absurd (f refl)

module _ {S : Type 0} where
  -- what isn't closed in its entry isn't closed in its node
  pub open_node : (es : List (Entry S)) (ns : List Node) → ArePaired es ns → (i : ℕ) (e : Entry S) (n : Node) →
      slice_get es i ≡ Some e → slice_get ns i ≡ Some n → (e.status ≡ Closed → ⊥) → n.closed ≡ None
  open_node es ns p i e n a b f = none_by n.closed (λ z. f ((p.closed i e n a b).1 z))

  -- of what isn't dropped nothing was said
  pub unsaid_of : (es : List (Entry S)) (h : List Told) → AreSaid es h → (i : ℕ) (e : Entry S) → slice_get es i ≡ Some e →
      ((stamp : ℕ) → e.status ≡ Dropped stamp → ⊥) → has_said h i ≡ false
  unsaid_of es h d i e a f = false_from_ne_true (has_said h i) (λ s.
      let w = d.said i s in
      let same : w.1.own ≡ e = cc in
      f w.0 (subst (λ (x : Entry S). x.status ≡ Dropped w.0) same w.1.dropped))

  pub unsaid_next : (es : List (Entry S)) (h : List Told) → AreSaid es h → (i : ℕ) → length es ≤ i → has_said h i ≡ false
  unsaid_next es h d i le = false_from_ne_true (has_said h i) (λ s.
      let w = d.said i s in
      omega (arith, within es i w.1.own w.1.at, le))

module _ {S : Type 0} (R : Reads S) where
  -- The table

  pub table_within : (c : Core S) → KeepsNodes R c → length c.table ≤ length c.kept + length c.nodes
  table_within c k = counted_within (length c.kept) c.table c.nodes c.history k.counted

  -- there is room for one more, of a query that isn't closed, and of which nothing was said
  pub table_before : (c : Core S) → KeepsNodes R c → (i : ℕ) (n : Node) → slice_get c.nodes i ≡ Some n → n.closed ≡ None →
      has_said c.history i ≡ false → length c.table < length c.kept + length c.nodes
  table_before c k i n at open' unsaid =
      counted_before (length c.kept) c.table c.nodes c.history k.counted i n at (k.counted.silent i n at open') unsaid

  -- Events that change no node

  quiet_kept : (old es : List (Entry S)) (ns : List Node) (ks table : List Summary) (h : List Told) (e : Told) → named e ≡ [] →
      ((i : ℕ) → closes_by i e None ≡ None) → ((i : ℕ) → asks_by i e ≡ []) → ((i : ℕ) → says_of i e ≡ false) →
      (ArePaired old ns → ArePaired es ns) → NodesAreKept R old ns ks table h → NodesAreKept R es ns ks table (h ++ e ∷ [])
  quiet_kept old es ns ks table h e quiet shuts asks says moves k =
      let same : (i : ℕ) → has_said (h ++ e ∷ []) i ≡ has_said h i = λ i. says_not h e i (says i) in
      record {
        paired = moves k.paired;
        levelled = k.levelled;
        agrees = quiet_agree ns h e shuts asks k.agrees;
        named = kept_push ks h e ∙ (ap (λ ss. (ks ++ table_of h) ++ ss) quiet ∙ (append-nil (ks ++ table_of h) ∙ k.named));
        holds = k.holds;
        given = k.given;
        answered = k.answered;
        counted = counted_quiet (length ks) table ns h (h ++ e ∷ []) same k.counted;
      }

  pub take_nodes : (old new : Core S) (w i left steps : ℕ) (waiting : Bool) →
      Takes R old i left steps waiting (took w i left steps waiting) new → KeepsNodes R old → KeepsNodes R new
  take_nodes old new w i left steps waiting t k = subst (KeepsNodes R) (sym t.new_is)
      (quiet_kept old.entries (after_take old.entries i) old.nodes old.kept old.table old.history (took w i left steps waiting) refl
      (λ _. refl) (λ _. refl) (λ _. refl)
      (λ p. take_paired old.entries old.nodes p i t.own t.at t.ready) k)

  pub park_nodes : (old new : Core S) (w i n : ℕ) (r : Rest) → Parks R old i n r (parked w i n r) new → KeepsNodes R old → KeepsNodes R new
  park_nodes old new w i n r t k =
      let at : slice_get old.entries i ≡ Some t.own = subst (λ j. slice_get old.entries j ≡ Some t.own) t.id t.since.at in
      subst (KeepsNodes R) (sym t.new_is)
      (quiet_kept old.entries _ old.nodes old.kept old.table old.history (parked w i n r) refl (λ _. refl) (λ _. refl) (λ _. refl)
      (λ p. back_paired old.entries old.nodes p i t.own at t.since.running n r t.job.state) k)

  pub feed_nodes : (old new : Core S) (w i n c : ℕ) → Feeds R old i n c (fed w i n c) new → KeepsNodes R old → KeepsNodes R new
  feed_nodes old new w i n c t k =
      let at : slice_get old.entries i ≡ Some t.own = subst (λ j. slice_get old.entries j ≡ Some t.own) t.id t.since.at in
      subst (KeepsNodes R) (sym t.new_is)
      (quiet_kept old.entries _ old.nodes old.kept old.table old.history (fed w i n c) refl (λ _. refl) (λ _. refl) (λ _. refl)
      (λ p. feed_paired old.entries old.nodes p i t.own at t.since.running n t.job.state c t.child) k)

  pub stop_nodes : (old new : Core S) (w : ℕ) → Event R old (stopped w) new → KeepsNodes R old → KeepsNodes R new
  stop_nodes old new w t k = subst (KeepsNodes R) (sym t.2)
      (quiet_kept old.entries old.entries old.nodes old.kept old.table old.history (stopped w) refl (λ _. refl) (λ _. refl) (λ _. refl)
      (λ p. p) k)

  -- A Publish

  pub say_nodes : (old new : Core S) (w i : ℕ) (s : Summary) → Says R old i s (said w i s) new → KeepsNodes R old → KeepsNodes R new
  say_nodes old new w i s t k =
      let h : List Told = old.history in
      let e : Told = said w i s in
      let open' : t.node.closed ≡ None = open_node old.entries old.nodes k.paired i t.own t.node t.at t.node_at
      (λ z. let f : Dropped t.stamp ≡ Closed = sym t.dropped ∙ z in absurd (cc)) in
      let next : NodesAreKept R old.entries old.nodes old.kept (old.table ++ s ∷ []) (h ++ e ∷ []) = record {
        paired = k.paired;
        levelled = k.levelled;
        agrees = quiet_agree old.nodes h e (λ _. refl) (λ _. refl) k.agrees;
        named = kept_push old.kept h e ∙ ap (λ ss. ss ++ s ∷ []) k.named;
        holds = all_append (HoldsBy R) old.table (s ∷ []) k.holds (t.holds, tt);
        given = k.given;
        answered = answered_longer old.table (s ∷ []) old.nodes k.answered;
        counted = counted_said (length old.kept) old.table old.nodes h (h ++ e ∷ []) i t.node s t.node_at open' t.once (said_more h e)
            k.counted;
      } in
      subst (KeepsNodes R) (sym t.new_is) next

  -- A query more

  pub pushed_kept : (es : List (Entry S)) (ns : List Node) (ks table : List Summary) (h : List Told) (x : Entry S) (m : Node) →
      x.parent ≡ m.parent → is_open x.status ≡ true → m.closed ≡ None → m.published ≡ false →
      Placed ns (length ns) m.parent m.level → has_said h (length ns) ≡ false → NodesAreKept R es ns ks table h →
      NodesAreKept R (es ++ x ∷ []) (ns ++ m ∷ []) ks table h
  pushed_kept es ns ks table h x m up opens none silent placed unsaid k = record {
    paired = paired_pushed es ns x m up opens none k.paired;
    levelled = levelled_pushed ns m k.levelled placed;
    agrees = pushed_agree ns h m none k.agrees;
    named = k.named;
    holds = k.holds;
    given = given_pushed R ns m k.levelled none k.given;
    answered = answered_pushed table ns m none k.answered;
    counted = counted_pushed (length ks) table ns h m silent unsaid k.counted;
  }

  pub ask_nodes : (old new : Core S) (w i n c : ℕ) (q : Query) → Asks R old i n c q (asked w i n c q) new →
      AreSaid old.entries old.history →
      KeepsNodes R old →
      KeepsNodes R new
  ask_nodes old new w i n c q t d k =
      let h : List Told = old.history in
      let e : Told = asked w i n c q in
      let at : slice_get old.entries i ≡ Some t.own = subst (λ j. slice_get old.entries j ≡ Some t.own) t.id t.since.at in
      let node_at : slice_get old.nodes i ≡ Some t.sound.node =
      subst (λ j. slice_get old.nodes j ≡ Some t.sound.node) t.id t.sound.node_at in
      let m : Node = node_below R i t.sound.node q in
      let child : Entry S = child_of t.own i n t.child in
      let es : List (Entry S) = changed (less_at t.own i n (told_child R t.job.state c) (part (t.own.left - n))) old.entries in
      let moved : NodesAreKept R es old.nodes old.kept old.table h = record {
        paired = less_paired old.entries old.nodes k.paired i t.own at t.since.running n (told_child R t.job.state c)
            (part (t.own.left - n));
        levelled = k.levelled;
        agrees = k.agrees;
        named = k.named;
        holds = k.holds;
        given = k.given;
        answered = k.answered;
        counted = k.counted;
      } in
      let more = pushed_kept es old.nodes old.kept old.table h child m refl (open_rest (part (t.own.left - n))) refl refl
      (within old.nodes i t.sound.node node_at, t.sound.node, node_at, refl)
      (unsaid_next old.entries h d (length old.nodes) (omega (arith, k.paired.count))) moved in
      let same : (j : ℕ) → has_said (h ++ e ∷ []) j ≡ has_said h j = λ j. says_not h e j refl in
      let next : NodesAreKept R (es ++ child ∷ []) (old.nodes ++ m ∷ []) old.kept old.table (h ++ e ∷ []) = record {
        paired = more.paired;
        levelled = more.levelled;
        agrees = asked_agree old.nodes h w i n c q m (t.number ∙ k.paired.count) refl refl refl k.agrees;
        named = kept_push old.kept h e ∙ (append-nil (old.kept ++ table_of h) ∙ k.named);
        holds = more.holds;
        given = more.given;
        answered = more.answered;
        counted = counted_quiet (length old.kept) old.table (old.nodes ++ m ∷ []) h (h ++ e ∷ []) same more.counted;
      } in
      subst (KeepsNodes R) (sym t.new_is)
      (subst (λ ts. NodesAreKept R (es ++ child ∷ []) (old.nodes ++ m ∷ []) old.kept ts (h ++ e ∷ [])) (sym (append-nil old.table)) next)

  -- A Close

  -- what is known of it, and of what it publishes
  record IsTrueClose (ns : List Node) (table : List Summary) (i : ℕ) (n : Node) (shut : ClosedAs) (ss : List Summary) : Type 0 where
    pub known : GivenBy R.nm (ancestors ns i n.parent) n.query (Some shut)
    pub holds : AllOf (HoldsBy R) ss
    pub many : length ss ≡ tally (λ j x. counts_once (leads shut && is_member ns i n.level j)) ns + counts_once (shows R shut)
    pub must : shut ≡ how.Must → IsAnsweredIn (table ++ ss) n.query

  module _ (g : IsGraded R.nm) (ns : List Node) (t : AreLevelled ns) (given : AreGiven R ns) (table : List Summary) (i : ℕ)
      (n : Node) (at : slice_get ns i ≡ Some n) where
    none_member : tally (λ j x. counts_once (false && is_member ns i n.level j)) ns ≡ 0
    none_member = tally_zero 0 ns

    close_low : (low : Option ℕ) → GivenBy R.nm (ancestors ns i n.parent) n.query (Some (how.NotMay low)) →
        IsTrueClose ns table i n (how.NotMay low) (appended R ns i n (how.NotMay low) closing.NotMay)
    close_low None known = record {
      known = known;
      holds = group_holds R g ns t given i n at known;
      many = omega (
        arith,
        length-map (n.query ∷ queries_at ns (group ns i n.level)) summary.NotMay,
        group_length ns t i n at,
      );
      must = λ e. absurd (cc);
    }
    close_low (Some j) known = record {
      known = known;
      holds = tt;
      many = omega (arith, none_member);
      must = λ e. absurd (cc);
    }

    close_as : (s : S) (c : Closing) → MayCloseAs R n.query c →
        (c ≡ closing.NotMay → GivenFrom R.nm (ancestors ns i n.parent ++ n.query ∷ []) n.query (R.lowest s)) →
        IsTrueClose ns table i n (closed_how R n.level s c) (appended R ns i n (closed_how R n.level s c) c)
    close_as s closing.NotMay may gives = close_low (discharged n.level (R.lowest s))
        (close_given R.nm g (ancestors ns i n.parent) n.query n.level (ancestors_short ns t i n at) (R.lowest s) (gives refl))
    close_as s (closing.Must p) may gives = record {
      known = tt;
      holds = (may.0, tt);
      many = omega (arith, none_member);
      must = λ _. answered_last table n.query p may.1;
    }
    close_as s (closing.Stuck kind) may gives = record {
      known = tt;
      holds = tt;
      many = omega (arith, none_member);
      must = λ e. absurd (cc);
    }

  pub close_nodes : IsLawful R → (old new : Core S) (w i n : ℕ) (shut : ClosedAs) (ss : List Summary) →
      Closes R old i n shut ss (closed w i n shut ss) new → AreSaid old.entries old.history → KeepsNodes R old →
      KeepsNodes R new
  close_nodes g old new w i n shut ss t d k =
      let h : List Told = old.history in
      let e : Told = closed w i n shut ss in
      let ns : List Node = old.nodes in
      let own : Node = t.sound.node in
      let s : S = t.job.state in
      let at : slice_get old.entries i ≡ Some t.own = subst (λ j. slice_get old.entries j ≡ Some t.own) t.id t.since.at in
      let node_at : slice_get ns i ≡ Some own = subst (λ j. slice_get ns j ≡ Some own) t.id t.sound.node_at in
      let open' : own.closed ≡ None = open_node old.entries ns k.paired i t.own own at node_at
      (λ z. let f : Running ≡ Closed = sym t.since.running ∙ z in absurd (cc)) in
      let unsaid : has_said h i ≡ false = unsaid_of old.entries h d i t.own at
      (λ m z. let f : Running ≡ Dropped m = sym t.since.running ∙ z in absurd (cc)) in
      let above : R.above s ≡ ancestors ns i own.parent =
      t.sound.above ∙ ap (λ j. ancestors ns j own.parent) t.id in
      let true' : AllOf (HoldsBy R) (old.kept ++ table_of h) = subst (AllOf (HoldsBy R)) (sym k.named) k.holds in
      let gives : t.closing ≡ closing.NotMay → GivenFrom R.nm (ancestors ns i own.parent ++ own.query ∷ []) own.query (R.lowest s) =
      λ c. subst (λ qs. GivenFrom R.nm (qs ++ own.query ∷ []) own.query (R.lowest s)) above
      (subst (λ q. GivenFrom R.nm (R.above s ++ q ∷ []) q (R.lowest s)) t.sound.query
      (g.gives (old.kept ++ table_of h) s t.sound.state true' (subst (R.IsClosed s) c t.is_closed))) in
      let may : MayCloseAs R own.query t.closing = subst (λ q. MayCloseAs R q t.closing) t.sound.query t.may in
      let first : IsTrueClose ns old.table i own (closed_how R own.level s t.closing)
      (appended R ns i own (closed_how R own.level s t.closing) t.closing) =
      close_as g.graded ns k.levelled k.given old.table i own node_at s t.closing may gives in
      let told : IsTrueClose ns old.table i own shut (appended R ns i own shut t.closing) =
      subst (λ c. IsTrueClose ns old.table i own c (appended R ns i own c t.closing)) (sym t.told) first in
      let f : IsTrueClose ns old.table i own shut ss = subst (IsTrueClose ns old.table i own shut) (sym t.appends) told in
      let same : (j : ℕ) → has_said (h ++ e ∷ []) j ≡ has_said h j = λ j. says_not h e j refl in
      let next : NodesAreKept R (after_close old.entries t.own i n s (length h)) (changed (closed_at ns i shut (shows R shut) own.level) ns)
      old.kept (old.table ++ ss) (h ++ e ∷ []) = record {
        paired = close_paired old.entries i t.own at t.since.running n s (length h) ns shut (shows R shut) own.level k.paired;
        levelled = levelled_changed ns (closed_at ns i shut (shows R shut) own.level) (close_same ns i shut (shows R shut) own.level)
            k.levelled;
        agrees = closed_agree ns h w i n shut ss (shows R shut) own.level own node_at open' k.agrees;
        named = kept_push old.kept h e ∙ ap (λ ts. ts ++ ss) k.named;
        holds = all_append (HoldsBy R) old.table ss k.holds f.holds;
        given = given_closed R ns k.given i own node_at shut (shows R shut) f.known;
        answered = answered_closed (old.table ++ ss) ns i own shut (shows R shut) own.level node_at f.must
            (answered_longer old.table ss ns k.answered);
        counted = counted_closed ns h (h ++ e ∷ []) i own node_at open' unsaid same shut (shows R shut) (length old.kept) old.table ss
            k.counted f.many;
      } in
      subst (KeepsNodes R) (sym t.new_is) next

  -- Each event

  pub event_nodes : IsLawful R → (old : Core S) (e : Told) (new : Core S) → Event R old e new → AreSaid old.entries old.history →
      KeepsNodes R old → KeepsNodes R new
  event_nodes g old (took w i left steps waiting) new t d k = take_nodes old new w i left steps waiting t k
  event_nodes g old (said w i s) new t d k = say_nodes old new w i s t k
  event_nodes g old (asked w i n c q) new t d k = ask_nodes old new w i n c q t d k
  event_nodes g old (fed w i n c) new t d k = feed_nodes old new w i n c t k
  event_nodes g old (parked w i n r) new t d k = park_nodes old new w i n r t k
  event_nodes g old (closed w i n shut ss) new t d k = close_nodes g old new w i n shut ss t d k
  event_nodes g old (stopped w) new t d k = stop_nodes old new w t k

  -- Roots

  pub root_nodes : (c : Core S) (grant : ℕ) (s : S) → c.history ≡ [] → KeepsNodes R c →
      NodesAreKept R (after_root c.entries grant s) (c.nodes ++ node_of_root R s ∷ []) c.kept c.table c.history
  root_nodes c grant s none k = pushed_kept c.entries c.nodes c.kept c.table c.history (root_of (length c.entries) grant s)
      (node_of_root R s)
      refl refl refl refl refl (ap (λ h. has_said h (length c.nodes)) none) k

  pub opening_nodes : (grant : ℕ) (ss : List S) (c : Core S) → c.history ≡ [] → KeepsNodes R c → KeepsNodes R (opening R grant ss c)
  opening_nodes grant [] c none k = k
  opening_nodes grant (s ∷ ss) c none k = opening_nodes grant ss (record c {
    entries = after_root c.entries grant s;
    nodes = c.nodes ++ node_of_root R s ∷ [];
  }) none (root_nodes c grant s none k)

  pub empty_nodes : (ks : List Summary) → AllOf (HoldsBy R) ks → KeepsNodes R (first_board R ks)
  empty_nodes ks holds = record {
    paired = record {
      count = refl;
      parents = λ i e n a b. absurd (cc);
      closed = λ i e n a b. absurd (cc);
    };
    levelled = record { placed = λ i n a. absurd (cc) };
    agrees = record { closed = λ i n a. absurd (cc); asked = λ i. tt; fresh = λ i le. refl };
    named = append-nil ks;
    holds = holds;
    given = record { given = λ i n a. absurd (cc) };
    answered = record { answered = λ i n a c. absurd (cc) };
    counted = record { counted = omega arith; apart = λ i n a e. absurd (cc); silent = λ i n a o. absurd (cc) };
  }
