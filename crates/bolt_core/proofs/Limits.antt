-- What a closed query of a board closed as, and limits down to those of the solver.
use Rattle.std.proofs.Common.{◌≡◌, ℕ, zero, suc, ◌<◌, ◌≤◌, List, ◌++◌, length, take, drop, false, Option, Some, None, refl, sym, ap, ◌∙◌, subst, ⊎_elim, arith}
use Rattle.std.specs.Prelude.{slice_get}
use Rattle.std.proofs.lemmas.Bool.{cases_lt}
use Rattle.std.proofs.lemmas.List.{length-take-le, take-append-drop, take-append-le}
use Rattle.shadow_elim.specs.RightLimit.{IsRight}
use Rattle.shadow_elim.specs.declared.limit.Kept.{Kept}
use Rattle.shadow_elim.specs.declared.limit.LimitKind.{LimitKind}
use Rattle.may_partition.specs.declared.region.RegionEdge.{RegionEdge}
use Rattle.summary_form.specs.declared.path.Path.{Path}
use Rattle.query_tree.specs.declared.Entry.{Entry}
use Rattle.query_tree.specs.declared.Status.TheVariants.{Closed}
use Rattle.query_tree.specs.Forest.{is_none}
use Rattle.query_tree.proofs.Lists.{present}
use Rattle.query_rules.specs.Seen.{Seen}
use Rattle.query_rules.specs.declared.step.Asked.{Asked}
use Rattle.query_rules.specs.declared.step.Closing.{Closing}
use Rattle.query_rules.specs.declared.step.Closing.TheVariants as closing
use Rattle.query_rules.specs.declared.step.News.{News}
use Rattle.query_rules.specs.declared.step.News.TheVariants as news
use Rattle.query_rules.specs.declared.step.Step.{Step}
use Rattle.query_rules.specs.declared.step.Step.TheVariants as step
use Rattle.query_rules.specs.declared.step.Why.TheVariants as why
use Rattle.bolt_core.specs.declared.slot.ClosedAs.{ClosedAs}
use Rattle.bolt_core.specs.declared.slot.ClosedAs.TheVariants as how
use Rattle.bolt_core.specs.Boards.{IsBoard, Shown}
use Rattle.bolt_core.specs.Groups.{Node}
use Rattle.bolt_core.specs.Histories.{Told, closed_as}
use Rattle.bolt_core.specs.Keeps.{IsPayload, Keeps}
use Rattle.bolt_core.specs.Machine.{IsNews, Reads, closed_how}
use Rattle.bolt_core.specs.States.{IsClosedFor, IsStateFor, reads}
use Rattle.bolt_core.specs.Verdicts.{HitsLimit, IsClosedIn, TellsLimit, hits}
use Rattle.bolt_core.proofs.Agreeing.{closed_append, orelse}
use Rattle.bolt_core.proofs.BoardKeeps.{board_keeps}
use Rattle.bolt_core.proofs.Closings.{HasClosing}
use Rattle.bolt_core.proofs.Firsts.{board_closings}
use Rattle.bolt_core.proofs.StuckSteps.{AllFinal, IsFinal, IsGivenUp, state_final}
use Rattle.bolt_core.proofs.Telling.{all_at}

-- what a query closed as stays, as more events come

closed_front : (xs ys : List Told) (i : ℕ) (o : ClosedAs) → closed_as xs i ≡ Some o → closed_as (xs ++ ys) i ≡ Some o
closed_front xs ys i o e = closed_append xs ys i ∙ ap (λ z. orelse z (closed_as ys i)) e

closed_whole : (h : List Told) (n i : ℕ) (o : ClosedAs) → closed_as (take n h) i ≡ Some o → closed_as h i ≡ Some o
closed_whole h n i o e = ap (λ (xs : List Told). closed_as xs i) (sym (take-append-drop n h)) ∙ closed_front (take n h) (drop n h) i o e

closed_upto : (h : List Told) (m n i : ℕ) (o : ClosedAs) → m ≤ n → n ≤ length h → closed_as (take m h) i ≡ Some o →
    closed_as (take n h) i ≡ Some o
closed_upto h m n i o le in' e =
    let t : List Told = take n h in
    let long : length t ≡ n = length-take-le n h in' in
    let same : take m h ≡ take m t = ap (λ (xs : List Told). take m xs) (sym (take-append-drop n h))
    ∙ take-append-le m t (drop n h) (omega (arith, le, long)) in
    closed_whole t m i o (ap (λ (xs : List Told). closed_as xs i) (sym same) ∙ e)

-- Closings by what was reported

module _ (R : Reads Seen) (level : ℕ) (s : Seen) where
  pub stuck_is : (c : Closing) (kind : LimitKind) → Some (how.Stuck kind) ≡ Some (closed_how R level s c) → c ≡ closing.Stuck kind
  stuck_is closing.NotMay kind e = absurd (cc)
  stuck_is (closing.Must p) kind e = absurd (cc)
  stuck_is (closing.Stuck other) kind e = let v : other ≡ kind = cc in ap closing.Stuck v

  pub must_is : (c : Closing) → Some how.Must ≡ Some (closed_how R level s c) → (p : Path) × (c ≡ closing.Must p)
  must_is closing.NotMay e = absurd (cc)
  must_is (closing.Must p) e = (p, refl)
  must_is (closing.Stuck other) e = absurd (cc)

  pub not_may_is : (c : Closing) (low : Option ℕ) → Some (how.NotMay low) ≡ Some (closed_how R level s c) → c ≡ closing.NotMay
  not_may_is closing.NotMay low e = refl
  not_may_is (closing.Must p) low e = absurd (cc)
  not_may_is (closing.Stuck other) low e = absurd (cc)

module _ (b : Shown) (h : IsBoard b) where
  abbrev R : Reads Seen
  R = reads b.graphs

  keeps : Keeps (reads b.graphs) b.asserts b.core
  keeps = board_keeps b h

  -- the query closed so, with its entry and its node
  pub record IsShut (i : ℕ) (shut : ClosedAs) : Type 0 where
    pub own : Entry Seen
    pub node : Node
    pub at : slice_get b.core.entries i ≡ Some own
    pub node_at : slice_get b.core.nodes i ≡ Some node
    pub closed : own.status ≡ Closed
    pub told : closed_as b.core.history i ≡ Some shut

  pub shut_there : (i : ℕ) (shut : ClosedAs) → closed_as b.core.history i ≡ Some shut → IsShut i shut
  shut_there i shut e = ⊎_elim
      (λ lt.
      let n = present b.core.nodes i lt in
      let x = present b.core.entries i (omega (arith, lt, keeps.paired.count)) in
      let some : n.0.closed ≡ Some shut = keeps.agrees.closed i n.0 n.1 ∙ e in
      let full : is_none n.0.closed ≡ false = ap is_none some in
      record {
        own = x.0;
        node = n.0;
        at = x.1;
        node_at = n.1;
        closed = (keeps.paired.closed i x.0 n.0 x.1 n.1).1 full;
        told = e;
      })
      (λ le. let z : Some shut ≡ None = sym e ∙ keeps.agrees.fresh i le in absurd (cc))
      (cases_lt i (length b.core.nodes))

  pub closing_of : (i : ℕ) (shut : ClosedAs) (w : IsShut i shut) → HasClosing (reads b.graphs) b.core.history i w.own.payload
  closing_of i shut w = (board_closings b h).closings i w.own w.at w.closed

  module _ (i : ℕ) (shut : ClosedAs) (w : IsShut i shut) (z : HasClosing (reads b.graphs) b.core.history i w.own.payload) where
    pub payload_of : IsPayload (reads b.graphs) b.core i w.node w.own.status z.state
    payload_of = keeps.payloads.payloads i w.own w.node w.at w.node_at z.state z.is_payload

    pub state_of : IsStateFor b.graphs b.core.table z.state
    state_of = subst (λ ts. IsStateFor b.graphs ts z.state) keeps.named payload_of.state

    pub same_told : Some shut ≡ Some (closed_how (reads b.graphs) z.state.level z.state z.closing)
    same_told = sym w.told ∙ z.told

    pub closed_in : (c : Closing) → z.closing ≡ c → IsClosedIn b i z.state c
    closed_in c e = record {
      own = w.own;
      node = w.node;
      at = w.at;
      node_at = w.node_at;
      closed = w.closed;
      payload = z.is_payload;
      state = state_of;
      query = payload_of.query;
      is_closed = subst (IsClosedFor b.graphs z.state) e z.is_closed;
      told = z.told ∙ (ap (λ l. Some (closed_how (reads b.graphs) l z.state z.closing)) payload_of.level
          ∙ ap (λ x. Some (closed_how (reads b.graphs) w.node.level z.state x)) e);
    }

    -- each edge that it gave up
    final : (n : ℕ) (s : Step) → slice_get z.state.steps n ≡ Some s → IsFinal z.state.asked s
    final n s a =
        let m = state_of.model in
        let f : AllFinal m = state_final b.graphs state_of.graph b.core.table z.state.query z.state.ancestors m state_of.state in
        subst (λ (xs : List Asked). IsFinal xs s) state_of.shows.asked
        (f n s (ap (λ (xs : List Step). slice_get xs n) state_of.shows.steps ∙ a))

    own_right : (n : ℕ) (k : RegionEdge) (kept : Kept) (seen : ℕ) → slice_get z.state.steps n ≡ Some (step.Stuck k (why.Own kept) seen) →
        IsRight kept
    own_right n k kept seen a = final n (step.Stuck k (why.Own kept) seen) a

    child_told : (n : ℕ) (k : RegionEdge) (number seen : ℕ) →
        slice_get z.state.steps n ≡ Some (step.Stuck k (why.Child number) seen) → TellsLimit z.state number
    child_told n k number seen a =
        let g : IsGivenUp z.state.asked number = final n (step.Stuck k (why.Child number) seen) a in
        record { entry = g.entry; kind = g.kind; there = g.there; is_news = g.is_news }

    -- the child closed before
    child_before : (number : ℕ) (a : Asked) (kind : LimitKind) → slice_get z.state.asked number ≡ Some a → a.news ≡ news.Stuck kind →
        closed_as (take z.place b.core.history) a.child ≡ Some (how.Stuck kind)
    child_before number a kind at is = subst (λ (k : News). IsNews k (closed_as (take z.place b.core.history) a.child)) is
        (all_at (λ (x : Asked). IsNews x.news (closed_as (take z.place b.core.history) x.child)) z.state.asked number a z.news at)

  -- a query that reported a limit before this place closed before it
  place_before : (i : ℕ) (shut : ClosedAs) (payload : Option Seen) (z : HasClosing (reads b.graphs) b.core.history i payload) (n : ℕ) →
      closed_as (take n b.core.history) i ≡ Some shut → z.place < n
  place_before i shut payload z n e = ⊎_elim
      (λ lt. lt)
      (λ le.
      let now : closed_as (take z.place b.core.history) i ≡ Some shut = closed_upto b.core.history n z.place i shut le z.within e in
      let f : Some shut ≡ None = sym now ∙ z.first in absurd (cc))
      (cases_lt z.place n)

  limit_upto : (n i : ℕ) (kind : LimitKind) (w : IsShut i (how.Stuck kind)) → (closing_of i (how.Stuck kind) w).place < n →
      HitsLimit b i kind
  limit_upto zero i kind w lt = absurd (omega (arith, lt))
  limit_upto (suc n) i kind w lt =
      let z = closing_of i (how.Stuck kind) w in
      hits z.state
      (closed_in i (how.Stuck kind) w z (closing.Stuck kind) (stuck_is (reads b.graphs) z.state.level z.state z.closing kind
      (same_told i (how.Stuck kind) w z)))
      (own_right i (how.Stuck kind) w z)
      (child_told i (how.Stuck kind) w z)
      (λ m k number seen a of_child stuck there tells.
      let before = child_before i (how.Stuck kind) w z number a of_child there tells in
      let v : IsShut a.child (how.Stuck of_child) = shut_there a.child (how.Stuck of_child)
      (closed_whole b.core.history z.place a.child (how.Stuck of_child) before) in
      let y = closing_of a.child (how.Stuck of_child) v in
      let less = place_before a.child (how.Stuck of_child) v.own.payload y z.place before in
      limit_upto n a.child of_child v (omega (arith, less, lt)))

  pub limit_of : (i : ℕ) (kind : LimitKind) → IsShut i (how.Stuck kind) → HitsLimit b i kind
  limit_of i kind w = limit_upto (suc (closing_of i (how.Stuck kind) w).place) i kind w (omega arith)
