-- The queries of a board are of its graphs and of its assertions, so their numbers are below the limits of a table.
use Rattle.std.proofs.Common.{◌≡◌, ℕ, suc, ◌+◌, ◌<◌, ◌≤◌, List, [], ◌∷◌, ◌++◌, length, Option, Some, refl, sym, ap, ◌∙◌, subst, ⊎_elim, arith}
use Rattle.std.specs.Prelude.{slice_get}
use Rattle.std.proofs.lemmas.Option.{none-some, same_Some, slice_get_within}
use Rattle.flow_graph.specs.declared.graph.Graph.{Graph}
use Rattle.query_tree.proofs.Lists.{from_changed, from_pushed}
use Rattle.summary_form.specs.declared.query.ExitKind.{ExitKind}
use Rattle.summary_form.specs.declared.query.ExitKind.TheVariants.{Return, Fail}
use Rattle.summary_form.specs.declared.query.Query.{Query}
use Rattle.summary_form.specs.declared.summary.Summary.{Summary}
use Rattle.summary_form.specs.declared.summary.Summary.TheVariants as summary
use Rattle.query_rules.specs.declared.step.Closing.{Closing}
use Rattle.query_rules.specs.declared.step.Closing.TheVariants as closing
use Rattle.summary_table.specs.declared.keys.TheConstants.{MAX_ASSERTIONS, MAX_PROCEDURES}
use Rattle.summary_table.specs.Tables.{IsNumbered, exit_of, proc_of}
use Rattle.query_rules.specs.Seen.{Seen}
use Rattle.bolt_core.specs.Boards.{AreRootsOf, HandsIn, IsBoard, IsOneOf, IsRootOf, Shown}
use Rattle.bolt_core.specs.Groups.{Node, closed_at}
use Rattle.bolt_core.specs.Histories.{Told, asked, closed, fed, parked, said, stopped, took}
use Rattle.bolt_core.specs.steps.Closes.{MayBeAdded}
use Rattle.bolt_core.specs.Machine.{Asks, Core, Event, MayCloseAs, Reached, first_board, node_below, node_of_root, opening, shows}
use Rattle.bolt_core.specs.States.{reads}
use Rattle.bolt_core.proofs.Above.{close_same}
use Rattle.bolt_core.proofs.AskedKinds.{IsKindOf, last_kind}

-- Numbers

pub numbered_by : (p : ℕ) (d : ExitKind) → p < MAX_PROCEDURES → ((id : ℕ) → d ≡ Fail id → id < MAX_ASSERTIONS) → IsNumbered p d
numbered_by p Return low within = low
numbered_by p (Fail id) low within = (low, within id refl)

assertion_low : (p : ℕ) (d : ExitKind) (id : ℕ) → IsNumbered p d → d ≡ Fail id → id < MAX_ASSERTIONS
assertion_low p Return id h e = absurd (cc)
assertion_low p (Fail n) id h e = let same : n ≡ id = cc in subst (λ k. k < MAX_ASSERTIONS) same h.1

-- what ends as a numbered query does, or with a return
numbered_like : (own q : Query) → IsNumbered own.proc own.exit → q.proc < MAX_PROCEDURES → IsKindOf own q → IsNumbered q.proc q.exit
numbered_like own q h low kind = numbered_by q.proc q.exit low (λ id e. ⊎_elim (λ r. let n : Return ≡ Fail id = sym r ∙ e in absurd (cc))
    (λ same. assertion_low own.proc own.exit id h (sym same ∙ e)) kind)

pub numbered_of : (n : Query) (s : Summary) → IsNumbered n.proc n.exit → proc_of s ≡ n.proc → exit_of s ≡ n.exit →
    IsNumbered (proc_of s) (exit_of s)
numbered_of n s h p d = subst (λ e. IsNumbered (proc_of s) e) (sym d) (subst (λ r. IsNumbered r n.exit) (sym p) h)

-- of the graphs and assertions of a board
pub numbered_one : (procedures asserts : ℕ) (s : Summary) → procedures ≤ MAX_PROCEDURES → asserts ≤ MAX_ASSERTIONS →
    IsOneOf procedures asserts s → IsNumbered (proc_of s) (exit_of s)
numbered_one procedures asserts s few small h = numbered_by (proc_of s) (exit_of s) (omega (arith, few, h.procedure))
    (λ id e. let low = h.assertion id e in omega (arith, small, low))

-- what a close of the query hands in
pub handed_numbered : (gs : List Graph) (q : Query) → IsNumbered q.proc q.exit → (c : Closing) → MayCloseAs (reads gs) q c →
    (o : Option Summary) → HandsIn q c o → MayBeAdded o
handed_numbered gs q h closing.NotMay may o e s is =
    let same : summary.NotMay q ≡ s = same_Some _ _ (sym e ∙ is) in subst (λ (x : Summary). IsNumbered (proc_of x) (exit_of x)) same h
handed_numbered gs q h (closing.Must p) may o e s is =
    let same : summary.Must p ≡ s = same_Some _ _ (sym e ∙ is) in
    subst (λ (x : Summary). IsNumbered (proc_of x) (exit_of x)) same
    (numbered_of q (summary.Must p) h may.1.same_procedure may.1.same_exit)
handed_numbered gs q h (closing.Stuck kind) may o e s is = absurd (none-some s (sym e ∙ is))

-- Nodes

abbrev pub AreNumberedAt : List Node → Type 0
AreNumberedAt ns = (i : ℕ) (n : Node) → slice_get ns i ≡ Some n → IsNumbered n.query.proc n.query.exit

numbered_push : (ns : List Node) (x : Node) → AreNumberedAt ns → IsNumbered x.query.proc x.query.exit → AreNumberedAt (ns ++ x ∷ [])
numbered_push ns x h own i n at = ⊎_elim (λ b. h i n b) (λ b. subst (λ (y : Node). IsNumbered y.query.proc y.query.exit) (sym b.1) own)
    (from_pushed ns x i n at)

module _ (gs : List Graph) (small : length gs ≤ MAX_PROCEDURES) where
  asked_numbered : (old : Core Seen) (i n c : ℕ) (q : Query) (e : Told) (new : Core Seen) → AreNumberedAt old.nodes →
      Asks (reads gs) old i n c q e new → IsNumbered q.proc q.exit
  asked_numbered old i n c q e new h a =
      let own = a.sound.node.query in
      let state = a.sound.query in
      let there : slice_get gs q.proc ≡ Some a.fresh.state.graph =
      subst (λ (o : Query). slice_get gs o.proc ≡ Some a.fresh.state.graph) a.fresh.query a.fresh.state.at in
      numbered_like own q (h a.job.id a.sound.node a.sound.node_at)
      (omega (arith, small, slice_get_within gs q.proc a.fresh.state.graph there))
      (subst (λ (o : Query). IsKindOf o q) state (last_kind gs _ a.job.state q a.sound.state a.last))

  event_numbered : (old : Core Seen) (e : Told) (new : Core Seen) → AreNumberedAt old.nodes → Event (reads gs) old e new →
      AreNumberedAt new.nodes
  event_numbered old (took w i left steps waiting) new h t = subst (λ (c : Core Seen). AreNumberedAt c.nodes) (sym t.new_is) h
  event_numbered old (said w i s) new h t = subst (λ (c : Core Seen). AreNumberedAt c.nodes) (sym t.new_is) h
  event_numbered old (asked w i n c q) new h t = subst (λ (d : Core Seen). AreNumberedAt d.nodes) (sym t.new_is)
      (numbered_push old.nodes (node_below (reads gs) i t.sound.node q) h (asked_numbered old i n c q (asked w i n c q) new h t))
  event_numbered old (fed w i n c) new h t = subst (λ (d : Core Seen). AreNumberedAt d.nodes) (sym t.new_is) h
  event_numbered old (parked w i n r) new h t = subst (λ (c : Core Seen). AreNumberedAt c.nodes) (sym t.new_is) h
  event_numbered old (closed w i n how ss) new h t = subst (λ (c : Core Seen). AreNumberedAt c.nodes) (sym t.new_is) (λ k x at.
      let r = from_changed (closed_at old.nodes i how (shows (reads gs) how) t.sound.node.level) old.nodes k x at in
      let same = (close_same old.nodes i how (shows (reads gs) how) t.sound.node.level k r.0).query in
      subst (λ (q : Query). IsNumbered q.proc q.exit) (sym (ap (λ (y : Node). y.query) r.2 ∙ same)) (h k r.0 r.1))
  event_numbered old (stopped w) new h t = subst (λ (c : Core Seen). AreNumberedAt c.nodes) (sym t.2) h

  reached_numbered : (old : Core Seen) (es : List Told) (new : Core Seen) → AreNumberedAt old.nodes → Reached (reads gs) old es new →
      AreNumberedAt new.nodes
  reached_numbered old [] new h r = subst (λ (c : Core Seen). AreNumberedAt c.nodes) (sym r) h
  reached_numbered old (e ∷ es) new h r = reached_numbered r.0 es new (event_numbered old e r.0 h r.1) r.2

  root_numbered : (main id : ℕ) (s : Seen) → id < MAX_ASSERTIONS → IsRootOf gs main id s → IsNumbered s.query.proc s.query.exit
  root_numbered main id s low r = subst (λ (q : Query). IsNumbered q.proc q.exit) r.shows.query
      (omega (arith, small, slice_get_within gs main r.graph r.at), low)

  roots_numbered : (main budget first : ℕ) (ss : List Seen) (c : Core Seen) → first + length ss ≤ MAX_ASSERTIONS → AreNumberedAt c.nodes →
      AreRootsOf gs main first ss → AreNumberedAt (opening (reads gs) budget ss c).nodes
  roots_numbered main budget first [] c few h rs = h
  roots_numbered main budget first (s ∷ ss) c few h rs = roots_numbered main budget (suc first) ss _ (omega (arith, few))
      (numbered_push c.nodes (node_of_root (reads gs) s) h (root_numbered main first s (omega (arith, few)) rs.0)) rs.1

pub board_numbered : (b : Shown) → IsBoard b → AreNumberedAt b.core.nodes
board_numbered b h =
    let o = h.opening in
    let begun : AreNumberedAt (opening (reads b.graphs) b.budget o.roots (first_board (reads b.graphs) h.opened.kept)).nodes =
    roots_numbered b.graphs h.small b.main b.budget 0 o.roots (first_board (reads b.graphs) h.opened.kept) (omega (arith, h.few, o.count))
    (λ i n at. absurd (cc)) o.are_roots in
    reached_numbered b.graphs h.small h.opened b.core.history b.core (subst (λ (c : Core Seen). AreNumberedAt c.nodes) (sym o.is) begun)
    h.reached
