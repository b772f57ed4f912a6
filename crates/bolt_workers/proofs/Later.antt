-- What holds of a board holds of each later one: jobs that are out, and the end.
use Rattle.std.proofs.Common.{◌≡◌, ℕ, zero, suc, List, [], ◌∷◌, ◌++◌, length, true, not, Some, refl, sym, ap, ◌∙◌, subst, append_assoc, arith}
use Rattle.std.specs.Prelude.{slice_get}
use Rattle.std.proofs.Math.Bool.{or-true}
use Rattle.std.proofs.lemmas.Bool.{both_ways, not-true}
use Rattle.std.proofs.lemmas.Option.{same_Some}
use Rattle.query_tree.specs.declared.Entry.{Entry}
use Rattle.query_tree.specs.Forest.{has_live, is_live}
use Rattle.flow_graph.specs.declared.graph.Graph.{Graph}
use Rattle.summary_form.specs.declared.summary.Summary.{Summary}
use Rattle.summary_table.specs.Tables.{StartsWith as FrontOf}
use Rattle.query_rules.specs.Seen.{Seen}
use Rattle.bolt_core.specs.declared.job.Job.{Job as Given}
use Rattle.bolt_core.specs.Boards.{IsBoard, Shown}
use Rattle.bolt_core.specs.Groups.{Node}
use Rattle.bolt_core.specs.Histories.{Told, asked, closed, fed, parked, said, stopped, took}
use Rattle.bolt_core.specs.Machine.{Core, Event, Reached, Reads, first_board, is_over}
use Rattle.bolt_core.specs.States.{reads}
use Rattle.bolt_core.proofs.Staying.{reached_history, reached_kept}
use Rattle.bolt_rounds.specs.declared.moves.Move.{Move}
use Rattle.bolt_rounds.specs.declared.moves.Move.TheVariants as move
use Rattle.bolt_rounds.specs.Moves.{MayBeShown, MayMove}
use Rattle.bolt_rounds.proofs.Shown.{moves_keep}
use Rattle.bolt_rounds.proofs.Rounding.{reached_front}
use Rattle.bolt_workers.specs.Later.{AreAlike, EndsStay, IsLater, JobsWait}
use Rattle.bolt_workers.proofs.Alike.{histories_tell, opening_history, reached_parts, with_core}
use Rattle.bolt_workers.proofs.Bare.{lives_alike}

-- The end

live_there : {S : Type 0} (es : List (Entry S)) (i : ℕ) (e : Entry S) → slice_get es i ≡ Some e → is_live e.status ≡ true → has_live es
    ≡ true
live_there [] i e a l = absurd (cc)
live_there (x ∷ es) zero e a l =
    let o : x ≡ e = same_Some x e a in
    rw (ap (λ (y : Entry _). is_live y.status) o ∙ l) refl
live_there (x ∷ es) (suc i) e a l = rw (live_there es i e a l) (or-true (is_live x.status))

module _ {S : Type 0} (R : Reads S) where
  -- where nothing is live no event needs a live query
  not_live : (c : Core S) (i : ℕ) (own : Entry S) → is_over R c ≡ true → slice_get c.entries i ≡ Some own → is_live own.status ≡ true → ⊥
  not_live c i own o at l = both_ways (has_live c.entries) (not-true (has_live c.entries) o) (live_there c.entries i own at l)

  over_step : (c d : Core S) (e : Told) → Event R c e d → is_over R c ≡ true → is_over R d ≡ true
  over_step c d (took w i left steps waiting) t o = absurd (not_live c i t.own o t.at (ap is_live t.ready))
  over_step c d (said w i s) t o = ap (λ (x : Core S). is_over R x) t.new_is ∙ o
  over_step c d (asked w i n child q) t o = absurd (not_live c t.job.id t.own o t.since.at (ap is_live t.since.running))
  over_step c d (fed w i n child) t o = absurd (not_live c t.job.id t.own o t.since.at (ap is_live t.since.running))
  over_step c d (parked w i n r) t o = absurd (not_live c t.job.id t.own o t.since.at (ap is_live t.since.running))
  over_step c d (closed w i n how ss) t o = absurd (not_live c t.job.id t.own o t.since.at (ap is_live t.since.running))
  over_step c d (stopped w) t o = absurd (both_ways (is_over R c) t.0 o)

  stop_step : (c d : Core S) (e : Told) → Event R c e d → c.is_stopped ≡ true → d.is_stopped ≡ true
  stop_step c d (took w i left steps waiting) t s = ap (λ (x : Core S). x.is_stopped) t.new_is ∙ s
  stop_step c d (said w i s') t s = ap (λ (x : Core S). x.is_stopped) t.new_is ∙ s
  stop_step c d (asked w i n child q) t s = ap (λ (x : Core S). x.is_stopped) t.new_is ∙ s
  stop_step c d (fed w i n child) t s = ap (λ (x : Core S). x.is_stopped) t.new_is ∙ s
  stop_step c d (parked w i n r) t s = ap (λ (x : Core S). x.is_stopped) t.new_is ∙ s
  stop_step c d (closed w i n how ss) t s = ap (λ (x : Core S). x.is_stopped) t.new_is ∙ s
  stop_step c d (stopped w) t s = ap (λ (x : Core S). x.is_stopped) t.2

  over_stays : (es : List Told) (c d : Core S) → Reached R c es d → is_over R c ≡ true → is_over R d ≡ true
  over_stays [] c d r o = ap (λ (x : Core S). is_over R x) r ∙ o
  over_stays (e ∷ es) c d r o = over_stays es r.0 d r.2 (over_step c r.0 e r.1 o)

  stop_stays : (es : List Told) (c d : Core S) → Reached R c es d → c.is_stopped ≡ true → d.is_stopped ≡ true
  stop_stays [] c d r s = ap (λ (x : Core S). x.is_stopped) r ∙ s
  stop_stays (e ∷ es) c d r s = stop_stays es r.0 d r.2 (stop_step c r.0 e r.1 s)

-- The board at which a later one passed by

-- a board of the old one's program and history, from which events lead to the new one
pub record PassedBy (old new : Shown) : Type 0 where
  pub mid : Core Seen
  pub board : IsBoard (record old { core = mid })
  pub alike : AreAlike old.core mid
  pub rest : List Told
  pub reached : Reached (reads old.graphs) mid rest new.core

pub passed_by : (old new : Shown) → IsLater old new → PassedBy old new
passed_by old new l =
    let R = reads old.graphs in
    let b : IsBoard (record old { core = new.core }) = subst IsBoard (sym (with_core old new l.same)) l.is_new in
    let p = reached_parts R old.core.history l.begins.rest b.opened new.core
    (subst (λ (h : List Told). Reached R b.opened h new.core) l.begins.is b.reached) in
    let none : b.opened.history ≡ [] =
    ap (λ (c : Core Seen). c.history) b.opening.is ∙ opening_history R old.budget b.opening.roots (first_board R b.opened.kept) in
    let h : p.0.history ≡ old.core.history =
    reached_history R b.opened p.0 old.core.history p.1 ∙ ap (λ (xs : List Told). xs ++ old.core.history) none in
    let board : IsBoard (record old { core = p.0 }) = record {
      linked = b.linked;
      small = b.small;
      graph = b.graph;
      main = b.main;
      few = b.few;
      some = b.some;
      most = b.most;
      few_kept = omega (
        arith,
        b.few_kept,
        ap (λ (ks : List Summary). length ks) (reached_kept R b.opened p.0 old.core.history p.1),
        ap (λ (ks : List Summary). length ks) (reached_kept R b.opened new.core new.core.history b.reached),
      );
      opened = b.opened;
      opening = record {
        roots = b.opening.roots;
        count = b.opening.count;
        are_roots = b.opening.are_roots;
        kept_hold = b.opening.kept_hold;
        is = b.opening.is;
      };
      reached = subst (λ (xs : List Told). Reached R b.opened xs p.0) (sym h) p.1;
    } in
    record {
      mid = p.0;
      board = board;
      alike = histories_tell old (record old { core = p.0 }) l.is_old board
          (record {
            graphs = refl;
            main = refl;
            asserts = refl;
            budget = refl;
            kept = reached_kept R b.opened p.0 old.core.history p.1
                ∙ (sym (reached_kept R b.opened new.core new.core.history b.reached) ∙ l.same.kept);
          })
          h;
      rest = l.begins.rest;
      reached = p.2;
    }

pub ends_stay : EndsStay
ends_stay old new l =
    let f = passed_by old new l in
    let R = reads old.graphs in
    let over : is_over R old.core ≡ true → is_over R new.core ≡ true =
    λ o. over_stays R f.rest f.mid new.core f.reached
    (ap not (sym (lives_alike old.core.entries f.mid.entries f.alike.entries)) ∙ o) in (
      λ o. subst (λ (gs : List Graph). is_over (reads gs) new.core ≡ true) (sym l.same.graphs) (over o),
      λ s. stop_stays R f.rest f.mid new.core f.reached (sym f.alike.stopped ∙ s),
    )

-- Jobs

-- what a call asks of a job is asked of history, nodes and table alone
module _ (b : Shown) (c : Core Seen) (a : AreAlike b.core c) where
  -- the other board, in the words of this one
  abbrev twin : Core Seen
  twin = record c { history = b.core.history; nodes = b.core.nodes; kept = b.core.kept; table = b.core.table }

  is_twin : twin ≡ c
  is_twin =
      ap (λ (h : List Told). record c { history = h; nodes = b.core.nodes; kept = b.core.kept; table = b.core.table }) a.history
      ∙ (ap (λ (ns : List Node). record c { nodes = ns; kept = b.core.kept; table = b.core.table }) a.nodes
      ∙ (ap (λ (ks : List Summary). record c { kept = ks; table = b.core.table }) a.kept
      ∙ ap (λ (ts : List Summary). record c { table = ts }) a.table))

  moves_twin : (j : Given) (m : Move) → MayMove b j m → MayMove (record b { core = twin }) j m
  moves_twin j (move.Ask child query) h = record { sound = h.sound; made = h.made; last = h.last; fresh = h.fresh }
  moves_twin j (move.Feed number) h = record { sound = h.sound; made = h.made; last = h.last }
  moves_twin j (move.Park r) h = record { sound = h.sound; may = h.may; no_ask = h.no_ask }
  moves_twin j (move.Close how summary) h = (record { sound = h.0.sound; is_closed = h.0.is_closed; may = h.0.may }, h.1)

  pub moves_alike : (j : Given) (m : Move) → MayMove b j m → MayMove (record b { core = c }) j m
  moves_alike j m h = subst (λ (x : Core Seen). MayMove (record b { core = x }) j m) is_twin (moves_twin j m h)

  pub shown_alike : (j : Given) (s : Summary) → MayBeShown b j s → MayBeShown (record b { core = c }) j s
  shown_alike j s h = subst (λ (x : Core Seen). MayBeShown (record b { core = x }) j s) is_twin (record {
    node = h.node;
    at = h.at;
    holds = h.holds;
    proc = h.proc;
    exit = h.exit;
  })

pub table_later : (old new : Shown) → IsLater old new → FrontOf new.core.table old.core.table
table_later old new l =
    let f = passed_by old new l in
    subst (FrontOf new.core.table) (sym f.alike.table) (reached_front (reads old.graphs) f.mid f.rest new.core f.reached)

pub front_later : (old new : Shown) (known : List Summary) → IsLater old new → FrontOf old.core.table known → FrontOf new.core.table known
front_later old new known l k =
    let h = table_later old new l in
    record {
      rest = k.rest ++ h.rest;
      is = h.is ∙ (ap (λ (ts : List Summary). ts ++ h.rest) k.is ∙ append_assoc known k.rest h.rest);
    }

pub jobs_wait : JobsWait
jobs_wait old new l =
    let f = passed_by old new l in
    let mid : Shown = record old { core = f.mid } in (
      λ j m h. (moves_keep mid new f.rest j f.board l.same.graphs f.reached).0 m (moves_alike old f.mid f.alike j m h),
      λ j s h. (moves_keep mid new f.rest j f.board l.same.graphs f.reached).1 s (shown_alike old f.mid f.alike j s h),
      table_later old new l,
    )
