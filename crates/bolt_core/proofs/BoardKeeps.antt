-- What is kept is true of every board that events lead to.
use Rattle.std.proofs.Common.{◌≡◌, ℕ, suc, ◌^◌, ◌<◌, ◌≤◌, List, [], ◌∷◌, length, Some, refl, sym, ap, ◌∙◌, subst, arith}
use Rattle.std.specs.Prelude.{slice_get}
use Rattle.flow_graph.specs.declared.graph.Graph.{Graph}
use Rattle.query_rules.specs.Seen.{Seen}
use Rattle.query_rules.specs.declared.step.Step.{Step}
use Rattle.summary_form.specs.declared.query.Query.{Query}
use Rattle.summary_form.specs.declared.summary.Summary.{Summary}
use Rattle.summary_form.specs.Instances.{arity_in}
use Rattle.summary_form.specs.NotMays.{Fits}
use Rattle.query_rules.specs.Steps.{Model, begin_model}
use Rattle.bolt_core.specs.Boards.{AreRootsOf, IsBoard, IsRootOf, Shown, root_query}
use Rattle.bolt_core.specs.Histories.{Told}
use Rattle.bolt_core.specs.Keeps.{ArePayloads, Keeps}
use Rattle.bolt_core.specs.KeptEntries.{KeepsEntries}
use Rattle.bolt_core.specs.KeptNodes.{KeepsNodes}
use Rattle.bolt_core.specs.Lawful.{IsLawful}
use Rattle.bolt_core.specs.Machine.{AllOf, Core, Event, HoldsBy, IsRoot, Reached, Reads, first_board, opening}
use Rattle.bolt_core.specs.States.{reads}
use Rattle.bolt_core.proofs.Entries.{keeps_entries}
use Rattle.bolt_core.proofs.Nodes.{empty_nodes, event_nodes, opening_nodes}
use Rattle.bolt_core.proofs.Openings.{opening_entries}
use Rattle.bolt_core.proofs.Payloads.{event_payloads, opening_payloads}
use Rattle.bolt_core.proofs.StatesLawful.{states_lawful}
use Rattle.bolt_core.proofs.Truths.{all_map}

module _ {S : Type 0} (R : Reads S) where
  pub nodes_of : (roots : ℕ) (c : Core S) → Keeps R roots c → KeepsNodes R c
  nodes_of roots c k = record {
    paired = k.paired;
    levelled = k.levelled;
    agrees = k.agrees;
    named = k.named;
    holds = k.holds;
    given = k.given;
    answered = k.answered;
    counted = k.counted;
  }

  pub keeps_from : (roots : ℕ) (c : Core S) → KeepsEntries R roots c → KeepsNodes R c → ArePayloads R c → Keeps R roots c
  keeps_from roots c e n p = record {
    kept = e.kept;
    stocked = e.stocked;
    stored = e.stored;
    room = e.room;
    linked = e.linked;
    paired = n.paired;
    levelled = n.levelled;
    agrees = n.agrees;
    named = n.named;
    holds = n.holds;
    given = n.given;
    answered = n.answered;
    counted = n.counted;
    said = e.said;
    payloads = p;
    ended = e.ended;
  }

  pub event_keeps : IsLawful R → (roots : ℕ) (old new : Core S) (e : Told) → Keeps R roots old → Event R old e new → Keeps R roots new
  event_keeps g roots old new e k t =
      let n : KeepsNodes R old = nodes_of roots old k in
      keeps_from roots new (keeps_entries R roots g old new e k t) (event_nodes R g old e new t k.said n)
      (event_payloads R g old n k.linked k.payloads e new t)

  pub opening_keeps : IsLawful R → (grant : ℕ) → 1 ≤ grant → grant < 2 ^ 32 → (ss : List S) → AllOf (IsRoot R) ss → (ks : List Summary) →
      AllOf (HoldsBy R) ks → Keeps R (length ss) (opening R grant ss (first_board R ks))
  opening_keeps g grant some fits ss rs ks holds = keeps_from (length ss) (opening R grant ss (first_board R ks))
      (opening_entries R grant some fits ss ks (all_map (IsRoot R) (λ s. R.steps s ≡ 0) (λ s r. r.none) ss rs))
      (opening_nodes R grant ss (first_board R ks) refl (empty_nodes R ks holds))
      (opening_payloads R g grant ss ks holds rs)

  pub reached_keeps : IsLawful R → (roots : ℕ) (old : Core S) (es : List Told) (new : Core S) → Reached R old es new →
      Keeps R roots old → Keeps R roots new
  reached_keeps g roots old [] new r k = subst (Keeps R roots) (sym r) k
  reached_keeps g roots old (e ∷ es) new r k =
      reached_keeps g roots r.0 es new r.2 (event_keeps g roots old r.0 e k r.1)

-- Boards

module _ (gs : List Graph) (main : ℕ) where
  root_is : (id : ℕ) (s : Seen) → IsRootOf gs main id s → IsRoot (reads gs) s
  root_is id s r =
      let m : Model = begin_model r.graph (root_query main id) [] in
      record {
        state = record {
          graph = r.graph;
          model = m;
          at = subst (λ q. slice_get gs q.proc ≡ Some r.graph) r.shows.query r.at;
          shows = r.shows;
          state = record {
            at = subst (λ q. slice_get gs q.proc ≡ Some r.graph) r.shows.query r.at;
            fits = subst (λ q. Fits q.proc (arity_in gs q.proc) q) r.shows.query (record {
              of_procedure = refl;
              start_names = refl;
              end_names = refl;
              start_terms = refl;
              end_terms = refl;
            });
            happenings = [];
            happen = tt;
            reached = ap (λ q. begin_model r.graph q []) r.shows.query ∙ ap (begin_model r.graph s.query) r.shows.ancestors;
          };
        };
        none = ap (λ (steps : List Step). length steps) (sym r.shows.steps);
        level = r.shows.level ∙ ap (λ (qs : List Query). length qs) (sym r.shows.ancestors);
        above = sym r.shows.ancestors;
      }

  pub roots_are : (first : ℕ) (ss : List Seen) → AreRootsOf gs main first ss → AllOf (IsRoot (reads gs)) ss
  roots_are first [] rs = tt
  roots_are first (s ∷ ss) rs = (root_is first s rs.0, roots_are (suc first) ss rs.1)

pub board_keeps : (b : Shown) → IsBoard b → Keeps (reads b.graphs) b.asserts b.core
board_keeps b h =
    let g : IsLawful (reads b.graphs) = states_lawful b.graphs h.linked in
    let o = h.opening in
    let begun : Keeps (reads b.graphs) (length o.roots)
    (opening (reads b.graphs) b.budget o.roots (first_board (reads b.graphs) h.opened.kept)) =
    opening_keeps (reads b.graphs) g b.budget h.some (omega (arith, h.most)) o.roots (roots_are b.graphs b.main 0 o.roots o.are_roots)
    h.opened.kept o.kept_hold in
    reached_keeps (reads b.graphs) g b.asserts h.opened b.core.history b.core h.reached
    (subst (Keeps (reads b.graphs) b.asserts) (sym o.is)
    (subst (λ n. Keeps (reads b.graphs) n (opening (reads b.graphs) b.budget o.roots (first_board (reads b.graphs) h.opened.kept))) o.count
    begun))
