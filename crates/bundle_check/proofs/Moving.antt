-- Each move keeps what makes a claim true: as the steps of a query do, where the claims are the levels on
-- which it may lean.
use Rattle.std.proofs.Common.{◌≡◌, ⊎_elim, ℕ, zero, suc, List, [], ◌∷◌, ◌++◌, map, drop, Option, Some, None, refl, sym, subst, ap}
use Rattle.std.specs.Prelude.{slice_get, IsTrue}
use Rattle.std.specs.List.{list_all}
use Rattle.std.specs.Option.{option_map}
use Rattle.std.proofs.lemmas.Option.{none-some, slice_get_within}
use Rattle.linear_formula.specs.declared.formula.Atom.{Atom}
use Rattle.infeasible_cert.specs.Refutation.{Refutation}
use Rattle.flow_graph.specs.declared.graph.Graph.{Graph}
use Rattle.flow_graph.specs.Linked.{AreGraphs}
use Rattle.flow_graph.specs.WellFormed.{IsGraph}
use Rattle.flow_graph.specs.Runs.{GraphRun}
use Rattle.summary_form.specs.declared.query.Query.{Query}
use Rattle.summary_form.specs.Answering.{AnswersNo}
use Rattle.summary_form.specs.Instances.{graph_runs, arity_of}
use Rattle.summary_form.specs.NotMays.{Fits}
use Rattle.may_partition.specs.declared.region.RegionEdge.{RegionEdge}
use Rattle.may_partition.specs.Parted.{Parted, begin_parted, can_negate, kill_edge, split_edge}
use Rattle.may_partition.proofs.Pieces.{get_left, holds_split}
use Rattle.call_bridge.specs.Laws.{IsRegion}
use Rattle.query_rules.specs.Conditional.{AllNotMay, Gives}
use Rattle.query_rules.specs.Leaning.{least, levels_of}
use Rattle.query_rules.specs.Paths.{HasNoPath}
use Rattle.query_rules.specs.Rows.{AsksAt, CallAt, rows_of_query}
use Rattle.query_rules.specs.Rows as rows
use Rattle.query_rules.specs.Steps.{Model}
use Rattle.query_rules.specs.invariants.Keeping.{core_of}
use Rattle.query_rules.proofs.Killing.{cut_by, idle_refuted}
use Rattle.query_rules.proofs.Preimages.{both_fit}
use Rattle.query_rules.proofs.Reaching.{Good, apart_ends, asks_of, entry_idle, not_outside, pre_region, predicts, source_node}
use Rattle.query_rules.proofs.Stepping.{begin_keeps, closed_alone, closed_given, keeps_kill, keeps_split, kill_ancestor}
use Rattle.query_rules.proofs.Walking.{not_end}
use Rattle.proof_bundle.specs.Claims.{PureClaim, PureMove, split, kill, kill_call}
use Rattle.bundle_check.specs.RightClaims.{AllMove, Between, HasAsked, Kills, KillsCall, Moves, SplitsByPreimage, SplitsRegion, asked_query, moved, moved_all}
use Rattle.bundle_check.proofs.Showing.{all_among_hold, entailed, own_region, refuted_never, region_among}

-- the state of a query whose ancestors are the queries of the claims
abbrev pub state_of : Query → List Query → Parted → Option ℕ → Model
state_of q claims p lowest = record {
  query = q;
  ancestors = claims;
  steps = [];
  parted = p;
  trails = [];
  marks = [];
  asked = [];
  lowest = lowest;
}

module _ (gs : List Graph) (linked : AreGraphs gs) (g : Graph) (q : Query) (queries : List Query) where
  abbrev pub Holding : Parted → Type 0
  Holding p = (lowest : Option ℕ) × Good gs linked g (state_of q queries p lowest)

  pub begins : slice_get gs q.proc ≡ Some g → Fits q.proc (arity_of (Some g)) q → Holding (begin_parted g q)
  begins at fits = (None, record { at = at; fits = fits; keeps = begin_keeps gs g q g.well_formed fits (levels_of queries q) })

  query_at : (number : ℕ) (c : PureClaim) (cs : List PureClaim) → slice_get cs number ≡ Some c →
      slice_get (map (λ (c : PureClaim). c.query) cs) number ≡ Some c.query
  query_at number c [] e = absurd (none-some c e)
  query_at zero c (d ∷ cs) e = ap (λ (o : Option PureClaim). option_map (λ (c : PureClaim). c.query) o) e
  query_at (suc number) c (d ∷ cs) e = query_at number c cs e

  module _ (p : Parted) (lowest : Option ℕ) (h : Good gs linked g (state_of q queries p lowest)) where
    abbrev state : Model
    state = state_of q queries p lowest

    ok : IsGraph g.nodes g.exit g.fail g.params g.exits g.slots g.edges
    ok = g.well_formed

    abbrev between_of : {k : RegionEdge} → Between g p k → rows.Between g state k
    between_of b = record {
      edge = b.edge;
      source = b.source;
      target = b.target;
      at_edge = b.at_edge;
      at_source = b.at_source;
      at_target = b.at_target;
    }

    -- Kills
    kills : (k : RegionEdge) (c : Refutation) → Kills g p k c → Holding (kill_edge k p)
    kills k c l =
        let b = between_of l.pre.between in
        let w = predicts gs linked g state h k l.live b l.pre.plain l.pre.rows (l.pre.pair, l.pre.is_pre) in (
          least lowest None,
          record {
            at = h.at;
            fits = h.fits;
            keeps = keeps_kill gs linked g q h.at ok queries (core_of state) k None
                (λ d _. idle_refuted gs d g q p k b.source b.target b.at_source b.at_target l.pre.rows w
                (refuted_never (b.source.cube.atoms ++ l.pre.rows) c l.refuted)) h.keeps;
          },
        )

    abbrev call_of : {k : RegionEdge} → (a : HasAsked g q.exit p k) → CallAt g state k
    call_of a = record {
      between = between_of a.between;
      from = a.from;
      to = a.to;
      site = a.site;
      is_call = a.is_call;
      exit = a.kind;
      is_kind = a.is_kind;
    }

    kills_call : (k : RegionEdge) (number : ℕ) (cs : List Refutation) → KillsCall g q.exit queries p k number cs → Holding (kill_edge k p)
    kills_call k number cs l =
        let a = l.asks in
        let asks : AsksAt g state k (asked_query a) = record {
          call = call_of a;
          rows = a.rows;
          pair = a.pair;
          is_asked = a.is_asked;
          of_procedure = refl;
          of_exit = refl;
          start = refl;
          end = refl;
        } in
        let answers : AnswersNo (asked_query a) l.claim = record {
          same_procedure = l.of_procedure;
          same_exit = l.of_exit;
          entails = λ v v64 m. entailed (rows_of_query (asked_query a)) (rows_of_query l.claim) cs l.shown v v64 m;
        } in (
          least lowest (Some number),
          record {
            at = h.at;
            fits = h.fits;
            keeps = kill_ancestor gs linked g q h.at ok queries (core_of state) k (asked_query a) number l.claim
                (asks_of gs linked g state h k l.live (asked_query a) asks)
                (get_left queries number (q ∷ []) l.claim l.there) answers h.keeps;
          },
        )

    -- Splits
    splits : (k : RegionEdge) (atoms : List Atom) → IsTrue (list_all can_negate atoms) → SplitsByPreimage g p k atoms →
        Holding (split_edge k atoms p)
    splits k atoms negatable l =
        let b = between_of l.pre.between in
        let src = source_node gs linked g state h k l.live b l.inner in
        let w = predicts gs linked g state h k l.live b l.pre.plain l.pre.rows (l.pre.pair, l.pre.is_pre) in
        let pre : IsRegion l.pre.rows = pre_region gs linked g state h k l.live b l.pre.plain src.0 src.1 l.pre.rows
        (l.pre.pair, l.pre.is_pre) in
        let region : IsRegion atoms = region_among l.pre.rows atoms pre l.each in
        let ends = apart_ends gs linked g state h k l.live b in (
          lowest,
          record {
            at = h.at;
            fits = h.fits;
            keeps = keeps_split gs linked g q h.at ok queries (core_of state) k atoms
                (slice_get_within p.regions k.from b.source b.at_source) (slice_get_within p.regions k.to b.target b.at_target) b.source
                b.at_source (not_outside gs linked g state h k b.source b.at_source l.inner)
                (not_end g q.exit b.source.node ends.0 ends.1) ends.0
                (both_fit g.exit b.source.node ends.0 atoms region negatable)
                (λ d. cut_by gs d g q p k b.source b.target b.at_source b.at_target l.pre.rows w atoms
                (λ v v64 all. all_among_hold v l.pre.rows atoms l.each (holds_split v b.source.cube.atoms l.pre.rows all).1)) h.keeps;
          },
        )

    splits_region : (k : RegionEdge) (atoms : List Atom) → IsTrue (list_all can_negate atoms) → SplitsRegion g p k atoms →
        Holding (split_edge k atoms p)
    splits_region k atoms negatable l =
        let own : RegionEdge = record { edge = 0; from = k.from; to = k.from } in
        let same : own ≡ k = λ i. record { edge = sym l.at_entry i; from = k.from; to = sym l.same i } in
        let within = slice_get_within p.regions k.from l.source l.at_source in
        let region = own_region g ok atoms l.names l.terms in
        subst (λ x. Holding (split_edge x atoms p)) same (
          lowest,
          record {
            at = h.at;
            fits = h.fits;
            keeps = keeps_split gs linked g q h.at ok queries (core_of state) own atoms within within l.source l.at_source
                (not_outside gs linked g state h k l.source l.at_source l.inner)
                (not_end g q.exit l.source.node l.before_exit l.before_fail) l.before_exit
                (both_fit g.exit l.source.node l.before_exit atoms region negatable)
                (λ d. entry_idle gs linked g (GraphRun gs d) state h k l.source l.at_source l.inner atoms) h.keeps;
          },
        )

  move : (m : PureMove) (p : Parted) → Holding p → Moves g q.exit queries m p → Holding (moved m p)
  move (split k atoms) p h l = ⊎_elim (λ w. splits p h.0 h.1 k atoms l.1 w) (λ w. splits_region p h.0 h.1 k atoms l.1 w) l.0
  move (kill k c) p h l = kills p h.0 h.1 k c l
  move (kill_call k number cs) p h l = kills_call p h.0 h.1 k number cs l

  pub move_all : (ms : List PureMove) (p : Parted) → Holding p → AllMove g q.exit queries ms p → Holding (moved_all ms p)
  move_all [] p h l = h
  move_all (m ∷ ms) p h l = move_all ms (moved m p) (move m p h l.0) l.1

  later : (d : ℕ) (hs : List Query) (j : ℕ) → AllNotMay (graph_runs gs) d hs → AllNotMay (graph_runs gs) d (drop j hs)
  later d hs zero a = a
  later d [] (suc j) a = tt
  later d (x ∷ hs) (suc j) a = later d hs j a.1

  -- where no path is left, the claims give the query
  pub gives : (p : Parted) → Holding p → HasNoPath g q p → Gives (graph_runs gs) queries q
  gives p h none = by_lowest h.0 h.1 where
    by_lowest : (o : Option ℕ) → Good gs linked g (state_of q queries p o) → Gives (graph_runs gs) queries q
    by_lowest None k d a = closed_alone gs linked g q k.at g.well_formed queries k.fits (core_of (state_of q queries p None)) k.keeps none
        refl (suc d)
    by_lowest (Some j) k d a = closed_given gs linked g q k.at g.well_formed queries k.fits (core_of (state_of q queries p (Some j)))
        k.keeps
        none j refl d (later d queries j a)
