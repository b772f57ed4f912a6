-- The moves that a step becomes by which a region is split.
use Rattle.std.proofs.Common.{◌≡◌, ◌≢◌, inl, inr, ℕ, suc, List, [], ◌∷◌, ◌++◌, length, Bool, refl, ap}
use Rattle.std.specs.Prelude.{IsTrue}
use Rattle.std.specs.List.{list_all}
use Rattle.linear_formula.specs.declared.formula.Atom.{Atom}
use Rattle.infeasible_cert.specs.declared.certificate.Certificate.{Certificate}
use Rattle.shadow_elim.specs.Questions.{is_negatable}
use Rattle.flow_graph.specs.declared.graph.Graph.{Graph}
use Rattle.flow_graph.specs.declared.graph.Edge.TheVariants.{Entry}
use Rattle.flow_graph.specs.Linked.{AreGraphs}
use Rattle.flow_graph.specs.WellFormed.{first_node}
use Rattle.flow_graph.proofs.Slots.{entry_edge}
use Rattle.summary_form.specs.declared.query.Query.{Query}
use Rattle.may_partition.specs.declared.region.RegionEdge.{RegionEdge}
use Rattle.may_partition.specs.Parted.{Parted, split_edge}
use Rattle.query_rules.specs.Legal.{Splits}
use Rattle.query_rules.specs.Paths.{IsTurn}
use Rattle.query_rules.specs.Rows.{ArePiecesRefuted, is_own_column}
use Rattle.query_rules.specs.Rows as rows
use Rattle.query_rules.specs.Steps.{Model, uncut}
use Rattle.query_rules.proofs.Closing.{turn_apart, turn_live}
use Rattle.query_rules.proofs.NamedPreimages.{NamesColumns}
use Rattle.query_rules.proofs.Reaching.{Good, apart_ends, call_inner, not_outside}
use Rattle.proof_bundle.specs.Claims.{PureMove, split}
use Rattle.bundle_check.specs.RightClaims as right
use Rattle.bundle_check.specs.RightClaims.{AllMove, Moves, moved_all}
use Rattle.bundle_check.specs.Walked.{split_moves}
use Rattle.bundle_check.proofs.Cutting.{after_cuts, after_regions, cuts_move, fewer_after, more_after, new_piece, pieces_live, split_other}
use Rattle.bundle_check.proofs.Following.{Follows, between, follows_as, follows_split, plain_live, some_among}
use Rattle.bundle_check.proofs.OwnRegions.{AreOwn, split_names}

-- one certificate for each atom
pub one_each : (source pre atoms : List Atom) (cs : List Certificate) → ArePiecesRefuted source pre atoms cs → length cs ≡ length atoms
one_each source pre [] [] f = refl
one_each source pre [] (c ∷ cs) f = absurd f
one_each source pre (a ∷ atoms) [] f = absurd f
one_each source pre (a ∷ atoms) (c ∷ cs) f = ap suc (one_each (source ++ a ∷ []) pre atoms cs f.1)

module _ (gs : List Graph) (linked : AreGraphs gs) (g : Graph) (claims : List Query) (killed : ℕ → Bool) (m : Model)
    (good : Good gs linked g m) (own : AreOwn g m.parted.regions) (p : Parted) (h : Follows g killed m p) where
  -- right moves, after which the partition follows that of this state
  abbrev pub Lead : Model → List PureMove → Type 0
  Lead n ms = AllMove g m.query.exit claims ms p × Follows g killed n (moved_all ms p)

  -- of the source of an edge, by the graph's own rows
  own_moves : (k : RegionEdge) → IsTrue (m.parted.live k) → k.from ≢ 0 → rows.Between g m k → (atoms : List Atom) →
      NamesColumns (is_own_column g) atoms → atoms ≢ [] → IsTrue (list_all is_negatable atoms) →
      Moves g m.query.exit claims (split (uncut k) atoms) p
  own_moves k live inner b atoms named several negatable =
      let c = between g killed m p h b in
      let ends = apart_ends gs linked g m good k live b in (
        inr (record {
          at_entry = refl;
          same = refl;
          inner = inner;
          source = c.source;
          at_source = c.at_source;
          before_exit = ends.0;
          before_fail = ends.1;
          several = several;
          names = named.names;
          terms = named.terms;
        }),
        negatable,
      )

  -- over a call
  pub call_leads : (n : Model) (k : RegionEdge) → IsTrue (m.parted.live k) → rows.CallAt g m k → (atoms : List Atom) →
      NamesColumns (is_own_column g) atoms → atoms ≢ [] → IsTrue (list_all is_negatable atoms) →
      n.parted ≡ split_edge (uncut k) atoms m.parted → n.asked ≡ m.asked → Lead n (split (uncut k) atoms ∷ [])
  call_leads n k live call atoms named several negatable e a = (
    (own_moves k live (call_inner gs linked g m good k live call) call.between atoms named several negatable, tt),
    follows_split g killed m n p (uncut k) atoms e a h,
  )

  -- no step enters an inner region
  no_loop : (k : RegionEdge) → k.from ≢ 0 → rows.Between g m k → IsTrue (p.live (uncut k)) → ⊥
  no_loop k inner b l =
      not_outside gs linked g m good k b.source b.at_source inner
      (good.keeps.connected (uncut k) (h.fewer (uncut k) l) (Entry (first_node g.edges) g.params)
      (entry_edge g.params g.edges g.well_formed.begins) b.source b.source b.at_source b.at_source).0

  -- over an edge that is no call
  pub split_leads : (n : Model) (k : RegionEdge) (atoms : List Atom) (follows proofs : List Certificate) → IsTurn g m k →
      Splits g m k atoms follows proofs → n.parted ≡ split_edge k atoms m.parted → n.asked ≡ m.asked →
      Lead n (split_moves (length p.regions) k atoms follows)
  split_leads n k atoms [] proofs turn l e a = (
    (
      (
        inl (record {
          live = plain_live g killed m p h k l.at (turn_live g m k turn);
          pre = record {
            between = between g killed m p h l.at.between;
            plain = l.at.plain;
            rows = l.pre;
            pair = l.is_pre.0;
            is_pre = l.is_pre.1;
          };
          inner = l.inner;
          several = l.parts.several;
          each = some_among atoms l.pre [] l.parts.follow;
        }),
        l.parts.negatable,
      ),
      tt,
    ),
    follows_split g killed m n p k atoms e a h,
  )
  split_leads n k atoms (c ∷ cs) proofs turn l e a = (
    (
      own_moves k live l.inner l.at.between atoms (split_names gs linked g m good own k atoms (c ∷ cs) proofs live l) l.parts.several
          l.parts.negatable,
      cuts_move g m.query.exit claims k b.edge b.at_edge l.at.plain b.target l.pre l.is_pre b.source.node b.source.cube.atoms atoms
          (c ∷ cs) l.parts.follow.1 (length p.regions) (split_edge (uncut k) atoms p)
          (split_other p.regions k.from atoms b.source b.at_source k.to b.target b.at_target apart)
          (new_piece p.regions k.from atoms b.source b.at_source)
          (pieces_live p k atoms b.source b.at_source b.target b.at_target (plain_live g killed m p h k l.at live) apart),
    ),
    follows_as g killed n (split_edge k atoms p) (after_cuts p k atoms b.source b.at_source (c ∷ cs) each)
        (after_regions p k atoms b.source b.at_source (c ∷ cs) each) (fewer_after p k atoms b.source b.at_source (c ∷ cs) each)
        (more_after p k atoms b.source b.at_source (c ∷ cs) each (no_loop k l.inner l.at.between))
        (follows_split g killed m n p k atoms e a h),
  )
    where
      live : IsTrue (m.parted.live k)
      live = turn_live g m k turn

      apart : k.to ≢ k.from
      apart = turn_apart g m k turn

      b : right.Between g p k
      b = between g killed m p h l.at.between

      each : length (c ∷ cs) ≡ length atoms
      each = one_each b.source.cube.atoms l.pre atoms (c ∷ cs) l.parts.follow.1
