-- What moves make of a partition, one after the other.
use Rattle.std.proofs.Common.{◌≡◌, ◌⊎◌, ⊎_elim, ◌↔◌, ℕ, ◌+◌, ◌<◌, ◌≤◌, List, [], ◌∷◌, length, map, drop, get_or, Bool, true, false, not, ◌&&◌, refl, sym, subst, ap, ◌∙◌}
use Rattle.std.specs.Prelude.{IsTrue, Some, slice_get}
use Rattle.std.proofs.lemmas.Option.{same_Some, slice_get_within}
use Rattle.infeasible_cert.specs.Refutation.{Refutation}
use Rattle.linear_formula.specs.declared.formula.Atom.{Atom}
use Rattle.flow_graph.specs.declared.graph.Graph.{Graph}
use Rattle.summary_form.specs.declared.query.ExitKind.{ExitKind}
use Rattle.summary_form.specs.declared.query.Query.{Query}
use Rattle.summary_form.specs.Instances.{arity_of}
use Rattle.summary_form.specs.NotMays.{Fits}
use Rattle.may_partition.specs.declared.region.RegionEdge.{RegionEdge}
use Rattle.may_partition.specs.Parted.{Parted, begin_parted, kill_edge, same_edge, split_edge}
use Rattle.may_partition.specs.Shown.{Shown, Shows, is_live}
use Rattle.query_rules.specs.Paths.{HasNoPath}
use Rattle.proof_bundle.specs.Claims.{PureClaim, PureMove, move_of}
use Rattle.proof_bundle.specs.declared.bundle.Move.{Move}
use Rattle.bundle_check.specs.RightClaims.{AllMove, Between, IsRightClaim, Kills, KillsCall, Moves, Splits, SplitsByPreimage, SplitsRegion, moved, moved_all}
use Rattle.bundle_check.specs.steps.Checks.{AreLeft, Becomes, Closes, Decides}
use Rattle.bundle_check.proofs.Answering.{drop_item, drop_past}
use Rattle.bundle_check.proofs.Deciding.{never, parted_of, shows_own, untrue}

-- Nothing is done

pub stays : (old new : Shown) (P : Parted → Type 0) (f : Parted → Parted) → Decides old P false → Becomes old new P f false
stays old new P f d = record { right = d; shows = λ t. absurd (untrue t) }

-- The regions of a right move exist

module _ (g : Graph) (k : RegionEdge) (s : Shown) where
  abbrev Within : Type 0
  Within = (k.from < length s.regions) × (k.to < length s.regions)

  ends_within : Between g (parted_of s) k → Within
  ends_within b = (slice_get_within s.regions k.from b.source b.at_source, slice_get_within s.regions k.to b.target b.at_target)

  pub kill_within : (c : Refutation) (r : Bool) → Decides s (λ p. Kills g p k c) r → r ≡ true →
      (k.from < length s.regions) × (k.to < length s.regions)
  kill_within c r d e = ends_within ((d (parted_of s) (shows_own s)).0 e).pre.between

  pub call_within : (exit : ExitKind) (claims : List Query) (n : ℕ) (cs : List Refutation) (r : Bool) →
      Decides s (λ p. KillsCall g exit claims p k n cs) r → r ≡ true → (k.from < length s.regions) × (k.to < length s.regions)
  call_within exit claims n cs r d e = ends_within ((d (parted_of s) (shows_own s)).0 e).asks.between

  pub split_within : (atoms : List Atom) (r : Bool) → Decides s (λ p. SplitsByPreimage g p k atoms ⊎ SplitsRegion g p k atoms) r →
      r ≡ true → (k.from < length s.regions) × (k.to < length s.regions)
  split_within atoms r d e = ⊎_elim (λ w. ends_within w.pre.between) (λ w. by_region w) ((d (parted_of s) (shows_own s)).0 e) where
    by_region : SplitsRegion g (parted_of s) k atoms → Within
    by_region w =
        let low = slice_get_within s.regions k.from w.source w.at_source in
        (low, subst (λ n. n < length s.regions) (sym w.same) low)

-- Kills

shows_killed : (old new : Shown) (k : RegionEdge) → new.regions ≡ old.regions →
    ((e : RegionEdge) → is_live new.edges e ≡ (is_live old.edges e && not (same_edge e k))) → (p : Parted) → Shows old p →
    Shows new (kill_edge k p)
shows_killed old new k regions live p sh = record {
  regions = regions ∙ sh.regions;
  live = λ e. live e ∙ ap (λ b. b && not (same_edge e k)) (sh.live e);
}

pub killed : (old new : Shown) (k : RegionEdge) (P : Parted → Type 0) → Decides old P true → new.regions ≡ old.regions →
    ((e : RegionEdge) → is_live new.edges e ≡ (is_live old.edges e && not (same_edge e k))) → Becomes old new P (kill_edge k) true
killed old new k P d regions live = record { right = d; shows = λ t. shows_killed old new k regions live }

-- Splits

module _ (g : Graph) (k : RegionEdge) (atoms : List Atom) (old new : Shown) where
  abbrev Both : Parted → Type 0
  Both p = Splits g p k atoms

  pub no_split : Decides old (λ p. SplitsByPreimage g p k atoms ⊎ SplitsRegion g p k atoms) false →
      Becomes old new (λ p. Splits g p k atoms) (split_edge k atoms) false
  no_split d = stays old new Both (split_edge k atoms) (never old Both (λ p sh h. untrue ((d p sh).1 h.0)))

-- Moves in order

module _ (g : Graph) (exit : ExitKind) (claims : List Query) (all : List PureMove) (old : Shown) where
  module _ (m : PureMove) (rest : List PureMove) (mid : Shown) (h : AreLeft g exit claims all (m ∷ rest) old mid) where
    pub one_done : (new : Shown) → Becomes mid new (Moves g exit claims m) (moved m) true → AreLeft g exit claims all rest old new
    one_done new b p sh =
        let w = h p sh in
        let q = w.0 in (
          moved m q,
          b.shows refl q w.1,
          record {
            right = ((λ a. (w.2.right.0 a).1), (λ a. w.2.right.1 ((b.right q w.1).0 refl, a)));
            same = w.2.same;
          },
        )

    pub one_wrong : (new : Shown) → Becomes mid new (Moves g exit claims m) (moved m) false →
        Becomes old new (AllMove g exit claims all) (moved_all all) false
    one_wrong new b = stays old new (AllMove g exit claims all) (moved_all all) (never old (AllMove g exit claims all)
        (λ p sh a. let w = h p sh in untrue ((b.right w.0 w.1).1 (w.2.right.0 a).0)))

  pub all_done : (new : Shown) → AreLeft g exit claims all [] old new → Becomes old new (AllMove g exit claims all) (moved_all all) true
  all_done new h = record {
    right = λ p sh. let w = h p sh in ((λ t. w.2.right.1 tt), (λ a. refl));
    shows = λ t p sh. let w = h p sh in subst (Shows new) (sym w.2.same) w.1;
  }

-- the moves from one on
pub moves_ahead : (moves : List Move) (i : ℕ) (m : Move) → i < length moves → m ≡ get_or moves i m →
    map move_of (drop i moves) ≡ move_of m ∷ map move_of (drop (i + 1) moves)
moves_ahead moves i m low is = ap (map move_of) (drop_item moves i m low is)

pub none_ahead : (moves : List Move) (i : ℕ) → length moves ≤ i → map move_of (drop i moves) ≡ []
none_ahead moves i past = ap (map move_of) (drop_past moves i past)

-- Claims

module _ (g : Graph) (exit : ExitKind) (claims : List Query) (q : Query) (ms : List PureMove) (old new : Shown) where
  pub ended : Becomes old new (AllMove g exit claims ms) (moved_all ms) true → (r : Bool) → Decides new (HasNoPath g q) r →
      Decides old (Closes g exit claims q ms) r
  ended b r d p sh =
      let shown = b.shows refl p sh in (
        λ t. record { all_move = (b.right p sh).0 refl; none = (d (moved_all ms p) shown).0 t },
        λ h. (d (moved_all ms p) shown).1 h.none,
      )

module _ (gs : List Graph) (qs : List Query) (g : Graph) (claim : PureClaim) (at : slice_get gs claim.query.proc ≡ Some g) (fits : Bool)
    (is : IsTrue fits ↔ Fits claim.query.proc (arity_of (Some g)) claim.query) where
  abbrev Right : Type 0
  Right = IsRightClaim gs qs claim

  its_graph : (r : Right) → r.graph ≡ g
  its_graph r = same_Some r.graph g (sym r.at ∙ at)

  pub claim_misfits : fits ≡ false → IsTrue false ↔ IsRightClaim gs qs claim
  claim_misfits e = (
    λ t. absurd (untrue t),
    λ r. absurd (untrue (subst (λ b. IsTrue b) e (is.1 (subst (λ (x : Graph). Fits claim.query.proc (arity_of (Some x)) claim.query)
        (its_graph r) r.fits)))),
  )

  pub claim_closes : fits ≡ true → (s : Shown) → Shows s (begin_parted g claim.query) → (r : Bool) →
      Decides s (Closes g claim.query.exit qs claim.query claim.moves) r → IsTrue r ↔ IsRightClaim gs qs claim
  claim_closes e s sh r d =
      let w = d (begin_parted g claim.query) sh in (
        λ t. let k = w.0 t in record { graph = g; at = at; fits = is.0 e; all_move = k.all_move; none = k.none },
        λ h. w.1 (subst (λ (x : Graph). Closes x claim.query.exit qs claim.query claim.moves (begin_parted x claim.query)) (its_graph h)
            (record { all_move = h.all_move; none = h.none })),
      )
