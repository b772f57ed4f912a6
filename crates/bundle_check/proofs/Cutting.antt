-- A split of a region by itself, and then kills of an edge from its new pieces: the same as the split for that edge.
use Rattle.std.proofs.Common.{◌≡◌, ◌≢◌, ⊎_elim, ℕ, suc, ◌+◌, ◌<◌, ◌≤◌, List, [], ◌∷◌, ◌++◌, length, Some, Bool, true, false, not, ◌&&◌, ◌==◌, nat_lt, nat_le, arith, refl, sym, subst, ap, ◌∙◌}
use Rattle.std.specs.Prelude.{slice_get, slice_set, IsTrue}
use Rattle.std.proofs.lemmas.List.{length-append, length-set}
use Rattle.std.proofs.lemmas.Option.{slice_get_within}
use borrow.Author.Tests.{eq-eqb, eqb-true, le-leb, leb-true, lt-ltb, ltb-true}
use Rattle.linear_formula.specs.declared.formula.Atom.{Atom}
use Rattle.linear_formula.proofs.Limits.{both, both_in}
use Rattle.infeasible_cert.specs.declared.certificate.Certificate.{Certificate}
use Rattle.shadow_elim.specs.Questions.{with_negation}
use Rattle.flow_graph.specs.declared.graph.Graph.{Graph}
use Rattle.flow_graph.specs.declared.graph.Edge.{Edge}
use Rattle.flow_graph.specs.Shapes.{is_call}
use Rattle.summary_form.specs.declared.query.ExitKind.{ExitKind}
use Rattle.summary_form.specs.declared.query.Query.{Query}
use Rattle.may_partition.specs.declared.region.Region.{Region}
use Rattle.may_partition.specs.declared.region.RegionEdge.{RegionEdge}
use Rattle.may_partition.specs.Parted.{Parted, has_regions, is_cut, kill_edge, parents, pieces, region, same_edge, split_edge, split_region, split_regions}
use Rattle.may_partition.proofs.ByRegion.{same_itself}
use Rattle.may_partition.proofs.Kept.{same_is}
use Rattle.may_partition.proofs.Pieces.{get_left, get_other, get_right}
use Rattle.may_partition.proofs.Splitting.{not_in, parent_new, parent_old}
use Rattle.query_rules.specs.Rows.{ArePiecesRefuted, IsPreimage}
use Rattle.query_rules.specs.Steps.{uncut}
use Rattle.bundle_check.specs.RightClaims.{AllMove, moved_all}
use Rattle.bundle_check.specs.Walked.{cuts}

-- Lists of new pieces

pieces_length : (node : ℕ) (done atoms : List Atom) → length (pieces node done atoms) ≡ length atoms
pieces_length node done [] = refl
pieces_length node done (a ∷ atoms) = ap suc (pieces_length node (done ++ a ∷ []) atoms)

module _ (regions : List Region) (from : ℕ) (atoms : List Atom) (source : Region) (at : slice_get regions from ≡ Some source) where
  abbrev put : List Region
  put = slice_set regions from (region source.node (source.cube.atoms ++ atoms))

  whole : split_regions regions from atoms ≡ put ++ pieces source.node source.cube.atoms atoms
  whole = ap (split_region regions from atoms) at

  put_length : length put ≡ length regions
  put_length = length-set regions from (region source.node (source.cube.atoms ++ atoms))

  -- one more for each atom
  pub split_length : length (split_regions regions from atoms) ≡ length regions + length atoms
  split_length = ap (λ (rs : List Region). length rs) whole ∙ omega (
    arith,
    length-append put (pieces source.node source.cube.atoms atoms),
    put_length,
    pieces_length source.node source.cube.atoms atoms,
  )

  -- the new ones stand after all others
  pub new_piece : (j : ℕ) (r : Region) → slice_get (pieces source.node source.cube.atoms atoms) j ≡ Some r →
      slice_get (split_regions regions from atoms) (length regions + j) ≡ Some r
  new_piece j r e =
      subst (λ rs. slice_get rs (length regions + j) ≡ Some r) (sym whole)
      (subst (λ n. slice_get (put ++ pieces source.node source.cube.atoms atoms) (n + j) ≡ Some r) put_length
      (get_right put j (pieces source.node source.cube.atoms atoms) r e))

  -- and another than the source stays
  pub split_other : (to : ℕ) (r : Region) → slice_get regions to ≡ Some r → to ≢ from →
      slice_get (split_regions regions from atoms) to ≡ Some r
  split_other to r e apart =
      subst (λ rs. slice_get rs to ≡ Some r) (sym whole)
      (⊎_elim (λ same. absurd (apart same)) (λ k. get_left put to (pieces source.node source.cube.atoms atoms) r k)
      (get_other regions from to (region source.node (source.cube.atoms ++ atoms)) r e))

-- Kills from pieces that follow each other

module _ (k : RegionEdge) where
  abbrev pub from_piece : ℕ → RegionEdge
  from_piece n = record { edge = k.edge; from = n; to = k.to }

  -- the edge from one of them
  abbrev pub IsCutOff : (n : ℕ) → List Certificate → RegionEdge → Type 0
  IsCutOff n cs x = (n ≤ x.from) × (x.from < n + length cs) × (x.edge ≡ k.edge) × (x.to ≡ k.to)

  -- the regions stay
  pub cut_regions : (n : ℕ) (cs : List Certificate) (p : Parted) → (moved_all (cuts n k cs) p).regions ≡ p.regions
  cut_regions n [] p = refl
  cut_regions n (c ∷ cs) p = cut_regions (n + 1) cs (kill_edge (from_piece n) p)

  here : (n : ℕ) (x : RegionEdge) → IsTrue (not (same_edge x (from_piece n))) → x.from ≡ n → x.edge ≡ k.edge → x.to ≡ k.to → ⊥
  here n x other f e t =
      let same : x ≡ from_piece n = λ i. record { edge = e i; from = f i; to = t i } in
      clash (same_edge (from_piece n) (from_piece n)) (same_itself (from_piece n))
      (subst (λ y. IsTrue (not (same_edge y (from_piece n)))) same other)
    where
      clash : (b : Bool) → b ≡ true → IsTrue (not b) → ⊥
      clash true is l = absurd cc
      clash false is l = absurd cc

  -- what is live after them was live, and is none of these edges
  pub cut_fewer : (n : ℕ) (cs : List Certificate) (p : Parted) (x : RegionEdge) → IsTrue ((moved_all (cuts n k cs) p).live x) →
      IsTrue (p.live x) × (IsCutOff n cs x → ⊥)
  cut_fewer n [] p x l = (l, λ c. omega (arith, c.0, c.1))
  cut_fewer n (c ∷ cs) p x l =
      let w = cut_fewer (n + 1) cs (kill_edge (from_piece n) p) x l in
      let u = both (p.live x) (not (same_edge x (from_piece n))) w.0 in
      (u.0, λ o. by_place (x.from == n) refl u.1 w.1 o)
    where
      by_place : (b : Bool) → (x.from == n) ≡ b → IsTrue (not (same_edge x (from_piece n))) → (IsCutOff (n + 1) cs x → ⊥) →
          IsCutOff n (c ∷ cs) x → ⊥
      by_place true e other later o = here n x other (eqb-true x.from n e) o.2 o.3
      by_place false e other later o =
          let apart : x.from ≢ n = λ f. off (sym (eq-eqb x.from n f) ∙ e) in
          later (omega (arith, o.0, apart), omega (arith, o.1), o.2, o.3)
        where
          off : true ≡ false → ⊥
          off z = cc

  -- and all that was live but these edges is live
  pub cut_more : (n : ℕ) (cs : List Certificate) (p : Parted) (x : RegionEdge) → IsTrue (p.live x) → (IsCutOff n cs x → ⊥) →
      IsTrue ((moved_all (cuts n k cs) p).live x)
  cut_more n [] p x l f = l
  cut_more n (c ∷ cs) p x l f =
      cut_more (n + 1) cs (kill_edge (from_piece n) p) x
      (both_in (p.live x) (not (same_edge x (from_piece n))) l (not_in (same_edge x (from_piece n)) (λ t. f (first t))))
      (λ o. f (omega (arith, o.0), omega (arith, o.1), o.2, o.3))
    where
      first : IsTrue (same_edge x (from_piece n)) → IsCutOff n (c ∷ cs) x
      first t =
          let e = same_is x (from_piece n) t in
          let f : x.from ≡ n = ap (λ (y : RegionEdge). y.from) e in
          (omega (arith, f), omega (arith, f), ap (λ (y : RegionEdge). y.edge) e, ap (λ (y : RegionEdge). y.to) e)

-- each of the kills is right
module _ (g : Graph) (exit : ExitKind) (claims : List Query) (k : RegionEdge) (edge : Edge) (at_edge : slice_get g.edges k.edge ≡ Some edge)
    (plain : is_call edge ≡ false) (target : Region) (pre : List Atom) (is_pre : IsPreimage edge target.cube.atoms pre) (node : ℕ) where
  pub cuts_move : (done atoms : List Atom) (cs : List Certificate) → ArePiecesRefuted done pre atoms cs → (n : ℕ) (p : Parted) →
      slice_get p.regions k.to ≡ Some target →
      ((j : ℕ) (r : Region) → slice_get (pieces node done atoms) j ≡ Some r → slice_get p.regions (n + j) ≡ Some r) →
      ((j : ℕ) → j < length atoms → IsTrue (p.live (from_piece k (n + j)))) → AllMove g exit claims (cuts n k cs) p
  cuts_move done [] [] f n p to at live = tt
  cuts_move done [] (c ∷ cs) f n p to at live = absurd f
  cuts_move done (a ∷ atoms) [] f n p to at live = absurd f
  cuts_move done (a ∷ atoms) (c ∷ cs) f n p to at live = (
    record {
      live = subst (λ i. IsTrue (p.live (from_piece k i))) none (live 0 (omega arith));
      pre = record {
        between = record {
          edge = edge;
          source = piece;
          target = target;
          at_edge = at_edge;
          at_source = subst (λ i. slice_get p.regions i ≡ Some piece) none (at 0 piece refl);
          at_target = to;
        };
        plain = plain;
        rows = pre;
        pair = is_pre.0;
        is_pre = is_pre.1;
      };
      refuted = record { right = f.0.right; atoms_terms = f.0.atoms_terms; terms = f.0.terms };
    },
    cuts_move (done ++ a ∷ []) atoms cs f.1 (n + 1) (kill_edge (from_piece k n) p) to later_at later_live,
  )
    where
      piece : Region
      piece = region node (with_negation done a)

      none : n + 0 ≡ n
      none = omega arith

      next : (j : ℕ) → n + suc j ≡ (n + 1) + j
      next j = omega arith

      later_at : (j : ℕ) (r : Region) → slice_get (pieces node (done ++ a ∷ []) atoms) j ≡ Some r → slice_get p.regions ((n + 1) + j)
          ≡ Some r
      later_at j r e = subst (λ i. slice_get p.regions i ≡ Some r) (next j) (at (suc j) r e)

      later_live : (j : ℕ) → j < length atoms → IsTrue ((kill_edge (from_piece k n) p).live (from_piece k ((n + 1) + j)))
      later_live j low =
          both_in (p.live (from_piece k ((n + 1) + j))) (not (same_edge (from_piece k ((n + 1) + j)) (from_piece k n)))
          (subst (λ i. IsTrue (p.live (from_piece k i))) (next j) (live (suc j) (omega (arith, low))))
          (not_in (same_edge (from_piece k ((n + 1) + j)) (from_piece k n)) (λ t.
          let e : (n + 1) + j ≡ n = ap (λ (y : RegionEdge). y.from) (same_is (from_piece k ((n + 1) + j)) (from_piece k n) t) in
          omega (arith, e)))

-- The split

module _ (p : Parted) (k : RegionEdge) (atoms : List Atom) (source : Region) (at_source : slice_get p.regions k.from ≡ Some source) where
  abbrev count : ℕ
  count = length p.regions

  -- the regions after it
  abbrev all : ℕ
  all = length (split_regions p.regions k.from atoms)

  abbrev apart : Parted
  apart = split_edge (uncut k) atoms p

  many : all ≡ count + length atoms
  many = split_length p.regions k.from atoms source at_source

  low : k.from < count
  low = slice_get_within p.regions k.from source at_source

  -- each new piece has the edge
  module _ (target : Region) (at_target : slice_get p.regions k.to ≡ Some target) (live : IsTrue (p.live k)) (inner : k.to ≢ k.from) where
    pub pieces_live : (j : ℕ) → j < length atoms → IsTrue (apart.live (from_piece k (count + j)))
    pieces_live j less =
        let x = from_piece k (count + j) in
        let to_low = slice_get_within p.regions k.to target at_target in
        let from = parent_new count k.from (count + j) (omega arith) in
        let to = parent_old count k.from k.to to_low in
        let whole_edge : parents count k.from x ≡ k = λ i. record { edge = k.edge; from = from i; to = to i } in
        both_in (has_regions all x) (p.live (parents count k.from x) && not (is_cut count (uncut k) x))
        (both_in (nat_lt (count + j) all) (nat_lt k.to all) (lt-ltb (count + j) all (omega (arith, many, less)))
        (lt-ltb k.to all (omega (arith, many, to_low))))
        (both_in (p.live (parents count k.from x)) (not (is_cut count (uncut k) x)) (subst (λ y. IsTrue (p.live y)) (sym whole_edge) live)
        (not_in (is_cut count (uncut k) x) (λ t.
        let u = both (nat_le count x.from) (x.edge == 0 && x.to == k.from) t in
        inner (eqb-true k.to k.from (both (x.edge == 0) (x.to == k.from) u.1).1))))

  module _ (cs : List Certificate) (each : length cs ≡ length atoms) where
    abbrev pub after_cuts : Parted
    after_cuts = moved_all (cuts count k cs) apart

    -- a live edge of a new piece that the split for the edge cuts, and no other, is one of those that are killed
    cut_off : (x : RegionEdge) → IsTrue (has_regions all x) → IsTrue (is_cut count k x) → IsCutOff k count cs x
    cut_off x within t =
        let u = both (nat_le count x.from) (x.edge == k.edge && x.to == k.to) t in
        let w = both (x.edge == k.edge) (x.to == k.to) u.1 in
        let l = ltb-true x.from all (both (nat_lt x.from all) (nat_lt x.to all) within).0 in
        (leb-true count x.from u.0, omega (arith, l, many, each), eqb-true x.edge k.edge w.0, eqb-true x.to k.to w.1)

    off_cut : (x : RegionEdge) → IsCutOff k count cs x → IsTrue (is_cut count k x)
    off_cut x o =
        both_in (nat_le count x.from) (x.edge == k.edge && x.to == k.to) (le-leb count x.from o.0)
        (both_in (x.edge == k.edge) (x.to == k.to) (eq-eqb x.edge k.edge o.2) (eq-eqb x.to k.to o.3))

    pub fewer_after : (x : RegionEdge) → IsTrue (after_cuts.live x) → IsTrue ((split_edge k atoms p).live x)
    fewer_after x l =
        let w = cut_fewer k count cs apart x l in
        let u = both (has_regions all x) (p.live (parents count k.from x) && not (is_cut count (uncut k) x)) w.0 in
        let v = both (p.live (parents count k.from x)) (not (is_cut count (uncut k) x)) u.1 in
        both_in (has_regions all x) (p.live (parents count k.from x) && not (is_cut count k x)) u.0
        (both_in (p.live (parents count k.from x)) (not (is_cut count k x)) v.0
        (not_in (is_cut count k x) (λ t. w.1 (cut_off x u.0 t))))

    -- where graph edge 0 doesn't lead from the region to itself
    pub more_after : (IsTrue (p.live (uncut k)) → ⊥) → (x : RegionEdge) → IsTrue ((split_edge k atoms p).live x) →
        IsTrue (after_cuts.live x)
    more_after no_loop x l =
        let u = both (has_regions all x) (p.live (parents count k.from x) && not (is_cut count k x)) l in
        let v = both (p.live (parents count k.from x)) (not (is_cut count k x)) u.1 in
        cut_more k count cs apart x
        (both_in (has_regions all x) (p.live (parents count k.from x) && not (is_cut count (uncut k) x)) u.0
        (both_in (p.live (parents count k.from x)) (not (is_cut count (uncut k) x)) v.0
        (not_in (is_cut count (uncut k) x) (λ t. no_loop (subst (λ y. IsTrue (p.live y)) (loop t) v.0)))))
        (λ o. clash (is_cut count k x) (off_cut x o) v.1)
      where
        clash : (b : Bool) → IsTrue b → IsTrue (not b) → ⊥
        clash true t n = absurd cc
        clash false t n = absurd cc

        loop : IsTrue (is_cut count (uncut k) x) → parents count k.from x ≡ uncut k
        loop t =
            let a = both (nat_le count x.from) (x.edge == 0 && x.to == k.from) t in
            let b = both (x.edge == 0) (x.to == k.from) a.1 in
            let e = eqb-true x.edge 0 b.0 in
            let f = parent_new count k.from x.from (leb-true count x.from a.0) in
            let same = eqb-true x.to k.from b.1 in
            let to = parent_old count k.from x.to (subst (λ y. y < count) (sym same) low) ∙ same in
            λ i. record { edge = e i; from = f i; to = to i }

    pub after_regions : after_cuts.regions ≡ split_regions p.regions k.from atoms
    after_regions = cut_regions k count cs apart
