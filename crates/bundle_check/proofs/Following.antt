-- A partition that is moved beside the state of a query.
use Rattle.std.proofs.Common.{◌≡◌, ◌⊎◌, inl, inr, ⊎_elim, ℕ, zero, suc, ◌+◌, ◌<◌, ◌≤◌, List, [], ◌∷◌, ◌++◌, length, Option, Some, None, Bool, true, false, cond, not, ◌&&◌, ◌||◌, arith, refl, sym, subst, ap, ◌∙◌}
use Rattle.std.specs.Prelude.{slice_get, slice_set, IsTrue}
use Rattle.std.specs.List.{list_all}
use Rattle.std.proofs.lemmas.Option.{same_Some, none-some}
use Rattle.std.proofs.lemmas.List.{append_assoc, length-append, length-set}
use Rattle.linear_formula.specs.Equality.{same_atom}
use Rattle.linear_formula.specs.steps.SameValues.{atom-same}
use Rattle.linear_formula.specs.declared.formula.Atom.{Atom}
use Rattle.linear_formula.proofs.Limits.{both, both_in}
use Rattle.infeasible_cert.specs.Refutation.{Refutation, refutation_of}
use Rattle.infeasible_cert.specs.declared.certificate.Certificate.{Certificate}
use Rattle.shadow_elim.specs.Questions.{with_negation}
use Rattle.flow_graph.specs.declared.graph.Graph.{Graph}
use Rattle.flow_graph.specs.declared.graph.Edge.{Edge}
use Rattle.flow_graph.specs.Shapes.{is_call}
use Rattle.summary_form.specs.declared.query.Query.{Query}
use Rattle.summary_form.specs.declared.summary.Summary.{Summary}
use Rattle.may_partition.specs.declared.region.Region.{Region}
use Rattle.may_partition.specs.declared.region.RegionEdge.{RegionEdge}
use Rattle.may_partition.specs.Parted.{Parted, begin_parted, has_regions, is_cut, kill_edge, parents, same_edge, pieces, region, split_edge, split_region, split_regions}
use Rattle.may_partition.proofs.ByRegion.{same_itself}
use Rattle.may_partition.proofs.Kept.{same_is}
use Rattle.may_partition.proofs.Pieces.{lookup_append}
use Rattle.may_partition.proofs.Splitting.{not_in, parent_old}
use Rattle.query_rules.specs.declared.step.Asked.{Asked}
use Rattle.query_rules.specs.Legal.{IsWeaker, MayAsk}
use Rattle.query_rules.specs.Rows.{AreRefuted, AsksAt, IsSome, rows_of_query}
use Rattle.query_rules.specs.Rows as rows
use Rattle.query_rules.specs.Steps.{Model, begin_model, updated}
use Rattle.bundle_check.specs.Made.{HasClaim}
use Rattle.bundle_check.specs.RightClaims as right
use Rattle.bundle_check.specs.RightClaims.{AreShown, Between, HasAsked, is_among, asked_query, missing}
use Rattle.bundle_check.specs.Walked.{kept}

-- Certificates

pub shown : (rows atoms : List Atom) (cs : List Certificate) → AreRefuted (with_negation rows) atoms cs →
    AreShown rows (missing rows atoms) (kept rows atoms cs)
shown rows [] [] r = tt
shown rows [] (c ∷ cs) r = absurd r
shown rows (a ∷ atoms) [] r = absurd r
shown rows (a ∷ atoms) (c ∷ cs) r = by_test (is_among rows a) (shown rows atoms cs r.1) where
  by_test : (t : Bool) → AreShown rows (missing rows atoms) (kept rows atoms cs) →
      AreShown rows (cond (not t) (a ∷ missing rows atoms) (missing rows atoms)) (cond t (kept rows atoms cs)
      (refutation_of c ∷ kept rows atoms cs))
  by_test true h = h
  by_test false h = (record { right = r.0.right; atoms_terms = r.0.atoms_terms; terms = r.0.terms }, h)

-- Atoms among atoms

same_self : (a : Atom) → same_atom a a ≡ true
same_self a = (atom-same a a).1 refl

among_behind : (before rows : List Atom) (a : Atom) → IsTrue (is_among rows a) → IsTrue (is_among (before ++ rows) a)
among_behind [] rows a h = h
among_behind (b ∷ before) rows a h = either (same_atom a b) (among_behind before rows a h) where
  either : (t : Bool) → IsTrue (is_among (before ++ rows) a) → IsTrue (t || is_among (before ++ rows) a)
  either true k = refl
  either false k = k

among_here : (before rows : List Atom) (a : Atom) → IsTrue (is_among (before ++ a ∷ rows) a)
among_here before rows a = among_behind before (a ∷ rows) a (first (same_atom a a) (same_self a)) where
  first : (t : Bool) → t ≡ true → IsTrue (t || is_among rows a)
  first true e = refl
  first false e = absurd cc

-- none of the rows is missing
all_among : (before rows : List Atom) → IsTrue (list_all (is_among (before ++ rows)) rows)
all_among before [] = refl
all_among before (a ∷ rows) =
    both_in (is_among (before ++ a ∷ rows) a) (list_all (is_among (before ++ a ∷ rows)) rows) (among_here before rows a)
    (subst (λ xs. IsTrue (list_all (is_among xs) rows)) (append_assoc before (a ∷ []) rows) (all_among (before ++ a ∷ []) rows))

none_missing : (rows atoms : List Atom) → IsTrue (list_all (is_among rows) atoms) → missing rows atoms ≡ []
none_missing rows [] h = refl
none_missing rows (a ∷ atoms) h = by_test (is_among rows a) u.0 (none_missing rows atoms u.1) where
  u : IsTrue (is_among rows a) × IsTrue (list_all (is_among rows) atoms)
  u = both (is_among rows a) (list_all (is_among rows) atoms) h

  by_test : (t : Bool) → IsTrue t → missing rows atoms ≡ [] → cond (not t) (a ∷ missing rows atoms) (missing rows atoms) ≡ []
  by_test true e k = k
  by_test false e k = absurd cc

-- the same rows show themselves
pub shown_same : (rows atoms : List Atom) → atoms ≡ rows → AreShown rows (missing rows atoms) []
shown_same rows atoms e =
    subst (λ xs. AreShown rows xs []) (sym (none_missing rows atoms (subst (λ xs. IsTrue (list_all (is_among rows) xs)) (sym e)
    (all_among [] rows)))) tt

-- none of no certificates is kept
pub none_kept : (rows atoms : List Atom) → kept rows atoms [] ≡ []
none_kept rows [] = refl
none_kept rows (a ∷ atoms) = refl

-- some of the atoms are among them
pub some_among : (atoms all before : List Atom) → IsSome atoms all → IsTrue (list_all (is_among (before ++ all)) atoms)
some_among [] all before s = refl
some_among (a ∷ atoms) [] before s = absurd s
some_among (a ∷ atoms) (b ∷ all) before s = ⊎_elim
    (λ k. both_in (is_among (before ++ b ∷ all) a) (list_all (is_among (before ++ b ∷ all)) atoms)
    (subst (λ x. IsTrue (is_among (before ++ x ∷ all) a)) k.0 (among_here before all a))
    (next (some_among atoms all (before ++ b ∷ []) k.1))) (λ k. next_all (some_among (a ∷ atoms) all (before ++ b ∷ []) k)) s
  where
    next : IsTrue (list_all (is_among ((before ++ b ∷ []) ++ all)) atoms) → IsTrue (list_all (is_among (before ++ b ∷ all)) atoms)
    next h = subst (λ xs. IsTrue (list_all (is_among xs) atoms)) (append_assoc before (b ∷ []) all) h

    next_all : IsTrue (list_all (is_among ((before ++ b ∷ []) ++ all)) (a ∷ atoms)) →
        IsTrue (list_all (is_among (before ++ b ∷ all)) (a ∷ atoms))
    next_all h = subst (λ xs. IsTrue (list_all (is_among xs) (a ∷ atoms))) (append_assoc before (b ∷ []) all) h

-- The moved partition beside the state's: the same regions; each live edge is one of the state's, and no other than calls are
-- lost; and the edge of an asked query by whose not-may a later step kills isn't live.
module _ (g : Graph) (killed : ℕ → Bool) where
  pub record IsDead (p : Parted) (k : RegionEdge) : Type 0 where
    pub dead : p.live k ≡ false
    pub from : k.from < length p.regions
    pub to : k.to < length p.regions

  pub record Follows (m : Model) (p : Parted) : Type 0 where
    pub regions : p.regions ≡ m.parted.regions
    pub fewer : (e : RegionEdge) → IsTrue (p.live e) → IsTrue (m.parted.live e)
    pub plain : (e : RegionEdge) (edge : Edge) → slice_get g.edges e.edge ≡ Some edge → is_call edge ≡ false →
        IsTrue (m.parted.live e) → IsTrue (p.live e)
    pub dead : (i : ℕ) (a : Asked) → slice_get m.asked i ≡ Some a → killed i ≡ true → IsDead p a.edge

  pub follows_begin : (q : Query) (ancestors : List Query) → Follows (begin_model g q ancestors) (begin_parted g q)
  follows_begin q ancestors = record {
    regions = refl;
    fewer = λ e h. h;
    plain = λ e edge at c h. h;
    dead = λ i a e h. absurd (none-some a e);
  }

  -- Kills
  dead_kill : (p : Parted) (k x : RegionEdge) → IsDead p x → IsDead (kill_edge k p) x
  dead_kill p k x h = record { dead = rw h.dead refl; from = h.from; to = h.to }

  killed_here : (p : Parted) (k : RegionEdge) → k.from < length p.regions → k.to < length p.regions → IsDead (kill_edge k p) k
  killed_here p k hf ht = record { dead = none (p.live k) (same_edge k k) (same_itself k); from = hf; to = ht } where
    none : (t u : Bool) → u ≡ true → (t && not u) ≡ false
    none true true e = refl
    none true false e = absurd cc
    none false u e = refl

  -- in both
  pub follows_kill : (m n : Model) (p : Parted) (k : RegionEdge) → n.parted ≡ kill_edge k m.parted → n.asked ≡ m.asked → Follows m p →
      Follows n (kill_edge k p)
  follows_kill m n p k e a h = record {
    regions = h.regions ∙ ap (λ (x : Parted). x.regions) (sym e);
    fewer = λ x l. subst (λ (y : Parted). IsTrue (y.live x)) (sym e)
        (let u = both (p.live x) (not (same_edge x k)) l in both_in (m.parted.live x) (not (same_edge x k)) (h.fewer x u.0) u.1);
    plain = λ x edge at c l.
        (let u = both (m.parted.live x) (not (same_edge x k)) (subst (λ (y : Parted). IsTrue (y.live x)) e l) in
        both_in (p.live x) (not (same_edge x k)) (h.plain x edge at c u.0) u.1);
    dead = λ i b at is. dead_kill p k b.edge (h.dead i b (subst (λ xs. slice_get xs i ≡ Some b) a at) is);
  }

  -- in the state alone: the edge was dead
  pub follows_dead : (m n : Model) (p : Parted) (k : RegionEdge) → n.parted ≡ kill_edge k m.parted → n.asked ≡ m.asked → p.live k ≡ false →
      (edge : Edge) → slice_get g.edges k.edge ≡ Some edge → is_call edge ≡ true → Follows m p → Follows n p
  follows_dead m n p k e a d edge at call h = record {
    regions = h.regions ∙ ap (λ (x : Parted). x.regions) (sym e);
    fewer = λ x l. subst (λ (y : Parted). IsTrue (y.live x)) (sym e)
        (both_in (m.parted.live x) (not (same_edge x k)) (h.fewer x l) (not_in (same_edge x k) (other x l)));
    plain = λ x other at2 c l.
        h.plain x other at2 c (both (m.parted.live x) (not (same_edge x k)) (subst (λ (y : Parted). IsTrue (y.live x)) e l)).0;
    dead = λ i b at2 is. h.dead i b (subst (λ xs. slice_get xs i ≡ Some b) a at2) is;
  }
    where
      clash : true ≡ false → ⊥
      clash x = cc

      other : (x : RegionEdge) → IsTrue (p.live x) → IsTrue (same_edge x k) → ⊥
      other x l t = clash (sym l ∙ (ap (λ y. p.live y) (same_is x k t) ∙ d))

  -- in the moved partition alone, at a call that is asked
  pub follows_asked : (m n : Model) (p : Parted) (a : Asked) → n.parted ≡ m.parted → n.asked ≡ m.asked ++ a ∷ [] →
      a.edge.from < length p.regions → a.edge.to < length p.regions → (edge : Edge) → slice_get g.edges a.edge.edge ≡ Some edge →
      is_call edge ≡ true → Follows m p → Follows n (kill_edge a.edge p)
  follows_asked m n p a e l hf ht edge at call h = record {
    regions = h.regions ∙ ap (λ (x : Parted). x.regions) (sym e);
    fewer = λ x k. subst (λ (y : Parted). IsTrue (y.live x)) (sym e) (h.fewer x (both (p.live x) (not (same_edge x a.edge)) k).0);
    plain = λ x other at2 c k.
        both_in (p.live x) (not (same_edge x a.edge)) (h.plain x other at2 c (subst (λ (y : Parted). IsTrue (y.live x)) e k))
        (not_in (same_edge x a.edge) (apart x other at2 c));
    dead = λ i b at2 is.
        ⊎_elim (λ o. dead_kill p a.edge b.edge (h.dead i b o.1 is))
        (λ w. subst (λ (y : Asked). IsDead (kill_edge a.edge p) y.edge) (last w.0 b w.2) (killed_here p a.edge hf ht))
        (lookup_append m.asked i (a ∷ []) b (subst (λ xs. slice_get xs i ≡ Some b) l at2));
  }
    where
      last : (j : ℕ) (b : Asked) → slice_get (a ∷ []) j ≡ Some b → a ≡ b
      last zero b k = same_Some a b k
      last (suc j) b k = absurd (none-some b k)

      clash : true ≡ false → ⊥
      clash x = cc

      apart : (x : RegionEdge) (other : Edge) → slice_get g.edges x.edge ≡ Some other → is_call other ≡ false →
          IsTrue (same_edge x a.edge) →
          ⊥
      apart x other at2 c t =
          let same : other ≡ edge = same_Some other edge
          (sym at2 ∙ (ap (λ (y : RegionEdge). slice_get g.edges y.edge) (same_is x a.edge t)
          ∙ at)) in
          clash (sym call ∙ (ap is_call (sym same) ∙ c))

  -- no kill is moved here: the asked query has no not-may, or its edge is dead
  pub follows_idle : (m n : Model) (p : Parted) (a : Asked) → n.parted ≡ m.parted → n.asked ≡ m.asked ++ a ∷ [] →
      (killed (length m.asked) ≡ true → IsDead p a.edge) → Follows m p → Follows n p
  follows_idle m n p a e l idle h = record {
    regions = h.regions ∙ ap (λ (x : Parted). x.regions) (sym e);
    fewer = λ x k. subst (λ (y : Parted). IsTrue (y.live x)) (sym e) (h.fewer x k);
    plain = λ x other at2 c k. h.plain x other at2 c (subst (λ (y : Parted). IsTrue (y.live x)) e k);
    dead = λ i b at2 is.
        ⊎_elim (λ o. h.dead i b o.1 is)
        (λ w. last w.0 b w.2 (idle (subst (λ j. killed j ≡ true) (place i w.0 b w.1 w.2) is)))
        (lookup_append m.asked i (a ∷ []) b (subst (λ xs. slice_get xs i ≡ Some b) l at2));
  }
    where
      last : (j : ℕ) (b : Asked) → slice_get (a ∷ []) j ≡ Some b → IsDead p a.edge → IsDead p b.edge
      last zero b k d = subst (λ (y : Asked). IsDead p y.edge) (same_Some a b k) d
      last (suc j) b k d = absurd (none-some b k)

      place : (i j : ℕ) (b : Asked) → i ≡ length m.asked + j → slice_get (a ∷ []) j ≡ Some b → i ≡ length m.asked
      place i zero b k x = omega (arith, k)
      place i (suc j) b k x = absurd (none-some b x)

  -- Splits
  split_longer : (regions : List Region) (from : ℕ) (atoms : List Atom) → length regions ≤ length (split_regions regions from atoms)
  split_longer regions from atoms = by_region (slice_get regions from) where
    by_region : (o : Option Region) → length regions ≤ length (split_region regions from atoms o)
    by_region None = omega arith
    by_region (Some r) = omega (
      arith,
      length-append (slice_set regions from (region r.node (r.cube.atoms ++ atoms))) (pieces r.node
          r.cube.atoms atoms),
      length-set regions from (region r.node (r.cube.atoms ++ atoms)),
    )

  old_edge : (n from : ℕ) (x : RegionEdge) → x.from < n → x.to < n → parents n from x ≡ x
  old_edge n from x hf ht =
      let a = parent_old n from x.from hf in
      let b = parent_old n from x.to ht in
      λ i. record { edge = x.edge; from = a i; to = b i }

  none_left : (t u w : Bool) → u ≡ false → (t && (u && w)) ≡ false
  none_left true true w e = absurd cc
  none_left true false w e = refl
  none_left false u w e = refl

  split_dead : (p : Parted) (k : RegionEdge) (atoms : List Atom) (x : RegionEdge) → IsDead p x → IsDead (split_edge k atoms p) x
  split_dead p k atoms x h = record {
    dead = none_left (has_regions (length (split_regions p.regions k.from atoms)) x) (p.live (parents (length p.regions) k.from x))
        (not (is_cut (length p.regions) k x)) (ap (λ y. p.live y) (old_edge (length p.regions) k.from x h.from h.to) ∙ h.dead);
    from = omega (arith, h.from, split_longer p.regions k.from atoms);
    to = omega (arith, h.to, split_longer p.regions k.from atoms);
  }

  -- an edge of the split is one where its parent is
  split_live : (p r : Parted) (k : RegionEdge) (atoms : List Atom) → p.regions ≡ r.regions → (x : RegionEdge) →
      (IsTrue (p.live (parents (length p.regions) k.from x)) → IsTrue (r.live (parents (length p.regions) k.from x))) →
      IsTrue ((split_edge k atoms p).live x) → IsTrue ((split_edge k atoms r).live x)
  split_live p r k atoms e x f h =
      let n = length p.regions in
      let all = length (split_regions p.regions k.from atoms) in
      let u = both (has_regions all x) (p.live (parents n k.from x) && not (is_cut n k x)) h in
      let w = both (p.live (parents n k.from x)) (not (is_cut n k x)) u.1 in
      subst (λ (rs : List Region). IsTrue (has_regions (length (split_regions rs k.from atoms)) x && (r.live (parents (length rs) k.from x)
      && not (is_cut (length rs) k x)))) e
      (both_in (has_regions all x) (r.live (parents n k.from x) && not (is_cut n k x)) u.0
      (both_in (r.live (parents n k.from x)) (not (is_cut n k x)) (f w.0) w.1))

  pub follows_split : (m n : Model) (p : Parted) (k : RegionEdge) (atoms : List Atom) → n.parted ≡ split_edge k atoms m.parted →
      n.asked ≡ m.asked → Follows m p → Follows n (split_edge k atoms p)
  follows_split m n p k atoms e a h = record {
    regions = ap (λ rs. split_regions rs k.from atoms) h.regions ∙ ap (λ (x : Parted). x.regions) (sym e);
    fewer = λ x l. subst (λ (y : Parted). IsTrue (y.live x)) (sym e)
        (split_live p m.parted k atoms h.regions x (λ z. h.fewer (parents (length p.regions) k.from x) z) l);
    plain = λ x edge at c l. split_live m.parted p k atoms (sym h.regions) x
        (λ z. h.plain (parents (length m.parted.regions) k.from x) edge at c z) (subst (λ (y : Parted). IsTrue (y.live x)) e l);
    dead = λ i b at is. split_dead p k atoms b.edge (h.dead i b (subst (λ xs. slice_get xs i ≡ Some b) a at) is);
  }

  -- the same regions and the same live edges, however they came about
  pub follows_as : (n : Model) (p r : Parted) → r.regions ≡ p.regions → ((x : RegionEdge) → IsTrue (r.live x) → IsTrue (p.live x)) →
      ((x : RegionEdge) → IsTrue (p.live x) → IsTrue (r.live x)) → Follows n p → Follows n r
  follows_as n p r e fewer more h = record {
    regions = e ∙ h.regions;
    fewer = λ x l. h.fewer x (fewer x l);
    plain = λ x edge at c l. more x (h.plain x edge at c l);
    dead = λ i a at is.
        let d = h.dead i a at is in
        record {
          dead = still (r.live a.edge) (p.live a.edge) (fewer a.edge) d.dead;
          from = subst (λ (rs : List Region). a.edge.from < length rs) (sym e) d.from;
          to = subst (λ (rs : List Region). a.edge.to < length rs) (sym e) d.to;
        };
  }
    where
      still : (t u : Bool) → (IsTrue t → IsTrue u) → u ≡ false → t ≡ false
      still true u f d = sym (f refl) ∙ d
      still false u f d = refl

  -- Other steps, and news
  pub follows_same : (m n : Model) (p : Parted) → n.parted ≡ m.parted → n.asked ≡ m.asked → Follows m p → Follows n p
  follows_same m n p e a h = record {
    regions = h.regions ∙ ap (λ (x : Parted). x.regions) (sym e);
    fewer = λ x k. subst (λ (y : Parted). IsTrue (y.live x)) (sym e) (h.fewer x k);
    plain = λ x other at2 c k. h.plain x other at2 c (subst (λ (y : Parted). IsTrue (y.live x)) e k);
    dead = λ i b at2 is. h.dead i b (subst (λ xs. slice_get xs i ≡ Some b) a at2) is;
  }

  -- what an entry was
  was_at : (f : Asked → Asked) (xs : List Asked) (i j : ℕ) (a : Asked) → slice_get (updated f xs i) j ≡ Some a →
      (b : Asked) × (slice_get xs j ≡ Some b) × ((f b ≡ a) ⊎ (b ≡ a))
  was_at f [] i j a e = absurd (none-some a e)
  was_at f (b ∷ xs) zero zero a e = (b, refl, inl (same_Some (f b) a e))
  was_at f (b ∷ xs) zero (suc j) a e = (a, e, inr refl)
  was_at f (b ∷ xs) (suc i) zero a e = (b, refl, inr (same_Some b a e))
  was_at f (b ∷ xs) (suc i) (suc j) a e = was_at f xs i j a e

  pub follows_updated : (m n : Model) (p : Parted) (f : Asked → Asked) (i : ℕ) → ((a : Asked) → (f a).edge ≡ a.edge) → n.parted ≡ m.parted →
      n.asked ≡ updated f m.asked i → Follows m p → Follows n p
  follows_updated m n p f i same e a h = record {
    regions = h.regions ∙ ap (λ (x : Parted). x.regions) (sym e);
    fewer = λ x k. subst (λ (y : Parted). IsTrue (y.live x)) (sym e) (h.fewer x k);
    plain = λ x other at2 c k. h.plain x other at2 c (subst (λ (y : Parted). IsTrue (y.live x)) e k);
    dead = λ j b at2 is.
        let w = was_at f m.asked i j b (subst (λ xs. slice_get xs j ≡ Some b) a at2) in
        subst (IsDead p) (⊎_elim (λ k. sym (same w.0) ∙ ap (λ (y : Asked). y.edge) k) (λ k. ap (λ (y : Asked). y.edge) k) w.2)
        (h.dead j w.0 w.1 is);
  }

-- Edges of the state, in the moved partition
module _ (g : Graph) (killed : ℕ → Bool) (m : Model) (p : Parted) (h : Follows g killed m p) where
  abbrev pub between : {k : RegionEdge} → rows.Between g m k → Between g p k
  between {k} b = record {
    edge = b.edge;
    source = b.source;
    target = b.target;
    at_edge = b.at_edge;
    at_source = subst (λ rs. slice_get rs k.from ≡ Some b.source) (sym h.regions) b.at_source;
    at_target = subst (λ rs. slice_get rs k.to ≡ Some b.target) (sym h.regions) b.at_target;
  }

  pub plain_live : (k : RegionEdge) (at : rows.PlainEdge g m k) → IsTrue (m.parted.live k) → IsTrue (p.live k)
  plain_live k at l = h.plain k at.between.edge at.between.at_edge at.plain l

  abbrev pub asks : {k : RegionEdge} {q : Query} → AsksAt g m k q → HasAsked g m.query.exit p k
  asks a = record {
    between = between a.call.between;
    from = a.call.from;
    to = a.call.to;
    site = a.call.site;
    is_call = a.call.is_call;
    kind = a.call.exit;
    is_kind = a.call.is_kind;
    rows = a.rows;
    pair = a.pair;
    is_asked = a.is_asked;
  }

  -- the rows of the asked query
  pub asked_rows : {k : RegionEdge} {q : Query} → (a : AsksAt g m k q) → rows_of_query q ≡ rows_of_query (asked_query (asks a))
  asked_rows a = λ i. a.start i ++ a.end i

  -- a kill of a call by a query that has a claim
  pub record CallKill (claims : List Query) (k : RegionEdge) : Type 0 where
    pub number : ℕ
    pub proofs : List Refutation
    pub kills : right.KillsCall g m.query.exit claims p k number proofs

  abbrev pub call_kill : (claims : List Query) (k : RegionEdge) (asked s : Query) → AsksAt g m k asked → (proofs : List Certificate) →
      rows.Entails asked s proofs → HasClaim claims s → IsTrue (p.live k) → CallKill claims k
  call_kill claims k asked s a proofs e c live =
      let rs = rows_of_query asked in
      let cs = kept rs (rows_of_query s) proofs in
      record {
        number = c.number;
        proofs = cs;
        kills = record {
          live = live;
          asks = asks a;
          claim = s;
          there = c.there;
          of_procedure = e.same_procedure ∙ a.of_procedure;
          of_exit = e.same_exit ∙ a.of_exit;
          shown = subst (λ xs. AreShown xs (missing xs (rows_of_query s)) cs) (asked_rows a) (shown rs (rows_of_query s) proofs e.shown);
        };
      }

  -- by the claim of the query that a step asks: the asked query itself, or one that it entails
  pub ask_kill : (claims : List Query) (k : RegionEdge) (table : List Summary) (q : Query) (follows : List Certificate) (seen : ℕ)
      (l : MayAsk g table m k q follows seen) (c : HasClaim claims q) → IsTrue (p.live k) →
      right.KillsCall g m.query.exit claims p k c.number (kept (rows_of_query (asked_query (asks l.asks))) (rows_of_query q) follows)
  ask_kill claims k table q follows seen l c live = by_kind l.follow where
    rs : List Atom
    rs = rows_of_query (asked_query (asks l.asks))

    by_kind : ((q ≡ l.asked) × (follows ≡ [])) ⊎ IsWeaker l.asks.call.site l.asked q follows →
        right.KillsCall g m.query.exit claims p k c.number (kept rs (rows_of_query q) follows)
    by_kind (inl same) = record {
      live = live;
      asks = asks l.asks;
      claim = q;
      there = c.there;
      of_procedure = ap (λ (x : Query). x.proc) same.0 ∙ l.asks.of_procedure;
      of_exit = ap (λ (x : Query). x.exit) same.0 ∙ l.asks.of_exit;
      shown = subst (AreShown rs (missing rs (rows_of_query q)))
          (sym (ap (kept rs (rows_of_query q)) same.1 ∙ none_kept rs (rows_of_query q)))
          (shown_same rs (rows_of_query q) (ap rows_of_query same.0 ∙ asked_rows l.asks));
    }
    by_kind (inr weaker) = record {
      live = live;
      asks = asks l.asks;
      claim = q;
      there = c.there;
      of_procedure = weaker.entails.same_procedure ∙ l.asks.of_procedure;
      of_exit = weaker.entails.same_exit ∙ l.asks.of_exit;
      shown = subst (λ xs. AreShown xs (missing xs (rows_of_query q)) (kept xs (rows_of_query q) follows)) (asked_rows l.asks)
          (shown (rows_of_query l.asked) (rows_of_query q) follows weaker.entails.shown);
    }
