-- Lists of edges region by region: what they make when one region's edges change.
use Rattle.std.proofs.Common.{◌≡◌, get_or, take, map, ℕ, zero, suc, ◌+◌, ◌<◌, ◌≤◌, List, [], ◌∷◌, ◌++◌, Bool, true, false, not, ◌&&◌, ◌||◌, ◌==◌, nat_lt, length, arith, refl, sym, subst, ap, ◌∙◌}
use Rattle.std.specs.Prelude.{IsTrue, slice_set}
use Rattle.std.specs.List.{filter, list_all}
use borrow.Author.Tests.{lt-ltb, ltb-true, eqb-true, eq-eqb}
use Rattle.std.proofs.Math.ListN.{length-set}
use Rattle.std.proofs.lemmas.List.{set-get_or}
use Rattle.std.proofs.lemmas.List.Folds.{list_all-append}
use Rattle.std.proofs.lemmas.List.Elements.{filter-append}
use Rattle.linear_formula.proofs.Limits.{both, both_in}
use Rattle.may_partition.specs.declared.ends.Side.{Side}
use Rattle.may_partition.specs.declared.ends.Side.TheVariants.{Leaving, Entering}
use Rattle.may_partition.specs.declared.region.RegionEdge.{RegionEdge}
use Rattle.may_partition.specs.Parted.{has_regions, same_edge}
use Rattle.may_partition.specs.Shown.{is_live}
use Rattle.may_partition.specs.steps.Grouped.{Adds, AreGrouped, Fan, Removes, edge_at, edges_at, fan_edge, is_rising, kept_within, lists_from}
use Rattle.may_partition.specs.steps.Listed.{AreListed, at_region, joined}
use Rattle.may_partition.specs.steps.Ordered.{comes_before, is_ascending}
use Rattle.may_partition.proofs.ByRegion.{filter_set, joined_kept, joined_less, joined_more, joined_pushed, listed_entering, listed_kept, listed_less, listed_more, listed_pushed, listed_same, live_back}
use Rattle.may_partition.proofs.Grouping.{edges_of}

-- Lists and what they are made of

pub lists_length : (side : ℕ → Side) (n : ℕ) (all : List (List Fan)) → length (lists_from side n all) ≡ length all
lists_length side n [] = refl
lists_length side n (gs ∷ all) = omega (arith, lists_length side (suc n) all)

at_from : (side : ℕ → Side) (n : ℕ) (all : List (List Fan)) (r : ℕ) →
    at_region (lists_from side n all) r ≡ edges_at (side (n + r)) (get_or all r [])
at_from side n [] zero = refl
at_from side n [] (suc r) = refl
at_from side n (gs ∷ all) zero = let e : n ≡ n + 0 = omega arith in ap (λ k. edges_at (side k) gs) e
at_from side n (gs ∷ all) (suc r) =
    let e : suc n + r ≡ n + suc r = omega arith in
    at_from side (suc n) all r ∙ ap (λ k. edges_at (side k) (get_or all r [])) e

pub lists_at : (side : ℕ → Side) (all : List (List Fan)) (r : ℕ) → at_region (lists_from side 0 all) r ≡ edges_at (side r) (get_or all r [])
lists_at side all r = let e : 0 + r ≡ r = omega arith in at_from side 0 all r ∙ ap (λ k. edges_at (side k) (get_or all r [])) e

set_from : (side : ℕ → Side) (n : ℕ) (all : List (List Fan)) (r : ℕ) (gs : List Fan) →
    lists_from side n (slice_set all r gs) ≡ slice_set (lists_from side n all) r (edges_at (side (n + r)) gs)
set_from side n [] r gs = refl
set_from side n (hs ∷ all) zero gs =
    let e : n ≡ n + 0 = omega arith in ap (λ k. edges_at (side k) gs ∷ lists_from side (suc n) all) e
set_from side n (hs ∷ all) (suc r) gs =
    let e : suc n + r ≡ n + suc r = omega arith in
    ap (λ ls. edges_at (side n) hs ∷ ls) (set_from side (suc n) all r gs
    ∙ ap (λ k. slice_set (lists_from side (suc n) all) r (edges_at (side k) gs)) e)

pub lists_set : (side : ℕ → Side) (all : List (List Fan)) (r : ℕ) (gs : List Fan) →
    lists_from side 0 (slice_set all r gs) ≡ slice_set (lists_from side 0 all) r (edges_at (side r) gs)
lists_set side all r gs =
    let e : 0 + r ≡ r = omega arith in
    set_from side 0 all r gs ∙ ap (λ k. slice_set (lists_from side 0 all) r (edges_at (side k) gs)) e

pub lists_pushed : (side : ℕ → Side) (n : ℕ) (all : List (List Fan)) →
    lists_from side n (all ++ [] ∷ []) ≡ lists_from side n all ++ [] ∷ []
lists_pushed side n [] = refl
lists_pushed side n (gs ∷ all) = ap (λ ls. edges_at (side n) gs ∷ ls) (lists_pushed side (suc n) all)

-- Edges whose other regions are among the first ones

-- the region on this side is among them
abbrev pub IsWithin : ℕ → Side → Type 0
IsWithin m s = (k x : ℕ) → has_regions m (edge_at s k x) ≡ nat_lt x m

fan_kept : (m : ℕ) (s : Side) (k : ℕ) (xs : List ℕ) → IsWithin m s →
    map (edge_at s k) (filter (λ x. nat_lt x m) xs) ≡ filter (has_regions m) (map (edge_at s k) xs)
fan_kept m s k [] h = refl
fan_kept m s k (x ∷ xs) h = by (nat_lt x m) refl (fan_kept m s k xs h) where
  by : (b : Bool) → nat_lt x m ≡ b →
      map (edge_at s k) (filter (λ y. nat_lt y m) xs) ≡ filter (has_regions m) (map (edge_at s k) xs) →
      map (edge_at s k) (filter (λ y. nat_lt y m) (x ∷ xs)) ≡ filter (has_regions m) (map (edge_at s k) (x ∷ xs))
  by true q g =
      let t : has_regions m (edge_at s k x) ≡ true = h k x ∙ q in
      rw (q, t) (ap (λ zs. edge_at s k x ∷ zs) g)
  by false q g =
      let t : has_regions m (edge_at s k x) ≡ false = h k x ∙ q in
      rw (q, t) g

edges_kept : (m : ℕ) (s : Side) (gs : List Fan) → IsWithin m s →
    edges_at s (map (kept_within m) gs) ≡ filter (has_regions m) (edges_at s gs)
edges_kept m s [] h = refl
edges_kept m s (g ∷ gs) h =
    ap (λ zs. zs ++ edges_at s (map (kept_within m) gs)) (fan_kept m s g.edge g.others h)
    ∙ ap (λ zs. filter (has_regions m) (edges_of s g) ++ zs) (edges_kept m s gs h)
    ∙ sym (filter-append (has_regions m) (edges_of s g) (edges_at s gs))

kept_from : (m : ℕ) (side : ℕ → Side) (n j : ℕ) (all : List (List Fan)) → ((r : ℕ) → r < m → IsWithin m (side r)) → n + j ≤ m →
    lists_from side n (map (map (kept_within m)) (take j all)) ≡ map (filter (has_regions m)) (take j (lists_from side n all))
kept_from m side n zero all h l = refl
kept_from m side n (suc j) [] h l = refl
kept_from m side n (suc j) (gs ∷ all) h l =
    ap (λ zs. zs ∷ lists_from side (suc n) (map (map (kept_within m)) (take j all))) (edges_kept m (side n) gs (h n (omega (arith, l))))
    ∙ ap (λ ls. filter (has_regions m) (edges_at (side n) gs) ∷ ls) (kept_from m side (suc n) j all h (omega (arith, l)))

within_leaving : (m r : ℕ) → r < m → IsWithin m (Leaving r)
within_leaving m r l k x = rw (lt-ltb r m l) refl

within_entering : (m r : ℕ) → r < m → IsWithin m (Entering r)
within_entering m r l k x = rw (lt-ltb r m l) (and_true (nat_lt x m)) where
  and_true : (b : Bool) → (b && true) ≡ b
  and_true true = refl
  and_true false = refl

-- In ascending order

fan_ascends : (r k : ℕ) (xs : List ℕ) → IsTrue (is_rising xs) → IsTrue (is_ascending (map (edge_at (Leaving r) k) xs))
fan_ascends r k [] h = refl
fan_ascends r k (x ∷ xs) h =
    let u = both (list_all (nat_lt x) xs) (is_rising xs) h in
    both_in (list_all (comes_before (edge_at (Leaving r) k x)) (map (edge_at (Leaving r) k) xs))
    (is_ascending (map (edge_at (Leaving r) k) xs)) (all xs u.0) (fan_ascends r k xs u.1)
  where
    one : (y : ℕ) → comes_before (edge_at (Leaving r) k x) (edge_at (Leaving r) k y) ≡ nat_lt x y
    one y = rw (eq-eqb k k refl, eq-eqb r r refl) refl

    all : (ys : List ℕ) → IsTrue (list_all (nat_lt x) ys) → IsTrue (list_all (comes_before (edge_at (Leaving r) k x)) (map
        (edge_at (Leaving r) k) ys))
    all [] q = refl
    all (y ∷ ys) q =
        let v = both (nat_lt x y) (list_all (nat_lt x) ys) q in
        both_in (comes_before (edge_at (Leaving r) k x) (edge_at (Leaving r) k y))
        (list_all (comes_before (edge_at (Leaving r) k x)) (map (edge_at (Leaving r) k) ys)) (subst IsTrue (sym (one y)) v.0) (all ys v.1)

-- before all edges over later graph edges
before_fan : (r k x m : ℕ) (ys : List ℕ) → k < m →
    IsTrue (list_all (comes_before (edge_at (Leaving r) k x)) (map (edge_at (Leaving r) m) ys))
before_fan r k x m [] l = refl
before_fan r k x m (y ∷ ys) l =
    both_in (comes_before (edge_at (Leaving r) k x) (edge_at (Leaving r) m y))
    (list_all (comes_before (edge_at (Leaving r) k x)) (map (edge_at (Leaving r) m) ys)) (one (k == m) refl) (before_fan r k x m ys l)
  where
    one : (b : Bool) → (k == m) ≡ b → IsTrue (comes_before (edge_at (Leaving r) k x) (edge_at (Leaving r) m y))
    one true q = absurd (omega (arith, l, eqb-true k m q))
    one false q = rw q (lt-ltb k m l)

before_all : (r k x : ℕ) (gs : List Fan) → IsTrue (list_all (nat_lt k) (map fan_edge gs)) →
    IsTrue (list_all (comes_before (edge_at (Leaving r) k x)) (edges_at (Leaving r) gs))
before_all r k x [] h = refl
before_all r k x (g ∷ gs) h =
    let u = both (nat_lt k g.edge) (list_all (nat_lt k) (map fan_edge gs)) h in
    let e = edge_at (Leaving r) k x in
    subst IsTrue (sym (list_all-append (comes_before e) (edges_of (Leaving r) g) (edges_at (Leaving r) gs)))
    (both_in (list_all (comes_before e) (edges_of (Leaving r) g)) (list_all (comes_before e) (edges_at (Leaving r) gs))
    (before_fan r k x g.edge g.others (ltb-true k g.edge u.0)) (before_all r k x gs u.1))

ascending_append : (r k : ℕ) (xs : List ℕ) (es : List RegionEdge) → IsTrue (is_ascending (map (edge_at (Leaving r) k) xs)) →
    IsTrue (is_ascending es) → ((x : ℕ) → IsTrue (list_all (comes_before (edge_at (Leaving r) k x)) es)) →
    IsTrue (is_ascending (map (edge_at (Leaving r) k) xs ++ es))
ascending_append r k [] es a b h = b
ascending_append r k (x ∷ xs) es a b h =
    let e = edge_at (Leaving r) k x in let rest = map (edge_at (Leaving r) k) xs in
    let u = both (list_all (comes_before e) rest) (is_ascending rest) a in
    both_in (list_all (comes_before e) (rest ++ es)) (is_ascending (rest ++ es))
    (subst IsTrue (sym (list_all-append (comes_before e) rest es)) (both_in (list_all (comes_before e) rest) (list_all (comes_before e) es)
    u.0 (h x)))
    (ascending_append r k xs es u.1 b h)

pub edges_ascend : (r : ℕ) (gs : List Fan) → AreGrouped gs → IsTrue (is_ascending (edges_at (Leaving r) gs))
edges_ascend r [] h = refl
edges_ascend r (g ∷ gs) h =
    let u = both (list_all (nat_lt g.edge) (map fan_edge gs)) (is_rising (map fan_edge gs)) h.edges in
    let v = both (is_rising g.others) (list_all (λ (y : Fan). is_rising y.others) gs) h.others in
    ascending_append r g.edge g.others (edges_at (Leaving r) gs) (fan_ascends r g.edge g.others v.0)
    (edges_ascend r gs (record { edges = u.1; others = v.1 })) (λ x. before_all r g.edge x gs u.0)

-- All regions

-- the regions by the edges that leave them, and by those that lead to them
abbrev pub Regions : List (List Fan) → List (List Fan) → Type 0
Regions leaving entering = AreListed (lists_from Leaving 0 leaving) (lists_from Entering 0 entering)

-- the edges of all regions
abbrev pub all_edges : List (List Fan) → List RegionEdge
all_edges leaving = joined (lists_from Leaving 0 leaving)

pub many_of : (leaving entering : List (List Fan)) → Regions leaving entering → length leaving ≤ length entering
many_of leaving entering h = omega (arith, h.many, lists_length Leaving 0 leaving, lists_length Entering 0 entering)

more_of : (side : ℕ → Side) (all : List (List Fan)) (r : ℕ) (x : RegionEdge) (gs : List Fan) →
    Adds x (edges_at (side r) (get_or all r [])) (edges_at (side r) gs) → (e : RegionEdge) →
    is_live (edges_at (side r) gs) e ≡ (is_live (at_region (lists_from side 0 all) r) e || same_edge x e)
more_of side all r x gs h e = h.live e ∙ ap (λ zs. is_live zs e || same_edge x e) (sym (lists_at side all r))

less_of : (side : ℕ → Side) (all : List (List Fan)) (r : ℕ) (x : RegionEdge) (gs : List Fan) →
    Removes x (edges_at (side r) (get_or all r [])) (edges_at (side r) gs) → (e : RegionEdge) →
    is_live (edges_at (side r) gs) e ≡ (is_live (at_region (lists_from side 0 all) r) e && not (same_edge e x))
less_of side all r x gs h e = h e ∙ ap (λ zs. is_live zs e && not (same_edge e x)) (sym (lists_at side all r))

module _ (leaving entering : List (List Fan)) (x : RegionEdge) (l t : List Fan) (h : Regions leaving entering)
    (from : x.from < length leaving) (to : x.to < length leaving) where
  far_from : x.from < length (lists_from Leaving 0 leaving)
  far_from = omega (arith, from, lists_length Leaving 0 leaving)

  far_to : x.to < length (lists_from Leaving 0 leaving)
  far_to = omega (arith, to, lists_length Leaving 0 leaving)

  module _ (more_l : Adds x (edges_at (Leaving x.from) (get_or leaving x.from [])) (edges_at (Leaving x.from) l))
      (more_t : Adds x (edges_at (Entering x.to) (get_or entering x.to [])) (edges_at (Entering x.to) t)) where
    pub regions_more : Regions (slice_set leaving x.from l) (slice_set entering x.to t)
    regions_more =
        subst (λ ls. AreListed ls (lists_from Entering 0 (slice_set entering x.to t))) (sym (lists_set Leaving leaving x.from l))
        (subst (AreListed (slice_set (lists_from Leaving 0 leaving) x.from (edges_at (Leaving x.from) l)))
        (sym (lists_set Entering entering x.to t))
        (listed_more (lists_from Leaving 0 leaving) (lists_from Entering 0 entering) x (edges_at (Leaving x.from) l)
        (edges_at (Entering x.to) t) h far_from far_to (more_of Leaving leaving x.from x l more_l)
        (more_of Entering entering x.to x t more_t)))

    pub edges_more : (e : RegionEdge) → is_live (all_edges (slice_set leaving x.from l)) e
        ≡ (is_live (all_edges leaving) e || same_edge x e)
    edges_more e =
        ap (λ ls. is_live (joined ls) e) (lists_set Leaving leaving x.from l)
        ∙ joined_more (lists_from Leaving 0 leaving) (lists_from Entering 0 entering) x (edges_at (Leaving x.from) l)
        (edges_at (Entering x.to) t) h far_from far_to (more_of Leaving leaving x.from x l more_l)
        (more_of Entering entering x.to x t more_t)
        e

    pub edges_same : (n : ℕ) → has_regions n x ≡ false →
        filter (has_regions n) (all_edges (slice_set leaving x.from l)) ≡ filter (has_regions n) (all_edges leaving)
    edges_same n q =
        ap (λ ls. filter (has_regions n) (joined ls)) (lists_set Leaving leaving x.from l)
        ∙ filter_set (has_regions n) (lists_from Leaving 0 leaving) x.from (edges_at (Leaving x.from) l)
        (more_l.kept (has_regions n) q ∙ ap (filter (has_regions n)) (sym (lists_at Leaving leaving x.from)))

  module _ (less_l : Removes x (edges_at (Leaving x.from) (get_or leaving x.from [])) (edges_at (Leaving x.from) l))
      (less_t : Removes x (edges_at (Entering x.to) (get_or entering x.to [])) (edges_at (Entering x.to) t)) where
    pub regions_less : Regions (slice_set leaving x.from l) (slice_set entering x.to t)
    regions_less =
        subst (λ ls. AreListed ls (lists_from Entering 0 (slice_set entering x.to t))) (sym (lists_set Leaving leaving x.from l))
        (subst (AreListed (slice_set (lists_from Leaving 0 leaving) x.from (edges_at (Leaving x.from) l)))
        (sym (lists_set Entering entering x.to t))
        (listed_less (lists_from Leaving 0 leaving) (lists_from Entering 0 entering) x (edges_at (Leaving x.from) l)
        (edges_at (Entering x.to) t) h far_from far_to (less_of Leaving leaving x.from x l less_l)
        (less_of Entering entering x.to x t less_t)).0)

    pub edges_less : (e : RegionEdge) →
        is_live (all_edges (slice_set leaving x.from l)) e ≡ (is_live (all_edges leaving) e && not (same_edge e x))
    edges_less e =
        ap (λ ls. is_live (joined ls) e) (lists_set Leaving leaving x.from l)
        ∙ joined_less (lists_from Leaving 0 leaving) (lists_from Entering 0 entering) x (edges_at (Leaving x.from) l)
        (edges_at (Entering x.to) t) h far_from far_to (less_of Leaving leaving x.from x l less_l)
        (less_of Entering entering x.to x t less_t)
        e

-- an edge that is missing was added and removed again where it leads to
pub regions_back : (leaving entering : List (List Fan)) (x : RegionEdge) (t u : List Fan) → Regions leaving entering →
    x.to < length entering → is_live (edges_at (Leaving x.from) (get_or leaving x.from [])) x ≡ false →
    Adds x (edges_at (Entering x.to) (get_or entering x.to [])) (edges_at (Entering x.to) t) →
    Removes x (edges_at (Entering x.to) t) (edges_at (Entering x.to) u) →
    Regions leaving (slice_set (slice_set entering x.to t) x.to u)
regions_back leaving entering x t u h to none more less =
    let E = lists_from Entering 0 entering in let L = lists_from Leaving 0 leaving in
    let put = lists_set Entering (slice_set entering x.to t) x.to u
    ∙ ap (λ ls. slice_set ls x.to (edges_at (Entering x.to) u)) (lists_set Entering entering x.to t) in
    let far : x.to < length E = omega (arith, to, lists_length Entering 0 entering) in
    let missing : is_live (at_region E x.to) x ≡ false =
    h.enters x.to x ∙ ap (λ b. b && (x.to == x.to)) (ap (λ zs. is_live zs x) (lists_at Leaving leaving x.from) ∙ none) in
    subst (AreListed L) (sym put)
    (listed_same L E (slice_set (slice_set E x.to (edges_at (Entering x.to) t)) x.to (edges_at (Entering x.to) u)) h
    (omega (
      arith,
      h.many,
      length-set E x.to (edges_at (Entering x.to) t),
      length-set (slice_set E x.to (edges_at (Entering x.to) t)) x.to (edges_at (Entering x.to) u),
    ))
    (live_back E x (edges_at (Entering x.to) t) (edges_at (Entering x.to) u) far (more_of Entering entering x.to x t more) less missing))

-- a list that is as it was
pub regions_same : (leaving entering : List (List Fan)) (r : ℕ) (gs : List Fan) → gs ≡ get_or leaving r [] → Regions leaving entering →
    Regions (slice_set leaving r gs) entering
regions_same leaving entering r gs s h =
    subst (λ (ls : List (List Fan)). Regions ls entering) (sym (ap (slice_set leaving r) s ∙ set-get_or leaving r [])) h

pub regions_kept : (n : ℕ) (leaving entering : List (List Fan)) → Regions leaving entering → n ≤ length leaving →
    Regions (map (map (kept_within n)) (take n leaving)) (map (map (kept_within n)) (take n entering))
regions_kept n leaving entering h few =
    let e : 0 + n ≤ n = omega arith in
    subst (λ ls. AreListed ls (lists_from Entering 0 (map (map (kept_within n)) (take n entering))))
    (sym (kept_from n Leaving 0 n leaving (within_leaving n) e))
    (subst (AreListed (map (filter (has_regions n)) (take n (lists_from Leaving 0 leaving))))
    (sym (kept_from n Entering 0 n entering (within_entering n) e))
    (listed_kept n (lists_from Leaving 0 leaving) (lists_from Entering 0 entering) h (omega (arith, few, lists_length Leaving 0 leaving))))

pub edges_within : (n : ℕ) (leaving entering : List (List Fan)) → Regions leaving entering →
    all_edges (map (map (kept_within n)) (take n leaving)) ≡ filter (has_regions n) (all_edges leaving)
edges_within n leaving entering h =
    let e : 0 + n ≤ n = omega arith in
    ap joined (kept_from n Leaving 0 n leaving (within_leaving n) e)
    ∙ joined_kept n n 0 (lists_from Leaving 0 leaving) (omega arith) (λ r x k. omega (arith, h.from r x k))

pub regions_pushed : (leaving entering : List (List Fan)) → Regions leaving entering → Regions (leaving ++ [] ∷ []) (entering ++ [] ∷ [])
regions_pushed leaving entering h =
    subst (λ ls. AreListed ls (lists_from Entering 0 (entering ++ [] ∷ []))) (sym (lists_pushed Leaving 0 leaving))
    (subst (AreListed (lists_from Leaving 0 leaving ++ [] ∷ [])) (sym (lists_pushed Entering 0 entering))
    (listed_pushed (lists_from Leaving 0 leaving) (lists_from Entering 0 entering) h))

pub regions_entering : (leaving entering : List (List Fan)) → Regions leaving entering → Regions leaving (entering ++ [] ∷ [])
regions_entering leaving entering h =
    subst (AreListed (lists_from Leaving 0 leaving)) (sym (lists_pushed Entering 0 entering))
    (listed_entering (lists_from Leaving 0 leaving) (lists_from Entering 0 entering) h)

pub edges_pushed : (leaving : List (List Fan)) → all_edges (leaving ++ [] ∷ []) ≡ all_edges leaving
edges_pushed leaving = ap joined (lists_pushed Leaving 0 leaving) ∙ joined_pushed (lists_from Leaving 0 leaving)
