-- Paths over numbered edges, over a list of edges, and over the live edges of a partition.
use Rattle.std.proofs.Common.{◌≡◌, ◌↔◌, ℕ, zero, suc, ◌<◌, ◌≤◌, Bool, true, false, not, nat_lt, ◌&&◌, ◌||◌, IsTrue, List, [], ◌∷◌, map, replicate, Some, arith, refl, sym, ap, ◌∙◌, subst, slice_get}
use Rattle.std.proofs.lemmas.Option.{same_Some, none-some}
use borrow.Author.Tests.{lt-ltb}
use Rattle.flow_graph.specs.declared.graph.Graph.{Graph}
use Rattle.summary_form.specs.declared.query.Query.{Query}
use Rattle.may_partition.proofs.Kept.{same_is}
use Rattle.may_partition.specs.declared.region.RegionEdge.{RegionEdge}
use Rattle.may_partition.specs.Parted.{Parted, same_edge}
use Rattle.may_partition.specs.Shown.{Shown, Shows, have_regions, is_live}
use Rattle.abstract_path.specs.Routes.{IsRoute, is_at}
use Rattle.query_rules.proofs.AppliedSteps.{ends_within}
use Rattle.query_rules.specs.Paths.{HasNoPath, IsPath, target_region}
use Rattle.may_partition.proofs.ByRegion.{same_itself}
use Rattle.bundle_check.specs.steps.Checks.{Decides}
use Rattle.bundle_check.specs.steps.Roads.{IsJoined, IsRoad, ends_of}
use Rattle.bundle_check.proofs.Deciding.{untrue}

pub or_true : (c d : Bool) → d ≡ true → (c || d) ≡ true
or_true true d h = refl
or_true false d h = h

-- Numbered edges

record EdgeAt (edges : List RegionEdge) (n a b : ℕ) : Type 0 where
  pub item : RegionEdge
  pub starts : item.from ≡ a
  pub ends : item.to ≡ b
  pub listed : IsTrue (is_live edges item)

edge_at : (edges : List RegionEdge) (n a b : ℕ) → slice_get (map ends_of edges) n ≡ Some (a, b) → EdgeAt edges n a b
edge_at [] n a b h = absurd (none-some _ h)
edge_at (x ∷ edges) zero a b h = record {
  item = x;
  starts = ap (λ p. p.0) (same_Some _ _ h);
  ends = ap (λ p. p.1) (same_Some _ _ h);
  listed = ap (λ c. c || is_live edges x) (same_itself x);
}
edge_at (x ∷ edges) (suc n) a b h =
    let r = edge_at edges n a b h in
    record {
      item = r.item;
      starts = r.starts;
      ends = r.ends;
      listed = or_true (same_edge x r.item) (is_live edges r.item) r.listed;
    }

number_of : (edges : List RegionEdge) (e : RegionEdge) → IsTrue (is_live edges e) → (n : ℕ)
    × (slice_get (map ends_of edges) n ≡ Some (e.from, e.to))
number_of [] e h = absurd (untrue h)
number_of (x ∷ edges) e h = by (number_of edges e) (same_edge x e) refl h where
  by : (IsTrue (is_live edges e) → (n : ℕ) × (slice_get (map ends_of edges) n ≡ Some (e.from, e.to))) → (c : Bool) → same_edge x e ≡ c →
      IsTrue (c || is_live edges e) → (n : ℕ) × (slice_get (map ends_of (x ∷ edges)) n ≡ Some (e.from, e.to))
  by rest true s t = (0, ap (λ y. Some (ends_of y)) (same_is x e s))
  by rest false s t = let r = rest t in (suc r.0, r.1)

none_shut : (count n : ℕ) → is_at (replicate count false) n ≡ false
none_shut zero n = refl
none_shut (suc count) zero = refl
none_shut (suc count) (suc n) = none_shut count n

module _ (edges : List RegionEdge) (count : ℕ) where
  road_of : (ns : List ℕ) (a b : ℕ) → IsRoute (map ends_of edges) (replicate count false) a ns b → IsJoined edges a b
  road_of [] a b r = ([], r)
  road_of (n ∷ ns) a b r =
      let k = edge_at edges n a r.0 r.1.0 in
      let rest = road_of ns r.0 b r.2 in
      (k.item ∷ rest.0, (k.listed, k.starts, subst (λ x. IsRoad edges x rest.0 b) (sym k.ends) rest.1))

  route_of : (es : List RegionEdge) (a b : ℕ) → IsRoad edges a es b → (ns : List ℕ) × IsRoute (map ends_of edges) (replicate count false) a
      ns b
  route_of [] a b r = ([], r)
  route_of (e ∷ es) a b r =
      let k = number_of edges e r.0 in
      let rest = route_of es e.to b r.2 in
      (k.0 ∷ rest.0, (e.to, (subst (λ x. slice_get (map ends_of edges) k.0 ≡ Some (x, e.to)) r.1 k.1, none_shut count k.0), rest.1))

pub pairs_within : (regions : ℕ) (edges : List RegionEdge) → IsTrue (have_regions regions edges) → (n a b : ℕ) →
    slice_get (map ends_of edges) n ≡ Some (a, b) → (a < regions) × (b < regions)
pairs_within regions edges w n a b h =
    let k = edge_at edges n a b h in
    let r = ends_within regions edges k.item w k.listed in
    (subst (λ x. x < regions) k.starts r.0, subst (λ x. x < regions) k.ends r.1)

pub joined_is : (edges : List RegionEdge) (pairs : List (ℕ × ℕ)) (shut : List Bool) (count from to : ℕ) (r : Bool) →
    pairs ≡ map ends_of edges → shut ≡ replicate count false → (IsTrue r ↔ ((path : List ℕ) × IsRoute pairs shut from path to)) →
    IsTrue r ↔ IsJoined edges from to
joined_is edges pairs shut count from to r e s h = (
  λ t. let w = h.0 t in road_of edges count w.0 from to (subst (λ x. IsRoute (map ends_of edges) x from w.0 to) s
      (subst (λ x. IsRoute x shut from w.0 to) e w.1)),
  λ k. let w = route_of edges count k.0 from to k.1 in
      h.1 (w.0, subst (λ x. IsRoute x shut from w.0 to) (sym e) (subst (λ x. IsRoute (map ends_of edges) x from w.0 to) (sym s) w.1)),
)

-- Edges, region by region

-- those of all regions that exist
pub live_all : (edges xs : List RegionEdge) (n : ℕ) → IsTrue (have_regions n edges) →
    ((e : RegionEdge) → is_live xs e ≡ (is_live edges e && nat_lt e.from n)) → (e : RegionEdge) → is_live xs e ≡ is_live edges e
live_all edges xs n w h e = h e ∙ by (is_live edges e) refl where
  by : (c : Bool) → is_live edges e ≡ c → (c && nat_lt e.from n) ≡ c
  by true s = lt-ltb e.from n (ends_within n edges e w s).0
  by false s = refl

road_same : (edges xs : List RegionEdge) → ((e : RegionEdge) → is_live xs e ≡ is_live edges e) → (es : List RegionEdge) (a b : ℕ) →
    IsRoad xs a es b → IsRoad edges a es b
road_same edges xs h [] a b r = r
road_same edges xs h (e ∷ es) a b r = (sym (h e) ∙ r.0, r.1, road_same edges xs h es e.to b r.2)

pub joined_same : (edges xs : List RegionEdge) (a b : ℕ) (r : Bool) → ((e : RegionEdge) → is_live xs e ≡ is_live edges e) →
    IsTrue r ↔ IsJoined xs a b → IsTrue r ↔ IsJoined edges a b
joined_same edges xs a b r h k = (
  λ t. let w = k.0 t in (w.0, road_same edges xs h w.0 a b w.1),
  λ w. k.1 (w.0, road_same xs edges (λ e. sym (h e)) w.0 a b w.1),
)

-- Live edges

module _ (s : Shown) (p : Parted) (sh : Shows s p) where
  road_is_path : (es : List RegionEdge) (a b : ℕ) → IsRoad s.edges a es b → IsPath p a es b
  road_is_path [] a b r = r
  road_is_path (e ∷ es) a b r = (sym (sh.live e) ∙ r.0, r.1, road_is_path es e.to b r.2)

  path_is_road : (es : List RegionEdge) (a b : ℕ) → IsPath p a es b → IsRoad s.edges a es b
  path_is_road [] a b r = r
  path_is_road (e ∷ es) a b r = (sh.live e ∙ r.0, r.1, path_is_road es e.to b r.2)

-- a path ends in a region that exists, or where it begins
ends_in : (n : ℕ) (edges : List RegionEdge) → IsTrue (have_regions n edges) → (es : List RegionEdge) (a b : ℕ) → a < n →
    IsRoad edges a es b →
    b < n
ends_in n edges w [] a b low r = subst (λ x. x < n) (sym r) low
ends_in n edges w (e ∷ es) a b low r = ends_in n edges w es e.to b (ends_within n edges e w r.0).1 r.2

-- with no region at all only the empty path is there
ends_apart : (n : ℕ) (edges : List RegionEdge) → IsTrue (have_regions n edges) → (es : List RegionEdge) (b : ℕ) → n ≤ suc b →
    IsRoad edges 0 es (suc b) → ⊥
ends_apart n edges w [] b past r = omega (arith, r)
ends_apart n edges w (e ∷ es) b past r =
    let low = ends_in n edges w es e.to (suc b) (ends_within n edges e w r.0).1 r.2 in omega (arith, low, past)

module _ (g : Graph) (q : Query) (s : Shown) where
  pub no_region : (n : ℕ) → IsTrue (have_regions n s.edges) → n ≤ target_region g q → Decides s (HasNoPath g q) true
  no_region n w past p sh = (
    λ t es r. ends_apart n s.edges w es _ past (path_is_road s p sh es 0 (target_region g q) r),
    λ h. refl,
  )

  pub joined_decides : (r : Bool) → (IsTrue r ↔ IsJoined s.edges 0 (target_region g q)) → Decides s (HasNoPath g q) (not r)
  joined_decides r h p sh = (
    λ t es k. differ r t (h.1 (es, path_is_road s p sh es 0 (target_region g q) k)),
    λ none. by_test r refl none,
  )
    where
      differ : (c : Bool) → IsTrue (not c) → IsTrue c → ⊥
      differ true t u = untrue t
      differ false t u = untrue u

      by_test : (c : Bool) → r ≡ c → HasNoPath g q p → IsTrue (not c)
      by_test true e none = let w = h.0 e in absurd (none w.0 (road_is_path s p sh w.0 0 (target_region g q) w.1))
      by_test false e none = refl
