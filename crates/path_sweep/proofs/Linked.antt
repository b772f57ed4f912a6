-- The edges that leave each node, from the last edge to the first.
use Rattle.std.proofs.Common.{◌≡◌, ◌≢◌, ◌⊎◌, inl, inr, ℕ, zero, suc, ◌+◌, ◌-◌, ◌<◌, ◌≤◌, ◌==◌, Bool, true, false, List, [], ◌∷◌, ◌++◌, length, length-append, Option, Some, None, replicate, arith, refl, sym, subst, ap, ◌∙◌}
use Rattle.std.specs.Prelude.{slice_get, slice_set, slice_index_or}
use Rattle.std.proofs.lemmas.Option.{same_Some, none-some, slice_get_within, slice_get_read, get_or_from_slice_get}
use Rattle.std.proofs.lemmas.List.{get_or-set_other, length-replicate}
use Rattle.std.proofs.lemmas.Grind.{get_or-set_at}
use Rattle.std.proofs.Math.ListN.{length-set}
use borrow.Author.Tests.{eqb-true, eqb-false}
use Rattle.flow_graph.specs.declared.graph.Edge.{Edge}
use Rattle.flow_graph.specs.declared.graph.Graph.{Graph}
use Rattle.flow_graph.specs.Shapes.{source}
use Rattle.path_sweep.specs.steps.Linking.{Leaves, IsFirst, AreLinks, AreAllLinks}
use Rattle.path_sweep.specs.declared.links.Links.{Links}
use Rattle.path_sweep.specs.declared.links.Following.{Following}
use Rattle.path_sweep.proofs.Ordering.{last_pushed, old_pushed}

-- so far, from this edge on
pub record LinksFrom (nodes : ℕ) (edges : List Edge) (left : ℕ) (first next : List (Option ℕ)) : Type 0 where
  pub low : left ≤ length edges
  pub nodes_are : length first ≡ nodes
  pub edges_are : length next ≡ length edges
  pub firsts : (node : ℕ) → IsFirst (Leaves edges node) left (slice_index_or first node None)
  pub nexts : (node k : ℕ) → left ≤ k → Leaves edges node k → IsFirst (Leaves edges node) (k + 1) (slice_index_or next k None)

abbrev nobody : Option ℕ
nobody = None

none_anywhere : (n k : ℕ) → slice_index_or (replicate n nobody) k None ≡ nobody
none_anywhere zero k = refl
none_anywhere (suc n) zero = refl
none_anywhere (suc n) (suc k) = none_anywhere n k

pub links_begin : (nodes : ℕ) (edges : List Edge) (first next : List (Option ℕ)) → first ≡ replicate nodes None →
    next ≡ replicate (length edges) None → LinksFrom nodes edges (length edges) first next
links_begin nodes edges first next f n = record {
  low = omega arith;
  nodes_are = ap length f ∙ length-replicate nodes None;
  edges_are = ap length n ∙ length-replicate (length edges) None;
  firsts = λ node. subst (λ o. IsFirst (Leaves edges node) (length edges) o)
      (sym (ap (λ xs. slice_index_or xs node None) f ∙ none_anywhere nodes node))
      (λ k le l. omega (arith, le, slice_get_within edges k l.0 l.1));
  nexts = λ node k le l. absurd (omega (arith, le, slice_get_within edges k l.0 l.1));
}

-- from one edge before, which doesn't leave the node
earlier : (edges : List Edge) (node i : ℕ) (o : Option ℕ) → (Leaves edges node i → ⊥) → IsFirst (Leaves edges node) (suc i) o →
    IsFirst (Leaves edges node) i o
earlier edges node i None other h = λ k le l. on k l (apart k i le) where
  apart : (k i : ℕ) → i ≤ k → (k ≡ i) ⊎ (suc i ≤ k)
  apart k i le = grind arith

  on : (k : ℕ) → Leaves edges node k → (k ≡ i) ⊎ (suc i ≤ k) → ⊥
  on k l (inl e) = other (subst (Leaves edges node) e l)
  on k l (inr g) = h k g l
earlier edges node i (Some j) other h = (omega (arith, h.0), h.1, λ k le lt l. on k lt l (apart k i le)) where
  apart : (k i : ℕ) → i ≤ k → (k ≡ i) ⊎ (suc i ≤ k)
  apart k i le = grind arith

  on : (k : ℕ) → k < j → Leaves edges node k → (k ≡ i) ⊎ (suc i ≤ k) → ⊥
  on k lt l (inl e) = other (subst (Leaves edges node) e l)
  on k lt l (inr g) = h.2 k g lt l

-- an edge that leaves no node
pub links_pass : (nodes : ℕ) (edges : List Edge) (left i : ℕ) (e : Edge) (first next : List (Option ℕ)) → suc i ≡ left → slice_get edges i
    ≡ Some e →
    source e ≡ None → LinksFrom nodes edges left first next → LinksFrom nodes edges i first next
links_pass nodes edges left i e first next at_left at none h =
    let hs = subst (λ n. LinksFrom nodes edges n first next) (sym at_left) h in
    record {
      low = omega (arith, hs.low);
      nodes_are = hs.nodes_are;
      edges_are = hs.edges_are;
      firsts = λ node. earlier edges node i (slice_index_or first node None) (λ l. no node l) (hs.firsts node);
      nexts = λ node k le l. later node k l (apart k i le) hs;
    } where
      no : (node : ℕ) → Leaves edges node i → ⊥
      no node l = none-some node (sym none ∙ (ap source (same_Some e l.0 (sym at ∙ l.1)) ∙ l.2))

      apart : (k i : ℕ) → i ≤ k → (k ≡ i) ⊎ (suc i ≤ k)
      apart k i le = grind arith

      later : (node k : ℕ) → Leaves edges node k → (k ≡ i) ⊎ (suc i ≤ k) → LinksFrom nodes edges (suc i) first next →
          IsFirst (Leaves edges node) (k + 1) (slice_index_or next k None)
      later node k l (inl s) hs = absurd (no node (subst (Leaves edges node) s l))
      later node k l (inr g) hs = hs.nexts node k g l

-- an edge that leaves this node
pub links_more : (nodes : ℕ) (edges : List Edge) (left i n : ℕ) (e : Edge) (first next : List (Option ℕ)) → suc i ≡ left → slice_get edges i
    ≡ Some e →
    source e ≡ Some n → n < nodes → LinksFrom nodes edges left first next →
    LinksFrom nodes edges i (slice_set first n (Some i)) (slice_set next i (slice_index_or first n None))
links_more nodes edges left i n e first next at_left at src inside h =
    let hs = subst (λ m. LinksFrom nodes edges m first next) (sym at_left) h in
    record {
      low = omega (arith, hs.low);
      nodes_are = length-set first n (Some i) ∙ hs.nodes_are;
      edges_are = length-set next i (slice_index_or first n None) ∙ hs.edges_are;
      firsts = λ node. here node hs (node == n) refl;
      nexts = λ node k le l. later node k l (apart k i le) hs;
    } where
      own : (node : ℕ) → Leaves edges node i → node ≡ n
      own node l = same_Some node n (sym l.2 ∙ (ap source (same_Some l.0 e (sym l.1 ∙ at)) ∙ src))

      apart : (k i : ℕ) → i ≤ k → (k ≡ i) ⊎ (suc i ≤ k)
      apart k i le = grind arith

      here : (node : ℕ) → LinksFrom nodes edges (suc i) first next → (b : Bool) → (node == n) ≡ b →
          IsFirst (Leaves edges node) i (slice_index_or (slice_set first n (Some i)) node None)
      here node hs true t =
          let s : node ≡ n = eqb-true node n t in
          subst (λ o. IsFirst (Leaves edges node) i o)
          (sym (get_or-set_at first n node (Some i) None s (omega (arith, inside, hs.nodes_are))))
          (omega arith, (e, at, src ∙ ap Some (sym s)), λ k le lt l. omega (arith, le, lt))
      here node hs false t =
          let s : node ≢ n = eqb-false node n t in
          subst (λ o. IsFirst (Leaves edges node) i o) (sym (get_or-set_other first n node (Some i) None s))
          (earlier edges node i (slice_index_or first node None) (λ l. s (own node l)) (hs.firsts node))

      later : (node k : ℕ) → Leaves edges node k → (k ≡ i) ⊎ (suc i ≤ k) → LinksFrom nodes edges (suc i) first next →
          IsFirst (Leaves edges node) (k + 1) (slice_index_or (slice_set next i (slice_index_or first n None)) k None)
      later node k l (inl s) hs =
          let same = get_or-set_at next i k (slice_index_or first n None) None s
          (omega (arith, hs.edges_are, slice_get_within edges i e at)) in
          let node_is : node ≡ n = own node (subst (Leaves edges node) s l) in
          let number : suc i ≡ k + 1 = omega (arith, s) in
          subst (λ o. IsFirst (Leaves edges node) (k + 1) o) (sym same ∙ refl)
          (subst (λ m. IsFirst (Leaves edges node) m (slice_index_or first n None)) number
          (subst (λ m. IsFirst (Leaves edges node) (suc i) (slice_index_or first m None)) node_is (hs.firsts node)))
      later node k l (inr g) hs =
          let other : k ≢ i = λ s. omega (arith, g, s) in
          subst (λ o. IsFirst (Leaves edges node) (k + 1) o) (sym (get_or-set_other next i k (slice_index_or first n None) None other))
          (hs.nexts node k g l)

pub links_end : (g : Graph) (links : Links) (left : ℕ) → left ≡ 0 → LinksFrom g.nodes g.edges left links.first.items links.next.items →
    AreLinks g links
links_end g links left z h =
    let hs = subst (λ n. LinksFrom g.nodes g.edges n links.first.items links.next.items) z h in
    record { first = λ node. hs.firsts node; next = λ node k l. hs.nexts node k (omega arith) l }

-- the links of the first `count` graphs
pub record AllSoFar (gs : List Graph) (count : ℕ) (all : List Links) : Type 0 where
  pub many : length all ≡ count
  pub each : (p : ℕ) (g : Graph) → p < count → slice_get gs p ≡ Some g → (l : Links) × (slice_get all p ≡ Some l) × AreLinks g l

pub all_more : (gs : List Graph) (count : ℕ) (g : Graph) (all new : List Links) (l : Links) → slice_get gs count ≡ Some g → new ≡ all ++ l
    ∷ [] →
    AreLinks g l → AllSoFar gs count all → AllSoFar gs (count + 1) new
all_more gs count g all new l at is own h = record {
  many = ap length is ∙ (length-append all (l ∷ []) ∙ ap (λ n. n + 1) h.many);
  each = λ p k lt e. subst (λ xs. (m : Links) × (slice_get xs p ≡ Some m) × AreLinks k m) (sym is) (on p k e (apart p count lt));
} where
  apart : (p count : ℕ) → p < count + 1 → (p ≡ count) ⊎ (p < count)
  apart p count lt = grind arith

  on : (p : ℕ) (k : Graph) → slice_get gs p ≡ Some k → (p ≡ count) ⊎ (p < count) → (m : Links) × (slice_get (all ++ l ∷ []) p ≡ Some m)
      × AreLinks k m
  on p k e (inl s) = (
    l,
    ap (slice_get (all ++ l ∷ [])) (s ∙ sym h.many) ∙ last_pushed all l,
    subst (λ x. AreLinks x l) (same_Some g k (sym at ∙ (ap (slice_get gs) (sym s) ∙ e))) own,
  )
  on p k e (inr lt) = let r = h.each p k lt e in (r.0, old_pushed all l p r.0 r.1, r.2)

pub all_end : (gs : List Graph) (count : ℕ) (f : Following) → length gs ≤ count → AllSoFar gs count f.graphs.items → AreAllLinks gs f
all_end gs count f low h = record { each = λ p g e. h.each p g (omega (arith, low, slice_get_within gs p g e)) e }

-- the node that an edge of a graph leaves is one
pub node_in : (g : Graph) (edges : List Edge) (i n : ℕ) (e : Edge) → edges ≡ g.edges → slice_get edges i ≡ Some e → source e ≡ Some n →
    n < g.nodes
node_in g edges i n e same at src = (((g.well_formed).are_edges i e (subst (λ es. slice_get es i ≡ Some e) same at)).leaves n src).0

pub read_here : (edges : List Edge) (left : ℕ) (e : Edge) → left ≤ length edges → 1 ≤ left → e ≡ slice_index_or edges (left - 1) e →
    slice_get edges (left - 1) ≡ Some e
read_here edges left e low one is = slice_get_read edges (length edges) (left - 1) e refl (omega (arith, low, one)) is

pub one_before : (xs : List (Option ℕ)) (i : ℕ) (o : Option ℕ) → i < length xs → o ≡ slice_index_or xs i o → o ≡ slice_index_or xs i None
one_before xs i o lt is = sym (get_or_from_slice_get xs i o None (slice_get_read xs (length xs) i o refl lt is))
