-- A board opens root by root.
use Rattle.std.proofs.Common.{◌≡◌, ℕ, suc, ◌+◌, ◌*◌, ◌≤◌, List, [], ◌∷◌, ◌++◌, length, map, take, zero, false, Some, None, refl, sym, ap, ◌∙◌, subst, ⊎_elim, arith}
use Rattle.std.specs.Prelude.{slice_get}
use Rattle.std.proofs.lemmas.List.{length_push, map-append}
use Rattle.flow_graph.specs.declared.graph.Graph.{Graph}
use Rattle.query_tree.specs.declared.Entry.{Entry}
use Rattle.query_tree.specs.Forest.{after_root, root_of}
use Rattle.query_tree.proofs.Lists.{from_pushed}
use Rattle.query_rules.specs.Seen.{Seen}
use Rattle.summary_form.specs.declared.summary.Summary.{Summary}
use Rattle.summary_table.specs.declared.keys.TheConstants.{MAX_PROCEDURES}
use Rattle.bolt_core.specs.declared.slot.Slot.{Slot}
use Rattle.bolt_core.specs.declared.slot.ClosedAs.TheVariants as how
use Rattle.flow_graph.specs.Linked.{AreGraphs}
use Rattle.bolt_core.specs.Boards.{AreRootsOf, IsBegunWith, IsBoard, IsRootOf, IsRoomy, core_of, node_of}
use Rattle.bolt_core.specs.Groups.{Node}
use Rattle.bolt_core.specs.Machine.{AllOf, Core, HoldsBy, first_board, node_of_root, opening}
use Rattle.bolt_core.specs.Origins.{HasTraced}
use Rattle.bolt_core.specs.States.{reads}
use Rattle.bolt_core.specs.steps.Begun.{AreBegun}

roots_push : (gs : List Graph) (main k : ℕ) (ss : List Seen) (s : Seen) → AreRootsOf gs main k ss → IsRootOf gs main (k + length ss) s →
    AreRootsOf gs main k (ss ++ s ∷ [])
roots_push gs main k [] s h own = let e : k + 0 ≡ k = omega arith in (subst (λ n. IsRootOf gs main n s) e own, tt)
roots_push gs main k (x ∷ ss) s h own =
    let e : k + suc (length ss) ≡ suc k + length ss = omega arith in
    (h.0, roots_push gs main (suc k) ss s h.1 (subst (λ n. IsRootOf gs main n s) e own))

-- one root more
abbrev with_root : List Graph → ℕ → Core Seen → Seen → Core Seen
with_root gs budget c s = record c {
  entries = after_root c.entries budget s;
  nodes = c.nodes ++ node_of_root (reads gs) s ∷ [];
}

opening_push : (gs : List Graph) (budget : ℕ) (ss : List Seen) (s : Seen) (c : Core Seen) →
    opening (reads gs) budget (ss ++ s ∷ []) c ≡ with_root gs budget (opening (reads gs) budget ss c) s
opening_push gs budget [] s c = refl
opening_push gs budget (x ∷ ss) s c = opening_push gs budget ss s (with_root gs budget c x)

pub none_begun : (gs : List Graph) (main budget : ℕ) (ks : List Summary) → AreBegun gs main budget 0 ks [] []
none_begun gs main budget ks = record {
  roots = [];
  count = refl;
  are_roots = tt;
  is = refl;
  entries_are = refl;
  slots_are = refl;
  open_slots = λ i s at. absurd (cc);
}

pub one_begun : (gs : List Graph) (main budget n : ℕ) (ks : List Summary) (es : List (Entry Seen)) (slots : List Slot) (s : Seen)
    (z : Slot) →
    AreBegun gs main budget n ks es slots → IsRootOf gs main n s → z.closed ≡ None → z.published ≡ None →
    z.said ≡ false → node_of z ≡ node_of_root (reads gs) s → AreBegun gs main budget (n + 1) ks (after_root es budget s) (slots ++ z ∷ [])
one_begun gs main budget n ks es slots s z h own shut hidden silent node =
    let R = reads gs in
    let at : 0 + length h.roots ≡ n = omega (arith, h.count) in
    let nodes : map node_of (slots ++ z ∷ []) ≡ map node_of slots ++ node_of_root R s ∷ [] =
    map-append node_of slots (z ∷ []) ∙ ap (λ x. map node_of slots ++ x ∷ []) node in
    record {
      roots = h.roots ++ s ∷ [];
      count = omega (arith, h.count, length_push h.roots s);
      are_roots = roots_push gs main 0 h.roots s h.are_roots (subst (λ k. IsRootOf gs main k s) (sym at) own);
      is = ap (λ (ns : List Node). record (core_of ks (after_root es budget s) slots ks [] false) { nodes = ns }) nodes
          ∙ (ap (λ (c : Core Seen). with_root gs budget c s) h.is ∙ sym (opening_push gs budget h.roots s (first_board R ks)));
      entries_are = omega (arith, h.entries_are, length_push es (root_of (length es) budget s));
      slots_are = omega (arith, h.slots_are, length_push slots z);
      open_slots = λ i x a. ⊎_elim
          (λ o. h.open_slots i x o)
          (λ o. (
            ap (λ (y : Slot). y.closed) o.1 ∙ shut,
            ap (λ (y : Slot). y.published) o.1 ∙ hidden,
            ap (λ (y : Slot). y.said) o.1 ∙ silent,
          ))
          (from_pushed slots z i x a);
    }

-- the board begins, and has its room
module _ (gs : List Graph) (main asserts budget n : ℕ) (ks : List Summary) (es : List (Entry Seen)) (slots : List Slot)
    (h : AreBegun gs main budget n ks es slots)
    (all : n ≡ asserts) where
  pub begun_board : AreGraphs gs → length gs ≤ MAX_PROCEDURES → (g : Graph) → slice_get gs main ≡ Some g → asserts ≤ 64 → 1 ≤ budget →
      budget ≤ 20000 →
      length ks ≤ 2000000 → AllOf (HoldsBy (reads gs)) ks →
      IsBoard (record { graphs = gs; main = main; asserts = asserts; budget = budget; core = core_of ks es slots ks [] false })
  begun_board linked small g at few some most few_kept hold = record {
    linked = linked;
    small = small;
    graph = g;
    main = at;
    few = few;
    some = some;
    most = most;
    few_kept = few_kept;
    opened = core_of ks es slots ks [] false;
    opening = record { roots = h.roots; count = h.count ∙ all; are_roots = h.are_roots; kept_hold = hold; is = h.is };
    reached = refl;
  }

  pub begun_with : AllOf (HoldsBy (reads gs)) ks → IsBegunWith gs main asserts budget ks
      (record { graphs = gs; main = main; asserts = asserts; budget = budget; core = core_of ks es slots ks [] false })
  begun_with hold = record {
    graphs = refl;
    is_main = refl;
    all = refl;
    granted = refl;
    kept_are = refl;
    opening = record { roots = h.roots; count = h.count ∙ all; are_roots = h.are_roots; kept_hold = hold; is = h.is };
  }

  pub begun_roomy : (f t s v : ℕ) → f ≡ asserts * budget + asserts → asserts * budget + asserts ≤ s → t ≡ length ks
      + (asserts * budget + asserts) →
      16 * (asserts * budget + asserts) ≤ v →
      IsRoomy (record { graphs = gs; main = main; asserts = asserts; budget = budget; core = core_of ks es slots ks [] false }) slots [] f t
      s
      v
  begun_roomy f t s v queries kept summaries happened = record {
    queries = queries;
    kept = kept;
    summaries = summaries;
    happened = happened;
    settled = λ i e at. absurd (cc);
    handed = λ i y at low is out. let e : Some (how.NotMay low) ≡ None = sym is ∙ (h.open_slots i y at).0 in absurd (cc);
    shown = λ i y at place is. let e : Some place ≡ None = sym is ∙ (h.open_slots i y at).1 in absurd (cc);
    said_is = λ i y at. (h.open_slots i y at).2;
  }

  pub begun_traced : (room : ℕ) → asserts * budget + asserts ≤ room →
      HasTraced (record { graphs = gs; main = main; asserts = asserts; budget = budget; core = core_of ks es slots ks [] false }) [] room
  begun_traced room fits = record { are = refl; count = omega arith; fits = fits }

pub map_next : {X Y : Type 0} (f : X → Y) (xs : List X) (i : ℕ) (x : X) → slice_get xs i ≡ Some x →
    map f (take (suc i) xs) ≡ map f (take i xs) ++ f x ∷ []
map_next f [] i x at = absurd (cc)
map_next f (y ∷ ys) zero x at =
    let o : Some y ≡ Some x = at in
    let e : y ≡ x = cc in
    ap (λ z. f z ∷ []) e
map_next f (y ∷ ys) (suc i) x at = ap (λ zs. f y ∷ zs) (map_next f ys i x at)
