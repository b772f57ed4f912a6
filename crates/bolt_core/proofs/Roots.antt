-- The roots of a board: there are no others, each has the budget, and they are over where the board is.
use Rattle.std.proofs.Common.{◌≡◌, ℕ, zero, suc, ◌+◌, ◌<◌, List, [], ◌∷◌, ◌++◌, length, Bool, true, false, not, Option, Some, None, refl, sym, ap, ◌∙◌, subst, inr, ⊎_elim, arith}
use Rattle.std.specs.Prelude.{slice_get, ◌||◌}
use Rattle.std.proofs.lemmas.List.{length_push}
use Rattle.std.proofs.lemmas.Option.{same_Some, slice_get_within}
use Rattle.query_tree.specs.declared.Entry.{Entry}
use Rattle.query_tree.specs.declared.Status.{Status}
use Rattle.query_tree.specs.declared.Status.TheVariants.{Ready, Running, Blocked, Starved, Closed, Dropped}
use Rattle.query_tree.specs.Forest.{after_root, any, has_live, is_live, is_live_entry, is_open}
use Rattle.query_tree.specs.Kept.{IsShut, IsTree, OpenAbove, Rooted}
use Rattle.query_tree.proofs.Lists.{any_at, from_changed, from_pushed, present}
use Rattle.query_tree.proofs.Tests.{live_open}
use Rattle.query_rules.specs.Seen.{Seen}
use Rattle.bolt_core.specs.Boards.{IsBoard, Shown}
use Rattle.bolt_core.specs.Groups.{Node, closed_at}
use Rattle.bolt_core.specs.Histories.{Told, asked, closed, fed, parked, said, stopped, took}
use Rattle.bolt_core.specs.Keeps.{Keeps}
use Rattle.bolt_core.specs.KeptBoards.{IsRootOver, OverByRoots, RootsHaveBudget}
use Rattle.bolt_core.specs.Machine.{Core, Event, Reached, Reads, first_board, is_over, node_below, node_of_root, opening, shows}
use Rattle.bolt_core.specs.States.{reads}
use Rattle.bolt_core.proofs.Above.{close_same}
use Rattle.bolt_core.proofs.BoardKeeps.{board_keeps}
use Rattle.bolt_core.proofs.Firsts.{board_first}
use Rattle.bolt_core.proofs.Groups.{not_false}

-- The queries without a parent stand below n
record RootsBelow (n : ℕ) (ns : List Node) : Type 0 where
  below : (i : ℕ) (m : Node) → slice_get ns i ≡ Some m → m.parent ≡ None → i < n

module _ {S : Type 0} (R : Reads S) where
  event_roots : (n : ℕ) (old new : Core S) (e : Told) → Event R old e new → RootsBelow n old.nodes → RootsBelow n new.nodes
  event_roots n old new (took w i left steps waiting) t h = subst (λ (c : Core S). RootsBelow n c.nodes) (sym t.new_is) h
  event_roots n old new (said w i s) t h = subst (λ (c : Core S). RootsBelow n c.nodes) (sym t.new_is) h
  event_roots n old new (asked w i m c q) t h = subst (λ (c : Core S). RootsBelow n c.nodes) (sym t.new_is)
      (record {
        below = λ k x a none. ⊎_elim
            (λ o. h.below k x o none)
            (λ o. absurd (let clash : Some i ≡ None = ap (λ (y : Node). y.parent) (sym o.1) ∙ none in cc))
            (from_pushed old.nodes (node_below R i t.sound.node q) k x a);
      })
  event_roots n old new (fed w i m c) t h = subst (λ (c : Core S). RootsBelow n c.nodes) (sym t.new_is) h
  event_roots n old new (parked w i m r) t h = subst (λ (c : Core S). RootsBelow n c.nodes) (sym t.new_is) h
  event_roots n old new (closed w i m shut ss) t h =
      let f : ℕ → Node → Node = closed_at old.nodes i shut (shows R shut) t.sound.node.level in
      subst (λ (c : Core S). RootsBelow n c.nodes) (sym t.new_is) (record {
        below = λ k x a none.
            let r = from_changed f old.nodes k x a in
            h.below k r.0 r.1 (sym (close_same old.nodes i shut (shows R shut) t.sound.node.level k r.0).parent
            ∙ (ap (λ (y : Node). y.parent) (sym r.2) ∙ none));
      })
  event_roots n old new (stopped w) t h = subst (λ (c : Core S). RootsBelow n c.nodes) (sym t.2) h

  reached_roots : (n : ℕ) (old : Core S) (es : List Told) (new : Core S) → Reached R old es new → RootsBelow n old.nodes →
      RootsBelow n new.nodes
  reached_roots n old [] new r h = subst (λ (c : Core S). RootsBelow n c.nodes) (sym r) h
  reached_roots n old (e ∷ es) new r h = reached_roots n r.0 es new r.2 (event_roots n old r.0 e r.1 h)

  opening_count : (grant : ℕ) (ss : List S) (c : Core S) → length (opening R grant ss c).nodes ≡ length c.nodes + length ss
  opening_count grant [] c = omega arith
  opening_count grant (s ∷ ss) c =
      let r = opening_count grant ss (record c {
        entries = after_root c.entries grant s;
        nodes = c.nodes ++ node_of_root R s ∷ [];
      }) in
      let n : length (c.nodes ++ node_of_root R s ∷ []) ≡ length c.nodes + 1 = length_push c.nodes (node_of_root R s) in
      omega (arith, r, n)

-- The root of an open query is open
record OpenRoot {T : Type 0} (es : List (Entry T)) (r : ℕ) : Type 0 where
  own : Entry T
  at : slice_get es r ≡ Some own
  parent : own.parent ≡ None
  opened : is_open own.status ≡ true

module _ {T : Type 0} (es : List (Entry T)) (tree : IsTree es) (shut : IsShut es) where
  open_root : (n i : ℕ) (e : Entry T) → i < n → slice_get es i ≡ Some e → is_open e.status ≡ true → OpenRoot es e.root
  open_root zero i e lt a o = absurd (omega (arith, lt))
  open_root (suc n) i e lt a o =
      by_parent (λ p q. open_root n p q) e.parent refl (tree.rooted i e a) (shut.above i e a o) where
        by_parent : ((p : ℕ) (q : Entry T) → p < n → slice_get es p ≡ Some q → is_open q.status ≡ true → OpenRoot es q.root) →
            (p : Option ℕ) → e.parent ≡ p → Rooted es i p e.root → OpenAbove es p → OpenRoot es e.root
        by_parent up None same r above = record { own = e; at = subst (λ j. slice_get es j ≡ Some e) (sym r) a; parent = same; opened = o }
        by_parent up (Some p) same r above = subst (OpenRoot es) r.3 (up p r.1 (omega (arith, lt, r.0)) r.2 (above r.1 r.2))

-- What is open and isn't live is Starved
pub open_starved : (s : Status) → is_open s ≡ true → is_live s ≡ false → s ≡ Starved
open_starved Ready o l = absurd (cc)
open_starved Running o l = absurd (cc)
open_starved Blocked o l = absurd (cc)
open_starved Starved o l = refl
open_starved Closed o l = absurd (cc)
open_starved (Dropped n) o l = absurd (cc)

not_starved : (s : Status) → is_live s ≡ true → s ≡ Starved → ⊥
not_starved s l e = let clash : is_live Starved ≡ true = subst (λ z. is_live z ≡ true) e l in cc

not_closed : (s : Status) → is_open s ≡ true → s ≡ Closed → ⊥
not_closed s o e = let clash : is_open Closed ≡ true = subst (λ z. is_open z ≡ true) e o in cc

or_false : (a b : Bool) → (a || b) ≡ false → (a ≡ false) × (b ≡ false)
or_false true b h = absurd (cc)
or_false false b h = (refl, h)

pub none_passes : {X : Type 0} (p : X → Bool) (xs : List X) → any p xs ≡ false → (i : ℕ) (x : X) → slice_get xs i ≡ Some x → p x ≡ false
none_passes p [] h i x a = absurd (cc)
none_passes p (y ∷ ys) h zero x a = subst (λ z. p z ≡ false) (same_Some y x a) (or_false (p y) (any p ys) h).0
none_passes p (y ∷ ys) h (suc i) x a = none_passes p ys (or_false (p y) (any p ys) h).1 i x a

not_of_false : (b : Bool) → (b ≡ true → ⊥) → not b ≡ true
not_of_false true h = absurd (h refl)
not_of_false false h = refl

-- Boards

module _ (b : Shown) (h : IsBoard b) where
  keeps : Keeps (reads b.graphs) b.asserts b.core
  keeps = board_keeps b h

  roots_below : RootsBelow b.asserts b.core.nodes
  roots_below =
      let o = h.opening in
      let n = opening_count (reads b.graphs) b.budget o.roots (first_board (reads b.graphs) h.opened.kept) in
      reached_roots (reads b.graphs) b.asserts h.opened b.core.history b.core h.reached
      (subst (λ (c : Core Seen). RootsBelow b.asserts c.nodes) (sym o.is) (record {
        below = λ i m a none.
            let w = slice_get_within (opening (reads b.graphs) b.budget o.roots (first_board (reads b.graphs) h.opened.kept)).nodes i m a in
            omega (arith, w, n, o.count);
      }))

  -- the root of an open query is that of an assertion
  root_within : (r : ℕ) → OpenRoot b.core.entries r → r < b.asserts
  root_within r o =
      let few = slice_get_within b.core.entries r o.own o.at in
      let m = present b.core.nodes r (let c = keeps.paired.count in omega (arith, few, c)) in
      roots_below.below r m.0 m.1 (sym (keeps.paired.parents r o.own m.0 o.at m.1) ∙ o.parent)

  roots_over : is_over (reads b.graphs) b.core ≡ true → (root : ℕ) → root < b.asserts → IsRootOver b.core.entries root
  roots_over over root lt =
      let f = board_first b h root lt in
      let none = none_passes is_live_entry b.core.entries (not_false (has_live b.core.entries) over) in
      record { own = f.own; at = f.at; over = inr (record { starved = λ i e a same o. open_starved e.status o (none i e a) }) }

  over_from : ((root : ℕ) → root < b.asserts → IsRootOver b.core.entries root) → is_over (reads b.graphs) b.core ≡ true
  over_from each = not_of_false (has_live b.core.entries) (λ live. clash (any_at is_live_entry b.core.entries live)) where
    clash : ((i : ℕ) × (e : Entry Seen) × (slice_get b.core.entries i ≡ Some e) × (is_live_entry e ≡ true)) → ⊥
    clash l =
        let opens = live_open l.1.status l.3 in
        let o = open_root b.core.entries keeps.kept.tree keeps.kept.shut (suc l.0) l.0 l.1 (omega arith) l.2 opens in
        let r = each l.1.root (root_within l.1.root o) in
        ⊎_elim
        (λ c. not_closed o.own.status o.opened (subst (λ (x : Entry Seen). x.status ≡ Closed) (same_Some r.own o.own (sym r.at ∙ o.at)) c))
        (λ v. not_starved l.1.status l.3 (v.starved l.0 l.1 l.2 refl opens)) r.over

pub over_by_roots : OverByRoots
over_by_roots b h = (roots_over b h, over_from b h)

pub roots_have_budget : RootsHaveBudget
roots_have_budget b h root lt =
    let f = board_first b h root lt in
    record {
      own = f.own;
      at = f.at;
      parent = f.parent;
      grant = f.grants;
      all = (board_keeps b h).kept.granted.granted root f.own f.at f.parent ∙ f.grants;
    }
