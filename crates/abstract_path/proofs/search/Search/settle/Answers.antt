use Rattle.std.proofs.Common.{◌≡◌, ◌≢◌, ℕ, suc, ◌+◌, ◌≤◌, ◌<◌, inl, inr, List, length, refl, sym, ap, ◌∙◌, subst, arith, add-one, slice_index, slice_index_or}
use Rattle.std.proofs.lemmas.Bool.{cases_eq}
use Rattle.std.proofs.lemmas.List.{get_or_default}
use Rattle.abstract_path.specs.declared.network.Network.{Network}
use Rattle.abstract_path.specs.declared.network.Arrival.{Arrival}
use Rattle.abstract_path.specs.declared.search.Search.{Search}
use Rattle.abstract_path.specs.Routes.{IsOpen}
use Rattle.abstract_path.specs.steps.Arrivals.{arrival, no_arrival}
use Rattle.abstract_path.specs.steps.Layers.{Extends}
use Rattle.abstract_path.specs.steps.Searching.{IsInLayer, KeepsLayer}
use Rattle.abstract_path.proofs.Settling.{current_inside, current_seen}
use Rattle.abstract_path.proofs.search.Search.settle.Goals as goal

-- the region at the place exists
exists_at : (s : Search) (place : ℕ) → IsInLayer s → place < length s.current.items →
    suc (slice_index s.current.items place) < length s.network.arrivals.begins.items
exists_at s place l h =
    omega (
      arith,
      s.network.count,
      current_inside s.network.edges.now s.network.shut.now
          s.network.regions s.target s.depth s.current.items s.far.items s.way.items s.met.items place l.layered h,
    )

read_at : (xs : List ℕ) (i j r : ℕ) → i ≡ j → j < length xs → r ≡ slice_index_or xs i r → r ≡ slice_index xs j
read_at xs i j r s h e = e ∙ ap (λ k. slice_index_or xs k r) s ∙ get_or_default xs j r 0 h

region_is : (c : goal.After-row_known-1) → c.index-region.result.now ≡ slice_index c.args.self.now.current.items c.args.place
region_is c = read_at c.args.self.now.current.items c.args.place c.args.place c.index-region.result.now refl c.requires.place
    c.index-region.ensures

pub index-begin-requires : goal.index-begin-requires
index-begin-requires c =
    let inside = exists_at c.args.self.now c.args.place c.requires.layer c.requires.place in
    let same = region_is c in
    omega (arith, inside, same)

pub index-end-requires : goal.index-end-requires
index-end-requires c =
    let s = c.args.self.now in
    let inside = exists_at s c.args.place c.requires.layer c.requires.place in
    let same = read_at s.current.items c.args.place c.args.place c.index-region.result.now refl c.requires.place c.index-region.ensures in
    omega (arith, inside, same)

pub loop-at-init : goal.loop-at-init
loop-at-init c =
    let s = c.args.self.now in
    let r = c.index-region.result.now in
    let same = read_at s.current.items c.args.place c.args.place r refl c.requires.place c.index-region.ensures in
    let inside : suc r < length s.network.arrivals.begins.items =
    omega (arith, same, exists_at s c.args.place c.requires.layer c.requires.place) in
    record {
      layer = c.requires.layer;
      keeps = record { network = refl; target = refl; depth = refl; current = refl };
      same = λ r h. refl;
      place = same;
      begin = read_at s.network.arrivals.begins.items r r c.index-begin.result.now refl (omega (arith, inside)) c.index-begin.ensures;
      end = read_at s.network.arrivals.begins.items (r + 1) (suc r) c.index-end.result.now (add-one r) inside c.index-end.ensures;
      met = λ k l m. absurd (omega (arith, l, m));
    }

pub index-requires : goal.index-requires
index-requires c =
    let l = c.loop-at.invariant in
    let n = c.loop-at.self.network in
    omega (arith, c.loop-at-test.true, l.end, n.within (suc c.index-region.result.now), n.arrivals.entries.ok.0)

pub meet-requires-clause-place : goal.meet-requires-clause-place
meet-requires-clause-place c =
    subst (λ xs. c.args.place < length xs) (sym c.loop-at.invariant.keeps.current) c.requires.place

-- the edge at the place
edge_is : (c : goal.After-meet-arg-1) → c.index.result.now ≡ arrival c.loop-at.self.network.arrivals.entries.items c.loop-at.at
edge_is c =
    let l = c.loop-at.invariant in
    let n = c.loop-at.self.network in
    c.index.ensures ∙ get_or_default n.arrivals.entries.items c.loop-at.at c.index.result.now no_arrival
    (omega (arith, c.loop-at-test.true, l.end, n.within (suc c.index-region.result.now)))

meets : (c : goal.After-meet-arg-1) → IsOpen c.loop-at.self.network.edges.now c.loop-at.self.network.shut.now c.index.result.now.number
    c.index.result.now.source c.index-region.result.now
meets c =
    let l = c.loop-at.invariant in
    let r = c.index.result.now in
    (l.layer.arrivals r.number r.source c.index-region.result.now).1
    (c.loop-at.at, omega (arith, l.begin, c.loop-at.auto.at), omega (arith, l.end, c.loop-at-test.true), sym (edge_is c))

pub meet-requires-clause-source : goal.meet-requires-clause-source
meet-requires-clause-source c = (c.loop-at.self.network.in_range _ _ _ (meets c).0).0

pub meet-requires-clause-is_open : goal.meet-requires-clause-is_open
meet-requires-clause-is_open c =
    let n = c.loop-at.self.network in
    subst (IsOpen n.edges.now n.shut.now c.index.result.now.number c.index.result.now.source) c.loop-at.invariant.place (meets c)

-- the edges before this place lead from regions that were met
AreMet : Network → (far : List ℕ) (begin at : ℕ) → Type 0
AreMet n far begin at = (k : ℕ) → begin ≤ k → k < at → slice_index far (arrival n.arrivals.entries.items k).source ≢ 0

one_more : (n : Network) (old new : List ℕ) (begin at : ℕ) (r : Arrival) → AreMet n old begin at → Extends old new →
    r ≡ arrival n.arrivals.entries.items at → slice_index new r.source ≢ 0 → AreMet n new begin (at + 1)
unfolding AreMet
one_more n old new begin at r met ex is own k l m = elim (cases_eq k at) [
  | inl same ↦ λ z. own (ap (λ (a : Arrival). slice_index new a.source) (is ∙ ap (arrival n.arrivals.entries.items) (sym same)) ∙ z)
  | inr differs ↦
      let was = met k l (omega (arith, m, differs)) in
      λ z. was (sym (ex (arrival n.arrivals.entries.items k).source was) ∙ z)
]

keeps_both : (a b c : Search) → KeepsLayer a b → KeepsLayer b c → KeepsLayer a c
keeps_both a b c h k = record {
  network = k.network ∙ h.network;
  target = k.target ∙ h.target;
  depth = k.depth ∙ h.depth;
  current = k.current ∙ h.current;
}

pub loop-at-preserved : goal.loop-at-preserved
unfolding AreMet
loop-at-preserved c =
    let l = c.loop-at.invariant in
    let s = c.loop-at.self in
    let t = c.meet.new.self in
    let m = c.in_ok-meet.ensures in
    let r = c.index-region.result.now in
    let n = s.network in
    let is = c.index.ensures ∙ get_or_default n.arrivals.entries.items c.loop-at.at c.index.result.now no_arrival
    (omega (arith, c.loop-at-test.true, l.end, n.within (suc r))) in
    record {
      layer = m.layer;
      keeps = keeps_both c.args.self.now s t l.keeps m.keeps;
      same = λ r h. m.same r (λ z. h (sym (l.same r h) ∙ z)) ∙ l.same r h;
      place = l.place ∙ ap (λ xs. slice_index xs c.args.place) (sym m.keeps.current);
      begin = l.begin ∙ ap (λ (n : Network). slice_index n.arrivals.begins.items r) (sym m.keeps.network);
      end = l.end ∙ ap (λ (n : Network). slice_index n.arrivals.begins.items (suc r)) (sym m.keeps.network);
      met = subst (λ (n : Network). AreMet n t.far.items c.index-begin.result.now (c.loop-at.at + 1)) (sym m.keeps.network)
          (one_more n s.far.items t.far.items c.index-begin.result.now c.loop-at.at c.index.result.now l.met m.same is m.met);
    }

pub returns-clause-settled : goal.returns-clause-settled
returns-clause-settled c e a o =
    let l = c.loop-at.invariant in
    let s = c.loop-at.self in
    let r = c.index-region.result.now in
    let w = (l.layer.arrivals e a r).0 (subst (λ r. IsOpen s.network.edges.now s.network.shut.now e a r) (sym l.place) o) in
    let met = l.met w.0 (omega (arith, w.1, l.begin)) (omega (arith, w.2, l.end, c.loop-at-test.false)) in
    let seen : slice_index s.far.items a ≢ 0 = subst (λ (k : Arrival). slice_index s.far.items k.source ≢ 0) w.3 met in
    let place : c.args.place < length s.current.items = subst (λ xs. c.args.place < length xs) (sym l.keeps.current) c.requires.place in (
      seen,
      subst (λ n. slice_index s.far.items a ≤ suc n)
          (sym (current_seen s.network.edges.now s.network.shut.now s.network.regions s.target s.depth s.current.items s.far.items
          s.way.items s.met.items c.args.place l.layer.layered place)) (l.layer.layered.within a),
    )
