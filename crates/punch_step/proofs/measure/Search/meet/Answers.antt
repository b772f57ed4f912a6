use Rattle.std.proofs.Common.{◌≡◌, ◌∙◌, ◌<◌, ◌+◌, ℕ, suc, List, length, arith, refl, sym, subst}
use Rattle.std.specs.Prelude.{slice_index, slice_set}
use Rattle.std.proofs.lemmas.List.{get_or_default}
use Rattle.punch_step.specs.steps.Far.{IsOpenEdge}
use Rattle.punch_step.specs.steps.Searching.{Searches}
use Rattle.punch_step.proofs.Searches.{MetOne, far_stays, met_one, one_met, to_within}
use Rattle.punch_step.proofs.measure.Search.meet.Goals as goal

pub returns-in_ok-push-clause-searching : goal.returns-in_ok-push-clause-searching
returns-in_ok-push-clause-searching c t h =
    let s = c.args.self.now in let x = c.args.edge.now in let n = length s.partition.now.regions in
    let far = s.reach.far.items in
    let from : x.from < length far = omega (arith, c.requires.from, h.fars) in
    let none : slice_index far x.from ≡ 0 = sym (c.index.ensures ∙ get_or_default far x.from c.index.result.now 0 from)
    ∙ c.if-index-eq0.true
    in
    let to : x.to < length far = to_within n c.args.place s.met.items far x.to c.requires.to h.fars (h.within c.args.place c.requires.place)
    in
    let new : c.index-far.result.now + 1 ≡ suc (slice_index far x.to) =
    omega (arith, c.index-far.ensures ∙ get_or_default far x.to c.index-far.result.now 0 to) in
    subst (λ (ms : List ℕ). Searches s.partition.now.edges s.shut.now n t c.args.place ms
    (slice_set far x.from (c.index-far.result.now + 1))
    (slice_set s.reach.way.items x.from x)) (sym c.in_ok-push.ensures.items)
    (one_met s.partition.now.edges s.shut.now n t c.args.place s.met.items far s.reach.way.items h c.requires.place x
    (c.index-far.result.now + 1) (c.requires.live, sym c.has.ensures ∙ c.if-not-has.true) c.requires.to c.requires.from
    none new)

pub returns-in_ok-push-clause-more : goal.returns-in_ok-push-clause-more
returns-in_ok-push-clause-more c =
    let s = c.args.self.now in let x = c.args.edge.now in let n = length s.partition.now.regions in
    let t = c.requires.searching.0 in let h = c.requires.searching.1 in
    let far = s.reach.far.items in
    let from : x.from < length far = omega (arith, c.requires.from, h.fars) in
    let none : slice_index far x.from ≡ 0 = sym (c.index.ensures ∙ get_or_default far x.from c.index.result.now 0 from)
    ∙ c.if-index-eq0.true
    in
    let to : x.to < length far = to_within n c.args.place s.met.items far x.to c.requires.to h.fars (h.within c.args.place c.requires.place)
    in
    let new : c.index-far.result.now + 1 ≡ suc (slice_index far x.to) =
    omega (arith, c.index-far.ensures ∙ get_or_default far x.to c.index-far.result.now 0 to) in
    let o : IsOpenEdge s.partition.now.edges s.shut.now x = (c.requires.live, sym c.has.ensures ∙ c.if-not-has.true) in
    let one : MetOne s.met.items c.push.new.self.items far (slice_set far x.from (c.index-far.result.now + 1)) =
    subst (λ (ms : List ℕ). MetOne s.met.items ms far (slice_set far x.from (c.index-far.result.now + 1))) (sym c.in_ok-push.ensures.items)
    (met_one s.partition.now.edges s.shut.now n t c.args.place s.met.items far s.reach.way.items h c.requires.place x
    (c.index-far.result.now + 1) o c.requires.to c.requires.from none new) in
    record {
      partition = refl;
      shut = refl;
      far = λ r z. far_stays s.partition.now.edges s.shut.now n t c.args.place s.met.items far s.reach.way.items h c.requires.place x
          (c.index-far.result.now + 1) o c.requires.to c.requires.from none new r z;
      longer = one.longer;
      met = one.met_same;
      count = one.count;
    }
