use Rattle.std.proofs.Common.{◌∙◌, ◌&&◌, ◌==◌, ◌<◌, length, arith, refl, sym, subst, ap}
use Rattle.std.specs.Prelude.{IsTrue}
use Rattle.std.proofs.lemmas.List.{get_or_default}
use Rattle.may_partition.specs.Shown.{is_live}
use Rattle.may_partition.proofs.Giving.{given_all, given_live, given_next, given_within}
use Rattle.punch_step.proofs.Searches.{item_into, more_trans, one_passed, settle_place}
use Rattle.punch_step.proofs.measure.Search.meet_all.Goals as goal

pub loop-edge-init : goal.loop-edge-init
loop-edge-init c = record {
  searching = λ t h. h;
  more = record {
    partition = refl;
    shut = refl;
    far = λ r z. refl;
    longer = omega arith;
    met = λ k l. refl;
    count = refl;
  };
  passed = λ e l o. absurd cc;
}

pub meet-requires-clause-live : goal.meet-requires-clause-live
meet-requires-clause-live c =
    let s = c.args.self.now in let all = c.edges_into-edge-items.result in let e = c.in-Some.edge in
    let next = sym c.into_iter-edge-iterator.ensures.into_iter_gives
    ∙ given_next c.into_iter-edge-iterator.result c.loop-edge.yielded c.loop-edge.edge-iterator c.next.new.self c.next.result e
    c.loop-edge.yielded_by
    c.in-Some.is c.next.ensures.steps in
    let r = item_into all s.partition.now.edges c.index.result.now e c.edges_into-edge-items.ensures.edges
    (given_live all c.loop-edge.yielded c.next.new.self e next) in
    subst (λ p. IsTrue (is_live p.now.edges e)) (sym c.loop-edge.invariant.more.partition) r.0

pub meet-requires-clause-from : goal.meet-requires-clause-from
meet-requires-clause-from c =
    let s = c.args.self.now in let all = c.edges_into-edge-items.result in let e = c.in-Some.edge in
    let next = sym c.into_iter-edge-iterator.ensures.into_iter_gives
    ∙ given_next c.into_iter-edge-iterator.result c.loop-edge.yielded c.loop-edge.edge-iterator c.next.new.self c.next.result e
    c.loop-edge.yielded_by c.in-Some.is c.next.ensures.steps in
    let w = given_within (length s.partition.now.regions) all c.loop-edge.yielded c.next.new.self e next
    c.edges_into-edge-items.ensures.within in
    subst (λ p. e.from < length p.now.regions) (sym c.loop-edge.invariant.more.partition) w.0

pub meet-requires-clause-to : goal.meet-requires-clause-to
meet-requires-clause-to c =
    let s = c.args.self.now in let all = c.edges_into-edge-items.result in let e = c.in-Some.edge in
    let next = sym c.into_iter-edge-iterator.ensures.into_iter_gives
    ∙ given_next c.into_iter-edge-iterator.result c.loop-edge.yielded c.loop-edge.edge-iterator c.next.new.self c.next.result e
    c.loop-edge.yielded_by
    c.in-Some.is c.next.ensures.steps in
    let r = item_into all s.partition.now.edges c.index.result.now e c.edges_into-edge-items.ensures.edges
    (given_live all c.loop-edge.yielded c.next.new.self e next) in
    r.1 ∙ c.index.ensures ∙ get_or_default s.met.items c.args.place c.index.result.now 0 c.requires.place
    ∙ sym (c.loop-edge.invariant.more.met c.args.place c.requires.place)

pub loop-edge-preserved : goal.loop-edge-preserved
loop-edge-preserved c = record {
  searching = λ t h. c.in_ok-meet.ensures.searching t (c.loop-edge.invariant.searching t h);
  more = more_trans c.args.self.now c.loop-edge.self c.meet.new.self c.loop-edge.invariant.more c.in_ok-meet.ensures.more;
  passed = one_passed c.loop-edge.yielded c.args.self.now.shut.now c.in-Some.edge c.loop-edge.self c.meet.new.self
      c.in_ok-meet.ensures.more c.loop-edge.invariant.passed
      (λ o. c.in_ok-meet.ensures.met (ap (λ l. is_live l.now c.in-Some.edge) c.loop-edge.invariant.more.shut ∙ o));
}

pub returns-clause-searching : goal.returns-clause-searching
returns-clause-searching c t h =
    let s = c.args.self.now in let now = c.loop-edge.self in let all = c.edges_into-edge-items.result in
    let region = c.index.ensures ∙ get_or_default s.met.items c.args.place c.index.result.now 0 c.requires.place
    ∙ sym (c.loop-edge.invariant.more.met c.args.place c.requires.place) in
    let same = sym c.into_iter-edge-iterator.ensures.into_iter_gives ∙ given_all c.into_iter-edge-iterator.result c.loop-edge.yielded
    c.loop-edge.edge-iterator c.next.new.self c.next.result c.loop-edge.yielded_by c.in-None.is
    c.next.ensures.steps in
    settle_place now t c.args.place (c.loop-edge.invariant.searching t h)
    (omega (arith, c.requires.place, c.loop-edge.invariant.more.longer))
    all c.index.result.now region
    (λ e. c.edges_into-edge-items.ensures.edges e
    ∙ ap (λ p. is_live p.now.edges e && (e.to == c.index.result.now)) (sym c.loop-edge.invariant.more.partition))
    (λ e l o. c.loop-edge.invariant.passed e (subst (λ xs. IsTrue (is_live xs e)) same l)
    (ap (λ x. is_live x.now e) (sym c.loop-edge.invariant.more.shut) ∙ o))
