use Rattle.std.proofs.Common.{◌≡◌, ◌+◌, List, [], None, false, refl, sym, ap, ◌∙◌, subst, arith}
use Rattle.summary_form.specs.declared.query.Query.{Query}
use Rattle.summary_form.specs.declared.summary.Summary.{Summary}
use Rattle.query_tree.specs.Forest.{after_root}
use Rattle.bolt_core.specs.declared.slot.Slot.{Slot}
use Rattle.bolt_core.specs.Boards.{IsRootOf, node_of}
use Rattle.bolt_core.specs.steps.Begun.{AreBegun}
use Rattle.bolt_core.proofs.Beginning.{none_begun, one_begun}
use Rattle.bolt_core.proofs.board.roots_of.Goals as goal

pub loop-id-init : goal.loop-id-init
loop-id-init c =
    let gs = c.args.graphs.now.graphs in (
      λ (ks : List Summary). subst (λ es. AreBegun gs c.args.main c.args.budget 0 ks es c.in_ok-slots.slots.items)
          (sym c.in_ok-forest.ensures.1)
          (subst (λ (ss : List Slot). AreBegun gs c.args.main c.args.budget 0 ks [] ss) (sym c.in_ok-slots.ensures.items)
          (none_begun gs c.args.main c.args.budget ks)),
      c.in_ok-forest.ensures.0,
      omega (arith, c.in_ok-slots.ensures.capacity),
    )

pub loop-id-preserved : goal.loop-id-preserved
loop-id-preserved c =
    let l = c.loop-id in
    let i = l.invariant in
    let gs = c.args.graphs.now.graphs in
    let s = c.in_ok-query.state in
    let own : IsRootOf gs c.args.main l.id s = c.in_ok-query.ensures.state in
    let query : c.in_ok-query.query.value ≡ s.query = c.in_ok-query.ensures.query ∙ own.shows.query in
    let z : Slot = record {
      parent = None;
      level = 0;
      query = c.in_ok-query.query;
      closed = None;
      summary = None;
      said = false;
      published = None;
    } in
    let node : node_of z ≡ record { parent = None; level = 0; query = s.query; closed = None; published = false } =
    ap (λ (q : Query). record { parent = None; level = 0; query = q; closed = None; published = false }) query in (
      λ (ks : List Summary).
          let next = one_begun gs c.args.main c.args.budget l.id ks l.forest.entries l.slots.items s z (i.0 ks) own refl refl refl node in
          subst (λ es. AreBegun gs c.args.main c.args.budget (l.id + 1) ks es c.push_reserved.new.self.items) (sym c.add_root.ensures.added)
          (subst (λ (ss : List Slot). AreBegun gs c.args.main c.args.budget (l.id + 1) ks (after_root l.forest.entries c.args.budget s) ss)
          (sym c.push_reserved.ensures.items) next),
      c.add_root.ensures.room ∙ i.1,
      omega (arith, i.2, c.push_reserved.ensures.capacity),
    )

pub returns-clause-begun : goal.returns-clause-begun
returns-clause-begun c known =
    let l = c.loop-id in
    let all : l.id ≡ c.args.asserts = omega (arith, c.loop-id-test.false, l.auto.id-end) in
    subst (λ n. AreBegun c.args.graphs.now.graphs c.args.main c.args.budget n known l.forest.entries l.slots.items) all
    (l.invariant.0 known)

pub add_root-requires : goal.add_root-requires
add_root-requires c =
    let l = c.loop-id in
    omega (arith, (l.invariant.0 []).entries_are, l.invariant.1, c.loop-id-test.true, l.auto.id-end)

pub push_reserved-requires : goal.push_reserved-requires
push_reserved-requires c =
    let l = c.loop-id in
    omega (arith, (l.invariant.0 []).slots_are, l.invariant.2, c.loop-id-test.true, l.auto.id-end)
