use Rattle.std.proofs.Common.{◌+◌, ◌++◌, ◌∷◌, [], None, length, refl, sym, ap, ◌∙◌, arith}
use Rattle.query_tree.specs.Kin.{Kin}
use Rattle.query_tree.proofs.Chains.{links_changed, links_from}
use Rattle.query_tree.proofs.Drops.{Walk, walk_start, walk_pop, walk_skip, walk_drop, here_is, under_is, next_is, left_fits, work_fits, walk_done, walk_left, walk_seen, falls_seen, falls_pop, falls_skip, falls_drop, child_found, pop_here, child_here, drop_parent}
use Rattle.query_tree.proofs.edits.drop_under.Goals as goal

pub walk-init : goal.walk-init
walk-init g c = record {
  walk = walk_seen _ _ _ c.args.id c.args.stamp _ _ _ _ _ _ refl refl (ap (λ (r : Kin). r.work) c.start-at.ensures.rest) refl
      (walk_start c.args.entries.now c.args.id c.args.stamp c.start-at.result c.requires.tree c.requires.shut c.requires.here
      (c.requires.kin.latest c.args.id c.start-at.result c.start-at.ensures.latest));
  live = c.requires.live;
  kin = links_from c.args.entries.now c.args.kin.now c.start-at.new.self (ap (λ (r : Kin). r.latest) c.start-at.ensures.rest)
      (ap (λ (r : Kin). r.older) c.start-at.ensures.rest) c.requires.kin;
  live_room = refl;
  kin_room = ap (λ (r : Kin). r.room) c.start-at.ensures.rest;
}

pub older-at-requires : goal.older-at-requires
older-at-requires g c = omega (
  arith,
  child_here _ _ _ _ _ _ _ _ c.walk.invariant.walk c.in-Some.is,
  c.walk.invariant.kin.older_size,
)

pub is_open_at-requires : goal.is_open_at-requires
is_open_at-requires g c = child_here _ _ _ _ _ _ _ _ c.walk.invariant.walk c.in-Some.is

pub drop_one-left-requires-clause-here : goal.drop_one-left-requires-clause-here
drop_one-left-requires-clause-here g c = child_here _ _ _ _ _ _ _ _ c.walk.invariant.walk c.in-Some.is

pub overflow_add-left : goal.overflow_add-left
overflow_add-left g c =
    let w = rw c.in-Some.is at c.walk.invariant.walk in
    let x = here_is _ _ _ _ _ _ _ w in
    let on = child_found _ _ _ _ _ _ _ w c.is_open_at.result _ c.is_open_at.ensures c.if-is_open_at.true in
    omega (arith, left_fits _ _ _ _ _ _ _ w x.0 x.1 on, c.requires.fits, c.drop_one-left.ensures.left x.0 x.1)

pub push-requires : goal.push-requires
push-requires g c =
    let w = rw c.in-Some.is at c.walk.invariant.walk in
    let x = here_is _ _ _ _ _ _ _ w in
    let on = child_found _ _ _ _ _ _ _ w c.is_open_at.result _ c.is_open_at.ensures c.if-is_open_at.true in
    omega (arith, work_fits _ _ _ _ _ _ _ w x.0 x.1 on, c.requires.room, c.walk.invariant.kin_room)

pub walk-smaller-then-is_open_at : goal.walk-smaller-then-is_open_at
walk-smaller-then-is_open_at g c =
    let w = rw c.in-Some.is at c.walk.invariant.walk in
    let x = here_is _ _ _ _ _ _ _ w in
    let on = child_found _ _ _ _ _ _ _ w c.is_open_at.result _ c.is_open_at.ensures c.if-is_open_at.true in
    falls_seen _ _ _ _ _ _ _ _ _ c.drop_one-left.ensures.entries (ap (λ (r : Kin). r.work) c.push.ensures) c.in-Some.is
    (falls_drop c.walk.entries c.args.id c.args.stamp c.in-Some.child x.0 x.1 on (under_is _ _ _ _ _ _ _ w) c.walk.kin.work w.current
    c.older-at.result (next_is _ _ _ _ _ _ _ w c.walk.kin c.older-at.result c.walk.invariant.kin c.older-at.ensures))

pub walk-preserved-then-is_open_at : goal.walk-preserved-then-is_open_at
walk-preserved-then-is_open_at g c =
    let w = rw c.in-Some.is at c.walk.invariant.walk in
    let x = here_is _ _ _ _ _ _ _ w in
    let on = child_found _ _ _ _ _ _ _ w c.is_open_at.result _ c.is_open_at.ensures c.if-is_open_at.true in
    let under = under_is _ _ _ _ _ _ _ w in
    record {
      walk = walk_seen _ _ _ _ _ _ _ _ _ _ _ c.drop_one-left.ensures.entries
          (ap (λ n. c.walk.left + n) (c.drop_one-left.ensures.left x.0 x.1)) (ap (λ (r : Kin). r.work) c.push.ensures) refl
          (walk_drop c.args.entries.now c.walk.entries c.args.id c.args.stamp c.walk.left c.walk.kin.work c.in-Some.child x.0
          c.older-at.result w x.1 on (next_is _ _ _ _ _ _ _ w c.walk.kin c.older-at.result c.walk.invariant.kin c.older-at.ensures) under);
      live = c.drop_one-left.ensures.live;
      kin = rw c.drop_one-left.ensures.entries (links_from _ c.walk.kin c.push.new.self (ap (λ (r : Kin). r.latest) c.push.ensures)
          (ap (λ (r : Kin). r.older) c.push.ensures) (links_changed c.walk.entries _ c.walk.kin
          (drop_parent c.walk.entries c.args.id c.args.stamp c.in-Some.child x.0 x.1 on under) c.walk.invariant.kin));
      live_room = c.drop_one-left.ensures.room ∙ c.walk.invariant.live_room;
      kin_room = ap (λ (r : Kin). r.room) c.push.ensures ∙ c.walk.invariant.kin_room;
    }

pub walk-smaller-else-is_open_at : goal.walk-smaller-else-is_open_at
walk-smaller-else-is_open_at g c =
    let w = rw c.in-Some.is at c.walk.invariant.walk in
    falls_seen _ _ _ _ _ _ _ _ _ refl refl c.in-Some.is (falls_skip c.walk.entries c.walk.kin.work w.current c.in-Some.child
    c.older-at.result (next_is _ _ _ _ _ _ _ w c.walk.kin c.older-at.result c.walk.invariant.kin c.older-at.ensures))

pub walk-preserved-else-is_open_at : goal.walk-preserved-else-is_open_at
walk-preserved-else-is_open_at g c =
    let w = rw c.in-Some.is at c.walk.invariant.walk in
    let x = here_is _ _ _ _ _ _ _ w in
    let off = child_found _ _ _ _ _ _ _ w c.is_open_at.result _ c.is_open_at.ensures c.if-is_open_at.false in
    record {
      walk = walk_skip c.args.entries.now c.walk.entries c.args.id c.args.stamp c.walk.left c.walk.kin.work c.in-Some.child x.0
          c.older-at.result w x.1 off (next_is _ _ _ _ _ _ _ w c.walk.kin c.older-at.result c.walk.invariant.kin c.older-at.ensures);
      live = c.walk.invariant.live;
      kin = c.walk.invariant.kin;
      live_room = c.walk.invariant.live_room;
      kin_room = c.walk.invariant.kin_room;
    }

pub latest-at-requires : goal.latest-at-requires
latest-at-requires g c =
    let was = c.in-Some-pop.ensures in
    let w : Walk c.args.entries.now c.walk.entries c.args.id c.args.stamp c.walk.left (c.pop.new.self.work ++ c.in-Some-pop.parent ∷ [])
    None =
    walk_seen _ _ _ _ _ _ _ _ _ _ _ refl refl (sym (ap (λ (r : Kin). r.work) was)) (sym c.in_default.is) c.walk.invariant.walk in
    omega (arith, pop_here _ _ _ _ _ _ _ w, c.walk.invariant.kin.latest_size, ap (λ (r : Kin). length r.latest) was)

pub walk-smaller : goal.walk-smaller
walk-smaller g c =
    let was = c.in-Some-pop.ensures in
    let kin = links_from c.walk.entries c.walk.kin c.pop.new.self (sym (ap (λ (r : Kin). r.latest) was))
    (sym (ap (λ (r : Kin). r.older) was))
    c.walk.invariant.kin in
    falls_pop c.walk.entries c.pop.new.self.work c.walk.kin.work c.in-Some-pop.parent (length c.walk.entries) c.latest-at.result c.walk.at
    (ap (λ (r : Kin). r.work) was) c.in_default.is (omega arith)
    (kin.latest c.in-Some-pop.parent c.latest-at.result c.latest-at.ensures)

pub walk-preserved : goal.walk-preserved
walk-preserved g c =
    let was = c.in-Some-pop.ensures in
    let w : Walk c.args.entries.now c.walk.entries c.args.id c.args.stamp c.walk.left (c.pop.new.self.work ++ c.in-Some-pop.parent ∷ [])
    None =
    walk_seen _ _ _ _ _ _ _ _ _ _ _ refl refl (sym (ap (λ (r : Kin). r.work) was)) (sym c.in_default.is) c.walk.invariant.walk in
    let kin = links_from c.walk.entries c.walk.kin c.pop.new.self (sym (ap (λ (r : Kin). r.latest) was))
    (sym (ap (λ (r : Kin). r.older) was))
    c.walk.invariant.kin in
    record {
      walk = walk_pop _ _ _ _ _ _ c.in-Some-pop.parent c.latest-at.result w
          (kin.latest c.in-Some-pop.parent c.latest-at.result c.latest-at.ensures);
      live = c.walk.invariant.live;
      kin = kin;
      live_room = c.walk.invariant.live_room;
      kin_room = sym (ap (λ (r : Kin). r.room) was) ∙ c.walk.invariant.kin_room;
    }

pub returns-in_default-pop-clause-entries : goal.returns-in_default-pop-clause-entries
returns-in_default-pop-clause-entries g c =
    let w : Walk c.args.entries.now c.walk.entries c.args.id c.args.stamp c.walk.left [] None =
    walk_seen _ _ _ _ _ _ _ _ _ _ _ refl refl (sym c.in_default-pop.ensures.1) (sym c.in_default.is) c.walk.invariant.walk in
    walk_done _ _ _ _ _ w

pub returns-in_default-pop-clause-left : goal.returns-in_default-pop-clause-left
returns-in_default-pop-clause-left g c =
    let w : Walk c.args.entries.now c.walk.entries c.args.id c.args.stamp c.walk.left [] None =
    walk_seen _ _ _ _ _ _ _ _ _ _ _ refl refl (sym c.in_default-pop.ensures.1) (sym c.in_default.is) c.walk.invariant.walk in
    walk_left _ _ _ _ _ w
