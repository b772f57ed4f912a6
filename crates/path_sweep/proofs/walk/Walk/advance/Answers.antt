use Rattle.std.specs.Prelude.{Vec, slice_get}
use Rattle.std.specs.declared.alloc.Global.{Global}
use Rattle.std.proofs.Common.{◌≡◌, ◌+◌, Some, Option, ℤ, length, refl, subst, ap, ◌∙◌, arith}
use Rattle.path_sweep.specs.steps.Walks.{IsAsked}
use Rattle.path_sweep.proofs.Counting.{may_follow, walk_passes, walk_whole, walk_limit}
use Rattle.path_sweep.proofs.Measuring.{pass_less}
use Rattle.path_sweep.proofs.walk.Walk.advance.Goals as goal

pub go_back-requires : goal.go_back-requires
go_back-requires c =
    let w = c.loop-self.invariant.walk c.requires.walk.0 c.requires.walk.1 in
    (c.args.graphs.now.graphs, c.requires.walk.0, w, c.args.graphs.now.well_formed, c.requires.links, c.in_default.is)

pub loop-self-preserved-then-go_back : goal.loop-self-preserved-then-go_back
loop-self-preserved-then-go_back c = record {
  walk = λ main h. c.go_back.ensures.walk c.if-go_back.true c.args.graphs.now.graphs main (c.loop-self.invariant.walk main h)
      c.args.graphs.now.well_formed c.requires.links c.in_default.is;
  counted = c.go_back.ensures.counted ∙ c.loop-self.invariant.counted;
  found = ap (λ (f : Vec (Option (Vec ℤ Global)) Global). length f.items) c.go_back.ensures.found ∙ c.loop-self.invariant.found;
}

pub returns-in_default-clause-walk : goal.returns-in_default-clause-walk
returns-in_default-clause-walk c = λ main h.
    let w = c.loop-self.invariant.walk main h in (
      w.paths,
      w.count ∙ c.loop-self.invariant.counted,
      λ edges few. walk_whole c.args.graphs.now.graphs c.args.graphs.now.well_formed main c.loop-self.self w c.in_default.is
          (c.go_back.ensures.done c.if-go_back.false) edges (let n = c.loop-self.invariant.counted in omega (arith, n, few)),
      λ id o e. w.entries id o (subst (λ (f : Vec (Option (Vec ℤ Global)) Global). slice_get f.items id ≡ Some o) c.go_back.ensures.found
          e),
    )

pub ask-requires-clause-walk : goal.ask-requires-clause-walk
ask-requires-clause-walk c = (c.requires.walk.0, c.loop-self.invariant.walk c.requires.walk.0 c.requires.walk.1)

pub next_edge-self-requires : goal.next_edge-self-requires
next_edge-self-requires c =
    let w = c.loop-self.invariant.walk c.requires.walk.0 c.requires.walk.1 in (
      c.args.graphs.now.graphs,
      c.loop-self.self.levels.items,
      c.requires.links,
      record {
        stage = w.now.at;
        is = w.stage;
        can = may_follow c.args.graphs.now.graphs c.args.graphs.now.well_formed c.requires.walk.0 c.loop-self.self w c.in-Some.edge
            c.in-Some.is;
      },
    )

pub loop-self-smaller : goal.loop-self-smaller
loop-self-smaller c =
    let w = c.loop-self.invariant.walk c.requires.walk.0 c.requires.walk.1 in
    let can = may_follow c.args.graphs.now.graphs c.args.graphs.now.well_formed c.requires.walk.0 c.loop-self.self w c.in-Some.edge
    c.in-Some.is in
    pass_less _ c.loop-self.self.levels.items c.in-Some.edge c.loop-self.self.next c.next_edge-self.result c.in-Some.is
    c.next_edge-self.ensures.number
    (c.next_edge-self.ensures.first c.args.graphs.now.graphs c.loop-self.self.levels.items w.now.at c.requires.links w.stage can)

pub loop-self-preserved : goal.loop-self-preserved
loop-self-preserved c = record {
  walk = λ main h.
      let w = c.loop-self.invariant.walk main h in
      let can = may_follow c.args.graphs.now.graphs c.args.graphs.now.well_formed main c.loop-self.self w c.in-Some.edge c.in-Some.is in
      walk_passes c.args.graphs.now.graphs c.args.graphs.now.well_formed main c.loop-self.self w c.in-Some.edge c.in-Some.is
      (subst (IsAsked c.args.graphs.now.graphs main c.loop-self.self w.now c.in-Some.edge) c.in-Never.is (c.in_ok-ask.ensures main w))
      c.next_edge-self.result
      (c.next_edge-self.ensures.first c.args.graphs.now.graphs c.loop-self.self.levels.items w.now.at c.requires.links w.stage can)
      (record c.loop-self.self { next = c.next_edge-self.result }) refl;
  counted = c.loop-self.invariant.counted;
  found = c.loop-self.invariant.found;
}

pub count-requires-clause-point : goal.count-requires-clause-point
count-requires-clause-point c =
    let w = c.loop-self.invariant.walk c.requires.walk.0 c.requires.walk.1 in (
      c.args.graphs.now.graphs,
      c.requires.walk.0,
      w,
      c.args.graphs.now.well_formed,
      c.requires.links,
      c.in-Some.is,
      subst (IsAsked c.args.graphs.now.graphs c.requires.walk.0 c.loop-self.self w.now c.in-Some.edge) c.in-Point.is
          (c.in_ok-ask.ensures c.requires.walk.0 w),
    )

pub returns-in-Point-clause-walk : goal.returns-in-Point-clause-walk
returns-in-Point-clause-walk c = λ main h.
    let w = c.loop-self.invariant.walk main h in
    let pt = subst (IsAsked c.args.graphs.now.graphs main c.loop-self.self w.now c.in-Some.edge) c.in-Point.is (c.in_ok-ask.ensures main w)
    in (
      c.in_ok-count-in-Point.ensures.walk c.args.graphs.now.graphs main w c.args.graphs.now.well_formed c.requires.links c.in-Some.is pt,
      c.in_ok-count-in-Point.ensures.counted ∙ ap (λ n. n + 1) c.loop-self.invariant.counted,
    )

pub returns-in-Limit-clause-walk : goal.returns-in-Limit-clause-walk
returns-in-Limit-clause-walk c = λ main h.
    let w = c.loop-self.invariant.walk main h in
    let meets = subst (IsAsked c.args.graphs.now.graphs main c.loop-self.self w.now c.in-Some.edge) c.in-Limit.is
    (c.in_ok-ask.ensures main w)
    in (
      w.paths,
      w.count ∙ c.loop-self.invariant.counted,
      λ edges few. walk_limit c.args.graphs.now.graphs c.args.graphs.now.well_formed main c.loop-self.self w c.in-Some.edge c.in-Some.is
          c.in-Limit.kept
          meets edges (let n = c.loop-self.invariant.counted in omega (arith, n, few)),
      w.entries,
    )
