use Rattle.std.proofs.Common.{◌≡◌, ◌+◌, ℤ, Option, Some, length, sym, subst, ap, ◌∙◌, arith}
use Rattle.std.specs.Prelude.{Vec, slice_get}
use Rattle.std.specs.declared.alloc.Global.{Global}
use Rattle.path_sweep.specs.Ends.{IsEnd}
use Rattle.path_sweep.specs.steps.Walks.{IsAdvanced}
use Rattle.path_sweep.proofs.Counting.{walk_more}
use Rattle.path_sweep.proofs.sweeping.count_paths.Goals as goal

pub returns-in-Some : goal.returns-in-Some
returns-in-Some c =
    let a = subst (IsAdvanced c.args.graphs.now.graphs c.args.main c.loop.walk c.advance.new.self) c.in-Some.is
    (c.in_ok-end.ensures.walk c.args.main c.loop.invariant.walk) in
    record {
      counted = a.0;
      ends = subst (IsEnd c.args.graphs.now.graphs c.args.main c.args.edges a.0) (sym c.into_swept.ensures.end)
          (a.2 c.args.edges (let n = c.loop.invariant.counted in omega (arith, n, c.loop-test.true)));
      all = ap (λ (f : Vec (Option (Vec ℤ Global)) Global). length f.items) c.into_swept.ensures.found
          ∙ (c.in_ok-end.ensures.found ∙ c.loop.invariant.found);
      entries = λ id o e. a.3 id o (subst (λ (f : Vec (Option (Vec ℤ Global)) Global). slice_get f.items id ≡ Some o)
          c.into_swept.ensures.found e);
    }

pub loop-preserved : goal.loop-preserved
loop-preserved c =
    let a = subst (IsAdvanced c.args.graphs.now.graphs c.args.main c.loop.walk c.advance.new.self) c.in_default.is
    (c.in_ok-end.ensures.walk c.args.main c.loop.invariant.walk) in
    record {
      walk = a.0;
      counted = a.1 ∙ ap (λ n. n + 1) c.loop.invariant.counted;
      found = c.in_ok-end.ensures.found ∙ c.loop.invariant.found;
    }

pub returns : goal.returns
returns c =
    let w = c.loop.invariant.walk in
    let n = c.loop.invariant.counted in
    let full : c.loop.walk.counted ≡ c.args.edges + 1 = omega (arith, n, c.loop-test.false, c.loop.auto.counter-end) in
    record {
      counted = w.paths;
      ends = subst (IsEnd c.args.graphs.now.graphs c.args.main c.args.edges w.paths) (sym c.into_swept-2.ensures.end)
          (walk_more c.args.graphs.now.graphs c.args.graphs.now.well_formed c.args.main c.loop.walk w c.args.edges full);
      all = ap (λ (f : Vec (Option (Vec ℤ Global)) Global). length f.items) c.into_swept-2.ensures.found ∙ c.loop.invariant.found;
      entries = λ id o e. w.entries id o (subst (λ (f : Vec (Option (Vec ℤ Global)) Global). slice_get f.items id ≡ Some o)
          c.into_swept-2.ensures.found e);
    }
