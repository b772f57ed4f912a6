use Rattle.std.proofs.Common.{◌+◌, ◌∷◌, [], ◌++◌, refl, sym, subst, ap, arith}
use Rattle.std.specs.Prelude.{Vec, ℤ, Option}
use Rattle.std.specs.declared.alloc.Global.{Global}
use Rattle.path_sweep.specs.steps.Frames.{CanFollow}
use Rattle.path_sweep.specs.steps.Linking.{IsFirst}
use Rattle.path_sweep.specs.steps.Walks.{level_of, IsWalk}
use Rattle.path_sweep.proofs.Adding.{ok_case, ok_has}
use Rattle.path_sweep.proofs.Counting.{walk_down, walk_fails, walk_returns, may_follow, inputs_values, stage_goes}
use Rattle.path_sweep.proofs.walk.Walk.count.Goals as goal

pub fill-requires-clause-before : goal.fill-requires-clause-before
fill-requires-clause-before c =
    let p = c.requires.point in
    (inputs_values p.0 p.3 p.1 c.args.self.now p.2 c.args.edge p.5 c.args.step c.args.guard c.args.at.now p.6).0

pub fill-requires-clause-read : goal.fill-requires-clause-read
fill-requires-clause-read c =
    let p = c.requires.point in
    (inputs_values p.0 p.3 p.1 c.args.self.now p.2 c.args.edge p.5 c.args.step c.args.guard c.args.at.now p.6).1

pub first_edge-next-requires : goal.first_edge-next-requires
first_edge-next-requires c =
    let p = c.requires.point in (
      p.0,
      c.args.self.now.levels.items ++ level_of c.args.self.now c.args.edge ∷ [],
      p.6.after.at,
      p.4,
      p.6.lies (level_of c.args.self.now c.args.edge) refl refl,
    )

pub returns-in-Returned-clause-walk : goal.returns-in-Returned-clause-walk
returns-in-Returned-clause-walk c = λ gs main h linked links next pt.
    walk_returns gs linked main c.args.self.now h c.args.edge next c.args.step c.args.guard c.args.at.now pt c.in-Returned.is
    (record c.args.self.now { next = c.next_edge-self.result; counted = c.args.self.now.counted + 1 }) refl refl refl refl refl
    (c.next_edge-self.ensures.first gs c.args.self.now.levels.items h.now.at links h.stage
    (may_follow gs linked main c.args.self.now h c.args.edge next))
    refl refl

pub returns-in-Failed-clause-walk : goal.returns-in-Failed-clause-walk
returns-in-Failed-clause-walk c =
    ok_case c.fill.result _ (λ a is gs main h linked links next pt.
    let rest = ok_has c.fill.result _ a is c.fill.ensures.rest in
    subst (IsWalk gs main) (sym rest)
    (walk_fails gs linked main c.args.self.now h c.args.edge next c.args.step c.args.guard c.args.at.now pt c.in-Failed.id c.in-Failed.is
    (record c.args.self.now {
      next = c.next_edge-self-in-Failed.result;
      counted = c.args.self.now.counted + 1;
      found = c.fill.new.self.found;
    }) refl refl refl refl refl
    (c.next_edge-self-in-Failed.ensures.first gs c.args.self.now.levels.items h.now.at links h.stage
    (may_follow gs linked main c.args.self.now h c.args.edge next)) refl (ok_has c.fill.result _ a is c.fill.ensures.found)))

pub returns-in_default-clause-walk : goal.returns-in_default-clause-walk
returns-in_default-clause-walk c =
    ok_case c.descend.result _ (λ a is gs main h linked links next pt.
    let levels = c.args.self.now.levels.items ++ level_of c.args.self.now c.args.edge ∷ [] in
    let lies = pt.lies (level_of c.args.self.now c.args.edge) refl refl in
    walk_down gs linked main c.args.self.now h c.args.edge next c.args.step c.args.guard c.args.at.now pt
    (omega (arith, c.ranges.edge.fits))
    (stage_goes gs levels c.args.step.frame pt.after.at c.in_default.not-Failed lies) c.descend.new.self
    (ok_has c.descend.result _ a is c.descend.ensures.frame) (ok_has c.descend.result _ a is c.descend.ensures.guard)
    (ok_has c.descend.result _ a is c.descend.ensures.inputs) (ok_has c.descend.result _ a is c.descend.ensures.symbols)
    (ok_has c.descend.result _ a is c.descend.ensures.levels)
    (subst (IsFirst (CanFollow pt.after.at) 0) (sym (ok_has c.descend.result _ a is c.descend.ensures.next))
    (c.first_edge-next.ensures gs levels pt.after.at links lies)) (ok_has c.descend.result _ a is c.descend.ensures.counted)
    (ap (λ (f : Vec (Option (Vec ℤ Global)) Global). f.items) (ok_has c.descend.result _ a is c.descend.ensures.found)))
