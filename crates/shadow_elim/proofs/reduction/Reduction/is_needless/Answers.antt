use Rattle.std.proofs.Common.{Some, arith}
use Rattle.linear_formula.proofs.Finishing.{constant_is}
use Rattle.shadow_elim.proofs.Placing.{found_place, needless_at, needless_nowhere}
use Rattle.shadow_elim.proofs.reduction.Reduction.is_needless.Goals as goal

pub index-requires : goal.index-requires
index-requires c =
    let p = found_place c.self.inside.places.entries c.self.inside.rows.items c.args.term.now.parts c.parts.result.now
    (Some c.in-Some.place.now) c.self.invariant c.parts.ensures.value c.in-Some.ensures.value in
    omega (arith, p.0)

pub returns-in-Some : goal.returns-in-Some
returns-in-Some c =
    needless_at c.self.inside.places.entries c.self.inside.rows.items c.args.self.now c.args.term.now c.parts.result.now c.in-Some.place.now
    c.index.result.now _ _ c.self.invariant c.self.view_is c.parts.ensures.value c.in-Some.ensures.value c.index.ensures
    (constant_is c.args.term.now c.constant-in-Some.result c.constant-in-Some.ensures.value c.constant-in-Some.ensures.kept)
    (constant_is c.index.result.now.term c.constant.result c.constant.ensures.value c.constant.ensures.kept)

pub returns-in-None : goal.returns-in-None
returns-in-None c =
    needless_nowhere c.self.inside.places.entries c.self.inside.rows.items c.args.self.now c.args.term.now c.parts.result.now
    c.self.invariant c.self.view_is c.parts.ensures.value c.in-None.ensures.value
