use Rattle.std.proofs.Common.{◌≡◌, ◌∙◌, ◌<◌, length, arith}
use Rattle.std.specs.Prelude.{slice_index}
use Rattle.std.proofs.lemmas.List.{get_or_default}
use Rattle.punch_step.specs.steps.Reaching.{IsReachedWithout}
use Rattle.punch_step.proofs.OpenWays.{bit_of, far_reached}
use Rattle.punch_step.proofs.reaching.reaches.Goals as goal

pub returns : goal.returns
returns c p bad lists same =
    let n = length c.args.partition.now.regions in let r = c.in_ok-far.field-0 in
    let low : c.args.from < length r.far.items = omega (arith, c.requires.from, c.in_ok-far.ensures.least.fars) in
    let is : c.index.result.now ≡ slice_index r.far.items c.args.from =
    c.index.ensures ∙ get_or_default r.far.items c.args.from c.index.result.now 0 low in
    bit_of c.index.result.now (slice_index r.far.items c.args.from) is (IsReachedWithout p bad c.args.from c.args.to)
    (far_reached c.args.partition.now.edges c.args.shut.now p bad lists same n c.args.to r.far.items r.way.items c.in_ok-far.ensures
    c.args.from)
