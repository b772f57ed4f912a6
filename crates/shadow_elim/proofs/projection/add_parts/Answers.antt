use Rattle.std.proofs.Common.{◌-◌, arith, refl}
use Rattle.shadow_elim.proofs.Projecting.{parts-step}
use Rattle.shadow_elim.proofs.projection.add_parts.Goals as goal

pub loop-left-preserved : goal.loop-left-preserved
loop-left-preserved c = (
  omega (arith, c.loop-left.invariant.0),
  parts-step c.args.parts.now c.loop-left.left (c.loop-left.left - 1) _ _ c.args.columns.now.keys
      c.loop-left.columns.keys c.insert.new.self.keys (omega (arith, c.loop-left.invariant.0)) (omega arith) refl c.loop-left.invariant.1
      c.in_ok-insert.ensures.keys,
)
