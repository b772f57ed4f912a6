use Rattle.bolt_core.specs.steps.Closes.{kept_slot}
use Rattle.query_tree.proofs.Lists.{set_changed}
use Rattle.bolt_core.proofs.closing.keep.Goals as goal

pub returns : goal.returns
returns c = set_changed (kept_slot c.args.how c.args.summary) c.args.slots.now c.args.id c.index-slots-id.result c.requires
