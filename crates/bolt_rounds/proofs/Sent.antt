-- Jobs in a round can be sent to a thread.
use denote.Param.Send.{IsSend, sendable}
use denote.Param.SendFields.{as_row_send, declared_send, variants_send}
use Rattle.std.proofs.Crossing.{crosses}
use Rattle.std.specs.contracts.alloc.Global as global
use Rattle.std.specs.contracts.impls.GlobalAllocator.TheImpl.{ghosts}
use Rattle.std.specs.contracts.option.Option as option
use Rattle.std.specs.contracts.sync.Arc as arc
use Rattle.query_rules.proofs.step.Closing.TheSendSync as closing
use Rattle.query_tree.proofs.Rest.TheSendSync as rest
use Rattle.summary_form.proofs.query.Query.TheSendSync as query
use Rattle.summary_form.proofs.summary.Summary.TheSendSync as shown
use Rattle.summary_form.specs.contracts.summary.Summary as summary
use Rattle.bolt_core.proofs.Sent.{job_send, state_send}
use Rattle.bolt_rounds.specs.contracts.crew.Place as place
use Rattle.bolt_rounds.specs.contracts.crew.Stage as stage
use Rattle.bolt_rounds.specs.contracts.moves.Made as made
use Rattle.bolt_rounds.specs.contracts.moves.Move as move
use Rattle.bolt_rounds.specs.contracts.moves.Worked as worked

shared_send : IsSend (arc.the_row summary.the_row global.the_row ghosts)
shared_send = search (shown.the_send, shown.the_sync, sendable, crosses) depth 30 fits 20000

handed_send : IsSend (option.the_row (arc.the_row summary.the_row global.the_row ghosts))
handed_send = search (shared_send, sendable, crosses) depth 30 fits 20000

ruleset parts = (
  handed_send,
  state_send,
  closing.the_send,
  rest.the_send,
  query.the_send,
  query.the_sync,
  shown.the_send,
  shown.the_sync,
  as_row_send,
  sendable,
  crosses,
)

move_send : IsSend move.the_row
move_send = variants_send move.enum (
  (search parts, (search parts, tt)),
  (
    (search parts, tt),
    (
      (search parts, tt),
      (
        (search parts, (search parts, tt)),
        tt,
      ),
    ),
  ),
)

worked_send : IsSend worked.the_row
worked_send = declared_send worked.the_type (job_send, (move_send, tt))

made_send : IsSend made.the_row
made_send = declared_send made.the_type (worked_send, (handed_send, tt))

stage_send : IsSend stage.the_row
stage_send = variants_send stage.enum (
  (job_send, tt),
  ((made_send, tt), (tt, tt)),
)

pub place_send : IsSend place.the_row
place_send = declared_send place.the_type (
  search (as_row_send, sendable),
  (search (as_row_send, sendable), (stage_send, tt)),
)
