use denote.Param.Send.{sendable}
use Rattle.std.proofs.Crossing.{crosses}
use Rattle.bolt_core.proofs.Sent.{board_send}
use Rattle.bolt_core.proofs.history.board_is_sent.Goals as goal

pub can_be_sent-requires-send-T : goal.can_be_sent-requires-send-T
can_be_sent-requires-send-T c κs = search (board_send, sendable, crosses) depth 30
