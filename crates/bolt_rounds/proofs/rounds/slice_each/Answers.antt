use denote.Param.Send.{sendable}
use Rattle.std.proofs.Crossing.{crosses}
use Rattle.bolt_rounds.proofs.Sent.{place_send}
use Rattle.bolt_rounds.proofs.rounds.slice_each.Goals as goal

pub each_apart-requires-send-T : goal.each_apart-requires-send-T
each_apart-requires-send-T g c κs within = search (place_send, sendable, crosses) depth 30
