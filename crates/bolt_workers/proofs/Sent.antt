-- Desks can be sent to a thread, and what the workers share can be shared.
use denote.Param.Send.{IsSend, IsSync, sendable}
use denote.Param.SendFields.{as_row_send, declared_send}
use Rattle.std.specs.contracts.alloc.Global as heap
use Rattle.std.specs.contracts.impls.GlobalAllocator.TheImpl.{ghosts}
use Rattle.std.proofs.Crossing.{crosses}
use denote.Struct.Field.{bool-field, unit-field}
use Rattle.board_lock.proofs.lock.BoardLock.TheSendSync as lock
use Rattle.board_lock.proofs.seat.Seat.TheSendSync as seat
use Rattle.board_lock.specs.contracts.lock.BoardLock as a_lock
use Rattle.board_lock.specs.contracts.seat.Seat as a_seat
use Rattle.bolt_core.proofs.Sent.{board_send}
use Rattle.bolt_core.specs.contracts.board.Board as board
use Rattle.bolt_core.specs.contracts.history.BoardChronicle.TheImpl as chronicle
use Rattle.bolt_core.specs.contracts.history.Program as program
use Rattle.bolt_core.specs.contracts.history.Telling as telling
use Rattle.bolt_workers.specs.contracts.desk.Desk as desk
use Rattle.crossbeam_utils.proofs.sync.parker.RuledParker.TheSendSync as parker
use Rattle.crossbeam_utils.proofs.sync.parker.RuledUnparker.TheSendSync as unparker
use Rattle.crossbeam_utils.specs.contracts.rule.Unruled as unruled
use Rattle.crossbeam_utils.specs.contracts.rule.UnruledProtocolUnit.TheImpl as protocol
use Rattle.crossbeam_utils.specs.contracts.sync.parker.RuledUnparker as an_unparker
use Rattle.flow_graph.proofs.graphs.Graphs.TheSendSync as graphs
use Rattle.summary_table.proofs.table.Table.TheSendSync as table

seat_send : IsSend (a_seat.the_row board.the_row program.the_row telling.the_row chronicle.ghosts)
seat_send = seat.the_send board.the_row program.the_row telling.the_row chronicle.ghosts board_send

pub lock_sync : IsSync (a_lock.the_row board.the_row program.the_row telling.the_row chronicle.ghosts)
lock_sync = lock.the_sync board.the_row program.the_row telling.the_row chronicle.ghosts board_send

pub heap_sync : IsSync heap.the_row
heap_sync = search sendable depth 20

pub unparker_sync : IsSync (an_unparker.the_row unit-field.row unruled.the_row heap.the_row (protocol.ghosts bool-field.row) ghosts)
unparker_sync = search (unparker.the_sync, sendable, crosses) depth 30 fits 20000

pub desk_send : IsSend desk.the_row
desk_send = declared_send desk.the_type (
  search (as_row_send, sendable),
  (
    search (as_row_send, sendable),
    (
      search (as_row_send, sendable),
      (
        search (seat_send, sendable) depth 30 fits 20000,
        (
          search (graphs.the_send, graphs.the_sync, as_row_send, sendable, crosses) depth 30 fits 20000,
          (
            search (table.the_send, sendable) depth 30 fits 20000,
            (search (parker.the_send, sendable, crosses) depth 30 fits 20000, tt),
          ),
        ),
      ),
    ),
  ),
)
