-- States of queries, jobs and boards can be sent to a thread.
use denote.Param.Send.{IsSend, sendable}
use denote.Param.SendFields.{as_row_send, variants_send}
use Rattle.std.proofs.Crossing.{crosses}
use Rattle.bolt_core.proofs.event.Event.TheSendSync as event
use Rattle.bolt_core.proofs.slot.Slot.TheSendSync as slot
use Rattle.bolt_core.specs.contracts.board.Board as board
use Rattle.bolt_core.specs.contracts.job.Job as job
use Rattle.flow_graph.proofs.graphs.Graphs.TheSendSync as graphs
use Rattle.infeasible_cert.proofs.certificate.Certificate.TheLaws.TheKnot.{send-Certificate}
use Rattle.linear_formula.proofs.assignment.Assignment.TheSendSync as assignment
use Rattle.linear_formula.proofs.formula.Atoms.TheSendSync as atoms
use Rattle.may_partition.proofs.partition.Partition.TheSendSync as partition
use Rattle.may_partition.proofs.region.RegionEdge.TheSendSync as edge
use Rattle.must_region.proofs.trail.Trail.TheSendSync as trail
use Rattle.query_rules.proofs.step.Asked.TheSendSync as asked
use Rattle.query_rules.proofs.step.Excluded.TheSendSync as excluded
use Rattle.query_rules.proofs.step.Mark.TheSendSync as mark
use Rattle.query_rules.proofs.step.Why.TheSendSync as why
use Rattle.query_rules.specs.contracts.certificates.Certificates as certificates
use Rattle.query_rules.specs.contracts.state.QueryState as state
use Rattle.query_rules.specs.contracts.step.Killer as killer
use Rattle.query_rules.specs.contracts.step.Step as step
use Rattle.query_tree.proofs.forest.Forest.TheSendSync as forest
use Rattle.summary_form.proofs.query.Query.TheSendSync as query
use Rattle.summary_form.proofs.summary.Summary.TheSendSync as summary
use Rattle.summary_table.proofs.table.Table.TheSendSync as table

certificates_send : IsSend certificates.the_row
certificates_send = search (send-Certificate, sendable, crosses) depth 30 fits 20000

killer_send : IsSend killer.the_row
killer_send = search (certificates_send, send-Certificate, sendable, crosses) depth 30 fits 20000

ruleset parts = (
  killer_send,
  certificates_send,
  assignment.the_send,
  atoms.the_send,
  edge.the_send,
  edge.the_field_send,
  query.the_send,
  query.the_field_send,
  excluded.the_send,
  excluded.the_field_send,
  why.the_send,
  why.the_field_send,
  as_row_send,
  sendable,
  crosses,
)

step_send : IsSend step.the_row
step_send = variants_send step.enum (
  (search parts, (search parts, (search parts, tt))),
  (
    (search parts, (search parts, (search parts, (search parts, tt)))),
    (
      (search parts, (search parts, tt)),
      (
        (search parts, (search parts, (search parts, (search parts, tt)))),
        (
          (search parts, (search parts, (search parts, (search parts, (search parts, tt))))),
          (
            (search parts, (search parts, (search parts, (search parts, (search parts, (search parts, tt)))))),
            (
              (search parts, (search parts, (search parts, (search parts, tt)))),
              (
                (search parts, tt),
                (
                  (search parts, (search parts, (search parts, tt))),
                  tt,
                ),
              ),
            ),
          ),
        ),
      ),
    ),
  ),
)

pub state_send : IsSend state.the_row
state_send = search (
  step_send,
  asked.the_send,
  mark.the_send,
  partition.the_send,
  query.the_send,
  query.the_sync,
  trail.the_send,
  sendable,
  crosses,
) depth 30 fits 20000

pub job_send : IsSend job.the_row
job_send = search (state_send, sendable, crosses) depth 30 fits 20000

pub board_send : IsSend board.the_row
board_send = search (
  state_send,
  event.the_send,
  forest.the_send,
  graphs.the_send,
  graphs.the_sync,
  slot.the_send,
  summary.the_send,
  summary.the_sync,
  table.the_send,
  sendable,
  crosses,
) depth 30 fits 20000
