use Rattle.std.proofs.Common.{arith}
use Rattle.c_tree.specs.Whole.{program_of}
use Rattle.flow_build.proofs.Whole.{made_next, length_mapped}
use Rattle.flow_build.proofs.build.push_graphs.Goals as goal

pub loop-number-preserved : goal.loop-number-preserved
loop-number-preserved c =
    let P = program_of c.args.program.now in
    let lt = c.loop-number-test.true in
    let end = c.len-number-end.ensures in
    let many = length_mapped c.args.program.now.procedures.items in
    made_next P c.loop-number.number c.loop-number.graphs.items c.push.new.self.items c.in_ok-graph.graph c.loop-number.invariant
    (omega (arith, lt, end, many)) c.in_ok-graph.ensures.graph c.in_ok-graph.ensures.literals c.in_ok-graph.ensures.opening
    c.in_ok-push.ensures.items
