-- The text of the workload program is an accepted source.
use Rattle.std.proofs.Common.{sym, subst, arith}
use Rattle.c_parser.specs.Answer.{IsShallowFile}
use Rattle.c_typing.specs.Lowering.{lowered_file}
use Rattle.workload_accepted.specs.Laws.{WorkloadsAreAccepted}
use Rattle.workload_accepted.proofs.WorkloadTokens.{workload_has_tokens}
use Rattle.workload_accepted.proofs.WorkloadTree.{workload_items}
use Rattle.workload_accepted.proofs.WorkloadFile.{workload_reads}
use Rattle.workload_accepted.proofs.WorkloadProgram.{workload_program}

-- its program has an assertion for each of the n procedures, and `main` beside them
pub workload_accepted : WorkloadsAreAccepted
workload_accepted n some few =
    let t = workload_has_tokens n few in
    let items = workload_items t.spots in
    let p = workload_program n few t.spots t.lines t.calls in (
      lowered_file items,
      record {
        tokens = t.tokens;
        lexed = t.lexed;
        items = items;
        parsed = subst (λ ts. IsShallowFile ts items) (sym t.pure) (workload_reads t.spots (omega (arith, t.calls)));
        typed = p.program;
      },
      p.asserts,
      p.procedures,
    )
