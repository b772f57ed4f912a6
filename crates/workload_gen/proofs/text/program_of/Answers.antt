use Rattle.std.proofs.Common.{length, ap, ◌∙◌, arith}
use Rattle.workload_gen.proofs.Lines.{in_order, text_fits}
use Rattle.workload_gen.proofs.text.program_of.Goals as goal

pub returns-clause-fits : goal.returns-clause-fits
returns-clause-fits c =
    let n = c.args.number in
    let e = in_order n _ _ _ c.new-text.ensures.bytes c.in_ok-push_procedures.ensures c.in_ok-push_main.ensures in
    omega (arith, ap length (ap (λ v. v.items) c.into_bytes.ensures.value ∙ e), text_fits n c.requires.few, c.into_bytes.result.ok.0)
