use Rattle.std.proofs.Common.{◌++◌, string_bytes, ap, sym, ◌∙◌}
use Rattle.workload_gen.proofs.Lines.{third_line}
use Rattle.workload_gen.proofs.text.push_procedure.Goals as goal

pub returns-in_ok-writeln : goal.returns-in_ok-writeln
returns-in_ok-writeln c =
    c.in_ok-writeln.ensures.bytes ∙ ap (λ z. string_bytes c.args.text.now ++ z) (sym (third_line c.args.index c.if-index-eq0.true))
