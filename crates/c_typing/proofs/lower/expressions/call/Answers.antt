use Rattle.std.proofs.Common.{◌∙◌, ap, sym}
use Rattle.c_tree.proofs.Rows.{call_of}
use Rattle.c_tree.specs.View.{expressions_of}
use Rattle.c_typing.specs.Lowering.{lowered_call}
use Rattle.c_typing.specs.steps.Tables.{callee_from}
use Rattle.c_typing.proofs.lower.expressions.call.Goals as goal

pub returns-in-Defined : goal.returns-in-Defined
returns-in-Defined c = call_of c.in-Defined.number c.args.values
    ∙ ap (λ k. lowered_call (callee_from k) (expressions_of c.args.values.items))
    (sym c.in-Defined.is)
