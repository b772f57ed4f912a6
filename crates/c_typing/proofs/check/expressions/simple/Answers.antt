use Rattle.std.proofs.Common.{◌≡◌, ◌∙◌, ap, sym, [], false, length, arith}
use Rattle.c_tree.specs.SourceView.{simple_of, identifier_of}
use Rattle.c_typing.specs.Scope.{asserts_by_simple}
use Rattle.c_typing.specs.Faults.{simple_faults}
use Rattle.c_typing.specs.steps.Tables.{scopes_of, notes_of, noted}
use Rattle.c_typing.specs.steps.FileScopes.{file_scope}
use Rattle.c_typing.proofs.Noting.{call_noted, change_noted}
use Rattle.c_typing.proofs.check.expressions.simple.Goals as goal

pub returns-in_ok-right-in-Change : goal.returns-in_ok-right-in-Change
returns-in_ok-right-in-Change c =
    let file = file_scope c.args.file.now in
    let ss = scopes_of c.args.scopes.now in
    let n = notes_of c.args.notes.now in
    let read = c.in_ok-right-in-Change in
    change_noted file ss n (notes_of c.name-in-Change.new.notes) (notes_of c.expression-in-Change.new.notes) (notes_of c.operator.new.notes)
    c.in-Change.op c.in-Change.at (identifier_of c.in-Change.named) c.in-Change.value read.right
    c.name-in-Change.ensures read.ensures.notes read.ensures.side c.operator.ensures
    ∙ ap (λ s. noted n (simple_faults file ss (simple_of s)) [] (asserts_by_simple (simple_of s))) (sym c.in-Change.is)

pub returns-in_ok-arguments-in-Call : goal.returns-in_ok-arguments-in-Call
returns-in_ok-arguments-in-Call c =
    let file = file_scope c.args.file.now in
    let ss = scopes_of c.args.scopes.now in
    let n = notes_of c.args.notes.now in
    let few : c.len.result ≡ length c.in-Call.values.items = omega (arith, c.len.ensures, c.in-Call.values.ok.0) in
    call_noted file ss n (notes_of c.callee.new.notes) (notes_of c.arguments.new.notes) (identifier_of c.in-Call.named)
    c.in-Call.values.items
    c.deref.result.now c.len.result false few c.deref.ensures.value c.in_ok-callee-in-Call.ensures c.in_ok-arguments-in-Call.ensures
    ∙ ap (λ s. noted n (simple_faults file ss (simple_of s)) [] (asserts_by_simple (simple_of s))) (sym c.in-Call.is)
