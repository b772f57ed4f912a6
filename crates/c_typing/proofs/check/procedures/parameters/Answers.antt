use Rattle.std.proofs.Common.{◌∙◌, ap, arith}
use Rattle.c_tree.specs.SourceView.{identifier_of}
use Rattle.c_typing.specs.Scope.{with_variable}
use Rattle.c_typing.specs.steps.Tables.{scopes_of, notes_of}
use Rattle.c_typing.proofs.Declaring.{parameters_turn, parameters_end, parameter_zeros_turn, parameter_zeros_end}
use Rattle.c_typing.proofs.check.procedures.parameters.Goals as goal

pub loop-named-preserved : goal.loop-named-preserved
loop-named-preserved c =
    let ss = scopes_of c.loop-named.scopes in
    let scopes = c.in_ok-declared.ensures.scopes ∙ ap (λ d. with_variable ss (identifier_of d).name 0) c.named-item.is in
    record {
      notes = parameters_turn c.args.names.now c.loop-named.named-index c.named-item.result ss (scopes_of c.declared.new.scopes)
          (notes_of c.loop-named.notes) (notes_of c.declared.new.notes) _ c.loop-named-test.true
          (rw (← c.named-item.is) c.in_ok-declared.ensures.notes) scopes c.loop-named.invariant.notes;
      scopes = parameter_zeros_turn c.args.names.now c.loop-named.named-index c.named-item.result ss (scopes_of c.declared.new.scopes) _
          c.loop-named-test.true scopes c.loop-named.invariant.scopes;
    }

pub returns-clause-notes : goal.returns-clause-notes
returns-clause-notes c = parameters_end c.args.names.now c.loop-named.named-index (scopes_of c.loop-named.scopes)
    (notes_of c.loop-named.notes)
    _ (omega arith) c.loop-named.invariant.notes

pub returns-clause-scopes : goal.returns-clause-scopes
returns-clause-scopes c = parameter_zeros_end c.args.names.now c.loop-named.named-index (scopes_of c.loop-named.scopes) _ (omega arith)
    c.loop-named.invariant.scopes
