use Rattle.std.proofs.Common.{◌≡◌, ℕ, ◌+◌, ◌≤◌, ◌<◌, [], length, get_or, Some, IsTrue, ap, subst, arith}
use Rattle.std.specs.Prelude.{slice_get}
use Rattle.c_tree.specs.declared.tree.Procedure.{Procedure}
use Rattle.c_tree.specs.declared.tree.Program.{Program}
use Rattle.c_tree.specs.Syntax.{PureProcedure}
use Rattle.c_tree.specs.View.{procedure_of}
use Rattle.c_tree.specs.WellFormed.{is_well_formed_procedure, all_linear}
use Rattle.c_tree.specs.Whole.{program_of}
use Rattle.flow_graph.specs.Columns.{AreAllValues}
use Rattle.flow_build.specs.steps.Building.{statements_literals_fit}
use Rattle.flow_build.specs.steps.Procedures.{IsGraphWith, IsGraphOf}
use Rattle.flow_build.proofs.Plain.{kept}
use Rattle.flow_build.proofs.Answering.{if_ok, if_at, on_ok, on_at}
use Rattle.flow_build.proofs.Whole.{procedure_there, main_found, other_found, fits_found}
use Rattle.flow_build.proofs.build.numbered_graph.Goals as goal

-- the procedure of this number, which is the program's
module _ (program : Program) (i : ℕ) (x : Procedure) (lt : i < length program.procedures.items)
    (is : x ≡ get_or program.procedures.items i x) where
  there : slice_get (program_of program).procedures i ≡ Some (procedure_of x)
  there = procedure_there program.procedures.items i x lt is

  sound : IsTrue (is_well_formed_procedure (program_of program) (procedure_of x))
  sound = program.well_formed.procedures_well_formed i (procedure_of x) there

  linear : IsTrue (all_linear (procedure_of x).body)
  linear = program.well_formed.products_linear i (procedure_of x) there

  few_params : x.params ≤ 24
  few_params =
      let k = kept (program_of program) (procedure_of x) sound in
      let low = k.params_in_slots in
      let few = k.few_slots in
      omega (arith, low, few)

pub graph-requires-clause-sound : goal.graph-requires-clause-sound
graph-requires-clause-sound c = (
  program_of c.args.program.now,
  let count = c.len-globals.ensures in omega (arith, count),
  sound c.args.program.now c.args.number c.index-procedure.result.now c.requires.number c.index-procedure.ensures,
)

pub graph-requires-clause-linear : goal.graph-requires-clause-linear
graph-requires-clause-linear c =
    linear c.args.program.now c.args.number c.index-procedure.result.now c.requires.number c.index-procedure.ensures

pub graph-requires-clause-divides : goal.graph-requires-clause-divides
graph-requires-clause-divides c =
    c.requires.divides c.args.number (procedure_of c.index-procedure.result.now)
    (there c.args.program.now c.args.number c.index-procedure.result.now c.requires.number c.index-procedure.ensures)

pub overflow_add-entries : goal.overflow_add-entries
overflow_add-entries c =
    let from = c.from.ensures in
    let count = c.len-globals.ensures in
    let few = c.args.program.now.well_formed.few_globals in
    let params = few_params c.args.program.now c.args.number c.index-procedure.result.now c.requires.number c.index-procedure.ensures in
    omega (arith, from, count, few, params)

pub graph-requires-else-number-program-clause-sound : goal.graph-requires-else-number-program-clause-sound
graph-requires-else-number-program-clause-sound c = (
  program_of c.args.program.now,
  let count = c.len-globals.ensures in omega (arith, count),
  sound c.args.program.now c.args.number c.index-procedure.result.now c.requires.number c.index-procedure.ensures,
)

pub graph-requires-else-number-program-clause-linear : goal.graph-requires-else-number-program-clause-linear
graph-requires-else-number-program-clause-linear c =
    linear c.args.program.now c.args.number c.index-procedure.result.now c.requires.number c.index-procedure.ensures

pub graph-requires-else-number-program-clause-divides : goal.graph-requires-else-number-program-clause-divides
graph-requires-else-number-program-clause-divides c =
    c.requires.divides c.args.number (procedure_of c.index-procedure.result.now)
    (there c.args.program.now c.args.number c.index-procedure.result.now c.requires.number c.index-procedure.ensures)

pub returns-then-number-program-clause-graph : goal.returns-then-number-program-clause-graph
returns-then-number-program-clause-graph c =
    let P = program_of c.args.program.now in
    let p = procedure_of c.index-procedure.result.now in
    let i = c.args.number in
    let n = c.len-globals.result in
    let count : n ≡ length P.globals = let e = c.len-globals.ensures in omega (arith, e) in
    let at = there c.args.program.now i c.index-procedure.result.now c.requires.number c.index-procedure.ensures in
    if_ok c.graph.result (λ g. (q : PureProcedure) → slice_get P.procedures i ≡ Some q → IsGraphOf P i q g) (λ g e.
    main_found P i n c.deref.result.now p g at count c.deref.ensures.value c.if-number-program.true
    (if_at c.graph.result g (λ x. IsGraphWith n c.deref.result.now 0 p x) e c.graph.ensures.graph))

pub returns-then-number-program-clause-literals : goal.returns-then-number-program-clause-literals
returns-then-number-program-clause-literals c =
    let P = program_of c.args.program.now in
    let p = procedure_of c.index-procedure.result.now in
    let i = c.args.number in
    let at = there c.args.program.now i c.index-procedure.result.now c.requires.number c.index-procedure.ensures in
    on_ok c.graph.result ((q : PureProcedure) → slice_get P.procedures i ≡ Some q → IsTrue (statements_literals_fit q.body)) (λ g e.
    fits_found P i p at (on_at c.graph.result g (IsTrue (statements_literals_fit p.body)) e c.graph.ensures.literals))

pub returns-else-number-program-clause-graph : goal.returns-else-number-program-clause-graph
returns-else-number-program-clause-graph c =
    let P = program_of c.args.program.now in
    let p = procedure_of c.index-procedure.result.now in
    let i = c.args.number in
    let n = c.len-globals.result in
    let count : n ≡ length P.globals = let e = c.len-globals.ensures in omega (arith, e) in
    let entries = p.params + c.from.result in
    let r = c.graph-else-number-program in
    let at = there c.args.program.now i c.index-procedure.result.now c.requires.number c.index-procedure.ensures in
    if_ok r.result (λ g. (q : PureProcedure) → slice_get P.procedures i ≡ Some q → IsGraphOf P i q g) (λ g e.
    other_found P i n entries p g at count (ap (λ m. p.params + m) c.from.ensures) c.if-number-program.false
    (if_at r.result g (λ x. IsGraphWith n [] entries p x) e r.ensures.graph))

pub returns-else-number-program-clause-literals : goal.returns-else-number-program-clause-literals
returns-else-number-program-clause-literals c =
    let P = program_of c.args.program.now in
    let p = procedure_of c.index-procedure.result.now in
    let i = c.args.number in
    let r = c.graph-else-number-program in
    let at = there c.args.program.now i c.index-procedure.result.now c.requires.number c.index-procedure.ensures in
    on_ok r.result ((q : PureProcedure) → slice_get P.procedures i ≡ Some q → IsTrue (statements_literals_fit q.body)) (λ g e.
    fits_found P i p at (on_at r.result g (IsTrue (statements_literals_fit p.body)) e r.ensures.literals))

pub returns-then-number-program-clause-opening : goal.returns-then-number-program-clause-opening
returns-then-number-program-clause-opening c =
    on_ok c.graph.result (c.args.number ≡ c.args.program.now.main → AreAllValues c.args.program.now.globals.items) (λ g e is.
    subst AreAllValues c.deref.ensures.value (on_at c.graph.result g (AreAllValues c.deref.result.now) e c.graph.ensures.values))

pub returns-else-number-program-clause-opening : goal.returns-else-number-program-clause-opening
returns-else-number-program-clause-opening c =
    let r = c.graph-else-number-program in
    on_ok r.result (c.args.number ≡ c.args.program.now.main → AreAllValues c.args.program.now.globals.items) (λ g e is.
    absurd (c.if-number-program.false is))
