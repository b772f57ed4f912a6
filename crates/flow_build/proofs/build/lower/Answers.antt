use Rattle.std.proofs.Common.{◌≡◌, ◌+◌, List, IsTrue, false, sym, ap, subst, arith}
use Rattle.c_tree.specs.declared.tree.Stmt.{Stmt}
use Rattle.c_tree.specs.Syntax.{block}
use Rattle.c_tree.specs.View.{procedure_of, statements_of}
use Rattle.flow_build.specs.steps.Building.{are_lowerable_statements}
use Rattle.flow_build.specs.steps.Procedures.{layout_of, free_slot}
use Rattle.flow_build.specs.steps.StatementAdditions.{AddsStatement}
use Rattle.flow_build.proofs.Plain.{kept}
use Rattle.flow_build.proofs.Lowerable.{statements_lowerable}
use Rattle.flow_build.proofs.Making.{makes}
use Rattle.flow_build.proofs.build.lower.Goals as goal

pub block-requires-clause-lowerable : goal.block-requires-clause-lowerable
block-requires-clause-lowerable c =
    let p = procedure_of c.args.procedure.now in
    let P = c.requires.sound.0 in
    let k = kept P p c.requires.sound.2 in
    let many = c.requires.sound.1 in
    let few = c.requires.few in
    let L : List Stmt → Type 0 = λ l. IsTrue (are_lowerable_statements (statements_of l)) in
    subst L (sym c.deref.ensures.value)
    (statements_lowerable P p.slots k.few_slots (omega (arith, many, few)) false p.body k.sound c.requires.divides)

pub returns-clause-makes : goal.returns-clause-makes
returns-clause-makes c =
    let p = procedure_of c.args.procedure.now in
    let n = c.args.layout.globals in
    let free = c.args.procedure.now.slots + c.from.result in
    let same : c.args.layout ≡ layout_of n p = ap (λ x. record { params = x; globals = n }) c.requires.params in
    let at : free ≡ free_slot n p = ap (λ x. p.slots + x) c.from.ensures in
    let A : List Stmt → Type 0 = λ l. AddsStatement (block (statements_of l))
    (record { gives = p.gives; layout = c.args.layout; free = free })
    5 (record { to = 2; on_break = 2; on_continue = 2 }) c.begin.new.b c.block.new.b c.in_ok-reached.reached in
    makes n c.args.opening.now c.args.entries p c.args.layout free c.begin.new.b c.block.new.b c.in_ok-reached.reached c.max.result same at
    c.in_ok-begin.ensures.edges c.in_ok-begin.ensures.next (subst A c.deref.ensures.value c.in_ok-reached.ensures.adds) c.max.ensures
