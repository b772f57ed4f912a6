use Rattle.std.proofs.Common.{ℕ, ◌+◌, sym, subst, arith}
use Rattle.c_tree.specs.View.{procedure_of}
use Rattle.flow_graph.specs.WellFormed.{IsGraph}
use Rattle.flow_build.specs.steps.Procedures.{nodes_of_procedure, slots_of_procedure, procedure_edges}
use Rattle.flow_build.proofs.Facts.{graph_kept}
use Rattle.flow_build.proofs.Making.{graph_from}
use Rattle.flow_build.proofs.build.graph.Goals as goal

pub new-requires-2 : goal.new-requires-2
new-requires-2 c =
    let p = procedure_of c.args.procedure.now in
    let P = c.requires.sound.0 in
    let many = c.requires.sound.1 in
    let opening = c.args.opening.now in
    let entries = c.args.entries in
    let few = c.requires.few in
    let opens = c.requires.opens in
    let enters = c.requires.enters in
    let N : ℕ → Type 0 = λ k. IsGraph (nodes_of_procedure k opening p) 0 1 entries (1 + k) (slots_of_procedure k p)
    (procedure_edges k opening entries p) in
    let E : ℕ → Type 0 = λ k. IsGraph c.lower.new.b.next 0 1 entries (1 + k) c.in_ok-slots.slots c.from_vec.result in
    let kept = graph_kept P p opening entries c.requires.sound.2 c.requires.linear c.requires.divides c.in_ok-slots.ensures.literals
    (omega (arith, many, few)) (omega (arith, many, opens)) (omega (arith, many, enters)) in
    subst E (sym c.from.ensures)
    (graph_from c.args.globals opening entries p c.lower.new.b c.in_ok-slots.slots c.from_vec.result c.in_ok-slots.ensures.makes
    c.from_vec.ensures (subst N many kept))
