use Rattle.std.proofs.Common.{sym, subst, refl, List}
use Rattle.std.specs.Prelude.{IfOk}
use Rattle.std.proofs.lemmas.Result.{IfOk-weaker}
use Rattle.linear_formula.specs.Extremes.{IsOutline}
use Rattle.linear_formula.specs.declared.formula.Atom.{Atom}
use Rattle.flow_graph.specs.declared.graph.Edge.{Edge}
use Rattle.flow_graph.specs.declared.graph.Edge.TheVariants.{Entry}
use Rattle.must_region.specs.Traces.{trace_of}
use Rattle.query_rules.specs.Crossings.{ComesInto, edge_crossing}
use Rattle.punch_step.specs.ByExtremes.{ArrivesAt, IfComes}
use Rattle.punch_step.specs.Frontiers.{trail_at}
use Rattle.punch_step.proofs.Arriving.{comes_by}
use Rattle.punch_step.proofs.Deciding.{entered_is}
use Rattle.punch_step.proofs.by_extremes.comes.Goals as goal

pub returns-in-Entry : goal.returns-in-Entry
returns-in-Entry c =
    let f = c.args.frontier.now in let q = f.query.now in let t = trail_at f in let target = f.target.now.atoms in
    let to = c.in-Entry.to in let params = c.in-Entry.params in
    subst (λ (e : Edge). IfOk c.arrives.result (IfComes (ComesInto q t (edge_crossing e target)))) (sym c.in-Entry.is)
    (IfOk-weaker c.arrives.result (λ a. (all : List Atom) → IsOutline c.args.target.now all → IfComes (ArrivesAt q t all) a)
    (IfComes (ComesInto q t (edge_crossing (Entry to params) target)))
    (λ a h. comes_by q t (edge_crossing (Entry to params) target) refl t (entered_is t to params) refl a (h target c.requires.target))
    c.arrives.ensures)

pub returns-in-Ok : goal.returns-in-Ok
returns-in-Ok c =
    let f = c.args.frontier.now in let q = f.query.now in let t = trail_at f in let target = f.target.now.atoms in
    let over = edge_crossing f.edge.now target in let u = trace_of c.in-Ok.carried in
    IfOk-weaker c.arrives-in-Ok.result (λ a. (all : List Atom) → IsOutline c.args.target.now all → IfComes (ArrivesAt q u all) a)
    (IfComes (ComesInto q t over))
    (λ a h. comes_by q t over refl u c.in-Ok.ensures.trail c.in-Ok.ensures.decided a (h target c.requires.target))
    c.arrives-in-Ok.ensures
