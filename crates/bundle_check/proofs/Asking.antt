-- A call asks the query that its check finds, or none.
use Rattle.std.proofs.Common.{◌≡◌, ℕ, List, Option, Some, true, refl, sym, ap, ◌∙◌}
use Rattle.linear_formula.specs.LinearSum.{LinearSum}
use Rattle.linear_formula.specs.declared.formula.Atom.{Atom}
use Rattle.shadow_elim.specs.Projection.{gives, refuses}
use Rattle.shadow_elim.specs.Shadows.{pair_rows}
use Rattle.flow_graph.specs.Calls.{call_site, call_edge}
use Rattle.flow_graph.specs.declared.graph.Graph.{Graph}
use Rattle.flow_graph.specs.declared.graph.Edge.{Edge}
use Rattle.flow_graph.specs.declared.graph.Edge.TheVariants.{Entry, Assign, Guard, Input, Pick, Call, Assert, Return}
use Rattle.flow_graph.specs.Shapes.{is_call}
use Rattle.summary_form.specs.declared.query.ExitKind.{ExitKind}
use Rattle.may_partition.specs.declared.region.Region.{Region}
use Rattle.may_partition.specs.declared.region.RegionEdge.{RegionEdge}
use Rattle.may_partition.specs.Shown.{Shown}
use Rattle.call_bridge.specs.Asked.{asked}
use Rattle.call_bridge.specs.Asking.{IsAsking}
use Rattle.call_bridge.specs.declared.asking.Asking.{Asking}
use Rattle.query_rules.specs.Rows.{call_exit}
use Rattle.bundle_check.specs.steps.Places.{Asks, AsksNone, IsPlace}
use Rattle.bundle_check.proofs.Deciding.{between, same_edge_of, same_source, same_target}

record IsACall (e : Edge) : Type 0 where
  pub from : ℕ
  pub to : ℕ
  pub same : e ≡ call_edge from to (call_site e)

a_call : (e : Edge) → is_call e ≡ true → IsACall e
a_call (Entry to params) c = absurd cc
a_call (Assign from to slot value) c = absurd cc
a_call (Guard from to rows) c = absurd cc
a_call (Input from to slot) c = absurd cc
a_call (Pick from to slot rows) c = absurd cc
a_call (Call from to proc args results) c = record { from = from; to = to; same = refl }
a_call (Assert from to id rows) c = absurd cc
a_call (Return from to slots) c = absurd cc

module _ (g : Graph) (exit : ExitKind) (s : Shown) (k : RegionEdge) (edge : Edge) (source target : Region)
    (at : IsPlace g s k edge source target) (kind : ExitKind) (is_kind : call_exit g.fail exit target.node ≡ Some kind) where
  pub asks_one : is_call edge ≡ true → (a : Asking) → IsAsking kind edge source.cube.atoms target.cube.atoms a → Asks g exit s k a.query
  asks_one call a is p sh =
      let c = a_call edge call in (
        record {
          between = between g s k p sh edge source target at;
          from = c.from;
          to = c.to;
          site = call_site edge;
          is_call = c.same;
          kind = kind;
          is_kind = is_kind;
          rows = is.rows;
          pair = pair_rows a.inexact;
          is_asked = is.are_asked;
        },
        sym is.query,
      )

  pub none_limited : (kept : _) → asked kind (call_site edge) source.cube.atoms target.cube.atoms ≡ refuses kept →
      AsksNone g exit s k
  none_limited kept is p sh h =
      let e = same_edge_of g s k p sh edge source target at h.between in
      let f = same_source g s k p sh edge source target at h.between in
      let t = same_target g s k p sh edge source target at h.between in
      let same : h.kind ≡ kind = same_kind (sym h.is_kind ∙ (ap (λ (r : Region). call_exit g.fail exit r.node) t ∙ is_kind)) in
      let call : edge ≡ call_edge h.from h.to h.site = sym e ∙ h.is_call in
      apart (sym h.is_asked ∙ ((λ i. asked (same i) (sym (ap call_site call) i) (f i).cube.atoms
      (t i).cube.atoms) ∙ is))
    where
      same_kind : {a b : ExitKind} → Some a ≡ Some b → a ≡ b
      same_kind e = cc

      apart : {rows : List Atom} {pair : Option (ℕ × (LinearSum × LinearSum))} → gives rows pair ≡ refuses kept → ⊥
      apart e = cc
