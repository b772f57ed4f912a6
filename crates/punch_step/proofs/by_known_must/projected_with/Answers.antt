use Rattle.std.proofs.Common.{◌≡◌, ◌∷◌, [], List, length, arith, nat_lt, sym, ap, subst, ◌∙◌}
use Rattle.std.specs.Prelude.{IsTrue}
use Rattle.linear_formula.specs.declared.formula.Atom.{Atom}
use Rattle.flow_graph.specs.Columns.{first_symbol, rows_name_only}
use Rattle.shadow_elim.specs.Projection.{gives, projected}
use Rattle.shadow_elim.specs.Shadows.{pair_rows}
use Rattle.punch_step.proofs.by_known_must.projected_with.Goals as goal

pub returns-in-Ok : goal.returns-in-Ok
returns-in-Ok c = record {
  few = omega (arith, c.if-rows-own.false, ap (λ (l : List Atom). length l) c.as_slice-rows.ensures.value);
  names = subst (λ (l : List Atom). IsTrue (rows_name_only (λ x. nat_lt x first_symbol) l)) c.as_slice-rows.ensures.value
      (sym c.name_no_symbol.ensures ∙ c.if-not-name_no_symbol.false);
  pair = pair_rows c.in-Ok.pre.inexact;
  given = subst (λ (l : List Atom). projected (c.args.own.now.last ∷ []) l ≡ gives c.in-Ok.pre.cube.atoms
      (pair_rows c.in-Ok.pre.inexact)) c.in_ok-all.ensures c.in-Ok.ensures.rows;
}
