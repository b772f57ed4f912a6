use Rattle.std.proofs.Common.{◌≡◌, ◌∙◌, List, Some, ap, sym, subst}
use Rattle.std.specs.Arc.{arc_value}
use Rattle.std.specs.Prelude.{slice_get}
use Rattle.linear_formula.specs.declared.formula.Cube.{Cube}
use Rattle.flow_graph.specs.Calls.{call_site}
use Rattle.summary_form.specs.declared.summary.Summary.{Summary}
use Rattle.query_rules.specs.Rows.{IsMustPreimage}
use Rattle.punch_step.specs.CallFrontiers.{table_at}
use Rattle.punch_step.specs.Memos.{IsPreimage}
use Rattle.punch_step.proofs.CallConfirmed.{preimage_here}
use Rattle.punch_step.proofs.Held.{value_at}
use Rattle.punch_step.proofs.call_split.preimage.Goals as goal

pub returns-in_ok-copy-in-Rows : goal.returns-in_ok-copy-in-Rows
returns-in_ok-copy-in-Rows c =
    let f = c.args.frontier.now in let must = c.in-Must.must in let s = c.deref.result.now in let e = c.in-Some.ensures.lookup in
    let there : slice_get (table_at f) c.args.place ≡ Some s =
    subst (λ (ts : List Summary). slice_get ts c.args.place ≡ Some s) c.all.ensures
    (value_at arc_value c.all.result.now c.args.place c.in-Some.summary.now e.3.0 e.1 ∙ ap Some (sym c.deref.ensures)) in
    let of = c.is_of.ensures.0 c.if-not-is_of.false in
    preimage_here f c.args.place s must c.in_ok-copy-in-Rows.field-0.atoms there c.in-Must.is of.0 of.1 c.names_numbers.ensures
    (subst (λ (x : Cube). IsMustPreimage must (call_site f.calling.call.now) f.calling.target.now.atoms x.atoms)
    (sym c.in_ok-copy-in-Rows.ensures)
    (subst (IsPreimage must f.calling.call.now f.calling.target.now.atoms) c.in-Rows.is c.in_ok-pre.ensures))
