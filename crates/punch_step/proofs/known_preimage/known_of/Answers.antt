use Rattle.std.proofs.Common.{sym, subst}
use Rattle.linear_formula.specs.declared.formula.Cube.{Cube}
use Rattle.flow_graph.specs.Calls.{CallSite}
use Rattle.summary_form.specs.declared.path.Path.{Path}
use Rattle.punch_step.specs.Memos.{IsComputed}
use Rattle.punch_step.proofs.Alike.{sited_computed}
use Rattle.punch_step.proofs.known_preimage.known_of.Goals as goal

pub invariant_of-result : goal.invariant_of-result
invariant_of-result c =
    let must = c.args.must.now in let x = c.args.computed in
    let s = c.in_ok-subject.subject in let e = c.in_ok-subject.ensures in
    let site : CallSite = record { procedure = s.must.proc; arguments = s.args; results = s.results } in
    let of_site = sited_computed must c.args.site.now site (sym e.arguments) (sym e.results) c.args.target.now.atoms x c.requires in
    let of_target = subst (λ (t : Cube). IsComputed must site t.atoms x) (sym e.target) of_site in
    subst (λ (m : Path). IsComputed m site s.target.atoms x) (sym e.must) of_target
