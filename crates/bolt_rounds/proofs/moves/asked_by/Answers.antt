use Rattle.std.proofs.Common.{◌≡◌, map, sym, ap, ◌∙◌, subst}
use Rattle.std.specs.Prelude.{slice_get}
use Rattle.summary_form.specs.Instances.{arity_in}
use Rattle.summary_form.specs.NotMays.{Fits}
use Rattle.summary_form.specs.declared.query.Query.{Query}
use Rattle.query_rules.specs.declared.step.Asked.{Asked}
use Rattle.bolt_rounds.proofs.Moving.{begins_asked, last_there}
use Rattle.bolt_rounds.proofs.moves.asked_by.Goals as goal

pub begin_state-requires-clause-procedure : goal.begin_state-requires-clause-procedure
begin_state-requires-clause-procedure c =
    let h = c.requires in
    let last = last_there c.asked-asked.result.now c.args.state.now.asked c.index-asked-asked.result h.entry c.asked-asked.ensures h.there
    in
    let own : c.in_ok-own.own.value ≡ h.entry.query =
    c.in_ok-own.ensures.cases ∙ (c.in_ok-query.ensures.ok ∙ (c.in_ok-copy.ensures ∙ ap (λ (a : Asked). a.query) last)) in
    (h.callee, ap (λ (q : Query). slice_get c.args.graphs.now.graphs q.proc) own ∙ h.at)

pub begin_state-requires-clause-fits : goal.begin_state-requires-clause-fits
begin_state-requires-clause-fits c =
    let h = c.requires in
    let last = last_there c.asked-asked.result.now c.args.state.now.asked c.index-asked-asked.result h.entry c.asked-asked.ensures h.there
    in
    let own : c.in_ok-own.own.value ≡ h.entry.query =
    c.in_ok-own.ensures.cases ∙ (c.in_ok-query.ensures.ok ∙ (c.in_ok-copy.ensures ∙ ap (λ (a : Asked). a.query) last)) in
    subst (λ (q : Query). Fits q.proc (arity_in c.args.graphs.now.graphs q.proc) q) (sym own) h.fits

pub returns : goal.returns
returns c =
    let h = c.requires in
    let last = last_there c.asked-asked.result.now c.args.state.now.asked c.index-asked-asked.result h.entry c.asked-asked.ensures h.there
    in
    let own : c.in_ok-own.own.value ≡ h.entry.query =
    c.in_ok-own.ensures.cases ∙ (c.in_ok-query.ensures.ok ∙ (c.in_ok-copy.ensures ∙ ap (λ (a : Asked). a.query) last)) in
    begins_asked c.args.graphs.now.graphs c.args.state.now c.in_ok-child.child c.in_ok-query.query.value c.in_ok-own.own.value
    (map (λ a. a.value) c.in_ok-above.above.items) h (sym c.in_ok-own.ensures.cases) own c.in_ok-above.ensures
    c.in_ok-child.ensures.shows c.in_ok-child.ensures.state
