use Rattle.std.proofs.Common.{◌∙◌, ◌+◌, sym, subst, map, drop, arith}
use Rattle.std.proofs.lemmas.Result.{err_from_is_err_and}
use Rattle.c_tree.specs.SourceView.{identifier_of}
use Rattle.c_parser.specs.steps.Machine.{Titled, Closed, limited}
use Rattle.c_parser.specs.steps.Found.{found_of}
use Rattle.c_parser.specs.steps.Parsing.{text_of, Tells}
use Rattle.c_parser.specs.steps.ParsingItems.{headed, title_of, EndsItem}
use Rattle.c_parser.proofs.Steps.{if_ok, if_err}
use Rattle.c_parser.proofs.StepsItems.{open_turn}
use Rattle.c_parser.proofs.item.titled.Goals as goal

pub returns-in_err-parameters-clause-err : goal.returns-in_err-parameters-clause-err
returns-in_err-parameters-clause-err c =
    let ts = text_of c.args.source.now in
    let h = title_of c.args.title in
    let p = err_from_is_err_and c.from_residual.result c.from_residual.ensures.1 in
    rw (p.1, p.2) (subst (λ o. Tells ts c.in_err-parameters.field-0.0 o)
    (sym (open_turn ts c.args.at (c.args.at + 1) h c.if-not-is_mark.ensures.yes)) (c.in_err-parameters.ensures.err h))

pub returns-clause-ok : goal.returns-clause-ok
returns-clause-ok c =
    let ts = text_of c.args.source.now in
    let h = title_of c.args.title in
    let p = c.in_ok-parameters.ensures.ok in
    let x = headed h (map identifier_of c.in_ok-parameters.parameters.names.items) c.in_ok-parameters.parameters.whole in
    if_ok (λ r. EndsItem ts c.args.start c.in_ok-parameters.next (Closed x) (found_of r.0) r.1)
    (λ r. EndsItem ts c.args.start c.args.at (Titled h) (found_of r.0) r.1) c.closed.result
    (λ r e. record {
      later = omega (arith, p.later, e.later);
      within = e.within;
      bare = e.bare;
      leads = open_turn ts c.args.at (c.args.at + 1) h c.if-not-is_mark.ensures.yes ∙ p.leads h ∙ e.leads;
      whole = e.whole;
    })
    c.closed.ensures.ok

pub returns-clause-err : goal.returns-clause-err
returns-clause-err c =
    let ts = text_of c.args.source.now in
    let h = title_of c.args.title in
    let p = c.in_ok-parameters.ensures.ok in
    let x = headed h (map identifier_of c.in_ok-parameters.parameters.names.items) c.in_ok-parameters.parameters.whole in
    if_err (λ f. Tells ts f (limited (drop c.in_ok-parameters.next ts) (Closed x)))
    (λ f. Tells ts f (limited (drop c.args.at ts) (Titled h))) c.closed.result
    (λ f e. subst (λ o. Tells ts f o) (sym (open_turn ts c.args.at (c.args.at + 1) h c.if-not-is_mark.ensures.yes ∙ p.leads h)) e)
    c.closed.ensures.err
