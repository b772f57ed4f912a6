use Rattle.std.proofs.Common.{◌≡◌, ◌∙◌, ◌++◌, ◌∷◌, [], ap, subst, List, Option, IfSome}
use Rattle.linear_formula.specs.declared.formula.Atom.{Atom}
use Rattle.infeasible_cert.specs.declared.certificate.Certificate.{Certificate}
use Rattle.summary_form.specs.declared.query.Query.{Query}
use Rattle.must_region.specs.Traces.{Trace}
use Rattle.query_rules.specs.Rows.{IsRefutedBy, seen_at}
use Rattle.punch_step.specs.ByExtremes.{Sees}
use Rattle.punch_step.proofs.by_extremes.cut_by.Goals as goal

pub returns-in-Some : goal.returns-in-Some
returns-in-Some c =
    let made : c.push.new.self ≡ c.args.atom.now ∷ [] = c.in_ok-push.ensures
    ∙ (ap (λ (xs : List Atom). xs ++ c.in_ok-copy.field-0 ∷ []) c.in_ok-atoms.ensures
    ∙ ap (λ (x : Atom). x ∷ []) c.in_ok-copy.ensures) in
    let refuted = subst (λ (o : Option Certificate). IfSome o (λ p. (q : Query) (t : Trace) (source : List Atom) (a : Atom) →
    c.push.new.self ≡ a ∷ [] → Sees q t source c.args.seen.now → IsRefutedBy (seen_at q t (source ++ a ∷ [])) p)) c.in-Some.is
    c.in_ok-proof.ensures in
    (made, λ q t source sees. refuted q t source c.args.atom.now made sees)
