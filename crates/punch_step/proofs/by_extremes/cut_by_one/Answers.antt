use Rattle.std.proofs.Common.{◌≡◌, ◌∙◌, ◌++◌, ◌∷◌, [], sym, ap, subst, List, Option, Some, slice_get, IfSome}
use Rattle.std.proofs.lemmas.Option.{slice_get-get_or}
use Rattle.linear_formula.specs.declared.formula.Atom.{Atom}
use Rattle.summary_form.specs.declared.query.Query.{Query}
use Rattle.must_region.specs.Traces.{Trace}
use Rattle.query_rules.specs.Rows.{IsRefutedBy, seen_at}
use Rattle.punch_step.specs.ByExtremes.{Sees}
use Rattle.punch_step.specs.Frontiers.{trail_at}
use Rattle.punch_step.specs.declared.cut.Cut.{Cut}
use Rattle.punch_step.proofs.CutOff.{cut_by_numbered}
use Rattle.punch_step.proofs.by_extremes.cut_by_one.Goals as goal

pub returns-in-Some : goal.returns-in-Some
returns-in-Some c = λ whole outline.
    let f = c.args.frontier.now in let q = f.query.now in let t = trail_at f in let source = f.source.now.atoms in
    let i = c.loop-atom.atom-index in let items = c.as_slice-atom-items.result.now in let a : Atom = c.atom-item.result in
    let listed : slice_get items i ≡ Some a = slice_get-get_or items i a c.loop-atom-test.true
    ∙ ap (λ (x : Atom). Some x) (sym c.atom-item.is) in
    let there : slice_get c.args.pre.now.cube.atoms i ≡ Some a =
    subst (λ (xs : List Atom). slice_get xs i ≡ Some a) c.as_slice-atom-items.ensures.value listed in
    let cut = subst (λ (o : Option Cut). IfSome o (λ x. (x.atoms.atoms ≡ a ∷ []) × ((q : Query) (t : Trace) (source : List Atom) →
    Sees q t source c.args.seen.now → IsRefutedBy (seen_at q t (source ++ a ∷ [])) x.proof))) c.in-Some.is c.in_ok-cut.ensures in
    cut_by_numbered q t source whole c.args.pre.now i a c.in-Some.cut outline there cut.0 (cut.1 q t source c.requires.seen)
