use Rattle.std.proofs.Common.{◌≡◌, ◌-◌, ◌++◌, List, [], length, min, map, take, drop, ap, ◌∙◌}
use Rattle.linear_formula.specs.declared.formula.Atom.{Atom}
use Rattle.infeasible_cert.specs.Refutation.{refutation_of}
use Rattle.bundle_check.specs.Walked.{kept}
use Rattle.bundle_make.proofs.Keeping.{kept_both}
use Rattle.bundle_make.proofs.kept.kept_of.Goals as goal

pub returns : goal.returns
returns c =
    let rows : List Atom = c.args.asked.now.start.atoms ++ c.args.asked.now.end.atoms in
    let first = c.args.claimed.now.start.atoms in
    let rest = c.args.claimed.now.end.atoms in
    let cs = c.args.proof.now in
    let used = c.min-used.result in
    let out = c.keep_onto.new.out.items in
    let none : map refutation_of c.new-out.result.items ≡ [] = ap (map refutation_of) c.new-out.ensures.items in
    ap (map refutation_of) c.from_vec.ensures
    ∙ kept_both rows first rest cs used (map refutation_of out) (map refutation_of c.keep_onto-2.new.out.items)
    (c.min-used.ensures ∙ ap (λ (xs : List Atom). min (length xs) (length cs)) c.as_slice-start.ensures.value)
    (c.in_ok-keep_onto.ensures ∙ (λ i. none i ++ kept rows (c.as_slice-start.ensures.value i) cs))
    (c.in_ok-keep_onto-2.ensures
    ∙ ap (λ (xs : List Atom). map refutation_of out ++ kept rows xs (take (length cs - used) (drop used cs))) c.as_slice-end.ensures.value)
