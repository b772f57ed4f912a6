use Rattle.std.proofs.Common.{rules, ◌≡◌, ◌++◌, List, sym, ap, ◌∙◌}
use Rattle.std.specs.Prelude.{flat_map}
use Rattle.std.specs.Cmp.Lexicographic.{pointwise, pointwise_decides}
use Rattle.linear_formula.specs.declared.formula.Atom.{Atom}
use Rattle.linear_formula.specs.declared.formula.Cube.{Cube}
use Rattle.linear_formula.specs.Equality.{same_atoms}
use Rattle.linear_formula.specs.steps.SameValues.{atoms-same, says}
use Rattle.linear_formula.proofs.joined.JoinedCube.is_same.Goals as goal

pub returns-then-eq : goal.returns-then-eq
returns-then-eq c = λ h.
    let x = c.as_slice.result.now in
    let y = c.as_slice-then-eq.result.now in
    let e : c.eq-then-eq.result ≡ pointwise same_atoms x y = search rules in
    let s : x ≡ y = (says c.eq-then-eq.result (pointwise same_atoms x y) e (pointwise_decides atoms-same x y)).0 h in
    let blocks : c.self.inside.blocks ≡ c.other.inside.blocks =
    sym c.as_slice.ensures ∙ ap (flat_map (λ (b : List Atom). b)) s ∙ c.as_slice-then-eq.ensures in
    let own : c.self.inside.own ≡ c.other.inside.own = c.eq.ensures.same.0 c.if-eq.true in
    let cube : List Atom → Cube = λ atoms. record { atoms = atoms } in
    sym c.self.view_is ∙ ap (λ (b : List Atom). cube (b ++ c.self.inside.own)) blocks
    ∙ ap (λ (o : List Atom). cube (c.other.inside.blocks ++ o)) own ∙ c.other.view_is
