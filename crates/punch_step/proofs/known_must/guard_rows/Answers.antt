use Rattle.std.proofs.Common.{◌≡◌, ◌++◌, List, sym, ap, subst, ◌∙◌}
use Rattle.std.proofs.lemmas.Result.{IfOk-weaker}
use Rattle.linear_formula.specs.Extremes.{AreExtremes, AreOuter}
use Rattle.linear_formula.specs.Formula.{renamed_atoms_by}
use Rattle.linear_formula.specs.declared.formula.Atom.{Atom}
use Rattle.linear_formula.specs.declared.formula.Cube.{Cube}
use Rattle.must_region.specs.Rules.{shifted}
use Rattle.punch_step.proofs.KnownMusts.{renamed-extremes}
use Rattle.punch_step.proofs.known_must.guard_rows.Goals as goal

pub returns : goal.returns
returns c =
    let f = shifted c.args.before in
    let all = c.args.must.now.guard.atoms in
    let e = c.in_ok-outer.outer in
    let extremes : AreExtremes e.numbers.items e.cube.atoms all =
    subst (λ (rows : List Atom). AreExtremes e.numbers.items e.cube.atoms rows) c.as_slice.ensures.value c.in_ok-outer.ensures.extremes in
    let rows : c.of.result.atoms ≡ renamed_atoms_by f e.cube.atoms =
    ap (λ (x : Cube). x.atoms) c.of.ensures ∙ (c.in_ok-push_shifted_atoms.ensures
    ∙ (ap (λ (l : List Atom). l ++ renamed_atoms_by f c.as_slice-2.result.now) c.new-atoms.ensures
    ∙ ap (renamed_atoms_by f) c.as_slice-2.ensures.value)) in
    let outer : AreOuter c.of.result.atoms (renamed_atoms_by f all) = record {
      numbers = e.numbers.items;
      extremes = subst (λ (l : List Atom). AreExtremes e.numbers.items l (renamed_atoms_by f all)) (sym rows)
          (renamed-extremes f e.numbers.items e.cube.atoms all extremes);
    } in
    IfOk-weaker c.closed.result (λ g. g ≡ c.of.result) (λ g. AreOuter g.atoms (renamed_atoms_by f all))
    (λ g same. subst (λ (x : Cube). AreOuter x.atoms (renamed_atoms_by f all)) (sym same) outer) c.closed.ensures
