use Rattle.std.proofs.Common.{◌≡◌, ◌++◌, ℕ, List, sym, subst, ap, ◌∙◌}
use Rattle.std.specs.Prelude.{unwrap_or, ◌↔◌}
use Rattle.std.specs.BTreeMap.{get}
use Rattle.std.specs.Ordering.{nat_cmp}
use Rattle.linear_formula.specs.declared.formula.Atom.{Atom}
use Rattle.linear_formula.specs.Formula.{HoldsAll, renamed_atoms, renamed_atoms_by}
use Rattle.linear_formula.specs.Results.{renamed_column, renamed_valuation}
use Rattle.linear_formula.proofs.Renamed.{renamed_atoms-same, renamed-holds}
use Rattle.linear_formula.proofs.formula.Cube.rename.Goals as goal

pub returns-clause-law : goal.returns-clause-law
returns-clause-law c = λ v.
    let f : ℕ → ℕ = λ x. unwrap_or (get nat_cmp c.in_ok-columns.columns x) x in
    let e : c.rename_onto.new.out ≡ renamed_atoms c.args.map.now c.args.self.now.atoms = c.in_ok-rename_onto.ensures.items
    ∙ ap (λ l. l ++ renamed_atoms_by f c.as_slice-old.result.now) c.in_ok-atoms.ensures ∙ ap (renamed_atoms_by f)
    c.as_slice-old.ensures.value
    ∙ renamed_atoms-same f (renamed_column c.args.map.now) c.args.self.now.atoms c.in_ok-columns.ensures in
    subst (λ (l : List Atom). HoldsAll v l ↔ HoldsAll (renamed_valuation c.args.map.now v) c.args.self.now.atoms) (sym e)
    (renamed-holds v c.args.map.now c.args.self.now.atoms)
