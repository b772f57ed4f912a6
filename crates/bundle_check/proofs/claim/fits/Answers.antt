use Rattle.std.proofs.Common.{ℕ, List, true, refl, ap, ◌∙◌}
use Rattle.linear_formula.specs.declared.formula.Atom.{Atom}
use Rattle.flow_graph.specs.Columns.{rows_name_only}
use Rattle.bundle_check.specs.steps.Names.{is_allowed}
use Rattle.bundle_check.proofs.Fitting.{fits_is}
use Rattle.bundle_check.proofs.claim.fits.Goals as goal

pub returns-then-are_named_by : goal.returns-then-are_named_by
returns-then-are_named_by c =
    let g = c.args.graph.now in
    let q = c.args.query.now in
    let start = is_allowed (record { slots = 0; entries = g.params; exits = 0 }) in
    let atoms = c.as_slice-then-are_named_by.result.now in
    fits_is g q c.as_slice.ensures.terms c.as_slice-then-are_named_by.ensures.terms true c.are_named_by-then-are_named_by.result
    c.are_named_by-then-are_named_by.result (c.if-are_named_by.ensures ∙ ap (rows_name_only start) c.as_slice.ensures.value)
    (c.are_named_by-then-are_named_by.ensures
    ∙ ap (λ (n : ℕ). rows_name_only (is_allowed (record { slots = 0; entries = g.params; exits = n })) atoms) c.exits_named.ensures
    ∙ ap (λ (xs : List Atom). rows_name_only (is_allowed (record {
      slots = 0;
      entries = g.params;
      exits = Rattle.bundle_check.specs.steps.Names.exits_named q.exit g.exits;
    })) xs) c.as_slice-then-are_named_by.ensures.value) refl
