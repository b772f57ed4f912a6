use Rattle.std.proofs.Common.{List, arith, length, sym, subst, ap, ◌∙◌}
use Rattle.std.specs.List.{list_all}
use Rattle.linear_formula.specs.declared.formula.Atom.{Atom}
use Rattle.bundle_check.specs.RightClaims.{is_among}
use Rattle.bundle_check.specs.steps.Places.{IfPreimage}
use Rattle.bundle_check.proofs.Deciding.{no_split_refused, split_decided}
use Rattle.bundle_check.proofs.splits.splits_by_preimage.Goals as goal

pub returns-in-Some-2 : goal.returns-in-Some-2
returns-in-Some-2 c =
    let place = c.in-Some.place in
    split_decided c.args.graph.now c.args.partition.now c.args.edge.now c.args.atoms.now place.over.now place.source.now place.target.now
    c.in-Some.ensures.found (sym c.if-not-live.ensures) c.if-edge-eq0.false (λ e. grind (arith, c.if-is_empty.ensures, ap length e))
    c.in-Some-2.before
    (subst (IfPreimage place.over.now place.target.now.cube.atoms) c.in-Some-2.is c.in_ok-before.ensures) c.are_among.result
    (c.are_among.ensures ∙ ap (λ (rows : List Atom). list_all (is_among rows) c.args.atoms.now) c.as_slice.ensures.value)

pub returns-in-None : goal.returns-in-None
returns-in-None c =
    let place = c.in-Some.place in
    no_split_refused c.args.graph.now c.args.partition.now c.args.edge.now c.args.atoms.now place.over.now place.source.now
    place.target.now c.in-Some.ensures.found
    (subst (IfPreimage place.over.now place.target.now.cube.atoms) c.in-None.is c.in_ok-before.ensures)
