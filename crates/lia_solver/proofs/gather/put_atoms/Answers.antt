use Rattle.std.proofs.Common.{◌+◌, List, refl, sym, subst}
use Rattle.std.proofs.lemmas.List.{take_all}
use Rattle.linear_formula.specs.steps.Order.{AllWithin}
use Rattle.linear_formula.specs.declared.formula.Atom.{Atom}
use Rattle.linear_formula.proofs.Finishing.{constant_is}
use Rattle.linear_formula.proofs.Limits.{IsTerm-from_test}
use Rattle.infeasible_cert.specs.Right.{rows_of}
use Rattle.lia_solver.specs.declared.table.Origin.TheVariants.{Given}
use Rattle.lia_solver.specs.steps.Gathered.{ArePut}
use Rattle.lia_solver.specs.steps.Numbers.{numbered_from}
use Rattle.lia_solver.proofs.Putting.{put-atoms, put-cast}
use Rattle.lia_solver.proofs.gather.put_atoms.Goals as goal

pub put-requires : goal.put-requires
put-requires c =
    let t = c.index-atoms-place.result.term in
    subst (λ (ps : List _). AllWithin ps) (sym c.parts.ensures.value) (IsTerm-from_test t c.parts.ensures.kept).within.coefficients

pub loop-place-preserved : goal.loop-place-preserved
loop-place-preserved c =
    let atom = c.index-atoms-place.result in
    let cast = constant_is atom.term c.constant.result c.constant.ensures.value c.constant.ensures.kept in
    put-atoms c.args.atoms.now c.args.first c.loop-place.place (c.args.first + c.loop-place.place) atom c.args.table.now
    c.loop-place.table c.put.new.table c.loop-place-test.true c.index-atoms-place.is refl c.loop-place.invariant
    (put-cast atom.term c.parts.result.now _ atom.term.constant (Given (c.args.first + c.loop-place.place)) c.loop-place.table
    c.put.new.table c.parts.ensures.value refl cast c.in_ok-put.ensures) c.parts.ensures.kept

pub returns : goal.returns
returns c =
    subst (λ (as_ : List Atom). ArePut (numbered_from c.args.first (rows_of as_)) c.args.table.now c.loop-place.table)
    (take_all c.loop-place.place c.args.atoms.now c.loop-place-test.false) c.loop-place.invariant
