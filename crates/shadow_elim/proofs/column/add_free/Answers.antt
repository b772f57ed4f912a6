use Rattle.std.proofs.Common.{List, [], ◌∷◌, map, arith, subst}
use Rattle.std.proofs.lemmas.List.{map-append}
use Rattle.std.proofs.lemmas.Iterator.Adapters.{YieldsList-from_vec}
use Rattle.std.proofs.lemmas.Iterator.Consumers.{YieldsList-end}
use Rattle.shadow_elim.specs.declared.row.Row.{Row}
use Rattle.shadow_elim.specs.steps.Making.{known}
use Rattle.shadow_elim.specs.steps.Lists.{AreAdded}
use Rattle.shadow_elim.proofs.Holding.{added-none, added-then}
use Rattle.shadow_elim.proofs.Reductions.{yielded-all}
use Rattle.shadow_elim.proofs.column.add_free.Goals as goal

pub loop-row-init : goal.loop-row-init
loop-row-init c = added-none c.args.others.now c.args.lists.now.items

pub loop-row-preserved : goal.loop-row-preserved
loop-row-preserved c = rw (map-append known c.loop-row.yielded (c.in-Some.row ∷ []))
    (added-then c.args.others.now (map known c.loop-row.yielded) (known c.in-Some.row ∷ []) c.args.lists.now.items c.loop-row.lists.items
    c.add_row.new.lists.items c.loop-row.invariant c.in_ok-add_row.ensures)

pub add_row-requires : goal.add_row-requires
add_row-requires c = omega (arith, c.loop-row.invariant.count, c.requires)

pub returns : goal.returns
returns c =
    let e = YieldsList-end (YieldsList-from_vec {s = c.into_iter-row-iterator.result} c.args.rows.items (cc) (cc)) c.loop-row.yielded
    c.loop-row.row-iterator c.loop-row.yielded_by c.next.result c.next.new.self c.in-None.is c.next.ensures.steps in
    subst (λ (rs : List Row). AreAdded c.args.others.now (map known rs) c.args.lists.now.items c.loop-row.lists.items)
    (yielded-all c.loop-row.yielded c.args.rows.items e.0) c.loop-row.invariant
