use Rattle.std.proofs.Common.{◌≡◌, length, arith}
use Rattle.c_typing.proofs.Programmed.{places_item}
use Rattle.c_typing.proofs.lower.program.item.Goals as goal

pub returns-in_ok-push-in-Proc-clause-places : goal.returns-in_ok-push-in-Proc-clause-places
returns-in_ok-push-in-Proc-clause-places c =
    let count : c.len.result ≡ length c.args.procedures.now.items = omega (arith, c.len.ensures, c.args.procedures.now.ok.0) in
    places_item c.args.tree.now c.in-Proc.tree c.args.asserts.now c.args.before.now.asserts c.procedure.new.id c.len.result
    (length c.args.procedures.now.items) c.args.places.now.items c.place.new.places.items c.in-Proc.is count c.in_ok-made-in-Proc.ensures.id
    c.requires.own c.in_ok-place-in-Proc.ensures
