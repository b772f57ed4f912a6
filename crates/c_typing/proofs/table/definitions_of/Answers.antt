use Rattle.std.proofs.Common.{ap, ◌∙◌, arith, rules, bytes_eq}
use Rattle.std.proofs.Math.ListN.{drop_of_length-le}
use Rattle.std.specs.Map.{lookup}
use Rattle.c_typing.specs.Scope.{defined_from}
use Rattle.c_typing.specs.steps.Meanings.{found_in}
use Rattle.c_typing.specs.steps.Tables.{procedures_in}
use Rattle.c_typing.proofs.Defined.{found_or, found_end, proc_turn, plain_turn}
use Rattle.c_typing.proofs.table.definitions_of.Goals.{in-Proc+in_ok-add, in_default}
use Rattle.c_typing.proofs.table.definitions_of.Goals as goal

pub loop-item-init : goal.loop-item-init
loop-item-init c = record {
  few = omega arith;
  rest = λ x. ap (λ es. found_or (lookup (λ k. bytes_eq x k.now) es) (defined_from 0 (procedures_in c.args.items.now) x))
      c.with_hasher-definitions.ensures.empty;
}

pub loop-item-preserved : goal.loop-item-preserved
loop-item-preserved c =
    let old = c.loop-item in
    elim c.match-item.branch [
      | in-Proc+in_ok-add w ↦ record {
        few = let few = old.invariant.few in let next = w.number-is in omega arith;
        rest = λ x. proc_turn c.args.items.now old.item-index c.item-item.result w.in-Proc.procedure old.number c.match-item.number
            (found_in old.definitions x) (found_in c.match-item.definitions x) x _ c.loop-item-test.true c.item-item.is w.in-Proc.is
            w.number-is
            (ap (λ m. found_in m x) w.definitions-is ∙ w.in_ok-add.ensures x) (old.invariant.rest x);
      }
      | in_default w ↦ record {
        few = let few = old.invariant.few in let next = w.number-is in omega arith;
        rest = λ x. plain_turn c.args.items.now old.item-index c.item-item.result old.number c.match-item.number
            (found_in old.definitions x)
            (found_in c.match-item.definitions x) x _ c.loop-item-test.true c.item-item.is w.in_default.not-Proc w.number-is
            (ap (λ m. found_in m x) w.definitions-is) (old.invariant.rest x);
      }
    ]

pub overflow_add-number : goal.overflow_add-number
overflow_add-number c = let few = c.loop-item.invariant.few in search (rules, few)

pub returns : goal.returns
returns c = λ x. found_end (found_in c.loop-item.definitions x) x c.loop-item.number c.args.items.now c.loop-item.item-index _
    (drop_of_length-le c.args.items.now (omega arith)) (c.loop-item.invariant.rest x)
