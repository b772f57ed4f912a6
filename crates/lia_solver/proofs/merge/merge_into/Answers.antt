use Rattle.std.proofs.Common.{arith, sym, subst, to_z, of_z}
use Rattle.std.specs.Int.{w128}
use Rattle.std.proofs.lemmas.Result.{err_from_is_err_and}
use Rattle.linear_formula.specs.steps.Order.{InOrder, AllWithin}
use Rattle.linear_formula.proofs.Exits.{was_wide}
use Rattle.linear_formula.proofs.Fronts.{both_left}
use Rattle.linear_formula.proofs.Merging.{InOrder-drop, AllWithin-drop, Ended, ended_in, ended_items, ended_first, ended_second, rest_in, rest_out, slice_rest, cast_same}
use Rattle.lia_solver.proofs.merge.merge_into.Goals as goal

pub push_multiples-requires-clause-order : goal.push_multiples-requires-clause-order
push_multiples-requires-clause-order c =
    subst (λ l. InOrder 0 l) (sym (slice_rest c.args.left.now c.in_ok-i.i))
    (InOrder-drop c.in_ok-i.i 0 c.args.left.now c.requires.left_order)

pub push_multiples-requires-clause-limits : goal.push_multiples-requires-clause-limits
push_multiples-requires-clause-limits c =
    subst (λ l. AllWithin l) (sym (slice_rest c.args.left.now c.in_ok-i.i))
    (AllWithin-drop c.in_ok-i.i c.args.left.now c.requires.left_limits)

pub push_multiples-requires-2-clause-order : goal.push_multiples-requires-2-clause-order
push_multiples-requires-2-clause-order c =
    subst (λ l. InOrder 0 l) (sym (slice_rest c.args.right.now c.in_ok-i.j))
    (InOrder-drop c.in_ok-i.j 0 c.args.right.now c.requires.right_order)

pub push_multiples-requires-2-clause-limits : goal.push_multiples-requires-2-clause-limits
push_multiples-requires-2-clause-limits c =
    subst (λ l. AllWithin l) (sym (slice_rest c.args.right.now c.in_ok-i.j))
    (AllWithin-drop c.in_ok-i.j c.args.right.now c.requires.right_limits)

pub returns-in_err-push_multiples-clause-wide : goal.returns-in_err-push_multiples-clause-wide
returns-in_err-push_multiples-clause-wide c = λ w h.
    let e : Ended c.args.first c.args.left.now c.args.second c.args.right.now c.push_merged.new.out.items
    (both_left c.args.first c.args.left.now c.args.second c.args.right.now) c.in_ok-i.i c.in_ok-i.j = ended_in c.args.first
    (to_z w128 (of_z w128 c.args.first)) c.args.second (to_z w128 (of_z w128 c.args.second)) c.args.left.now c.args.right.now
    c.clear.new.self.items c.push_merged.new.out.items c.in_ok-i.i c.in_ok-i.j c.in_ok-i.ensures.ended
    (cast_same c.args.first (omega (arith, c.requires.first_limit))) (cast_same c.args.second (omega (arith, c.requires.second_limit)))
    c.clear.ensures.items c.in_ok-i.ensures.items in
    let p = err_from_is_err_and c.from_residual-in_err-push_multiples.result c.from_residual-in_err-push_multiples.ensures.1 in
    let was = was_wide c.push_multiples.result c.from_residual-in_err-push_multiples.result c.in_err-push_multiples.field-0.0 p.0
    c.in_err-push_multiples.was p.1 p.2 w in
    c.push_multiples.ensures.wide was (rest_out c.args.first (to_z w128 (of_z w128 c.args.first)) c.args.left.now
    c.push_merged.new.out.items
    c.in_ok-i.i (cast_same c.args.first (omega (arith, c.requires.first_limit))) (ended_first c.args.first c.args.left.now c.args.second
    c.args.right.now c.push_merged.new.out.items (both_left c.args.first c.args.left.now c.args.second c.args.right.now) c.in_ok-i.i
    c.in_ok-i.j e h))

pub returns-in_err-push_multiples-2-clause-wide : goal.returns-in_err-push_multiples-2-clause-wide
returns-in_err-push_multiples-2-clause-wide c = λ w h.
    let e : Ended c.args.first c.args.left.now c.args.second c.args.right.now c.push_merged.new.out.items
    (both_left c.args.first c.args.left.now c.args.second c.args.right.now) c.in_ok-i.i c.in_ok-i.j = ended_in c.args.first
    (to_z w128 (of_z w128 c.args.first)) c.args.second (to_z w128 (of_z w128 c.args.second)) c.args.left.now c.args.right.now
    c.clear.new.self.items c.push_merged.new.out.items c.in_ok-i.i c.in_ok-i.j c.in_ok-i.ensures.ended
    (cast_same c.args.first (omega (arith, c.requires.first_limit))) (cast_same c.args.second (omega (arith, c.requires.second_limit)))
    c.clear.ensures.items c.in_ok-i.ensures.items in
    let d = rest_in c.args.first (to_z w128 (of_z w128 c.args.first)) c.args.left.now c.push_merged.new.out.items
    c.push_multiples.new.out.items c.in_ok-i.i (cast_same c.args.first (omega (arith, c.requires.first_limit)))
    c.in_ok-push_multiples.ensures.items in
    let p = err_from_is_err_and c.from_residual-in_err-push_multiples-2.result c.from_residual-in_err-push_multiples-2.ensures.1 in
    let was = was_wide c.push_multiples-2.result c.from_residual-in_err-push_multiples-2.result c.in_err-push_multiples-2.field-0.0 p.0
    c.in_err-push_multiples-2.was p.1 p.2 w in
    c.push_multiples-2.ensures.wide was (rest_out c.args.second (to_z w128 (of_z w128 c.args.second)) c.args.right.now
    c.push_multiples.new.out.items c.in_ok-i.j (cast_same c.args.second (omega (arith, c.requires.second_limit)))
    (ended_second c.args.first c.args.left.now c.args.second c.args.right.now c.push_merged.new.out.items c.push_multiples.new.out.items
    (both_left c.args.first c.args.left.now c.args.second c.args.right.now) c.in_ok-i.i c.in_ok-i.j e d h))

pub returns-clause-items : goal.returns-clause-items
returns-clause-items c =
    let e : Ended c.args.first c.args.left.now c.args.second c.args.right.now c.push_merged.new.out.items
    (both_left c.args.first c.args.left.now c.args.second c.args.right.now) c.in_ok-i.i c.in_ok-i.j = ended_in c.args.first
    (to_z w128 (of_z w128 c.args.first)) c.args.second (to_z w128 (of_z w128 c.args.second)) c.args.left.now c.args.right.now
    c.clear.new.self.items c.push_merged.new.out.items c.in_ok-i.i c.in_ok-i.j c.in_ok-i.ensures.ended
    (cast_same c.args.first (omega (arith, c.requires.first_limit))) (cast_same c.args.second (omega (arith, c.requires.second_limit)))
    c.clear.ensures.items c.in_ok-i.ensures.items in
    let d = rest_in c.args.first (to_z w128 (of_z w128 c.args.first)) c.args.left.now c.push_merged.new.out.items
    c.push_multiples.new.out.items c.in_ok-i.i (cast_same c.args.first (omega (arith, c.requires.first_limit)))
    c.in_ok-push_multiples.ensures.items in
    let t = rest_in c.args.second (to_z w128 (of_z w128 c.args.second)) c.args.right.now c.push_multiples.new.out.items
    c.push_multiples-2.new.out.items c.in_ok-i.j (cast_same c.args.second (omega (arith, c.requires.second_limit)))
    c.in_ok-push_multiples-2.ensures.items in
    ended_items c.args.first c.args.left.now c.args.second c.args.right.now c.push_merged.new.out.items c.push_multiples.new.out.items
    c.push_multiples-2.new.out.items (both_left c.args.first c.args.left.now c.args.second c.args.right.now) c.in_ok-i.i c.in_ok-i.j e d t
