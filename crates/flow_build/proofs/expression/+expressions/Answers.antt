use Rattle.std.proofs.Common.{◌≡◌, ◌+◌, ◌++◌, ◌||◌, Bool, true, false, IfOk, OnOk, IsTrue, ℕ, ℤ, pos, negsuc, ◌+ℤ◌, ◌-ℤ◌, refl, sym, ap, ◌∙◌, subst, List, [], ◌∷◌, arith}
use Rattle.std.proofs.Common.{take, drop, length, ◌-◌, to_z, of_z}
use Rattle.std.proofs.lemmas.Int.{ints, to_z-of_z}
use Rattle.std.specs.Int.{w64}
use Rattle.c_tree.specs.declared.tree.Expr.{Expr}
use Rattle.flow_graph.specs.declared.graph.Edge.{Edge}
use Rattle.c_tree.proofs.Rows.{call_of}
use Rattle.c_tree.specs.Syntax.{Expression}
use Rattle.c_tree.specs.Syntax as source
use Rattle.c_tree.specs.View.{expression_of, expressions_of}
use Rattle.c_tree.specs.WellFormed.{nodes, nodes_all}
use Rattle.c_tree.specs.declared.tree.Op.{Op}
use Rattle.flow_build.specs.steps.Forms.{Value, Test}
use Rattle.flow_build.specs.steps.Forms as form
use Rattle.flow_graph.specs.declared.graph.Edge.TheVariants.{Assign, Call}
use Rattle.flow_build.specs.declared.operand.Operand.TheVariants.{Variable}
use Rattle.flow_build.specs.steps.Operands.{is_constant_operand, overflows_in_place, constant_of, scaled_lin, constant_lin}
use Rattle.c_tree.specs.Meaning.{is_value}
use Rattle.flow_build.specs.declared.operand.Operand.{Operand}
use Rattle.flow_build.specs.declared.landing.BothSides.{BothSides}
use Rattle.flow_build.specs.steps.Translation.{value_of, values_of, test_of, has_call, have_call, in_slot as in_slot_value, scaled, overflows, overflows_by, nonzero}
use Rattle.flow_build.specs.steps.Translation.{kept_if as kept_value_if}
use Rattle.c_tree.specs.Operators.{is_arithmetic, is_division}
use Rattle.flow_build.proofs.AddingQuotients.{quotient_form_added, remainder_form_added}
use Rattle.flow_build.specs.steps.Layouts.{global_slots}
use Rattle.flow_build.specs.steps.Lowering.{operand_at, slots_of, argument_slots}
use Rattle.flow_build.specs.steps.Building.{copied, copied_node, copied_nodes, copied_operand, literals_fit, is_lowerable}
use Rattle.flow_build.specs.steps.Additions.{binary_test, argument_of, TakesFew, Adds, AddsAll, AddsSlot, AddsBoth, AddsTest}
use Rattle.flow_build.proofs.Measures.{weight, weight_of_all}
use Rattle.flow_build.proofs.Adding.{sum_added, difference_added, kept_added, right_kept, scaled_added, sides_added, truth_added, both_tests_added, either_tests_added, compare_added, nonzero_added, slot_added, arguments_added, call_added, overflow_same}
use Rattle.flow_build.proofs.Answering.{left_true, right_true, if_ok, if_at, on_at, value_is_truth, test_is_compared, test_is_nonzero, other_test, or_false, first_and_rest, operation_fits, negated_fits, literal_of}
use Rattle.flow_build.proofs.expression.+expressions.Goals as goal
use Rattle.flow_build.proofs.expression.+expressions.Goals.{test-in-Binary+else-not-is_arithmetic, test-else-not-is_arithmetic-via-then-not-is_arithmetic+else-not-is_division, test-else-not-is_arithmetic-via-else-not-is_arithmetic, test-in_default, sides-then-has_call, sides-else-has_call, argument-then-later_call, argument-else-later_call}

pub argument-returns-clause-adds : goal.argument-returns-clause-adds
argument-returns-clause-adds t c =
    let v = value_of c.args.layout (expression_of c.args.e.now) in
    let l = c.in_ok-landed.landed in
    let m = c.in_ok-landed-2.landed in
    let k = c.in_ok-landed-2.ensures in
    let keep : c.if-later_call.keep ≡ (c.args.later_call || is_constant_operand (operand_at v c.args.t)) =
    elim c.if-later_call.branch [
      | argument-then-later_call w ↦ w.keep-is ∙ w.if-later_call.true ∙ ap (λ b. b || is_constant_operand (operand_at v c.args.t))
          (sym w.if-later_call.true)
      | argument-else-later_call w ↦
          w.keep-is ∙ w.is_constant-keep.ensures ∙ ap is_constant_operand c.in_ok-landed.ensures.adds.operand
          ∙ ap (λ b. b || is_constant_operand (operand_at v c.args.t)) (sym w.if-later_call.false)
    ] in
    let P : Bool → Type 0 = λ b. Adds (kept_value_if b v) c.args.from c.args.t c.args.b.now c.kept_if.new.b m in
    let added = kept_added c.if-later_call.keep v c.args.from c.args.t c.args.b.now c.value.new.b c.kept_if.new.b l m
    c.in_ok-landed.ensures.adds k.edges k.next k.node k.operand k.slot k.in_place in
    slot_added c.args.later_call v c.args.from c.args.t c.slot.result c.args.b.now c.kept_if.new.b m
    (record { node = m.node; slot = m.slot })
    (subst P keep added) refl refl c.slot.ensures

pub arguments-returns-in_ok-push-in-len1-up-clause-adds :
    goal.arguments-returns-in_ok-push-in-len1-up-clause-adds
arguments-returns-in_ok-push-in-len1-up-clause-adds t c =
    if_ok c.arguments.result (λ l. AddsAll (values_of c.args.layout (expressions_of c.args.es.now)) c.args.from c.args.t c.args.b.now
    c.arguments.new.b l)
    (λ l e.
    let rest = take (length c.args.es.now - 1) (drop 1 c.args.es.now) in
    let first = c.first-item.result in
    let w = c.in_ok-argument-in-len1-up.argument in
    let more = if_at c.arguments.result l (λ x. AddsAll (values_of c.args.layout (expressions_of rest)) w.last.node w.last.slot
    c.argument.new.b
    c.arguments.new.b x) e c.arguments.ensures.adds in
    let P : List Expr → Type 0 = λ es. AddsAll (values_of c.args.layout (expressions_of es)) c.args.from c.args.t c.args.b.now
    c.arguments.new.b l in
    let Q : Bool → Type 0 = λ b. AddsSlot (argument_of b (value_of c.args.layout (expression_of first))) c.args.from c.args.t c.args.b.now
    c.argument.new.b
    w.last w.slot in
    let one = subst Q c.have_call.ensures c.in_ok-argument-in-len1-up.ensures.adds in
    subst P (sym (first_and_rest c.args.es.now first c.in-len1-up.len_at_least c.first-item.is))
    (arguments_added (argument_of (have_call (expressions_of rest)) (value_of c.args.layout (expression_of first)))
    (values_of c.args.layout (expressions_of rest))
    c.args.from c.args.t w.slot c.args.b.now c.argument.new.b c.arguments.new.b w.last l one more))

pub call-returns-clause-adds : goal.call-returns-clause-adds
call-returns-clause-adds t c =
    let L = c.args.layout in
    let vs = values_of L (expressions_of c.args.es.now) in
    let gs = global_slots L in
    let old = c.arguments.new.b in
    let args : c.push_globals.new.slots.items ≡ argument_slots vs (c.args.t + 1) ++ gs =
    c.in_ok-push_globals.ensures ∙ ap (λ l. l ++ gs) (c.in_ok-last.ensures.args ∙ ap (λ l. l ++ argument_slots vs (c.args.t + 1))
    c.new-args.ensures.items) in
    let Edges : ℕ → List ℕ → List ℕ → List Edge = λ to l k. old.edges.items ++ Call c.in_ok-last.last.node to c.args.proc l k ∷ [] in
    let added : c.push.new.self.edges.items ≡ Edges c.args.b.now.next c.push_globals.new.slots.items c.in_ok-results.results =
    c.in_ok-push.ensures.edges ∙ ap (λ to. Edges to c.from_vec.result c.in_ok-results.results) c.node-to.ensures.node
    ∙ ap (λ l. Edges c.args.b.now.next l c.in_ok-results.results) c.from_vec.ensures in
    call_added vs gs c.args.from c.args.t c.args.b.now c.node-to.new.self old
    c.push.new.self
    (record { procedure = c.args.proc; arguments = c.push_globals.new.slots.items; results = c.in_ok-results.results }) c.in_ok-last.last
    c.in_slot.result
    c.node-to.ensures.edges c.node-to.ensures.next c.in_ok-last.ensures.adds args c.in_ok-results.ensures added
    c.push.ensures.next (c.in_slot.ensures.node ∙ c.node-to.ensures.node) c.in_slot.ensures.operand c.in_slot.ensures.slot
    c.in_slot.ensures.in_place

pub condition-returns-in_ok-free-in-And-clause-adds :
    goal.condition-returns-in_ok-free-in-And-clause-adds
condition-returns-in_ok-free-in-And-clause-adds t c =
    let a = expression_of c.args.left.now in
    let b = expression_of c.args.right.now in
    if_ok c.test-in-And.result (λ l. AddsTest (binary_test c.args.layout c.args.op a b) c.args.from c.args.met c.args.unmet c.args.t
    c.args.b.now
    c.test-in-And.new.b l) (λ l e.
    let P : Op → Type 0 = λ op. AddsTest (binary_test c.args.layout op a b) c.args.from c.args.met c.args.unmet c.args.t c.args.b.now
    c.test-in-And.new.b
    l
    in
    subst P (sym c.in-And.is)
    (both_tests_added (test_of c.args.layout a) (test_of c.args.layout b) c.args.from c.args.met c.args.unmet c.args.t c.node-middle.result
    c.in_ok-free-in-And.free l
    c.args.b.now c.node-middle.new.self c.test.new.b c.test-in-And.new.b
    c.node-middle.ensures.edges c.node-middle.ensures.next c.node-middle.ensures.node c.in_ok-free-in-And.ensures.adds
    (if_at c.test-in-And.result l (λ x. AddsTest (test_of c.args.layout b) c.node-middle.result c.args.met c.args.unmet
    c.in_ok-free-in-And.free
    c.test.new.b c.test-in-And.new.b x) e c.test-in-And.ensures.adds)))

pub condition-returns-in_ok-free-in-Or-clause-adds :
    goal.condition-returns-in_ok-free-in-Or-clause-adds
condition-returns-in_ok-free-in-Or-clause-adds t c =
    let a = expression_of c.args.left.now in
    let b = expression_of c.args.right.now in
    if_ok c.test-in-Or-2.result (λ l. AddsTest (binary_test c.args.layout c.args.op a b) c.args.from c.args.met c.args.unmet c.args.t
    c.args.b.now
    c.test-in-Or-2.new.b l) (λ l e.
    let P : Op → Type 0 = λ op. AddsTest (binary_test c.args.layout op a b) c.args.from c.args.met c.args.unmet c.args.t c.args.b.now
    c.test-in-Or-2.new.b
    l in
    subst P (sym c.in-Or.is)
    (either_tests_added (test_of c.args.layout a) (test_of c.args.layout b) c.args.from c.args.met c.args.unmet c.args.t
    c.node-middle-in-Or.result
    c.in_ok-free-in-Or.free l c.args.b.now c.node-middle-in-Or.new.self c.test-in-Or.new.b c.test-in-Or-2.new.b
    c.node-middle-in-Or.ensures.edges c.node-middle-in-Or.ensures.next c.node-middle-in-Or.ensures.node c.in_ok-free-in-Or.ensures.adds
    (if_at c.test-in-Or-2.result l (λ x. AddsTest (test_of c.args.layout b) c.node-middle-in-Or.result c.args.met c.args.unmet
    c.in_ok-free-in-Or.free
    c.test-in-Or.new.b c.test-in-Or-2.new.b x) e c.test-in-Or-2.ensures.adds)))

pub product-returns-clause-adds : goal.product-returns-clause-adds
product-returns-clause-adds t c =
    let v = value_of c.args.layout (expression_of c.args.e.now) in
    let z = to_z w64 (of_z w64 c.args.coefficient) in
    let S : ℤ → Type 0 = λ y. IfOk c.multiple.result (λ l. Adds (scaled y v) c.args.from c.args.t c.args.b.now c.multiple.new.b l) in
    subst S (to_z-of_z w64 c.args.coefficient c.ranges.coefficient)
    (if_ok c.multiple.result (λ l. Adds (scaled z v) c.args.from c.args.t c.args.b.now c.multiple.new.b l) (λ l e.
    let w = c.in_ok-landed.landed in
    let k = overflows_in_place z w.operand in
    let old = c.value.new.b in
    let new = c.multiple.new.b in
    let Last : ℕ → List Edge = λ to. old.edges.items ++ (copied k w old.next ++ Assign (copied_node k w old.next) to c.args.t
    (scaled_lin z (copied_operand k w)) ∷ []) in
    let edges : new.edges.items ≡ Last c.node-to.result = on_at c.multiple.result l (new.edges.items ≡ Last c.node-to.result) e
    c.multiple.ensures.edges in
    let next = on_at c.multiple.result l (new.next ≡ old.next + copied_nodes k w) e c.multiple.ensures.next in
    scaled_added z v c.args.from c.args.t c.args.b.now c.node-to.new.self old new w l c.node-to.ensures.edges c.node-to.ensures.next
    c.in_ok-landed.ensures.adds (edges ∙ ap Last c.node-to.ensures.node) next
    (if_at c.multiple.result l (λ x. x.node ≡ c.node-to.result) e c.multiple.ensures.node ∙ c.node-to.ensures.node)
    (if_at c.multiple.result l (λ x. x.operand ≡ Variable c.args.t) e c.multiple.ensures.operand)
    (if_at c.multiple.result l (λ x. x.slot ≡ w.slot + copied_nodes k w) e c.multiple.ensures.slot)
    (if_at c.multiple.result l (λ x. x.in_place ≡ false) e c.multiple.ensures.in_place)))

pub sides-returns-clause-adds : goal.sides-returns-clause-adds
sides-returns-clause-adds t c =
    let v = value_of c.args.layout (expression_of c.args.left.now) in
    let u = value_of c.args.layout (expression_of c.args.right.now) in
    let call = has_call (expression_of c.args.right.now) in
    let l = c.in_ok-landed.landed in
    let m = c.in_ok-landed-2.landed in
    let k = c.in_ok-landed-2.ensures in
    let keep : c.if-has_call.keep ≡ (call || c.args.overflows) =
    elim c.if-has_call.branch [
      | sides-then-has_call w ↦ w.keep-is ∙ w.if-has_call.true ∙ ap (λ b. b || c.args.overflows)
          (sym (sym c.has_call.ensures ∙ w.if-has_call.true))
      | sides-else-has_call w ↦ w.keep-is ∙ ap (λ b. b || c.args.overflows) (sym (sym c.has_call.ensures ∙ w.if-has_call.false))
    ] in
    let P : Bool → Type 0 = λ b. Adds (kept_value_if b v) c.args.from c.args.t c.args.b.now c.kept_if.new.b m in
    let added = kept_added c.if-has_call.keep v c.args.from c.args.t c.args.b.now c.value.new.b c.kept_if.new.b l m
    c.in_ok-landed.ensures.adds
    k.edges k.next k.node k.operand k.slot k.in_place in
    sides_added (kept_value_if (call || c.args.overflows) v) u c.args.from c.args.t c.args.b.now c.kept_if.new.b c.value-2.new.b m
    c.in_ok-other.other (record { left = m.operand; right = c.in_ok-other.other }) (subst P keep added) c.in_ok-other.ensures.adds refl refl

pub sum-returns-clause-adds : goal.sum-returns-clause-adds
sum-returns-clause-adds t c =
    let v = value_of c.args.layout (expression_of c.args.left.now) in
    let u = value_of c.args.layout (expression_of c.args.right.now) in
    let call = has_call (expression_of c.args.right.now) in
    let s = c.in_ok-sides.sides in
    let P : Bool → Type 0 = λ b. AddsBoth (kept_value_if (call || b) v) u c.args.from (c.args.t + 1) c.node-to.new.self c.sides.new.b s in
    sum_added (kept_value_if (call || overflows (λ x y. x +ℤ y) v u) v) u c.args.from c.args.t c.args.b.now c.node-to.new.self c.sides.new.b
    c.push.new.self s c.in_slot.result
    c.node-to.ensures.edges c.node-to.ensures.next (subst P c.sum_overflows-overflows.ensures c.in_ok-sides.ensures.adds)
    (c.in_ok-push.ensures.edges ∙ ap (λ i. c.sides.new.b.edges.items ++ Assign s.right.node i c.args.t c.in_ok-value.value ∷ [])
    c.node-to.ensures.node
    ∙ ap (λ x. c.sides.new.b.edges.items ++ Assign s.right.node c.args.b.now.next c.args.t x ∷ []) c.in_ok-value.ensures)
    c.push.ensures.next (c.in_slot.ensures.node ∙ c.node-to.ensures.node) c.in_slot.ensures.operand c.in_slot.ensures.slot
    c.in_slot.ensures.in_place

pub test-returns-clause-adds : goal.test-returns-clause-adds
test-returns-clause-adds t c =
    let e = expression_of c.args.e.now in
    let plain : test_of c.args.layout e ≡ nonzero (value_of c.args.layout e) =
    elim c.match-e.branch [
      | test-in-Binary+else-not-is_arithmetic w ↦
          let a = expression_of w.in-Binary.left.value in
          let b = expression_of w.in-Binary.right.value in
          let same = ap expression_of w.in-Binary.is in
          let one = is_arithmetic w.in-Binary.op in
          let other = is_division w.in-Binary.op in
          let number : (one || other) ≡ true =
          elim w.else-not-is_arithmetic.branch [
            | test-else-not-is_arithmetic-via-then-not-is_arithmetic+else-not-is_division u ↦
                right_true one other (sym u.is_division.ensures ∙ u.if-not-is_division.false)
            | test-else-not-is_arithmetic-via-else-not-is_arithmetic u ↦
                left_true one other (sym w.is_arithmetic.ensures ∙ u.if-not-is_arithmetic.false)
          ] in
          ap (test_of c.args.layout) same ∙ test_is_nonzero c.args.layout a b w.in-Binary.op number
          ∙ ap (λ e. nonzero (value_of c.args.layout e)) (sym same)
      | test-in_default w ↦ other_test c.args.layout c.args.e.now w.in_default.not-Not w.in_default.not-Binary
    ] in
    let P : Test → Type 0 = λ d. AddsTest d c.args.from c.args.met c.args.unmet c.args.t c.args.b.now c.compare.new.b c.in_ok-l.l.slot in
    subst P (sym plain)
    (nonzero_added (value_of c.args.layout e) c.args.from c.args.met c.args.unmet c.args.t c.in_ok-l.l.slot c.args.b.now c.value.new.b
    c.compare.new.b
    c.in_ok-l.l c.in_ok-l.ensures.adds c.in_ok-compare.ensures.edges c.compare.ensures.next refl)

-- What the code's tree is, by its parts.

pub value-call-requires : goal.value-call-requires
value-call-requires t c =
    let same : expression_of c.args.e.now ≡ source.call c.in-Call.proc (expressions_of c.deref.result.now) =
    ap expression_of c.in-Call.is ∙ call_of c.in-Call.proc c.in-Call.es ∙ ap (λ l. source.call c.in-Call.proc (expressions_of l))
    (sym c.deref.ensures.value) in
    let P : Expression → Type 0 = λ x. IsTrue (is_lowerable x) in
    let w : weight (expression_of c.args.e.now) ≡ 1 + weight_of_all (expressions_of c.deref.result.now) = ap weight same in
    let n : nodes (expression_of c.args.e.now) ≡ 1 + nodes_all (expressions_of c.deref.result.now) = ap nodes same in (
      omega (arith, w),
      (
        record {
          nodes = let r = c.requires.room.nodes in omega (arith, n, r);
          slots = let r = c.requires.room.slots in
              omega (arith, n, r);
        },
        subst P same c.requires.lowerable,
      ),
    )

pub condition-returns-in_ok-compare-in_default : goal.condition-returns-in_ok-compare-in_default
condition-returns-in_ok-compare-in_default t c =
    let a = expression_of c.args.left.now in
    let b = expression_of c.args.right.now in
    let w = c.in_ok-sides-in_default in
    let P : Test → Type 0 = λ d. AddsTest d c.args.from c.args.met c.args.unmet c.args.t c.args.b.now c.compare.new.b w.sides.right.slot in
    let Q : Bool → Type 0 = λ k. AddsBoth (kept_value_if k (value_of c.args.layout a)) (value_of c.args.layout b) c.args.from c.args.t
    c.args.b.now c.sides.new.b
    w.sides
    in
    let added = compare_added c.args.op (kept_value_if (has_call b) (value_of c.args.layout a)) (value_of c.args.layout b) c.args.from
    c.args.met c.args.unmet c.args.t
    w.sides.right.slot c.args.b.now c.sides.new.b c.compare.new.b w.sides
    (subst Q (or_false (has_call b)) w.ensures.adds) c.in_ok-compare-in_default.ensures.edges c.compare.ensures.next refl in
    record {
      adds = subst P (sym (test_is_compared c.args.layout a b c.args.op c.requires.condition c.requires.undivided c.in_default.not-And
          c.in_default.not-Or)) added;
      few = record { nodes = let n = w.ensures.few.nodes in omega (arith, n, c.compare.ensures.next); slots = w.ensures.few.slots };
      left_literals = w.ensures.left_literals;
      right_literals = w.ensures.right_literals;
    }

pub difference-difference_lin-requires : goal.difference-difference_lin-requires
difference-difference_lin-requires t c =
    let v = value_of c.args.layout (expression_of c.args.left.now) in
    let u = value_of c.args.layout (expression_of c.args.right.now) in
    let call = has_call (expression_of c.args.right.now) in
    let w = c.in_ok-sides in
    let s = w.sides in
    let f : ℤ → ℤ → ℤ = λ x y. x -ℤ y in
    let keep = c.overflows_by-keep.ensures in
    let left : s.left ≡ operand_at (kept_value_if (call || overflows f v u) v) (c.args.t + 1) =
    w.ensures.adds.left ∙ ap (λ b. operand_at (kept_value_if (call || b) v) (c.args.t + 1)) c.difference_overflows-overflows.ensures in
    let right : c.in_ok-right.right.operand ≡ copied_operand (overflows_in_place (negsuc 0) s.right.operand) s.right =
    c.in_ok-right.ensures.operand ∙ ap (λ b. copied_operand b s.right) keep in
    let fits = negated_fits s.right.node s.right.slot s.right.operand s.right.in_place w.ensures.right in
    let first = kept_value_if (call || c.difference_overflows-overflows.result) v in
    let k = c.in_ok-right.ensures in
    let z : BothSides = record { left = s.left; right = c.in_ok-right.right } in
    let both = right_kept c.overflows_by-keep.result first u c.args.from (c.args.t + 1) c.node-to.new.self c.sides.new.b c.kept_if.new.b s z
    c.in_ok-right.right w.ensures.adds k.edges k.next k.node k.operand k.slot k.in_place refl refl in
    let P : Operand → Type 0 = λ a. IsTrue (is_value (pos 0 -ℤ constant_of a)) in
    operation_fits f (λ n. omega (arith, ints)) call v u (c.args.t + 1) s.left c.in_ok-right.right.operand left
    (literal_of c.overflows_by-keep.result u (c.args.t + 1 + slots_of first) c.in_ok-right.right.operand both.right) w.ensures.left
    (subst P (sym right) fits)

pub difference-returns-clause-adds : goal.difference-returns-clause-adds
difference-returns-clause-adds t c =
    let v = value_of c.args.layout (expression_of c.args.left.now) in
    let u = value_of c.args.layout (expression_of c.args.right.now) in
    let call = has_call (expression_of c.args.right.now) in
    let s = c.in_ok-sides.sides in
    let m = c.in_ok-right.right in
    let z : BothSides = record { left = s.left; right = m } in
    let w = kept_value_if (call || overflows (λ x y. x -ℤ y) v u) v in
    let keep : c.overflows_by-keep.result ≡ overflows_by (negsuc 0) u =
    c.overflows_by-keep.ensures ∙ ap (λ a. overflows_in_place (negsuc 0) a) c.in_ok-sides.ensures.adds.right
    ∙ sym (overflow_same (negsuc 0) u (c.args.t + 1 + slots_of (kept_value_if (call || c.difference_overflows-overflows.result) v))) in
    let P : Bool → Type 0 = λ b. AddsBoth (kept_value_if (call || b) v) u c.args.from (c.args.t + 1) c.node-to.new.self c.sides.new.b s in
    let Q : Bool → Type 0 = λ b. AddsBoth w (kept_value_if b u) c.args.from (c.args.t + 1) c.node-to.new.self c.kept_if.new.b z in
    let k = c.in_ok-right.ensures in
    let both = subst Q keep (right_kept c.overflows_by-keep.result w u c.args.from (c.args.t + 1) c.node-to.new.self c.sides.new.b
    c.kept_if.new.b s z m
    (subst P c.difference_overflows-overflows.ensures c.in_ok-sides.ensures.adds) k.edges k.next k.node k.operand k.slot k.in_place refl
    refl)
    in
    difference_added w (kept_value_if (overflows_by (negsuc 0) u) u) c.args.from c.args.t c.args.b.now c.node-to.new.self c.kept_if.new.b
    c.push.new.self z c.in_slot.result
    c.node-to.ensures.edges c.node-to.ensures.next both
    (c.in_ok-push.ensures.edges ∙ ap (λ i. c.kept_if.new.b.edges.items ++ Assign m.node i c.args.t c.in_ok-value.value ∷ [])
    c.node-to.ensures.node
    ∙ ap (λ x. c.kept_if.new.b.edges.items ++ Assign m.node c.args.b.now.next c.args.t x ∷ []) c.in_ok-value.ensures)
    c.push.ensures.next (c.in_slot.ensures.node ∙ c.node-to.ensures.node) c.in_slot.ensures.operand c.in_slot.ensures.slot
    c.in_slot.ensures.in_place

pub value-returns-in-Call-clause-adds : goal.value-returns-in-Call-clause-adds
value-returns-in-Call-clause-adds t c =
    let same : expression_of c.args.e.now ≡ source.call c.in-Call.proc (expressions_of c.deref.result.now) =
    ap expression_of c.in-Call.is ∙ call_of c.in-Call.proc c.in-Call.es ∙ ap (λ l. source.call c.in-Call.proc (expressions_of l))
    (sym c.deref.ensures.value) in
    let P : Expression → Type 0 = λ x. IfOk c.call.result (λ l. Adds (value_of c.args.layout x) c.args.from c.args.t c.args.b.now
    c.call.new.b l)
    in
    subst P (sym same) c.call.ensures.adds

pub value-returns-in-Call-clause-few : goal.value-returns-in-Call-clause-few
value-returns-in-Call-clause-few t c =
    let same : expression_of c.args.e.now ≡ source.call c.in-Call.proc (expressions_of c.deref.result.now) =
    ap expression_of c.in-Call.is ∙ call_of c.in-Call.proc c.in-Call.es ∙ ap (λ l. source.call c.in-Call.proc (expressions_of l))
    (sym c.deref.ensures.value) in
    let P : Expression → Type 0 = λ x. IfOk c.call.result (λ l. TakesFew (nodes x) c.args.t c.args.b.now c.call.new.b l.slot) in
    subst P (sym same) c.call.ensures.few

pub value-returns-in-Call-clause-literals : goal.value-returns-in-Call-clause-literals
value-returns-in-Call-clause-literals t c =
    let same : expression_of c.args.e.now ≡ source.call c.in-Call.proc (expressions_of c.deref.result.now) =
    ap expression_of c.in-Call.is ∙ call_of c.in-Call.proc c.in-Call.es ∙ ap (λ l. source.call c.in-Call.proc (expressions_of l))
    (sym c.deref.ensures.value) in
    let P : Expression → Type 0 = λ x. OnOk c.call.result (IsTrue (literals_fit x)) in
    subst P (sym same) c.call.ensures.literals

pub value-returns-in_ok-free-in-Not-clause-adds : goal.value-returns-in_ok-free-in-Not-clause-adds
value-returns-in_ok-free-in-Not-clause-adds t c =
    let d = test_of c.args.layout (expression_of c.deref-in-Not.result.now) in
    let same : expression_of c.args.e.now ≡ source.not (expression_of c.deref-in-Not.result.now) = ap expression_of c.in-Not.is
    ∙ ap (λ x. source.not (expression_of x)) (sym c.deref-in-Not.ensures) in
    let P : Expression → Type 0 = λ x. IfOk c.settle.result (λ l. Adds (value_of c.args.layout x) c.args.from c.args.t c.args.b.now
    c.settle.new.b l) in
    let truth = c.truth_nodes-truth in
    let inner = c.in_ok-free-in-Not.ensures.adds in
    let Last : ℕ → List Edge = λ to. c.test.new.b.edges.items ++ Assign truth.result.met to c.args.t (constant_lin (pos 1))
    ∷ Assign truth.result.unmet to c.args.t (constant_lin (pos 0)) ∷ [] in
    subst P (sym same)
    (if_ok c.settle.result (λ l. Adds (form.truth (form.opposite d)) c.args.from c.args.t c.args.b.now c.settle.new.b l) (λ l e.
    truth_added (form.opposite d) c.args.from c.args.t truth.result.met truth.result.unmet c.in_ok-free-in-Not.free c.args.b.now truth.new.b
    c.test.new.b c.settle.new.b l
    truth.ensures.edges truth.ensures.next truth.ensures.met truth.ensures.unmet (record { blocks = inner.blocks; slot = inner.slot })
    (on_at c.settle.result l (c.settle.new.b.edges.items ≡ Last truth.result.to) e c.settle.ensures.edges ∙ ap Last truth.ensures.to)
    c.settle.ensures.next
    (if_at c.settle.result l (λ x. x.node ≡ truth.result.to) e c.settle.ensures.node ∙ truth.ensures.to)
    (if_at c.settle.result l (λ x. x.operand ≡ Variable c.args.t) e c.settle.ensures.operand)
    (if_at c.settle.result l (λ x. x.slot ≡ c.in_ok-free-in-Not.free) e c.settle.ensures.slot)
    (if_at c.settle.result l (λ x. x.in_place ≡ false) e c.settle.ensures.in_place)))

pub operation-returns-clause-adds : goal.operation-returns-clause-adds
operation-returns-clause-adds t c =
    let x = expression_of c.args.left.now in
    let y = expression_of c.args.right.now in
    let d = binary_test c.args.layout c.args.op x y in
    let form_is = value_is_truth c.args.layout x y c.args.op (sym c.is_arithmetic.ensures ∙ c.if-is_arithmetic.false)
    (sym c.is_division.ensures ∙ c.if-is_division.false) in
    let P : Value → Type 0 = λ v. IfOk c.settle.result (λ l. Adds v c.args.from c.args.t c.args.b.now c.settle.new.b l) in
    let truth = c.truth_nodes-truth in
    let settle = c.settle in
    let Last : ℕ → List Edge = λ to. c.condition.new.b.edges.items ++ Assign truth.result.met to c.args.t (constant_lin (pos 1))
    ∷ Assign truth.result.unmet to c.args.t (constant_lin (pos 0)) ∷ [] in
    subst P (sym form_is)
    (if_ok settle.result (λ l. Adds (form.truth d) c.args.from c.args.t c.args.b.now settle.new.b l) (λ l e.
    truth_added d c.args.from c.args.t truth.result.met truth.result.unmet c.in_ok-free.free c.args.b.now truth.new.b
    c.condition.new.b settle.new.b l
    truth.ensures.edges truth.ensures.next truth.ensures.met truth.ensures.unmet c.in_ok-free.ensures.adds
    (on_at settle.result l (settle.new.b.edges.items ≡ Last truth.result.to) e settle.ensures.edges ∙ ap Last truth.ensures.to)
    settle.ensures.next
    (if_at settle.result l (λ x. x.node ≡ truth.result.to) e settle.ensures.node ∙ truth.ensures.to)
    (if_at settle.result l (λ x. x.operand ≡ Variable c.args.t) e settle.ensures.operand)
    (if_at settle.result l (λ x. x.slot ≡ c.in_ok-free.free) e settle.ensures.slot)
    (if_at settle.result l (λ x. x.in_place ≡ false) e settle.ensures.in_place)))

pub quotient-returns-clause-adds : goal.quotient-returns-clause-adds
quotient-returns-clause-adds t c =
    let v = in_slot_value (value_of c.args.layout (expression_of c.args.e.now)) in
    let z = to_z w64 (of_z w64 c.args.divisor) in
    let w = c.in_ok-dividend.dividend in
    let S : ℤ → Type 0 = λ y. Adds (form.quotient y v) c.args.from c.args.t c.args.b.now c.push_quotient.new.b c.in_slot.result in
    subst S (to_z-of_z w64 c.args.divisor c.ranges.divisor)
    (quotient_form_added z v c.args.from c.args.t w.slot c.node-to.result c.args.b.now c.node-to.new.self c.argument.new.b
    c.push_quotient.new.b w.last c.in_slot.result c.node-to.ensures.edges c.node-to.ensures.next c.in_ok-dividend.ensures.adds
    c.in_ok-push_quotient.ensures.adds c.node-to.ensures.node c.in_slot.ensures.node c.in_slot.ensures.operand c.in_slot.ensures.slot
    c.in_slot.ensures.in_place)

pub remainder-returns-clause-adds : goal.remainder-returns-clause-adds
remainder-returns-clause-adds t c =
    let v = in_slot_value (value_of c.args.layout (expression_of c.args.e.now)) in
    let z = to_z w64 (of_z w64 c.args.divisor) in
    let w = c.in_ok-dividend.dividend in
    let old = c.push_quotient.new.b in
    let S : ℤ → Type 0 = λ y. Adds (form.remainder y v) c.args.from c.args.t c.args.b.now c.push.new.self c.in_slot.result in
    let n0 = c.node-to.ensures.next in
    let n1 = c.node-divided.ensures.next in
    subst S (to_z-of_z w64 c.args.divisor c.ranges.divisor)
    (remainder_form_added z v c.args.from c.args.t w.slot c.node-to.result c.node-divided.result c.args.b.now c.node-divided.new.self
    c.argument.new.b old c.push.new.self w.last c.in_slot.result (c.node-divided.ensures.edges ∙ c.node-to.ensures.edges)
    (omega (arith, n0, n1)) c.in_ok-dividend.ensures.adds c.in_ok-push_quotient.ensures.adds c.node-to.ensures.node
    (c.node-divided.ensures.node ∙ n0)
    (c.in_ok-push.ensures.edges
    ∙ ap (λ x. old.edges.items ++ Assign c.node-divided.result c.node-to.result c.args.t x ∷ []) c.in_ok-value.ensures)
    c.push.ensures.next c.in_slot.ensures.node c.in_slot.ensures.operand c.in_slot.ensures.slot c.in_slot.ensures.in_place)
