use Rattle.std.proofs.Common.{◌≡◌, ℕ, zero, suc, ◌+◌, [], ◌∷◌, ◌++◌, sym, ap, ◌∙◌, append_assoc, arith}
use Rattle.flow_build.specs.steps.Layouts.{slots_from}
use Rattle.flow_build.proofs.layout.push_globals.Goals as goal

one_more : (x n : ℕ) → slots_from x (suc n) ≡ slots_from x n ++ (x + n) ∷ []
one_more x zero = let same : x ≡ x + zero = omega arith in ap (λ y. y ∷ []) same
one_more x (suc n) =
    let same : suc x + n ≡ x + suc n = omega arith in
    ap (λ l. x ∷ l) (one_more (suc x) n ∙ ap (λ y. slots_from (suc x) n ++ y ∷ []) same)

pub loop-number-preserved : goal.loop-number-preserved
loop-number-preserved c =
    let x = c.args.layout.params in
    let n = c.loop-number.number in
    let next : suc n ≡ n + 1 = omega arith in
    c.in_ok-push.ensures.items ∙ ap (λ y. c.loop-number.slots.items ++ y ∷ []) c.global.ensures
    ∙ ap (λ l. l ++ (x + n) ∷ []) c.loop-number.invariant
    ∙ append_assoc c.args.slots.now.items (slots_from x n) ((x + n) ∷ [])
    ∙ ap (λ l. c.args.slots.now.items ++ l) (sym (one_more x n) ∙ ap (slots_from x) next)
