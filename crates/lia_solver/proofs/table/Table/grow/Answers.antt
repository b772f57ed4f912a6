use Rattle.std.proofs.Common.{◌≡◌, ◌∙◌, List, ℕ, ◌++◌, take, drop, length, arith, sym, subst}
use Rattle.std.proofs.lemmas.List.{take-append-le, take_all}
use Rattle.lia_solver.specs.declared.table.Line.{Line}
use Rattle.lia_solver.specs.steps.Lines.{AreInPool, AreLines, heads_of}
use Rattle.lia_solver.proofs.Chains.{heads-many}
use Rattle.lia_solver.proofs.table.Table.grow.Goals as goal

-- a list that is written back
written : {A : Type 0} (n : ℕ) (xs more : List A) → length xs ≡ n → take n (xs ++ more) ≡ xs
written n xs more e = take-append-le n xs more (omega (arith, e)) ∙ take_all n xs (omega (arith, e))

pub invariant_of-self-2 : goal.invariant_of-self-2
invariant_of-self-2 c =
    let pool = c.self.inside.parts.items in
    let few = c.self.inside.few in
    let lines = c.chain.new.lines in
    let heads = c.chain.new.heads in
    let count : length lines ≡ c.self.inside.lines.len = c.chain.auto.lines ∙ c.deref_mut.ensures.len in
    let size : length heads ≡ c.fill.new.self.len = c.chain.ensures.count ∙ c.deref_mut-2.ensures.len in
    let anew = c.chain.ensures.chained pool (subst (AreInPool pool) (sym c.deref_mut.ensures.value) c.self.invariant.chained.lying) in
    let whole : List ℕ = take c.fill.new.self.len (heads ++ drop (length heads) c.fill.new.self.items) in
    subst (λ (ls : List Line). AreLines pool ls (heads_of few whole))
    (sym (written c.self.inside.lines.len lines (drop (length lines) c.self.inside.lines.items) count))
    (subst (λ (hs : List ℕ). AreLines pool lines (heads_of few hs))
    (sym (written c.fill.new.self.len heads (drop (length heads) c.fill.new.self.items) size))
    (subst (λ (hs : List ℕ). AreLines pool lines hs) (sym (heads-many few heads anew.lines.some)) anew.lines))
