use Rattle.std.proofs.Common.{[], List, ℕ, ℤ, replicate, arith, sym, subst}
use Rattle.lia_solver.specs.declared.table.Line.{Line}
use Rattle.lia_solver.specs.steps.Lines.{AreLines, heads_of}
use Rattle.lia_solver.proofs.Chains.{lines-none}
use Rattle.lia_solver.proofs.table.Table.clear.Goals as goal

pub invariant_of-self : goal.invariant_of-self
invariant_of-self c =
    subst (λ (ps : List (ℕ × ℤ)). AreLines ps c.clear-2.new.self.items (heads_of (replicate 16 0) c.clear-3.new.self.items))
    (sym c.clear.ensures.items)
    (subst (λ (ls : List Line). AreLines [] ls (heads_of (replicate 16 0) c.clear-3.new.self.items)) (sym c.clear-2.ensures.items)
    (subst (λ (hs : List ℕ). AreLines [] [] (heads_of (replicate 16 0) hs)) (sym c.clear-3.ensures.items)
    (lines-none 16 (omega arith) (omega arith))))
