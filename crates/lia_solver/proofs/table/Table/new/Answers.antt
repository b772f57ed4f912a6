use Rattle.std.proofs.Common.{[], List, ℕ, ℤ, replicate, arith, sym, subst}
use Rattle.lia_solver.specs.declared.table.Line.{Line}
use Rattle.lia_solver.specs.steps.Lines.{AreLines, heads_of}
use Rattle.lia_solver.proofs.Chains.{lines-none}
use Rattle.lia_solver.proofs.table.Table.new.Goals as goal

pub invariant_of-result : goal.invariant_of-result
invariant_of-result c =
    subst (λ (ps : List (ℕ × ℤ)). AreLines ps c.in_ok-lines.lines.items (heads_of (replicate 16 0) c.new.result.items))
    (sym c.in_ok-parts.ensures.items)
    (subst (λ (ls : List Line). AreLines [] ls (heads_of (replicate 16 0) c.new.result.items)) (sym c.in_ok-lines.ensures.items)
    (subst (λ (hs : List ℕ). AreLines [] [] (heads_of (replicate 16 0) hs)) (sym c.new.ensures.items)
    (lines-none 16 (omega arith) (omega arith))))
