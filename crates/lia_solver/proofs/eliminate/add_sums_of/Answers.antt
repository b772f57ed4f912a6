use Rattle.std.proofs.Common.{◌≡◌, ℕ, Bool, true}
use Rattle.std.specs.Prelude.{Contains}
use Rattle.std.proofs.lemmas.Result.{IfOk-weaker}
use Rattle.lia_solver.specs.steps.Entries.{ArePaired}
use Rattle.lia_solver.specs.steps.Tables.{IsSummed}
use Rattle.lia_solver.proofs.Growing.{grown-start}
use Rattle.lia_solver.proofs.eliminate.add_sums_of.Goals as goal

pub returns-then-is_upper-clause-sums : goal.returns-then-is_upper-clause-sums
returns-then-is_upper-clause-sums c =
    IfOk-weaker c.add_sums.result
    (λ (b : Bool). b ≡ true → (l : ℕ) → Contains c.args.lowers.now l → IsSummed c.args.column c.add_sums.new.table c.args.place l)
    (λ (b : Bool). b ≡ true → (l : ℕ) → ArePaired c.args.column c.args.table.now c.args.place l →
    IsSummed c.args.column c.add_sums.new.table c.args.place l)
    (λ b h e l p. h e l (c.requires.lowers.all l p.lower_place p.below)) c.add_sums.ensures.sums

pub returns-else-is_upper-clause-grown : goal.returns-else-is_upper-clause-grown
returns-else-is_upper-clause-grown c = grown-start c.args.column c.args.table.now c.requires.rows
