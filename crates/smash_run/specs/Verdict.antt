-- What verdicts say of the program.
use Rattle.std.specs.Prelude.{ℕ, List, ℤ}
use Rattle.c_tree.specs.Meaning.{Reaches}
use Rattle.c_tree.specs.Syntax.{PureProgram}
use Rattle.bolt_core.specs.declared.job.Verdict.{Verdict}
use Rattle.bolt_core.specs.declared.job.Verdict.TheVariants.{Proved, Found, Budget, Limit}

-- What the verdict of the assertion of this number says. `proved`: no inputs reach the assertion.
-- `found`: these reach it. The two others leave both open.
abbrev pub VerdictSays : PureProgram → (id : ℕ) → Verdict → Type 0
VerdictSays P id Proved = (ins : List ℤ) → ¬ Reaches P id ins
VerdictSays P id (Found list) = Reaches P id list.items
VerdictSays P id (Budget n) = Unit {0}
VerdictSays P id (Limit kind) = Unit {0}
