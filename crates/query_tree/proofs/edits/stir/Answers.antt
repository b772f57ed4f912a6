use Rattle.std.proofs.Common.{refl, sym}
use Rattle.query_tree.specs.Forest.{stir}
use Rattle.query_tree.proofs.Lists.{set_changed, unchanged}
use Rattle.query_tree.proofs.edits.stir.Goals as goal

pub returns-in-Some : goal.returns-in-Some
returns-in-Some g c = rw (c.woken-entry.ensures, c.in-Some.is) (set_changed stir c.args.entries.now c.in-Some.p c.index-entries-p.result
    (c.requires c.in-Some.p c.in-Some.is))

pub returns-in_default : goal.returns-in_default
returns-in_default g c = rw c.in_default.is (sym (unchanged (λ k e. e) c.args.entries.now (λ j x a. refl)))
