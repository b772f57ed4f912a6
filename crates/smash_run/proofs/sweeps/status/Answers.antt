use Rattle.std.proofs.Common.{◌≡◌, ◌∙◌, map, subst, sym}
use Rattle.report_text.specs.Sweeps.{entry_of}
use Rattle.smash_run.proofs.Sweeping.{status_of_proved}
use Rattle.smash_run.specs.Swept.{sweep_status}
use Rattle.smash_run.proofs.sweeps.status.Goals as goal

pub returns-in-Proved : goal.returns-in-Proved
returns-in-Proved c =
    subst (λ o. 0 ≡ sweep_status o (map entry_of c.args.found.now)) (sym c.in-Proved.is)
    (sym (status_of_proved (map entry_of c.args.found.now) (sym c.is_any_found.ensures ∙ c.if-is_any_found.false)))
