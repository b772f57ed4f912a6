use Rattle.std.proofs.Common.{OnOk, Some, ap, subst, codes, string_bytes}
use Rattle.std.specs.Fmt.{AppendsText, ◌++?◌}
use Rattle.report_text.proofs.ListText.{list_shown}
use Rattle.report_text.proofs.verdicts.push_found.Goals as goal

pub returns : goal.returns
returns c =
    subst (λ o. OnOk c.write.result (AppendsText (string_bytes c.args.text.now) (string_bytes c.write.new.self) o))
    (ap (λ o. Some (codes "found ") ++? o) (list_shown c.args.list.now)) c.write.ensures.bytes
