use Rattle.std.proofs.Common.{◌≡◌, ◌++◌, OnOk, subst, codes, string_bytes}
use Rattle.report_text.proofs.verdicts.push_limit.Goals as goal

pub returns : goal.returns
returns c =
    let before = string_bytes c.args.text.now in
    let after = string_bytes c.write.new.self in
    subst (λ k. OnOk c.write.result (after ≡ before ++ (codes "unknown (solver limit: " ++ (k ++ codes ")")))) c.kind_text.ensures
    c.write.ensures.bytes
