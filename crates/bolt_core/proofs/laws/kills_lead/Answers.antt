use Rattle.bolt_core.proofs.Leading.{kills_lead}
use Rattle.bolt_core.proofs.laws.kills_lead.Goals as goal

pub returns : goal.returns
returns c = λ b h none i l a s closed n k by at. kills_lead b h none i l a s closed n k by at
