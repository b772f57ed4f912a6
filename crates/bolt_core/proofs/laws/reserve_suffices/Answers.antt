use Rattle.std.proofs.Common.{arith}
use Rattle.bolt_core.specs.States.{reads}
use Rattle.bolt_core.proofs.Entries.{entries_of}
use Rattle.bolt_core.proofs.Reserve.{event_fits, event_grants, queries_within}
use Rattle.bolt_core.proofs.laws.reserve_suffices.Goals as goal

pub returns : goal.returns
returns c = λ gs roots old new e some t k.
    let h = entries_of (reads gs) roots new k in
    let same = event_grants (reads gs) old new e t in
    (same, event_fits (reads gs) roots old new e t h some, omega (arith, same, queries_within (reads gs) roots new h))
