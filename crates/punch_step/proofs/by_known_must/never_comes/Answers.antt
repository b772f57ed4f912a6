use Rattle.std.proofs.Common.{List}
use Rattle.std.proofs.lemmas.Result.{IfOk-weaker}
use Rattle.std.specs.Prelude.{IsTrue}
use Rattle.linear_formula.specs.Extremes.{IsOutline}
use Rattle.linear_formula.specs.declared.formula.Atom.{Atom}
use Rattle.summary_form.specs.declared.path.Path.{Path}
use Rattle.must_region.specs.Traces.{trace_of}
use Rattle.query_rules.specs.Crossings.{IsShownNotToCome}
use Rattle.punch_step.specs.ByMusts.{crossing_by, marking}
use Rattle.punch_step.specs.KnownMusts.{AreGuardRows, IsBareOf, IsNeverBehind}
use Rattle.punch_step.proofs.KnownMusts.{never-with_guard}
use Rattle.punch_step.proofs.by_known_must.never_comes.Goals as goal

pub returns-in-Ok : goal.returns-in-Ok
returns-in-Ok c =
    let a = c.args.calling.now in
    let rows = c.args.guard.now.atoms in
    let led = trace_of c.in-Ok.led in
    IfOk-weaker c.is_never_behind.result (λ never. IsTrue never → (all : List Atom) → IsOutline c.args.target.now all →
    IsNeverBehind a.query.now led rows all)
    (λ never. IsTrue never → (must : Path) → IsBareOf must c.args.bare.now → AreGuardRows must a.trail.now.symbols rows →
    IsShownNotToCome a.query.now (marking a) (crossing_by a must))
    (λ never h t must bare guard. let n = h t a.target.now.atoms c.requires.target in
    never-with_guard a.query.now (marking a) a.graph.now.fail a.call.now a.target.now.atoms must c.args.bare.now rows n.0
    c.requires.can.a_call bare guard led c.in-Ok.ensures.trail c.in-Ok.ensures.decided n.1 n.2 n.3) c.is_never_behind.ensures
