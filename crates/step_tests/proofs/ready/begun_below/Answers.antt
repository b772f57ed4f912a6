use Rattle.step_tests.proofs.Readied.{ready}
use Rattle.step_tests.proofs.ready.begun_below.Goals as goal

pub begin_state-requires-clause-procedure : goal.begin_state-requires-clause-procedure
begin_state-requires-clause-procedure c = (c.requires.fits.0, c.requires.fits.1)

pub returns : goal.returns
returns c =
    let gs = c.args.graphs.now.graphs in let g = c.requires.fits.0 in let at = c.requires.fits.1 in
    ready gs c.args.table.now.summaries g _ _ _ c.args.graphs.now.well_formed c.requires.holds at (c.in_ok-state.ensures.shows g at)
    (c.in_ok-state.ensures.state g c.args.table.now.summaries at)
