use Rattle.bolt_rounds.proofs.moves.make.Goals as goal

pub returns : goal.returns
returns c =
    let r = c.requires in
    let w = c.in_ok-worked in
    record {
      id = w.ensures.same.0;
      taken = w.ensures.same.1;
      may = w.ensures.may;
      spare_is = c.in_ok-spare.ensures r.board (w.ensures.may r.board r.is_board r.graphs r.table r.taken);
    }
