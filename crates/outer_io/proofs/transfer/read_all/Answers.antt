use Rattle.std.proofs.Common.{ℕ, arith, length-take}
use Rattle.std.proofs.lemmas.Result.{err_from_is_err_and}
use Rattle.outer_io.proofs.Known.{took_more, took_past}
use Rattle.outer_io.proofs.transfer.read_all.Goals as goal

pub returns-in_err-read_piece-clause-memory : goal.returns-in_err-read_piece-clause-memory
returns-in_err-read_piece-clause-memory g c =
    let p = err_from_is_err_and c.from_residual.result c.from_residual.ensures.1 in
    λ e. took_more _ (g.S.Source.left c.pieces.source) (g.S.Source.left c.read_piece.new.source) c.pieces.out.items _ c.args.limit
    c.pieces.invariant.taken c.pieces.invariant.bound
    (c.in_err-read_piece.ensures.memory (cc (p.1, p.2))) (omega (
      arith,
      length-take {A = ℕ},
      c.pieces.out.ok.0,
      c.len.ensures,
      c.min-room.ensures,
    ))

pub returns-then-len-limit-clause-long : goal.returns-then-len-limit-clause-long
returns-then-len-limit-clause-long g c =
    let e = c.in_ok-read_piece.ensures.ok in
    λ _. took_past _ (g.S.Source.left c.pieces.source) (g.S.Source.left c.read_piece.new.source) c.pieces.out.items e.0
    c.read_piece.new.out.items c.in_ok-read_piece.field-0 c.args.limit c.pieces.invariant.taken e.2 e.1 e.3
    (omega (arith, c.len-in-pieces.ensures, c.read_piece.new.out.ok.0)) (omega (
      arith,
      c.in_ok-read_piece.ensures.len,
      length-take {A = ℕ},
      c.pieces.out.ok.0,
      c.len.ensures,
      c.min-room.ensures,
    )) c.pieces.invariant.bound
