use Rattle.std.specs.Prelude.{◌≡◌, ◌++◌, take}
use Rattle.query_rules.specs.Rows.{ArePiecesRefuted}
use Rattle.punch_step.proofs.confirm.pieces_refuted.Given as goal

abbrev pub invariant-loop-atom : goal.invariant-loop-atom
invariant-loop-atom l = record {
  before : l.before.atoms ≡ l.source.atoms ++ take l.atom-index l.atoms;
  pieces : ArePiecesRefuted l.source.atoms l.pre.atoms (take l.atom-index l.atoms) l.follows.items;
}
