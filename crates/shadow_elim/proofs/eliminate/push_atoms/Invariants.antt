use Rattle.std.proofs.Common.{◌≡◌, ◌++◌, take}
use Rattle.infeasible_cert.specs.Right.{rows_of}
use Rattle.shadow_elim.specs.Stages.{terms_of}
use Rattle.shadow_elim.specs.steps.Making.{AreInPlace}
use Rattle.shadow_elim.proofs.eliminate.push_atoms.Given as goal

abbrev pub invariant-loop-atom : goal.invariant-loop-atom
invariant-loop-atom l =
    record {
      terms : terms_of l.rows.items ≡ terms_of l.initial.rows.items ++ rows_of (take l.atom-index l.atoms);
      numbers : AreInPlace 0 l.rows.items;
    }
