use Rattle.std.proofs.Common.{false}
use Rattle.c_tree.specs.Meaning.{Run}
use Rattle.c_tree.proofs.Constants.{constant_same}
use Rattle.c_tree.proofs.laws.constants_are_known.Goals as goal

pub returns : goal.returns
returns c = λ P d e s h w r. (let same = constant_same (Run false P d) e s h in (same.there w r, same.back w r))
