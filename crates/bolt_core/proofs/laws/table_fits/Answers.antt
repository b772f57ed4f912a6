use Rattle.bolt_core.specs.States.{reads}
use Rattle.bolt_core.proofs.BoardKeeps.{nodes_of}
use Rattle.bolt_core.proofs.Nodes.{table_before, table_within}
use Rattle.bolt_core.proofs.laws.table_fits.Goals as goal

pub returns-clause-within : goal.returns-clause-within
returns-clause-within c = λ gs roots b k. table_within (reads gs) b (nodes_of (reads gs) roots b k)

pub returns-clause-room : goal.returns-clause-room
returns-clause-room c = λ gs roots b i n k at open' unsaid.
    table_before (reads gs) b (nodes_of (reads gs) roots b k) i n at open' unsaid
