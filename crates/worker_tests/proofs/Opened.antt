-- A board that begins has no history.
use Rattle.std.proofs.Common.{ℕ, List, sym, ap, ◌∙◌}
use Rattle.flow_graph.specs.declared.graph.Graph.{Graph}
use Rattle.query_rules.specs.Seen.{Seen}
use Rattle.bolt_core.specs.Boards.{IsBegun, Shown}
use Rattle.bolt_core.specs.Machine.{Core, first_board}
use Rattle.bolt_core.specs.States.{reads}
use Rattle.bolt_workers.proofs.Alike.{opening_history}
use Rattle.worker_tests.specs.Opened.{IsOpened}

pub is_opened : (gs : List Graph) (main asserts budget : ℕ) (b : Shown) → IsBegun gs main asserts budget b → IsOpened b asserts
is_opened gs main asserts budget b h =
    let R = reads b.graphs in
    record {
      all = sym h.all;
      history = ap (λ (c : Core Seen). c.history) h.opening.is ∙ opening_history R b.budget h.opening.roots (first_board R b.core.kept);
    }
