use Rattle.std.proofs.Common.{ℕ, ◌<◌, IsTrue, drop}
use Rattle.c_tree.specs.Meaning.{is_value}
use Rattle.flow_graph.specs.Columns.{value_at}
use Rattle.flow_build.proofs.Making.{Opens}
use Rattle.flow_build.proofs.build.open.Given as goal

abbrev pub invariant-loop-value : goal.invariant-loop-value
invariant-loop-value l = record {
  opens : Opens l.fn.opening (drop l.value-index l.opening) l.fn.b l.b l.node l.slot;
  values : (k : ℕ) → k < l.value-index → IsTrue (is_value (value_at l.opening k));
}
