-- A split by some atoms of a preimage is one by atoms that follow from it.
use Rattle.std.proofs.Common.{List, []}
use Rattle.linear_formula.specs.declared.formula.Atom.{Atom}
use Rattle.infeasible_cert.specs.declared.certificate.Certificate.{Certificate}
use Rattle.flow_graph.specs.declared.graph.Graph.{Graph}
use Rattle.summary_form.specs.declared.query.Query.{Query}
use Rattle.must_region.specs.Traces.{Trace}
use Rattle.query_rules.specs.Crossings.{Crossing, IsSplitFrom}
use Rattle.punch_step.specs.SomeSplits.{IsSplitBySome}

pub some_split : (g : Graph) (source : List Atom) (c : Crossing) (q : Query) (t : Trace) (atoms : List Atom) (proof : Certificate) →
    IsSplitBySome source c q t atoms proof → IsSplitFrom source c g q t atoms [] proof
some_split g source c q t atoms proof s = record {
  pre = s.pre;
  is_pre = s.is_pre;
  splits = record {
    some_state = s.some_state;
    values = s.values;
    possible = s.possible;
    follow = s.part;
    several = s.several;
    negatable = s.negatable;
    refuted = s.refuted;
  };
}
