-- Splits of a source by some atoms of a preimage.
use Rattle.std.specs.Prelude.{◌≢◌, ◌++◌, IsTrue, List, []}
use Rattle.std.specs.List.{list_all}
use Rattle.linear_formula.specs.LinearSum.{Valuation, Is64}
use Rattle.linear_formula.specs.Formula.{HoldsAll}
use Rattle.linear_formula.specs.declared.formula.Atom.{Atom}
use Rattle.infeasible_cert.specs.declared.certificate.Certificate.{Certificate}
use Rattle.shadow_elim.specs.Questions.{is_negatable}
use Rattle.summary_form.specs.declared.query.Query.{Query}
use Rattle.must_region.specs.Traces.{Trace}
use Rattle.query_rules.specs.Crossings.{Crossing, IsPreOf}
use Rattle.query_rules.specs.Rows.{IsRefutedBy, IsSome, seen_at}

-- the atoms are some of the preimage's, which something in the source meets and no point of the
-- trail does
pub record IsSplitBySome (source : List Atom) (c : Crossing) (q : Query) (t : Trace)
    (atoms : List Atom) (proof : Certificate) : Type 0 where
  pub pre : List Atom
  pub is_pre : IsPreOf c pre
  pub part : IsSome atoms pre
  pub several : atoms ≢ []
  pub negatable : IsTrue (list_all is_negatable atoms)
  pub some_state : Valuation
  pub values : Is64 some_state
  pub possible : HoldsAll some_state (source ++ pre)
  pub refuted : IsRefutedBy (seen_at q t (source ++ atoms)) proof
