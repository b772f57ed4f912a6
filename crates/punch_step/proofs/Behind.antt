-- One step after a state that distances follow.
use Rattle.std.proofs.Common.{◌≡◌, ◌∙◌, List, Option, None, sym}
use Rattle.flow_graph.specs.declared.graph.Graph.{Graph}
use Rattle.summary_form.specs.declared.summary.Summary.{Summary}
use Rattle.query_rules.specs.Seen.{Seen}
use Rattle.query_rules.specs.Steps.{Model}
use Rattle.punch_step.specs.Analysed.{IsAnalysed}
use Rattle.punch_step.specs.Sliced.{HasStepped}
use Rattle.punch_step.specs.declared.distances.Distances.{Distances}
use Rattle.punch_step.specs.declared.slice.SliceEnd.{SliceEnd}
use Rattle.punch_step.specs.steps.Following.{IsBehind, IsFollowed}
use Rattle.query_rules.proofs.Effects.{same_query}

pub is_behind : (gs : List Graph) (g : Graph) (table : List Summary) (m : Model) (before behind : Seen) (d : Distances) →
    IsAnalysed gs table g before m → IsFollowed before d → HasStepped gs g table m behind None → IsBehind behind d
is_behind gs g table m before behind d was followed h = record {
  before = before;
  followed = followed;
  graphs = gs;
  graph = g;
  table = table;
  model = m;
  was = was;
  step = h.step;
  goes_on = sym h.ends;
  is = h.analysed;
}

-- the same query is analysed
pub stepped_query : (gs : List Graph) (g : Graph) (table : List Summary) (m : Model) (before behind : Seen) →
    IsAnalysed gs table g before m → (end : Option SliceEnd) → HasStepped gs g table m behind end → before.query ≡ behind.query
stepped_query gs g table m before behind was end h = sym was.shows.query ∙ sym (same_query g table h.step m) ∙ h.analysed.shows.query
