-- What a state keeps of the kills that it made.
use Rattle.std.specs.Prelude.{◌≡◌, ℕ, suc, ◌<◌, ◌≤◌, List, [], ◌∷◌, ◌++◌, length, Option, None, Some, slice_get}
use Rattle.flow_graph.specs.declared.graph.Graph.{Graph}
use Rattle.summary_form.specs.declared.query.Query.{Query}
use Rattle.summary_form.specs.declared.summary.Summary.{Summary}
use Rattle.summary_form.specs.declared.summary.Summary.TheVariants.{NotMay}
use Rattle.may_partition.specs.declared.region.RegionEdge.{RegionEdge}
use Rattle.query_rules.specs.Rows.{levels_known}
use Rattle.query_rules.specs.States.{IsStateOf}
use Rattle.query_rules.specs.Steps.{Model}
use Rattle.query_rules.specs.declared.step.Asked.{Asked}
use Rattle.query_rules.specs.declared.step.Killer.{Killer}
use Rattle.query_rules.specs.declared.step.Killer.TheVariants as killer
use Rattle.query_rules.specs.declared.step.News.TheVariants as news
use Rattle.query_rules.specs.declared.step.Step.TheVariants as step

-- the first is no deeper a leaning than the second
abbrev pub Covers : Option ℕ → Option ℕ → Type 0
Covers low None = Unit {0}
Covers None (Some j) = ⊥
Covers (Some m) (Some j) = m ≤ j

-- the asked query still has its not-may, on which the state leans; it was asked before the last
-- step
pub record KilledByChild (m : Model) (i : ℕ) : Type 0 where
  pub entry : Asked
  pub there : slice_get m.asked i ≡ Some entry
  pub low : Option ℕ
  pub is_news : entry.news ≡ news.NotMay low
  pub covered : Covers m.lowest low
  pub earlier : (before : List _) (k : RegionEdge) (q : Query) (follows : List _) (seen : ℕ) →
      m.steps ≡ before ++ step.Ask k q follows seen ∷ [] → suc i < length m.asked

pub record KilledByLevel (m : Model) (level : ℕ) : Type 0 where
  pub query : Query
  pub there : slice_get (levels_known m) level ≡ Some query
  pub covered : Covers m.lowest (Some level)

abbrev pub IsKilledBy : List Summary → Model → Killer → Type 0
IsKilledBy table m (killer.Certificate c) = Unit {0}
IsKilledBy table m (killer.Table place proof) =
    (s : Query) × (slice_get table place ≡ Some (NotMay s))
IsKilledBy table m (killer.Child i) = KilledByChild m i
IsKilledBy table m (killer.Ancestor level proof) = KilledByLevel m level

abbrev pub KillsStay : Type 0
KillsStay =
    (gs : List Graph) (g : Graph) (table : List Summary) (q : Query) (ancestors : List Query)
    (m : Model) → IsStateOf gs g table q ancestors m → (n : ℕ) (k : RegionEdge) (by : Killer) →
    slice_get m.steps n ≡ Some (step.Kill k by) → IsKilledBy table m by
