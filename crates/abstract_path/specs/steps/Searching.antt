-- A search between its steps.
use Rattle.std.specs.Prelude.{◌≡◌}
use Rattle.abstract_path.specs.declared.search.Search.{Search}
use Rattle.abstract_path.specs.steps.Arrivals.{AreArrivals}
use Rattle.abstract_path.specs.steps.Layers.{IsLayered}

pub record IsInLayer (s : Search) : Type 0 where
  pub layered : IsLayered s.network.edges.now s.network.shut.now s.network.regions s.target s.depth
      s.current.items s.far.items s.way.items s.met.items
  pub arrivals : AreArrivals s.network.edges.now s.network.shut.now
      s.network.arrivals.begins.items s.network.arrivals.entries.items

-- the same layer of the same network
pub record KeepsLayer (old new : Search) : Type 0 where
  pub network : new.network ≡ old.network
  pub target : new.target ≡ old.target
  pub depth : new.depth ≡ old.depth
  pub current : new.current.items ≡ old.current.items
