-- What a list of queries gives, where what is meant is said depth by depth.
use Rattle.std.specs.Prelude.{ℕ, suc, List, [], ◌∷◌}

module _ {Q : Type 0} (nm : ℕ → Q → Type 0) where
  -- each query of the list, at this depth
  abbrev pub AllAt : ℕ → List Q → Type 0
  AllAt d [] = Unit {0}
  AllAt d (q ∷ qs) = nm d q × AllAt d qs

  -- the list gives the query: at each depth it gives the next one
  pub record Gives (given : List Q) (q : Q) : Type 0 where
    pub next : (d : ℕ) → AllAt d given → nm (suc d) q

  -- the query holds at every depth
  pub record Always (q : Q) : Type 0 where
    pub at : (d : ℕ) → nm d q

  -- it holds at depth 0, and at each depth if at the next
  pub record IsGraded : Type 0 where
    pub none : (q : Q) → nm 0 q
    pub less : (d : ℕ) (q : Q) → nm (suc d) q → nm d q
