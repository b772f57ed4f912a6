-- What is known of the queries whose summaries closes appended.
use Rattle.std.specs.Prelude.{◌≡◌, ◌⊎◌, ℕ, ◌+◌, ◌≤◌, List, length, true, Option, None, Some, slice_get}
use Rattle.summary_form.specs.declared.query.Query.{Query}
use Rattle.summary_form.specs.declared.summary.Summary.{Summary}
use Rattle.summary_form.specs.declared.summary.Summary.TheVariants.{NotMay}
use Rattle.bolt_core.specs.declared.slot.ClosedAs.{ClosedAs}
use Rattle.bolt_core.specs.declared.slot.ClosedAs.TheVariants as how
use Rattle.bolt_core.specs.Boards.{IsBoard, Shown}
use Rattle.bolt_core.specs.Groups.{Node}
use Rattle.bolt_core.specs.Histories.{has_said}
use Rattle.bolt_core.specs.Machine.{Core}
use Rattle.bolt_core.specs.Origins.{origins_of}

-- closed as a not-may that leans on nothing, or on this level or a deeper one
abbrev pub LeansFrom : (l : ℕ) → Option ClosedAs → Type 0
LeansFrom l (Some (how.NotMay None)) = Unit {0}
LeansFrom l (Some (how.NotMay (Some j))) = l ≤ j
LeansFrom l _ = ⊥

-- From the query up to its ancestor of this level, or to itself, each closed as a not-may that
-- leans on nothing above that level.
pub data IsAnchored (ns : List Node) (l : ℕ) : ℕ → Type 0 where
  lead : {i : ℕ} → (n : Node) → slice_get ns i ≡ Some n → n.level ≡ l → LeansFrom l n.closed →
      IsAnchored ns l i
  below : {i : ℕ} → (n : Node) (p : ℕ) → slice_get ns i ≡ Some n → LeansFrom l n.closed →
      n.parent ≡ Some p → IsAnchored ns l p → IsAnchored ns l i

-- the query to which this summary belongs: a not-may of a close is its own, and it is anchored
module _ {S : Type 0} (c : Core S) where
  pub record IsOrigin (o : Option Summary) (i : ℕ) : Type 0 where
    pub node : Node
    pub at : slice_get c.nodes i ≡ Some node
    pub backed : (s : Query) → o ≡ Some (NotMay s) →
        (has_said c.history i ≡ true) ⊎ ((node.query ≡ s) × (l : ℕ) × IsAnchored c.nodes l i)

  -- one for each summary after the opening table
  pub record HasOrigins (ids : List ℕ) : Type 0 where
    pub count : length c.kept + length ids ≡ length c.table
    pub from : (n i : ℕ) → slice_get ids n ≡ Some i →
        IsOrigin (slice_get c.table (length c.kept + n)) i

abbrev pub BoardsHaveOrigins : Type 0
BoardsHaveOrigins = (b : Shown) → IsBoard b → HasOrigins b.core (origins_of b)
