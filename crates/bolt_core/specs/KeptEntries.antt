-- The part of what is kept that speaks of the forest's entries.
use Rattle.std.specs.Prelude.{◌≡◌, ℕ, length, Some, slice_get}
use Rattle.query_tree.specs.declared.Entry.{Entry}
use Rattle.query_tree.specs.Kept.{IsKept}
use Rattle.bolt_core.specs.Histories.{Told, fed, has_said}
use Rattle.bolt_core.specs.Machine.{Core, Reads}
use Rattle.bolt_core.specs.Keeps.{AreEnded, AreLinked, AreSaid, AreStocked, AreStored, HasRoom}

module _ {S : Type 0} where
  -- what is fed is a child of the query
  abbrev pub FeedsAChild : Core S → Told → Type 0
  FeedsAChild c (fed w i n child) =
      (e : Entry S) → slice_get c.entries child ≡ Some e → e.parent ≡ Some i
  FeedsAChild c _ = Unit {0}

module _ {S : Type 0} (R : Reads S) where
  pub record KeepsEntries (roots : ℕ) (c : Core S) : Type 0 where
    pub kept : IsKept c.entries
    pub stocked : AreStocked c.entries
    pub stored : AreStored R c.entries
    pub room : HasRoom c.entries (has_said c.history) c.is_stopped (length c.history) roots
    pub linked : AreLinked c.entries c.history
    pub ended : AreEnded c
    pub said : AreSaid c.entries c.history
