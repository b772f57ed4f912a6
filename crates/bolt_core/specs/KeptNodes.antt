-- The part of what is kept that speaks of the nodes, the history and the table.
use Rattle.std.specs.Prelude.{◌≡◌, List, ◌++◌, length}
use Rattle.query_tree.specs.declared.Entry.{Entry}
use Rattle.summary_form.specs.declared.summary.Summary.{Summary}
use Rattle.bolt_core.specs.Groups.{Node}
use Rattle.bolt_core.specs.Histories.{Told, table_of}
use Rattle.bolt_core.specs.Keeps.{AgreeOn, AreAnsweredIn, AreCounted, AreGiven, AreLevelled, ArePaired}
use Rattle.bolt_core.specs.Machine.{AllOf, Core, HoldsBy, Reads}

module _ {S : Type 0} (R : Reads S) where
  pub record NodesAreKept (es : List (Entry S)) (ns : List Node) (kept table : List Summary)
      (h : List Told) : Type 0 where
    pub paired : ArePaired es ns
    pub levelled : AreLevelled ns
    pub agrees : AgreeOn ns h
    pub named : kept ++ table_of h ≡ table
    pub holds : AllOf (HoldsBy R) table
    pub given : AreGiven R ns
    pub answered : AreAnsweredIn table ns
    pub counted : AreCounted (length kept) table ns h

  abbrev pub KeepsNodes : Core S → Type 0
  KeepsNodes c = NodesAreKept c.entries c.nodes c.kept c.table c.history
