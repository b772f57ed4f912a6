-- What a take finds.
use Rattle.std.specs.Prelude.{◌≡◌, ℕ, List, Some, slice_get}
use Rattle.query_tree.specs.declared.Status.TheVariants.{Ready}
use Rattle.query_tree.specs.declared.Entry.{Entry}
use Rattle.query_tree.specs.declared.Lent.{Lent}
use Rattle.query_tree.specs.Forest.{after_take, has_live_child}

module _ {T : Type 0} where
  pub record HasNoReady (es : List (Entry T)) : Type 0 where
    pub none : (i : ℕ) (e : Entry T) → slice_get es i ≡ Some e → e.status ≡ Ready → ⊥

  -- the query is Ready, and has its payload
  pub record IsReadyAt (es : List (Entry T)) (id : ℕ) : Type 0 where
    pub own : Entry T
    pub at : slice_get es id ≡ Some own
    pub ready : own.status ≡ Ready

  pub record Took (es fs : List (Entry T)) (lent : Lent T) : Type 0 where
    pub own : Entry T
    pub at : slice_get es lent.id ≡ Some own
    pub ready : own.status ≡ Ready
    pub left : lent.left ≡ own.left
    pub waiting : lent.waiting ≡ has_live_child es lent.id
    pub payload : own.payload ≡ Some lent.payload
    pub becomes : fs ≡ after_take es lent.id
