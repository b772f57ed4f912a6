-- What a call leaves alone.
use Rattle.std.specs.Prelude.{◌≡◌, ℕ, List, false, Some, slice_get}
use Rattle.query_tree.specs.declared.Entry.{Entry}
use Rattle.query_tree.specs.Forest.{is_open, is_none}
use Rattle.query_tree.specs.Woods.{Out}

module _ {T : Type 0} where
  -- all but the status, what is left and whether a child was lost stays, and these too once the
  -- query closed or was dropped; a job that is out stays out
  pub record Stays (e f : Entry T) : Type 0 where
    pub parent : f.parent ≡ e.parent
    pub root : f.root ≡ e.root
    pub grant : f.grant ≡ e.grant
    pub spent : f.spent ≡ e.spent
    pub lent : f.lent ≡ e.lent
    pub waiting : f.waiting ≡ e.waiting
    pub payload : f.payload ≡ e.payload
    pub out : Out e.status (is_none e.payload) → Out f.status (is_none e.payload)
    pub status : is_open e.status ≡ false → f.status ≡ e.status
    pub left : is_open e.status ≡ false → f.left ≡ e.left

  -- each query but this one stays
  pub record OthersStay (es fs : List (Entry T)) (id : ℕ) : Type 0 where
    pub stays : (i : ℕ) (e : Entry T) → slice_get es i ≡ Some e → (i ≡ id → ⊥) →
        (f : Entry T) × (slice_get fs i ≡ Some f) × Stays e f
