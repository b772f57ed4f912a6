-- How many queries are live: in all, and among the children of each.
use Rattle.std.specs.Prelude.{◌≡◌, ℕ, ◌+◌, ◌-◌, ◌^◌, ◌<◌, ◌≤◌, List, [], ◌∷◌, ◌++◌, length, Bool, true, cond, ◌&&◌, Option, Some, slice_get}
use Rattle.query_tree.specs.declared.Entry.{Entry}
use Rattle.query_tree.specs.Forest.{changed, tally, is_live, is_place}

pub record Counted : Type 0 where
  pub all : ℕ
  pub under : List ℕ
  pub room : ℕ

abbrev pub one : Bool → ℕ
one b = cond b 1 0

-- a count, of which one was or not, and now is or not
abbrev pub moved : Bool → Bool → ℕ → ℕ
moved was now n = (n - one was) + one now

abbrev pub moved_at : Option ℕ → Bool → Bool → ℕ → ℕ → ℕ
moved_at o was now k n = cond (is_place o k) (moved was now n) n

-- a query with this parent was live or not, and now is or not
abbrev pub settled : Counted → Option ℕ → Bool → Bool → Counted
settled c o was now = record {
  all = moved was now c.all;
  under = changed (moved_at o was now) c.under;
  room = c.room;
}

-- a query more, which isn't counted yet
abbrev pub grown : Counted → Counted
grown c = record { all = c.all; under = c.under ++ 0 ∷ []; room = c.room }

pub record MayMove (was now : Bool) (n : ℕ) : Type 0 where
  pub has : one was ≤ n
  pub fits : moved was now n < 2 ^ 32

pub record MaySettle (c : Counted) (o : Option ℕ) (was now : Bool) : Type 0 where
  pub all : MayMove was now c.all
  pub here : (p : ℕ) → o ≡ Some p → p < length c.under
  pub each : (p n : ℕ) → o ≡ Some p → slice_get c.under p ≡ Some n → MayMove was now n

abbrev pub of_any : Option ℕ → Bool
of_any o = true

abbrev pub of_one : ℕ → Option ℕ → Bool
of_one i o = is_place o i

module _ {T : Type 0} where
  -- one for a live query whose parent is chosen
  abbrev pub counted : (Option ℕ → Bool) → ℕ → Entry T → ℕ
  counted sel k e = one (sel e.parent && is_live e.status)

  -- the counts are those of the entries, in which a parent stands before its child
  pub record Counts (es : List (Entry T)) (c : Counted) : Type 0 where
    pub size : length c.under ≡ length es
    pub all : c.all ≡ tally (counted of_any) es
    pub each : (i n : ℕ) → slice_get c.under i ≡ Some n → n ≡ tally (counted (of_one i)) es
    pub above : (i : ℕ) (e : Entry T) (p : ℕ) → slice_get es i ≡ Some e → e.parent ≡ Some p → p < i
    pub small : length es < 2 ^ 32
