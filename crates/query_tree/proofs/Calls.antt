-- What the calls of a forest know of what was lent.
use Rattle.std.proofs.Common.{◌≡◌, ℕ, ◌+◌, ◌^◌, ◌<◌, ◌≤◌, List, length, Bool, Some, refl, ap, ◌∙◌, arith}
use Rattle.std.specs.Prelude.{slice_get, get_or}
use Rattle.std.proofs.lemmas.Option.{get_or_from_slice_get}
use Rattle.query_tree.specs.declared.Status.{Status}
use Rattle.query_tree.specs.declared.Status.TheVariants.{Ready, Running, Blocked, Starved, Closed, Dropped}
use Rattle.query_tree.specs.declared.Entry.{Entry}
use Rattle.query_tree.specs.Forest.{is_none}
use Rattle.query_tree.specs.Kept.{IsKept}
use Rattle.query_tree.specs.Woods.{Out, IsLent}
use Rattle.query_tree.proofs.Lists.{within}
use Rattle.query_tree.proofs.Feed.{one_le}
use Rattle.query_tree.proofs.Close.{rooted_parent}

running_of : (s : Status) (b : Bool) → Out s b → ((n : ℕ) → s ≡ Dropped n → ⊥) → s ≡ Running
running_of Ready b h d = absurd h
running_of Running b h d = refl
running_of Blocked b h d = absurd h
running_of Starved b h d = absurd h
running_of Closed b h d = absurd h
running_of (Dropped n) b h d = absurd (d n refl)

module _ {T : Type 0} where
  pub record AtWork (es : List (Entry T)) (id steps : ℕ) (own : Entry T) : Type 0 where
    pub at : slice_get es id ≡ Some own
    pub running : own.status ≡ Running
    pub le : steps ≤ own.lent
    pub left : steps ≤ own.left
    pub spent : own.spent + steps < 2 ^ 32
    pub here : id < length es
    pub above : (p : ℕ) → own.parent ≡ Some p → p < id

  pub at_work : (es fs : List (Entry T)) (id left steps : ℕ) (w : Bool) → es ≡ fs → IsKept es → (l : IsLent fs id left w) → steps ≤ left →
      (x : Entry T) → x ≡ get_or es id x → ((n : ℕ) → x.status ≡ Dropped n → ⊥) → AtWork es id steps l.own
  at_work es fs id left steps w is h l le x found not' =
      let at : slice_get es id ≡ Some l.own = ap (λ ys. slice_get ys id) is ∙ l.at in
      let same : x ≡ l.own = found ∙ get_or_from_slice_get es id l.own x at in
      let runs : l.own.status ≡ Running = running_of l.own.status (is_none l.own.payload) l.out
      (λ n d. not' n (ap (λ (y : Entry T). y.status) same ∙ d)) in
      let le2 : l.own.lent ≤ l.own.left = rw runs at ((h.each.fine id l.own at).holds) in
      record {
        at = at;
        running = runs;
        le = omega (arith, l.left_is);
        left = omega (arith, l.left_is, le2);
        spent = omega (arith, l.left_is, le2, one_le es id l.own at, h.granted.small l.own.root);
        here = within es id l.own at;
        above = λ p n. let r = rooted_parent es h.tree id l.own p at n in r.0;
      }
