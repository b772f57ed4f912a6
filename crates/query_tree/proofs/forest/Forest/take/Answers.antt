use Rattle.std.proofs.Common.{◌≡◌, ℕ, Bool, List, Some, length, drop, refl, sym, ap, ◌∙◌, subst, arith}
use Rattle.std.specs.Prelude.{slice_get}
use Rattle.std.proofs.lemmas.List.{take_at}
use Rattle.query_tree.specs.declared.Status.TheVariants.{Ready}
use Rattle.query_tree.specs.declared.Entry.{Entry}
use Rattle.query_tree.specs.Forest.{after_take, take_at as taken_at, has_live_child, is_none}
use Rattle.query_tree.specs.Kept.{Held}
use Rattle.query_tree.specs.Woods.{Woods, IsLent}
use Rattle.query_tree.proofs.Chains.{take_links}
use Rattle.query_tree.proofs.Counting.{child_is, take_counts}
use Rattle.query_tree.proofs.Lists.{length_changed, within}
use Rattle.query_tree.proofs.Tests.{one_at}
use Rattle.query_tree.specs.Ready.{Covers, CoversOthers}
use Rattle.query_tree.proofs.Take.{take_kept}
use Rattle.query_tree.proofs.Covers.{take_covers}
use Rattle.query_tree.proofs.Frame.{stay_at, take_stay, taken_out}
use Rattle.query_tree.proofs.forest.Forest.take.Goals as goal

pub lend-requires-clause-held : goal.lend-requires-clause-held
lend-requires-clause-held g c own at =
    let es = c.self.inside.entries.items in
    let r = c.in_ok-id.ensures.found.0 in
    let there : slice_get es c.in_ok-id.id ≡ Some own = ap (λ (xs : List (Entry g.row.T.Denot)). slice_get xs c.in_ok-id.id)
    (sym c.deref_mut.ensures.value) ∙ at in
    let first : slice_get es c.in_ok-id.id ≡ Some r.own = ap (λ (xs : List (Entry g.row.T.Denot)). slice_get xs c.in_ok-id.id)
    (sym c.deref.ensures.value) ∙ r.at in
    let ready : own.status ≡ Ready = ap (λ (x : Entry g.row.T.Denot). x.status) (one_at es c.in_ok-id.id c.in_ok-id.id r.own own first there
    refl)
    ∙ r.ready in
    let h : Held own.status (is_none own.payload) = (c.self.invariant.kept.each.fine c.in_ok-id.id own there).held in
    rw ready at h

pub lend-requires-clause-waits : goal.lend-requires-clause-waits
lend-requires-clause-waits g c =
    let es = c.self.inside.entries.items in
    let id = c.in_ok-id.id in
    let r = c.in_ok-id.ensures.found.0 in
    let first : slice_get es id ≡ Some r.own = ap (λ (xs : List (Entry g.row.T.Denot)). slice_get xs id) (sym c.deref.ensures.value)
    ∙ r.at in
    child_is es c.self.inside.live id c.has_child-waiting.result c.self.invariant.counts (within es id r.own first)
    c.has_child-waiting.ensures
    ∙ ap (λ (xs : List (Entry g.row.T.Denot)). has_live_child xs id) (sym c.deref_mut.ensures.value)

pub invariant_of-self : goal.invariant_of-self
invariant_of-self g c =
    let es = c.self.inside.entries.items in
    let i = c.self.invariant in
    record {
      kept = i.kept;
      within = i.within;
      reserved = i.reserved;
      small = i.small;
      list_room = c.in_err-id.ensures.room ∙ i.list_room;
      covers = subst (λ (xs : List (Entry g.row.T.Denot)). Covers xs c.next_ready.new.ready) c.deref.ensures.value
          c.in_err-id.ensures.found.1;
      live_room = i.live_room;
      counts = i.counts;
      kin_room = i.kin_room;
      links = i.links;
    }

pub invariant_of-self-2 : goal.invariant_of-self-2
invariant_of-self-2 g c =
    let es = c.self.inside.entries.items in
    let r = c.in_ok-id.ensures.found.0 in
    let first : slice_get es c.in_ok-id.id ≡ Some r.own = ap (λ (xs : List (Entry g.row.T.Denot)). slice_get xs c.in_ok-id.id)
    (sym c.deref.ensures.value) ∙ r.at in
    let new : c.lend.new.entries ≡ after_take es c.in_ok-id.id = c.lend.ensures.entries
    ∙ ap (λ (xs : List (Entry g.row.T.Denot)). after_take xs c.in_ok-id.id) c.deref_mut.ensures.value in
    let taken = take_at c.lend.new.entries (drop (length c.lend.new.entries) es) c.self.inside.entries.len (omega arith) in
    rw (taken, new) (record {
      kept = take_kept es c.in_ok-id.id r.own first r.ready c.self.invariant.kept;
      within = omega (arith, c.self.invariant.within, length_changed (taken_at c.in_ok-id.id (has_live_child es c.in_ok-id.id)) 0 es);
      reserved = c.self.invariant.reserved;
      small = c.self.invariant.small;
      list_room = c.in_ok-id.ensures.room ∙ c.self.invariant.list_room;
      covers = take_covers es c.in_ok-id.id c.next_ready.new.ready
          (subst (λ (xs : List (Entry g.row.T.Denot)). CoversOthers xs c.next_ready.new.ready c.in_ok-id.id) c.deref.ensures.value
          c.in_ok-id.ensures.found.1);
      live_room = c.self.invariant.live_room;
      counts = take_counts es c.in_ok-id.id r.own (has_live_child es c.in_ok-id.id) c.self.inside.live first r.ready
          c.self.invariant.counts;
      kin_room = c.self.invariant.kin_room;
      links = take_links es c.in_ok-id.id (has_live_child es c.in_ok-id.id) c.self.inside.kin c.self.invariant.links;
    })

-- what is lent is that of one entry
lent_same : {T : Type 0} (fs gs : List (Entry T)) (i j l m : ℕ) (w v : Bool) → fs ≡ gs → i ≡ j → l ≡ m → w ≡ v → IsLent gs j m v →
    IsLent fs i l w
lent_same fs gs i j l m w v a b d e h = rw (a, b, d, e) h

pub returns-clause-out : goal.returns-clause-out
returns-clause-out g c =
    let es = c.self.inside.entries.items in
    let id = c.in_ok-id.id in
    let r = c.in_ok-id.ensures.found.0 in
    let first : slice_get es id ≡ Some r.own = ap (λ (xs : List (Entry g.row.T.Denot)). slice_get xs id) (sym c.deref.ensures.value)
    ∙ r.at in
    let new : c.lend.new.entries ≡ after_take es id = c.lend.ensures.entries
    ∙ ap (λ (xs : List (Entry g.row.T.Denot)). after_take xs id) c.deref_mut.ensures.value in
    let taken = take_at c.lend.new.entries (drop (length c.lend.new.entries) es) c.self.inside.entries.len (omega arith) in
    let says = rw c.deref_mut.ensures.value at c.lend.ensures.lent in
    let e = says r.own first in
    lent_same _ _ _ _ _ _ _ _ (taken ∙ new) e.0 e.1 e.2 (taken_out es id r.own first)

pub returns-clause-others : goal.returns-clause-others
returns-clause-others g c =
    let es = c.self.inside.entries.items in
    let id = c.in_ok-id.id in
    let r = c.in_ok-id.ensures.found.0 in
    let first : slice_get es id ≡ Some r.own = ap (λ (xs : List (Entry g.row.T.Denot)). slice_get xs id) (sym c.deref.ensures.value)
    ∙ r.at in
    let new : c.lend.new.entries ≡ after_take es id = c.lend.ensures.entries
    ∙ ap (λ (xs : List (Entry g.row.T.Denot)). after_take xs id) c.deref_mut.ensures.value in
    let taken = take_at c.lend.new.entries (drop (length c.lend.new.entries) es) c.self.inside.entries.len (omega arith) in
    let says = rw c.deref_mut.ensures.value at c.lend.ensures.lent in
    let e = says r.own first in
    let is = ap (λ (w : Woods g.row.T.Denot). w.entries) c.self.view_is in
    stay_at _ _ _ _ _ _ is (taken ∙ new) e.0 (take_stay es id)
