use Rattle.std.proofs.Common.{◌≡◌, Some, ◌-◌, ◌<◌, List, length, drop, refl, sym, ap, ◌∙◌, subst, arith}
use Rattle.std.proofs.lemmas.List.{take_at, length_push}
use Rattle.std.proofs.lemmas.Option.{get_or_from_slice_get}
use Rattle.query_tree.specs.declared.Entry.{Entry}
use Rattle.query_tree.specs.Forest.{after_ask, less_at, part, changed, child_of, at_rest, is_live}
use Rattle.query_tree.specs.Kept.{IsKept}
use Rattle.query_tree.specs.Kin.{Links}
use Rattle.query_tree.specs.Live.{Counted, Counts}
use Rattle.query_tree.specs.Ready.{NotesJob, Covers}
use Rattle.query_tree.specs.Woods.{Woods}
use Rattle.query_tree.proofs.Chains.{links_pushed, rest_links}
use Rattle.query_tree.proofs.Counting.{may_add, added_counts, some_below}
use Rattle.query_tree.proofs.Lists.{length_changed}
use Rattle.query_tree.proofs.Tests.{one_at}
use Rattle.query_tree.proofs.Calls.{at_work}
use Rattle.query_tree.proofs.Back.{ask_kept}
use Rattle.query_tree.proofs.Frame.{stay_seen, ask_stay}
use Rattle.query_tree.proofs.Covers.{rest_covers, pushed_covers}
use Rattle.query_tree.proofs.forest.Forest.ask.Goals as goal

pub overflow_sub-left : goal.overflow_sub-left
overflow_sub-left g c =
    let es = c.self.inside.entries.items in
    let is = ap (λ (w : Woods g.row.T.Denot). w.entries) c.self.view_is in
    let l = c.args.lent in
    let a = at_work es c.args.self.now.entries l.id l.left c.args.steps l.waiting is c.self.invariant.kept c.requires.lent c.requires.steps
    c.index.result.now c.index.ensures c.in_default.not-Dropped in
    let same = c.index-own.ensures ∙ get_or_from_slice_get es l.id c.requires.lent.own c.index-own.result.now a.at in
    omega (arith, a.left, ap (λ (x : Entry g.row.T.Denot). x.left) same)

pub rest-requires : goal.rest-requires
rest-requires g c =
    let es = c.self.inside.entries.items in
    let is = ap (λ (w : Woods g.row.T.Denot). w.entries) c.self.view_is in
    let l = c.args.lent in
    let a = at_work es c.args.self.now.entries l.id l.left c.args.steps l.waiting is c.self.invariant.kept c.requires.lent c.requires.steps
    c.index.result.now c.index.ensures c.in_default.not-Dropped in
    let own = c.requires.lent.own in
    rw c.deref_mut.ensures.value (record {
      here = a.here;
      fits = λ x b. omega (arith, a.spent, ap (λ (x : Entry g.row.T.Denot). x.spent) (one_at es l.id l.id own x a.at b refl));
      live = c.self.invariant.counts;
    })

pub invariant_of-self : goal.invariant_of-self
invariant_of-self g c =
    let es = c.self.inside.entries.items in
    let is = ap (λ (w : Woods g.row.T.Denot). w.entries) c.self.view_is in
    let l = c.args.lent in
    let a = at_work es c.args.self.now.entries l.id l.left c.args.steps l.waiting is c.self.invariant.kept c.requires.lent c.requires.steps
    c.index.result.now c.index.ensures c.in_default.not-Dropped in
    let own = c.requires.lent.own in
    let same = c.index-own.ensures ∙ get_or_from_slice_get es l.id own c.index-own.result.now a.at in
    let says = rw (c.deref_mut.ensures.value, c.at_rest.ensures, same) at c.rest.ensures.entries in
    let new : c.rest.new.entries ≡ changed (less_at own l.id c.args.steps l.payload (part (own.left - c.args.steps))) es = says own a.at in
    let taken = take_at c.rest.new.entries (drop (length c.rest.new.entries) es) c.self.inside.entries.len (omega arith) in
    let pushed : c.push_reserved.new.self.items ≡ after_ask es own l.id c.args.steps l.payload c.args.child = c.push_reserved.ensures.items
    ∙ rw (taken, new, c.at_rest-status.ensures, same) refl in
    let n = length_changed (less_at own l.id c.args.steps l.payload (part (own.left - c.args.steps))) 0 es in
    let counts : Counts (changed (less_at own l.id c.args.steps l.payload (part (own.left - c.args.steps))) es) c.rest.new.live =
    subst (λ (xs : List (Entry g.row.T.Denot)). Counts xs c.rest.new.live) new c.rest.ensures.live in
    let lives : is_live (at_rest (part (own.left - c.args.steps))) ≡ c.is_live.result =
    sym (c.is_live.ensures ∙ ap is_live (c.at_rest-status.ensures ∙ rw same refl)) in
    let m = length_push (changed (less_at own l.id c.args.steps l.payload (part (own.left - c.args.steps))) es)
    (child_of own l.id c.args.steps c.args.child) in
    let room : length es < c.self.inside.room = omega (
      arith,
      c.requires.room,
      ap (λ (w : Woods g.row.T.Denot). length w.entries)
          c.self.view_is,
      ap (λ (w : Woods g.row.T.Denot). w.room) c.self.view_is,
    ) in
    let notes : NotesJob c.self.inside.ready c.note_job.new.self l.id own.parent =
    subst (λ (x : Entry g.row.T.Denot). NotesJob c.self.inside.ready c.note_job.new.self l.id x.parent) same c.note_job.ensures in
    let mid : Covers (changed (less_at own l.id c.args.steps l.payload (part (own.left - c.args.steps))) es) c.note_job.new.self =
    rest_covers es own l.id (at_rest ((own.left - c.args.steps) - part (own.left - c.args.steps)))
    ((own.left - c.args.steps) - part (own.left - c.args.steps)) c.args.steps l.payload c.self.inside.ready c.note_job.new.self notes
    c.self.invariant.covers in
    let number : c.len-number.result ≡ length (changed (less_at own l.id c.args.steps l.payload (part (own.left - c.args.steps))) es) =
    omega (arith, c.len-number.ensures, ap length new, ap length taken) in
    record {
      kept = subst IsKept (sym pushed) (ask_kept es own l.id a.at a.running c.args.steps l.payload a.le c.args.child c.self.invariant.kept);
      within = omega (arith, ap length pushed, n, m, room);
      reserved = omega (arith, c.push_reserved.ensures.capacity, c.self.invariant.reserved);
      small = c.self.invariant.small;
      live_room = ap (λ (x : Counted). x.room) c.add-2.ensures ∙ (c.rest.ensures.room ∙ c.self.invariant.live_room);
      counts = rw (pushed, c.add-2.ensures) (added_counts _ c.rest.new.live (child_of own l.id c.args.steps c.args.child) (Some l.id)
          c.is_live.result refl lives (some_below l.id _ (omega (arith, a.here, n))) (omega (arith, c.self.invariant.small, room, n))
          counts);
      kin_room = c.add-3.ensures.room ∙ c.self.invariant.kin_room;
      links = subst (λ (xs : List (Entry g.row.T.Denot)). Links xs c.add-3.new.self) (sym pushed) (links_pushed _
          (child_of own l.id c.args.steps c.args.child) c.self.inside.kin c.add-3.new.self c.add-3.ensures
          (rest_links es own l.id a.at (at_rest ((own.left - c.args.steps) - part (own.left - c.args.steps)))
          ((own.left - c.args.steps) - part (own.left - c.args.steps)) c.args.steps l.payload c.self.inside.kin c.self.invariant.links)
          (some_below l.id _ (omega (arith, a.here, n))) counts.above);
      list_room = c.add.ensures.room ∙ (notes.room ∙ c.self.invariant.list_room);
      covers = subst (λ (xs : List (Entry g.row.T.Denot)). Covers xs c.add.new.self) (sym pushed)
          (pushed_covers _ (child_of own l.id c.args.steps c.args.child) c.note_job.new.self c.add.new.self c.len-number.result number
          c.add.ensures mid);
    }

pub returns : goal.returns
returns g c =
    let es = c.self.inside.entries.items in
    let is = ap (λ (w : Woods g.row.T.Denot). w.entries) c.self.view_is in
    let l = c.args.lent in
    let a = at_work es c.args.self.now.entries l.id l.left c.args.steps l.waiting is c.self.invariant.kept c.requires.lent c.requires.steps
    c.index.result.now c.index.ensures c.in_default.not-Dropped in
    let own = c.requires.lent.own in
    let same = c.index-own.ensures ∙ get_or_from_slice_get es l.id own c.index-own.result.now a.at in
    let says = rw (c.deref_mut.ensures.value, c.at_rest.ensures, same) at c.rest.ensures.entries in
    let new : c.rest.new.entries ≡ changed (less_at own l.id c.args.steps l.payload (part (own.left - c.args.steps))) es = says own a.at in
    let taken = take_at c.rest.new.entries (drop (length c.rest.new.entries) es) c.self.inside.entries.len (omega arith) in
    let pushed : c.push_reserved.new.self.items ≡ after_ask es own l.id c.args.steps l.payload c.args.child = c.push_reserved.ensures.items
    ∙ rw (taken, new, c.at_rest-status.ensures, same) refl in
    record {
      room = ap (λ (w : Woods g.row.T.Denot). w.room) c.self.view_is;
      asked = (
        omega (
          arith,
          c.len-number.ensures,
          ap (λ (w : Woods g.row.T.Denot). length w.entries) c.self.view_is,
          length_changed (less_at own l.id c.args.steps l.payload (part (own.left - c.args.steps))) 0 es,
          ap length new,
          ap length taken,
        ),
        record {
          own = own;
          at = c.requires.lent.at;
          running = a.running;
          becomes = pushed ∙ ap (λ (xs : List (Entry g.row.T.Denot)). after_ask xs own l.id c.args.steps l.payload c.args.child) is;
        },
      );
      others = stay_seen _ _ _ _ l.id is pushed (ask_stay es own l.id c.args.steps l.payload c.args.child);
    }

pub note_job-requires : goal.note_job-requires
note_job-requires g c =
    let es = c.self.inside.entries.items in
    let is = ap (λ (w : Woods g.row.T.Denot). w.entries) c.self.view_is in
    let l = c.args.lent in
    let a = at_work es c.args.self.now.entries l.id l.left c.args.steps l.waiting is c.self.invariant.kept c.requires.lent c.requires.steps
    c.index.result.now c.index.ensures c.in_default.not-Dropped in
    let own = c.requires.lent.own in
    let same = c.index-own.ensures ∙ get_or_from_slice_get es l.id own c.index-own.result.now a.at in
    let size = c.self.invariant.covers.size in
    record {
      own = omega (arith, a.here, size);
      above = λ p n. omega (arith, a.here, size, a.above p (ap (λ (x : Entry g.row.T.Denot). x.parent) (sym same) ∙ n));
    }

pub add-requires : goal.add-requires
add-requires g c =
    let es = c.self.inside.entries.items in
    let i = c.self.invariant in
    let room : length es < c.self.inside.room = omega (
      arith,
      c.requires.room,
      ap (λ (w : Woods g.row.T.Denot). length w.entries) c.self.view_is,
      ap (λ (w : Woods g.row.T.Denot). w.room) c.self.view_is,
    ) in
    let taken = take_at c.rest.new.entries (drop (length c.rest.new.entries) es) c.self.inside.entries.len (omega arith) in
    let same : length c.rest.new.entries ≡ length es = omega (arith, c.rest.auto.entries, c.deref_mut.ensures.len) in
    let size : length c.note_job.new.self.marks ≡ length es = c.note_job.ensures.size ∙ i.covers.size in
    record {
      room = omega (arith, room, size, c.note_job.ensures.room, i.list_room);
      next = omega (arith, c.len-number.ensures, ap length taken, same, size);
    }

pub add-requires-2 : goal.add-requires-2
add-requires-2 g c =
    let es = c.self.inside.entries.items in
    let is = ap (λ (w : Woods g.row.T.Denot). w.entries) c.self.view_is in
    let l = c.args.lent in
    let a = at_work es c.args.self.now.entries l.id l.left c.args.steps l.waiting is c.self.invariant.kept c.requires.lent c.requires.steps
    c.index.result.now c.index.ensures c.in_default.not-Dropped in
    let own = c.requires.lent.own in
    let same = c.index-own.ensures ∙ get_or_from_slice_get es l.id own c.index-own.result.now a.at in
    let says = rw (c.deref_mut.ensures.value, c.at_rest.ensures, same) at c.rest.ensures.entries in
    let new : c.rest.new.entries ≡ changed (less_at own l.id c.args.steps l.payload (part (own.left - c.args.steps))) es = says own a.at in
    let n = length_changed (less_at own l.id c.args.steps l.payload (part (own.left - c.args.steps))) 0 es in
    let counts : Counts (changed (less_at own l.id c.args.steps l.payload (part (own.left - c.args.steps))) es) c.rest.new.live =
    subst (λ (xs : List (Entry g.row.T.Denot)). Counts xs c.rest.new.live) new c.rest.ensures.live in
    let lives : is_live (at_rest (part (own.left - c.args.steps))) ≡ c.is_live.result =
    sym (c.is_live.ensures ∙ ap is_live (c.at_rest-status.ensures ∙ rw same refl)) in
    let room : length es < c.self.inside.room = omega (
      arith,
      c.requires.room,
      ap (λ (w : Woods g.row.T.Denot). length w.entries)
          c.self.view_is,
      ap (λ (w : Woods g.row.T.Denot). w.room) c.self.view_is,
    ) in
    record {
      room = omega (arith, counts.size, n, room, c.rest.ensures.room, c.self.invariant.live_room);
      may = may_add _ c.rest.new.live (child_of own l.id c.args.steps c.args.child) (Some l.id) c.is_live.result refl lives
          (some_below l.id _ (omega (arith, a.here, n))) (omega (arith, c.self.invariant.small, room, n)) counts;
    }

pub add-requires-3 : goal.add-requires-3
add-requires-3 g c =
    let es = c.self.inside.entries.items in
    let is = ap (λ (w : Woods g.row.T.Denot). w.entries) c.self.view_is in
    let l = c.args.lent in
    let a = at_work es c.args.self.now.entries l.id l.left c.args.steps l.waiting is c.self.invariant.kept c.requires.lent c.requires.steps
    c.index.result.now c.index.ensures c.in_default.not-Dropped in
    let i = c.self.invariant in
    let room : length es < c.self.inside.room = omega (
      arith,
      c.requires.room,
      ap (λ (w : Woods g.row.T.Denot). length w.entries)
          c.self.view_is,
      ap (λ (w : Woods g.row.T.Denot). w.room) c.self.view_is,
    ) in
    record {
      room = omega (arith, room, i.links.latest_size, i.kin_room);
      small = omega (arith, room, i.links.latest_size, i.small);
      same = omega (arith, i.links.latest_size, i.links.older_size);
      above = some_below l.id _ (omega (arith, a.here, i.links.latest_size));
    }
