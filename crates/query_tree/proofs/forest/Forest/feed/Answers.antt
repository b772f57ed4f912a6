use Rattle.std.proofs.Common.{◌≡◌, ◌-◌, List, Some, length, take, drop, ◌++◌, refl, sym, ap, ◌∙◌, subst, arith}
use Rattle.std.specs.Prelude.{slice_get}
use Rattle.std.proofs.lemmas.List.{take_at}
use Rattle.std.proofs.lemmas.Option.{get_or_from_slice_get}
use Rattle.query_tree.specs.declared.Entry.{Entry}
use Rattle.query_tree.specs.Forest.{after_feed, less_at, share, changed, at_rest}
use Rattle.query_tree.specs.Live.{Counts}
use Rattle.query_tree.specs.Ready.{NotesJob, Covers}
use Rattle.query_tree.specs.Woods.{Woods}
use Rattle.query_tree.proofs.Chains.{rest_links, fed_links}
use Rattle.query_tree.proofs.Lists.{length_changed, within}
use Rattle.query_tree.proofs.Tests.{one_at}
use Rattle.query_tree.proofs.Calls.{at_work}
use Rattle.query_tree.proofs.Feed.{feed_kept, child_there, feed_fits}
use Rattle.query_tree.proofs.Frame.{stay_seen, feed_stay}
use Rattle.query_tree.proofs.Covers.{rest_covers, fed_covers}
use Rattle.query_tree.proofs.forest.Forest.feed.Goals as goal

pub overflow_sub-left : goal.overflow_sub-left
overflow_sub-left g c =
    let es = c.self.inside.entries.items in
    let is = ap (λ (w : Woods g.row.T.Denot). w.entries) c.self.view_is in
    let l = c.args.lent in
    let a = at_work es c.args.self.now.entries l.id l.left c.args.steps l.waiting is c.self.invariant.kept c.requires.lent c.requires.steps
    c.index.result.now c.index.ensures c.in_default.not-Dropped in
    let own = c.requires.lent.own in
    let same = c.index-own.ensures ∙ get_or_from_slice_get es l.id own c.index-own.result.now a.at in
    let ch = c.requires.child.entry in
    let at_c : slice_get es c.args.child ≡ Some ch = ap (λ (xs : List (Entry g.row.T.Denot)). slice_get xs c.args.child) is
    ∙ c.requires.child.at in
    omega (arith, a.left, ap (λ (x : Entry g.row.T.Denot). x.left) same)

pub index-requires-2 : goal.index-requires-2
index-requires-2 g c =
    let es = c.self.inside.entries.items in
    let is = ap (λ (w : Woods g.row.T.Denot). w.entries) c.self.view_is in
    let l = c.args.lent in
    let a = at_work es c.args.self.now.entries l.id l.left c.args.steps l.waiting is c.self.invariant.kept c.requires.lent c.requires.steps
    c.index.result.now c.index.ensures c.in_default.not-Dropped in
    let own = c.requires.lent.own in
    let same = c.index-own.ensures ∙ get_or_from_slice_get es l.id own c.index-own.result.now a.at in
    let ch = c.requires.child.entry in
    let at_c : slice_get es c.args.child ≡ Some ch = ap (λ (xs : List (Entry g.row.T.Denot)). slice_get xs c.args.child) is
    ∙ c.requires.child.at in
    omega (arith, within es c.args.child ch at_c, c.self.inside.entries.ok.0)

pub rest-requires : goal.rest-requires
rest-requires g c =
    let es = c.self.inside.entries.items in
    let is = ap (λ (w : Woods g.row.T.Denot). w.entries) c.self.view_is in
    let l = c.args.lent in
    let a = at_work es c.args.self.now.entries l.id l.left c.args.steps l.waiting is c.self.invariant.kept c.requires.lent c.requires.steps
    c.index.result.now c.index.ensures c.in_default.not-Dropped in
    let own = c.requires.lent.own in
    let same = c.index-own.ensures ∙ get_or_from_slice_get es l.id own c.index-own.result.now a.at in
    let ch = c.requires.child.entry in
    let at_c : slice_get es c.args.child ≡ Some ch = ap (λ (xs : List (Entry g.row.T.Denot)). slice_get xs c.args.child) is
    ∙ c.requires.child.at in
    rw c.deref_mut.ensures.value (record {
      here = a.here;
      fits = λ x b. omega (arith, a.spent, ap (λ (x : Entry g.row.T.Denot). x.spent) (one_at es l.id l.id own x a.at b refl));
      live = c.self.invariant.counts;
    })

pub feed-requires : goal.feed-requires
feed-requires g c =
    let es = c.self.inside.entries.items in
    let is = ap (λ (w : Woods g.row.T.Denot). w.entries) c.self.view_is in
    let l = c.args.lent in
    let a = at_work es c.args.self.now.entries l.id l.left c.args.steps l.waiting is c.self.invariant.kept c.requires.lent c.requires.steps
    c.index.result.now c.index.ensures c.in_default.not-Dropped in
    let own = c.requires.lent.own in
    let same = c.index-own.ensures ∙ get_or_from_slice_get es l.id own c.index-own.result.now a.at in
    let ch = c.requires.child.entry in
    let at_c : slice_get es c.args.child ≡ Some ch = ap (λ (xs : List (Entry g.row.T.Denot)). slice_get xs c.args.child) is
    ∙ c.requires.child.at in
    let there = c.index-2.ensures ∙ get_or_from_slice_get es c.args.child ch c.index-2.result.now at_c in
    let part : c.share-part.result ≡ share ch (own.left - c.args.steps) = c.share-part.ensures ∙ rw (there, same) refl in
    let says = rw (c.deref_mut.ensures.value, c.at_rest.ensures, part, same) at c.rest.ensures.entries in
    let mid : c.rest.new.entries ≡ changed (less_at own l.id c.args.steps l.payload (share ch (own.left - c.args.steps))) es = says own a.at
    in
    let taken = take_at c.rest.new.entries (drop (length c.rest.new.entries) es) c.self.inside.entries.len (omega arith) in
    let mid2 : c.deref_mut-2.result.now ≡ changed (less_at own l.id c.args.steps l.payload (share ch (own.left - c.args.steps))) es =
    c.deref_mut-2.ensures.value ∙ (taken ∙ mid) in
    let len = length_changed (less_at own l.id c.args.steps l.payload (share ch (own.left - c.args.steps))) 0 es in
    record {
      here = omega (arith, ap length mid2, len, within es c.args.child ch at_c);
      fits = λ x b.
          let e : x ≡ ch = one_at (changed (less_at own l.id c.args.steps l.payload (share ch (own.left - c.args.steps))) es) c.args.child
          c.args.child ch x
          (child_there es own l.id a.at a.running c.args.steps l.payload a.le c.args.child ch at_c c.requires.child.parent
          c.self.invariant.kept)
          (ap (λ (xs : List (Entry g.row.T.Denot)). slice_get xs c.args.child) (sym mid2) ∙ b) refl in
          omega (
            arith,
            ap (λ (y : Entry g.row.T.Denot). y.left) e,
            part,
            feed_fits es own l.id a.at a.running c.args.steps l.payload a.le
                c.args.child ch at_c c.requires.child.parent c.self.invariant.kept,
          );
      live = subst (λ (xs : List (Entry g.row.T.Denot)). Counts xs c.rest.new.live) (sym (c.deref_mut-2.ensures.value ∙ taken))
          c.rest.ensures.live;
    }

pub invariant_of-self : goal.invariant_of-self
invariant_of-self g c =
    let es = c.self.inside.entries.items in
    let is = ap (λ (w : Woods g.row.T.Denot). w.entries) c.self.view_is in
    let l = c.args.lent in
    let a = at_work es c.args.self.now.entries l.id l.left c.args.steps l.waiting is c.self.invariant.kept c.requires.lent c.requires.steps
    c.index.result.now c.index.ensures c.in_default.not-Dropped in
    let own = c.requires.lent.own in
    let same = c.index-own.ensures ∙ get_or_from_slice_get es l.id own c.index-own.result.now a.at in
    let ch = c.requires.child.entry in
    let at_c : slice_get es c.args.child ≡ Some ch = ap (λ (xs : List (Entry g.row.T.Denot)). slice_get xs c.args.child) is
    ∙ c.requires.child.at in
    let there = c.index-2.ensures ∙ get_or_from_slice_get es c.args.child ch c.index-2.result.now at_c in
    let part : c.share-part.result ≡ share ch (own.left - c.args.steps) = c.share-part.ensures ∙ rw (there, same) refl in
    let says = rw (c.deref_mut.ensures.value, c.at_rest.ensures, part, same) at c.rest.ensures.entries in
    let mid : c.rest.new.entries ≡ changed (less_at own l.id c.args.steps l.payload (share ch (own.left - c.args.steps))) es = says own a.at
    in
    let taken = take_at c.rest.new.entries (drop (length c.rest.new.entries) es) c.self.inside.entries.len (omega arith) in
    let mid2 : c.deref_mut-2.result.now ≡ changed (less_at own l.id c.args.steps l.payload (share ch (own.left - c.args.steps))) es =
    c.deref_mut-2.ensures.value ∙ (taken ∙ mid) in
    let len = length_changed (less_at own l.id c.args.steps l.payload (share ch (own.left - c.args.steps))) 0 es in
    let done : c.feed.new.entries ≡ after_feed es own l.id c.args.steps l.payload c.args.child ch = c.feed.ensures.entries ∙ rw (mid2, part)
    refl in
    let taken2 = take_at c.feed.new.entries
    (drop (length c.feed.new.entries) (take c.self.inside.entries.len (c.rest.new.entries ++ drop (length c.rest.new.entries) es)))
    c.self.inside.entries.len (omega (arith, ap length mid2)) in
    let notes : NotesJob c.self.inside.ready c.note_job.new.self l.id own.parent =
    subst (λ (x : Entry g.row.T.Denot). NotesJob c.self.inside.ready c.note_job.new.self l.id x.parent) same c.note_job.ensures in
    let first : Covers (changed (less_at own l.id c.args.steps l.payload (share ch (own.left - c.args.steps))) es) c.note_job.new.self =
    rest_covers es own l.id (at_rest ((own.left - c.args.steps) - share ch (own.left - c.args.steps)))
    ((own.left - c.args.steps) - share ch (own.left - c.args.steps)) c.args.steps l.payload c.self.inside.ready c.note_job.new.self notes
    c.self.invariant.covers in
    rw (taken2, done) (record {
      kept = feed_kept es own l.id a.at a.running c.args.steps l.payload a.le c.args.child ch at_c c.requires.child.parent
          c.self.invariant.kept;
      within = omega (arith, c.self.invariant.within, ap length done, c.feed.auto.entries, ap length mid2, len);
      reserved = c.self.invariant.reserved;
      small = c.self.invariant.small;
      list_room = c.note.ensures.room ∙ (notes.room ∙ c.self.invariant.list_room);
      covers = fed_covers _ c.args.child (share ch (own.left - c.args.steps)) c.note_job.new.self c.note.new.self c.note.ensures first;
      live_room = c.feed.ensures.room ∙ (c.rest.ensures.room ∙ c.self.invariant.live_room);
      counts = subst (λ (xs : List (Entry g.row.T.Denot)). Counts xs c.feed.new.live) done c.feed.ensures.live;
      kin_room = c.self.invariant.kin_room;
      links = fed_links _ c.args.child (share ch (own.left - c.args.steps)) c.self.inside.kin (rest_links es own l.id a.at
          (at_rest ((own.left - c.args.steps) - share ch (own.left - c.args.steps)))
          ((own.left - c.args.steps) - share ch (own.left - c.args.steps)) c.args.steps l.payload c.self.inside.kin c.self.invariant.links);
    })

pub returns : goal.returns
returns g c =
    let es = c.self.inside.entries.items in
    let is = ap (λ (w : Woods g.row.T.Denot). w.entries) c.self.view_is in
    let l = c.args.lent in
    let a = at_work es c.args.self.now.entries l.id l.left c.args.steps l.waiting is c.self.invariant.kept c.requires.lent c.requires.steps
    c.index.result.now c.index.ensures c.in_default.not-Dropped in
    let own = c.requires.lent.own in
    let same = c.index-own.ensures ∙ get_or_from_slice_get es l.id own c.index-own.result.now a.at in
    let ch = c.requires.child.entry in
    let at_c : slice_get es c.args.child ≡ Some ch = ap (λ (xs : List (Entry g.row.T.Denot)). slice_get xs c.args.child) is
    ∙ c.requires.child.at in
    let there = c.index-2.ensures ∙ get_or_from_slice_get es c.args.child ch c.index-2.result.now at_c in
    let part : c.share-part.result ≡ share ch (own.left - c.args.steps) = c.share-part.ensures ∙ rw (there, same) refl in
    let says = rw (c.deref_mut.ensures.value, c.at_rest.ensures, part, same) at c.rest.ensures.entries in
    let mid : c.rest.new.entries ≡ changed (less_at own l.id c.args.steps l.payload (share ch (own.left - c.args.steps))) es = says own a.at
    in
    let taken = take_at c.rest.new.entries (drop (length c.rest.new.entries) es) c.self.inside.entries.len (omega arith) in
    let mid2 : c.deref_mut-2.result.now ≡ changed (less_at own l.id c.args.steps l.payload (share ch (own.left - c.args.steps))) es =
    c.deref_mut-2.ensures.value ∙ (taken ∙ mid) in
    let len = length_changed (less_at own l.id c.args.steps l.payload (share ch (own.left - c.args.steps))) 0 es in
    let done : c.feed.new.entries ≡ after_feed es own l.id c.args.steps l.payload c.args.child ch = c.feed.ensures.entries ∙ rw (mid2, part)
    refl in
    let taken2 = take_at c.feed.new.entries
    (drop (length c.feed.new.entries) (take c.self.inside.entries.len (c.rest.new.entries ++ drop (length c.rest.new.entries) es)))
    c.self.inside.entries.len (omega (arith, ap length mid2)) in
    record {
      room = ap (λ (w : Woods g.row.T.Denot). w.room) c.self.view_is;
      fed = record {
        own = own;
        at = c.requires.lent.at;
        running = a.running;
        entry = ch;
        child_at = c.requires.child.at;
        becomes = taken2 ∙ (done ∙ ap (λ (xs : List (Entry g.row.T.Denot)). after_feed xs own l.id c.args.steps l.payload c.args.child ch)
            is);
      };
      others = stay_seen _ _ _ _ l.id is (taken2 ∙ done)
          (feed_stay es own l.id a.at a.running c.args.steps l.payload a.le c.args.child ch at_c c.requires.child.parent
          c.self.invariant.kept);
    }

pub note_job-requires : goal.note_job-requires
note_job-requires g c =
    let es = c.self.inside.entries.items in
    let is = ap (λ (w : Woods g.row.T.Denot). w.entries) c.self.view_is in
    let l = c.args.lent in
    let a = at_work es c.args.self.now.entries l.id l.left c.args.steps l.waiting is c.self.invariant.kept c.requires.lent c.requires.steps
    c.index.result.now c.index.ensures c.in_default.not-Dropped in
    let own = c.requires.lent.own in
    let same = c.index-own.ensures ∙ get_or_from_slice_get es l.id own c.index-own.result.now a.at in
    let size = c.self.invariant.covers.size in
    record {
      own = omega (arith, a.here, size);
      above = λ p n. omega (arith, a.here, size, a.above p (ap (λ (x : Entry g.row.T.Denot). x.parent) (sym same) ∙ n));
    }

pub note-requires : goal.note-requires
note-requires g c =
    let es = c.self.inside.entries.items in
    let is = ap (λ (w : Woods g.row.T.Denot). w.entries) c.self.view_is in
    let ch = c.requires.child.entry in
    let at_c : slice_get es c.args.child ≡ Some ch = ap (λ (xs : List (Entry g.row.T.Denot)). slice_get xs c.args.child) is
    ∙ c.requires.child.at in
    let size : length c.note_job.new.self.marks ≡ length es = c.note_job.ensures.size ∙ c.self.invariant.covers.size in
    omega (arith, within es c.args.child ch at_c, size)
