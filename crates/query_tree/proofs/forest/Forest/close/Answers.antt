use Rattle.std.proofs.Common.{◌≡◌, List, length, drop, sym, ap, ◌∙◌, subst, arith}
use Rattle.std.proofs.lemmas.List.{take_at}
use Rattle.std.proofs.lemmas.Option.{get_or_from_slice_get}
use Rattle.query_tree.specs.declared.Entry.{Entry}
use Rattle.query_tree.specs.Forest.{after_close, close_at}
use Rattle.query_tree.specs.Kin.{Links}
use Rattle.query_tree.specs.Live.{Counts}
use Rattle.query_tree.specs.Ready.{NotesAbove}
use Rattle.query_tree.specs.Woods.{Woods}
use Rattle.query_tree.proofs.Lists.{length_changed}
use Rattle.query_tree.proofs.Calls.{at_work}
use Rattle.query_tree.proofs.Close.{close_kept}
use Rattle.query_tree.proofs.Frame.{stay_seen, close_stay}
use Rattle.query_tree.proofs.Covers.{close_covers}
use Rattle.query_tree.proofs.forest.Forest.close.Goals as goal

pub invariant_of-self : goal.invariant_of-self
invariant_of-self g c =
    let es = c.self.inside.entries.items in
    let is = ap (λ (w : Woods g.row.T.Denot). w.entries) c.self.view_is in
    let l = c.args.lent in
    let a = at_work es c.args.self.now.entries l.id l.left c.args.steps l.waiting is c.self.invariant.kept c.requires.lent c.requires.steps
    c.index.result.now c.index.ensures c.in_default.not-Dropped in
    let own = c.requires.lent.own in
    let same = c.index-2.ensures ∙ get_or_from_slice_get es l.id own c.index-2.result.now a.at in
    let notes : NotesAbove c.self.inside.ready c.note_above.new.self own.parent =
    subst (λ (x : Entry g.row.T.Denot). NotesAbove c.self.inside.ready c.note_above.new.self x.parent) same c.note_above.ensures in
    let says = rw c.deref_mut.ensures.value at c.close.ensures.entries in
    let new : c.close.new.entries ≡ after_close es own l.id c.args.steps l.payload c.args.stamp = says own a.at in
    let taken = take_at c.close.new.entries (drop (length c.close.new.entries) es) c.self.inside.entries.len (omega arith) in
    rw (taken, new) (record {
      kept = close_kept es own l.id a.at a.running c.args.steps l.payload c.args.stamp a.le c.self.invariant.kept;
      within = omega (arith, c.self.invariant.within, length_changed (close_at es own l.id c.args.steps l.payload c.args.stamp) 0 es);
      reserved = c.self.invariant.reserved;
      small = c.self.invariant.small;
      list_room = notes.room ∙ c.self.invariant.list_room;
      covers = close_covers es own l.id c.args.steps l.payload c.args.stamp c.self.inside.ready c.note_above.new.self notes
          c.self.invariant.covers;
      live_room = c.close.ensures.live_room ∙ c.self.invariant.live_room;
      counts = subst (λ (xs : List (Entry g.row.T.Denot)). Counts xs c.close.new.live) new c.close.ensures.live;
      kin_room = c.close.ensures.kin_room ∙ c.self.invariant.kin_room;
      links = subst (λ (xs : List (Entry g.row.T.Denot)). Links xs c.close.new.kin) new c.close.ensures.kin;
    })

pub returns : goal.returns
returns g c =
    let es = c.self.inside.entries.items in
    let is = ap (λ (w : Woods g.row.T.Denot). w.entries) c.self.view_is in
    let l = c.args.lent in
    let a = at_work es c.args.self.now.entries l.id l.left c.args.steps l.waiting is c.self.invariant.kept c.requires.lent c.requires.steps
    c.index.result.now c.index.ensures c.in_default.not-Dropped in
    let own = c.requires.lent.own in
    let says = rw c.deref_mut.ensures.value at c.close.ensures.entries in
    let new : c.close.new.entries ≡ after_close es own l.id c.args.steps l.payload c.args.stamp = says own a.at in
    let taken = take_at c.close.new.entries (drop (length c.close.new.entries) es) c.self.inside.entries.len (omega arith) in
    record {
      room = ap (λ (w : Woods g.row.T.Denot). w.room) c.self.view_is;
      closed = record {
        own = own;
        at = c.requires.lent.at;
        running = a.running;
        becomes = taken ∙ (new ∙ ap (λ (xs : List (Entry g.row.T.Denot)). after_close xs own l.id c.args.steps l.payload c.args.stamp) is);
      };
      others = stay_seen _ _ _ _ l.id is (taken ∙ new)
          (close_stay es own l.id a.at a.running c.args.steps l.payload c.args.stamp c.self.invariant.kept);
    }

pub note_above-requires : goal.note_above-requires
note_above-requires g c =
    let es = c.self.inside.entries.items in
    let is = ap (λ (w : Woods g.row.T.Denot). w.entries) c.self.view_is in
    let l = c.args.lent in
    let a = at_work es c.args.self.now.entries l.id l.left c.args.steps l.waiting is c.self.invariant.kept c.requires.lent c.requires.steps
    c.index.result.now c.index.ensures c.in_default.not-Dropped in
    let own = c.requires.lent.own in
    let same = c.index-2.ensures ∙ get_or_from_slice_get es l.id own c.index-2.result.now a.at in
    let size = c.self.invariant.covers.size in
    λ p n. omega (arith, a.here, size, a.above p (ap (λ (x : Entry g.row.T.Denot). x.parent) (sym same) ∙ n))
