use Rattle.std.proofs.Common.{◌≡◌, ℕ, ◌-◌, List, length, Bool, drop, refl, sym, ap, ◌∙◌, subst, arith}
use Rattle.std.proofs.lemmas.List.{take_at}
use Rattle.std.proofs.lemmas.Option.{get_or_from_slice_get}
use Rattle.query_tree.specs.declared.Rest.{Rest}
use Rattle.query_tree.specs.declared.Rest.TheVariants.{Ready as RestReady, Blocked as RestBlocked, Starved as RestStarved}
use Rattle.query_tree.specs.declared.Entry.{Entry}
use Rattle.query_tree.specs.Forest.{after_back, back_at, back_as}
use Rattle.query_tree.specs.Live.{Counts}
use Rattle.query_tree.specs.Ready.{NotesJob}
use Rattle.query_tree.specs.Woods.{Woods, MayGive}
use Rattle.query_tree.proofs.Chains.{rest_links}
use Rattle.query_tree.proofs.Lists.{length_changed}
use Rattle.query_tree.proofs.Tests.{MayRest, one_at}
use Rattle.query_tree.proofs.Calls.{at_work}
use Rattle.query_tree.proofs.Back.{back_kept}
use Rattle.query_tree.proofs.Frame.{stay_seen, back_stay}
use Rattle.query_tree.proofs.Covers.{rest_covers}
use Rattle.query_tree.proofs.forest.Forest.give_back.Goals as goal

may : (r : Rest) (steps left : ℕ) (w v : Bool) → v ≡ w → MayGive r steps left w → MayRest r v
may RestReady steps left w v e h = tt
may RestBlocked steps left w v e h = e ∙ h
may RestStarved steps left w v e h = tt

pub overflow_sub-left : goal.overflow_sub-left
overflow_sub-left g c =
    let es = c.self.inside.entries.items in
    let is = ap (λ (w : Woods g.row.T.Denot). w.entries) c.self.view_is in
    let l = c.args.lent in
    let a = at_work es c.args.self.now.entries l.id l.left c.args.steps l.waiting is c.self.invariant.kept c.requires.lent c.requires.steps
    c.index.result.now c.index.ensures c.in_default.not-Dropped in
    let same = c.index-own.ensures ∙ get_or_from_slice_get es l.id c.requires.lent.own c.index-own.result.now a.at in
    omega (arith, a.left, ap (λ (x : Entry g.row.T.Denot). x.left) same)

pub rest-requires : goal.rest-requires
rest-requires g c =
    let es = c.self.inside.entries.items in
    let is = ap (λ (w : Woods g.row.T.Denot). w.entries) c.self.view_is in
    let l = c.args.lent in
    let a = at_work es c.args.self.now.entries l.id l.left c.args.steps l.waiting is c.self.invariant.kept c.requires.lent c.requires.steps
    c.index.result.now c.index.ensures c.in_default.not-Dropped in
    let own = c.requires.lent.own in
    rw c.deref_mut.ensures.value (record {
      here = a.here;
      fits = λ x b. omega (arith, a.spent, ap (λ (x : Entry g.row.T.Denot). x.spent) (one_at es l.id l.id own x a.at b refl));
      live = c.self.invariant.counts;
    })

pub invariant_of-self : goal.invariant_of-self
invariant_of-self g c =
    let es = c.self.inside.entries.items in
    let is = ap (λ (w : Woods g.row.T.Denot). w.entries) c.self.view_is in
    let l = c.args.lent in
    let a = at_work es c.args.self.now.entries l.id l.left c.args.steps l.waiting is c.self.invariant.kept c.requires.lent c.requires.steps
    c.index.result.now c.index.ensures c.in_default.not-Dropped in
    let own = c.requires.lent.own in
    let same = c.index-own.ensures ∙ get_or_from_slice_get es l.id own c.index-own.result.now a.at in
    let says = rw (c.deref_mut.ensures.value, c.back_as-status.ensures, same) at c.rest.ensures.entries in
    let new : c.rest.new.entries ≡ after_back es own l.id c.args.steps c.args.rest l.payload = says own a.at in
    let taken = take_at c.rest.new.entries (drop (length c.rest.new.entries) es) c.self.inside.entries.len (omega arith) in
    let notes : NotesJob c.self.inside.ready c.note_job.new.self l.id own.parent =
    subst (λ (x : Entry g.row.T.Denot). NotesJob c.self.inside.ready c.note_job.new.self l.id x.parent) same c.note_job.ensures in
    rw (taken, new) (record {
      kept = back_kept es own l.id a.at a.running c.args.steps c.args.rest l.payload a.le (may c.args.rest c.args.steps l.left l.waiting
          own.waiting c.requires.lent.waiting_is c.requires.rest) c.self.invariant.kept;
      within = omega (arith, c.self.invariant.within, length_changed (back_at own l.id c.args.steps c.args.rest l.payload) 0 es);
      reserved = c.self.invariant.reserved;
      small = c.self.invariant.small;
      list_room = notes.room ∙ c.self.invariant.list_room;
      covers = rest_covers es own l.id (back_as c.args.rest own.stirred (own.left - c.args.steps)) (own.left - c.args.steps) c.args.steps
          l.payload c.self.inside.ready c.note_job.new.self notes c.self.invariant.covers;
      live_room = c.rest.ensures.room ∙ c.self.invariant.live_room;
      counts = subst (λ (xs : List (Entry g.row.T.Denot)). Counts xs c.rest.new.live) new c.rest.ensures.live;
      kin_room = c.self.invariant.kin_room;
      links = rest_links es own l.id a.at (back_as c.args.rest own.stirred (own.left - c.args.steps)) (own.left - c.args.steps) c.args.steps
          l.payload c.self.inside.kin c.self.invariant.links;
    })

pub returns : goal.returns
returns g c =
    let es = c.self.inside.entries.items in
    let is = ap (λ (w : Woods g.row.T.Denot). w.entries) c.self.view_is in
    let l = c.args.lent in
    let a = at_work es c.args.self.now.entries l.id l.left c.args.steps l.waiting is c.self.invariant.kept c.requires.lent c.requires.steps
    c.index.result.now c.index.ensures c.in_default.not-Dropped in
    let own = c.requires.lent.own in
    let same = c.index-own.ensures ∙ get_or_from_slice_get es l.id own c.index-own.result.now a.at in
    let says = rw (c.deref_mut.ensures.value, c.back_as-status.ensures, same) at c.rest.ensures.entries in
    let new : c.rest.new.entries ≡ after_back es own l.id c.args.steps c.args.rest l.payload = says own a.at in
    let taken = take_at c.rest.new.entries (drop (length c.rest.new.entries) es) c.self.inside.entries.len (omega arith) in
    record {
      room = ap (λ (w : Woods g.row.T.Denot). w.room) c.self.view_is;
      given = record {
        own = own;
        at = c.requires.lent.at;
        running = a.running;
        becomes = taken ∙ (new ∙ ap (λ (xs : List (Entry g.row.T.Denot)). after_back xs own l.id c.args.steps c.args.rest l.payload) is);
      };
      others = stay_seen _ _ _ _ l.id is (taken ∙ new) (back_stay es own l.id c.args.steps c.args.rest l.payload);
    }

pub note_job-requires : goal.note_job-requires
note_job-requires g c =
    let es = c.self.inside.entries.items in
    let is = ap (λ (w : Woods g.row.T.Denot). w.entries) c.self.view_is in
    let l = c.args.lent in
    let a = at_work es c.args.self.now.entries l.id l.left c.args.steps l.waiting is c.self.invariant.kept c.requires.lent c.requires.steps
    c.index.result.now c.index.ensures c.in_default.not-Dropped in
    let own = c.requires.lent.own in
    let same = c.index-own.ensures ∙ get_or_from_slice_get es l.id own c.index-own.result.now a.at in
    let size = c.self.invariant.covers.size in
    record {
      own = omega (arith, a.here, size);
      above = λ p n. omega (arith, a.here, size, a.above p (ap (λ (x : Entry g.row.T.Denot). x.parent) (sym same) ∙ n));
    }
