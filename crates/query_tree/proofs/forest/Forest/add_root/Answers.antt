use Rattle.std.proofs.Common.{◌≡◌, None, true, refl, ◌<◌, [], ◌∷◌, ◌++◌, length, sym, ap, ◌∙◌, subst, arith}
use Rattle.std.proofs.lemmas.List.{length_push}
use Rattle.query_tree.specs.Forest.{after_root, root_of}
use Rattle.query_tree.specs.Kept.{IsKept}
use Rattle.query_tree.specs.Kin.{Links}
use Rattle.query_tree.specs.Live.{Counted}
use Rattle.query_tree.specs.Ready.{Covers}
use Rattle.query_tree.specs.Woods.{Woods}
use Rattle.query_tree.proofs.Chains.{links_pushed}
use Rattle.query_tree.proofs.Counting.{may_add, added_counts}
use Rattle.query_tree.proofs.Covers.{pushed_covers}
use Rattle.query_tree.proofs.Feed.{root_kept}
use Rattle.query_tree.proofs.Frame.{stay_at, root_stay}
use Rattle.query_tree.proofs.forest.Forest.add_root.Goals as goal

pub invariant_of-self : goal.invariant_of-self
invariant_of-self g c =
    let es = c.self.inside.entries.items in
    let len : length es ≡ c.self.inside.entries.len = sym c.self.inside.entries.ok.0 in
    let number : c.len-id.result ≡ length es = c.len-id.ensures ∙ sym len in
    let pushed : c.push_reserved.new.self.items ≡ after_root es c.args.grant c.args.payload = c.push_reserved.ensures.items
    ∙ ap (λ n. es ++ root_of n c.args.grant c.args.payload ∷ []) number in
    let room : length es < c.self.inside.room = omega (
      arith,
      c.requires,
      ap (λ (w : Woods g.row.T.Denot). length w.entries) c.self.view_is,
      ap (λ (w : Woods g.row.T.Denot). w.room) c.self.view_is,
    ) in
    record {
      kept = subst IsKept (sym pushed) (root_kept es c.args.grant c.args.payload (omega arith) c.self.invariant.kept);
      within = omega (arith, ap length pushed, length_push es (root_of (length es) c.args.grant c.args.payload), room);
      reserved = omega (arith, c.push_reserved.ensures.capacity, c.self.invariant.reserved);
      small = c.self.invariant.small;
      list_room = c.add.ensures.room ∙ c.self.invariant.list_room;
      covers = subst (λ xs. Covers xs c.add.new.self) (sym pushed)
          (pushed_covers es (root_of (length es) c.args.grant c.args.payload) c.self.inside.ready c.add.new.self c.len-id.result number
          c.add.ensures c.self.invariant.covers);
      live_room = ap (λ (x : Counted). x.room) c.add-2.ensures ∙ c.self.invariant.live_room;
      counts = rw (pushed, c.add-2.ensures) (added_counts es c.self.inside.live (root_of (length es) c.args.grant c.args.payload) None true
          refl refl (λ p e. absurd (cc)) (omega (arith, c.self.invariant.small, room)) c.self.invariant.counts);
      kin_room = c.add-3.ensures.room ∙ c.self.invariant.kin_room;
      links = subst (λ xs. Links xs c.add-3.new.self) (sym pushed) (links_pushed es (root_of (length es) c.args.grant c.args.payload)
          c.self.inside.kin c.add-3.new.self c.add-3.ensures c.self.invariant.links (λ p e. absurd (cc))
          c.self.invariant.counts.above);
    }

pub returns-clause-others : goal.returns-clause-others
returns-clause-others g c =
    let es = c.self.inside.entries.items in
    let len : length es ≡ c.self.inside.entries.len = sym c.self.inside.entries.ok.0 in
    let number : c.len-id.result ≡ length es = c.len-id.ensures ∙ sym len in
    let pushed : c.push_reserved.new.self.items ≡ after_root es c.args.grant c.args.payload = c.push_reserved.ensures.items
    ∙ ap (λ n. es ++ root_of n c.args.grant c.args.payload ∷ []) number in
    let is = ap (λ (w : Woods g.row.T.Denot). w.entries) c.self.view_is in
    stay_at _ _ _ _ _ _ is pushed number (root_stay es c.args.grant c.args.payload)

pub add-requires : goal.add-requires
add-requires g c =
    let es = c.self.inside.entries.items in
    let len : length es ≡ c.self.inside.entries.len = sym c.self.inside.entries.ok.0 in
    let i = c.self.invariant in
    let room : length es < c.self.inside.room = omega (
      arith,
      c.requires,
      ap (λ (w : Woods g.row.T.Denot). length w.entries) c.self.view_is,
      ap (λ (w : Woods g.row.T.Denot). w.room) c.self.view_is,
    ) in
    record {
      room = omega (arith, room, i.list_room, i.covers.size);
      next = omega (arith, c.len-id.ensures, len, i.covers.size);
    }

pub add-requires-2-clause-may : goal.add-requires-2-clause-may
add-requires-2-clause-may g c =
    let es = c.self.inside.entries.items in
    let i = c.self.invariant in
    let room : length es < c.self.inside.room = omega (
      arith,
      c.requires,
      ap (λ (w : Woods g.row.T.Denot). length w.entries) c.self.view_is,
      ap (λ (w : Woods g.row.T.Denot). w.room) c.self.view_is,
    ) in
    may_add es c.self.inside.live (root_of (length es) c.args.grant c.args.payload) None true refl refl (λ p e. absurd (cc))
    (omega (arith, i.small, room)) i.counts
