use Rattle.std.proofs.Common.{◌≡◌, ◌∙◌, ◌<◌, ◌||◌, ◌==◌, length, arith, refl, sym, subst, ap}
use Rattle.std.specs.Prelude.{IsTrue, Some, slice_get, slice_index}
use Rattle.std.specs.List.{list_any}
use Rattle.abstract_path.specs.Routes.{is_at}
use Rattle.may_partition.specs.Shown.{Shown, have_regions, is_live}
use Rattle.may_partition.specs.declared.region.RegionEdge.{RegionEdge}
use Rattle.may_partition.specs.Parted.{parent}
use Rattle.query_rules.specs.Paths.{is_marked}
use Rattle.punch_step.specs.steps.Far.{AreAtLeast}
use Rattle.punch_step.specs.steps.Following.{AreOf}
use Rattle.punch_step.proofs.FarAway.{all_divided}
use Rattle.punch_step.proofs.Followed.{on_ok}
use Rattle.punch_step.proofs.Near.{kept_far}
use Rattle.punch_step.proofs.Noting.{noted_split}
use Rattle.punch_step.proofs.Standing.{live_within}
use Rattle.punch_step.proofs.distances.Distances.divide.Goals as goal

pub settle-requires : goal.settle-requires
settle-requires c =
    let s = c.args.state.now in let d = c.args.self.now in let old = c.requires.split.old in let h = c.requires.split.far in
    let now = c.copy_far.new.self in let copied = c.in_ok-copy_far.ensures in
    let n = h.fars in
    let m : length c.regions-regions.result.now ≡ length s.partition.regions =
    ap length (c.regions-regions.ensures ∙ ap (λ (p : Shown). p.regions) c.partition-2.ensures) in
    record {
      far = subst (λ (p : Shown). AreAtLeast (length p.regions) p.edges now.shut now.target now.reach.far.items now.reach.way.items)
          (sym c.partition-3.ensures)
          (kept_far (length s.partition.regions) s.partition.edges d.shut d.target now.reach now copied.rest.target copied.rest.shut refl
          (all_divided old.edges d.shut s.partition.edges d.reach.far.items now.reach.far.items now.reach.way.items (length old.regions)
          (length s.partition.regions) c.args.from d.target d.reach.way.items h
          (ap (list_any (λ (e : RegionEdge). e.from == c.args.from || e.to == c.args.from)) (sym c.as_slice.ensures.value)
          ∙ sym c.touches.ensures ∙ c.if-touches.false) c.requires.split.live
          (live_within (length s.partition.regions) s.partition.edges
          (subst (λ (p : Shown). IsTrue (have_regions (length p.regions) p.edges)) c.partition.ensures c.live_within.ensures))
          c.requires.split.more
          (λ r l. copied.far r (omega (arith, l, m)) ∙ ap (λ k. slice_index d.reach.far.items (parent k c.args.from r)) n)
          (copied.fars ∙ m) (copied.ways ∙ m)));
    }

pub returns-clause-followed : goal.returns-clause-followed
returns-clause-followed c =
    let s = c.args.state.now in let d = c.args.self.now in let split = c.requires.split in
    let now = c.settle.new.self in let rest = c.settle.ensures.rest in let copied = c.in_ok-copy_far.ensures in
    let m : length c.regions-regions.result.now ≡ length s.partition.regions =
    ap length (c.regions-regions.ensures ∙ ap (λ (p : Shown). p.regions) c.partition-2.ensures) in
    on_ok c.settle.result (record {
      shut = λ e. ap (λ l. is_live l e) (rest.shut ∙ copied.rest.shut) ∙ split.shut e;
      many = ap length rest.marked ∙ c.in_ok-self-2.ensures.length ∙ m;
      marked = λ r. ap (λ bits. is_at bits r) rest.marked ∙ c.in_ok-self-2.ensures.marked r ∙ ap (λ ks. is_marked ks r) c.marks.ensures;
      target = subst (λ t. t < length s.partition.regions) (sym (rest.target ∙ copied.rest.target)) split.target;
      far = subst (λ (p : Shown). AreOf p now) c.partition-3.ensures c.settle.ensures.far;
      noted = noted_split c.args.from s d split now.noted.items (λ r e h.
          subst (λ v. slice_get v.items r ≡ Some (Some e)) copied.noted
          (c.in_ok-make_room.ensures r e (subst (λ v. slice_get v.items r ≡ Some (Some e)) c.settle.ensures.noted h)));
    })
