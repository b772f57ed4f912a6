use Rattle.std.proofs.Common.{◌≡◌, ℕ, suc, ◌+◌, ◌≤◌, ◌<◌, List, [], ◌∷◌, ◌++◌, length, sym, ap, ◌∙◌, subst, arith, slice_index, slice_index_or}
use Rattle.std.proofs.lemmas.Option.{slice_get_within}
use Rattle.std.proofs.lemmas.List.{get_or_default, length-append}
use Rattle.abstract_path.specs.Routes.{IsRoute}
use Rattle.abstract_path.proofs.Walked.{far_enough, route_more, first_edge}
use Rattle.abstract_path.proofs.frontier.shortest.Goals as goal

read_is : (xs : List ℕ) (i n r : ℕ) → length xs ≡ n → i < n → r ≡ slice_index_or xs i r → r ≡ slice_index xs i
read_is xs i n r l h e = e ∙ get_or_default xs i r 0 (subst (λ m. i < m) (sym l) h)

pub returns-then-index-eq0-clause-shortest : goal.returns-then-index-eq0-clause-shortest
returns-then-index-eq0-clause-shortest c path r =
    let m = c.in_ok-far.ensures in
    (far_enough c.args.edges.now c.args.shut.now c.args.regions c.args.target c.in_ok-far.field-0.far.items c.in_ok-far.field-0.way.items m
    c.args.start path r).0 (sym (read_is c.in_ok-far.field-0.far.items c.args.start c.args.regions c.index.result.now m.fars
    c.requires.start
    c.index.ensures) ∙ c.if-index-eq0.true)

pub bounds-edges-number : goal.bounds-edges-number
bounds-edges-number c =
    let l = c.loop-here.invariant in
    slice_get_within c.args.edges.now _ _ (first_edge c.args.edges.now c.args.shut.now c.args.regions c.args.target
    c.in_ok-far.field-0.far.items c.in_ok-far.field-0.way.items c.loop-here.here c.index-number.result.now c.in_ok-far.ensures l.1
    c.loop-here-test.true c.index-number.ensures).0.0

pub loop-here-smaller : goal.loop-here-smaller
loop-here-smaller c =
    let l = c.loop-here.invariant in
    let f = first_edge c.args.edges.now c.args.shut.now c.args.regions c.args.target c.in_ok-far.field-0.far.items
    c.in_ok-far.field-0.way.items c.loop-here.here c.index-number.result.now c.in_ok-far.ensures l.1 c.loop-here-test.true
    c.index-number.ensures in
    omega (arith, f.2)

pub loop-here-preserved : goal.loop-here-preserved
loop-here-preserved c =
    let l = c.loop-here.invariant in
    let f = first_edge c.args.edges.now c.args.shut.now c.args.regions c.args.target c.in_ok-far.field-0.far.items
    c.in_ok-far.field-0.way.items c.loop-here.here c.index-number.result.now c.in_ok-far.ensures l.1 c.loop-here-test.true
    c.index-number.ensures in
    let longer : length (c.loop-here.path.items ++ c.index-number.result.now ∷ []) ≡ length c.loop-here.path.items + 1 = length-append
    c.loop-here.path.items (c.index-number.result.now ∷ []) in
    rw c.in_ok-push.ensures.items (
      route_more c.args.edges.now c.args.shut.now c.args.start c.loop-here.here _ c.index-number.result.now
          c.loop-here.path.items l.0 f.0,
      f.1,
      omega (arith, longer, f.2, l.2),
    )

pub returns-clause-shortest : goal.returns-clause-shortest
returns-clause-shortest c =
    let l = c.loop-here.invariant in
    let m = c.in_ok-far.ensures in
    let here : c.loop-here.here ≡ c.args.target = c.loop-here-test.false in
    let one : slice_index c.in_ok-far.field-0.far.items c.loop-here.here ≡ 1 = ap (slice_index c.in_ok-far.field-0.far.items) here
    ∙ m.at_target in (
      subst (IsRoute c.args.edges.now c.args.shut.now c.args.start c.loop-here.path.items) here l.0,
      λ other r. shorter (length c.loop-here.path.items) _ _ _ l.2 one (far_enough c.args.edges.now c.args.shut.now c.args.regions
          c.args.target c.in_ok-far.field-0.far.items c.in_ok-far.field-0.way.items m c.args.start other r).1,
    )
  where
    shorter : (n h s o : ℕ) → n + h ≡ s → h ≡ 1 → s ≤ suc o → n ≤ o
    shorter n h s o e one b = omega (arith, e, one, b)

pub returns-clause-few : goal.returns-clause-few
returns-clause-few c = omega (arith, c.loop-here.invariant.2, c.in_ok-far.ensures.low c.args.start)
