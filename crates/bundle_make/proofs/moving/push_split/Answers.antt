use Rattle.std.proofs.Common.{List, length, arith, ap, subst, ◌∙◌}
use Rattle.std.proofs.lemmas.Result.{on_ok_weaker}
use Rattle.infeasible_cert.specs.declared.certificate.Certificate.{Certificate}
use Rattle.may_partition.specs.declared.region.Region.{Region}
use Rattle.may_partition.specs.declared.region.RegionEdge.{RegionEdge}
use Rattle.may_partition.specs.Parted.{Parted, split_edge}
use Rattle.may_partition.specs.Shown.{Shows}
use Rattle.bundle_make.proofs.Pushing.{pieces_there, split_shows}
use Rattle.bundle_make.proofs.moving.push_split.Goals as goal

pub push_cuts-requires-clause-from : goal.push_cuts-requires-clause-from
push_cuts-requires-clause-from c =
    let old : List Region = c.args.partition.now.regions in
    let e : RegionEdge = c.uncut.result in
    let from = ap (λ (x : RegionEdge). x.from) c.uncut.ensures in
    let count = ap (λ (rs : List Region). length rs) c.in_ok-made-2.ensures.regions in
    let many = pieces_there old e.from c.args.atoms.now (omega (arith, from, c.requires.from)) in
    let first = c.in_ok-first.ensures ∙ ap (λ (rs : List Region). length rs) c.regions.ensures in
    omega (arith, count, many, first, c.requires.few)

pub returns-clause-shows : goal.returns-clause-shows
returns-clause-shows c =
    let old = c.args.partition.now in
    let k = c.args.edge in
    let atoms = c.args.atoms.now in
    let follows = c.args.follows.now in
    let mid = c.split_move-2.new.partition in
    let first = c.in_ok-first.ensures ∙ ap (λ (rs : List Region). length rs) c.regions.ensures in
    let shows = subst (λ (x : RegionEdge). (p : Parted) → Shows old p → Shows mid (split_edge x atoms p)) c.uncut.ensures
    c.in_ok-made-2.ensures.shows in
    on_ok_weaker c.push_cuts.result
    (λ h. split_shows old mid c.push_cuts.new.partition k atoms follows c.in_ok-first.first first
    (λ e. grind (arith, c.if-is_empty.ensures, ap (λ (cs : List Certificate). length cs) e)) shows h) c.push_cuts.ensures.shows
