use Rattle.std.proofs.Common.{◌≡◌, slice_index, arith}
use Rattle.std.proofs.lemmas.List.Elements.{Contains-get_or}
use Rattle.abstract_path.proofs.Meeting.{layered_met}
use Rattle.abstract_path.proofs.search.Search.meet.Goals as goal

unmet_before : (c : goal.After-self-then-index-eq0-1) → slice_index c.args.self.now.far.items c.args.source ≡ 0
unmet_before c = grind (arith, c.index.ensures, c.if-index-eq0.true)

pub returns-in_ok-push-clause-layer : goal.returns-in_ok-push-clause-layer
returns-in_ok-push-clause-layer c =
    let s = c.args.self.now in
    let r = layered_met s.network.edges.now s.network.shut.now s.network.regions s.target s.depth s.current.items s.far.items s.way.items
    s.met.items c.args.source c.args.number _ c.requires.layer.layered c.requires.source (unmet_before c) c.requires.is_open
    (Contains-get_or s.current.items c.args.place 0 c.requires.place) in
    record { layered = rw c.in_ok-push.ensures.items r; arrivals = c.requires.layer.arrivals }
