use Rattle.std.proofs.Common.{◌≡◌, ◌++◌, ◌∷◌, [], map}
use Rattle.std.proofs.lemmas.Result.{err_from_is_err_and}
use Rattle.std.proofs.lemmas.List.{map_push}
use Rattle.proof_bundle.specs.steps.Reading.{list_at}
use Rattle.proof_bundle.proofs.Lists.{ends, goes_on, is_done}
use Rattle.proof_bundle.proofs.part.read_list.Goals as goal

pub returns-in_err-item : goal.returns-in_err-item
returns-in_err-item g c =
    let p = err_from_is_err_and c.from_residual.result c.from_residual.ensures.1 in
    rw (p.1, p.2) (ends g.T.Part.at c.in_err-item.field-0.0 (map g.T.Part.pure c.loop.items.items) c.args.count c.loop.counter
    c.loop.rest.now
    (list_at g.T.Part.at c.args.count c.args.bytes.now) c.loop-test.true c.in_err-item.ensures c.loop.invariant)

pub loop-preserved : goal.loop-preserved
loop-preserved g c =
    let n = c.in_ok-item.item in
    let e : map g.T.Part.pure c.push.new.self.items ≡ map g.T.Part.pure c.loop.items.items ++ g.T.Part.pure n ∷ [] = rw
    c.in_ok-push.ensures.items (map_push _ c.loop.items.items n) in
    rw e (goes_on g.T.Part.at (map g.T.Part.pure c.loop.items.items) c.args.count c.loop.counter c.loop.rest.now (g.T.Part.pure n)
    c.in_ok-item.behind.now (list_at g.T.Part.at c.args.count c.args.bytes.now) c.loop-test.true c.in_ok-item.ensures c.loop.invariant)

pub returns : goal.returns
returns g c = is_done g.T.Part.at (map g.T.Part.pure c.loop.items.items) c.args.count c.loop.counter c.loop.rest.now
    (list_at g.T.Part.at c.args.count c.args.bytes.now) c.loop-test.false c.loop.invariant
