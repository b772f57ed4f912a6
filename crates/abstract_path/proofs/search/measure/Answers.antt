use Rattle.std.proofs.Common.{ℕ, List, [], ◌∷◌, ◌≡◌, length, refl, subst, arith}
use Rattle.abstract_path.specs.declared.network.Network.{Network}
use Rattle.abstract_path.specs.steps.Layers.{IsMeasured}
use Rattle.abstract_path.proofs.Settling.{measured}
use Rattle.abstract_path.proofs.search.measure.Goals as goal

none_left : (xs : List ℕ) → length xs ≡ 0 → xs ≡ []
none_left [] h = refl
none_left (x ∷ xs) h = absurd (omega (arith, h))

pub returns : goal.returns
returns c =
    let l = c.loop-alloc.invariant in
    let s = c.loop-alloc.search in
    let none : length s.current.items ≡ 0 = grind (arith, c.loop-alloc-test.ensures) in
    let m = measured s.network.edges.now s.network.shut.now s.network.regions s.target s.depth s.current.items s.far.items s.way.items
    s.met.items l.layer.layered (none_left s.current.items none) l.alone in
    let At : Network → ℕ → Type 0 = λ n t. IsMeasured n.edges.now n.shut.now n.regions t s.far.items s.way.items in
    subst (λ n. At n c.args.target) l.network (subst (λ t. At s.network t) l.target m)
