use Rattle.std.proofs.Common.{◌∙◌, ℕ, replicate, ap}
use Rattle.lia_solver.specs.declared.derivation.Derivation.{Derivation}
use Rattle.lia_solver.proofs.Deriving.{derivation-none}
use Rattle.lia_solver.proofs.derivation.derived.Goals as goal

pub derive-requires-clause-founded : goal.derive-requires-clause-founded
derive-requires-clause-founded c =
    let f = c.requires.founded in
    let d : Derivation = record { first = c.args.first; numbers = c.in_ok-vec.field-0; steps = c.new.result } in
    let zeros = c.in_ok-vec.ensures.items_if_clones_equal (λ y e. e) ∙ ap (λ (n : ℕ). replicate {A = ℕ} n 0) c.len.ensures in
    (f.0, record { derivation = derivation-none f.0 c.args.table.now d f.1 zeros c.new.ensures.items; origins = f.2 })

pub returns-clause-right : goal.returns-clause-right
returns-clause-right c = λ base size origins.
    let d : Derivation = record { first = c.args.first; numbers = c.in_ok-vec.field-0; steps = c.new.result } in
    let zeros = c.in_ok-vec.ensures.items_if_clones_equal (λ y e. e) ∙ ap (λ (n : ℕ). replicate {A = ℕ} n 0) c.len.ensures in
    (c.in_ok-derive.ensures.founded base (record {
      derivation = derivation-none base c.args.table.now d size zeros c.new.ensures.items;
      origins = origins;
    })).derivation.right

pub returns-clause-terms : goal.returns-clause-terms
returns-clause-terms c =
    let f = c.requires.founded in
    let d : Derivation = record { first = c.args.first; numbers = c.in_ok-vec.field-0; steps = c.new.result } in
    let zeros = c.in_ok-vec.ensures.items_if_clones_equal (λ y e. e) ∙ ap (λ (n : ℕ). replicate {A = ℕ} n 0) c.len.ensures in
    (c.in_ok-derive.ensures.founded f.0 (record {
      derivation = derivation-none f.0 c.args.table.now d f.1 zeros c.new.ensures.items;
      origins = f.2;
    })).derivation.terms
