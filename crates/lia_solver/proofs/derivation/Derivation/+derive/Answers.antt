use Rattle.std.proofs.Common.{◌≡◌, ◌∙◌, ◌<◌, ◌-◌, ◌++◌, ◌∷◌, [], ℕ, List, length, arith, sym}
use Rattle.std.proofs.lemmas.List.{get_or_default}
use Rattle.linear_formula.specs.LinearSum.{LinearSum}
use Rattle.infeasible_cert.specs.declared.certificate.Derived.{Derived}
use Rattle.infeasible_cert.specs.Right.{rows_after}
use Rattle.lia_solver.specs.steps.Deriving.{IsNumbered, IsFounded}
use Rattle.lia_solver.specs.steps.Entries.{no_entry, sum_at}
use Rattle.lia_solver.proofs.Deriving.{parts-of, given-of, numbered-given, next-founded, next-numbered, later-then, ok-two, ok-one, ok-value}
use Rattle.lia_solver.proofs.derivation.Derivation.+derive.Goals as goal

pub derive-number-requires : goal.derive-number-requires
derive-number-requires t c =
    let f = c.requires.founded in
    let p = parts-of f.0 c.args.table.now c.args.place c.args.making f.1.origins c.requires.place c.requires.made in
    (omega (arith, p.upper_level, c.decreases), (c.requires.rows, (p.upper, f)))

pub derive-number-requires-2 : goal.derive-number-requires-2
derive-number-requires-2 t c =
    let f = c.requires.founded in
    let p = parts-of f.0 c.args.table.now c.args.place c.args.making f.1.origins c.requires.place c.requires.made in
    (omega (arith, p.lower_level, c.decreases), (c.requires.rows, (p.lower, (f.0, c.in_ok-upper.ensures.founded f.0 f.1))))

pub derive-returns-clause-founded : goal.derive-returns-clause-founded
derive-returns-clause-founded t c =
    let es = c.args.table.now in
    let a = c.number.new.self in
    let b = c.number-2.new.self in
    let new = c.push.new.self in
    let more = c.in_ok-lower.ensures.later in
    ok-two c.push.result _ _ ((base : List LinearSum) → IsFounded base es c.args.self.now → IsFounded base es new)
    (λ numbers steps base h.
    let fa = c.in_ok-upper.ensures.founded base h in
    let fb = c.in_ok-lower.ensures.founded base fa in
    next-founded base es a b new c.args.place c.args.making c.in_ok-upper.upper c.in_ok-lower.lower more.0 c.in_ok-row.row.term
    c.in_ok-step.step (record {
      founded = fb;
      upper = c.in_ok-upper.ensures.number base h;
      later = more.1;
      lower = c.in_ok-lower.ensures.number base fa;
    }) c.requires.place c.requires.made c.in_ok-row.ensures c.in_ok-step.ensures.step c.in_ok-step.ensures.terms c.push.ensures.first
    numbers steps) c.push.ensures.numbers c.push.ensures.steps

pub derive-returns-clause-number : goal.derive-returns-clause-number
derive-returns-clause-number t c =
    let es = c.args.table.now in
    let b = c.number-2.new.self in
    let new = c.push.new.self in
    ok-value c.push.result _
    (λ (n : ℕ). (base : List LinearSum) → IsFounded base es c.args.self.now → IsNumbered (rows_after base new.steps.items) n
    (sum_at es c.args.place)) _ (λ n en steps base h.
    let fa = c.in_ok-upper.ensures.founded base h in
    let fb = c.in_ok-lower.ensures.founded base fa in
    next-numbered base es b new c.args.place n c.args.making c.in_ok-upper.upper c.in_ok-lower.lower c.in_ok-row.row.term c.in_ok-step.step
    fb c.in_ok-row.ensures c.in_ok-step.ensures.step en steps) c.push.ensures.number c.push.ensures.steps

pub derive-returns-clause-later : goal.derive-returns-clause-later
derive-returns-clause-later t c =
    let first = c.in_ok-upper.ensures.later in
    let second = c.in_ok-lower.ensures.later in
    ok-one c.push.result _ ((all : List Derived) × (c.push.new.self.steps.items ≡ c.args.self.now.steps.items ++ all))
    (λ steps.
    let both = later-then c.args.self.now.steps.items c.number.new.self.steps.items c.number-2.new.self.steps.items first.0 second.0 first.1
    second.1 in
    later-then c.args.self.now.steps.items c.number-2.new.self.steps.items c.push.new.self.steps.items both.0 (c.in_ok-step.step ∷ [])
    both.1
    steps) c.push.ensures.steps

pub number-returns-then-known-gt0-clause-number : goal.number-returns-then-known-gt0-clause-number
number-returns-then-known-gt0-clause-number t c = λ base h.
    let count : c.args.place < length c.args.self.now.numbers.items = omega (arith, c.requires.place, h.derivation.count) in
    h.derivation.found c.args.place (c.index-known.result.now - 1)
    (sym (c.index-known.ensures ∙ get_or_default c.args.self.now.numbers.items c.args.place c.index-known.result.now 0 count)
    ∙ omega (arith, c.if-known-gt0.true))

pub number-returns-in-Given-clause-number : goal.number-returns-in-Given-clause-number
number-returns-in-Given-clause-number t c = λ base h.
    let g = given-of base c.args.table.now c.args.place c.in-Given.number h.origins c.requires.place (sym (c.in-Given.ensures no_entry)) in
    numbered-given base c.args.self.now.steps.items c.in-Given.number (sum_at c.args.table.now c.args.place) g.0 g.1
