use Rattle.std.proofs.Common.{refl, ap, ◌∙◌, take}
use Rattle.linear_formula.specs.declared.formula.Cube.{Cube}
use Rattle.path_sweep.proofs.Counting.{goes_up}
use Rattle.path_sweep.proofs.Measuring.{back_less}
use Rattle.path_sweep.proofs.walk.Walk.go_back.Goals as goal

pub next_edge-self-requires : goal.next_edge-self-requires
next_edge-self-requires c =
    let up = goes_up c.requires.0 c.requires.3 c.requires.1 c.args.self.now c.requires.2 c.pop.new.self.items c.in-Some.level
    c.in-Some.ensures.items
    c.requires.5 in
    (c.requires.0, c.pop.new.self.items, c.requires.4, record { stage = up.mid.at; is = up.stage; can = up.can })

pub returns-clause-walk : goal.returns-clause-walk
returns-clause-walk c = λ _ gs main h linked links none.
    let up = goes_up gs linked main c.args.self.now h c.pop.new.self.items c.in-Some.level c.in-Some.ensures.items none in
    up.walk _ refl (c.front.ensures ∙ ap (λ (x : Cube). take c.in-Some.level.rows x.atoms) c.replace.ensures.value) c.truncate.ensures.items
    refl refl
    (c.next_edge-self.ensures.first gs c.pop.new.self.items up.mid.at links up.stage up.can) refl refl

pub returns-clause-less : goal.returns-clause-less
returns-clause-less c = λ _.
    let up = goes_up c.requires.0 c.requires.3 c.requires.1 c.args.self.now c.requires.2 c.pop.new.self.items c.in-Some.level
    c.in-Some.ensures.items
    c.requires.5 in
    back_less _ c.args.self.now.levels.items c.pop.new.self.items c.in-Some.level c.next_edge-self.result c.in-Some.ensures.items up.fits
    (c.next_edge-self.ensures.first c.requires.0 c.pop.new.self.items up.mid.at c.requires.4 up.stage up.can)
