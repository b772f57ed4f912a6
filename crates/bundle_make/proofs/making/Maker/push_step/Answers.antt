use Rattle.std.proofs.Common.{◌≡◌, List, ◌++◌, length, map, refl, subst}
use Rattle.std.proofs.lemmas.Result.{on_ok_weaker}
use Rattle.infeasible_cert.specs.declared.certificate.Certificate.{Certificate}
use Rattle.may_partition.specs.Parted.{Parted}
use Rattle.may_partition.specs.Shown.{Shows}
use Rattle.query_rules.specs.declared.step.Step.{Step}
use Rattle.query_rules.specs.declared.step.Step.TheVariants as step
use Rattle.proof_bundle.specs.Claims.{move_of}
use Rattle.bundle_check.specs.RightClaims.{moved_all}
use Rattle.bundle_check.specs.Walked.{split_moves}
use Rattle.bundle_make.specs.steps.Making.{AskMade, Does, HasEntry, moves_of}
use Rattle.bundle_make.proofs.Doing.{ask_step, puts_made, puts_none, puts_split, split_step}
use Rattle.bundle_make.proofs.Pushing.{on_ok_two}
use Rattle.bundle_make.proofs.making.Maker.push_step.Goals as goal

pub returns-in-Extend : goal.returns-in-Extend
returns-in-Extend c =
    let m = c.args.self.now in
    puts_none m.board.now m.listing.now.ids.items m.state.now m.graph.now m.killed.now c.args.moves.now.items c.args.partition.now
    c.args.step.now (step.Extend c.in-Extend.edge c.in-Extend.trail c.in-Extend.point) c.in-Extend.is c.args.entry (λ p claims asked. refl)

pub returns-in-Split : goal.returns-in-Split
returns-in-Split c =
    let m = c.args.self.now in
    let b = m.board.now in
    let ids = m.listing.now.ids.items in
    let s = m.state.now in
    let made = c.push_split in
    let old = c.args.partition.now in
    let new = made.new.partition in
    let k = c.in-Split.edge in
    let atoms = c.in-Split.atoms in
    let follows = c.in-Split.follows in
    let proofs = c.in-Split.proofs in
    let olds = c.args.moves.now.items in
    let same : c.as_slice.result.now ≡ follows = c.as_slice.ensures in
    on_ok_two made.result
    (λ e shows. puts_made b ids s m.graph.now m.killed.now olds made.new.moves.items old new c.args.step.now
    (step.Split k atoms follows proofs) c.in-Split.is c.args.entry (split_moves (length old.regions) k atoms follows)
    (subst (λ (cs : List Certificate). map move_of made.new.moves.items ≡ map move_of olds ++ split_moves (length old.regions) k atoms cs)
    same e)
    (split_step b ids s m.graph.now m.killed.now old new k atoms follows proofs c.args.entry
    (subst (λ (cs : List Certificate). (p : Parted) → Shows old p → Shows new (moved_all (split_moves (length old.regions) k atoms cs) p))
    same shows))) made.ensures.made made.ensures.shows

pub returns-in_ok-made-in-Kill : goal.returns-in_ok-made-in-Kill
returns-in_ok-made-in-Kill c =
    let m = c.args.self.now in
    on_ok_weaker c.push_made.result
    (λ e. puts_made m.board.now m.listing.now.ids.items m.state.now m.graph.now m.killed.now c.args.moves.now.items
    c.push_made.new.moves.items c.args.partition.now c.killed_move.new.partition c.args.step.now (step.Kill c.in-Kill.edge c.in-Kill.by)
    c.in-Kill.is c.args.entry (moves_of c.in_ok-made-in-Kill.made) e c.in_ok-made-in-Kill.ensures) c.push_made.ensures

pub returns-in-CallExtend : goal.returns-in-CallExtend
returns-in-CallExtend c =
    let m = c.args.self.now in
    puts_none m.board.now m.listing.now.ids.items m.state.now m.graph.now m.killed.now c.args.moves.now.items c.args.partition.now
    c.args.step.now (step.CallExtend c.in-CallExtend.edge c.in-CallExtend.trail c.in-CallExtend.place c.in-CallExtend.point)
    c.in-CallExtend.is c.args.entry (λ p claims asked. refl)

pub returns-in-CallSplit : goal.returns-in-CallSplit
returns-in-CallSplit c =
    let m = c.args.self.now in
    let made = c.push_split-in-CallSplit in
    let olds = c.args.moves.now.items in
    let old = c.args.partition.now in
    on_ok_two made.result
    (λ e shows. puts_split m.board.now m.listing.now.ids.items m.state.now m.graph.now m.killed.now olds made.new.moves.items old
    made.new.partition c.args.step.now (step.CallSplit c.in-CallSplit.edge c.in-CallSplit.place c.in-CallSplit.atoms c.in-CallSplit.follows
    c.in-CallSplit.proofs) c.in-CallSplit.is c.args.entry c.in-CallSplit.edge c.in-CallSplit.atoms c.uncut.result
    c.uncut.ensures (λ p claims asked. refl) e shows) made.ensures.made made.ensures.shows

pub returns-in-CallPart : goal.returns-in-CallPart
returns-in-CallPart c =
    let m = c.args.self.now in
    let made = c.push_split-in-CallPart in
    let olds = c.args.moves.now.items in
    let old = c.args.partition.now in
    on_ok_two made.result
    (λ e shows. puts_split m.board.now m.listing.now.ids.items m.state.now m.graph.now m.killed.now olds made.new.moves.items old
    made.new.partition c.args.step.now (step.CallPart c.in-CallPart.edge c.in-CallPart.by c.in-CallPart.atom c.in-CallPart.atoms
    c.in-CallPart.follows c.in-CallPart.proofs) c.in-CallPart.is c.args.entry c.in-CallPart.edge c.in-CallPart.atoms
    c.uncut-in-CallPart.result
    c.uncut-in-CallPart.ensures (λ p claims asked. refl) e shows) made.ensures.made made.ensures.shows

pub returns-in_ok-made-in-Ask : goal.returns-in_ok-made-in-Ask
returns-in_ok-made-in-Ask c =
    let m = c.args.self.now in
    let b = m.board.now in
    let ids = m.listing.now.ids.items in
    let s = m.state.now in
    let old = c.args.partition.now in
    let new = c.ask_move.new.partition in
    let entry = c.args.entry in
    let t = step.Ask c.in-Ask.edge c.in-Ask.query c.in-Ask.follows c.in-Ask.seen in
    let one = moves_of c.in_ok-made-in-Ask.made in
    let has = subst (λ (x : Step). HasEntry s.asked x entry) c.in-Ask.is c.requires.entry in
    on_ok_weaker c.push_made-in-Ask.result
    (λ e. puts_made b ids s m.graph.now m.killed.now c.args.moves.now.items c.push_made-in-Ask.new.moves.items old new c.args.step.now t
    c.in-Ask.is entry one e
    (ask_step b ids s m.graph.now m.killed.now entry c.in-Ask.edge c.in-Ask.follows old new one c.in-Ask.query c.in-Ask.seen has
    (subst (λ (cs : List Certificate). Does old new (AskMade b ids s m.graph.now m.killed.now entry c.in-Ask.edge cs) one)
    c.as_slice-in-Ask.ensures c.in_ok-made-in-Ask.ensures))) c.push_made-in-Ask.ensures

pub returns-in-Feed : goal.returns-in-Feed
returns-in-Feed c =
    let m = c.args.self.now in
    puts_none m.board.now m.listing.now.ids.items m.state.now m.graph.now m.killed.now c.args.moves.now.items c.args.partition.now
    c.args.step.now (step.Feed c.in-Feed.asked) c.in-Feed.is c.args.entry (λ p claims asked. refl)

pub returns-in-Stuck : goal.returns-in-Stuck
returns-in-Stuck c =
    let m = c.args.self.now in
    puts_none m.board.now m.listing.now.ids.items m.state.now m.graph.now m.killed.now c.args.moves.now.items c.args.partition.now
    c.args.step.now (step.Stuck c.in-Stuck.edge c.in-Stuck.why c.in-Stuck.seen) c.in-Stuck.is c.args.entry (λ p claims asked. refl)
