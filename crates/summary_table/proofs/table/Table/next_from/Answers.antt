use Rattle.std.proofs.Common.{◌≡◌, ◌∙◌, true, false, subst, ap, sym}
use Rattle.summary_table.specs.Tables.{AreAllNumbered, Listed}
use Rattle.summary_table.proofs.Walks.{IsWalking, left_falls, none_beyond, walking_on, walking_within}
use Rattle.summary_table.proofs.table.Table.next_from.Goals as goal

pub returns-then-not-is_numbered : goal.returns-then-not-is_numbered
returns-then-not-is_numbered c =
    let all : AreAllNumbered c.args.self.now.summaries = subst AreAllNumbered (ap (λ (t : Listed). t.summaries) c.self.view_is)
    c.self.invariant.4.numbered in
    none_beyond c.args.self.now.summaries c.args.proc c.args.exit.now c.args.from all (λ h.
    let yes : c.is_numbered.result ≡ true = c.is_numbered.ensures.1 h in
    let no : true ≡ false = sym yes ∙ c.if-not-is_numbered.true in cc)

pub next_of-at-requires : goal.next_of-at-requires
next_of-at-requires c =
    let table = c.args.self.now.summaries in
    walking_within table c.args.proc c.args.exit.now c.args.from c.in-Some.place
    (subst (IsWalking table c.args.proc c.args.exit.now c.args.from) c.in-Some.is c.loop-at.invariant)

pub loop-at-smaller : goal.loop-at-smaller
loop-at-smaller c =
    let table = c.args.self.now.summaries in
    left_falls table c.loop-at.at c.in-Some.place c.next_of-at.result c.in-Some.is
    (walking_within table c.args.proc c.args.exit.now c.args.from c.in-Some.place
    (subst (IsWalking table c.args.proc c.args.exit.now c.args.from) c.in-Some.is c.loop-at.invariant)) c.next_of-at.ensures

pub loop-at-preserved : goal.loop-at-preserved
loop-at-preserved c =
    let table = c.args.self.now.summaries in
    walking_on table c.args.proc c.args.exit.now c.args.from c.in-Some.place c.next_of-at.result
    (subst (IsWalking table c.args.proc c.args.exit.now c.args.from) c.in-Some.is c.loop-at.invariant) c.if-from-place.false
    c.next_of-at.ensures
