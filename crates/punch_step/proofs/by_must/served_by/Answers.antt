use Rattle.std.proofs.Common.{◌≡◌, ◌+◌, ◌∙◌, Some, sym, subst}
use Rattle.std.specs.Arc.{arc_value}
use Rattle.std.specs.Prelude.{slice_get}
use Rattle.std.proofs.lemmas.Option.{slice_get_within}
use Rattle.summary_table.specs.Tables.{IsNextFrom}
use Rattle.summary_table.proofs.Walks.{left_falls, summary_read}
use Rattle.punch_step.specs.steps.Musts.{IsBySummary, IsSearched}
use Rattle.punch_step.proofs.Musts.{AreSearched, IsSearchedTo, search_begun, search_on, searched_comes, searched_limit, searched_neither, searched_parts}
use Rattle.punch_step.proofs.by_must.served_by.Goals.{in-Neither, in-Limit}
use Rattle.punch_step.proofs.by_must.served_by.Goals as goal

pub loop-at-init : goal.loop-at-init
loop-at-init c =
    let a = c.args.calling.now in
    let table = c.args.table.now.summaries in
    subst (AreSearched a table c.args.from c.next_from-at.result) (sym c.requires.first)
    (search_begun a table c.args.from c.next_from-at.result
    (subst (λ p. IsNextFrom table p a.exit c.args.from c.next_from-at.result) c.called.ensures c.next_from-at.ensures))

pub next_of-at-requires : goal.next_of-at-requires
next_of-at-requires c =
    let a = c.args.calling.now in
    let table = c.args.table.now.summaries in
    let here : IsSearchedTo a table c.args.from c.in-Some.place c.loop-at.first =
    subst (λ o. AreSearched a table c.args.from o c.loop-at.first) c.in-Some.is c.loop-at.invariant in
    slice_get_within table c.in-Some.place here.summary here.there

pub loop-at-smaller : goal.loop-at-smaller
loop-at-smaller c =
    let a = c.args.calling.now in
    let table = c.args.table.now.summaries in
    let here : IsSearchedTo a table c.args.from c.in-Some.place c.loop-at.first =
    subst (λ o. AreSearched a table c.args.from o c.loop-at.first) c.in-Some.is c.loop-at.invariant in
    left_falls table c.loop-at.at c.in-Some.place c.next_of-at.result c.in-Some.is
    (slice_get_within table c.in-Some.place here.summary here.there) c.next_of-at.ensures

pub loop-at-preserved : goal.loop-at-preserved
loop-at-preserved c =
    let a = c.args.calling.now in
    let table = c.args.table.now.summaries in
    let n = c.in-Some.place in
    let s = c.deref.result.now in
    let here : IsSearchedTo a table c.args.from n c.loop-at.first = subst (λ o. AreSearched a table c.args.from o c.loop-at.first)
    c.in-Some.is
    c.loop-at.invariant in
    let at : slice_get table n ≡ Some s = summary_read arc_value c.all.result.now table n c.index-all-place.result s c.all.ensures
    (slice_get_within table n here.summary here.there) c.index-all-place.is c.deref.ensures in
    elim c.match-branch-2.branch [
      | in-Neither w ↦ search_on a table c.args.from n c.next_of-at.result c.loop-at.first c.match-branch-2.first here
          (subst (IsSearched a table c.args.from (n + 1)) (sym w.first-is)
          (searched_neither a table c.args.from n s at c.loop-at.first here.searched
          (subst (IsBySummary a s) w.in-Neither.is c.in_ok-point.ensures))) c.next_of-at.ensures
      | in-Limit w ↦ search_on a table c.args.from n c.next_of-at.result c.loop-at.first c.match-branch-2.first here
          (subst (IsSearched a table c.args.from (n + 1)) (sym (w.first-is ∙ w.keep_first.ensures))
          (searched_limit a table c.args.from n s at c.loop-at.first w.in-Limit.kept here.searched
          (subst (IsBySummary a s) w.in-Limit.is c.in_ok-point.ensures))) c.next_of-at.ensures
    ]

pub returns-in-Comes-clause-served : goal.returns-in-Comes-clause-served
returns-in-Comes-clause-served c =
    let a = c.args.calling.now in
    let table = c.args.table.now.summaries in
    let n = c.in-Some.place in
    let s = c.deref.result.now in
    let here : IsSearchedTo a table c.args.from n c.loop-at.first = subst (λ o. AreSearched a table c.args.from o c.loop-at.first)
    c.in-Some.is
    c.loop-at.invariant in
    let at : slice_get table n ≡ Some s = summary_read arc_value c.all.result.now table n c.index-all-place.result s c.all.ensures
    (slice_get_within table n here.summary here.there) c.index-all-place.is c.deref.ensures in
    searched_comes a table c.args.from n s at c.in-Comes.point (subst (IsBySummary a s) c.in-Comes.is c.in_ok-point.ensures)

pub returns-in-Parts-clause-served : goal.returns-in-Parts-clause-served
returns-in-Parts-clause-served c =
    let a = c.args.calling.now in
    let table = c.args.table.now.summaries in
    let n = c.in-Some.place in
    let s = c.deref.result.now in
    let here : IsSearchedTo a table c.args.from n c.loop-at.first = subst (λ o. AreSearched a table c.args.from o c.loop-at.first)
    c.in-Some.is
    c.loop-at.invariant in
    let at : slice_get table n ≡ Some s = summary_read arc_value c.all.result.now table n c.index-all-place.result s c.all.ensures
    (slice_get_within table n here.summary here.there) c.index-all-place.is c.deref.ensures in
    searched_parts a table c.args.from n s at c.in-Parts.atoms c.in-Parts.proof
    (subst (IsBySummary a s) c.in-Parts.is c.in_ok-point.ensures)

pub returns-clause-unserved : goal.returns-clause-unserved
returns-clause-unserved c none =
    let a = c.args.calling.now in
    let table = c.args.table.now.summaries in
    subst (λ o. AreSearched a table c.args.from o c.loop-at.first) c.in_default.is c.loop-at.invariant
