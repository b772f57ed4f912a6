use Rattle.std.proofs.Common.{◌≡◌, ◌<◌, ◌⊎◌, length, Option, Some, None, refl, sym, ap, ◌∙◌, subst, ⊎_elim, arith}
use Rattle.std.specs.Prelude.{slice_get}
use Rattle.std.specs.Option.{IsSomeAnd, MatchOption, option_map}
use Rattle.query_rules.specs.declared.step.News.{News}
use Rattle.query_rules.specs.declared.step.News.TheVariants as news
use Rattle.query_tree.specs.declared.Status.{Status}
use Rattle.query_tree.specs.declared.Status.TheVariants.{Blocked, Ready, Running}
use Rattle.query_tree.proofs.Lists.{at_place}
use Rattle.bolt_core.specs.declared.slot.ClosedAs.{ClosedAs}
use Rattle.bolt_core.specs.Boards.{Shown, closed_news, news_at, news_by}
use Rattle.bolt_core.specs.Histories.{closed_as}
use Rattle.bolt_core.specs.contracts.board.Board.{the_view}
use Rattle.bolt_core.proofs.JobsTaken.{has_slot, here_entry, slot_closed}
use Rattle.bolt_core.proofs.board.Board.news_of.Goals as goal

pub index-requires : goal.index-requires
index-requires c =
    let b = c.self.inside in
    let p : Shown = the_view b in
    let lt = ap (λ (x : Shown). length x.core.entries) c.self.view_is in
    omega (arith, c.requires, lt, has_slot p c.self.invariant.0 b.slots.items refl, b.slots.ok.0)

by_cases : (o : Option ClosedAs) (r : Option News) (Q : ClosedAs → News → Type 0) →
    MatchOption o (r ≡ None) (λ x. IsSomeAnd r (Q x)) → ((x : ClosedAs) (k : News) → Q x k → k ≡ closed_news x) → r ≡ option_map closed_news
    o
by_cases None r Q h f = h
by_cases (Some x) None Q h f = absurd h
by_cases (Some x) (Some k) Q h f = ap Some (f x k h)

waits : (o : Option ClosedAs) (s : Status) → (s ≡ Ready) ⊎ ((s ≡ Running) ⊎ (s ≡ Blocked)) → Some news.Waiting ≡ news_by o s
waits o s h = ⊎_elim (λ e. ap (news_by o) (sym e)) (λ r. ⊎_elim (λ e. ap (news_by o) (sym e)) (λ e. ap (news_by o) (sym e)) r) h

pub returns-in-Ready : goal.returns-in-Ready
returns-in-Ready c =
    let p : Shown = the_view c.self.inside in
    let i = c.args.id in
    let lt : i < length p.core.entries = subst (λ (x : Shown). i < length x.core.entries) (sym c.self.view_is) c.requires in
    waits (closed_as p.core.history i) c.status.result c.in-Ready.is
    ∙ (here_entry p.core i lt c.status.result c.status.ensures ∙ ap (λ (x : Shown). news_at x.core i) c.self.view_is)

pub returns-in-Starved : goal.returns-in-Starved
returns-in-Starved c =
    let p : Shown = the_view c.self.inside in
    let i = c.args.id in
    let lt : i < length p.core.entries = subst (λ (x : Shown). i < length x.core.entries) (sym c.self.view_is) c.requires in
    ap (news_by (closed_as p.core.history i)) (sym c.in-Starved.is)
    ∙ (here_entry p.core i lt c.status.result c.status.ensures ∙ ap (λ (x : Shown). news_at x.core i) c.self.view_is)

pub returns-in-Closed : goal.returns-in-Closed
returns-in-Closed c =
    let b = c.self.inside in
    let p : Shown = the_view b in
    let i = c.args.id in
    let lt : i < length p.core.entries = subst (λ (x : Shown). i < length x.core.entries) (sym c.self.view_is) c.requires in
    let here : i < length b.slots.items = omega (arith, lt, has_slot p c.self.invariant.0 b.slots.items refl) in
    let at : slice_get b.slots.items i ≡ Some c.index.result.now =
    at_place b.slots.items i c.index.result.now here ∙ ap Some (sym c.index.ensures) in
    let mapped : c.map.result ≡ option_map closed_news c.index.result.now.closed =
    by_cases c.index.result.now.closed c.map.result _ c.map.ensures.cases (λ x r q. q) in
    mapped ∙ (ap (option_map closed_news) (slot_closed p c.self.invariant.0 b.slots.items refl i c.index.result.now at)
    ∙ (ap (news_by (closed_as p.core.history i)) (sym c.in-Closed.is)
    ∙ (here_entry p.core i lt c.status.result c.status.ensures ∙ ap (λ (x : Shown). news_at x.core i) c.self.view_is)))
