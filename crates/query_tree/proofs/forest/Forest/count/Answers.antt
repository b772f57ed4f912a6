use Rattle.std.proofs.Common.{◌≡◌, true, refl, sym, subst}
use Rattle.query_tree.specs.declared.Status.{Status}
use Rattle.query_tree.specs.Kept.{IsKept, leans}
use Rattle.query_tree.specs.Woods.{Woods}
use Rattle.query_tree.proofs.Work.{work_from}
use Rattle.query_tree.proofs.forest.Forest.count.Goals as goal

kept_seen : {T : Type 0} (w v : Woods T) → w ≡ v → IsKept w.entries → IsKept v.entries
kept_seen {T} w v e h = subst (λ (x : Woods T). IsKept x.entries) e h

pub returns-clause-budgets : goal.returns-clause-budgets
returns-clause-budgets g c = (kept_seen _ _ c.self.view_is c.self.invariant.kept).granted

pub returns-clause-waits : goal.returns-clause-waits
returns-clause-waits g c = record {
  cause = λ i e at h.
      (kept_seen _ _ c.self.view_is c.self.invariant.kept).leaning.leaning i e at
      (subst (λ (s : Status). leans s e.waiting e.stirred ≡ true) (sym h) refl);
}

pub returns-clause-payloads : goal.returns-clause-payloads
returns-clause-payloads g c = record {
  held = λ i e at.
      ((kept_seen _ _ c.self.view_is c.self.invariant.kept).each.fine i e at).held;
}

pub returns-clause-above : goal.returns-clause-above
returns-clause-above g c = (kept_seen _ _ c.self.view_is c.self.invariant.kept).shut

pub returns-clause-tree : goal.returns-clause-tree
returns-clause-tree g c = (kept_seen _ _ c.self.view_is c.self.invariant.kept).tree

pub returns-clause-lefts : goal.returns-clause-lefts
returns-clause-lefts g c = record {
  lefts = λ i e at. ((kept_seen _ _ c.self.view_is c.self.invariant.kept).each.fine i e at).holds;
}

pub returns-clause-works : goal.returns-clause-works
returns-clause-works g c =
    let k = kept_seen _ _ c.self.view_is c.self.invariant.kept in
    work_from _ k.tree k.leaning

pub returns-clause-ended : goal.returns-clause-ended
returns-clause-ended g c = (kept_seen _ _ c.self.view_is c.self.invariant.kept).ended
