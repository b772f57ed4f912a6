use Rattle.std.proofs.Common.{refl, sym, ap, ◌∙◌, arith}
use Rattle.query_tree.specs.declared.Entry.{Entry}
use Rattle.query_tree.specs.Forest.{given, paid}
use Rattle.query_tree.proofs.Chains.{links_written}
use Rattle.query_tree.proofs.Lists.{present}
use Rattle.query_tree.proofs.Closing as closing
use Rattle.query_tree.proofs.edits.close.Goals as goal

pub drop_under-lost-requires-clause-fits : goal.drop_under-lost-requires-clause-fits
drop_under-lost-requires-clause-fits g c =
    let es = c.args.entries.now in
    let o = present es c.args.id c.requires.here in
    let w = c.requires.at_work o.0 o.1 in
    closing.lost_fits es o.0 c.args.id o.1 w.0 c.args.steps c.args.payload c.args.stamp w.1 c.requires.kept

pub overflow_sub-purse : goal.overflow_sub-purse
overflow_sub-purse g c =
    let es = c.args.entries.now in
    let o = present es c.args.id c.requires.here in
    let w = c.requires.at_work o.0 o.1 in
    let now = closing.own_now es o.0 c.args.id o.1 w.0 c.args.steps c.args.payload c.args.stamp w.1 c.requires.kept
    c.drop_under-lost.new.entries c.drop_under-lost.ensures.entries c.index-entries-id.result in
    omega (
      arith,
      ap (λ (x : Entry g.row.T.Denot). x.left) now,
      closing.left_fits es o.0 c.args.id o.1 w.0 c.args.steps c.args.payload
          c.args.stamp w.1 c.requires.kept,
    )

pub overflow_add-purse : goal.overflow_add-purse
overflow_add-purse g c =
    let es = c.args.entries.now in
    let o = present es c.args.id c.requires.here in
    let w = c.requires.at_work o.0 o.1 in
    let now = closing.own_now es o.0 c.args.id o.1 w.0 c.args.steps c.args.payload c.args.stamp w.1 c.requires.kept
    c.drop_under-lost.new.entries c.drop_under-lost.ensures.entries c.index-entries-id.result in
    omega (
      arith,
      ap (λ (x : Entry g.row.T.Denot). x.left) now,
      c.drop_under-lost.ensures.left,
      closing.purse_fits es o.0 c.args.id o.1 w.0
          c.args.steps c.args.payload c.args.stamp w.1 c.requires.kept o.0.parent refl,
    )

pub put-requires-clause-fits : goal.put-requires-clause-fits
put-requires-clause-fits g c x a =
    let es = c.args.entries.now in
    let o = present es c.args.id c.requires.here in
    let w = c.requires.at_work o.0 o.1 in
    let same = closing.own_only es o.0 c.args.id o.1 w.0 c.args.steps c.args.payload c.args.stamp w.1 c.requires.kept
    c.drop_under-lost.new.entries c.drop_under-lost.ensures.entries x a in
    omega (
      arith,
      ap (λ (x : Entry g.row.T.Denot). x.spent) same,
      closing.spent_fits es o.0 c.args.id o.1 w.0 c.args.steps c.args.payload
          c.args.stamp w.1 c.requires.kept,
    )

pub put-requires-in-Some-clause-fits : goal.put-requires-in-Some-clause-fits
put-requires-in-Some-clause-fits g c x a =
    let es = c.args.entries.now in
    let o = present es c.args.id c.requires.here in
    let w = c.requires.at_work o.0 o.1 in
    let same = closing.own_only es o.0 c.args.id o.1 w.0 c.args.steps c.args.payload c.args.stamp w.1 c.requires.kept
    c.drop_under-lost.new.entries c.drop_under-lost.ensures.entries x a in
    omega (
      arith,
      ap (λ (x : Entry g.row.T.Denot). x.spent) same,
      closing.spent_fits es o.0 c.args.id o.1 w.0 c.args.steps c.args.payload
          c.args.stamp w.1 c.requires.kept,
    )

pub pay-requires-clause-here : goal.pay-requires-clause-here
pay-requires-clause-here g c =
    let es = c.args.entries.now in
    let o = present es c.args.id c.requires.here in
    let w = c.requires.at_work o.0 o.1 in
    let now = closing.own_now es o.0 c.args.id o.1 w.0 c.args.steps c.args.payload c.args.stamp w.1 c.requires.kept
    c.drop_under-lost.new.entries c.drop_under-lost.ensures.entries c.index-entries-id.result in
    let n = sym (ap (λ (x : Entry g.row.T.Denot). x.parent) now) ∙ c.in-Some.is in
    let lt = closing.parent_below es o.0 c.args.id o.1 w.0 c.args.steps c.args.payload c.args.stamp w.1 c.requires.kept c.in-Some.p n in
    omega (arith, lt, c.requires.here)

pub pay-requires-clause-fits : goal.pay-requires-clause-fits
pay-requires-clause-fits g c x a =
    let es = c.args.entries.now in
    let o = present es c.args.id c.requires.here in
    let w = c.requires.at_work o.0 o.1 in
    let now = closing.own_now es o.0 c.args.id o.1 w.0 c.args.steps c.args.payload c.args.stamp w.1 c.requires.kept
    c.drop_under-lost.new.entries c.drop_under-lost.ensures.entries c.index-entries-id.result in
    let n = sym (ap (λ (x : Entry g.row.T.Denot). x.parent) now) ∙ c.in-Some.is in
    omega (
      arith,
      ap (λ (x : Entry g.row.T.Denot). x.left) now,
      c.drop_under-lost.ensures.left,
      closing.parent_now es o.0 c.args.id o.1 w.0 c.args.steps c.args.payload c.args.stamp w.1 c.requires.kept c.in-Some.p n
          c.drop_under-lost.new.entries c.put-in-Some.new.entries c.drop_under-lost.ensures.entries c.put-in-Some.ensures.entries x a,
    )

pub returns-in-None-clause-entries : goal.returns-in-None-clause-entries
returns-in-None-clause-entries g c own at =
    let es = c.args.entries.now in
    let w = c.requires.at_work own at in
    let now = closing.own_now es own c.args.id at w.0 c.args.steps c.args.payload c.args.stamp w.1 c.requires.kept
    c.drop_under-lost.new.entries c.drop_under-lost.ensures.entries c.index-entries-id.result in
    let n = sym (ap (λ (x : Entry g.row.T.Denot). x.parent) now) ∙ c.in-None.is in
    c.put.ensures.entries ∙ rw (now, c.drop_under-lost.ensures.left, c.drop_under-lost.ensures.entries)
    (closing.closes_root es own c.args.id at w.0 c.args.steps c.args.payload c.args.stamp w.1 c.requires.kept n)

pub returns-in-Some-clause-entries : goal.returns-in-Some-clause-entries
returns-in-Some-clause-entries g c own at =
    let es = c.args.entries.now in
    let w = c.requires.at_work own at in
    let now = closing.own_now es own c.args.id at w.0 c.args.steps c.args.payload c.args.stamp w.1 c.requires.kept
    c.drop_under-lost.new.entries c.drop_under-lost.ensures.entries c.index-entries-id.result in
    let n = sym (ap (λ (x : Entry g.row.T.Denot). x.parent) now) ∙ c.in-Some.is in
    c.pay.ensures.entries ∙ rw (c.put-in-Some.ensures.entries, now, c.drop_under-lost.ensures.left, c.drop_under-lost.ensures.entries)
    (closing.closes_child es own c.args.id at w.0 c.args.steps c.args.payload c.args.stamp w.1 c.requires.kept c.in-Some.p n)

pub returns-in-None-clause-kin : goal.returns-in-None-clause-kin
returns-in-None-clause-kin g c = links_written c.drop_under-lost.new.entries c.put.new.entries (given _ _ _ _) c.args.id
    c.drop_under-lost.new.kin
    (λ _. refl) c.put.ensures.entries c.drop_under-lost.ensures.kin

pub returns-in-Some-clause-kin : goal.returns-in-Some-clause-kin
returns-in-Some-clause-kin g c = links_written c.put-in-Some.new.entries c.pay.new.entries (paid _) c.in-Some.p
    c.drop_under-lost.new.kin (λ _. refl) c.pay.ensures.entries
    (links_written c.drop_under-lost.new.entries c.put-in-Some.new.entries (given _ _ _ _) c.args.id c.drop_under-lost.new.kin
    (λ _. refl) c.put-in-Some.ensures.entries c.drop_under-lost.ensures.kin)
