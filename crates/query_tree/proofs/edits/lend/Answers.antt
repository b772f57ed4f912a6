use Rattle.std.proofs.Common.{◌≡◌, None, true, false, sym, ap, ◌∙◌, refl}
use Rattle.std.proofs.lemmas.Option.{get_or_from_slice_get}
use Rattle.query_tree.specs.declared.Status.TheVariants.{Running}
use Rattle.query_tree.specs.declared.Entry.{Entry}
use Rattle.query_tree.specs.Forest.{is_none, has_live_child}
use Rattle.query_tree.proofs.Lists.{present, set_changed}
use Rattle.query_tree.proofs.edits.lend.Goals as goal

pub unreachable-requires : goal.unreachable-requires
unreachable-requires g c =
    let es = c.args.entries.now in
    let o = present es c.args.id c.requires.here in
    let same = get_or_from_slice_get es c.args.id o.0 c.index-entries-id.result o.1 in
    let none : o.0.payload ≡ None = ap (λ (x : Entry g.row.T.Denot). x.payload) (sym same) ∙ (sym c.take.ensures.value ∙ c.in_default.is) in
    let f : true ≡ false = ap is_none (sym none) ∙ c.requires.held o.0 o.1 in absurd (cc)

pub returns-clause-entries : goal.returns-clause-entries
returns-clause-entries g c = rw (c.take.ensures.after, c.requires.waits)
    (set_changed (λ (e : Entry g.row.T.Denot). record e {
      status = Running;
      lent = e.left;
      waiting = has_live_child c.args.entries.now
          c.args.id;
      stirred = false;
      payload = None;
    }) c.args.entries.now c.args.id c.index-entries-id.result c.requires.here)

pub returns-clause-lent : goal.returns-clause-lent
returns-clause-lent g c own at =
    let same = get_or_from_slice_get c.args.entries.now c.args.id own c.index-entries-id.result at in (
      refl,
      ap (λ (x : Entry g.row.T.Denot). x.left) same,
      c.requires.waits,
      ap (λ (x : Entry g.row.T.Denot). x.payload) (sym same) ∙ (sym c.take.ensures.value ∙ c.in-Some.is),
    )
