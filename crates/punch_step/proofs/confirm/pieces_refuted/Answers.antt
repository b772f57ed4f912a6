use Rattle.std.proofs.Common.{◌≡◌, ◌++◌, ◌∷◌, [], ◌∙◌, refl, subst, ap}
use Rattle.std.specs.Prelude.{IfSome, Some, slice_get}
use Rattle.std.proofs.lemmas.Option.{slice_get_read}
use Rattle.linear_formula.specs.declared.formula.Atom.{Atom}
use Rattle.shadow_elim.specs.Questions.{with_negation}
use Rattle.query_rules.specs.Rows.{IsRefutedBy}
use Rattle.punch_step.proofs.Pieces.{done_more, pieces_more}
use Rattle.punch_step.proofs.confirm.pieces_refuted.Goals as goal

pub loop-atom-preserved : goal.loop-atom-preserved
loop-atom-preserved c =
    let source = c.args.source.now.atoms in let pre = c.args.pre.now.atoms in let atoms = c.args.atoms.now in
    let n = c.loop-atom.atom-index in let a = c.atom-item.result in let proof = c.in-Some.proof in
    let there : slice_get atoms n ≡ Some a = slice_get_read atoms _ n a refl c.loop-atom-test.true c.atom-item.is in
    let refuted : IsRefutedBy (with_negation c.loop-atom.before.atoms a ++ pre) proof =
    subst (λ o. IfSome o (IsRefutedBy (with_negation c.loop-atom.before.atoms a ++ pre))) c.in-Some.is c.in_ok-proof.ensures in
    record {
      before = done_more source atoms c.loop-atom.before.atoms c.push-in-loop-atom.new.self n a there c.loop-atom.invariant.before
          (c.in_ok-push.ensures ∙ ap (λ (x : Atom). c.loop-atom.before.atoms ++ x ∷ []) c.in_ok-copy.ensures);
      pieces = pieces_more source pre atoms c.loop-atom.before.atoms c.loop-atom.follows.items c.push.new.self.items n a proof there
          c.loop-atom.invariant.before c.loop-atom.invariant.pieces refuted c.in_ok-push-in-Some.ensures.items;
    }
