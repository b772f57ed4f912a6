use Rattle.std.proofs.Common.{◌+◌, ◌++◌, List, arith, subst, sym, ◌∙◌, ap, Vec, Global}
use Rattle.linear_formula.specs.declared.formula.Atom.{Atom}
use Rattle.infeasible_cert.specs.Refutation.{refutation_of}
use Rattle.infeasible_cert.specs.declared.certificate.Certificate.{Certificate}
use Rattle.bundle_check.specs.RightClaims.{is_among}
use Rattle.bundle_make.proofs.Keeping.{AreKept, kept_behind, passed_asked, passed_other}
use Rattle.bundle_make.proofs.kept.keep_onto.Goals as goal
use Rattle.bundle_make.proofs.kept.keep_onto.Goals.{then-not-asks_for+in_ok-copy+in_ok-push, else-not-asks_for}

pub loop-i-preserved : goal.loop-i-preserved
loop-i-preserved c =
    let rows : List Atom = c.args.asked.now.start.atoms ++ c.args.asked.now.end.atoms in
    let atoms = c.args.atoms.now in
    let proof = c.args.proof.now in
    let old = c.args.out.now.items in
    let i = c.loop-i.i in
    let a = c.index-atoms-i.result in
    elim c.if-not-asks_for.branch [
      | then-not-asks_for+in_ok-copy+in_ok-push w ↦
          subst (λ (v : Vec Certificate Global). AreKept rows atoms proof old v.items (i + 1)) (sym w.out-is)
          (subst (λ (xs : List Certificate). AreKept rows atoms proof old xs (i + 1)) (sym w.in_ok-push.ensures.items)
          (passed_other rows atoms proof old c.loop-i.out.items i a (omega arith) c.loop-i.invariant
          (ap (is_among rows) (sym c.index-atoms-i.is) ∙ (sym c.asks_for.ensures ∙ w.if-not-asks_for.true)) w.index-proof-i.result
          w.in_ok-copy.field-0 (w.in_ok-copy.ensures ∙ ap refutation_of w.index-proof-i.is)))
      | else-not-asks_for w ↦
          subst (λ (v : Vec Certificate Global). AreKept rows atoms proof old v.items (i + 1)) (sym w.out-is)
          (passed_asked rows atoms proof old c.loop-i.out.items i a (omega arith) c.loop-i.invariant
          (ap (is_among rows) (sym c.index-atoms-i.is) ∙ (sym c.asks_for.ensures ∙ w.if-not-asks_for.false)))
    ]

pub returns : goal.returns
returns c = kept_behind (c.args.asked.now.start.atoms ++ c.args.asked.now.end.atoms) c.args.atoms.now c.args.proof.now c.args.out.now.items
    c.loop-i.out.items c.loop-i.i (omega arith) c.loop-i.invariant
