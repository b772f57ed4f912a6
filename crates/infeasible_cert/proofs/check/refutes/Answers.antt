use Rattle.std.proofs.Common.{List, IsTrue, sym, subst}
use Rattle.linear_formula.specs.Formula.{are_terms}
use Rattle.linear_formula.specs.declared.formula.Atom.{Atom}
use Rattle.infeasible_cert.specs.Refutation.{refutation_of}
use Rattle.infeasible_cert.specs.Right.{IsRight, base_rows, Refutes}
use Rattle.infeasible_cert.proofs.Meeting.{base-order}
use Rattle.infeasible_cert.proofs.Sound.{right-sound}
use Rattle.infeasible_cert.proofs.check.refutes.Goals as goal

pub is_right-requires : goal.is_right-requires
is_right-requires c =
    base-order c.as_slice-atoms.result.now (subst (λ (as_ : List Atom). IsTrue (are_terms as_)) (sym c.as_slice-atoms.ensures.value)
    c.as_slice-atoms.ensures.terms)

pub returns-clause-right : goal.returns-clause-right
returns-clause-right c =
    let r = refutation_of c.args.certificate.now in
    let e = c.as_slice-atoms.ensures.value in
    let n = c.is_right.ensures.right in (
      λ g. record {
        shallow = (n.0 g).0;
        right = subst (λ (as_ : List Atom). IsRight (base_rows as_) r) e (n.0 g).1;
      },
      λ g. n.1 (g.shallow, subst (λ (as_ : List Atom). IsRight (base_rows as_) r) (sym e) g.right),
    )

pub returns-clause-sound : goal.returns-clause-sound
returns-clause-sound c = λ g v w h.
    let e = c.as_slice-atoms.ensures.value in
    let n = c.is_right.ensures.right.0 g in
    let s : Refutes c.args.cube.now.atoms (refutation_of c.args.certificate.now) = record {
      shallow = n.0;
      right = subst (λ (as_ : List Atom). IsRight (base_rows as_) (refutation_of c.args.certificate.now)) e n.1;
    } in
    right-sound c.args.cube.now.atoms (refutation_of c.args.certificate.now) v c.as_slice-atoms.ensures.terms (c.is_right.ensures.terms g) s
    w h
