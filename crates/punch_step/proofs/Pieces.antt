-- Certificates that refute the pieces of a source, one after the other.
use Rattle.std.proofs.Common.{◌≡◌, ◌∙◌, ℕ, ◌+◌, take, ap, List, [], ◌∷◌, ◌++◌, inr, refl, sym, subst, Option, None, Some, Result, Ok, Err, IfOk, IfSome}
use Rattle.std.specs.Prelude.{slice_get}
use Rattle.std.proofs.lemmas.List.{append_assoc, append-nil}
use Rattle.linear_formula.specs.declared.formula.Atom.{Atom}
use Rattle.infeasible_cert.specs.declared.certificate.Certificate.{Certificate}
use Rattle.shadow_elim.specs.Questions.{with_negation}
use Rattle.flow_graph.specs.declared.graph.Graph.{Graph}
use Rattle.query_rules.specs.Rows.{ArePiecesRefuted, Follow, IsRefutedBy}
use Rattle.punch_step.specs.Confirming.{CanSplit}
use Rattle.punch_step.proofs.Choosing.{take_more}

-- one more piece
pub piece_more : (source pre atoms : List Atom) (cs : List Certificate) (a : Atom) (c : Certificate) →
    ArePiecesRefuted source pre atoms cs → IsRefutedBy (with_negation (source ++ atoms) a ++ pre) c →
    ArePiecesRefuted source pre (atoms ++ a ∷ []) (cs ++ c ∷ [])
piece_more source pre [] [] a c h r =
    (subst (λ (xs : List Atom). IsRefutedBy (with_negation xs a ++ pre) c) (append-nil source) r, tt)
piece_more source pre [] (d ∷ cs) a c h r = absurd h
piece_more source pre (b ∷ atoms) [] a c h r = absurd h
piece_more source pre (b ∷ atoms) (d ∷ cs) a c h r = (
  h.0,
  piece_more (source ++ b ∷ []) pre atoms cs a c h.1
      (subst (λ (xs : List Atom). IsRefutedBy (with_negation xs a ++ pre) c) (sym (append_assoc source (b ∷ []) atoms)) r),
)

-- rows of which each piece is refuted follow
pub follow_by : (g : Graph) (source pre atoms : List Atom) (cs : List Certificate) → CanSplit g atoms →
    ArePiecesRefuted source pre atoms cs → Follow g source pre atoms cs
follow_by g source pre [] [] c h = absurd (c.several refl)
follow_by g source pre (a ∷ atoms) [] c h = absurd h
follow_by g source pre atoms (d ∷ cs) c h = (inr c.own, h)

pub pieces_follow : {E : Type 0} (g : Graph) (source pre atoms rows : List Atom) → CanSplit g atoms → rows ≡ atoms →
    (r : Result (Option (List Certificate)) E) →
    IfOk r (λ o. IfSome o (ArePiecesRefuted source pre rows)) → IfOk r (λ o. IfSome o (Follow g source pre atoms))
pieces_follow g source pre atoms rows c same (Err e) h = tt
pieces_follow g source pre atoms rows c same (Ok None) h = tt
pieces_follow g source pre atoms rows c same (Ok (Some cs)) h =
    follow_by g source pre atoms cs c (subst (λ (xs : List Atom). ArePiecesRefuted source pre xs cs) same h)

-- the next of the atoms

pub done_more : (source atoms before after : List Atom) (n : ℕ) (a : Atom) → slice_get atoms n ≡ Some a →
    before ≡ source ++ take n atoms → after ≡ before ++ a ∷ [] → after ≡ source ++ take (n + 1) atoms
done_more source atoms before after n a there is more =
    more ∙ ap (λ (xs : List Atom). xs ++ a ∷ []) is ∙ append_assoc source (take n atoms) (a ∷ [])
    ∙ ap (λ (xs : List Atom). source ++ xs) (sym (take_more atoms n a there))

pub pieces_more : (source pre atoms before : List Atom) (cs ds : List Certificate) (n : ℕ) (a : Atom) (c : Certificate) →
    slice_get atoms n ≡ Some a → before ≡ source ++ take n atoms → ArePiecesRefuted source pre (take n atoms) cs →
    IsRefutedBy (with_negation before a ++ pre) c → ds ≡ cs ++ c ∷ [] → ArePiecesRefuted source pre (take (n + 1) atoms) ds
pieces_more source pre atoms before cs ds n a c there is h r more =
    subst (λ (xs : List Atom). ArePiecesRefuted source pre xs ds) (sym (take_more atoms n a there))
    (subst (ArePiecesRefuted source pre (take n atoms ++ a ∷ [])) (sym more)
    (piece_more source pre (take n atoms) cs a c h (subst (λ (xs : List Atom). IsRefutedBy (with_negation xs a ++ pre) c) is r)))
