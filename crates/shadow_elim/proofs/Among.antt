-- Rows that are among others.
use Rattle.std.proofs.Common.{◌≡◌, List, [], ◌∷◌, ◌++◌, Result, Ok, Err, sym, ap, ◌∙◌, subst}
use Rattle.std.specs.Prelude.{All, Contains, OnOk}
use Rattle.std.proofs.lemmas.List.Elements.{All-contains_itself}
use Rattle.shadow_elim.specs.declared.pairing.Candidate.{Candidate}

pub among_all : {E : Type 0} (old new rows : List Candidate) (row : Candidate) (r : Result (Unit {0}) E) → new ≡ rows ++ row ∷ [] →
    rows ≡ old → OnOk r (All (λ c. Contains (old ++ row ∷ []) c) new)
among_all old new rows row (Ok x) e v =
    let same : old ++ row ∷ [] ≡ new = ap (λ (l : List Candidate). l ++ row ∷ []) (sym v) ∙ sym e in
    subst (λ (l : List Candidate). All (λ c. Contains l c) new) (sym same) (All-contains_itself new)
among_all old new rows row (Err x) e v = tt

pub among_none : {E : Type 0} (P : Type 0) (r : Result (Unit {0}) E) (e : E) → r ≡ Err e → OnOk r P
among_none {E} P r e h = subst (λ (s : Result (Unit {0}) E). OnOk s P) (sym h) tt
