-- Too many rows stay where some candidates of a column are added.
use Rattle.std.proofs.Common.{◌≡◌, ℕ, true, List, ◌++◌, map, take, drop, sym, ap, subst, ◌∙◌}
use Rattle.std.specs.Prelude.{nat_lt}
use Rattle.std.specs.List.{sum_by}
use Rattle.std.proofs.lemmas.Grind.{flat_map-append}
use Rattle.std.proofs.lemmas.List.{append_assoc, take-append-drop}
use Rattle.shadow_elim.specs.declared.row.Row.{Row}
use Rattle.shadow_elim.specs.declared.pairing.Candidate.{Candidate}
use Rattle.shadow_elim.specs.steps.Lists.{staying, AreAdded, AreTooMany}
use Rattle.shadow_elim.specs.steps.Making.{uppers, lowers, frees, known, made, made_of_all, candidates}
use Rattle.shadow_elim.proofs.Holding.{added-then}

-- the pairs of the first upper rows
pub many-first : (xs : List ℕ) (x n : ℕ) (us ls : List Row) (old new : List (List Candidate)) →
    AreAdded xs (made_of_all x (take n us) ls) old new → nat_lt 4096 (sum_by staying new) ≡ true →
    AreTooMany xs (made_of_all x us ls) old new
many-first xs x n us ls old new a b = record {
  first = made_of_all x (take n us) ls;
  rest = made_of_all x (drop n us) ls;
  split = ap (λ (rs : List Row). made_of_all x rs ls) (sym (take-append-drop n us))
      ∙ flat_map-append (λ (u : Row). map (made x u) ls) (take n us) (drop n us);
  added = a;
  beyond = b;
}

many-behind : (xs : List ℕ) (cs ds : List Candidate) (old mid new : List (List Candidate)) → AreAdded xs cs old mid →
    AreTooMany xs ds mid new → AreTooMany xs (cs ++ ds) old new
many-behind xs cs ds old mid new a m = record {
  first = cs ++ m.first;
  rest = m.rest;
  split = ap (λ (es : List Candidate). cs ++ es) m.split ∙ sym (append_assoc cs m.first m.rest);
  added = added-then xs cs m.first old mid new a m.added;
  beyond = m.beyond;
}

-- after the rows that don't name the column
pub many-candidates : (x : ℕ) (xs : List ℕ) (rows us ls fs : List Row) (old mid new : List (List Candidate)) → us ≡ uppers x rows →
    ls ≡ lowers x rows → fs ≡ frees x rows → AreAdded xs (map known fs) old mid → AreTooMany xs (made_of_all x us ls) mid new →
    AreTooMany xs (candidates x rows) old new
many-candidates x xs rows us ls fs old mid new hu hl hf a m =
    many-behind xs (map known (frees x rows)) (made_of_all x (uppers x rows) (lowers x rows)) old mid new
    (subst (λ (rs : List Row). AreAdded xs (map known rs) old mid) hf a)
    (subst (λ (vs : List Row). AreTooMany xs (made_of_all x vs (lowers x rows)) mid new) hu
    (subst (λ (ks : List Row). AreTooMany xs (made_of_all x us ks) mid new) hl m))
