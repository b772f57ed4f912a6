-- Each Ready query stays in the list.
use Rattle.std.proofs.Common.{◌≡◌, ℕ, List, [], ◌∷◌, ◌++◌, length, Some, sym, ap, ◌∙◌, subst, ◌⊎◌, inl, inr, ⊎_elim, arith}
use Rattle.std.specs.Prelude.{slice_get, get_or, ◌&&◌}
use Rattle.std.proofs.lemmas.Bool.{cond_both, and_parts, cases_eq}
use Rattle.std.proofs.lemmas.Option.{get_or_from_slice_get}
use Rattle.std.proofs.lemmas.List.{length_push}
use Rattle.query_tree.specs.declared.Status.{Status}
use Rattle.query_tree.specs.declared.Status.TheVariants.{Ready}
use Rattle.query_tree.specs.declared.Entry.{Entry}
use Rattle.query_tree.specs.Forest.{changed, is_starved, is_place, stir, rest_at, fed_at, take_at, has_live_child, after_take, after_close, close_at}
use Rattle.query_tree.specs.Ready.{Listed, IsMarked, Notes, NotesAbove, NotesJob, Grows, Loses, HasNone, Covers, CoversOthers}
use Rattle.query_tree.specs.Takes.{HasNoReady}
use Rattle.query_tree.proofs.Lists.{from_changed, from_pushed, length_changed}
use Rattle.query_tree.proofs.Tests.{cond_eq, place_is}
use Rattle.query_tree.proofs.Close.{close_cases}

module _ {T : Type 0} where
  -- what is Ready after a change was Ready, or is marked now
  covers_changed : (es : List (Entry T)) (f : ℕ → Entry T → Entry T) (r s : Listed) → length s.marks ≡ length r.marks →
      ((i : ℕ) → IsMarked r i → IsMarked s i) →
      ((k : ℕ) (e : Entry T) → (f k e).status ≡ Ready → (e.status ≡ Ready) ⊎ IsMarked s k) → Covers es r → Covers (changed f es) s
  covers_changed es f r s size keeps each h = record {
    size = size ∙ (h.size ∙ sym (length_changed f 0 es));
    marked = λ i y a ready.
        let o = from_changed f es i y a in
        ⊎_elim (λ was. keeps i (h.marked i o.0 o.1 was)) (λ m. m)
        (each i o.0 (ap (λ (x : Entry T). x.status) (sym o.2) ∙ ready));
  }

  pub rest_covers : (es : List (Entry T)) (own : Entry T) (i : ℕ) (st : Status) (left steps : ℕ) (p : T) (r s : Listed) →
      NotesJob r s i own.parent → Covers es r → Covers (changed (rest_at own i st left steps p) es) s
  rest_covers es own i st left steps p r s n = covers_changed es (rest_at own i st left steps p) r s n.size n.keeps
      (λ k e. cond_eq (λ (x : Entry T). x.status ≡ Ready → (e.status ≡ Ready) ⊎ IsMarked s k) k i _ _
      (λ d _. inr (subst (IsMarked s) (sym d) n.own))
      (λ _. cond_both (is_place own.parent k && is_starved st) (stir e) e
      (λ (x : Entry T). x.status ≡ Ready → (e.status ≡ Ready) ⊎ IsMarked s k)
      (λ b _. inr (n.above k (place_is own.parent k (and_parts (is_place own.parent k) (is_starved st) b).0)))
      (λ _ was. inl was)))

  pub fed_covers : (es : List (Entry T)) (c n : ℕ) (r s : Listed) → Notes r s c → Covers es r → Covers (changed (fed_at c n) es) s
  fed_covers es c n r s h = covers_changed es (fed_at c n) r s h.size h.keeps
      (λ k e. cond_eq (λ (x : Entry T). x.status ≡ Ready → (e.status ≡ Ready) ⊎ IsMarked s k) k c _ e
      (λ d _. inr (subst (IsMarked s) (sym d) h.own)) (λ _ was. inl was))

  pub close_covers : (es : List (Entry T)) (own : Entry T) (i steps : ℕ) (p : T) (stamp : ℕ) (r s : Listed) → NotesAbove r s own.parent →
      Covers es r → Covers (after_close es own i steps p stamp) s
  close_covers es own i steps p stamp r s n = covers_changed es (close_at es own i steps p stamp) r s n.size n.keeps
      (λ k e. close_cases (λ (x : Entry T). x.status ≡ Ready → (e.status ≡ Ready) ⊎ IsMarked s k) es own i steps p stamp k e
      (λ _ z. absurd (cc))
      (λ _ _ z. absurd (cc))
      (λ _ _ b _. inr (n.above k (place_is own.parent k b)))
      (λ _ _ _ was. inl was))

  pub pushed_covers : (es : List (Entry T)) (x : Entry T) (r s : Listed) (id : ℕ) → id ≡ length es → Grows r s id → Covers es r →
      Covers (es ++ x ∷ []) s
  pushed_covers es x r s id next g h = record {
    size = omega (arith, g.size, h.size, length_push es x);
    marked = λ i y a ready. ⊎_elim
        (λ b. g.keeps i (h.marked i y b ready))
        (λ d. subst (IsMarked s) (next ∙ sym d.0) g.own)
        (from_pushed es x i y a);
  }

  pub take_covers : (es : List (Entry T)) (id : ℕ) (s : Listed) → CoversOthers es s id → Covers (after_take es id) s
  take_covers es id s h = record {
    size = h.size ∙ sym (length_changed (take_at id (has_live_child es id)) 0 es);
    marked = λ i y a ready.
        let o = from_changed (take_at id (has_live_child es id)) es i y a in
        cond_eq (λ (x : Entry T). x.status ≡ Ready → IsMarked s i) i id _ o.0
        (λ _ z. absurd (cc))
        (λ d was. h.marked i o.0 o.1 was d)
        (ap (λ (x : Entry T). x.status) (sym o.2) ∙ ready);
  }

  pub others_covered : (es : List (Entry T)) (r s : Listed) (id : ℕ) → Loses r s id → Covers es r → CoversOthers es s id
  others_covered es r s id l h = record { size = l.size ∙ h.size; marked = λ i e a ready d. l.keeps i d (h.marked i e a ready) }

  -- what lost its mark is not Ready
  pub still_covers : (es : List (Entry T)) (s : Listed) (id : ℕ) (x : Entry T) → x ≡ get_or es id x → (x.status ≡ Ready → ⊥) →
      CoversOthers es s id → Covers es s
  still_covers es s id x found not' h = record {
    size = h.size;
    marked = λ i e a ready. ⊎_elim
        (λ d. absurd (not' (ap (λ (y : Entry T). y.status)
        (found ∙ get_or_from_slice_get es id e x (subst (λ k. slice_get es k ≡ Some e) d a)) ∙ ready)))
        (h.marked i e a ready)
        (cases_eq i id);
  }

  pub none_ready : (es : List (Entry T)) (r : Listed) → HasNone r → Covers es r → HasNoReady es
  none_ready es r n h = record { none = λ i e a ready. n.none i (h.marked i e a ready) }
