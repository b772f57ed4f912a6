-- What the answers of the calls say.
use Rattle.std.proofs.Common.{◌≡◌, ℕ, ◌+◌, ◌<◌, ◌≤◌, List, [], ◌∷◌, ◌++◌, length, map, drop, ℤ, get_or, None, ◌&&◌, arith, refl, sym, subst, ap, ◌∙◌, append_assoc, zero, suc, nat_lt, Some}
use Rattle.std.specs.Prelude.{slice_get, IsTrue, if◌then◌else◌}
use Rattle.std.specs.List.{list_all}
use Rattle.std.proofs.lemmas.Option.{none-some, same_Some}
use borrow.Author.Tests.{ltb-true}
use Rattle.flow_graph.specs.Calls.{call_site}
use Rattle.flow_graph.specs.WellFormed.{has_slots, max_slots}
use Rattle.call_bridge.specs.Laws.{AreSlots}
use Rattle.std.proofs.lemmas.List.{drop_more, drop_all}
use Rattle.linear_formula.specs.LinearSum.{LinearSum, is_term, is_ascending, has_no_zero, has_columns, is_within}
use Rattle.linear_formula.specs.Replaced.{column_sum}
use Rattle.linear_formula.specs.Formula.{HoldsAll, are_terms}
use Rattle.linear_formula.specs.declared.formula.Atom.{Atom}
use Rattle.linear_formula.proofs.Limits.{both, both_in}
use Rattle.flow_graph.specs.Columns.{valuation_of, names_only, rows_name_only}
use Rattle.flow_graph.specs.declared.graph.Edge.{Edge}
use Rattle.flow_graph.specs.declared.graph.Edge.TheVariants.{Call}
use Rattle.shadow_elim.specs.declared.sum.Sum.{Sum}
use Rattle.shadow_elim.specs.Sums.{equal_sums}
use Rattle.shadow_elim.specs.Shadows.{pair_rows}
use Rattle.summary_form.specs.declared.query.Query.{Query}
use Rattle.summary_form.specs.declared.query.ExitKind.{ExitKind}
use Rattle.summary_form.specs.NotMays.{Fits}
use Rattle.call_bridge.specs.declared.asking.Asking.{Asking}
use Rattle.call_bridge.specs.declared.musts.Matching.{Matching}
use Rattle.call_bridge.specs.Asked.{FitsCall, HoldsCalls, HoldsNoOtherCall}
use Rattle.call_bridge.specs.Asking.{IsAsking, rows_of_query}
use Rattle.call_bridge.specs.Musts.{is_number, single, is_new, with_symbol, replacing, other_sums}
use Rattle.call_bridge.proofs.Calling.{asked_holds, asked_exact}
use Rattle.call_bridge.proofs.Queries.{asked_fits, query_holds}

-- The slots of a call

pub each_below : (limit : ℕ) (xs : List ℕ) → IsTrue (list_all (λ x. nat_lt x limit) xs) → (j a : ℕ) → slice_get xs j ≡ Some a → a < limit
each_below limit [] h j a e = absurd (none-some a e)
each_below limit (x ∷ xs) h zero a e =
    let r = both (nat_lt x limit) (list_all (λ y. nat_lt y limit) xs) h in
    subst (λ y. y < limit) (same_Some x a e) (ltb-true x limit r.0)
each_below limit (x ∷ xs) h (suc j) a e = each_below limit xs (both (nat_lt x limit) (list_all (λ y. nat_lt y limit) xs) h).1 j a e

pub call_slots : (edge : Edge) → IsTrue (has_slots max_slots edge) → AreSlots (call_site edge)
call_slots (Call from to proc args results) h =
    let r = both (list_all (λ x. nat_lt x max_slots) results) (list_all (λ x. nat_lt x max_slots) args) h in
    record { are_slots = each_below max_slots args r.1; results_low = each_below max_slots results r.0 }
call_slots _ h = record { are_slots = λ j a e. absurd (none-some a e); results_low = λ j a e. absurd (none-some a e) }

-- The asked query

module _ (exit : ExitKind) (call : Edge) (source target : List Atom) (a : Asking) (is : IsAsking exit call source target a) where
  pub asking_holds : FitsCall (call_site call) source target → HoldsCalls exit (call_site call) source
      target (rows_of_query a.query)
  asking_holds f s entry values vs ve vx h l =
      subst (λ (q : Query). HoldsAll (valuation_of (map s (call_site call).arguments) values) (rows_of_query q)) (sym is.query)
      ((query_holds (valuation_of (map s (call_site call).arguments) values) is.rows).1
      (asked_holds exit (call_site call) source target f is.rows (pair_rows a.inexact) is.are_asked s entry values vs ve
      vx h l))

  pub asking_exact : a.inexact ≡ None → FitsCall (call_site call) source target → HoldsNoOtherCall exit (call_site call) source target
      (rows_of_query a.query)
  asking_exact none f called values vc vx many h =
      asked_exact exit (call_site call) source target f is.rows (pair_rows a.inexact) is.are_asked (ap pair_rows none)
      called values vc vx many ((query_holds (valuation_of called values) is.rows).0
      (subst (λ (q : Query). HoldsAll (valuation_of called values) (rows_of_query q)) is.query h))

  pub asking_fits : FitsCall (call_site call) source target → Fits (call_site call).procedure (record {
    entries = length (call_site call).arguments;
    exits = length (call_site call).results;
  }) a.query
  asking_fits f =
      subst (λ (q : Query). Fits (call_site call).procedure
      (record { entries = length (call_site call).arguments; exits = length (call_site call).results }) q)
      (sym is.query)
      (asked_fits (call_site call).procedure exit (call_site call) source target is.rows (pair_rows a.inexact) f is.are_asked)

-- The preimage over a must

term_numbers : (ps : List (ℕ × ℤ)) → IsTrue (has_columns ps) → IsTrue (list_all (λ p. is_number p.0) ps)
term_numbers [] h = refl
term_numbers (p ∷ ps) h =
    let r = both (is_number p.0) (has_columns ps) h in
    both_in (is_number p.0) (list_all (λ q. is_number q.0) ps) r.0 (term_numbers ps r.1)

pub numbers_of : (t : LinearSum) → IsTrue (is_term t) → IsTrue (names_only is_number t)
numbers_of t h =
    let r = both (is_ascending t.parts && has_no_zero t.parts && has_columns t.parts) (is_within t) h in
    term_numbers t.parts (both (is_ascending t.parts && has_no_zero t.parts) (has_columns t.parts) r.0).1

pub rows_numbers : (atoms : List Atom) → IsTrue (are_terms atoms) → IsTrue (rows_name_only is_number atoms)
rows_numbers [] h = refl
rows_numbers (a ∷ atoms) h =
    let r = both (is_term a.term) (are_terms atoms) h in
    both_in (names_only is_number a.term) (rows_name_only is_number atoms) (numbers_of a.term r.0) (rows_numbers atoms r.1)

-- Arguments and entry terms

replacing_none : (done : List (ℕ × ℕ)) (args : List ℕ) → replacing done args [] ≡ done
replacing_none done [] = refl
replacing_none done (x ∷ args) = refl

others_none : (done : List (ℕ × ℕ)) (args : List ℕ) → other_sums done args [] ≡ []
others_none done [] = refl
others_none done (x ∷ args) = refl

-- what is matched so far, and what is left
pub record Matches (args : List ℕ) (entry : List LinearSum) (k : ℕ) (now : Matching) : Type 0 where
  pub columns : replacing now.columns.items (drop k args) (drop k entry) ≡ replacing [] args entry
  pub sums : now.sums.items ++ other_sums now.columns.items (drop k args) (drop k entry) ≡ other_sums [] args entry

pub match_more : (args : List ℕ) (entry : List LinearSum) (k x d : ℕ) (t u : LinearSum) (now next : Matching) → k < length args → k
    < length entry → x ≡ get_or args k d → t ≡ get_or entry k u → next.columns.items ≡ with_symbol now.columns.items (single t) x →
    next.sums.items ≡ now.sums.items ++ (if is_new now.columns.items (single t) then [] else equal_sums (column_sum x) t) →
    Matches args entry k now → Matches args entry (k + 1) next
match_more args entry k x d t u now next la le ex et ec es m = record {
  columns = ap (λ (l : List (ℕ × ℕ)). replacing l (drop (k + 1) args) (drop (k + 1) entry)) ec ∙ sym (ap (replacing now.columns.items
      (drop k args)) there ∙ ap (λ (l : List ℕ). replacing now.columns.items l (t ∷ drop (k + 1) entry)) here) ∙ m.columns;
  sums = ap (λ (l : List (ℕ × ℕ)). next.sums.items ++ other_sums l (drop (k + 1) args) (drop (k + 1) entry)) ec
      ∙ ap (λ (l : List Sum). l ++ other_sums (with_symbol now.columns.items (single t) x) (drop (k + 1) args) (drop (k + 1) entry)) es
      ∙ append_assoc now.sums.items (if is_new now.columns.items (single t) then [] else equal_sums (column_sum x) t)
      (other_sums (with_symbol now.columns.items (single t) x) (drop (k + 1) args) (drop (k + 1) entry))
      ∙ ap (λ (l : List Sum). now.sums.items ++ l) (sym (ap (other_sums now.columns.items (drop k args)) there
      ∙ ap (λ (l : List ℕ). other_sums now.columns.items l (t ∷ drop (k + 1) entry)) here)) ∙ m.sums;
}
  where
    here : drop k args ≡ x ∷ drop (k + 1) args
    here = drop_more args k d la ∙ ap (λ z. z ∷ drop (k + 1) args) (sym ex)

    there : drop k entry ≡ t ∷ drop (k + 1) entry
    there = drop_more entry k u le ∙ ap (λ (z : LinearSum). z ∷ drop (k + 1) entry) (sym et)

-- an argument without an entry term
pub match_past : (args : List ℕ) (entry : List LinearSum) (k : ℕ) (now next : Matching) → length entry ≤ k → next ≡ now →
    Matches args entry k now → Matches args entry (k + 1) next
match_past args entry k now next h e m = subst (Matches args entry (k + 1)) (sym e) (record {
  columns = ap (replacing now.columns.items (drop (k + 1) args)) (drop_all (k + 1) entry (omega (arith, h)))
      ∙ replacing_none now.columns.items (drop (k + 1) args) ∙ sym (ap (replacing now.columns.items (drop k args)) (drop_all k entry h)
      ∙ replacing_none now.columns.items (drop k args)) ∙ m.columns;
  sums = ap (λ (l : List Sum). now.sums.items ++ l) (ap (other_sums now.columns.items (drop (k + 1) args)) (drop_all (k + 1) entry
      (omega (arith, h))) ∙ others_none now.columns.items (drop (k + 1) args) ∙ sym (ap (other_sums now.columns.items (drop k args))
      (drop_all k entry h) ∙ others_none now.columns.items (drop k args))) ∙ m.sums;
})
