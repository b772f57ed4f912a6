-- A query that closed as a must has one in the table that answers it, whatever event comes.
use Rattle.std.proofs.Common.{◌≡◌, ℕ, zero, suc, List, [], ◌∷◌, ◌++◌, length, Bool, Some, None, refl, sym, ap, ◌∙◌, subst, ⊎_elim}
use Rattle.std.specs.Prelude.{slice_get, ◌&&◌}
use Rattle.std.proofs.lemmas.Bool.{cond_both}
use Rattle.query_tree.specs.Forest.{changed}
use Rattle.query_tree.proofs.Lists.{from_changed, from_pushed}
use Rattle.query_tree.proofs.Tests.{cond_eq, one_at}
use Rattle.summary_form.specs.Answering.{AnswersYes}
use Rattle.summary_form.specs.declared.path.Path.{Path}
use Rattle.summary_form.specs.declared.query.Query.{Query}
use Rattle.summary_form.specs.declared.summary.Summary.{Summary}
use Rattle.summary_form.specs.declared.summary.Summary.TheVariants.{Must}
use Rattle.bolt_core.specs.declared.slot.ClosedAs.{ClosedAs}
use Rattle.bolt_core.specs.declared.slot.ClosedAs.TheVariants as how
use Rattle.bolt_core.specs.Groups.{Node, is_member, leads, closed_at}
use Rattle.bolt_core.specs.Keeps.{AreAnsweredIn}

abbrev pub IsAnsweredIn : List Summary → Query → Type 0
IsAnsweredIn table q = (place : ℕ) × (path : Path) × (slice_get table place ≡ Some (Must path)) × AnswersYes q path

get_append : {X : Type 0} (xs ys : List X) (i : ℕ) (x : X) → slice_get xs i ≡ Some x → slice_get (xs ++ ys) i ≡ Some x
get_append [] ys i x h = absurd (cc)
get_append (y ∷ xs) ys zero x h = h
get_append (y ∷ xs) ys (suc i) x h = get_append xs ys i x h

get_first : {X : Type 0} (xs ys : List X) (y : X) → slice_get (xs ++ y ∷ ys) (length xs) ≡ Some y
get_first [] ys y = refl
get_first (x ∷ xs) ys y = get_first xs ys y

answered_more : (table more : List Summary) (q : Query) → IsAnsweredIn table q → IsAnsweredIn (table ++ more) q
answered_more table more q h = (h.0, h.1, get_append table more h.0 (Must h.1) h.2, h.3)

pub answered_last : (table : List Summary) (q : Query) (path : Path) → AnswersYes q path → IsAnsweredIn (table ++ Must path ∷ []) q
answered_last table q path h = (length table, path, get_first table [] (Must path), h)

-- a longer table
pub answered_longer : (table more : List Summary) (ns : List Node) → AreAnsweredIn table ns → AreAnsweredIn (table ++ more) ns
answered_longer table more ns g = record { answered = λ i n a c. answered_more table more n.query (g.answered i n a c) }

-- a node more
pub answered_pushed : (table : List Summary) (ns : List Node) (x : Node) → x.closed ≡ None → AreAnsweredIn table ns →
    AreAnsweredIn table (ns ++ x ∷ [])
answered_pushed table ns x open' g = record {
  answered = λ i n a c. ⊎_elim
      (λ b. g.answered i n b c)
      (λ b. let z : None ≡ Some how.Must = sym open' ∙ (ap (λ (y : Node). y.closed) (sym b.1) ∙ c) in absurd (cc))
      (from_pushed ns x i n a);
}

-- a close, where one that is as a must is answered
pub answered_closed : (table : List Summary) (ns : List Node) (i : ℕ) (own : Node) (shut : ClosedAs) (shown : Bool) (l : ℕ) →
    slice_get ns i ≡ Some own → (shut ≡ how.Must → IsAnsweredIn table own.query) → AreAnsweredIn table ns →
    AreAnsweredIn table (changed (closed_at ns i shut shown l) ns)
answered_closed table ns i own shut shown l at must g = record {
  answered = λ k n a.
      let r = from_changed (closed_at ns i shut shown l) ns k n a in
      subst (λ (y : Node). y.closed ≡ Some how.Must → IsAnsweredIn table y.query) (sym r.2) (here k r.0 r.1);
}
  where
    here : (k : ℕ) (x : Node) → slice_get ns k ≡ Some x → (closed_at ns i shut shown l k x).closed ≡ Some how.Must →
        IsAnsweredIn table (closed_at ns i shut shown l k x).query
    here k x a = cond_eq (λ (y : Node). y.closed ≡ Some how.Must → IsAnsweredIn table y.query) k i _ _
        (λ d c. let e : shut ≡ how.Must = cc in
        subst (λ (y : Node). IsAnsweredIn table y.query) (sym (one_at ns i k own x at a d)) (must e))
        (λ _. cond_both (leads shut && is_member ns i l k) _ x (λ (y : Node). y.closed ≡ Some how.Must → IsAnsweredIn table y.query)
        (λ _ c. g.answered k x a c) (λ _ c. g.answered k x a c))
