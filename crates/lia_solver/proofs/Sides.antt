-- What a branch's outcome makes of its search.
use Rattle.std.proofs.Common.{◌≡◌, ℕ, suc, zero, ◌<◌, ◌≤◌, ◌+◌, max, List, [], ◌∷◌, ◌++◌, length, take, drop, ℤ, pos, ◌+ℤ◌, ◌<ℤ◌, append_assoc, arith, refl, sym, ap, subst, ◌∙◌}
use Rattle.std.specs.Prelude.{Contains, if◌then◌else◌}
use Rattle.std.proofs.lemmas.List.{map-append, take-append-le, drop-append-le, length-append}
use Rattle.linear_formula.specs.LinearSum.{LinearSum, valuation, Valuation}
use Rattle.linear_formula.specs.Formula.{HoldsAll}
use Rattle.linear_formula.specs.declared.formula.Atom.{Atom}
use Rattle.linear_formula.specs.declared.formula.Cube.{Cube}
use Rattle.linear_formula.specs.declared.question.Question.TheVariants as question
use Rattle.infeasible_cert.specs.declared.certificate.Derived.{Derived}
use Rattle.infeasible_cert.specs.declared.certificate.Certificate.{Certificate}
use Rattle.infeasible_cert.specs.Refutation.{Refutation, branch}
use Rattle.infeasible_cert.specs.Right.{rows_of, columns_of, range_rows, at_most, at_least, nesting, IsRight}
use Rattle.shadow_elim.specs.declared.limit.Limit.TheVariants.{Wide, Rows, Branches}
use Rattle.shadow_elim.specs.Points.{chosen, refuted, split, too_wide, too_many_rows}
use Rattle.shadow_elim.specs.Plan.{Search, found, nothing, limit_met, search, search_on, settled, outcome_of, cube_of, with_row}
use Rattle.lia_solver.specs.declared.search.Search.{Search as Searching}
use Rattle.lia_solver.specs.declared.search.Searched.{Searched}
use Rattle.lia_solver.specs.declared.search.Searched.TheVariants as searched
use Rattle.lia_solver.specs.declared.solved.Solved.TheVariants as solved
use Rattle.lia_solver.specs.steps.Branches.{branch_rows, IsBranch, IsSearched}
use Rattle.lia_solver.specs.steps.Further.{IsAnswered}
use Rattle.lia_solver.specs.steps.Searches.{IsSearchable}
use Rattle.shadow_elim.proofs.NamedColumns.{columns-kept}
use Rattle.shadow_elim.proofs.Members.{Among, contains-among}
use Rattle.shadow_elim.proofs.Tests.{at_most_no, at_most_yes}

-- Without a split

pub search-point : (depth : ℕ) (splits : List Cube) (atoms : List Atom) (at : List (ℕ × ℤ)) → outcome_of atoms ≡ chosen at →
    search depth splits atoms ≡ found at
search-point zero splits atoms at e = ap (settled splits atoms _) e
search-point (suc depth) splits atoms at e = ap (settled splits atoms _) e

pub search-refuted : (depth : ℕ) (splits : List Cube) (atoms : List Atom) → outcome_of atoms ≡ refuted → search depth splits atoms
    ≡ nothing splits
search-refuted zero splits atoms e = ap (settled splits atoms _) e
search-refuted (suc depth) splits atoms e = ap (settled splits atoms _) e

pub search-wide : (depth : ℕ) (splits : List Cube) (atoms : List Atom) → outcome_of atoms ≡ too_wide → search depth splits atoms
    ≡ limit_met (Wide (question.Cube (cube_of atoms)))
search-wide zero splits atoms e = ap (settled splits atoms _) e
search-wide (suc depth) splits atoms e = ap (settled splits atoms _) e

pub search-rows : (depth : ℕ) (splits : List Cube) (atoms : List Atom) → outcome_of atoms ≡ too_many_rows → search depth splits atoms
    ≡ limit_met (Rows (cube_of atoms))
search-rows zero splits atoms e = ap (settled splits atoms _) e
search-rows (suc depth) splits atoms e = ap (settled splits atoms _) e

-- With a split

-- both sides, the lower one first
abbrev pub on_sides : ℕ → List Cube → List Atom → ℕ → ℤ → Search
on_sides depth splits atoms x k =
    search_on (λ more. search depth more (with_row atoms (at_least x (k +ℤ pos 1))))
    (search depth (splits ++ cube_of atoms ∷ []) (with_row atoms (at_most x k)))

pub search-too_deep : (splits : List Cube) (atoms : List Atom) (x : ℕ) (k : ℤ) → outcome_of atoms ≡ split x k → search 0 splits atoms
    ≡ limit_met (Branches splits)
search-too_deep splits atoms x k e = ap (settled splits atoms _) e

pub search-too_many : (depth : ℕ) (splits : List Cube) (atoms : List Atom) (x : ℕ) (k : ℤ) → outcome_of atoms ≡ split x k →
    512 ≤ length splits → search depth splits atoms ≡ limit_met (Branches splits)
search-too_many zero splits atoms x k e h = ap (settled splits atoms _) e
search-too_many (suc depth) splits atoms x k e h =
    ap (settled splits atoms _) e ∙ ap (λ b. if b then limit_met (Branches splits) else on_sides depth splits atoms x k)
    (at_most_yes 512 (length splits) h)

pub search-sides : (depth below : ℕ) (splits : List Cube) (atoms : List Atom) (x : ℕ) (k : ℤ) → depth ≡ suc below → outcome_of atoms
    ≡ split x k → length splits < 512 → search depth splits atoms ≡ on_sides below splits atoms x k
search-sides depth below splits atoms x k d e h =
    ap (λ n. search n splits atoms) d ∙ ap (settled splits atoms _) e ∙ ap (λ b. if b then limit_met (Branches splits) else on_sides below
    splits atoms x k) (at_most_no 512 (length splits) h)

-- The points of a question

pub holds-front : (v : Valuation) (question splits : List Atom) → HoldsAll v (question ++ splits) → HoldsAll v question
holds-front v [] splits h = tt
holds-front v (a ∷ question) splits h = (h.0, holds-front v question splits h.1)

pub holds-question : (v : Valuation) (n : ℕ) (atoms : List Atom) → HoldsAll v (take n atoms ++ drop n atoms) → HoldsAll v (take n atoms)
holds-question v n atoms h = holds-front v (take n atoms) (drop n atoms) h

-- One more split

branch-more : (question splits : List Atom) (t : LinearSum) → branch_rows question (with_row splits t) ≡ branch_rows question splits ++ t
    ∷ []
branch-more question splits t =
    ap (λ ts. rows_of question ++ range_rows (columns_of (rows_of question)) ++ ts)
    (map-append (λ (a : Atom). a.term) splits (record { term = t } ∷ [])) ∙ moved (rows_of question)
    (range_rows (columns_of (rows_of question))) (rows_of splits) (t ∷ []) where
      moved : (as_ bs cs ds : List LinearSum) → as_ ++ bs ++ (cs ++ ds) ≡ (as_ ++ bs ++ cs) ++ ds
      moved as_ bs cs ds = simp append_assoc

pub is-branch-more : (question splits : List Atom) (t : LinearSum) (x : ℕ) (a : ℤ) → IsBranch question splits → t.parts ≡ (x, a) ∷ [] →
    Contains (columns_of (rows_of question)) x → IsBranch question (with_row splits t)
is-branch-more question splits t x a b e h =
    let whole : rows_of (question ++ with_row splits t) ≡ rows_of (question ++ splits) ++ t ∷ [] = ap rows_of
    (sym (append_assoc question splits (record { term = t } ∷ []))) ∙ map-append (λ (c : Atom). c.term) (question ++ splits)
    (record { term = t } ∷ []) in
    let listed = contains-among (columns_of (rows_of question)) x h in
    ap columns_of whole ∙ columns-kept (rows_of (question ++ splits)) t x a e (subst (λ (xs : List ℕ). Among x xs) (sym b) listed) ∙ b

pub searchable-more : (s s' : Searching) (atoms more : List Atom) (t : LinearSum) (x : ℕ) (a : ℤ) → IsSearchable s atoms →
    s'.atoms ≡ s.atoms → s'.columns.items ≡ s.columns.items → more ≡ with_row atoms t → t.parts ≡ (x, a) ∷ [] → Contains s.columns.items x →
    IsSearchable s' more
searchable-more s s' atoms more t x a h en ec em et hx =
    let n = s.atoms in
    let front : take s'.atoms more ≡ take n atoms = ap (λ k. take k more) en ∙ ap (take n) em ∙ take-append-le n atoms
    (record { term = t } ∷ []) h.question in
    let back : drop s'.atoms more ≡ with_row (drop n atoms) t = ap (λ k. drop k more) en ∙ ap (drop n) em ∙ drop-append-le n atoms
    (record { term = t } ∷ []) h.question in
    record {
      question = omega (arith, h.question, en, ap length em, length-append atoms (record { term = t } ∷ []));
      columns = ec ∙ h.columns ∙ sym (ap (λ as_. columns_of (rows_of as_)) front);
      branch = subst (λ (as_ : List Atom). IsBranch as_ (drop s'.atoms more)) (sym front)
          (subst (λ (as_ : List Atom). IsBranch (take n atoms) as_) (sym back) (is-branch-more (take n atoms) (drop n atoms) t x a h.branch
          et (subst (λ (xs : List ℕ). Contains xs x) h.columns hx)));
    }

-- a refutation of the side is right after the branch's rows and its own
pub right-side : (n : ℕ) (atoms more : List Atom) (t : LinearSum) (c : Refutation) → n ≤ length atoms → more ≡ with_row atoms t →
    IsRight (branch_rows (take n more) (drop n more)) c → IsRight (branch_rows (take n atoms) (drop n atoms) ++ t ∷ []) c
right-side n atoms more t c h em r =
    let front : take n more ≡ take n atoms = ap (take n) em ∙ take-append-le n atoms (record { term = t } ∷ []) h in
    let back : drop n more ≡ with_row (drop n atoms) t = ap (drop n) em ∙ drop-append-le n atoms (record { term = t } ∷ []) h in
    subst (λ (ts : List LinearSum). IsRight ts c) (ap (λ as_. branch_rows as_ (drop n more)) front ∙ ap (branch_rows (take n atoms)) back
    ∙ branch-more (take n atoms) (drop n atoms) t) r

pub holds-side : (v : Valuation) (n : ℕ) (atoms more : List Atom) (t : LinearSum) → n ≤ length atoms → more ≡ with_row atoms t →
    HoldsAll v (take n more) → HoldsAll v (take n atoms)
holds-side v n atoms more t h em r =
    subst (HoldsAll v) (ap (take n) em ∙ take-append-le n atoms (record { term = t } ∷ []) h) r

-- both sides refuted
pub right-branch : (rows : List LinearSum) (x : ℕ) (at : ℤ) (low high : Refutation) (depth below : ℕ) → depth ≡ suc below →
    at <ℤ pos 9223372036854775807 → nesting low ≤ below → nesting high ≤ below → IsRight (rows ++ at_most x at ∷ []) low →
    IsRight (rows ++ at_least x (at +ℤ pos 1) ∷ []) high → (nesting (branch [] x at low high) ≤ depth)
    × IsRight rows (branch [] x at low high)
right-branch rows x at low high depth below d h nl nh rl rh =
    (both (nesting low) (nesting high) depth below d nl nh, (tt, h, rl, rh)) where
      both : (a b c k : ℕ) → c ≡ suc k → a ≤ k → b ≤ k → 1 + max a b ≤ c
      both a b c k d h j = omega (arith, d, h, j)

-- The two sides in turn

pub record IsSplit (depth below : ℕ) (splits : List Cube) (atoms : List Atom) (x : ℕ) (k : ℤ) : Type 0 where
  pub deeper : depth ≡ suc below
  pub plan : outcome_of atoms ≡ split x k
  pub room : length splits < 512

-- the lower side, with the branch among those that were split
pub record IsLowSide (splits pushed : List Cube) (atoms low : List Atom) (x : ℕ) (k : ℤ) : Type 0 where
  pub pushed_is : pushed ≡ splits ++ cube_of atoms ∷ []
  pub low_is : low ≡ with_row atoms (at_most x k)

sides-from : (depth below : ℕ) (splits pushed : List Cube) (atoms low : List Atom) (x : ℕ) (k : ℤ) → IsSplit depth below splits atoms x k →
    IsLowSide splits pushed atoms low x k → search depth splits atoms
    ≡ search_on (λ more. search below more (with_row atoms (at_least x (k +ℤ pos 1)))) (search below pushed low)
sides-from depth below splits pushed atoms low x k s l =
    search-sides depth below splits atoms x k s.deeper s.plan s.room
    ∙ ap (λ r. search_on (λ more. search below more (with_row atoms (at_least x (k +ℤ pos 1)))) r)
    (ap (λ ps. search below ps (with_row atoms (at_most x k))) (sym l.pushed_is) ∙ ap (search below pushed) (sym l.low_is))

pub after-low : (depth below : ℕ) (splits pushed more : List Cube) (atoms low high : List Atom) (x : ℕ) (k : ℤ) → IsSplit depth below splits
    atoms x k → IsLowSide splits pushed atoms low x k → search below pushed low ≡ nothing more →
    high ≡ with_row atoms (at_least x (k +ℤ pos 1)) → search depth splits atoms ≡ search below more high
after-low depth below splits pushed more atoms low high x k s l e h =
    sides-from depth below splits pushed atoms low x k s l
    ∙ ap (search_on (λ more. search below more (with_row atoms (at_least x (k +ℤ pos 1)))))
    e ∙ ap (search below more) (sym h)

-- an answer of the lower side
pub low-answer : (n depth below : ℕ) (splits pushed more : List Cube) (atoms low : List Atom) (x : ℕ) (k : ℤ) (s : Searched) →
    n ≤ length atoms → IsSplit depth below splits atoms x k → IsLowSide splits pushed atoms low x k → IsAnswered s →
    ((c : Certificate) → s ≡ searched.Nothing c → ⊥) → IsSearched (take n low) (drop n low) below more (search below pushed low) s →
    IsSearched (take n atoms) (drop n atoms) depth more (search depth splits atoms) s
low-answer n depth below splits pushed more atoms low x k (searched.Answer (solved.Point at)) h w l a o r = (
  sides-from depth below splits pushed atoms low x k w l
      ∙ ap (search_on (λ more. search below more (with_row atoms (at_least x (k +ℤ pos 1)))))
      r.0,
  holds-side (valuation at) n atoms low (at_most x k) h l.low_is r.1,
)
low-answer n depth below splits pushed more atoms low x k (searched.Answer (solved.Never c)) h w l a o r = absurd a
low-answer n depth below splits pushed more atoms low x k (searched.Answer (solved.Limit m)) h w l a o r = (
  sides-from depth below splits pushed atoms low x k w l
      ∙ ap (search_on (λ more. search below more (with_row atoms (at_least x (k +ℤ pos 1)))))
      r.0,
  tt,
)
low-answer n depth below splits pushed more atoms low x k (searched.Nothing c) h w l a o r = absurd (o c refl)

-- an answer of the other side
pub high-answer : (n depth below : ℕ) (splits first more : List Cube) (atoms high : List Atom) (t : LinearSum) (s : Searched) →
    n ≤ length atoms → high ≡ with_row atoms t → search depth splits atoms ≡ search below first high → IsAnswered s →
    ((c : Certificate) → s ≡ searched.Nothing c → ⊥) → IsSearched (take n high) (drop n high) below more (search below first high) s →
    IsSearched (take n atoms) (drop n atoms) depth more (search depth splits atoms) s
high-answer n depth below splits first more atoms high t (searched.Answer (solved.Point at)) h eh e a o r =
    (e ∙ r.0, holds-side (valuation at) n atoms high t h eh r.1)
high-answer n depth below splits first more atoms high t (searched.Answer (solved.Never c)) h eh e a o r = absurd a
high-answer n depth below splits first more atoms high t (searched.Answer (solved.Limit m)) h eh e a o r =
    (e ∙ r.0, tt)
high-answer n depth below splits first more atoms high t (searched.Nothing c) h eh e a o r = absurd (o c refl)

-- nothing is found, and the certificate is right
abbrev pub IsRefuted : Search → List Cube → ℕ → List LinearSum → Refutation → Type 0
IsRefuted search splits depth rows c = (search ≡ nothing splits) × (nesting c ≤ depth) × IsRight rows c

pub refuted-same : (search : Search) (splits : List Cube) (depth : ℕ) (rows : List LinearSum) (x : ℕ) (ds : List Derived) (at at' : ℤ)
    (low low' high high' : Refutation) → ds ≡ [] → at' ≡ at → low' ≡ low → high' ≡ high → IsRefuted search splits depth rows
    (branch [] x at low high) → IsRefuted search splits depth rows (branch ds x at' low' high')
refuted-same search splits depth rows x ds at at' low low' high high' ed ea el eh h =
    subst (IsRefuted search splits depth rows) (λ i. branch (sym ed i) x (sym ea i) (sym el i) (sym eh i)) h

pub both-refuted : (n depth below : ℕ) (splits pushed first more : List Cube) (atoms low high : List Atom) (x : ℕ) (k : ℤ)
    (c d : Refutation) →
    n ≤ length atoms → IsSplit depth below splits atoms x k → IsLowSide splits pushed atoms low x k →
    high ≡ with_row atoms (at_least x (k +ℤ pos 1)) → k <ℤ pos 9223372036854775807 → IsRefuted (search below pushed low) first below
    (branch_rows (take n low) (drop n low)) c → IsRefuted (search below first high) more below (branch_rows (take n high) (drop n high)) d →
    IsRefuted (search depth splits atoms) more depth (branch_rows (take n atoms) (drop n atoms)) (branch [] x k c d)
both-refuted n depth below splits pushed first more atoms low high x k c d h s l eh hk rl rh =
    let r = right-branch (branch_rows (take n atoms) (drop n atoms)) x k c d depth below s.deeper hk rl.1 rh.1
    (right-side n atoms low (at_most x k) c h l.low_is rl.2) (right-side n atoms high (at_least x (k +ℤ pos 1)) d h eh rh.2) in
    (after-low depth below splits pushed first atoms low high x k s l rl.0 eh ∙ rh.0, r.0, r.1)
