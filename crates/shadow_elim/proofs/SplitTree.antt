-- Trees of splits: one more cube, and the rows that each of them has.
use Rattle.std.proofs.Common.{◌≡◌, ◌⊎◌, inl, inr, ℕ, zero, suc, ◌+◌, ◌≤◌, Bool, true, false, List, [], ◌∷◌, ◌++◌, length, take, drop, get_or, ℤ, pos, negsuc, append_assoc, arith, refl, sym, ap, subst, ◌∙◌}
use Rattle.std.specs.Prelude.{All, Contains, int_le, if◌then◌else◌}
use Rattle.std.specs.List.{list_any}
use Rattle.std.proofs.lemmas.List.{append-nil, map-append, length-append, take-append-drop, drop_more}
use Rattle.std.proofs.lemmas.List.Elements.{All-nil, All-push}
use Rattle.linear_formula.specs.LinearSum.{LinearSum}
use Rattle.linear_formula.specs.declared.formula.Atom.{Atom}
use Rattle.linear_formula.specs.declared.formula.Cube.{Cube}
use Rattle.infeasible_cert.specs.Right.{rows_of, columns_of, base_rows}
use Rattle.shadow_elim.specs.Elimination.{Remainder, remains, wide, too_many, after_column}
use Rattle.shadow_elim.specs.Plan.{outcome_of, cube_of, with_row}
use Rattle.shadow_elim.specs.Points.{Outcome, chosen, refuted, split, too_wide, too_many_rows, nearest, lower_bound, upper_bound, lower_floor, with_value, outcome_after, outcome}
use Rattle.shadow_elim.specs.Reduction.{is_contradiction}
use Rattle.shadow_elim.specs.SplitCubes.{IsSide, IsSideOfOne, IsBranchAfter, AreTree, HasSides}
use Rattle.shadow_elim.proofs.Members.{Among, among-contains, contains-among}
use Rattle.shadow_elim.proofs.NamedColumns.{columns-kept}

-- Lists

-- the last element of a list, or an earlier one
last-cases : {X : Type 0} (xs : List X) (c : X) (before : List X) (x : X) (after : List X) → xs ++ c ∷ [] ≡ before ++ x ∷ after →
    ((before ≡ xs) × (x ≡ c)) ⊎ ((rest : List X) × (xs ≡ before ++ x ∷ rest))
last-cases [] c [] x after e = inl (refl, cc)
last-cases [] c (b ∷ []) x after e = absurd (cc)
last-cases [] c (b ∷ d ∷ bs) x after e = absurd (cc)
last-cases (y ∷ ys) c [] x after e =
    let first : y ≡ x = cc in
    inr (ys, ap (λ z. z ∷ ys) first)
last-cases {X = X} (y ∷ ys) c (b ∷ bs) x after e =
    let first : y ≡ b = cc in
    let rest : ys ++ c ∷ [] ≡ bs ++ x ∷ after = cc in
    pass first (last-cases ys c bs x after rest) where
      pass : y ≡ b → ((bs ≡ ys) × (x ≡ c)) ⊎ ((rest : List X) × (ys ≡ bs ++ x ∷ rest)) →
          ((b ∷ bs ≡ y ∷ ys) × (x ≡ c)) ⊎ ((rest : List X) × (y ∷ ys ≡ b ∷ bs ++ x ∷ rest))
      pass f (inl h) = inl (ap (λ z. z ∷ bs) (sym f) ∙ ap (λ zs. y ∷ zs) h.0, h.1)
      pass f (inr h) = inr (h.0, ap (λ z. z ∷ ys) f ∙ ap (λ zs. b ∷ zs) h.1)

-- what stands before and after an element
parted : {X : Type 0} (xs : List X) (x : X) → Among x xs → (before : List X) × (after : List X) × (xs ≡ before ++ x ∷ after)
parted [] x h = absurd h
parted (y ∷ ys) x (inl e) = ([], ys, ap (λ z. z ∷ ys) e)
parted (y ∷ ys) x (inr h) =
    let r = parted ys x h in
    (y ∷ r.0, r.1, ap (λ zs. y ∷ zs) r.2)

-- Branches

-- a split is at one of the columns
pub split-column : (xs : List ℕ) (rows : List LinearSum) (x : ℕ) (k : ℤ) → outcome xs rows ≡ split x k → Among x xs
split-column [] rows x k e = by_test (list_any is_contradiction rows) e where
  by_test : (b : Bool) → (if b then refuted else chosen []) ≡ split x k → ⊥
  by_test true e = cc
  by_test false e = cc
split-column (y ∷ ys) rows x k e =
    by_remainder (λ next f. split-column ys next x k f) (after_column y rows) e where
      by_bounds : (b : Bool) (values : List (ℕ × ℤ)) (z : ℤ) → (if b then chosen values else split y z) ≡ split x k → Among x (y ∷ ys)
      by_bounds true values z f = absurd (cc)
      by_bounds false values z f = inl (cc)

      by_outcome : (o : Outcome) → (o ≡ split x k → Among x ys) → with_value y rows o ≡ split x k → Among x (y ∷ ys)
      by_outcome (chosen values) i f =
          by_bounds (int_le (lower_bound y values rows) (upper_bound y values rows))
          ((y, nearest (lower_bound y values rows) (upper_bound y values rows)) ∷ values) (lower_floor y values rows) f
      by_outcome refuted i f = absurd (cc)
      by_outcome (split z j) i f = inr (i f)
      by_outcome too_wide i f = absurd (cc)
      by_outcome too_many_rows i f = absurd (cc)

      by_remainder : ((next : List LinearSum) → outcome ys next ≡ split x k → Among x ys) → (r : Remainder) →
          with_value y rows (outcome_after (outcome ys) r) ≡ split x k → Among x (y ∷ ys)
      by_remainder i (remains next) f = by_outcome (outcome ys next) (i next) f
      by_remainder i wide f = absurd (cc)
      by_remainder i too_many f = absurd (cc)

-- one of the cubes has been split
pub branch-of : (question : List Atom) (cubes : List Cube) (atoms : List Atom) → IsSideOfOne (columns_of (rows_of question)) cubes atoms →
    IsBranchAfter question cubes atoms
branch-of question [] atoms s = absurd (contains-among [] s.parent s.among)
branch-of question (c ∷ cs) atoms s = s

-- a branch whose columns are those of the question
pub record IsOpen (question : List Atom) (cubes : List Cube) (atoms : List Atom) : Type 0 where
  pub branch : IsBranchAfter question cubes atoms
  pub columns : columns_of (rows_of atoms) ≡ columns_of (rows_of question)

pub side-open : (question : List Atom) (before cubes : List Cube) (atoms : List Atom) (x : ℕ) (k : ℤ) (t : LinearSum) →
    IsOpen question before atoms →
    Among (cube_of atoms) cubes → outcome_of atoms ≡ split x k → IsSide x k t → IsOpen question cubes (with_row atoms t)
side-open question before cubes atoms x k t o a e s =
    let named : Among x (columns_of (rows_of atoms)) = split-column (columns_of (rows_of atoms)) (base_rows atoms) x k e in
    record {
      branch = branch-of question cubes (with_row atoms t) (record {
        parent = cube_of atoms;
        among = among-contains cubes (cube_of atoms) a;
        column = x;
        at = k;
        lacks = e;
        named = among-contains (columns_of (rows_of question)) x (subst (λ (xs : List ℕ). Among x xs) o.columns named);
        side = t;
        is_side = s;
        is = refl;
      });
      columns = ap columns_of (map-append (λ (a : Atom). a.term) atoms (record { term = t } ∷ [])) ∙ kept named s ∙ o.columns;
    } where
      kept : Among x (columns_of (rows_of atoms)) → IsSide x k t → columns_of (rows_of atoms ++ t ∷ []) ≡ columns_of (rows_of atoms)
      kept n (inl e) = columns-kept (rows_of atoms) t x (pos 1) (ap (λ (u : LinearSum). u.parts) e) n
      kept n (inr e) = columns-kept (rows_of atoms) t x (negsuc 0) (ap (λ (u : LinearSum). u.parts) e) n

-- Trees

pub tree-none : (question : List Atom) → AreTree question []
tree-none question [] cube after e = absurd (cc)
tree-none question (b ∷ bs) cube after e = absurd (cc)

pub tree-more : (question : List Atom) (cubes : List Cube) (c : Cube) → AreTree question cubes → IsBranchAfter question cubes c.atoms →
    AreTree question (cubes ++ c ∷ [])
tree-more question cubes c t b before cube after e = by_case (last-cases cubes c before cube after e) where
  by_case : ((before ≡ cubes) × (cube ≡ c)) ⊎ ((rest : List Cube) × (cubes ≡ before ++ cube ∷ rest)) → IsBranchAfter question before
      cube.atoms
  by_case (inl h) = subst (λ (d : Cube). IsBranchAfter question before d.atoms) (sym h.1)
      (subst (λ (ds : List Cube). IsBranchAfter question ds c.atoms) (sym h.0) b)
  by_case (inr h) = t before cube h.0 h.1

-- Rows after those of the question

sides-more : (question : List Atom) (cubes : List Cube) (atoms : List Atom) (s : IsSideOfOne (columns_of (rows_of question)) cubes atoms) →
    HasSides question s.parent.atoms → HasSides question atoms
sides-more question cubes atoms s h = (
  h.0 ++ record { term = s.side } ∷ [],
  s.is ∙ ap (λ as_. with_row as_ s.side) h.1 ∙ append_assoc question h.0 (record { term = s.side } ∷ []),
  All-push (λ a. (x : ℕ) × (k : ℤ) × Contains (columns_of (rows_of question)) x × IsSide x k a.term) h.0 (record { term = s.side }) h.2
      (s.column, s.at, s.named, s.is_side),
)

has-sides : (n : ℕ) (question : List Atom) (cubes before : List Cube) (cube : Cube) (after : List Cube) → AreTree question cubes →
    length before ≤ n → cubes ≡ before ++ cube ∷ after → HasSides question cube.atoms
has-sides n question cubes [] cube after t l e = (
  [],
  t [] cube after e ∙ sym (append-nil question),
  All-nil (λ a. (x : ℕ) × (k : ℤ) × Contains (columns_of (rows_of question)) x
      × IsSide x k a.term),
)
has-sides zero question cubes (b ∷ bs) cube after t l e = absurd (omega (arith, l))
has-sides (suc n) question cubes (b ∷ bs) cube after t l e =
    let s = t (b ∷ bs) cube after e in
    let r = parted (b ∷ bs) s.parent (contains-among (b ∷ bs) s.parent s.among) in
    sides-more question (b ∷ bs) cube.atoms s (has-sides n question cubes r.0 s.parent (r.1 ++ cube ∷ after) t
    (omega (arith, l, ap length r.2, length-append r.0 (s.parent ∷ r.1)))
    (e ∙ ap (λ cs. cs ++ cube ∷ after) r.2 ∙ append_assoc r.0 (s.parent ∷ r.1) (cube ∷ after)))

pub trees-have-sides : (question : List Atom) (cubes : List Cube) → AreTree question cubes → All (λ cube. HasSides question cube.atoms)
    cubes
trees-have-sides question cubes t k d l =
    has-sides (length (take k cubes)) question cubes (take k cubes) (get_or cubes k d) (drop (k + 1) cubes) t (omega arith)
    (sym (take-append-drop k cubes) ∙ ap (λ cs. take k cubes ++ cs) (drop_more cubes k d l))
