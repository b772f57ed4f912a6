-- Where too many splits are needed, that many cubes were split, and they are a tree.
use Rattle.std.proofs.Common.{◌≡◌, inl, inr, ℕ, zero, suc, ◌+◌, ◌≤◌, Bool, true, false, List, [], ◌∷◌, ◌++◌, length, ℤ, pos, arith, refl, subst}
use Rattle.std.specs.Prelude.{◌+ℤ◌, All, nat_le, nat_lt, if◌then◌else◌}
use Rattle.std.proofs.lemmas.List.{length_push}
use Rattle.std.proofs.lemmas.List.Elements.{All-nil, All-push}
use Rattle.linear_formula.specs.declared.formula.Atom.{Atom}
use Rattle.linear_formula.specs.declared.formula.Cube.{Cube}
use Rattle.linear_formula.specs.declared.question.Question.{Question}
use Rattle.linear_formula.specs.declared.question.Question.TheVariants as question
use Rattle.infeasible_cert.specs.Right.{rows_of, columns_of, at_most, at_least}
use Rattle.shadow_elim.specs.declared.limit.Limit.{Limit}
use Rattle.shadow_elim.specs.declared.limit.Limit.TheVariants.{Columns, Wide, Rows, Branches, Inexact}
use Rattle.shadow_elim.specs.declared.limit.TheConstants.{MAX_COLUMNS, MAX_SPLITS}
use Rattle.shadow_elim.specs.Plan.{Search, found, nothing, limit_met, outcome_of, cube_of, with_row, search_on, settled, search, solution}
use Rattle.shadow_elim.specs.Points.{Outcome, chosen, refuted, split, too_wide, too_many_rows}
use Rattle.shadow_elim.specs.RightLimit.{MeetsLimit}
use Rattle.shadow_elim.specs.SplitCubes.{LacksInteger, AreTree, IsBranchAfter, AreAllSplit, IfBranches, RightLimitsKeepTrees}
use Rattle.shadow_elim.proofs.Members.{Among, among-append_left, among-append_right}
use Rattle.shadow_elim.proofs.SplitTree.{IsOpen, side-open, tree-none, tree-more}

-- each of the cubes was split, they are a tree, and there are no more than may be
record AreSplit (asked : List Atom) (cubes : List Cube) : Type 0 where
  lack : All (λ cube. LacksInteger cube.atoms) cubes
  count : length cubes ≤ 512
  tree : AreTree asked cubes

-- these cubes and maybe more
record HasMore (cubes more : List Cube) : Type 0 where
  least : length cubes ≤ length more
  among : (c : Cube) → Among c cubes → Among c more

-- what a search says of the cubes that were split before it
abbrev Says : (asked : List Atom) → (before : List Cube) → Search → Type 0
Says asked before (found values) = Unit {0}
Says asked before (nothing more) = AreSplit asked more × HasMore before more
Says asked before (limit_met limit) = IfBranches limit (λ cubes. (512 ≤ length cubes) × AreSplit asked cubes
    × ((atoms : List Atom) × LacksInteger atoms × IsBranchAfter asked cubes atoms))

says_weaker : (asked : List Atom) (more before : List Cube) (s : Search) → HasMore before more → Says asked more s → Says asked before s
says_weaker asked more before (found values) h w = tt
says_weaker asked more before (nothing cubes) h w =
    (w.0, record { least = omega (arith, h.least, w.1.least); among = λ c k. w.1.among c (h.among c k) })
says_weaker asked more before (limit_met limit) h w = w

le_from : (n m : ℕ) → nat_le n m ≡ true → n ≤ m
le_from n m h = grind arith

above_from : (n m : ℕ) → nat_le n m ≡ false → suc m ≤ n
above_from n m h = grind arith

settled_says : (asked : List Atom) (splits : List Cube) (atoms : List Atom) (divide : ℕ → ℤ → Search) → AreSplit asked splits →
    ((x : ℕ) (k : ℤ) → outcome_of atoms ≡ split x k → Says asked splits (divide x k)) →
    Says asked splits (settled splits atoms divide (outcome_of atoms))
settled_says asked splits atoms divide s rest = by_outcome (outcome_of atoms) refl where
  by_outcome : (o : Outcome) → outcome_of atoms ≡ o → Says asked splits (settled splits atoms divide o)
  by_outcome (chosen values) e = tt
  by_outcome refuted e = (s, record { least = omega arith; among = λ c k. k })
  by_outcome (split x k) e = rest x k e
  by_outcome too_wide e = tt
  by_outcome too_many_rows e = tt

search_says : (asked : List Atom) (depth : ℕ) (splits : List Cube) (atoms : List Atom) → 512 ≤ depth + length splits →
    AreSplit asked splits → IsOpen asked splits atoms → Says asked splits (search depth splits atoms)
search_says asked zero splits atoms h s o =
    settled_says asked splits atoms (λ x k. limit_met (Branches splits)) s
    (λ x k e. (omega (arith, h), s, (atoms, (x, k, e), o.branch)))
search_says asked (suc depth) splits atoms h s o =
    settled_says asked splits atoms _ s (λ x k e. by_room (λ more side g t p. search_says asked depth more side g t p) x k e
    (nat_le 512 (length splits)) refl) where
      Rest : Type 0
      Rest = (more : List Cube) (side : List Atom) → 512 ≤ depth + length more → AreSplit asked more → IsOpen asked more side →
          Says asked more (search depth more side)

      pushed : List Cube
      pushed = splits ++ cube_of atoms ∷ []

      count : length pushed ≡ length splits + 1
      count = length_push splits (cube_of atoms)

      more_pushed : HasMore splits pushed
      more_pushed = record { least = omega (arith, count); among = λ c k. among-append_left splits (cube_of atoms ∷ []) c k }

      pushed_has : Among (cube_of atoms) pushed
      pushed_has = among-append_right splits (cube_of atoms ∷ []) (cube_of atoms) (inl refl)

      low : ℕ → ℤ → Search
      low x k = search depth pushed (with_row atoms (at_most x k))

      high : ℕ → ℤ → List Cube → Search
      high x k more = search depth more (with_row atoms (at_least x (k +ℤ pos 1)))

      by_low : Rest → (x : ℕ) (k : ℤ) → outcome_of atoms ≡ split x k → (r : Search) → Says asked pushed r →
          Says asked splits (search_on (high x k) r)
      by_low rest x k e (found values) w = tt
      by_low rest x k e (nothing more) w =
          says_weaker asked more splits (high x k more) (record {
            least = omega (arith, w.1.least, count);
            among = λ c i. w.1.among c (more_pushed.among c i);
          }) (rest more (with_row atoms (at_least x (k +ℤ pos 1))) (omega (arith, h, w.1.least, count)) w.0
          (side-open asked splits more atoms x k (at_least x (k +ℤ pos 1)) o (w.1.among (cube_of atoms) pushed_has) e (inr refl)))
      by_low rest x k e (limit_met limit) w = w

      by_room : Rest → (x : ℕ) (k : ℤ) → outcome_of atoms ≡ split x k → (b : Bool) → nat_le 512 (length splits) ≡ b →
          Says asked splits (if b then limit_met (Branches splits) else search_on (high x k) (low x k))
      by_room rest x k e true t = (le_from 512 (length splits) t, s, (atoms, (x, k, e), o.branch))
      by_room rest x k e false t =
          let more : AreSplit asked pushed = record {
            lack = All-push (λ cube. LacksInteger cube.atoms) splits (cube_of atoms) s.lack (x, k, e);
            count = omega (arith, count, above_from 512 (length splits) t);
            tree = tree-more asked splits (cube_of atoms) s.tree o.branch;
          } in
          by_low rest x k e (low x k) (rest pushed (with_row atoms (at_most x k)) (omega (arith, h, count)) more
          (side-open asked splits pushed atoms x k (at_most x k) o pushed_has e (inl refl)))

few_says : (depth : ℕ) (atoms : List Atom) (b : Bool) → 512 ≤ depth → Says atoms [] (if b then limit_met Columns else search depth [] atoms)
few_says depth atoms true h = tt
few_says depth atoms false h =
    search_says atoms depth [] atoms (omega (arith, h)) (record {
      lack = All-nil (λ cube. LacksInteger cube.atoms);
      count = omega arith;
      tree = tree-none atoms;
    }) (record { branch = refl; columns = refl })

branches_are : (asked : List Atom) (limit : Limit) → Says asked [] (limit_met limit) → IfBranches limit (AreAllSplit asked)
branches_are asked Columns w = tt
branches_are asked (Wide branch) w = tt
branches_are asked (Rows branch) w = tt
branches_are asked (Branches cubes) w = (omega (arith, w.0, w.1.count), w.1.lack, w.1.tree, w.2)
branches_are asked (Inexact pair) w = tt

-- the cubes that a limit of splits keeps
pub limit_splits : (atoms : List Atom) (limit : Limit) → solution atoms ≡ limit_met limit → IfBranches limit (AreAllSplit atoms)
limit_splits atoms limit e =
    branches_are atoms limit (subst (Says atoms []) e (few_says MAX_SPLITS atoms (nat_lt MAX_COLUMNS (length (columns_of (rows_of atoms))))
    (omega arith)))

-- Kept limits

right_branches : (asked : Question) (cubes : List Cube) → MeetsLimit asked (Branches cubes) →
    (cube : Cube) × (asked ≡ question.Cube cube) × AreAllSplit cube.atoms cubes
right_branches (question.Cube cube) cubes h = (cube, refl, limit_splits cube.atoms (Branches cubes) h)
right_branches (question.Combine summands constant) cubes h = absurd (apart h.0) where
  apart : Branches cubes ≡ Wide (question.Combine summands constant) → ⊥
  apart e = cc
right_branches (question.Eliminate cube columns) cubes h = absurd h

by_limit : (asked : Question) (limit : Limit) → MeetsLimit asked limit →
    IfBranches limit (λ cubes. (cube : Cube) × (asked ≡ question.Cube cube) × AreAllSplit cube.atoms cubes)
by_limit asked Columns h = tt
by_limit asked (Wide branch) h = tt
by_limit asked (Rows branch) h = tt
by_limit asked (Branches cubes) h = right_branches asked cubes h
by_limit asked (Inexact pair) h = tt

pub right_limits : RightLimitsKeepTrees
right_limits kept h = by_limit kept.question kept.limit h
