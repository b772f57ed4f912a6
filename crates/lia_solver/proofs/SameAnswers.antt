-- The extreme rows have the same answer as all rows.
use Rattle.std.proofs.Common.{◌≡◌, inl, inr, ◌⊎◌, ℕ, zero, suc, ◌<◌, Bool, true, false, List, [], ◌∷◌, ◌++◌, length, Some, ℤ, pos, ◌+ℤ◌, Contains, All, arith, refl, sym, ap, subst, ◌∙◌}
use Rattle.std.specs.Cmp.{both_ways}
use Rattle.std.specs.Prelude.{IsTrue, nat_lt, nat_le, slice_get, if◌then◌else◌}
use Rattle.std.specs.List.{list_all}
use Rattle.std.proofs.lemmas.Int.{ints}
use Rattle.std.proofs.lemmas.List.{length-append, get_or_append_left}
use Rattle.std.proofs.lemmas.List.Elements.{All-append, All-cons, All-head, All-nil, All-tail, Contains-append_left, Contains-append_right}
use Rattle.std.proofs.lemmas.Option.{slice_get_within, get_or_from_slice_get, slice_get-get_or}
use Rattle.std.proofs.Math.Seq.{get_or-append_seam}
use Rattle.linear_formula.specs.LinearSum.{LinearSum, is_within}
use Rattle.linear_formula.specs.Formula.{are_terms}
use Rattle.linear_formula.specs.Extremes.{AreExtremes, AreOuter, HaveNumbers, IsBetween}
use Rattle.linear_formula.specs.declared.formula.Atom.{Atom}
use Rattle.linear_formula.specs.declared.formula.Cube.{Cube}
use Rattle.infeasible_cert.specs.Right.{columns_of, rows_of, range_rows, at_most, at_least}
use Rattle.shadow_elim.specs.Elimination.{is_upper, is_lower, pairs, pair_sum, pair_sums}
use Rattle.shadow_elim.specs.declared.limit.TheConstants.{MAX_COLUMNS, MAX_SPLITS}
use Rattle.shadow_elim.specs.declared.limit.Limit.{Limit}
use Rattle.shadow_elim.specs.declared.limit.Limit.TheVariants.{Columns, Branches}
use Rattle.shadow_elim.specs.Points.{Outcome, chosen, refuted, split, too_wide, too_many_rows, outcome}
use Rattle.shadow_elim.specs.Plan.{Search, found, nothing, limit_met, outcome_of, cube_of, with_row, search_on, settled, search, solution}
use Rattle.shadow_elim.specs.Questions.{IsMet, IsNever}
use Rattle.shadow_elim.proofs.Keeping.{IsPairOf, among-pairs}
use Rattle.shadow_elim.proofs.Members.{Among, among-append_left, among-append_right, among-append_cases, among-map, map-among, all-among, contains-among, among-contains}
use Rattle.shadow_elim.proofs.Staying.{IsAtLeast, at-least-itself}
use Rattle.infeasible_cert.proofs.Alike.{columns_of_extremes}
use Rattle.lia_solver.proofs.Covered.{SameFirst, SameWidth, width-among, outcome-same}
use Rattle.lia_solver.proofs.Covering.{covers-among, upper-same, lower-same, sum-stronger}
use Rattle.lia_solver.proofs.Gathering.{within-between}
use Rattle.lia_solver.proofs.Stepping.{within-all}

-- Rows between which others lie

-- the row lies between two of these
pub record LiesBetween (rows : List LinearSum) (t : LinearSum) : Type 0 where
  pub upper : LinearSum
  pub upper_there : Among upper rows
  pub above : IsAtLeast upper t
  pub lower : LinearSum
  pub lower_there : Among lower rows
  pub below : IsAtLeast t lower

-- rows are some of the others, and the others lie between them
pub record Enclose (rows others : List LinearSum) : Type 0 where
  pub some_of : (t : LinearSum) → Among t rows → Among t others
  pub between : (t : LinearSum) → Among t others → LiesBetween rows t

-- the same rows after both
pub enclose_append : (rows others more : List LinearSum) → Enclose rows others → Enclose (rows ++ more) (others ++ more)
enclose_append rows others more e = record {
  some_of = λ t a. some_by t (among-append_cases rows more t a);
  between = λ t a. between_by t (among-append_cases others more t a);
} where
  some_by : (t : LinearSum) → Among t rows ⊎ Among t more → Among t (others ++ more)
  some_by t (inl a) = among-append_left others more t (e.some_of t a)
  some_by t (inr a) = among-append_right others more t a

  between_by : (t : LinearSum) → Among t others ⊎ Among t more → LiesBetween (rows ++ more) t
  between_by t (inl a) =
      let b = e.between t a in
      record {
        upper = b.upper;
        upper_there = among-append_left rows more b.upper b.upper_there;
        above = b.above;
        lower = b.lower;
        lower_there = among-append_left rows more b.lower b.lower_there;
        below = b.below;
      }
  between_by t (inr a) = record {
    upper = t;
    upper_there = among-append_right rows more t a;
    above = at-least-itself t;
    lower = t;
    lower_there = among-append_right rows more t a;
    below = at-least-itself t;
  }

pub enclosed_width : (x : ℕ) (rows others : List LinearSum) → Enclose rows others → SameWidth x rows others
enclosed_width x rows others e =
    both_ways _ _ (λ w. within-all x others (λ u l p. within w u l p)) (width-among x others rows e.some_of) where
      sum_within : list_all is_within (pair_sums x rows) ≡ true → (s r : LinearSum) → Among s rows → Among r rows →
          IsTrue (is_upper x s) → IsTrue (is_lower x r) → IsTrue (is_within (pair_sum x (s, r)))
      sum_within w s r a b u l = all-among is_within (pair_sums x rows) (pair_sum x (s, r)) w
          (among-map (pair_sum x) (pairs x rows) (s, r) (among-pairs x rows s r a b u l))

      within : list_all is_within (pair_sums x rows) ≡ true → (u l : LinearSum) → IsPairOf x others u l →
          IsTrue (is_within (pair_sum x (u, l)))
      within w u l p =
          let a = e.between u p.upper in
          let b = e.between l p.lower in
          let greatest = sum_within w a.upper b.upper a.upper_there b.upper_there (upper-same x a.upper u a.above ∙ p.is_upper)
          (lower-same x b.upper l b.above ∙ p.is_lower) in
          let least = sum_within w a.lower b.lower a.lower_there b.lower_there (sym (upper-same x u a.lower a.below) ∙ p.is_upper)
          (sym (lower-same x l b.lower b.below) ∙ p.is_lower) in
          within-between (pair_sum x (a.upper, b.upper)) (pair_sum x (u, l)) (pair_sum x (a.lower, b.lower))
          (sum-stronger x a.upper u b.upper l a.above b.above) (sum-stronger x u a.lower l b.lower a.below b.below) greatest least

enclosed_first : (columns : List ℕ) (rows others : List LinearSum) → Enclose rows others → SameFirst columns rows others
enclosed_first [] rows others e = tt
enclosed_first (x ∷ xs) rows others e = enclosed_width x rows others e

-- they have the same outcome
pub enclosed_outcome : (columns : List ℕ) (rows others : List LinearSum) → Enclose rows others → outcome columns rows
    ≡ outcome columns others
enclosed_outcome columns rows others e =
    outcome-same columns rows others (λ t a. inr ((e.between t a).upper, (e.between t a).upper_there, (e.between t a).above))
    (covers-among others rows e.some_of) (enclosed_first columns rows others e)

-- Extreme rows

pub numbered_among : (ns : List ℕ) (rows all : List Atom) (a : Atom) → HaveNumbers ns rows all → Among a rows → Among a all
numbered_among [] [] all a h k = absurd k
numbered_among [] (r ∷ rows) all a h k = absurd h
numbered_among (n ∷ ns) [] all a h k = absurd k
numbered_among (n ∷ ns) (r ∷ rows) all a h (inl e) =
    subst (λ (b : Atom). Among b all) e
    (contains-among all r (n, slice_get_within all n r h.0, get_or_from_slice_get all n r r h.0))
numbered_among (n ∷ ns) (r ∷ rows) all a h (inr k) = numbered_among ns rows all a h.1 k

pub between_among : (rows all : List Atom) (a : Atom) → All (λ b. IsBetween rows b.term) all → Among a all → IsBetween rows a.term
between_among rows [] a h k = absurd k
between_among rows (b ∷ all) a h (inl e) =
    subst (λ (c : Atom). IsBetween rows c.term) e (All-head (λ (c : Atom). IsBetween rows c.term) b all h)
between_among rows (b ∷ all) a h (inr k) = between_among rows all a (All-tail (λ (c : Atom). IsBetween rows c.term) b all h) k

term_there : (rows : List Atom) (a : Atom) → Contains rows a → Among a.term (rows_of rows)
term_there rows a c = among-map (λ (b : Atom). b.term) rows a (contains-among rows a c)

pub extremes_enclose : (ns : List ℕ) (rows all : List Atom) → AreExtremes ns rows all → Enclose (rows_of rows) (rows_of all)
extremes_enclose ns rows all e = record {
  some_of = λ t k.
      let m = map-among (λ (b : Atom). b.term) rows t k in
      subst (λ (s : LinearSum). Among s (rows_of all)) m.2
      (among-map (λ (b : Atom). b.term) all m.0 (numbered_among ns rows all m.0 e.numbered m.1));
  between = λ t k.
      let m = map-among (λ (b : Atom). b.term) all t k in
      subst (λ (s : LinearSum). LiesBetween (rows_of rows) s) m.2 (as_between m.0.term (between_among rows all m.0 e.between m.1));
} where
  as_between : (t : LinearSum) → IsBetween rows t → LiesBetween (rows_of rows) t
  as_between t b = record {
    upper = b.upper.term;
    upper_there = term_there rows b.upper b.upper_there;
    above = record { parts = b.above.parts; constant = b.above.constant };
    lower = b.lower.term;
    lower_there = term_there rows b.lower b.lower_there;
    below = record { parts = b.below.parts; constant = b.below.constant };
  }

-- a branch of extreme rows has the outcome of the branch of all rows
pub extremes_outcome : (ns : List ℕ) (rows all : List Atom) → AreExtremes ns rows all → outcome_of rows ≡ outcome_of all
extremes_outcome ns rows all e =
    let columns = columns_of (rows_of all) in
    ap (λ (xs : List ℕ). outcome xs (rows_of rows ++ range_rows xs)) (columns_of_extremes ns rows all e)
    ∙ enclosed_outcome columns (rows_of rows ++ range_rows columns) (rows_of all ++ range_rows columns)
    (enclose_append (rows_of rows) (rows_of all) (range_rows columns) (extremes_enclose ns rows all e))

-- One more row

numbered_append : (ns : List ℕ) (rows all : List Atom) (a : Atom) → HaveNumbers ns rows all →
    HaveNumbers (ns ++ length all ∷ []) (rows ++ a ∷ []) (all ++ a ∷ [])
numbered_append [] [] all a h = (last, tt) where
  last : slice_get (all ++ a ∷ []) (length all) ≡ Some a
  last =
      slice_get-get_or (all ++ a ∷ []) (length all) a (omega (arith, length-append all (a ∷ [])))
      ∙ ap Some (get_or-append_seam all a [] a)
numbered_append [] (r ∷ rows) all a h = absurd h
numbered_append (n ∷ ns) [] all a h = absurd h
numbered_append (n ∷ ns) (r ∷ rows) all a h = (earlier, numbered_append ns rows all a h.1) where
  inside : n < length all
  inside = slice_get_within all n r h.0

  earlier : slice_get (all ++ a ∷ []) n ≡ Some r
  earlier =
      slice_get-get_or (all ++ a ∷ []) n r (omega (arith, inside, length-append all (a ∷ [])))
      ∙ ap Some (get_or_append_left all (a ∷ []) r n inside ∙ get_or_from_slice_get all n r r h.0)

between_append : (rows : List Atom) (a : Atom) (t : LinearSum) → IsBetween rows t → IsBetween (rows ++ a ∷ []) t
between_append rows a t b = record {
  upper = b.upper;
  upper_there = Contains-append_left rows (a ∷ []) b.upper b.upper_there;
  above = b.above;
  lower = b.lower;
  lower_there = Contains-append_left rows (a ∷ []) b.lower b.lower_there;
  below = b.below;
}

-- the same row after both
pub extremes_append : (ns : List ℕ) (rows all : List Atom) (a : Atom) → AreExtremes ns rows all →
    AreExtremes (ns ++ length all ∷ []) (rows ++ a ∷ []) (all ++ a ∷ [])
extremes_append ns rows all a e = record {
  numbered = numbered_append ns rows all a e.numbered;
  between = All-append Between all (a ∷ []) (λ k d l. between_append rows a _ (e.between k d l))
      (All-cons Between a [] itself (All-nil Between));
} where
  Between : Atom → Type 0
  Between b = IsBetween (rows ++ a ∷ []) b.term

  there : Contains (rows ++ a ∷ []) a
  there = Contains-append_right rows (a ∷ []) a (among-contains (a ∷ []) a (inl refl))

  itself : IsBetween (rows ++ a ∷ []) a.term
  itself = record {
    upper = a;
    upper_there = there;
    above = record { parts = refl; constant = omega (arith, ints) };
    lower = a;
    lower_there = there;
    below = record { parts = refl; constant = omega (arith, ints) };
  }

-- Searches

-- a point or nothing on the left is the same on the right, where the splits are as many
abbrev pub Follows : Search → Search → Type 0
Follows (found values) s = s ≡ found values
Follows (nothing splits) s = (more : List Cube) × (s ≡ nothing more) × (length more ≡ length splits)
Follows (limit_met limit) s = Unit {0}

settled_follows : (splits more : List Cube) (rows all : List Atom) (divide divided : ℕ → ℤ → Search) (o : Outcome) →
    length more ≡ length splits → ((x : ℕ) (k : ℤ) → Follows (divide x k) (divided x k)) →
    Follows (settled splits rows divide o) (settled more all divided o)
settled_follows splits more rows all divide divided (chosen values) l h = refl
settled_follows splits more rows all divide divided refuted l h = (more, refl, l)
settled_follows splits more rows all divide divided (split x k) l h = h x k
settled_follows splits more rows all divide divided too_wide l h = tt
settled_follows splits more rows all divide divided too_many_rows l h = tt

search_on_follows : (next after : List Cube → Search) → ((splits more : List Cube) → length more ≡ length splits →
    Follows (next splits) (after more)) → (s r : Search) → Follows s r → Follows (search_on next s) (search_on after r)
search_on_follows next after h (found values) r f = ap (search_on after) f
search_on_follows next after h (nothing splits) r f =
    subst (Follows (next splits)) (sym (ap (search_on after) f.1)) (h splits f.0 f.2)
search_on_follows next after h (limit_met limit) r f = tt

if_follows : (b c : Bool) (limit other : Limit) (s r : Search) → b ≡ c → Follows s r →
    Follows (if b then limit_met limit else s) (if c then limit_met other else r)
if_follows true c limit other s r e f = tt
if_follows false false limit other s r e f = f
if_follows false true limit other s r e f = absurd (cc)

more_by_one : (splits more : List Cube) (a b : Cube) → length more ≡ length splits → length (more ++ b ∷ [])
    ≡ length (splits ++ a ∷ [])
more_by_one splits more a b e = omega (arith, e, length-append more (b ∷ []), length-append splits (a ∷ []))

-- to this depth
abbrev pub FollowsAt : ℕ → Type 0
FollowsAt depth = (splits more : List Cube) (ns : List ℕ) (rows all : List Atom) → length more ≡ length splits → AreExtremes ns rows all →
    Follows (search depth splits rows) (search depth more all)

step_follows : (depth : ℕ) → FollowsAt depth → FollowsAt (suc depth)
step_follows depth below splits more ns rows all l e =
    subst (λ (o : Outcome). Follows (settled splits rows divide (outcome_of rows)) (settled more all divided o))
    (extremes_outcome ns rows all e) (settled_follows splits more rows all divide divided (outcome_of rows) l (λ x k.
    if_follows (nat_le MAX_SPLITS (length splits)) (nat_le MAX_SPLITS (length more)) (Branches splits) (Branches more) (both_sides x k)
    (both_sides_of_all x k) (ap (nat_le MAX_SPLITS) (sym l)) (sides_follow x k))) where
      high : ℕ → ℤ → List Cube → Search
      high x k cubes = search depth cubes (with_row rows (at_least x (k +ℤ pos 1)))

      high_of_all : ℕ → ℤ → List Cube → Search
      high_of_all x k cubes = search depth cubes (with_row all (at_least x (k +ℤ pos 1)))

      both_sides : ℕ → ℤ → Search
      both_sides x k = search_on (high x k) (search depth (splits ++ cube_of rows ∷ []) (with_row rows (at_most x k)))

      both_sides_of_all : ℕ → ℤ → Search
      both_sides_of_all x k = search_on (high_of_all x k) (search depth (more ++ cube_of all ∷ []) (with_row all (at_most x k)))

      divide : ℕ → ℤ → Search
      divide x k = if nat_le MAX_SPLITS (length splits) then limit_met (Branches splits) else both_sides x k

      divided : ℕ → ℤ → Search
      divided x k = if nat_le MAX_SPLITS (length more) then limit_met (Branches more) else both_sides_of_all x k

      with_both : (t : LinearSum) → AreExtremes (ns ++ length all ∷ []) (with_row rows t) (with_row all t)
      with_both t = extremes_append ns rows all (record { term = t }) e

      sides_follow : (x : ℕ) (k : ℤ) → Follows (both_sides x k) (both_sides_of_all x k)
      sides_follow x k =
          search_on_follows (high x k) (high_of_all x k)
          (λ cubes others m. below cubes others (ns ++ length all ∷ []) (with_row rows (at_least x (k +ℤ pos 1)))
          (with_row all (at_least x (k +ℤ pos 1))) m (with_both (at_least x (k +ℤ pos 1))))
          (search depth (splits ++ cube_of rows ∷ []) (with_row rows (at_most x k)))
          (search depth (more ++ cube_of all ∷ []) (with_row all (at_most x k)))
          (below (splits ++ cube_of rows ∷ []) (more ++ cube_of all ∷ []) (ns ++ length all ∷ [])
          (with_row rows (at_most x k)) (with_row all (at_most x k)) (more_by_one splits more (cube_of rows) (cube_of all) l)
          (with_both (at_most x k)))

pub search_follows : (depth : ℕ) → FollowsAt depth
search_follows zero = λ splits more ns rows all l e. subst (λ (o : Outcome). Follows (search zero splits rows)
    (settled more all (λ x k. limit_met (Branches more)) o)) (extremes_outcome ns rows all e)
    (settled_follows splits more rows all (λ x k. limit_met (Branches splits)) (λ x k. limit_met (Branches more)) (outcome_of rows) l
    (λ x k. tt))
search_follows (suc depth) = step_follows depth (search_follows depth)

pub solution_follows : (ns : List ℕ) (rows all : List Atom) → AreExtremes ns rows all → Follows (solution rows) (solution all)
solution_follows ns rows all e =
    if_follows (nat_lt MAX_COLUMNS (length (columns_of (rows_of rows)))) (nat_lt MAX_COLUMNS (length (columns_of (rows_of all))))
    Columns Columns (search MAX_SPLITS [] rows) (search MAX_SPLITS [] all)
    (ap (λ (xs : List ℕ). nat_lt MAX_COLUMNS (length xs)) (columns_of_extremes ns rows all e))
    (search_follows MAX_SPLITS [] [] ns rows all refl e)

-- The answers of both

pub found_extremes : (ns : List ℕ) (rows all : List Atom) (values : List (ℕ × ℤ)) → AreExtremes ns rows all →
    solution rows ≡ found values → solution all ≡ found values
found_extremes ns rows all values e h = subst (λ (s : Search). Follows s (solution all)) h (solution_follows ns rows all e)

-- for this nothing need be known of the rows' limits
pub met-outer : (rows all : List Atom) → AreOuter rows all → IsMet rows → IsMet all
met-outer rows all o h = (h.0, found_extremes o.numbers rows all h.0 o.extremes h.1)

pub never-outer : (rows all : List Atom) → AreOuter rows all → IsNever rows → IsNever all
never-outer rows all o h = (f.0, f.1) where
  f : Follows (nothing h.0) (solution all)
  f = subst (λ (s : Search). Follows s (solution all)) h.1 (solution_follows o.numbers rows all o.extremes)

pub met-extremes : (ns : List ℕ) (rows all : List Atom) → AreExtremes ns rows all → IsTrue (are_terms all) → IsMet rows → IsMet all
met-extremes ns rows all e t h = met-outer rows all (record { numbers = ns; extremes = e }) h

pub never-extremes : (ns : List ℕ) (rows all : List Atom) → AreExtremes ns rows all → IsTrue (are_terms all) → IsNever rows → IsNever all
never-extremes ns rows all e t h = never-outer rows all (record { numbers = ns; extremes = e }) h
