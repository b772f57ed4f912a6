-- What the kept rows of a must tell holds of the must.
use Rattle.std.proofs.Common.{◌≡◌, ◌⊎◌, inl, inr, ⊎_elim, ℕ, ◌+◌, ◌≤◌, nat_lt, nat_le, Bool, true, false, List, [], ◌∷◌, ◌++◌, append-nil, append_assoc, length, map, Option, None, ℤ, pos, arith, refl, sym, ap, subst, ◌∙◌}
use Rattle.std.specs.Prelude.{Contains, IsTrue, option_map, slice_index_or}
use Rattle.std.specs.List.{filter, range_with_len}
use Rattle.std.proofs.lemmas.Bool.Decides.{nat_tests}
use Rattle.std.proofs.lemmas.Int.{ints}
use Rattle.std.proofs.lemmas.List.{map-append}
use Rattle.std.proofs.lemmas.List.Elements.{All-contains_itself, All-head, All-map}
use Rattle.std.proofs.lemmas.Option.{slice_get-map}
use Rattle.linear_formula.specs.LinearSum.{LinearSum}
use Rattle.linear_formula.specs.Results.{renamed_by, renamed_column, renamed_parts}
use Rattle.linear_formula.specs.Replaced.{summands_of}
use Rattle.linear_formula.specs.Formula.{renamed_atoms_by}
use Rattle.linear_formula.specs.Extremes.{AreExtremes, AreOuter, HaveNumbers, IsAsStrong, IsBetween}
use Rattle.linear_formula.specs.declared.formula.Atom.{Atom}
use Rattle.linear_formula.proofs.ExtremeRows.{append-extremes, between_append_left, between_append_right, own-extremes}
use Rattle.linear_formula.proofs.Limits.{both}
use Rattle.linear_formula.proofs.Values.{chosen_of_two}
use Rattle.infeasible_cert.specs.Right.{columns_of, rows_of}
use Rattle.infeasible_cert.proofs.Alike.{IsIn, IsOfParts, IsOfRows, columns_named, columns_of_extremes, named_columns, same_members}
use Rattle.infeasible_cert.proofs.Ascending.{Ascends, columns-ascend}
use Rattle.shadow_elim.specs.Elimination.{elimination, listed_rows, remains}
use Rattle.shadow_elim.specs.Projection.{Projected, gives, projected, unless_wide}
use Rattle.shadow_elim.specs.Questions.{IsMet, IsNever}
use Rattle.shadow_elim.specs.Shadows.{NamesNone}
use Rattle.shadow_elim.specs.Sums.{first_wide, renaming, row_sums, rows_of_sums}
use Rattle.shadow_elim.specs.declared.sum.Sum.{Sum}
use Rattle.shadow_elim.proofs.Members.{Among, among-append_cases, among-append_left, among-append_right, among-contains, among-filter, among-map, contains-among, filter-among}
use Rattle.shadow_elim.proofs.ReadExtremes.{read-extremes}
use Rattle.shadow_elim.proofs.Summing.{rows-more}
use Rattle.lia_solver.specs.ByParts.{KeepsRoom}
use Rattle.lia_solver.proofs.ByParts.{by-parts}
use Rattle.lia_solver.proofs.ChosenPoints.{ascends-above, ascends-from_lower}
use Rattle.lia_solver.proofs.ProjectedExtremes.{numbers_among, projected-extremes}
use Rattle.lia_solver.proofs.SameAnswers.{between_among, met-outer, never-outer, numbered_among}
use Rattle.flow_graph.specs.Calls.{CallSite, call_site}
use Rattle.flow_graph.specs.Columns.{first_symbol, names_only, rows_name_only}
use Rattle.flow_graph.specs.Readings.{reading}
use Rattle.flow_graph.specs.Shapes.{is_call}
use Rattle.flow_graph.specs.declared.graph.Edge.{Edge}
use Rattle.flow_graph.specs.declared.graph.Edge.TheVariants as edges
use Rattle.summary_form.specs.declared.path.Path.{Path}
use Rattle.summary_form.specs.declared.query.ExitKind.{ExitKind}
use Rattle.summary_form.specs.declared.query.ExitKind.TheVariants as kind
use Rattle.summary_form.specs.declared.query.Query.{Query}
use Rattle.must_region.specs.Rules.{carried, carried_sums, matches, must_slots, set_terms, shifted}
use Rattle.must_region.specs.Traces.{Trace}
use Rattle.must_region.proofs.Starting.{wide_append}
use Rattle.call_bridge.specs.Musts.{exit_reading, must_preimage, must_rows, must_sums, other_sums, plain_rows, replacing, slot_sums, slotted, symbol_columns}
use Rattle.call_bridge.proofs.Naming.{parts_name_only}
use Rattle.query_rules.specs.Crossings.{Crossing, IsPreOf, IsRead, IsShownNotToCome, IsShownNotToSplit, must_crossing}
use Rattle.query_rules.specs.Rows.{seen_at}
use Rattle.query_rules.proofs.AppliedSteps.{front_fits}
use Rattle.query_rules.proofs.NamedPreimages.{absent_atoms}
use Rattle.punch_step.specs.ByMusts.{NeitherBy, crossing_by, marking}
use Rattle.punch_step.specs.KnownMusts.{AreGuardRows, AreOwnRows, IsBareOf, IsPreOuter, own_rows, site_with}
use Rattle.punch_step.specs.declared.by_must.Calling.{Calling}
use Rattle.punch_step.specs.declared.own_rows.OwnRows.{OwnRows}
use Rattle.punch_step.specs.steps.Musts.{IsWhole}
use Rattle.punch_step.proofs.Deciding.{wide_behind}

-- Rows by other columns

abbrev renamed_row : (ℕ → ℕ) → Atom → Atom
renamed_row f a = record { term = renamed_by f a.term }

rows_renamed : (f : ℕ → ℕ) (rows : List Atom) → map (renamed_row f) rows ≡ renamed_atoms_by f rows
rows_renamed f [] = refl
rows_renamed f (a ∷ rows) = ap (λ l. renamed_row f a ∷ l) (rows_renamed f rows)

strong_renamed : (f : ℕ → ℕ) (s t : LinearSum) → IsAsStrong s t → IsAsStrong (renamed_by f s) (renamed_by f t)
strong_renamed f s t h = record { parts = ap (renamed_parts f) h.parts; constant = h.constant }

numbered_renamed : (f : ℕ → ℕ) (ns : List ℕ) (rows all : List Atom) → HaveNumbers ns rows all →
    HaveNumbers ns (map (renamed_row f) rows) (map (renamed_row f) all)
numbered_renamed f [] [] all h = tt
numbered_renamed f [] (a ∷ rows) all h = absurd h
numbered_renamed f (n ∷ ns) [] all h = absurd h
numbered_renamed f (n ∷ ns) (a ∷ rows) all h =
    (slice_get-map (renamed_row f) all n ∙ ap (λ o. option_map (renamed_row f) o) h.0, numbered_renamed f ns rows all h.1)

there_renamed : (f : ℕ → ℕ) (rows : List Atom) (a : Atom) → Contains rows a → Contains (map (renamed_row f) rows) (renamed_row f a)
there_renamed f rows a h =
    among-contains (map (renamed_row f) rows) (renamed_row f a) (among-map (renamed_row f) rows a (contains-among rows a h))

between_renamed : (f : ℕ → ℕ) (rows : List Atom) (t : LinearSum) → IsBetween rows t → IsBetween (map (renamed_row f) rows) (renamed_by f t)
between_renamed f rows t h = record {
  upper = renamed_row f h.upper;
  upper_there = there_renamed f rows h.upper h.upper_there;
  above = strong_renamed f h.upper.term t h.above;
  lower = renamed_row f h.lower;
  lower_there = there_renamed f rows h.lower h.lower_there;
  below = strong_renamed f t h.lower.term h.below;
}

-- extreme rows by other columns are the extremes of all rows by them
pub renamed-extremes : (f : ℕ → ℕ) (ns : List ℕ) (rows all : List Atom) → AreExtremes ns rows all →
    AreExtremes ns (renamed_atoms_by f rows) (renamed_atoms_by f all)
renamed-extremes f ns rows all x =
    subst (λ (l : List Atom). AreExtremes ns l (renamed_atoms_by f all)) (rows_renamed f rows)
    (subst (λ (l : List Atom). AreExtremes ns (map (renamed_row f) rows) l) (rows_renamed f all) (record {
      numbered = numbered_renamed f ns rows all x.numbered;
      between = All-map (λ (a : Atom). IsBetween (map (renamed_row f) rows) a.term) (renamed_row f) all
          (λ i d h. between_renamed f rows (slice_index_or all i d).term (x.between i d h));
    }))

-- Rows that are extreme ones, whatever their numbers

outer_some : (rows all : List Atom) → AreOuter rows all → (a : Atom) → Among a rows → Among a all
outer_some rows all o a k = numbered_among o.numbers rows all a o.extremes.numbered k

outer_inside : (rows all : List Atom) → AreOuter rows all → (a : Atom) → Among a all → IsBetween rows a.term
outer_inside rows all o a k = between_among rows all a o.extremes.between k

-- some of all rows, between which all of them lie
outer_among : (rows all : List Atom) → ((a : Atom) → Among a rows → Among a all) →
    ((a : Atom) → Among a all → IsBetween rows a.term) → AreOuter rows all
outer_among rows all some inside =
    let n = numbers_among rows all some in
    record {
      numbers = n.0;
      extremes = record {
        numbered = n.1;
        between = λ k d l. inside _ (contains-among all _ (All-contains_itself all k d l));
      };
    }

between_through : (rows more : List Atom) (t : LinearSum) → AreOuter rows more → IsBetween more t → IsBetween rows t
between_through rows more t o b =
    let u = outer_inside rows more o b.upper (contains-among more b.upper b.upper_there) in
    let l = outer_inside rows more o b.lower (contains-among more b.lower b.lower_there) in
    record {
      upper = u.upper;
      upper_there = u.upper_there;
      above = record { parts = u.above.parts ∙ b.above.parts; constant = omega (arith, ints, u.above.constant, b.above.constant) };
      lower = l.lower;
      lower_there = l.lower_there;
      below = record { parts = b.below.parts ∙ l.below.parts; constant = omega (arith, ints, b.below.constant, l.below.constant) };
    }

-- extreme rows of extreme ones
pub outer_through : (rows more all : List Atom) → AreOuter rows more → AreOuter more all → AreOuter rows all
outer_through rows more all o p =
    outer_among rows all (λ a k. outer_some more all p a (outer_some rows more o a k))
    (λ a k. between_through rows more a.term o (outer_inside more all p a k))

-- extreme rows of two lists are ones of the rows of both, in any order
outer_joined : (rows ends guard all whole : List Atom) → AreOuter rows guard → AreOuter ends all →
    ((a : Atom) → Among a guard → Among a whole) → ((a : Atom) → Among a all → Among a whole) →
    ((a : Atom) → Among a whole → Among a guard ⊎ Among a all) → AreOuter (rows ++ ends) whole
outer_joined rows ends guard all whole o p first second either =
    outer_among (rows ++ ends) whole (λ a k. some_by a (among-append_cases rows ends a k)) (λ a k. inside_by a (either a k)) where
      some_by : (a : Atom) → Among a rows ⊎ Among a ends → Among a whole
      some_by a (inl k) = first a (outer_some rows guard o a k)
      some_by a (inr k) = second a (outer_some ends all p a k)

      inside_by : (a : Atom) → Among a guard ⊎ Among a all → IsBetween (rows ++ ends) a.term
      inside_by a (inl k) = between_append_left rows ends a.term (outer_inside rows guard o a k)
      inside_by a (inr k) = between_append_right rows ends a.term (outer_inside ends all p a k)

-- rows of a guard, and of what stands around it
pub outer_around : (guard front behind rows ends : List Atom) → AreOuter rows guard → AreOuter ends (front ++ behind) →
    AreOuter (rows ++ ends) ((front ++ guard) ++ behind)
outer_around guard front behind rows ends o p =
    outer_joined rows ends guard (front ++ behind) ((front ++ guard) ++ behind) o p inner (λ a k. outer_by a
    (among-append_cases front behind a k)) (λ a k. whole_by a (among-append_cases (front ++ guard) behind a k)) where
      inner : (a : Atom) → Among a guard → Among a ((front ++ guard) ++ behind)
      inner a k = among-append_left (front ++ guard) behind a (among-append_right front guard a k)

      outer_by : (a : Atom) → Among a front ⊎ Among a behind → Among a ((front ++ guard) ++ behind)
      outer_by a (inl k) = among-append_left (front ++ guard) behind a (among-append_left front guard a k)
      outer_by a (inr k) = among-append_right (front ++ guard) behind a k

      front_by : (a : Atom) → Among a front ⊎ Among a guard → Among a guard ⊎ Among a (front ++ behind)
      front_by a (inl k) = inr (among-append_left front behind a k)
      front_by a (inr k) = inl k

      whole_by : (a : Atom) → Among a (front ++ guard) ⊎ Among a behind → Among a guard ⊎ Among a (front ++ behind)
      whole_by a (inl k) = front_by a (among-append_cases front guard a k)
      whole_by a (inr k) = inr (among-append_right front behind a k)

pub outer_renamed : (f : ℕ → ℕ) (rows all : List Atom) → AreOuter rows all → AreOuter (renamed_atoms_by f rows) (renamed_atoms_by f all)
outer_renamed f rows all o = record { numbers = o.numbers; extremes = renamed-extremes f o.numbers rows all o.extremes }

pub outer_itself : (rows : List Atom) → AreOuter rows rows
outer_itself rows = record { numbers = range_with_len 0 (length rows); extremes = own-extremes rows }

pub outer_both : (rows others all more : List Atom) → AreOuter rows all → AreOuter others more → AreOuter (rows ++ others) (all ++ more)
outer_both rows others all more o p = record {
  numbers = o.numbers ++ map (λ m. length all + m) p.numbers;
  extremes = append-extremes o.numbers p.numbers rows others all more o.extremes p.extremes;
}

-- the same rows before both, or after both
pub outer_behind : (before rows all : List Atom) → AreOuter rows all → AreOuter (before ++ rows) (before ++ all)
outer_behind before rows all o = outer_both before rows before all (outer_itself before) o

pub outer_before : (rows all more : List Atom) → AreOuter rows all → AreOuter (rows ++ more) (all ++ more)
outer_before rows all more o = outer_both rows more all more o (outer_itself more)

-- rows that are read
pub outer_read : (by : ℕ → LinearSum) (rows all : List Atom) → AreOuter rows all → first_wide (row_sums by rows) ≡ None →
    (first_wide (row_sums by all) ≡ None) × AreOuter (rows_of_sums (row_sums by rows)) (rows_of_sums (row_sums by all))
outer_read by rows all o e =
    let r = read-extremes by o.numbers rows all o.extremes e in
    (r.0, record { numbers = o.numbers; extremes = r.1 })

-- where there are none, there are no rows
none_outer : (all : List Atom) → AreOuter [] all → all ≡ []
none_outer [] o = refl
none_outer (a ∷ all) o = absurd (contains-among [] b.upper b.upper_there) where
  b : IsBetween [] a.term
  b = All-head (λ (c : Atom). IsBetween [] c.term) a all o.extremes.between

-- The symbols that rows name

is_in : (z : ℕ) (xs : List ℕ) → Among z xs → IsIn z xs
is_in z [] k = absurd k
is_in z (x ∷ xs) (inl e) = inl (sym e)
is_in z (x ∷ xs) (inr k) = inr (is_in z xs k)

in_among : (z : ℕ) (xs : List ℕ) → IsIn z xs → Among z xs
in_among z [] k = absurd k
in_among z (x ∷ xs) (inl e) = inl (sym e)
in_among z (x ∷ xs) (inr k) = inr (in_among z xs k)

ascends_filtered : (p : ℕ → Bool) (low : ℕ) (xs : List ℕ) → Ascends low xs → Ascends low (filter p xs)
ascends_filtered p low [] a = tt
ascends_filtered p low (x ∷ xs) a =
    let rest = ascends_filtered p (x + 1) xs a.1 in
    chosen_of_two (λ r. Ascends low r) (p x) (x ∷ filter p xs) (filter p xs) (λ e. (a.0, rest))
    (λ e. ascends-from_lower (x + 1) low (filter p xs) (omega (arith, a.0)) rest)

last_not_before : (low : ℕ) (xs : List ℕ) (x : ℕ) → Ascends low (xs ++ x ∷ []) → Among x xs → ⊥
last_not_before low [] x a k = k
last_not_before low (y ∷ ys) x a (inl e) =
    omega (arith, e, ascends-above (y + 1) (ys ++ x ∷ []) x a.1 (among-append_right ys (x ∷ []) x (inl refl)))
last_not_before low (y ∷ ys) x a (inr k) = last_not_before (y + 1) ys x a.1 k

-- the columns of rows of a kind are of the kind
parts_of_kind : (allowed : ℕ → Bool) (z : ℕ) (ps : List (ℕ × ℤ)) → IsTrue (parts_name_only allowed ps) → IsOfParts z ps → IsTrue (allowed z)
parts_of_kind allowed z [] h k = absurd k
parts_of_kind allowed z (p ∷ ps) h (inl e) =
    subst (λ x. IsTrue (allowed x)) (sym e) (both (allowed p.0) (parts_name_only allowed ps) h).0
parts_of_kind allowed z (p ∷ ps) h (inr k) = parts_of_kind allowed z ps (both (allowed p.0) (parts_name_only allowed ps) h).1 k

rows_of_kind : (allowed : ℕ → Bool) (z : ℕ) (rows : List Atom) → IsTrue (rows_name_only allowed rows) → IsOfRows z (rows_of rows) →
    IsTrue (allowed z)
rows_of_kind allowed z [] h k = absurd k
rows_of_kind allowed z (a ∷ rows) h (inl k) =
    parts_of_kind allowed z a.term.parts (both (names_only allowed a.term) (rows_name_only allowed rows) h).0 k
rows_of_kind allowed z (a ∷ rows) h (inr k) =
    rows_of_kind allowed z rows (both (names_only allowed a.term) (rows_name_only allowed rows) h).1 k

columns_of_two : (z : ℕ) (rows others : List Atom) → IsOfRows z (rows_of (rows ++ others)) →
    IsOfRows z (rows_of rows) ⊎ IsOfRows z (rows_of others)
columns_of_two z [] others k = inr k
columns_of_two z (a ∷ rows) others (inl k) = inl (inl k)
columns_of_two z (a ∷ rows) others (inr k) =
    ⊎_elim (λ m. inl (inr m)) (λ m. inr m) (columns_of_two z rows others k)

columns_of_first : (z : ℕ) (rows others : List Atom) → IsOfRows z (rows_of rows) → IsOfRows z (rows_of (rows ++ others))
columns_of_first z [] others k = absurd k
columns_of_first z (a ∷ rows) others (inl k) = inl k
columns_of_first z (a ∷ rows) others (inr k) = inr (columns_of_first z rows others k)

abbrev is_no_symbol : ℕ → Bool
is_no_symbol x = nat_lt x first_symbol

symbol_refused : (x : ℕ) → nat_le first_symbol x ≡ true → is_no_symbol x ≡ false
symbol_refused x e = grind (arith, nat_tests)

symbols_ascend : (rows : List Atom) → Ascends 0 (symbol_columns rows)
symbols_ascend rows = ascends_filtered (λ x. nat_le first_symbol x) 0 (columns_of (rows_of rows)) (columns-ascend (rows_of rows))

-- with rows that name none these are the same
symbols_alone : (rows others : List Atom) → IsTrue (rows_name_only is_no_symbol others) → symbol_columns (rows ++ others)
    ≡ symbol_columns rows
symbols_alone rows others h =
    same_members 0 (symbol_columns (rows ++ others)) (symbol_columns rows) (symbols_ascend (rows ++ others)) (symbols_ascend rows)
    (λ z k. from_both z (filter-among is_symbol (columns_of (rows_of (rows ++ others))) z (in_among z (symbol_columns (rows ++ others)) k)))
    (λ z k. to_both z (filter-among is_symbol (columns_of (rows_of rows)) z (in_among z (symbol_columns rows) k))) where
      is_symbol : ℕ → Bool
      is_symbol x = nat_le first_symbol x

      kept : (z : ℕ) (all : List Atom) → IsOfRows z (rows_of all) → is_symbol z ≡ true → IsIn z (symbol_columns all)
      kept z all k e =
          is_in z (symbol_columns all)
          (among-filter is_symbol (columns_of (rows_of all)) z (in_among z (columns_of (rows_of all)) (named_columns z (rows_of all) k)) e)

      listed : (z : ℕ) (all : List Atom) → Among z (columns_of (rows_of all)) → IsOfRows z (rows_of all)
      listed z all k = columns_named z (rows_of all) (is_in z (columns_of (rows_of all)) k)

      clash : true ≡ false → ⊥
      clash e = cc

      by_rows : (z : ℕ) → is_symbol z ≡ true → IsOfRows z (rows_of rows) ⊎ IsOfRows z (rows_of others) → IsIn z (symbol_columns rows)
      by_rows z e (inl k) = kept z rows k e
      by_rows z e (inr k) = absurd (clash (sym (rows_of_kind is_no_symbol z others h k) ∙ symbol_refused z e))

      from_both : (z : ℕ) → Among z (columns_of (rows_of (rows ++ others))) × (is_symbol z ≡ true) → IsIn z (symbol_columns rows)
      from_both z k = by_rows z k.1 (columns_of_two z rows others (listed z (rows ++ others) k.0))

      to_both : (z : ℕ) → Among z (columns_of (rows_of rows)) × (is_symbol z ≡ true) → IsIn z (symbol_columns (rows ++ others))
      to_both z k = kept z (rows ++ others) (columns_of_first z rows others (listed z rows k.0)) k.1

-- and they name none of the symbols of others
names_no_symbol : (columns more : List ℕ) (rows others : List Atom) → symbol_columns rows ≡ columns ++ more →
    IsTrue (rows_name_only is_no_symbol others) → NamesNone columns others
names_no_symbol columns more rows others e h = λ x c. absent_atoms is_no_symbol x (symbol_refused x (symbol x (contains-among columns x c)))
    others h where
      symbol : (x : ℕ) → Among x columns → nat_le first_symbol x ≡ true
      symbol x k = (filter-among (λ y. nat_le first_symbol y) (columns_of (rows_of rows)) x (subst (λ (l : List ℕ). Among x l) (sym e)
          (among-append_left columns more x k))).1

-- Preimages

-- there is room for fewer rows
room_for_less : (few more : ℕ) → few ≤ more → (columns : List ℕ) (rows : List LinearSum) → KeepsRoom more columns rows →
    KeepsRoom few columns rows
room_for_less few more l [] rows h = tt
room_for_less few more l (x ∷ xs) rows h = λ next e. (omega (arith, l, (h next e).0), room_for_less few more l xs next (h next e).1)

abbrev Inexact : Type 0
Inexact = Option (ℕ × (LinearSum × LinearSum))

-- with no wide sum there is what follows
none_gives : (o : Option Sum) (next : Projected) (rows : List Atom) (pair : Inexact) → o ≡ None → next ≡ gives rows pair →
    unless_wide o next ≡ gives rows pair
none_gives o next rows pair e h = subst (λ (w : Option Sum). unless_wide w next ≡ gives rows pair) (sym e) h

-- what is projected of a must's own rows with others encloses what is projected of its rows
own_projected : (own : OwnRows) (mine others whole pre : List Atom) (pair : Inexact) →
    symbol_columns mine ≡ own.firsts.items ++ own.last ∷ [] →
    elimination own.firsts.items (listed_rows mine (own.firsts.items ++ own.last ∷ [])) ≡ remains (rows_of own.rows.atoms) →
    KeepsRoom own.room own.firsts.items (listed_rows mine (own.firsts.items ++ own.last ∷ [])) → length others ≤ own.room →
    IsTrue (rows_name_only is_no_symbol others) → projected (own.last ∷ []) (own.rows.atoms ++ others) ≡ gives pre pair →
    AreOuter (mine ++ others) whole → (all : List Atom) × (other : Inexact) × (projected (symbol_columns whole) whole ≡ gives all other)
    × AreOuter pre all
own_projected own mine others whole pre pair c e room fit n p o =
    let firsts = own.firsts.items in
    let columns = firsts ++ own.last ∷ [] in
    let first = by-parts firsts own.last mine others own.rows.atoms pre pair apart e (room_for_less (length others) own.room fit firsts
    (listed_rows mine columns) room) (names_no_symbol firsts (own.last ∷ []) mine others c n) p in
    let same : columns ≡ symbol_columns whole =
    sym (symbols_alone mine others n ∙ c)
    ∙ ap (λ (xs : List ℕ). filter (λ x. nat_le first_symbol x) xs) (columns_of_extremes o.numbers (mine ++ others) whole o.extremes) in
    let second = projected-extremes columns o.numbers (mine ++ others) whole first.whole first.pair o.extremes first.given in (
      second.whole,
      second.pair,
      subst (λ (xs : List ℕ). projected xs whole ≡ gives second.whole second.pair) same second.given,
      outer_through pre first.whole second.whole first.outer second.outer,
    ) where
      apart : ¬ Contains own.firsts.items own.last
      apart k = last_not_before 0 own.firsts.items own.last (subst (λ (xs : List ℕ). Ascends 0 xs) c (symbols_ascend mine))
          (contains-among own.firsts.items own.last k)

-- the rows of a must over a call, by extreme rows of a target
module _ (must : Path) (site : CallSite) (rows target : List Atom) where
  abbrev by_exit_terms : ℕ → LinearSum
  by_exit_terms = exit_reading must.exit site.results must.outcome

  abbrev argument_sums : List Sum
  argument_sums = other_sums [] site.arguments must.entry

  abbrev few_ends : List Atom
  few_ends = rows_of_sums (must_sums must site rows)

  abbrev all_ends : List Atom
  all_ends = rows_of_sums (must_sums must site target)

  abbrev own_ends : List Atom
  own_ends = rows_of_sums (must_sums must (site_with site.arguments) [])

  abbrev own_plain : List Atom
  own_plain = must.guard.atoms ++ own_ends

  abbrev by_slots : ℕ → LinearSum
  by_slots = renaming (renamed_column (replacing [] site.arguments must.entry))

  abbrev joining : List Atom
  joining = rows_of_sums (row_sums by_slots few_ends)

  own_end : (a : Atom) → Among a own_ends → Among a all_ends
  own_end a k =
      subst (λ (l : List Atom). Among a l) (sym (rows-more argument_sums (row_sums by_exit_terms target)))
      (among-append_left (rows_of_sums argument_sums) (rows_of_sums (row_sums by_exit_terms target)) a
      (subst (λ (ss : List Sum). Among a (rows_of_sums ss)) (append-nil argument_sums) k))

  plain_outer : AreOuter few_ends all_ends → AreOuter (own_plain ++ few_ends) (plain_rows must site target)
  plain_outer o =
      outer_joined own_plain few_ends own_plain all_ends (plain_rows must site target) (outer_itself own_plain) o
      (λ a k. own_by a (among-append_cases must.guard.atoms own_ends a k)) (λ a k. among-append_right must.guard.atoms all_ends a k)
      (λ a k. either a (among-append_cases must.guard.atoms all_ends a k)) where
        own_by : (a : Atom) → Among a must.guard.atoms ⊎ Among a own_ends → Among a (plain_rows must site target)
        own_by a (inl k) = among-append_left must.guard.atoms all_ends a k
        own_by a (inr k) = among-append_right must.guard.atoms all_ends a (own_end a k)

        either : (a : Atom) → Among a must.guard.atoms ⊎ Among a all_ends → Among a own_plain ⊎ Among a all_ends
        either a (inl k) = inl (among-append_left must.guard.atoms own_ends a k)
        either a (inr k) = inr k

  sums_of_both : row_sums by_slots (own_plain ++ few_ends) ≡ row_sums by_slots own_plain ++ row_sums by_slots few_ends
  sums_of_both = map-append (λ (a : Atom). record { summands = summands_of by_slots a.term; constant = pos 0 }) own_plain few_ends

  module _ (outer : AreOuter rows target) (fit : first_wide (must_sums must site rows) ≡ None) where
    arguments_fit : first_wide argument_sums ≡ None
    arguments_fit = front_fits argument_sums (row_sums by_exit_terms rows) fit

    target_read : (first_wide (row_sums by_exit_terms target) ≡ None)
        × AreOuter (rows_of_sums (row_sums by_exit_terms rows)) (rows_of_sums (row_sums by_exit_terms target))
    target_read = outer_read by_exit_terms rows target outer
        (sym (wide_behind argument_sums (row_sums by_exit_terms rows) arguments_fit) ∙ fit)

    target_fits : first_wide (must_sums must site target) ≡ None
    target_fits = wide_behind argument_sums (row_sums by_exit_terms target) arguments_fit ∙ target_read.0

    ends_outer : AreOuter few_ends all_ends
    ends_outer =
        subst (λ (l : List Atom). AreOuter few_ends l) (sym (rows-more argument_sums (row_sums by_exit_terms target)))
        (subst (λ (l : List Atom). AreOuter l (rows_of_sums argument_sums ++ rows_of_sums (row_sums by_exit_terms target)))
        (sym (rows-more argument_sums (row_sums by_exit_terms rows)))
        (outer_behind (rows_of_sums argument_sums) (rows_of_sums (row_sums by_exit_terms rows))
        (rows_of_sums (row_sums by_exit_terms target)) target_read.1))

    module _ (own_fit : first_wide (row_sums by_slots own_plain) ≡ None)
        (ends_fit : first_wide (row_sums by_slots few_ends) ≡ None) where
      must_rows_read : (first_wide (slot_sums must site.arguments (plain_rows must site target)) ≡ None)
          × AreOuter (rows_of_sums (row_sums by_slots (own_plain ++ few_ends))) (must_rows must site target)
      must_rows_read = outer_read by_slots (own_plain ++ few_ends) (plain_rows must site target) (plain_outer ends_outer)
          (ap first_wide sums_of_both ∙ wide_append (row_sums by_slots own_plain) (row_sums by_slots few_ends) own_fit ends_fit)

      rows_outer : AreOuter (own_rows must site.arguments ++ joining) (must_rows must site target)
      rows_outer = subst (λ (l : List Atom). AreOuter l (must_rows must site target))
          (ap rows_of_sums sums_of_both ∙ rows-more (row_sums by_slots own_plain) (row_sums by_slots few_ends)) must_rows_read.1

      -- what is projected of the must's rows is the preimage
      preimage_given : (all : List Atom) (other : Inexact) →
          projected (symbol_columns (must_rows must site target)) (must_rows must site target) ≡ gives all other →
          must_preimage must site target ≡ gives all other
      preimage_given all other e =
          none_gives (first_wide (must_sums must site target))
          (slotted (replacing [] site.arguments must.entry) (plain_rows must site target)) all other target_fits
          (none_gives (first_wide (slot_sums must site.arguments (plain_rows must site target)))
          (projected (symbol_columns (must_rows must site target)) (must_rows must site target)) all other must_rows_read.0 e)

-- The bare must

sums_of_bare : (must bare : Path) (site : CallSite) (rows : List Atom) → IsBareOf must bare → must_sums bare site rows
    ≡ must_sums must site rows
sums_of_bare must bare site rows s =
    ap (λ (x : ExitKind). other_sums [] site.arguments bare.entry ++ row_sums (exit_reading x site.results bare.outcome) rows) s.exit
    ∙ ap (λ (ts : List LinearSum). other_sums [] site.arguments ts ++ row_sums (exit_reading must.exit site.results bare.outcome) rows)
    s.entry
    ∙ ap (λ (ts : List LinearSum). other_sums [] site.arguments must.entry ++ row_sums (exit_reading must.exit site.results ts) rows)
    s.outcome

plain_of_bare : (must bare : Path) (site : CallSite) (rows : List Atom) → IsBareOf must bare → plain_rows bare site rows
    ≡ rows_of_sums (must_sums must site rows)
plain_of_bare must bare site rows s =
    ap (λ (l : List Atom). l ++ rows_of_sums (must_sums bare site rows)) s.guard ∙ ap rows_of_sums (sums_of_bare must bare site rows s)

slots_by_bare : (must bare : Path) (site : CallSite) (rows : List Atom) → IsBareOf must bare →
    slot_sums bare site.arguments (plain_rows bare site rows)
    ≡ slot_sums must site.arguments (rows_of_sums (must_sums must site rows))
slots_by_bare must bare site rows s =
    ap (λ (l : List Atom). slot_sums bare site.arguments l) (plain_of_bare must bare site rows s)
    ∙ ap (λ (ts : List LinearSum). row_sums (renaming (renamed_column (replacing [] site.arguments ts)))
    (rows_of_sums (must_sums must site rows))) s.entry

-- what is kept of the must's own rows, with the target's, gives extreme rows of the preimage
pub known-preimage : (c : Calling) (must bare : Path) (own : OwnRows) (ns : List ℕ) (rows others pre : List Atom)
    (pair : Option (ℕ × (LinearSum × LinearSum))) → IsBareOf must bare → AreOwnRows must (call_site c.call.now).arguments own →
    AreExtremes ns rows c.target.now.atoms → first_wide (must_sums bare (call_site c.call.now) rows) ≡ None →
    first_wide (slot_sums bare (call_site c.call.now).arguments (plain_rows bare (call_site c.call.now) rows)) ≡ None →
    others ≡ must_rows bare (call_site c.call.now) rows → length others ≤ own.room →
    IsTrue (rows_name_only (λ x. nat_lt x first_symbol) others) → projected (own.last ∷ []) (own.rows.atoms ++ others) ≡ gives pre pair →
    IsPreOuter c must pre
known-preimage c must bare own ns rows others pre pair s k x fit slots_fit is room names p =
    let site = call_site c.call.now in
    let target = c.target.now.atoms in
    let o : AreOuter rows target = record { numbers = ns; extremes = x } in
    let fits = ap first_wide (sym (sums_of_bare must bare site rows s)) ∙ fit in
    let ends_fit = ap first_wide (sym (slots_by_bare must bare site rows s)) ∙ slots_fit in
    let same = is ∙ ap rows_of_sums (slots_by_bare must bare site rows s) in
    let mine = own_rows must site.arguments in
    let outer = subst (λ (l : List Atom). AreOuter (mine ++ l) (must_rows must site target)) (sym same)
    (rows_outer must site rows target o fits k.slots ends_fit) in
    let w = own_projected own mine others (must_rows must site target) pre pair k.columns k.eliminated k.room room names p outer in
    record {
      pre = w.0;
      is_pre = (w.1, preimage_given must site rows target o fits k.slots ends_fit w.0 w.1 w.2);
      outer = w.3;
    }

-- Trails

-- the terms of both musts stand in the same slots
slots_of_bare : (t : Trace) (results : List ℕ) (must bare : Path) → IsBareOf must bare →
    must_slots t bare.exit results bare ≡ must_slots t must.exit results must
slots_of_bare t results must bare s = ap (λ (x : ExitKind). must_slots t x results bare) s.exit ∙ by_exit must.exit where
  by_exit : (x : ExitKind) → must_slots t x results bare ≡ must_slots t x results must
  by_exit kind.Return =
      ap (λ (ts : List LinearSum). set_terms t.slots results (map (renamed_by (shifted t.symbols)) ts)) s.outcome
  by_exit (kind.Fail id) = refl

-- what is seen at the end of a trail, by the trail's parts
abbrev seen_of_parts : Query → (guard : List Atom) → (slots entry : List LinearSum) → (target : List Atom) → List Atom
seen_of_parts q guard slots entry target =
    (guard ++ rows_of_sums (row_sums (reading slots entry) q.start.atoms)) ++ rows_of_sums (row_sums (reading slots entry) target)

behind_front : (front first second third : List Atom) → ((front ++ first) ++ second) ++ third ≡ front ++ (first ++ (second ++ third))
behind_front front first second third = append_assoc (front ++ first) second third ∙ append_assoc front first (second ++ third)

-- of the bare must's trail extreme rows are seen, and there are extreme rows of the guard
seen_around : (q : Query) (trail guard matched rows ends : List Atom) (slots entry : List LinearSum) (target : List Atom) →
    AreOuter rows guard → AreOuter ends (seen_of_parts q ((trail ++ []) ++ matched) slots entry target) →
    AreOuter (rows ++ ends) (seen_of_parts q ((trail ++ guard) ++ matched) slots entry target)
seen_around q trail guard matched rows ends slots entry target o p =
    let start = rows_of_sums (row_sums (reading slots entry) q.start.atoms) in
    let end = rows_of_sums (row_sums (reading slots entry) target) in
    subst (λ (l : List Atom). AreOuter (rows ++ ends) l) (sym (behind_front (trail ++ guard) matched start end))
    (outer_around guard trail (matched ++ (start ++ end)) rows ends o
    (subst (λ (l : List Atom). AreOuter ends l)
    (behind_front (trail ++ []) matched start end ∙ ap (λ (l : List Atom). l ++ (matched ++ (start ++ end))) (append-nil trail)) p))

-- where by these rows the must's trail doesn't come into the target, it doesn't
pub never-with_guard : (q : Query) (t : Trace) (fail : ℕ) (call : Edge) (target : List Atom) (must bare : Path) (rows ends : List Atom) →
    is_call call ≡ true → IsBareOf must bare → AreGuardRows must t.symbols rows → (u : Trace) → u ≡ carried t fail call bare →
    first_wide (carried_sums t call bare) ≡ None → IsRead u target → AreOuter ends (seen_at q u target) → IsNever (rows ++ ends) →
    IsShownNotToCome q t (must_crossing fail call target must)
never-with_guard q t fail (edges.Entry to params) target must bare rows ends is s g u e first read o h = absurd cc
never-with_guard q t fail (edges.Assign from to slot value) target must bare rows ends is s g u e first read o h = absurd cc
never-with_guard q t fail (edges.Guard from to atoms) target must bare rows ends is s g u e first read o h = absurd cc
never-with_guard q t fail (edges.Input from to slot) target must bare rows ends is s g u e first read o h = absurd cc
never-with_guard q t fail (edges.Pick from to slot atoms) target must bare rows ends is s g u e first read o h = absurd cc
never-with_guard q t fail (edges.Call from to proc args results) target must bare rows ends is s g u e first read o h =
    record { decided = wide_behind (matched must.entry) (row_sums (reading slots t.entry) target) all_match ∙ is_read; never = never }
  where
    Ends : Trace → Type 0
    Ends v = IsRead v target × AreOuter ends (seen_at q v target)

    slots : List LinearSum
    slots = must_slots t must.exit results must

    matched : List LinearSum → List Sum
    matched terms = matches t.slots args (map (renamed_by (shifted t.symbols)) terms)

    guard : (rows : List Atom) → (terms : List LinearSum) → List Atom
    guard atoms terms = (t.guard.atoms ++ renamed_atoms_by (shifted t.symbols) atoms) ++ rows_of_sums (matched terms)

    all_match : first_wide (matched must.entry) ≡ None
    all_match = subst (λ (ts : List LinearSum). first_wide (matched ts) ≡ None) s.entry first

    over : Ends (carried t fail (edges.Call from to proc args results) bare)
    over = subst Ends e (read, o)

    is_read : first_wide (row_sums (reading slots t.entry) target) ≡ None
    is_read = subst (λ (ss : List LinearSum). first_wide (row_sums (reading ss t.entry) target) ≡ None)
        (slots_of_bare t results must bare s) over.0

    -- with the must's slots, no row of a guard and the must's entry terms
    seen : AreOuter ends (seen_of_parts q (guard [] must.entry) slots t.entry target)
    seen =
        subst (λ (ts : List LinearSum). AreOuter ends (seen_of_parts q (guard [] ts) slots t.entry target)) s.entry
        (subst (λ (atoms : List Atom). AreOuter ends (seen_of_parts q (guard atoms bare.entry) slots t.entry target)) s.guard
        (subst (λ (ss : List LinearSum). AreOuter ends (seen_of_parts q (guard bare.guard.atoms bare.entry) ss t.entry target))
        (slots_of_bare t results must bare s) over.1))

    never : IsNever (seen_of_parts q (guard must.guard.atoms must.entry) slots t.entry target)
    never = never-outer (rows ++ ends) (seen_of_parts q (guard must.guard.atoms must.entry) slots t.entry target)
        (seen_around q t.guard.atoms (renamed_atoms_by (shifted t.symbols) must.guard.atoms) (rows_of_sums (matched must.entry)) rows ends
        slots t.entry target g seen) h
never-with_guard q t fail (edges.Assert from to id atoms) target must bare rows ends is s g u e first read o h = absurd cc
never-with_guard q t fail (edges.Return from to slots) target must bare rows ends is s g u e first read o h = absurd cc

-- Sources

-- where extreme rows of the source and of the preimage show that it isn't split, all rows do
pub whole-by-outer : (q : Query) (t : Trace) (c : Crossing) (ns : List ℕ) (rows source pre whole : List Atom) →
    AreExtremes ns rows source → AreOuter pre whole → IsPreOf c whole → IsWhole q t rows pre →
    IsShownNotToSplit q (t ∷ []) source c
whole-by-outer q t c ns rows source pre whole x o is h = record { pre = whole; is_pre = is; fails = fails h } where
  both : AreOuter (rows ++ pre) (source ++ whole)
  both = outer_both rows pre source whole (record { numbers = ns; extremes = x }) o

  started : List Atom
  started = t.guard.atoms ++ rows_of_sums (row_sums (reading t.slots t.entry) q.start.atoms)

  fails : IsWhole q t rows pre → (whole ≡ []) ⊎ (IsNever (source ++ whole)
      ⊎ ((IsRead t (source ++ whole) × IsMet (seen_at q t (source ++ whole))) ⊎ ⊥))
  fails (inl none) = inl (none_outer whole (subst (λ (l : List Atom). AreOuter l whole) none o))
  fails (inr (inl never)) = inr (inl (never-outer (rows ++ pre) (source ++ whole) both never))
  fails (inr (inr (read, met))) =
      let r = outer_read (reading t.slots t.entry) (rows ++ pre) (source ++ whole) both read in
      inr (inr (inl (
        r.0,
        met-outer (seen_at q t (rows ++ pre)) (seen_at q t (source ++ whole))
            (outer_behind started (rows_of_sums (row_sums (reading t.slots t.entry) (rows ++ pre)))
            (rows_of_sums (row_sums (reading t.slots t.entry) (source ++ whole))) r.1) met,
      )))

-- both together
pub neither-by-outer : (c : Calling) (must : Path) → IsShownNotToCome c.query.now (marking c) (crossing_by c must) →
    IsShownNotToSplit c.query.now (marking c ∷ []) c.source.now.atoms (crossing_by c must) → NeitherBy c must
neither-by-outer c must no_trail not_split = record { no_trail = (no_trail, tt); not_split = not_split }
