-- A source that is read at the end of a trail, and more atoms.
use Rattle.std.proofs.Common.{append_assoc, ◌≡◌, List, ◌++◌, None, Some, sym, ap, subst, ◌∙◌, inl}
use Rattle.std.specs.Prelude.{Contains}
use Rattle.std.proofs.lemmas.List.{map-append}
use Rattle.linear_formula.specs.declared.formula.Atom.{Atom}
use Rattle.shadow_elim.specs.Sums.{first_wide, row_sums, rows_of_sums, IsFirstWide}
use Rattle.shadow_elim.specs.RightLimit.{IsRight}
use Rattle.shadow_elim.specs.declared.limit.Kept.{Kept}
use Rattle.shadow_elim.specs.declared.sum.Sum.{Sum}
use Rattle.shadow_elim.proofs.Summing.{rows-more}
use Rattle.flow_graph.specs.Readings.{reading}
use Rattle.summary_form.specs.declared.query.Query.{Query}
use Rattle.must_region.specs.Paths.{read_sums}
use Rattle.must_region.specs.Traces.{Trace}
use Rattle.must_region.proofs.Starting.{wide_append, wide_behind as fits_behind}
use Rattle.query_rules.proofs.AppliedSteps.{front_fits}
use Rattle.query_rules.specs.Crossings.{IsRead}
use Rattle.query_rules.specs.Rows.{seen_at, started}
use Rattle.punch_step.specs.Cuts.{IsCutting}
use Rattle.punch_step.specs.Sights.{ReadsStart}
use Rattle.punch_step.specs.declared.cut.Cutting.TheVariants as cutting
use Rattle.punch_step.proofs.Deciding.{IsWideSight, contains_earlier, contains_later, contains_wide, wide_behind}

module _ (q : Query) (t : Trace) (source atoms : List Atom) where
  abbrev first : List Sum
  first = row_sums (reading t.slots t.entry) source

  abbrev more : List Sum
  more = row_sums (reading t.slots t.entry) atoms

  both : row_sums (reading t.slots t.entry) (source ++ atoms) ≡ first ++ more
  both = map-append _ source atoms

  pub read_more : IsRead t source → first_wide more ≡ None → IsRead t (source ++ atoms)
  read_more h k = subst (λ (ss : List Sum). first_wide ss ≡ None) (sym both) (wide_append first more h k)

  pub seen_more : seen_at q t source ++ rows_of_sums more ≡ seen_at q t (source ++ atoms)
  seen_more = append_assoc (started q t) (rows_of_sums first) (rows_of_sums more)
      ∙ (ap (λ (rows : List Atom). started q t ++ rows) (sym (rows-more first more))
      ∙ ap (λ (ss : List Sum). started q t ++ rows_of_sums ss) (sym both))

  -- the first wide sum of the added atoms
  pub more_is_wide : (kept : Kept) → IsFirstWide more kept → IsRight kept → IsWideSight q t (source ++ atoms) kept
  more_is_wide kept f right = (
    right,
    inl (
      f.sum,
      subst (λ (ss : List Sum). Contains ss f.sum) (sym both) (contains_later first more f.sum (contains_wide more f.sum f.first)),
      ap (λ (k : Kept). k.question) f.same,
    ),
    (λ r m. not_read r),
    λ r m. not_read r,
  )
    where
      not_read : ¬ IsRead t (source ++ atoms)
      not_read r =
          let no : None ≡ Some f.sum = sym (fits_behind first more (subst (λ (ss : List Sum). first_wide ss ≡ None) both r)) ∙ f.first in
          cc

  -- the first wide sum of the source
  pub source_is_wide : (kept : Kept) → ReadsStart q t → IsFirstWide (read_sums t q.start.atoms source) kept → IsRight kept →
      IsCutting q t source atoms (cutting.Limit kept)
  source_is_wide kept start f right = (
    right,
    inl (
      f.sum,
      subst (λ (ss : List Sum). Contains ss f.sum) (sym both) (contains_earlier first more f.sum (contains_wide first f.sum wide)),
      ap (λ (k : Kept). k.question) f.same,
    ),
    λ r n. not_read r,
  )
    where
      wide : first_wide first ≡ Some f.sum
      wide = sym (wide_behind (row_sums (reading t.slots t.entry) q.start.atoms) first (start t.slots)) ∙ f.first

      not_read : ¬ IsRead t (source ++ atoms)
      not_read r =
          let no : None ≡ Some f.sum = sym (front_fits first more (subst (λ (ss : List Sum). first_wide ss ≡ None) both r)) ∙ wide in
          cc
