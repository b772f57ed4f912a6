use Rattle.std.proofs.Common.{◌≡◌, ◌++◌, ◌∷◌, [], List, ℕ, Some, length, arith, refl, sym, subst, ap, ◌∙◌}
use Rattle.std.specs.Prelude.{slice_get, slice_set}
use Rattle.bundle_make.specs.steps.Listing.{IsListing}
use Rattle.bundle_make.proofs.Listings.{listed_few, listed_more, none_from, some_from}
use Rattle.may_partition.proofs.Pieces.{get_right}
use Rattle.bundle_make.proofs.listing.Listing.add.Goals as goal

pub returns-then-is_some-clause-listed : goal.returns-then-is_some-clause-listed
returns-then-is_some-clause-listed c =
    let w = some_from c.number.result (sym c.is_some.ensures ∙ c.if-is_some.true) in
    (w.0, c.requires.listing.there c.args.id w.0 (c.number.ensures ∙ ap Some w.1))

pub overflow_cast-number : goal.overflow_cast-number
overflow_cast-number c = omega (
  arith,
  c.len-number.ensures,
  c.requires.few,
  listed_few (length c.args.self.now.numbers.items) c.args.self.now.ids.items c.args.self.now.numbers.items c.requires.listing,
)

pub returns-clause-listing : goal.returns-clause-listing
returns-clause-listing c =
    let ids = c.args.self.now.ids.items in
    let numbers = c.args.self.now.numbers.items in
    let free = none_from c.number.result (sym c.is_some.ensures ∙ c.if-is_some.false) in
    let last : c.len-number.result ≡ length ids = omega (arith, c.len-number.ensures) in
    subst (λ (xs : List ℕ). IsListing (length numbers) xs (slice_set numbers c.args.id (Some c.len-number.result)))
    (sym c.in_ok-push.ensures.items)
    (subst (λ (n : ℕ). IsListing (length numbers) (ids ++ c.args.id ∷ []) (slice_set numbers c.args.id (Some n)))
    (sym last)
    (listed_more (length numbers) ids numbers c.requires.listing c.args.id (c.number.ensures ∙ ap Some free)))

pub returns-clause-listed : goal.returns-clause-listed
returns-clause-listed c =
    let ids = c.args.self.now.ids.items in
    let last = get_right ids 0 (c.args.id ∷ []) c.args.id refl in (
      length ids,
      ap (λ (xs : List ℕ). slice_get xs (length ids)) c.in_ok-push.ensures.items
          ∙ subst (λ (k : ℕ). slice_get (ids ++ c.args.id ∷ []) k ≡ Some c.args.id) (omega arith) last,
    )
