-- The moves of a split: one kill from each new piece after the other.
use Rattle.std.proofs.Common.{◌≡◌, ⊎_elim, ℕ, ◌+◌, ◌<◌, ◌≤◌, List, [], ◌∷◌, ◌++◌, get_or, length, map, take, Some, Result, Ok, Err, arith, refl, sym, subst, ap, ◌∙◌}
use Rattle.std.specs.Prelude.{OnOk, slice_get}
use Rattle.std.proofs.lemmas.Option.{slice_get_cases}
use Rattle.std.proofs.lemmas.List.{append-nil, append_assoc, length-take, map-append, take_all, take_more}
use Rattle.linear_formula.specs.declared.formula.Atom.{Atom}
use Rattle.infeasible_cert.specs.Refutation.{refutation_of}
use Rattle.infeasible_cert.specs.declared.certificate.Certificate.{Certificate}
use Rattle.may_partition.specs.declared.region.Region.{Region}
use Rattle.may_partition.specs.declared.region.RegionEdge.{RegionEdge}
use Rattle.may_partition.specs.Parted.{Parted, kill_edge, split_edge, split_regions}
use Rattle.may_partition.specs.Shown.{Shown, Shows}
use Rattle.query_rules.specs.Steps.{uncut}
use Rattle.proof_bundle.specs.Claims.{PureMove, kill, move_of, split}
use Rattle.proof_bundle.specs.declared.bundle.Move.{Move}
use Rattle.bundle_check.specs.RightClaims.{moved_all}
use Rattle.bundle_check.specs.Walked.{cuts, split_moves}
use Rattle.bundle_check.proofs.Cutting.{from_piece, split_length}
use Rattle.bundle_check.proofs.InOrder.{moved_append}

-- what both clauses say of an `Ok`
pub on_ok_two : {T E P Q R : Type 0} (r : Result T E) → (P → Q → R) → OnOk r P → OnOk r Q → OnOk r R
on_ok_two (Ok v) f p q = f p q
on_ok_two (Err e) f p q = tt

-- one more move
pub pushed_one : (olds news : List Move) (m : Move) → news ≡ olds ++ m ∷ [] → map move_of news ≡ map move_of olds ++ move_of m ∷ []
pushed_one olds news m e = ap (map move_of) e ∙ map-append move_of olds (m ∷ [])

module _ (k : RegionEdge) where
  cuts_more : (n : ℕ) (cs : List Certificate) (c : Certificate) (at : ℕ) → at ≡ n + length cs →
      cuts n k cs ++ kill (from_piece k at) (refutation_of c) ∷ [] ≡ cuts n k (cs ++ c ∷ [])
  cuts_more n [] c at e =
      let same : at ≡ n = omega (arith, e) in
      ap (λ i. kill (from_piece k i) (refutation_of c) ∷ []) same
  cuts_more n (d ∷ cs) c at e =
      ap (λ ms. kill (from_piece k n) (refutation_of d) ∷ ms) (cuts_more (n + 1) cs c at (omega (arith, e)))

-- the kills from the first pieces, before the certificate of number i
module _ (k : RegionEdge) (first : ℕ) (follows : List Certificate) (olds : List Move) (old : Shown) where
  pub record ArePushed (i from : ℕ) (news : List Move) (new : Shown) : Type 0 where
    pub number : from ≡ first + i
    pub regions : new.regions ≡ old.regions
    pub made : map move_of news ≡ map move_of olds ++ cuts first k (take i follows)
    pub shows : (p : Parted) → Shows old p → Shows new (moved_all (cuts first k (take i follows)) p)

  pub none_pushed : ArePushed 0 first olds old
  none_pushed = record {
    number = omega arith;
    regions = refl;
    made = sym (append-nil (map move_of olds));
    shows = λ p sh. sh;
  }

  pub next_pushed : (i from : ℕ) (news : List Move) (new : Shown) → ArePushed i from news new → i < length follows → (c : Certificate) →
      c ≡ get_or follows i c → (m : Move) → move_of m ≡ kill (from_piece k from) (refutation_of c) → (after : Shown) →
      after.regions ≡ new.regions → ((p : Parted) → Shows new p → Shows after (kill_edge (from_piece k from) p)) → (later : List Move) →
      later ≡ news ++ m ∷ [] → (n : ℕ) → n ≡ from + 1 → ArePushed (i + 1) n later after
  next_pushed i from news new h low c at m is after regions shows later e n next = record {
    number = omega (arith, next, h.number);
    regions = regions ∙ h.regions;
    made = pushed_one news later m e ∙ (ap (λ ms. ms ++ move_of m ∷ []) h.made
        ∙ (append_assoc (map move_of olds) done (move_of m ∷ []) ∙ ap (λ ms. map move_of olds ++ ms) more));
    shows = λ p sh.
        subst (λ ms. Shows after (moved_all ms p)) (ap (λ x. done ++ x ∷ []) (sym is) ∙ more)
        (subst (Shows after) (sym (moved_append done (kill (from_piece k from) (refutation_of c) ∷ []) p))
        (shows (moved_all done p) (h.shows p sh)));
  }
    where
      done : List PureMove
      done = cuts first k (take i follows)

      several : from ≡ first + length (take i follows)
      several = omega (arith, h.number, low, length-take i follows)

      taken : take i follows ++ c ∷ [] ≡ take (i + 1) follows
      taken = ap (λ x. take i follows ++ x ∷ []) at ∙ sym (take_more follows i c low)

      more : done ++ move_of m ∷ [] ≡ cuts first k (take (i + 1) follows)
      more = ap (λ x. done ++ x ∷ []) is ∙ (cuts_more k first (take i follows) c from several ∙ ap (cuts first k) taken)

  -- after the last of them
  pub all_pushed : (i from : ℕ) (news : List Move) (new : Shown) → ArePushed i from news new → length follows ≤ i →
      (map move_of news ≡ map move_of olds ++ cuts first k follows)
      × ((p : Parted) → Shows old p → Shows new (moved_all (cuts first k follows) p))
  all_pushed i from news new h past = (
    subst (λ cs. map move_of news ≡ map move_of olds ++ cuts first k cs) (take_all i follows past) h.made,
    subst (λ cs. (p : Parted) → Shows old p → Shows new (moved_all (cuts first k cs) p)) (take_all i follows past) h.shows,
  )

-- A split by atoms that follow

-- one new piece for each atom
pub pieces_there : (regions : List Region) (from : ℕ) (atoms : List Atom) → from < length regions →
    length (split_regions regions from atoms) ≡ length regions + length atoms
pieces_there regions from atoms low = ⊎_elim (λ (c : (r : Region) × (from < length regions) × (slice_get regions from ≡ Some r)
    × (get_or regions from r ≡ r)). split_length regions from atoms c.0 c.2) (λ c. absurd (omega (arith, low, c.0)))
    (slice_get_cases regions from).1

-- its moves
pub split_apart : (n : ℕ) (k : RegionEdge) (atoms : List Atom) (follows : List Certificate) → (follows ≡ [] → ⊥) →
    split (uncut k) atoms ∷ cuts n k follows ≡ split_moves n k atoms follows
split_apart n k atoms [] some = absurd (some refl)
split_apart n k atoms (c ∷ cs) some = refl

pub split_shows : (old mid new : Shown) (k : RegionEdge) (atoms : List Atom) (follows : List Certificate) (first : ℕ) →
    first ≡ length old.regions → (follows ≡ [] → ⊥) → ((p : Parted) → Shows old p → Shows mid (split_edge (uncut k) atoms p)) →
    ((p : Parted) → Shows mid p → Shows new (moved_all (cuts first k follows) p)) → (p : Parted) → Shows old p →
    Shows new (moved_all (split_moves (length old.regions) k atoms follows) p)
split_shows old mid new k atoms follows first e some f h p sh =
    subst (λ ms. Shows new (moved_all ms p))
    (ap (λ n. split (uncut k) atoms ∷ cuts n k follows) e ∙ split_apart (length old.regions) k atoms follows some)
    (h (split_edge (uncut k) atoms p) (f p sh))
