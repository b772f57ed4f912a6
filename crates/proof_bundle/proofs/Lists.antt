-- Parts read one after the other.
use Rattle.std.proofs.Common.{◌≡◌, ℕ, suc, ◌+◌, ◌-◌, ◌<◌, ◌≤◌, Some, None, List, [], ◌∷◌, ◌++◌, arith, refl, sym, ap, ◌∙◌}
use Rattle.std.proofs.lemmas.List.{append-nil, append_assoc}
use Rattle.proof_bundle.specs.declared.error.BundleError.{BundleError}
use Rattle.proof_bundle.specs.declared.error.BundleError.TheVariants.{NotBundle, Memory}
use Rattle.proof_bundle.specs.steps.Reading.{◌>>=◌, IfNot, Read, list_at}

module _ {A : Type 0} (one : List ℕ → Read A) where
  -- what was read before, and what is still read
  abbrev pub with_front : List A → Read (List A) → Read (List A)
  with_front front read = read >>= λ x. Some (front ++ x.0, x.1)

  regroup : (front : List A) (n : A) (read : Read (List A)) →
      with_front front (read >>= λ x. Some (n ∷ x.0, x.1)) ≡ with_front (front ++ n ∷ []) read
  regroup front n (Some x) = ap (λ (ns : List A). Some (ns, x.1)) (sym (append_assoc front (n ∷ []) x.0))
  regroup front n None = refl

  next : (count i : ℕ) (bytes : List ℕ) → i < count →
      list_at one (count - i) bytes ≡ (one bytes >>= λ x. list_at one (count - (i + 1)) x.1 >>= λ xs. Some (x.0 ∷ xs.0, xs.1))
  unfolding list_at
  next count i bytes lt =
      let k : count - i ≡ suc (count - (i + 1)) = omega arith in
      ap (λ n. list_at one n bytes) k

  pub goes_on : (front : List A) (count i : ℕ) (bytes : List ℕ) (n : A) (after : List ℕ) (total : Read (List A)) → i < count →
      one bytes ≡ Some (n, after) → with_front front (list_at one (count - i) bytes) ≡ total →
      with_front (front ++ n ∷ []) (list_at one (count - (i + 1)) after) ≡ total
  goes_on front count i bytes n after total lt h so_far =
      sym (regroup front n (list_at one (count - (i + 1)) after))
      ∙ ap (λ (q : Read A). with_front front (q >>= λ x. list_at one (count - (i + 1)) x.1 >>= λ xs. Some (x.0 ∷ xs.0, xs.1))) (sym h)
      ∙ ap (with_front front) (sym (next count i bytes lt)) ∙ so_far

  pub ends : (e : BundleError) (front : List A) (count i : ℕ) (bytes : List ℕ) (total : Read (List A)) → i < count →
      IfNot e (one bytes ≡ None) → with_front front (list_at one (count - i) bytes) ≡ total → IfNot e (total ≡ None)
  ends Memory front count i bytes total lt h so_far = tt
  ends NotBundle front count i bytes total lt h so_far =
      sym so_far ∙ ap (with_front front) (next count i bytes lt)
      ∙ ap (λ (q : Read A). with_front front (q >>= λ x. list_at one (count - (i + 1)) x.1 >>= λ xs. Some (x.0 ∷ xs.0, xs.1))) h

  pub is_done : (front : List A) (count i : ℕ) (bytes : List ℕ) (total : Read (List A)) → count ≤ i →
      with_front front (list_at one (count - i) bytes) ≡ total → total ≡ Some (front, bytes)
  unfolding list_at
  is_done front count i bytes total le so_far =
      let k : count - i ≡ 0 = omega arith in
      sym so_far ∙ ap (λ n. with_front front (list_at one n bytes)) k ∙ ap (λ (ns : List A). Some (ns, bytes)) (append-nil front)
