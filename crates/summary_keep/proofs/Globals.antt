-- Programs whose globals agree.
use Rattle.std.proofs.Common.{◌≡◌, ◌↔◌, ℕ, Bool, true, length, Option, Some, ap, IsTrue}
use Rattle.c_tree.specs.Syntax.{PureProgram}
use Rattle.summary_keep.specs.Matching.{GlobalsAgree}
use Rattle.summary_keep.specs.steps.Refinement.{AreNamesakes, AreCounterparts}

module _ (P Q : PureProgram) (i : ℕ) where
  -- of `main` the opening values decide it
  pub by_values : (b : Bool) → i ≡ P.main → (b ≡ true → P.globals ≡ Q.globals) × (P.globals ≡ Q.globals → b ≡ true) →
      IsTrue b ↔ GlobalsAgree P Q i
  by_values b main h = (
    λ t. record { count = ap (λ xs. length xs) (h.0 t); opening = λ _. h.0 t },
    λ g. h.1 (g.opening main),
  )

  pub counterpart_of : (o : Option ℕ) → GlobalsAgree P Q i → ((j : ℕ) → (o ≡ Some j) ↔ AreNamesakes P Q i j) → (j : ℕ) →
      (o ≡ Some j) ↔ AreCounterparts P Q i j
  counterpart_of o g h j = (λ e. record { names = (h j).0 e; globals = g }, λ c. (h j).1 c.names)
