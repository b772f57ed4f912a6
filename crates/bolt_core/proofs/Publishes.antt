-- What was said of a query was said once it was dropped.
use Rattle.std.proofs.Common.{◌≡◌, ℕ, List, [], ◌∷◌, ◌++◌, Bool, true, false, refl, sym, ap, ◌∙◌, subst, ◌⊎◌, inl, inr, ⊎_elim}
use Rattle.std.specs.Prelude.{◌||◌}
use Rattle.std.proofs.lemmas.Bool.{eqb-true}
use Rattle.query_tree.specs.Woods.{WasDropped}
use Rattle.bolt_core.specs.Histories.{Told, took, said, asked, fed, parked, closed, stopped, has_said, says_of}
use Rattle.bolt_core.specs.Keeps.{AreSaid}
use Rattle.bolt_core.specs.Machine.{Core, Event, Reads}
use Rattle.bolt_core.proofs.Ending.{event_frame}

pub said_more : (h : List Told) (e : Told) (i : ℕ) → has_said (h ++ e ∷ []) i ≡ (says_of i e || has_said h i)
said_more [] e i = refl
said_more (x ∷ h) e i = ap (λ b. says_of i x || b) (said_more h e i) ∙ swapped (says_of i x) (says_of i e) (has_said h i)
  where
    swapped : (a b c : Bool) → (a || (b || c)) ≡ (b || (a || c))
    swapped true true c = refl
    swapped true false c = refl
    swapped false true c = refl
    swapped false false c = refl

some_or : (a b : Bool) → (a || b) ≡ true → (a ≡ true) ⊎ (b ≡ true)
some_or true b h = inl refl
some_or false b h = inr h

module _ {S : Type 0} (R : Reads S) (old new : Core S) where
  -- who is dropped stays dropped
  said_still : (e : Told) → Event R old e new → (i stamp : ℕ) → WasDropped old.entries i stamp → WasDropped new.entries i stamp
  said_still e t i stamp d =
      let o = (event_frame R old new e t).to i d.own d.at in
      record { own = o.0; at = o.1; dropped = o.2.stays stamp d.dropped }

  said_now : (e : Told) → Event R old e new → (i : ℕ) → says_of i e ≡ true → (stamp : ℕ) × WasDropped old.entries i stamp
  said_now (took w j left steps waiting) t i is = absurd (cc)
  said_now (said w j s) t i is = (
    t.stamp,
    subst (λ k. WasDropped old.entries k t.stamp) (sym (eqb-true i j is))
        (record { own = t.own; at = t.at; dropped = t.dropped }),
  )
  said_now (asked w j n c q) t i is = absurd (cc)
  said_now (fed w j n c) t i is = absurd (cc)
  said_now (parked w j n r) t i is = absurd (cc)
  said_now (closed w j n how ss) t i is = absurd (cc)
  said_now (stopped w) t i is = absurd (cc)

  pub event_said : (e : Told) → Event R old e new → AreSaid old.entries old.history → AreSaid new.entries (old.history ++ e ∷ [])
  event_said e t a = record {
    said = λ i is.
        let d : (stamp : ℕ) × WasDropped old.entries i stamp = ⊎_elim (λ b. said_now e t i b) (λ b. a.said i b)
        (some_or (says_of i e) (has_said old.history i) (sym (said_more old.history e i) ∙ is)) in
        (d.0, said_still e t i d.0 d.1);
  }
