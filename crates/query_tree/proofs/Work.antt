-- A tree that is not over has a query that is Ready or Running.
use Rattle.std.proofs.Common.{◌≡◌, ℕ, zero, suc, ◌+◌, ◌≤◌, List, ◌∷◌, [], length, Bool, true, false, Some, refl, sym, ap, ◌∙◌, inl, inr, ⊎_elim, arith}
use Rattle.std.specs.Prelude.{slice_get, ◌==◌, ◌&&◌}
use Rattle.std.proofs.lemmas.Bool.{and_parts, and_from, both_ways, cases_Bool, eq-eqb, eqb-true, or_left, or_right}
use Rattle.query_tree.specs.declared.Status.{Status}
use Rattle.query_tree.specs.declared.Status.TheVariants.{Ready, Running, Blocked, Starved, Closed, Dropped}
use Rattle.query_tree.specs.declared.Entry.{Entry}
use Rattle.query_tree.specs.Forest.{any, is_open, is_live}
use Rattle.query_tree.specs.Kept.{Rooted, IsTree, IsLeaning, IsWorking, HasWork}
use Rattle.query_tree.proofs.Lists.{any_at, within}
use Rattle.query_tree.proofs.Tests.{one_at}

-- an element that passes is some element
any_from : {X : Type 0} (p : X → Bool) (xs : List X) (j : ℕ) (x : X) → slice_get xs j ≡ Some x → p x ≡ true → any p xs ≡ true
any_from p [] j x h t = absurd (cc)
any_from p (y ∷ xs) zero x h t = or_left (p y) (any p xs) (let e : y ≡ x = cc in rw e t)
any_from p (y ∷ xs) (suc j) x h t = or_right (p y) (any p xs) (any_from p xs j x h t)

starved_from : (s : Status) → is_live s ≡ false → is_open s ≡ true → s ≡ Starved
starved_from Ready h o = absurd (cc)
starved_from Running h o = absurd (cc)
starved_from Blocked h o = absurd (cc)
starved_from Starved h o = refl
starved_from Closed h o = absurd (cc)
starved_from (Dropped n) h o = absurd (cc)

module _ {T : Type 0} where
  -- the tree of what is live has work
  some_work : (es : List (Entry T)) → IsTree es → IsLeaning es → (n i : ℕ) (e : Entry T) (s : Status) → length es ≤ i + n →
      slice_get es i ≡ Some e → is_live s ≡ true → e.status ≡ s → IsWorking es e.root
  some_work es t l n i e Ready le a live is = record { place = i; entry = e; at = a; root = refl; ready = inl is }
  some_work es t l n i e Running le a live is = record { place = i; entry = e; at = a; root = refl; ready = inr is }
  some_work es t l zero i e Blocked le a live is = absurd (omega (arith, within es i e a))
  some_work es t l (suc n) i e Blocked le a live is =
      let c = l.leaning i e a (rw is refl) in
      let r : Rooted es c.place (Some i) c.child.root = rw c.parent at (t.rooted c.place c.child c.at) in
      let w = some_work es t l n c.place c.child c.child.status (omega (arith, r.0)) c.at c.live refl in
      let same : c.child.root ≡ e.root = sym r.3 ∙ ap (λ (x : Entry T). x.root) (one_at es i i e r.1 a r.2 refl) in
      record { place = w.place; entry = w.entry; at = w.at; root = w.root ∙ same; ready = w.ready }
  some_work es t l n i e Starved le a live is = absurd (cc)
  some_work es t l n i e Closed le a live is = absurd (cc)
  some_work es t l n i e (Dropped k) le a live is = absurd (cc)

  abbrev live_of : ℕ → Entry T → Bool
  live_of r e = is_live e.status && (e.root == r)

  pub work_from : (es : List (Entry T)) → IsTree es → IsLeaning es → HasWork es
  work_from es t l = record {
    works = λ r. ⊎_elim
        (λ yes.
        let f = any_at (live_of r) es yes in
        let b = and_parts (is_live f.1.status) (f.1.root == r) f.3 in
        let w = some_work es t l (length es) f.0 f.1 f.1.status (omega arith) f.2 b.0 refl in
        inr (record {
          place = w.place;
          entry = w.entry;
          at = w.at;
          root = w.root ∙ eqb-true f.1.root r b.1;
          ready = w.ready;
        }))
        (λ no'. inl (record {
          starved = λ i e a root o. ⊎_elim
              (λ live. absurd (both_ways (any (live_of r) es) no' (any_from (live_of r) es i e a
              (and_from (is_live e.status) (e.root == r) live (eq-eqb e.root r root)))))
              (λ dead. starved_from e.status dead o)
              (cases_Bool (is_live e.status));
        }))
        (cases_Bool (any (live_of r) es));
  }
