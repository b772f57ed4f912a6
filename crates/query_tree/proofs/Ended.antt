-- What was dropped stands under what closed or was dropped with the same stamp, whatever is changed elsewhere.
use Rattle.std.proofs.Common.{◌≡◌, ℕ, List, [], ◌∷◌, ◌++◌, true, Option, Some, None, sym, ap, ◌∙◌, subst, ⊎_elim, arith}
use Rattle.std.specs.Prelude.{slice_get, ◌==◌}
use Rattle.std.proofs.lemmas.Bool.{cond_both}
use Rattle.query_tree.specs.declared.Status.{Status}
use Rattle.query_tree.specs.declared.Status.TheVariants.{Ready, Running, Blocked, Starved, Closed, Dropped}
use Rattle.query_tree.specs.declared.Entry.{Entry}
use Rattle.query_tree.specs.Forest.{changed, is_open, woken, at_rest, fed}
use Rattle.query_tree.specs.Kept.{Ended, EndedAbove, Rooted, IsTree, HasEnded}
use Rattle.query_tree.proofs.Lists.{from_changed, from_pushed, within}
use Rattle.query_tree.proofs.Keeps.{SameFrame}

pub ended_shut : (n : ℕ) (s : Status) → is_open s ≡ true → Ended n s → ⊥
ended_shut n Ready o h = h
ended_shut n Running o h = h
ended_shut n Blocked o h = h
ended_shut n Starved o h = h
ended_shut n Closed o h = absurd (cc)
ended_shut n (Dropped m) o h = absurd (cc)

pub dropped_shut : (n : ℕ) (s : Status) → is_open s ≡ true → s ≡ Dropped n → ⊥
dropped_shut n s o h = let z : is_open (Dropped n) ≡ true = ap is_open (sym h) ∙ o in absurd (cc)

pub woken_dropped : (n : ℕ) (s : Status) → woken s ≡ Dropped n → s ≡ Dropped n
woken_dropped n Ready h = absurd (cc)
woken_dropped n Running h = absurd (cc)
woken_dropped n Blocked h = absurd (cc)
woken_dropped n Starved h = absurd (cc)
woken_dropped n Closed h = absurd (cc)
woken_dropped n (Dropped m) h = h

pub woken_ended : (n : ℕ) (s : Status) → Ended n s → Ended n (woken s)
woken_ended n Ready h = h
woken_ended n Running h = h
woken_ended n Blocked h = absurd h
woken_ended n Starved h = h
woken_ended n Closed h = h
woken_ended n (Dropped m) h = h

pub rest_dropped : (n m : ℕ) → at_rest m ≡ Dropped n → ⊥
rest_dropped n m = cond_both (m == 0) Starved Ready (λ s. s ≡ Dropped n → ⊥) (λ _ h. absurd (cc)) (λ _ h. absurd (cc))

pub fed_dropped : (n m : ℕ) (s : Status) → fed m s ≡ Dropped n → s ≡ Dropped n
fed_dropped n m Ready h = absurd (cc)
fed_dropped n m Running h = absurd (cc)
fed_dropped n m Blocked h = absurd (cc)
fed_dropped n m Starved h = absurd (rest_dropped n m h)
fed_dropped n m Closed h = absurd (cc)
fed_dropped n m (Dropped k) h = h

pub fed_ended : (n m : ℕ) (s : Status) → Ended n s → Ended n (fed m s)
fed_ended n m Ready h = h
fed_ended n m Running h = h
fed_ended n m Blocked h = h
fed_ended n m Starved h = absurd h
fed_ended n m Closed h = h
fed_ended n m (Dropped k) h = h

module _ {T : Type 0} where
  module _ (es : List (Entry T)) (f : ℕ → Entry T → Entry T) (frame : (k : ℕ) (e : Entry T) → SameFrame e (f k e)) where
    pub above_changed : (n : ℕ) → ((k : ℕ) (e : Entry T) → slice_get es k ≡ Some e → Ended n e.status → Ended n (f k e).status) →
        (o : Option ℕ) → EndedAbove es n o → EndedAbove (changed f es) n o
    above_changed n keeps None h = h
    above_changed n keeps (Some p) h = λ q a.
        let r = from_changed f es p q a in
        subst (λ (y : Entry T). Ended n y.status) (sym r.2) (keeps p r.0 r.1 (h r.0 r.1))

    above_frame : (n k : ℕ) (e : Entry T) → EndedAbove (changed f es) n e.parent → EndedAbove (changed f es) n (f k e).parent
    above_frame n k e h = rw (frame k e).parent h

    -- of each entry that is dropped afterwards
    pub ended_each : ((k : ℕ) (e : Entry T) (n : ℕ) → slice_get es k ≡ Some e → (f k e).status ≡ Dropped n →
        EndedAbove (changed f es) n e.parent) → HasEnded (changed f es)
    ended_each each = record {
      ended = λ i y n a h.
          let r = from_changed f es i y a in
          let up = each i r.0 n r.1 (ap (λ (x : Entry T). x.status) (sym r.2) ∙ h) in
          subst (λ (x : Entry T). EndedAbove (changed f es) n x.parent) (sym r.2) (above_frame n i r.0 up);
    }

    -- where nothing is dropped, and what ended stays so
    pub ended_changed : ((k : ℕ) (e : Entry T) (n : ℕ) → slice_get es k ≡ Some e → (f k e).status ≡ Dropped n → e.status ≡ Dropped n) →
        ((n k : ℕ) (e : Entry T) → slice_get es k ≡ Some e → Ended n e.status → Ended n (f k e).status) → HasEnded es →
        HasEnded (changed f es)
    ended_changed drops keeps s = ended_each (λ k e n a h. above_changed n (keeps n) e.parent (s.ended k e n a (drops k e n a h)))

  module _ (es : List (Entry T)) (x : Entry T) where
    above_pushed : (n i : ℕ) (o : Option ℕ) (root : ℕ) → Rooted es i o root → EndedAbove es n o → EndedAbove (es ++ x ∷ []) n o
    above_pushed n i None root r h = h
    above_pushed n i (Some p) root r h = λ q a. ⊎_elim
        (λ b. h q b)
        (λ b. absurd (omega (arith, b.0, within es p r.1 r.2)))
        (from_pushed es x p q a)

    pub ended_pushed : IsTree es → ((n : ℕ) → x.status ≡ Dropped n → ⊥) → HasEnded es → HasEnded (es ++ x ∷ [])
    ended_pushed t new s = record {
      ended = λ i e n a h. ⊎_elim
          (λ b. above_pushed n i e.parent e.root (t.rooted i e b) (s.ended i e n b h))
          (λ b. absurd (new n (ap (λ (y : Entry T). y.status) (sym b.1) ∙ h)))
          (from_pushed es x i e a);
    }
