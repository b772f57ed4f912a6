-- Matched procedures have the same runs.
use Rattle.std.proofs.Common.{◌≡◌, ℕ, zero, suc, List, length, Bool, false, Some, ℤ, refl, sym, ap, ◌∙◌, subst, IsTrue}
use Rattle.c_tree.specs.Syntax.{PureProcedure, PureProgram}
use Rattle.c_tree.specs.Meaning.{Progress, goes, ends, stopped, failed, starved, spent, Gives, Callee, Execs, entered, returned_value, Enters, Run, Outcome, Returned, Stopped, Failed, ComesOut, World, world_of, values_from, globals_of, started, MayBegin, Runs}
use Rattle.summary_keep.specs.Bodies.{SameStatements}
use Rattle.summary_keep.specs.Matching.{Related, Any, AreSame, IsMatching, CorrespondIn}
use Rattle.summary_keep.specs.Laws.{SameOutcome, KeepsRuns, HasNoOtherRuns}
use Rattle.summary_keep.proofs.Carrying.{SameResult, Carries, chain, gives, executes_all}
use Rattle.summary_keep.proofs.Turning.{place_statements, turn_statements}

module _ (P Q : PureProgram) (R : Related) (m : IsMatching P Q R) where
  abbrev pub A : ℕ → ℕ → Type 0
  A = CorrespondIn P Q R

  -- the bodies of related procedures, with their assertions
  body : (i j : ℕ) → (related : IsTrue (R i j)) → let r = m.all i j related in SameStatements R A r.old.body r.new.body
  body i j related =
      let r = m.all i j related in
      place_statements R A Any r.old.body r.new.body r.same.body (record {
        at = λ k a b e f. record {
          i = i;
          j = j;
          place = k;
          old = r.old;
          new = r.new;
          related = related;
          old_at = r.old_at;
          new_at = r.new_at;
          old_stands = e;
          new_stands = f;
        };
      })

  module _ (c : Bool) where
    enters : (C D : Callee) → ((p q : ℕ) → IsTrue (R p q) → (args : List ℤ) → Carries A (C p args) (D q args)) →
        (p q : PureProcedure) → SameStatements R A p.body q.body → p.gives ≡ q.gives → (args : List ℤ) →
        Carries A (Enters c C (Some p) args) (Enters c D (Some q) args)
    enters C D calls p q b g args =
        record {
          by = (chain A (Execs c C p.body (entered args)) (Execs c D q.body (entered args)) _ _
              (executes_all A R c C D calls p.body q.body b (entered args))
              (λ f. subst (λ x. Carries A (Gives (returned_value p.gives f)) (Gives (returned_value x f))) g (gives A _))).by;
        }

    pub runs : (d p q : ℕ) → IsTrue (R p q) → (args : List ℤ) → Carries A (Run c P d p args) (Run c Q d q args)
    runs zero p q h args = record { by = λ w o k. absurd k }
    runs (suc d) p q h args =
        let r = m.all p q h in
        let C : Callee = Run c P d in
        let D : Callee = Run c Q d in
        let e = enters C D (λ i j k as'. runs d i j k as') r.old r.new (body p q h) r.same.gives args in
        record {
          by = λ w o k.
              let u = e.by w o (subst (λ x. Enters c C x args w o) r.old_at k) in
              (u.0, u.1, subst (λ x. Enters c D x args w u.0) (sym r.new_at) u.2);
        }

  outcome_of : (out : Outcome) (o u : Progress ℤ) → SameResult A o u → ComesOut out o → (new : Outcome) × SameOutcome A out new
      × ComesOut new u
  outcome_of out (goes w v) u s h =
      (Returned v, subst (λ x. SameOutcome A x (Returned v)) (sym h.0) refl, subst (ComesOut (Returned v)) (sym s) (refl, h.1))
  outcome_of out (ends w stopped) u s h = (
    Stopped,
    subst (λ x. SameOutcome A x Stopped) (sym h.0) refl,
    subst (ComesOut Stopped) (sym s.2) (subst (λ e. ComesOut Stopped (ends w e)) (sym s.1) (refl, h.1)),
  )
  outcome_of out (ends w (failed a)) u s h = (
    Failed s.1.0,
    subst (λ x. SameOutcome A x (Failed s.1.0)) (sym h.0) (s.1.0, s.1.1, refl),
    subst (ComesOut (Failed s.1.0)) (sym s.2) (subst (λ e. ComesOut (Failed s.1.0) (ends w e)) (sym s.1.2) (refl, h.1)),
  )
  outcome_of out (ends w starved) u s h = absurd h
  outcome_of out (ends w spent) u s h = absurd h

  same_world : (o u : Progress ℤ) → SameResult A o u → world_of o ≡ world_of u
  same_world (goes w v) u s = ap (λ (z : Progress ℤ). world_of z) (sym s)
  same_world (ends w e) u s = ap (λ (z : Progress ℤ). world_of z) (sym s.2)

  same_globals : (o u : Progress ℤ) → SameResult A o u → length P.globals ≡ length Q.globals → globals_of P o ≡ globals_of Q u
  same_globals o u s n =
      ap (λ (w : World). values_from w.globals 0 (length P.globals)) (same_world o u s)
      ∙ ap (λ k. values_from (world_of u).globals 0 k) n

  may_begin : (p q : ℕ) → IsTrue (R p q) → (before : List ℤ) → MayBegin P p before → MayBegin Q q before
  may_begin p q h before b =
      let r = m.all p q h in
      record {
        count = b.count ∙ r.globals.count;
        opening = λ e. b.opening (r.main.1 e) ∙ r.globals.opening (r.main.1 e);
      }

  pub kept : (p q : ℕ) → IsTrue (R p q) → (d : ℕ) (args before ins : List ℤ) (out : Outcome) (after : List ℤ) →
      Runs P d p args before ins out after → (new : Outcome) × SameOutcome A out new × Runs Q d q args before ins new after
  kept p q h d args before ins out after r =
      let u = (runs false d p q h args).by (started before ins 0) r.0 r.1 in
      let n = outcome_of out r.0 u.0 u.1 r.2 in
      let left = r.3 ∙ same_globals r.0 u.0 u.1 (m.all p q h).globals.count in
      (n.0, n.1, (u.0, u.2, n.2, left, may_begin p q h before r.4))

-- The other way round
abbrev pub flipped : Related → Related
flipped R j i = R i j

flip_same : (R : Related) (p q : PureProcedure) → AreSame R p q → AreSame (flipped R) q p
flip_same R p q s = record {
  name = sym s.name;
  params = sym s.params;
  slots = sym s.slots;
  gives = sym s.gives;
  body = turn_statements R Any p.body q.body s.body;
}

pub flip : (P Q : PureProgram) (R : Related) → IsMatching P Q R → IsMatching Q P (flipped R)
flip P Q R m = record {
  all = λ j i h.
      let r = m.all i j h in
      record {
        old = r.new;
        new = r.old;
        old_at = r.new_at;
        new_at = r.old_at;
        same = flip_same R r.old r.new r.same;
        globals = record { count = sym r.globals.count; opening = λ e. sym (r.globals.opening (r.main.1 e)) };
        main = (r.main.1, r.main.0);
      };
}

flip_place : (P Q : PureProgram) (R : Related) (a b : ℕ) → CorrespondIn Q P (flipped R) b a → CorrespondIn P Q R a b
flip_place P Q R a b c = record {
  i = c.j;
  j = c.i;
  place = c.place;
  old = c.new;
  new = c.old;
  related = c.related;
  old_at = c.new_at;
  new_at = c.old_at;
  old_stands = c.new_stands;
  new_stands = c.old_stands;
}

flip_outcome : (P Q : PureProgram) (R : Related) (new out : Outcome) → SameOutcome (CorrespondIn Q P (flipped R)) new out →
    SameOutcome (CorrespondIn P Q R) out new
flip_outcome P Q R (Returned v) out s = subst (λ x. SameOutcome (CorrespondIn P Q R) x (Returned v)) (sym s) refl
flip_outcome P Q R Stopped out s = subst (λ x. SameOutcome (CorrespondIn P Q R) x Stopped) (sym s) refl
flip_outcome P Q R (Failed b) out s =
    subst (λ x. SameOutcome (CorrespondIn P Q R) x (Failed b)) (sym s.2) (b, flip_place P Q R s.0 b s.1, refl)

pub keeps_runs : KeepsRuns
keeps_runs P Q R m p q h d args before ins out after r = kept P Q R m p q h d args before ins out after r

pub no_other_runs : HasNoOtherRuns
no_other_runs P Q R m p q h d args before ins new after r =
    let o = kept Q P (flipped R) (flip P Q R m) q p h d args before ins new after r in
    (o.0, flip_outcome P Q R new o.0 o.1, o.2)
