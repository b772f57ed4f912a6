-- Which jobs are out after a call.
use Rattle.std.proofs.Common.{◌≡◌, ℕ, zero, suc, ◌<◌, List, [], ◌∷◌, ◌++◌, length, set, Bool, true, false, cond, IfSome, MatchOption, Option, Some, None, refl, sym, ap, ◌∙◌, subst, ◌⊎◌, inl, inr, ⊎_elim, arith}
use Rattle.std.specs.Prelude.{slice_get}
use Rattle.query_tree.specs.declared.Status.{Status}
use Rattle.query_tree.specs.declared.Status.TheVariants.{Ready, Running, Blocked, Starved, Closed, Dropped}
use Rattle.query_tree.specs.declared.Entry.{Entry}
use Rattle.query_tree.specs.declared.Lent.{Lent}
use Rattle.query_tree.specs.Forest.{is_none}
use Rattle.query_tree.specs.Woods.{Out, IsLent}
use Rattle.query_tree.specs.Takes.{HasNoReady, Took}
use Rattle.query_tree.specs.Frame.{OthersStay}
use Rattle.query_tree.proofs.Lists.{present, within, from_pushed}
use Rattle.query_tree.proofs.Tests.{one_at}
use Rattle.forest_tests.specs.Jobs.{is_out, AreOut, IsFree}

out_test : (s : Status) (b : Bool) → Out s b → is_out s b ≡ true
out_test Ready b h = absurd h
out_test Running b h = refl
out_test Blocked b h = absurd h
out_test Starved b h = absurd h
out_test Closed b h = absurd h
out_test (Dropped n) b h = h

out_from : (s : Status) (b : Bool) → is_out s b ≡ true → Out s b
out_from Ready b h = absurd (cc)
out_from Running b h = tt
out_from Blocked b h = absurd (cc)
out_from Starved b h = absurd (cc)
out_from Closed b h = absurd (cc)
out_from (Dropped n) b h = h

-- what stands in a list after a write
set_cases : {X : Type 0} (xs : List X) (i : ℕ) (y : X) (j : ℕ) (x : X) → slice_get (set xs i y) j ≡ Some x → ((j ≡ i) × (x ≡ y))
    ⊎ ((slice_get xs j ≡ Some x) × (j ≡ i → ⊥))
set_cases [] i y j x h = absurd (cc)
set_cases (z ∷ xs) zero y zero x h = inl (refl, cc)
set_cases (z ∷ xs) zero y (suc j) x h = inr (h, λ d. omega (arith, d))
set_cases (z ∷ xs) (suc i) y zero x h = inr (h, λ d. omega (arith, d))
set_cases (z ∷ xs) (suc i) y (suc j) x h = ⊎_elim (λ r. inl (ap suc r.0, r.1)) (λ r. inr (r.0, λ d. r.1 (omega (arith, d))))
    (set_cases xs i y j x h)

-- a job that is kept is out
pub lent_from : (es : List (Entry ℕ)) (jobs : List (Option (Lent ℕ))) (i : ℕ) (job : Lent ℕ) → AreOut es jobs → slice_get jobs i
    ≡ Some (Some job) → IsLent es job.id job.left job.waiting
lent_from es jobs i job h a =
    let r = h i job a in
    let e = present es i r.1 in
    let s = r.2 e.0 e.1 in
    record {
      own = e.0;
      at = subst (λ k. slice_get es k ≡ Some e.0) (sym r.0) e.1;
      left_is = s.0;
      waiting_is = s.1;
      out = out_from e.0.status (is_none e.0.payload) s.2;
    }

at_lent : (es : List (Entry ℕ)) (i left : ℕ) (w : Bool) → IsLent es i left w → (i < length es) × ((e : Entry ℕ) → slice_get es i ≡ Some e →
    (e.lent ≡ left) × (e.waiting ≡ w) × (is_out e.status (is_none e.payload) ≡ true))
at_lent es i left w l = (
  within es i l.own l.at,
  λ e a. rw (one_at es i i l.own e l.at a refl) (l.left_is, l.waiting_is, out_test l.own.status (is_none l.own.payload) l.out),
)

pub none_out : AreOut [] []
none_out i job a = absurd (cc)

-- after a call that gave back what is kept no longer
others_out : (es fs : List (Entry ℕ)) (jobs : List (Option (Lent ℕ))) (id : ℕ) → OthersStay es fs id → IsFree jobs id → AreOut es jobs →
    AreOut fs jobs
others_out es fs jobs id s free h i job a =
    let l = lent_from es jobs i job h a in
    let n : job.id ≡ i = (h i job a).0 in
    let r = s.stays i l.own (subst (λ k. slice_get es k ≡ Some l.own) n l.at) (λ d. free job (subst (λ k. slice_get jobs k
    ≡ Some (Some job)) d a)) in
    let out : Out r.0.status (is_none r.0.payload) = subst (λ o. Out r.0.status (is_none o)) (sym r.2.payload) (r.2.out l.out) in
    let k = at_lent fs i job.left job.waiting (record {
      own = r.0;
      at = r.1;
      left_is = r.2.lent ∙ l.left_is;
      waiting_is = r.2.waiting ∙ l.waiting_is;
      out = out;
    }) in
    (n, k.0, k.1)

-- after a take
taken_out : (es fs : List (Entry ℕ)) (jobs : List (Option (Lent ℕ))) (lent : Lent ℕ) → Took es fs lent → OthersStay es fs lent.id →
    AreOut es jobs → AreOut fs jobs
taken_out es fs jobs lent t s h = others_out es fs jobs lent.id s
    (λ job a.
    let r = h lent.id job a in
    let o = (r.2 t.own t.at).2 in
    absurd (rw t.ready at (out_from t.own.status (is_none t.own.payload) o)))
    h

pub taken_either : (es fs : List (Entry ℕ)) (jobs : List (Option (Lent ℕ))) (o : Option (Lent ℕ)) → MatchOption o ((fs ≡ es)
    × HasNoReady es) (λ l. Took es fs l) → IfSome o (λ l. OthersStay es fs l.id) → AreOut es jobs → AreOut fs jobs
taken_either es fs jobs None t s h = subst (λ xs. AreOut xs jobs) (sym t.0) h
taken_either es fs jobs (Some lent) t s h = taken_out es fs jobs lent t s h

-- a job that is out is kept
pub kept_out : (es : List (Entry ℕ)) (jobs : List (Option (Lent ℕ))) (lent : Lent ℕ) → IsLent es lent.id lent.left lent.waiting →
    AreOut es jobs → AreOut es (set jobs lent.id (Some lent))
kept_out es jobs lent l h i job a = ⊎_elim
    (λ r.
    let same : job ≡ lent = let e : Some job ≡ Some lent = r.1 in cc in
    let k = at_lent es lent.id lent.left lent.waiting l in
    rw (same, r.0) (refl, k.0, k.1))
    (λ r. h i job r.0)
    (set_cases jobs lent.id (Some lent) i (Some job) a)

-- a job is kept no longer
pub fetched_out : (es : List (Entry ℕ)) (jobs : List (Option (Lent ℕ))) (id : ℕ) → AreOut es jobs → AreOut es (set jobs id None)
fetched_out es jobs id h i job a = ⊎_elim (λ r. absurd (cc)) (λ r. h i job r.0) (set_cases jobs id None i (Some job) a)

pub fetched_free : (jobs : List (Option (Lent ℕ))) (id : ℕ) → IsFree (set jobs id None) id
fetched_free jobs id job a = ⊎_elim (λ r. absurd (cc)) (λ r. r.1 refl) (set_cases jobs id None id (Some job) a)

grown_out : (es : List (Entry ℕ)) (jobs : List (Option (Lent ℕ))) → AreOut es jobs → AreOut es (jobs ++ None ∷ [])
grown_out es jobs h i job a = ⊎_elim (λ r. h i job r) (λ r. absurd (cc)) (from_pushed jobs None i (Some job) a)

pub grown_either : (b : Bool) (es : List (Entry ℕ)) (jobs : List (Option (Lent ℕ))) → AreOut es jobs →
    AreOut es (cond b (jobs ++ None ∷ []) jobs)
grown_either true es jobs h = grown_out es jobs h
grown_either false es jobs h = h

-- what stands at a place is what is kept of the query of this number
pub number_at : (es : List (Entry ℕ)) (jobs : List (Option (Lent ℕ))) (i : ℕ) (o : Option (Lent ℕ)) → AreOut es jobs → slice_get jobs i
    ≡ Some o → IfSome o (λ l. l.id ≡ i)
number_at es jobs i None h a = tt
number_at es jobs i (Some job) h a = (h i job a).0

pub out_at : (es : List (Entry ℕ)) (jobs : List (Option (Lent ℕ))) (i : ℕ) (o : Option (Lent ℕ)) → AreOut es jobs → slice_get jobs i
    ≡ Some o → IfSome o (λ l. IsLent es l.id l.left l.waiting)
out_at es jobs i None h a = tt
out_at es jobs i (Some job) h a = lent_from es jobs i job h a

-- after a call that gave back the job of query i
pub given_out : (es fs : List (Entry ℕ)) (jobs : List (Option (Lent ℕ))) (id i : ℕ) → id ≡ i → OthersStay es fs id → IsFree jobs i →
    AreOut es jobs → AreOut fs jobs
given_out es fs jobs id i same s free h = others_out es fs jobs id s (subst (IsFree jobs) (sym same) free) h
