-- Each kind of step keeps the rule.
use Rattle.std.proofs.Common.{◌≡◌, ℕ, zero, suc, ◌+◌, ◌-◌, ◌<◌, ◌≤◌, List, [], ◌∷◌, ◌++◌, length, true, false, Option, Some, refl, sym, ap, ◌∙◌, subst, inl, inr, ⊎_elim, arith}
use Rattle.std.specs.Prelude.{◌==◌, nat_le, slice_set}
use Rattle.std.proofs.lemmas.Bool.{both_ways, ne_eqb, cases_eq, cases_lt, leb-true, leb-false, cond_both}
use mathlib.Core.Option.{some, none}
use lib.ListN.{get_elem?}
use prog.Atomic.{either}
use Rattle.atomic_table.specs.Table.{opening, State, Me, step, keeps, takes, gives, rest, Allows, Splits, Joins}
use Rattle.atomic_table.proofs.Lists.{set_here, set_else, set_again, at_snoc, at_longer}
use Rattle.board_lock.specs.declared.view.View.{View}
use Rattle.board_lock.specs.Views.{StartsWith, times, times_in_all, added, holding, resting, newcomer, joined, spent}
use Rattle.board_lock.specs.Rule.{IsBelow, AreApart, Knows, IsFree, IsHeld, Rule}
use Rattle.board_lock.specs.Kinds.{Follows, HasTried, HasCounted, HasReleased}
use Rattle.board_lock.proofs.Histories.{starts_then, starts_same, starts_all_then, starts_all_append, starts_shorter, times_append, times_before, times_once, below_added, times_set, times_push, times_none, apart_same, is_inside, one_at, other_at, set_cases}

itself : {A : Type 0} → A → A
itself x = x

-- What views know
module _ {P E : Type 0} where
  -- a view that has seen this history, with these places
  knows_all : (q : P) (h : List E) (ps : List ℕ) → ((p : ℕ) → length h ≤ p → times p ps ≡ 0) → Knows q h (resting (Some q) h [] ps)
  knows_all q h ps below = record { turn = refl; program = refl; begins = starts_same h; heard = tt; below = record { below = below } }

  knows_longer : (q : P) (a b : List E) (v : View P E) → StartsWith a b → Knows q b v → Knows q a v
  knows_longer q a b v h k =
      record {
        turn = k.turn;
        program = k.program;
        begins = starts_then a b v.seen h k.begins;
        heard = starts_all_then a b v.heard h k.heard;
        below = k.below;
      }

  newcomer_knows : (q : P) (h : List E) (v : View P E) → Knows q h v → Knows q h (newcomer v)
  newcomer_knows q h v k = record {
    turn = k.turn;
    program = k.program;
    begins = k.begins;
    heard = k.heard;
    below = record { below = λ p le. refl };
  }

  spent_knows : (q : P) (h : List E) → Knows q h spent
  spent_knows q h = record {
    turn = refl;
    program = tt;
    begins = record { rest = h; is = refl };
    heard = tt;
    below = record { below = λ p le. refl };
  }

  joined_knows : (q : P) (h : List E) (v w : View P E) → Knows q h v → Knows q h w → Knows q h (joined v w)
  joined_knows q h v w a b =
      let heard = starts_all_append h v.heard w.heard a.heard b.heard in
      let none : (n : ℕ) → length v.seen ≤ n → length w.seen ≤ n → (p : ℕ) → n ≤ p → times p (v.places ++ w.places) ≡ 0 =
      λ n le le' p past. omega (arith, times_append p v.places w.places, a.below.below p (omega arith), b.below.below p (omega arith)) in
      cond_both (nat_le (length v.seen) (length w.seen)) _ _ (Knows q h)
      (λ e. record {
        turn = b.turn;
        program = b.program;
        begins = b.begins;
        heard = (a.begins, heard);
        below = record { below = λ p past. none (length w.seen) (leb-true (length v.seen) (length w.seen) e) (omega arith) p past };
      })
      (λ e. record {
        turn = a.turn;
        program = a.program;
        begins = a.begins;
        heard = (b.begins, heard);
        below = record {
          below = λ p past. none (length v.seen) (omega arith) (omega (arith, leb-false (length v.seen) (length w.seen) e)) p
              past;
        };
      })

  joined_times : (p : ℕ) (v w : View P E) → times p (joined v w).places ≡ times p v.places + times p w.places
  joined_times p v w = cond_both (nat_le (length v.seen) (length w.seen)) _ _
      (λ (u : View P E). times p u.places ≡ times p v.places + times p w.places)
      (λ _. times_append p v.places w.places)
      (λ _. times_append p v.places w.places)

-- The opening
module _ {B P E : Type 0} (program : B → P) (events : B → List E) where
  pub opening_keeps : (b : B) (n : ℕ) → n ≡ length (events b)
      → Rule program events (opening (n ∷ 0 ∷ []) (Some b ∷ []) (resting (Some (program b)) (events b) [] []))
  opening_keeps b n is = inl (record {
    board = b;
    words = ap (λ m. m ∷ 0 ∷ []) is;
    homes = refl;
    views = first_knows;
    apart = record { once = λ p. omega arith };
  })
    where
      first_knows : (id : ℕ) (v : View P E) → get_elem? (resting (Some (program b)) (events b) [] [] ∷ []) id ≡ some v →
          Knows (program b) (events b) v
      first_knows zero v at =
          let e : resting (Some (program b)) (events b) [] [] ≡ v = cc in
          subst (Knows (program b) (events b)) e (knows_all (program b) (events b) [] (λ p le. refl))
      first_knows (suc id) v at = absurd (cc)

-- Who has the turn
module _ {B P E : Type 0} (program : B → P) (events : B → List E) where
  -- only the holder has the turn
  is_holder : (s : State (Option B) (View P E)) (f : IsHeld program events s) (id : ℕ) (q : Option P) (seen : List E) (ps : List ℕ)
      → get_elem? s.views id ≡ some (holding q seen ps) → (id ≡ f.holder) × (f.view ≡ holding q seen ps)
  is_holder s f id q seen ps at = ⊎_elim
      (λ e. (e, one_at s.views f.holder f.view (holding q seen ps) f.at (subst (λ j. get_elem? s.views j ≡ some (holding q seen ps)) e at)))
      (λ ne. let e : true ≡ false = (f.others id (holding q seen ps) ne at).turn in absurd (both_ways true e refl))
      (cases_eq id f.holder)

  held_by : (s : State (Option B) (View P E)) → Rule program events s → (id : ℕ) (q : Option P) (seen : List E) (ps : List ℕ)
      → get_elem? s.views id ≡ some (holding q seen ps) → (f : IsHeld program events s) × (id ≡ f.holder) × (f.view ≡ holding q seen ps)
  held_by s h id q seen ps at = ⊎_elim
      (λ (f : IsFree program events s). let e : true ≡ false = (f.views id (holding q seen ps) at).turn in absurd (both_ways true e refl))
      (λ (f : IsHeld program events s). let e = is_holder s f id q seen ps at in (f, e.0, e.1))
      h

  not_holder : (s : State (Option B) (View P E)) (f : IsHeld program events s) (id : ℕ) (v : View P E) → v.turn ≡ false
      → get_elem? s.views id ≡ some v → id ≡ f.holder → ⊥
  not_holder s f id v rests at e =
      let same : v ≡ f.view = one_at s.views f.holder v f.view (subst (λ j. get_elem? s.views j ≡ some v) e at) f.at in
      let t : false ≡ true = sym rests ∙ (ap (λ (u : View P E). u.turn) same ∙ f.turn) in
      both_ways true (sym t) refl

-- 1. Try
module _ {B P E : Type 0} (program : B → P) (events : B → List E) where
  pub try_keeps : (id : ℕ) (q : Option P) (seen : List E) (hs : List (List E)) (ps : List ℕ)
      → Allows (Rule program events) 1 id (resting q seen hs ps, []) 1 (λ n. either (n == 0) 1 n)
      (HasTried program events (step 1 1 0 1 none) (resting q seen hs ps, []))
  try_keeps id q seen hs ps s h len at small = ⊎_elim
      (λ (f : IsFree program events s).
      let b = f.board in
      let v : View P E = resting q seen hs ps in
      let w : View P E = holding (Some (program b)) (events b) ps in
      let k = f.views id v at in
      rw (f.words, f.homes) (
        w,
        takes 0 (Some b),
        refl,
        inr (itself (record {
          holder = id;
          view = w;
          at = set_here s.views id w (is_inside s.views id v at);
          turn = refl;
          common = program b;
          has = refl;
          words = refl;
          homes = refl;
          others = λ j u ne a. f.views j u (other_at s.views id j w u ne a);
          below = record { below = λ p past. k.below.below p (omega (arith, starts_shorter (events b) seen k.begins)) };
          apart = apart_same s.views id v w at refl f.apart;
        })),
        (
          b,
          refl,
          record {
            program = k.program;
            begins = k.begins;
            heard = k.heard;
            own = record { below = k.below.below; once = λ p. omega (arith, times_set p id s.views v spent at, f.apart.once p) };
          },
        ),
      ))
      (λ (f : IsHeld program events s).
      let w : View P E = resting q seen hs ps in
      let same : slice_set s.views id w ≡ s.views = set_again s.views id w at in
      rw (f.words, f.homes) (
        w,
        keeps,
        tt,
        inr (itself (record {
          holder = f.holder;
          view = f.view;
          at = rw same f.at;
          turn = f.turn;
          common = f.common;
          has = f.has;
          words = refl;
          homes = refl;
          others = λ j v ne a. f.others j v ne (subst (λ (vs : List (View P E)). get_elem? vs j ≡ some v) same a);
          below = f.below;
          apart = rw same f.apart;
        })),
        refl,
      ))
      h

  -- what a try that found 0, or another number, tells
  pub has_won : (me me' : Me (Option B) (View P E)) (found : ℕ) → HasTried program events (step 1 1 0 1 none) me found me' → found ≡ 0
      → (b : B) × (me' ≡ (holding (Some (program b)) (events b) me.0.places, (0, Some b) ∷ [])) × Follows me.0 (program b) (events b)
  has_won me me' found h e = rw e at h

  pub has_lost : (me me' : Me (Option B) (View P E)) (found : ℕ) → HasTried program events (step 1 1 0 1 none) me found me' →
      (found ≡ 0 → ⊥) → me' ≡ me
  has_lost me me' found h ne = rw (ne_eqb found 0 ne) at h

-- A seat that has one slot in hand has it as the last that it took.
pub has_slot : {B P E : Type 0} (me : Me (Option B) (View P E)) (v : View P E) (x : ℕ × Option B) → me ≡ (v, x ∷ []) → me.1 ≡ x ∷ rest me.1
has_slot me v x e = rw e refl

-- 3. Store the count
module _ {B P E : Type 0} (program : B → P) (events : B → List E) where
  -- in no view is a place that is not below what the holder has seen
  none_past : (s : State (Option B) (View P E)) (f : IsHeld program events s) (p : ℕ) → length f.view.seen ≤ p → times_in_all p s.views ≡ 0
  none_past s f p past = times_none p s.views (λ i v at. ⊎_elim
      (λ e. ap (λ (u : View P E). times p u.places) (one_at s.views f.holder v f.view (subst (λ j. get_elem? s.views j ≡ some v) e at) f.at)
      ∙ f.below.below p past)
      (λ ne. let k = f.others i v ne at in k.below.below p (omega (arith, starts_shorter f.view.seen v.seen k.begins, past)))
      (cases_eq i f.holder))

  pub count_keeps : (id : ℕ) (q : Option P) (seen : List E) (ps : List ℕ) (b : B) (n : ℕ) → n ≡ length (events b) →
      StartsWith (events b) seen
      → Allows (Rule program events) 1 id (holding q seen ps, (0, Some b) ∷ []) 0 (λ _. n)
      (λ _. HasCounted events (step 1 0 n 0 none) (holding q seen ps, (0, Some b) ∷ []) n)
  count_keeps id q seen ps b n is begins s h len at small =
      let r = held_by program events s h id q seen ps at in
      let f : IsHeld program events s = r.0 in
      let v : View P E = holding q seen ps in
      let w : View P E = holding q (events b) (ps ++ added seen (events b)) in
      let seen_is : f.view.seen ≡ seen = ap (λ (u : View P E). u.seen) r.2 in
      let below : IsBelow v = subst IsBelow r.2 f.below in
      let more = length (events b) - length seen in
      rw (f.words, f.homes) (
        w,
        keeps,
        tt,
        inr (itself (record {
          holder = id;
          view = w;
          at = set_here s.views id w (is_inside s.views id v at);
          turn = refl;
          common = f.common;
          has = sym (ap (λ (u : View P E). u.program) r.2) ∙ f.has;
          words = ap (λ m. m ∷ 1 ∷ []) is;
          homes = refl;
          others = λ j u ne a. knows_longer f.common (events b) seen u begins
              (subst (λ xs. Knows f.common xs u) seen_is (f.others j u (λ e. ne (e ∙ sym r.1)) (other_at s.views id j w u ne a)));
          below = record { below = below_added seen (events b) ps (starts_shorter (events b) seen begins) below.below };
          apart = record {
            once = λ p. ⊎_elim
                (λ (lt : p < length seen). omega (
                  arith,
                  times_set p id s.views v w at,
                  times_append p ps (added seen (events b)),
                  times_before p (length seen) more lt,
                  f.apart.once p,
                ))
                (λ (past : length seen ≤ p). omega (
                  arith,
                  times_set p id s.views v w at,
                  times_append p ps (added seen (events b)),
                  times_once p (length seen) more,
                  none_past s f p (omega (arith, ap length seen_is, past)),
                  below.below p past,
                ))
                (cases_lt p (length seen));
          };
        })),
        refl,
      )

-- 5. Release
module _ {B P E : Type 0} (program : B → P) (events : B → List E) where
  pub release_keeps : (id : ℕ) (b : B) (ps : List ℕ)
      → Allows (Rule program events) 1 id (holding (Some (program b)) (events b) ps, (0, Some b) ∷ []) 1 (λ _. 0)
      (λ _. HasReleased (step 1 1 0 0 none) (holding (Some (program b)) (events b) ps, (0, Some b) ∷ []) 0)
  release_keeps id b ps s h len at small =
      let r = held_by program events s h id (Some (program b)) (events b) ps at in
      let f : IsHeld program events s = r.0 in
      let v : View P E = holding (Some (program b)) (events b) ps in
      let w : View P E = resting (Some (program b)) (events b) [] ps in
      let seen_is : f.view.seen ≡ events b = ap (λ (u : View P E). u.seen) r.2 in
      let some_is : Some f.common ≡ Some (program b) = sym f.has ∙ ap (λ (u : View P E). u.program) r.2 in
      let common_is : f.common ≡ program b = cc in
      rw (f.homes, f.words) (
        w,
        gives,
        tt,
        itself (inl (record {
          board = b;
          words = ap (λ (xs : List E). length xs ∷ 0 ∷ []) seen_is;
          homes = refl;
          views = λ j u a. ⊎_elim
              (λ e. subst (Knows (program b) (events b))
              (one_at (slice_set s.views id w) id w u (set_here s.views id w (is_inside s.views id v at))
              (subst (λ i. get_elem? (slice_set s.views id w) i ≡ some u) e a))
              (knows_all (program b) (events b) ps (subst IsBelow r.2 f.below).below))
              (λ ne. subst (λ (q : P). Knows q (events b) u) common_is (subst (λ (xs : List E). Knows f.common xs u) seen_is
              (f.others j u (λ e. ne (e ∙ sym r.1)) (other_at s.views id j w u ne a))))
              (cases_eq j id);
          apart = apart_same s.views id v w at refl f.apart;
        })),
        refl,
      )

-- 6. Split a seat
module _ {B P E : Type 0} (program : B → P) (events : B → List E) where
  pub split_keeps : (id : ℕ) (q : Option P) (seen : List E) (hs : List (List E)) (ps : List ℕ)
      → Splits (Rule program events) id (resting q seen hs ps) (resting q seen hs ps) (newcomer (resting q seen hs ps))
  split_keeps id q seen hs ps s h at =
      let v : View P E = resting q seen hs ps in
      let w : View P E = newcomer v in
      let same : slice_set s.views id v ≡ s.views = set_again s.views id v at in
      let apart : AreApart s.views → AreApart (slice_set s.views id v ++ w ∷ []) =
      λ before. rw same (record { once = λ p. omega (arith, times_push p s.views w, before.once p) }) in
      ⊎_elim
      (λ (f : IsFree program events s).
      let q' = program f.board in
      let h' = events f.board in
      itself (inl (record {
        board = f.board;
        words = f.words;
        homes = f.homes;
        views = λ j u a. ⊎_elim
            (λ before. f.views j u before)
            (λ e. subst (Knows q' h') e (newcomer_knows q' h' v (f.views id v at)))
            (at_snoc s.views w u j (rw same at a));
        apart = apart f.apart;
      })))
      (λ (f : IsHeld program events s). inr (itself (record {
        holder = f.holder;
        view = f.view;
        at = rw same (at_longer s.views (w ∷ []) f.holder f.view f.at);
        turn = f.turn;
        common = f.common;
        has = f.has;
        words = f.words;
        homes = f.homes;
        others = λ j u ne a. ⊎_elim
            (λ before. f.others j u ne before)
            (λ e. subst (Knows f.common f.view.seen) e
            (newcomer_knows f.common f.view.seen v (f.others id v (not_holder program events s f id v refl at) at)))
            (at_snoc s.views w u j (rw same at a));
        below = f.below;
        apart = apart f.apart;
      })))
      h

-- 7. Join a seat
module _ {B P E : Type 0} (program : B → P) (events : B → List E) where
  pub join_keeps : (id : ℕ) (v : View P E) (other : ℕ) (v' : View P E) → v.turn ≡ false → v'.turn ≡ false
      → Joins (Rule program events) id v other v' (joined v v') spent
  join_keeps id v other v' rests rests' s h at ne after =
      let w : View P E = joined v v' in
      let vs : List (View P E) = slice_set s.views id w in
      let at' : get_elem? s.views other ≡ some v' = other_at s.views id other w v' ne after in
      let lt = is_inside s.views id v at in
      let lt' = is_inside vs other v' after in
      let apart : AreApart s.views → AreApart (slice_set vs other spent) = λ before. record {
        once = λ p. omega (arith, times_set p other vs v' spent after, times_set p id s.views v w at, joined_times p v v', before.once p);
      } in
      ⊎_elim
      (λ (f : IsFree program events s).
      let q = program f.board in
      let h' = events f.board in
      itself (inl (record {
        board = f.board;
        words = f.words;
        homes = f.homes;
        views = λ j u a. set_cases vs other j spent u (Knows q h') lt' (spent_knows q h')
            (λ b. set_cases s.views id j w u (Knows q h') lt (joined_knows q h' v v' (f.views id v at) (f.views other v' at'))
            (λ c. f.views j u c) b) a;
        apart = apart f.apart;
      })))
      (λ (f : IsHeld program events s).
      let not = not_holder program events s f id v rests at in
      let not' = not_holder program events s f other v' rests' at' in
      let q = f.common in
      let h' = f.view.seen in
      inr (itself (record {
        holder = f.holder;
        view = f.view;
        at = set_else vs other f.holder spent (λ e. not' (sym e)) ∙ (set_else s.views id f.holder w (λ e. not (sym e)) ∙ f.at);
        turn = f.turn;
        common = q;
        has = f.has;
        words = f.words;
        homes = f.homes;
        others = λ j u ne' a. set_cases vs other j spent u (Knows q h') lt' (spent_knows q h')
            (λ b. set_cases s.views id j w u (Knows q h') lt (joined_knows q h' v v' (f.others id v not at) (f.others other v' not' at'))
            (λ c. f.others j u ne' c) b) a;
        below = f.below;
        apart = apart f.apart;
      })))
      h
