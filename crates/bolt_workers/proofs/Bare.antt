-- Entries without their payloads: what a call makes of these is determined by them alone.
use Rattle.std.proofs.Common.{◌≡◌, ℕ, zero, suc, ◌+◌, ◌-◌, List, [], ◌∷◌, ◌++◌, length, map, Bool, true, false, cond, Option, None, Some, refl, sym, ap, ◌∙◌, subst}
use Rattle.std.specs.Prelude.{slice_get, ◌==◌, ◌&&◌, ◌||◌}
use Rattle.std.specs.Option.{option_map}
use Rattle.std.proofs.lemmas.List.{length-map, map-append}
use Rattle.std.proofs.lemmas.Option.{slice_get-map}
use Rattle.query_tree.specs.declared.Entry.{Entry}
use Rattle.query_tree.specs.declared.Rest.{Rest}
use Rattle.query_tree.specs.declared.Status.{Status}
use Rattle.query_tree.specs.declared.Status.TheVariants.{Running, Dropped, Closed}
use Rattle.bolt_workers.specs.Later.{bare}
use Rattle.query_tree.specs.Forest.{after_ask, after_back, after_close, after_feed, after_root, after_take, any, at_rest, back_as, back_at, changed, changed_from, child_of, close_at, fed, fed_at, given, has_live, has_live_child, is_above, is_live_child, is_live_entry, is_lost, is_none, is_open, is_place, is_starved, is_under, less_at, lost_left, paid, parent_of, part, purse, rest_at, root_of, share, stir, take_at, tally, tally_from}

above_same : (f g : ℕ → Bool) → ((k : ℕ) → f k ≡ g k) → (i : ℕ) (o : Option ℕ) → is_above f i o ≡ is_above g i o
above_same f g h i None = refl
above_same f g h i (Some p) = ap (λ (b : Bool). (p == i) || b) (h p)

module _ {T : Type 0} where
  -- the two are equal but for the payload
  abbrev pub Alike : Entry T → Entry T → Type 0
  Alike e d = bare e ≡ bare d

  -- and so are the entries of two lists, place by place
  abbrev pub AllAlike : List (Entry T) → List (Entry T) → Type 0
  AllAlike es ds = map bare es ≡ map bare ds

  -- Lists

  changed_bare : (f g : ℕ → Entry T → Entry T) → ((k : ℕ) (e d : Entry T) → Alike e d → Alike (f k e) (g k d)) →
      (k : ℕ) (es ds : List (Entry T)) → AllAlike es ds → AllAlike (changed_from k f es) (changed_from k g ds)
  changed_bare f g h k [] [] a = refl
  changed_bare f g h k [] (d ∷ ds) a = absurd (cc)
  changed_bare f g h k (e ∷ es) [] a = absurd (cc)
  changed_bare f g h k (e ∷ es) (d ∷ ds) a =
      let x : bare e ≡ bare d = cc in
      let y : map bare es ≡ map bare ds = cc in
      let u : bare (f k e) ≡ bare (g k d) = h k e d x in
      let v : map bare (changed_from (suc k) f es) ≡ map bare (changed_from (suc k) g ds) = changed_bare f g h (suc k) es ds y in
      cc

  pub changed_alike : (f g : ℕ → Entry T → Entry T) → ((k : ℕ) (e d : Entry T) → Alike e d → Alike (f k e) (g k d)) →
      (es ds : List (Entry T)) → AllAlike es ds → AllAlike (changed f es) (changed g ds)
  changed_alike f g h es ds a = changed_bare f g h 0 es ds a

  pub any_alike : (p q : Entry T → Bool) → ((e d : Entry T) → Alike e d → p e ≡ q d) →
      (es ds : List (Entry T)) → AllAlike es ds → any p es ≡ any q ds
  any_alike p q h [] [] a = refl
  any_alike p q h [] (d ∷ ds) a = absurd (cc)
  any_alike p q h (e ∷ es) [] a = absurd (cc)
  any_alike p q h (e ∷ es) (d ∷ ds) a =
      let x : bare e ≡ bare d = cc in
      let y : map bare es ≡ map bare ds = cc in
      let u : p e ≡ q d = h e d x in
      let v : any p es ≡ any q ds = any_alike p q h es ds y in
      cc

  tally_bare : (f g : ℕ → Entry T → ℕ) → ((k : ℕ) (e d : Entry T) → Alike e d → f k e ≡ g k d) →
      (k : ℕ) (es ds : List (Entry T)) → AllAlike es ds → tally_from k f es ≡ tally_from k g ds
  tally_bare f g h k [] [] a = refl
  tally_bare f g h k [] (d ∷ ds) a = absurd (cc)
  tally_bare f g h k (e ∷ es) [] a = absurd (cc)
  tally_bare f g h k (e ∷ es) (d ∷ ds) a =
      let x : bare e ≡ bare d = cc in
      let y : map bare es ≡ map bare ds = cc in
      let u : f k e ≡ g k d = h k e d x in
      let v : tally_from (suc k) f es ≡ tally_from (suc k) g ds = tally_bare f g h (suc k) es ds y in
      cc

  pub length_alike : (es ds : List (Entry T)) → AllAlike es ds → length es ≡ length ds
  length_alike es ds a = sym (length-map es bare) ∙ (ap (λ (l : List (Entry T)). length l) a ∙ length-map ds bare)

  get_alike : (es ds : List (Entry T)) → AllAlike es ds → (k : ℕ) → option_map bare (slice_get es k) ≡ option_map bare (slice_get ds k)
  get_alike es ds a k =
      sym (slice_get-map bare es k) ∙ (ap (λ (l : List (Entry T)). slice_get l k) a ∙ slice_get-map bare ds k)

  pub own_alike : (es ds : List (Entry T)) → AllAlike es ds → (k : ℕ) (e d : Entry T) → slice_get es k ≡ Some e → slice_get ds k ≡ Some d →
      Alike e d
  own_alike es ds a k e d x y =
      let z : Some (bare e) ≡ Some (bare d) = ap (option_map bare) (sym x) ∙ (get_alike es ds a k ∙ ap (option_map bare) y) in cc

  pushed_alike : (es ds : List (Entry T)) (e d : Entry T) → AllAlike es ds → Alike e d → AllAlike (es ++ e ∷ []) (ds ++ d ∷ [])
  pushed_alike es ds e d a x =
      map-append bare es (e ∷ []) ∙ (ap (λ (l : List (Entry T)). l ++ bare e ∷ []) a
      ∙ (ap (λ (y : Entry T). map bare ds ++ y ∷ []) x ∙ sym (map-append bare ds (d ∷ []))))

  -- Entries

  status_alike : (e d : Entry T) → Alike e d → e.status ≡ d.status
  status_alike e d x = ap (λ (y : Entry T). y.status) x

  stir_alike : (b : Bool) (e d : Entry T) → Alike e d → Alike (cond b (stir e) e) (cond b (stir d) d)
  stir_alike true e d x = ap (λ (y : Entry T). bare (stir y)) x
  stir_alike false e d x = x

  given_alike : (a b : Bool) (st : Status) (left steps : ℕ) (p q : T) (e d : Entry T) → Alike e d →
      Alike (cond a (given st left steps p e) (cond b (stir e) e)) (cond a (given st left steps q d) (cond b (stir d) d))
  given_alike true b st left steps p q e d x = ap (λ (y : Entry T). bare (given st left steps p y)) x
  given_alike false b st left steps p q e d x = stir_alike b e d x

  rest_alike : (own its : Entry T) → Alike own its → (i : ℕ) (st st' : Status) (left left' steps : ℕ) (p q : T) → st ≡ st' → left ≡ left' →
      (k : ℕ) (e d : Entry T) → Alike e d → Alike (rest_at own i st left steps p k e) (rest_at its i st' left' steps q k d)
  rest_alike own its o i st st' left left' steps p q s l k e d x =
      rw (← s, ← l, ap (λ (y : Entry T). y.parent) o) (given_alike (k == i) (is_place its.parent k && is_starved st) st left steps p q e d
      x)

  take_alike : (a w : Bool) (e d : Entry T) → Alike e d →
      Alike (cond a (record e { status = Running; lent = e.left; waiting = w; stirred = false; payload = None }) e)
      (cond a (record d { status = Running; lent = d.left; waiting = w; stirred = false; payload = None }) d)
  take_alike true w e d x = ap (λ (y : Entry T). record y { status = Running; lent = y.left; waiting = w; stirred = false; payload = None })
      x
  take_alike false w e d x = x

  fed_alike : (a : Bool) (n : ℕ) (e d : Entry T) → Alike e d →
      Alike (cond a (record e { left = e.left + n; status = fed (e.left + n) e.status }) e)
      (cond a (record d { left = d.left + n; status = fed (d.left + n) d.status }) d)
  fed_alike true n e d x = ap (λ (y : Entry T). bare (record y { left = y.left + n; status = fed (y.left + n) y.status })) x
  fed_alike false n e d x = x

  paid_alike : (b : Bool) (n : ℕ) (e d : Entry T) → Alike e d → Alike (cond b (paid n e) e) (cond b (paid n d) d)
  paid_alike true n e d x = ap (λ (y : Entry T). bare (paid n y)) x
  paid_alike false n e d x = x

  lost_alike : (b c : Bool) (stamp n : ℕ) (e d : Entry T) → Alike e d →
      Alike (cond b (record e { status = Dropped stamp; left = 0 }) (cond c (paid n e) e))
      (cond b (record d { status = Dropped stamp; left = 0 }) (cond c (paid n d) d))
  lost_alike true c stamp n e d x = ap (λ (y : Entry T). bare (record y { status = Dropped stamp; left = 0 })) x
  lost_alike false c stamp n e d x = paid_alike c n e d x

  closed_alike : (a b c : Bool) (left steps stamp n : ℕ) (p q : T) (e d : Entry T) → Alike e d →
      Alike (cond a (given Closed left steps p e) (cond b (record e { status = Dropped stamp; left = 0 }) (cond c (paid n e) e)))
      (cond a (given Closed left steps q d) (cond b (record d { status = Dropped stamp; left = 0 }) (cond c (paid n d) d)))
  closed_alike true b c left steps stamp n p q e d x = ap (λ (y : Entry T). bare (given Closed left steps p y)) x
  closed_alike false b c left steps stamp n p q e d x = lost_alike b c stamp n e d x

  -- Who is under whom

  parent_bare : (o : Option (Entry T)) → parent_of (option_map bare o) ≡ parent_of o
  parent_bare None = refl
  parent_bare (Some e) = refl

  parent_alike : (es ds : List (Entry T)) → AllAlike es ds → (k : ℕ) → parent_of (slice_get es k) ≡ parent_of (slice_get ds k)
  parent_alike es ds a k =
      sym (parent_bare (slice_get es k)) ∙ (ap parent_of (get_alike es ds a k) ∙ parent_bare (slice_get ds k))

  under_alike : (es ds : List (Entry T)) → AllAlike es ds → (n i k : ℕ) → is_under es n i k ≡ is_under ds n i k
  under_alike es ds a zero i k = refl
  under_alike es ds a (suc n) i k =
      above_same (is_under es n i) (is_under ds n i) (under_alike es ds a n i) i (parent_of (slice_get es k))
      ∙ ap (is_above (is_under ds n i) i) (parent_alike es ds a k)

  is_lost_alike : (es ds : List (Entry T)) → AllAlike es ds → (i k : ℕ) (e d : Entry T) → Alike e d → is_lost es i k e ≡ is_lost ds i k d
  is_lost_alike es ds a i k e d x =
      ap (λ (s : Status). is_open s && is_under es k i k) (status_alike e d x)
      ∙ ap (λ (b : Bool). is_open d.status && b) (under_alike es ds a k i k)

  left_alike : (es ds : List (Entry T)) → AllAlike es ds → (i k : ℕ) (e d : Entry T) → Alike e d → lost_left es i k e ≡ lost_left ds i k d
  left_alike es ds a i k e d x =
      ap (λ (b : Bool). cond b e.left 0) (is_lost_alike es ds a i k e d x)
      ∙ ap (λ (y : Entry T). cond (is_lost ds i k d) y.left 0) x

  purse_alike : (es ds : List (Entry T)) → AllAlike es ds → (own its : Entry T) → Alike own its → (i steps : ℕ) →
      purse es own i steps ≡ purse ds its i steps
  purse_alike es ds a own its o i steps =
      ap (λ (y : Entry T). (y.left - steps) + tally (lost_left es i) es) o
      ∙ ap (λ (n : ℕ). (its.left - steps) + n) (tally_bare (lost_left es i) (lost_left ds i) (left_alike es ds a i) 0 es ds a)

  -- The calls

  pub takes_alike : (es ds : List (Entry T)) → AllAlike es ds → (i : ℕ) → AllAlike (after_take es i) (after_take ds i)
  takes_alike es ds a i =
      let w = any_alike (is_live_child i) (is_live_child i) (λ e d x. ap (λ (y : Entry T). is_live_child i y) x) es ds a in
      changed_alike (take_at i (has_live_child es i)) (take_at i (has_live_child ds i))
      (λ k e d x. rw (← w) (take_alike (k == i) (has_live_child es i) e d x)) es ds a

  pub backs_alike : (es ds : List (Entry T)) → AllAlike es ds → (own its : Entry T) → Alike own its → (i n : ℕ) (r : Rest) (p q : T) →
      AllAlike (after_back es own i n r p) (after_back ds its i n r q)
  backs_alike es ds a own its o i n r p q =
      changed_alike (back_at own i n r p) (back_at its i n r q)
      (λ k e d x. rest_alike own its o i (back_as r own.stirred (own.left - n)) (back_as r its.stirred (its.left - n)) (own.left - n)
      (its.left - n) n p q (ap (λ (y : Entry T). back_as r y.stirred (y.left - n)) o) (ap (λ (y : Entry T). y.left - n) o) k e d x) es ds a

  less_alike : (es ds : List (Entry T)) → AllAlike es ds → (own its : Entry T) → Alike own its → (i n m : ℕ) (p q : T) →
      AllAlike (changed (less_at own i n p m) es) (changed (less_at its i n q m) ds)
  less_alike es ds a own its o i n m p q =
      changed_alike (less_at own i n p m) (less_at its i n q m)
      (λ k e d x. rest_alike own its o i (at_rest ((own.left - n) - m)) (at_rest ((its.left - n) - m)) ((own.left - n) - m)
      ((its.left - n) - m) n p q (ap (λ (y : Entry T). at_rest ((y.left - n) - m)) o) (ap (λ (y : Entry T). (y.left - n) - m) o) k e d x) es
      ds a

  pub asks_alike : (es ds : List (Entry T)) → AllAlike es ds → (own its : Entry T) → Alike own its → (i n : ℕ) (p q c f : T) →
      AllAlike (after_ask es own i n p c) (after_ask ds its i n q f)
  asks_alike es ds a own its o i n p q c f =
      let m : part (own.left - n) ≡ part (its.left - n) = ap (λ (y : Entry T). part (y.left - n)) o in
      let b : AllAlike (changed (less_at own i n p (part (own.left - n))) es) (changed (less_at its i n q (part (its.left - n))) ds) =
      subst (λ (j : ℕ). AllAlike (changed (less_at own i n p (part (own.left - n))) es) (changed (less_at its i n q j) ds)) m
      (less_alike es ds a own its o i n (part (own.left - n)) p q) in
      pushed_alike (changed (less_at own i n p (part (own.left - n))) es) (changed (less_at its i n q (part (its.left - n))) ds)
      (child_of own i n c) (child_of its i n f) b (ap (λ (y : Entry T). bare (child_of y i n c)) o)

  pub feeds_alike : (es ds : List (Entry T)) → AllAlike es ds → (own its : Entry T) → Alike own its → (child other : Entry T) →
      Alike child other → (i n c : ℕ) (p q : T) → AllAlike (after_feed es own i n p c child) (after_feed ds its i n q c other)
  feeds_alike es ds a own its o child other x i n c p q =
      let m : share child (own.left - n) ≡ share other (its.left - n) =
      ap (λ (y : Entry T). share y (own.left - n)) x ∙ ap (λ (y : Entry T). share other (y.left - n)) o in
      let z : ℕ = share child (own.left - n) in
      subst (λ (j : ℕ). AllAlike (changed (fed_at c z) (changed (less_at own i n p z) es))
      (changed (fed_at c j) (changed (less_at its i n q j) ds)))
      m
      (changed_alike (fed_at c z) (fed_at c z) (λ k e d y. fed_alike (k == c) z e d y) (changed (less_at own i n p z) es)
      (changed (less_at its i n q z) ds) (less_alike es ds a own its o i n z p q))

  pub closes_alike : (es ds : List (Entry T)) → AllAlike es ds → (own its : Entry T) → Alike own its → (i n : ℕ) (p q : T) (stamp : ℕ) →
      AllAlike (after_close es own i n p stamp) (after_close ds its i n q stamp)
  closes_alike es ds a own its o i n p q stamp =
      let u = purse_alike es ds a own its o i n in
      let v = ap (λ (y : Entry T). y.parent) o in
      changed_alike (close_at es own i n p stamp) (close_at ds its i n q stamp)
      (λ k e d x.
      let w = is_lost_alike es ds a i k e d x in
      rw (← u, ← v, ← w)
      (closed_alike (k == i) (is_lost es i k e) (is_place own.parent k) (cond (is_none own.parent) (purse es own i n) 0) n stamp
      (purse es own i n) p q e d x)) es ds a

  pub roots_alike : (es ds : List (Entry T)) → AllAlike es ds → (grant : ℕ) (p q : T) → AllAlike (after_root es grant p)
      (after_root ds grant q)
  roots_alike es ds a grant p q =
      pushed_alike es ds (root_of (length es) grant p) (root_of (length ds) grant q) a
      (ap (λ (n : ℕ). bare (root_of n grant p)) (length_alike es ds a))

  pub lives_alike : (es ds : List (Entry T)) → AllAlike es ds → has_live es ≡ has_live ds
  lives_alike es ds a = any_alike is_live_entry is_live_entry (λ e d x. ap (λ (y : Entry T). is_live_entry y) x) es ds a
