-- An ask of the board is one event.
use Rattle.std.proofs.Common.{◌≡◌, ℕ, zero, suc, ◌+◌, ◌-◌, ◌*◌, ◌<◌, ◌≤◌, ◌^◌, List, [], ◌∷◌, ◌++◌, length, map, Bool, false, Option, Some, None, refl, sym, ap, ◌∙◌, subst, arith}
use Rattle.std.specs.Prelude.{slice_get, take, cond, ◌==◌}
use Rattle.std.proofs.lemmas.List.{append-nil, length-append, length-map, length_push, map-append}
use Rattle.std.proofs.lemmas.Bool.{cond_both}
use Rattle.std.proofs.Math.Nat.{mul-le-mul_right}
use Rattle.query_tree.specs.declared.Entry.{Entry}
use Rattle.query_tree.specs.Forest.{after_ask, changed, child_of, less_at, part}
use Rattle.query_tree.specs.Woods.{Went}
use Rattle.query_tree.proofs.Lists.{length_changed, within}
use Rattle.query_tree.proofs.Marks.{get_pushed}
use Rattle.query_tree.proofs.Tests.{cond_eq, one_at}
use Rattle.query_rules.specs.Seen.{Seen}
use Rattle.query_rules.specs.declared.step.Asked.{Asked}
use Rattle.summary_form.specs.declared.query.Query.{Query}
use Rattle.summary_form.specs.declared.summary.Summary.{Summary}
use Rattle.bolt_core.specs.declared.event.Event.{Event as Stored}
use Rattle.bolt_core.specs.declared.event.Event.TheVariants as stored
use Rattle.bolt_core.specs.declared.job.Job.{Job as Given}
use Rattle.bolt_core.specs.declared.slot.Slot.{Slot}
use Rattle.bolt_core.specs.Boards.{IsBoard, IsRoomy, IsSoundFor, MayAsk, Shown, asked_as, core_of, history_of, job_of, most_queries, node_of, told_by}
use Rattle.bolt_core.specs.Groups.{Node}
use Rattle.bolt_core.specs.Histories.{Told, asked, asks_by, asks_of, closed, fed, has_said, parked, said, stopped, took}
use Rattle.bolt_core.specs.Keeps.{AreLevelled, IsNow, Placed}
use Rattle.bolt_core.specs.Machine.{IsFresh, Matches, asks_more, told_child}
use Rattle.bolt_core.specs.States.{reads}
use Rattle.bolt_core.proofs.BoardKeeps.{board_keeps}
use Rattle.bolt_core.proofs.Going.{GoesOn, goes_on, history_push, told_same}
use Rattle.bolt_core.proofs.Links.{quiet_is}
use Rattle.bolt_core.proofs.Nodes.{unsaid_next}
use Rattle.bolt_core.proofs.Walk.{get_map}

-- no level is higher than the place
level_below : (ns : List Node) → AreLevelled ns → (n i : ℕ) (x : Node) → i ≤ n → slice_get ns i ≡ Some x → x.level ≤ i
level_below ns t n i x le a = by_parent n i x.parent x.level le (t.placed i x a)
  where
    by_parent : (n i : ℕ) (o : Option ℕ) (level : ℕ) → i ≤ n → Placed ns i o level → level ≤ i
    by_parent n i None level le h = omega (arith, h)
    by_parent zero i (Some p) level le h = absurd (omega (arith, h.0, le))
    by_parent (suc n) i (Some p) level le h =
        omega (arith, h.3, by_parent n p h.1.parent h.1.level (omega (arith, h.0, le)) (t.placed p h.1 h.2), h.0)

-- the slot of a sound job, and its level
pub slot_at : (b : Shown) (ss : List Slot) → IsBoard b → b.core.nodes ≡ map node_of ss → (g : Given) → (s : IsSoundFor b g) → (d : Slot) →
    slice_get ss g.id ≡ Some d → (s.node ≡ node_of d) × (d.level ≤ g.id)
slot_at b ss h is g s d at =
    let a : slice_get b.core.nodes g.id ≡ Some (node_of d) = ap (λ (ns : List Node). slice_get ns g.id) is ∙ get_map node_of ss g.id d at
    in (
      one_at b.core.nodes g.id g.id (node_of d) s.node a s.node_at refl,
      level_below b.core.nodes (board_keeps b h).levelled g.id g.id (node_of d) (omega arith) a,
    )

abbrev pub child_slot : ℕ → ℕ → Slot → Slot
child_slot id level z = record z { parent = Some id; level = level; closed = None; summary = None; said = false; published = None }

pub ask_on : (p : Shown) (es fs : List (Entry Seen)) (ss : List Slot) (ts : List Summary) (xs : List Stored) (st : Bool) (w : ℕ) (g : Given)
    (child : Seen) (z : Slot) (n level : ℕ) (fr tr sr er : ℕ) → let b : Shown = record p { core = core_of p.core.kept es ss ts xs st } in
    IsBoard b →
    IsRoomy b ss xs fr tr sr er → (m : MayAsk b g child z.query.value) → IsNow b.core g.id g.taken → n ≡ length es → n ≡ length ss →
    level ≡ suc m.sound.node.level →
    Went (λ own. after_ask es own g.id g.spent (told_child (reads p.graphs) g.state n) child) es fs g.id →
    GoesOn b (asked w g.id g.spent n z.query.value)
    (core_of p.core.kept fs (ss ++ child_slot g.id level z ∷ []) ts (xs ++ stored.Ask w g.id g.spent n ∷ []) st)
ask_on p es fs ss ts xs st w g child z n level fr tr sr er h r m v number place up t =
    let b : Shown = record p { core = core_of p.core.kept es ss ts xs st } in
    let R = reads p.graphs in
    let q : Query = z.query.value in
    let e : Told = asked w g.id g.spent n q in
    let x : Stored = stored.Ask w g.id g.spent n in
    let own : Slot = child_slot g.id level z in
    let slots : List Slot = ss ++ own ∷ [] in
    let qs : List Query = map (λ s. s.query.value) ss in
    let here : slice_get (map (λ s. s.query.value) slots) n ≡ Some q =
    ap (λ (l : List Query). slice_get l n) (map-append (λ s. s.query.value) ss (own ∷ []))
    ∙ (ap (slice_get (qs ++ q ∷ [])) (place ∙ sym (length-map ss (λ s. s.query.value))) ∙ get_pushed qs q) in
    let told : history_of slots ts (xs ++ x ∷ []) ≡ history_of ss ts xs ++ e ∷ [] =
    history_push slots ts xs x ∙ (ap (λ l. l ++ told_by (map (λ s. s.query.value) slots) ts x ∷ [])
    (told_same ss (own ∷ []) ts xs r.settled)
    ∙ ap (λ (o : Option Query). history_of ss ts xs ++ asked_as w g.id g.spent n o ∷ []) here) in
    let node : Node = record { parent = Some g.id; level = suc m.sound.node.level; query = q; closed = None; published = false } in
    let nodes : map node_of slots ≡ map node_of ss ++ node ∷ [] =
    map-append node_of ss (own ∷ [])
    ∙ ap (λ l. map node_of ss ++ record { parent = Some g.id; level = l; query = q; closed = None; published = false } ∷ []) up in
    let after : List (Entry Seen) = after_ask es t.own g.id g.spent (told_child R g.state n) child in
    goes_on b e (core_of p.core.kept fs slots ts (xs ++ x ∷ []) st) h
    (record {
      job = job_of g;
      own = t.own;
      child = child;
      sound = m.sound;
      since = record { at = t.at; running = t.running; last = v.last };
      id = refl;
      spent = refl;
      made = m.made;
      last = m.last;
      number = number;
      fresh = subst (λ (l : List Summary). IsFresh R l g.state child q) (sym (board_keeps b h).named) m.fresh;
      new_is = ap (λ gs. core_of p.core.kept gs slots ts (xs ++ x ∷ []) st) t.becomes
          ∙ (ap (λ l. record (core_of p.core.kept after slots ts xs st) { history = l }) told
          ∙ (ap (λ (ns : List Node). record (core_of p.core.kept after ss ts xs st) { nodes = ns; history = history_of ss ts xs ++ e ∷ [] })
          nodes
          ∙ ap (λ (l : List Summary). record (core_of p.core.kept after ss ts xs st) {
            nodes = map node_of ss ++ node ∷ [];
            table = l;
            history = history_of ss ts xs ++ e ∷ [];
          }) (sym (append-nil ts))));
    })
    (omega (arith, within es g.id v.own v.at))

-- of the next query nothing was said
pub next_unsaid : (b : Shown) → IsBoard b → (n : ℕ) → length b.core.entries ≡ n → has_said b.core.history n ≡ false
next_unsaid b h n same = unsaid_next b.core.entries b.core.history (board_keeps b h).said n (omega (arith, same))

-- there is room for the child
pub ask_room : (p : Shown) (es : List (Entry Seen)) (ss : List Slot) (ts : List Summary) (xs : List Stored) (st : Bool) (w : ℕ) (g : Given)
    (child : Seen) (z : Slot) (fr tr sr er : ℕ) → let b : Shown = record p { core = core_of p.core.kept es ss ts xs st } in IsBoard b →
    IsRoomy b ss xs fr tr sr er → MayAsk b g child z.query.value → IsNow b.core g.id g.taken →
    (length es + 1 ≤ most_queries b) × (length b.core.history < 16 * most_queries b)
ask_room p es ss ts xs st w g child z fr tr sr er h r m v =
    let b : Shown = record p { core = core_of p.core.kept es ss ts xs st } in
    let n : ℕ = length es in
    let s : Seen = told_child (reads p.graphs) g.state n in
    let fs : List (Entry Seen) = after_ask es v.own g.id g.spent s child in
    let place : n ≡ length ss = (board_keeps b h).paired.count ∙ length-map ss node_of in
    let o = ask_on p es fs ss ts xs st w g child z n (suc m.sound.node.level) fr tr sr er h r m v refl place refl
    (record { own = v.own; at = v.at; running = v.running; becomes = refl }) in
    let k : ℕ = part (v.own.left - g.spent) in (
      omega (
        arith,
        o.few,
        length_push (changed (less_at v.own g.id g.spent s k) es) (child_of v.own g.id g.spent child),
        length_changed (less_at v.own g.id g.spent s k) 0 es,
      ),
      o.fits,
    )

abbrev one_if : ℕ → ℕ
one_if n = cond (n == 0) 0 1

-- the asked entry stands there
pub asked_some : (b : Shown) (g : Given) (child : Seen) (q : Query) → MayAsk b g child q → 1 ≤ length g.state.asked
asked_some b g child q m = some g.state.asked (asks_of (take g.taken b.core.history) g.id) (g.spent) m.made
    (subst (λ l. Matches g.state.asked (asks_of (take g.taken b.core.history) g.id) (asks_more g.spent l)) m.last m.sound.entries)
  where
    none : (n : ℕ) → 1 ≤ n → one_if n ≡ 0 → ⊥
    none n le = cond_eq (λ (k : ℕ). k ≡ 0 → ⊥) n 0 0 1 (λ d _. absurd (omega (arith, d, le))) (λ _ e. absurd (omega (arith, e)))

    some : (as' : List Asked) (cs : List (ℕ × Query)) (n : ℕ) → 1 ≤ n → Matches as' cs (one_if n) → 1 ≤ length as'
    some [] [] n le h = absurd (none n le h)
    some [] (c ∷ cs) n le h = absurd h
    some (a ∷ as') cs n le h = omega arith

-- How many entries there are

one_ask : (i : ℕ) (e : Told) → length (asks_by i e) ≤ 1
one_ask i (took w j left steps waiting) = omega arith
one_ask i (said w j s) = omega arith
one_ask i (asked w j n c q) = cond_both (j == i) ((c, q) ∷ []) [] (λ (l : List (ℕ × Query)). length l ≤ 1) (λ _. omega arith)
    (λ _. omega arith)
one_ask i (fed w j n c) = omega arith
one_ask i (parked w j n r) = omega arith
one_ask i (closed w j n shut ss) = omega arith
one_ask i (stopped w) = omega arith

few_asks : (h : List Told) (i : ℕ) → length (asks_of h i) ≤ length h
few_asks [] i = omega arith
few_asks (e ∷ h) i = omega (arith, few_asks h i, one_ask i e, length-append (asks_by i e) (asks_of h i))

matched_few : (as' : List Asked) (cs : List (ℕ × Query)) (n : ℕ) → Matches as' cs n → length as' ≤ length cs + 1
matched_few [] cs n h = omega arith
matched_few (a ∷ as') [] n h = omega (arith, ap (λ (l : List Asked). length l) h.1)
matched_few (a ∷ as') (c ∷ cs) n h = omega (arith, matched_few as' cs n h.2)

pub asked_few : (b : Shown) → IsBoard b → (g : Given) → (s : IsSoundFor b g) → IsNow b.core g.id g.taken →
    length b.core.history < 16 * most_queries b → length g.state.asked < 2 ^ 32
asked_few b h g s v fits =
    let R = reads b.graphs in
    let quiet = quiet_is R b.core (job_of g) v.own (board_keeps b h).linked s (record { at = v.at; running = v.running; last = v.last }) in
    let m : b.asserts * b.budget ≤ 64 * b.budget = mul-le-mul_right b.budget h.few in
    omega (
      arith,
      m,
      h.few,
      h.most,
      fits,
      few_asks b.core.history g.id,
      ap (λ (l : List (ℕ × Query)). length l) quiet,
      matched_few g.state.asked (asks_of (take g.taken b.core.history) g.id) (asks_more g.spent (R.last g.state)) s.entries,
    )
