-- The state of a path keeps: a term for each slot of each frame, and terms that name its symbols alone.
use Rattle.std.proofs.Common.{◌≡◌, ℕ, zero, suc, ◌+◌, ◌-◌, ◌≤◌, List, [], ◌∷◌, ◌++◌, length, map, drop, replicate, Some, Bool, true, ◌==◌, nat_lt, nat_le, ℤ, pos, arith, refl, sym, subst, ◌∙◌, length-append}
use Rattle.std.specs.Prelude.{slice_get, slice_set, IsTrue}
use Rattle.std.specs.List.{list_all}
use Rattle.std.proofs.Math.ListN.{length-set}
use Rattle.std.proofs.lemmas.List.{length-map, length-replicate}
use borrow.Author.Tests.{eqb-true, ltb-true, lt-ltb}
use Rattle.linear_formula.specs.LinearSum.{LinearSum}
use Rattle.linear_formula.specs.Results.{constant_sum}
use Rattle.linear_formula.proofs.Limits.{both, both_in}
use Rattle.flow_graph.specs.Calls.{CallSite, call_edge}
use Rattle.flow_graph.specs.declared.graph.Graph.{Graph}
use Rattle.flow_graph.specs.declared.graph.Edge.{Edge}
use Rattle.flow_graph.specs.declared.graph.Edge.TheVariants.{Entry, Assign, Guard, Input, Pick, Call, Assert, Return}
use Rattle.flow_graph.specs.Columns.{first_symbol, names_only, rows_name_only}
use Rattle.flow_graph.specs.Linked.{AreGraphs, takes}
use Rattle.flow_graph.specs.Readings.{term_at}
use Rattle.flow_graph.proofs.Slots.{list_more, edges_name_slots}
use Rattle.summary_form.specs.Symbols.{is_symbol_column, all_name_only}
use Rattle.must_region.specs.Traces.{Trace, TraceNamesOwn}
use Rattle.must_region.specs.Rules.{value_sum, new_symbol, extended, set_terms}
use Rattle.must_region.proofs.Owning.{extended_names}
use Rattle.shadow_elim.specs.Sums.{total}
use Rattle.shadow_elim.specs.declared.sum.Sum.{Sum}
use Rattle.path_sweep.specs.Guards.{Waiting, Stage, enters, runs, gave, fails, Walked, begun, trace_at, opened, gives_back, stage_after, FollowsEdge, FollowsAt, Follows}

-- Terms that name symbols alone

abbrev pub Named : ℕ → List LinearSum → Type 0
Named n ts = IsTrue (all_name_only (is_symbol_column n) ts)

symbol_more : (n m x : ℕ) → n ≤ m → IsTrue (is_symbol_column n x) → IsTrue (is_symbol_column m x)
symbol_more n m x le h =
    let hs = both (nat_le first_symbol x) (nat_lt x (first_symbol + n)) h in
    both_in (nat_le first_symbol x) (nat_lt x (first_symbol + m)) hs.0
    (lt-ltb x (first_symbol + m) (omega (arith, le, ltb-true x (first_symbol + n) hs.1)))

named_more : (n m : ℕ) (ts : List LinearSum) → n ≤ m → Named n ts → Named m ts
named_more n m ts le h = list_more (names_only (is_symbol_column n)) (names_only (is_symbol_column m)) ts
    (λ t k. list_more (λ (p : ℕ × ℤ). is_symbol_column n p.0) (λ (p : ℕ × ℤ). is_symbol_column m p.0) t.parts
    (λ p l. symbol_more n m p.0 le l) k) h

module _ (allowed : ℕ → Bool) where
  term_names : (ts : List LinearSum) (i : ℕ) → IsTrue (all_name_only allowed ts) → IsTrue (names_only allowed (term_at ts i))
  term_names [] i h = refl
  term_names (t ∷ ts) zero h = (both (names_only allowed t) (all_name_only allowed ts) h).0
  term_names (t ∷ ts) (suc i) h = term_names ts i (both (names_only allowed t) (all_name_only allowed ts) h).1

  set_names : (ts : List LinearSum) (i : ℕ) (t : LinearSum) → IsTrue (all_name_only allowed ts) → IsTrue (names_only allowed t) →
      IsTrue (all_name_only allowed (slice_set ts i t))
  set_names [] i t h k = h
  set_names (u ∷ ts) zero t h k = both_in (names_only allowed t) (all_name_only allowed ts) k
      (both (names_only allowed u) (all_name_only allowed ts) h).1
  set_names (u ∷ ts) (suc i) t h k =
      let hs = both (names_only allowed u) (all_name_only allowed ts) h in
      both_in (names_only allowed u) (all_name_only allowed (slice_set ts i t)) hs.0 (set_names ts i t hs.1 k)

  map_names : (ts : List LinearSum) (xs : List ℕ) → IsTrue (all_name_only allowed ts) → IsTrue (all_name_only allowed (map (term_at ts) xs))
  map_names ts [] h = refl
  map_names ts (x ∷ xs) h =
      both_in (names_only allowed (term_at ts x)) (all_name_only allowed (map (term_at ts) xs)) (term_names ts x h) (map_names ts xs h)

  others_named : (ts : List LinearSum) → IsTrue (all_name_only allowed ts) → IsTrue (all_name_only allowed (drop 1 ts))
  others_named [] h = h
  others_named (t ∷ ts) h = (both (names_only allowed t) (all_name_only allowed ts) h).1

  set_terms_names : (all : List LinearSum) (xs : List ℕ) (ts : List LinearSum) → IsTrue (all_name_only allowed all) →
      IsTrue (all_name_only allowed ts) → IsTrue (all_name_only allowed (set_terms all xs ts))
  set_terms_names all [] ts h k = h
  set_terms_names all (x ∷ xs) ts h k =
      set_names (set_terms all xs (drop 1 ts)) x (term_at ts 0) (set_terms_names all xs (drop 1 ts) h (others_named ts k))
      (term_names ts 0 k)

  zero_names : (k : ℕ) → IsTrue (all_name_only allowed (replicate k (constant_sum (pos 0))))
  zero_names zero = refl
  zero_names (suc k) = both_in true (all_name_only allowed (replicate k (constant_sum (pos 0)))) refl (zero_names k)

  append_names : (ts us : List LinearSum) → IsTrue (all_name_only allowed ts) → IsTrue (all_name_only allowed us) →
      IsTrue (all_name_only allowed (ts ++ us))
  append_names [] us h k = k
  append_names (t ∷ ts) us h k =
      let hs = both (names_only allowed t) (all_name_only allowed ts) h in
      both_in (names_only allowed t) (all_name_only allowed (ts ++ us)) hs.0 (append_names ts us hs.1 k)

pub length_set_terms : (all : List LinearSum) (xs : List ℕ) (ts : List LinearSum) → length (set_terms all xs ts) ≡ length all
length_set_terms all [] ts = refl
length_set_terms all (x ∷ xs) ts = length-set (set_terms all xs (drop 1 ts)) x (term_at ts 0) ∙ length_set_terms all xs (drop 1 ts)

-- What is kept

module _ (gs : List Graph) where
  abbrev pub IsOne : Graph → Type 0
  IsOne g = (p : ℕ) × (slice_get gs p ≡ Some g)

  pub record WaitingFits (n : ℕ) (w : Waiting) : Type 0 where
    pub one : IsOne w.graph
    pub many : length w.slots ≡ w.graph.slots
    pub results_in : IsTrue (list_all (λ x. nat_lt x w.graph.slots) w.results)
    pub slot_names : Named n w.slots
    pub entry_names : Named n w.entry

  abbrev pub AllFit : ℕ → List Waiting → Type 0
  AllFit n [] = Unit {0}
  AllFit n (w ∷ ws) = WaitingFits n w × AllFit n ws

  pub record FrameFits (n : ℕ) (g : Graph) (slots entry : List LinearSum) : Type 0 where
    pub one : IsOne g
    pub many : length slots ≡ g.slots
    pub slot_names : Named n slots
    pub entry_names : Named n entry

  abbrev pub StageFits : ℕ → Stage → Type 0
  StageFits n (enters g args ws) = IsOne g × (length args ≡ g.params) × Named n args × AllFit n ws
  StageFits n (runs g node slots entry ws) = FrameFits n g slots entry × AllFit n ws
  StageFits n (gave ts) = Unit {0}
  StageFits n (fails id) = Unit {0}

  pub record Fits (w : Walked) : Type 0 where
    pub guard_names : IsTrue (rows_name_only (is_symbol_column w.symbols) w.guard)
    pub input_names : Named w.symbols w.inputs
    pub stage : StageFits w.symbols w.at

  waiting_more : (n m : ℕ) (ws : List Waiting) → n ≤ m → AllFit n ws → AllFit m ws
  waiting_more n m [] le h = tt
  waiting_more n m (w ∷ ws) le h = (
    record {
      one = h.0.one;
      many = h.0.many;
      results_in = h.0.results_in;
      slot_names = named_more n m w.slots le h.0.slot_names;
      entry_names = named_more n m w.entry le h.0.entry_names;
    },
    waiting_more n m ws le h.1,
  )

  pub names_at : (w : Walked) (node : ℕ) (g : Graph) (slots entry : List LinearSum) → Fits w → FrameFits w.symbols g slots entry →
      TraceNamesOwn (trace_at w node slots entry)
  names_at w node g slots entry f k = record {
    guard_names = f.guard_names;
    entry_names = k.entry_names;
    input_names = f.input_names;
    slot_names = k.slot_names;
  }

  back_fits : (n : ℕ) (ts : List LinearSum) (ws : List Waiting) → Named n ts → AllFit n ws → StageFits n (gives_back ts ws)
  back_fits n ts [] h k = tt
  back_fits n ts (w ∷ ws) h k = (
    record {
      one = k.0.one;
      many = length_set_terms w.slots w.results ts ∙ k.0.many;
      slot_names = set_terms_names (is_symbol_column n) w.slots w.results ts k.0.slot_names h;
      entry_names = k.0.entry_names;
    },
    k.1,
  )

  module _ (linked : AreGraphs gs) (w : Walked) (f : Fits w) (g : Graph) (node : ℕ) (slots entry : List LinearSum) (ws : List Waiting)
      (frame : FrameFits w.symbols g slots entry) (waits : AllFit w.symbols ws) (i : ℕ) where
    t : Trace
    t = trace_at w node slots entry

    less : (e : Edge) → w.symbols ≤ (extended (trace_at w node slots entry) e).symbols
    less (Entry to params) = omega arith
    less (Assign from to slot value) = omega arith
    less (Guard from to rows) = omega arith
    less (Input from to slot) = omega arith
    less (Pick from to slot rows) = omega arith
    less (Call from to proc args results) = omega arith
    less (Assert from to id rows) = omega arith
    less (Return from to returned) = omega arith

    behind : (e : Edge) → slice_get g.edges i ≡ Some e → (stage : Stage) →
        StageFits (extended (trace_at w node slots entry) e).symbols stage →
        Fits (record {
          symbols = (extended (trace_at w node slots entry) e).symbols;
          guard = (extended (trace_at w node slots entry) e).guard.atoms;
          inputs = (extended (trace_at w node slots entry) e).inputs;
          at = stage;
        })
    behind e at stage s =
        let n = extended_names (trace_at w node slots entry) (names_at w node g slots entry f frame) e (edges_name_slots g i e at) in
        record { guard_names = n.guard_names; input_names = n.input_names; stage = s }

    frame_behind : (e : Edge) → slice_get g.edges i ≡ Some e →
        length (extended (trace_at w node slots entry) e).slots ≡ length slots →
        FrameFits (extended (trace_at w node slots entry) e).symbols g (extended (trace_at w node slots entry) e).slots
        (extended (trace_at w node slots entry) e).entry
    frame_behind e at l =
        let n = extended_names (trace_at w node slots entry) (names_at w node g slots entry f frame) e (edges_name_slots g i e at) in
        record { one = frame.one; many = l ∙ frame.many; slot_names = n.slot_names; entry_names = n.entry_names }

    stage_fits : (e : Edge) → slice_get g.edges i ≡ Some e →
        StageFits (extended (trace_at w node slots entry) e).symbols (stage_after g ws e (extended (trace_at w node slots entry) e))
    stage_fits (Entry to params) at = (frame_behind (Entry to params) at refl, waits)
    stage_fits (Assign from to slot value) at =
        (frame_behind (Assign from to slot value) at (length-set slots slot (total (value_sum slots value))), waits)
    stage_fits (Guard from to rows) at = (frame_behind (Guard from to rows) at refl, waits)
    stage_fits (Input from to slot) at = (
      frame_behind (Input from to slot) at (length-set slots slot (new_symbol w.symbols)),
      waiting_more w.symbols (w.symbols + 1) ws (omega arith) waits,
    )
    stage_fits (Pick from to slot rows) at = (
      frame_behind (Pick from to slot rows) at (length-set slots slot (new_symbol w.symbols)),
      waiting_more w.symbols (w.symbols + 1) ws (omega arith) waits,
    )
    stage_fits (Call from to proc args results) at = (frame_behind (Call from to proc args results) at refl, waits)
    stage_fits (Assert from to id rows) at = tt
    stage_fits (Return from to returned) at =
        back_fits w.symbols (map (term_at slots) returned) ws (map_names (is_symbol_column w.symbols) slots returned frame.slot_names) waits

    called : (from to : ℕ) (site : CallSite) → slice_get g.edges i ≡ Some (call_edge from to site) → (h : Graph) →
        slice_get gs site.procedure ≡ Some h → Fits (record w {
          at = enters h (map (term_at slots) site.arguments)
              (record { graph = g; to = to; results = site.results; slots = slots; entry = entry } ∷ ws);
        })
    called from to site at h at_h =
        let p = linked frame.one.0 g frame.one.1 i from to site at in
        let q : h.params ≡ length site.arguments = eqb-true h.params (length site.arguments)
        (both (h.params == length site.arguments) (h.exits == length site.results)
        (subst (λ o. IsTrue (takes o (length site.arguments) (length site.results))) at_h p)).0
        in
        let named = ((g.well_formed).are_edges i (call_edge from to site) at).slots_named in
        record {
          guard_names = f.guard_names;
          input_names = f.input_names;
          stage = (
            (site.procedure, at_h),
            length-map site.arguments (term_at slots) ∙ sym q,
            map_names (is_symbol_column w.symbols) slots site.arguments frame.slot_names,
            (
              record {
                one = frame.one;
                many = frame.many;
                results_in = (both (list_all (λ x. nat_lt x g.slots) site.results) (list_all (λ x. nat_lt x g.slots) site.arguments)
                    named).0;
                slot_names = frame.slot_names;
                entry_names = frame.entry_names;
              },
              waits,
            ),
          );
        }

    pub edge_fits : (e : Edge) → slice_get g.edges i ≡ Some e → (sums : List Sum) (new : Walked) →
        FollowsEdge gs w g node slots entry ws e sums new → Fits new
    edge_fits (Entry to params) at sums new h = subst Fits (sym h.1) (behind (Entry to params) at _ (stage_fits (Entry to params) at))
    edge_fits (Assign from to slot value) at sums new h =
        subst Fits (sym h.1) (behind (Assign from to slot value) at _ (stage_fits (Assign from to slot value) at))
    edge_fits (Guard from to rows) at sums new h = subst Fits (sym h.1)
        (behind (Guard from to rows) at _ (stage_fits (Guard from to rows) at))
    edge_fits (Input from to slot) at sums new h = subst Fits (sym h.1)
        (behind (Input from to slot) at _ (stage_fits (Input from to slot) at))
    edge_fits (Pick from to slot rows) at sums new h =
        subst Fits (sym h.1) (behind (Pick from to slot rows) at _ (stage_fits (Pick from to slot rows) at))
    edge_fits (Assert from to id rows) at sums new h =
        subst Fits (sym h.1) (behind (Assert from to id rows) at _ (stage_fits (Assert from to id rows) at))
    edge_fits (Return from to returned) at sums new h =
        subst Fits (sym h.1) (behind (Return from to returned) at _ (stage_fits (Return from to returned) at))
    edge_fits (Call from to proc args results) at sums new h =
        subst Fits (sym h.3) (called from to (record { procedure = proc; arguments = args; results = results }) at h.0 h.1)

  pub opened_fits : (n : ℕ) (g : Graph) (args : List LinearSum) → IsOne g → length args ≡ g.params → Named n args →
      FrameFits n g (opened g args) args
  opened_fits n g args one count h = record {
    one = one;
    many =
        let a = length-append args (replicate (g.slots - g.params) (constant_sum (pos 0))) in
        let b = length-replicate (g.slots - g.params) (constant_sum (pos 0)) in
        let c = (g.well_formed).params_in_slots in
        omega (arith, a, b, c, count);
    slot_names = append_names (is_symbol_column n) args (replicate (g.slots - g.params) (constant_sum (pos 0))) h
        (zero_names (is_symbol_column n) (g.slots - g.params));
    entry_names = h;
  }

  follows_fits : AreGraphs gs → (w : Walked) (stage : Stage) → Fits w → StageFits w.symbols stage → (i : ℕ) (sums : List Sum)
      (new : Walked) →
      FollowsAt gs i w stage sums new → Fits new
  follows_fits linked w (enters g args ws) f s i sums new h =
      subst Fits (sym h.5) (record {
        guard_names = f.guard_names;
        input_names = f.input_names;
        stage = (opened_fits w.symbols g args s.0 s.1 s.2, s.3);
      })
  follows_fits linked w (runs g node slots entry ws) f s i sums new h =
      edge_fits linked w f g node slots entry ws s.0 s.1 i h.0 h.1 sums new h.3
  follows_fits linked w (gave ts) f s i sums new h = absurd h
  follows_fits linked w (fails id) f s i sums new h = absurd h

  pub still_fits : AreGraphs gs → (w : Walked) → Fits w → (i : ℕ) (sums : List Sum) (new : Walked) → Follows gs i w sums new → Fits new
  still_fits linked w f i sums new h = follows_fits linked w w.at f f.stage i sums new h

  pub begins : (g : Graph) → IsOne g → g.params ≡ 0 → Fits (begun g)
  begins g one none = record { guard_names = refl; input_names = refl; stage = (one, sym none, refl, tt) }
