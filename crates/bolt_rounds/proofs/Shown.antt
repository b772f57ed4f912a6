-- What may be published of a job, and that it stays so, as what its calls ask does.
use Rattle.std.proofs.Common.{Global, ◌≡◌, ◌⊎◌, ℕ, ◌<◌, List, [], ◌∷◌, ◌++◌, length, Bool, false, true, Option, None, Some, refl, sym, ap, ◌∙◌, subst, inl, inr}
use Rattle.std.specs.Prelude.{IfSome, slice_get}
use Rattle.std.specs.Option.{option_map}
use Rattle.std.specs.declared.sync.Arc.{Arc}
use Rattle.std.proofs.lemmas.Option.{same_Some}
use Rattle.query_tree.specs.declared.Entry.{Entry}
use Rattle.query_tree.specs.declared.Status.{Status}
use Rattle.query_tree.specs.declared.Status.TheVariants.{Ready, Running, Blocked, Starved, Closed, Dropped}
use Rattle.query_tree.proofs.Lists.{within}
use Rattle.query_rules.specs.Seen.{Seen}
use Rattle.query_rules.specs.declared.step.Closing.{Closing}
use Rattle.query_rules.specs.declared.step.Closing.TheVariants as closing
use Rattle.summary_form.specs.declared.query.Query.{Query}
use Rattle.summary_form.specs.declared.summary.Summary.{Summary}
use Rattle.summary_form.specs.declared.summary.Summary.TheVariants as summary
use Rattle.bolt_core.specs.declared.job.Job.{Job as Given}
use Rattle.bolt_core.specs.Boards.{IsBoard, IsSoundFor, MayBeClosed, MayBeSaid, Shown}
use Rattle.bolt_core.specs.Groups.{Node}
use Rattle.bolt_core.specs.Histories.{Told, has_said, table_of}
use Rattle.bolt_core.specs.Keeps.{Keeps}
use Rattle.bolt_core.specs.Lawful.{GivenFrom, IsLawful, levels_of}
use Rattle.summary_table.specs.Tables.{exit_of, proc_of}
use Rattle.bolt_core.specs.Machine.{AllOf, Core, HoldsBy, Reached, Reads}
use Rattle.bolt_core.specs.States.{reads}
use Rattle.bolt_core.proofs.BoardKeeps.{board_keeps, event_keeps}
use Rattle.bolt_core.proofs.Sounds.{event_stay}
use Rattle.bolt_core.proofs.StatesLawful.{states_lawful}
use Rattle.bolt_core.proofs.Staying.{moves_stay}
use Rattle.bolt_rounds.specs.declared.moves.Move.{Move}
use Rattle.bolt_rounds.specs.declared.moves.Move.TheVariants as move
use Rattle.bolt_rounds.specs.Moves.{MayBeShown, MayMove, MovesKeep, spare, spare_at}

-- What `publish` asks: the query is there, the summary holds, and is of its procedure and exit kind
pub may_publish : (b : Shown) (j : Given) (s : Summary) → MayBeShown b j s →
    (j.id < length b.core.nodes) × HoldsBy (reads b.graphs) s
    × ((n : Node) → slice_get b.core.nodes j.id ≡ Some n →
    (proc_of s ≡ n.query.proc) × (exit_of s ≡ n.query.exit))
may_publish b j s m = (
  within b.core.nodes j.id m.node m.at,
  m.holds,
  λ n at.
      let q : m.node.query ≡ n.query = ap (λ (x : Node). x.query) (same_Some m.node n (sym m.at ∙ at)) in
      (m.proc ∙ ap (λ (y : Query). y.proc) q, m.exit ∙ ap (λ (y : Query). y.exit) q),
)

-- What a close hands in
module _ (b : Shown) (h : IsBoard b) (j : Given) where
  of_own : (s : IsSoundFor b j) (x : Summary) → proc_of x ≡ j.state.query.proc →
      exit_of x ≡ j.state.query.exit → HoldsBy (reads b.graphs) x → MayBeShown b j x
  of_own s x p e holds = record {
    node = s.node;
    at = s.node_at;
    holds = holds;
    proc = p ∙ ap (λ (y : Query). y.proc) s.query;
    exit = e ∙ ap (λ (y : Query). y.exit) s.query;
  }

  not_may : MayBeClosed b j closing.NotMay → j.state.lowest ≡ None → MayBeShown b j (summary.NotMay j.state.query)
  not_may m none =
      let R = reads b.graphs in
      let k = board_keeps b h in
      let g : IsLawful R = states_lawful b.graphs h.linked in
      let holds : AllOf (HoldsBy R) (b.core.kept ++ table_of b.core.history) = subst (AllOf (HoldsBy R)) (sym k.named) k.holds in
      let given = g.gives (b.core.kept ++ table_of b.core.history) j.state m.sound.state holds m.is_closed in
      of_own m.sound (summary.NotMay j.state.query) refl refl
      (subst (GivenFrom R.nm (levels_of R j.state) j.state.query) none given)

  shown_at : (c : Closing) (low : Option ℕ) → j.state.lowest ≡ low → MayBeClosed b j c → (x : Summary) →
      spare_at j.state.query low c ≡ Some x → MayBeShown b j x
  shown_at closing.NotMay None e m x is =
      subst (MayBeShown b j) (same_Some (summary.NotMay j.state.query) x is) (not_may m e)
  shown_at closing.NotMay (Some n) e m x is = absurd (cc)
  shown_at (closing.Must p) low e m x is =
      subst (MayBeShown b j) (same_Some (summary.Must p) x is)
      (of_own m.sound (summary.Must p) m.may.1.same_procedure m.may.1.same_exit m.may.0)
  shown_at (closing.Stuck kind) low e m x is = absurd (cc)

  spare_shown : (m : Move) → MayMove b j m → (x : Summary) → spare j m ≡ Some x → MayBeShown b j x
  spare_shown (move.Ask child query) a x is = absurd (cc)
  spare_shown (move.Feed number) a x is = absurd (cc)
  spare_shown (move.Park r) a x is = absurd (cc)
  spare_shown (move.Close how s) a x is = shown_at how j.state.lowest refl a.0 x is

  pub spare_is_shown : (m : Move) → MayMove b j m → (o : Option (Arc Summary Global)) → option_map (λ a. a.value) o ≡ spare j m →
      IfSome o (λ a. MayBeShown b j a.value)
  spare_is_shown m may None is = tt
  spare_is_shown m may (Some a) is = spare_shown m may a.value (sym is)

-- Queries never change
module _ {S : Type 0} (R : Reads S) where
  pub record StillAsks (ns : List Node) (i : ℕ) (q : Query) : Type 0 where
    pub node : Node
    pub at : slice_get ns i ≡ Some node
    pub query : node.query ≡ q

  asks_still : IsLawful R → (roots : ℕ) (old : Core S) (es : List Told) (new : Core S) → Reached R old es new → Keeps R roots old →
      (i : ℕ) (n : Node) → slice_get old.nodes i ≡ Some n → StillAsks new.nodes i n.query
  asks_still g roots old [] new r k i n at =
      record { node = n; at = subst (λ (c : Core S). slice_get c.nodes i ≡ Some n) (sym r) at; query = refl }
  asks_still g roots old (e ∷ es) new r k i n at =
      let f = event_stay R old r.0 e r.1 k.levelled i n at in
      let s = asks_still g roots r.0 es new r.2 (event_keeps R g roots old r.0 e k r.1) i f.node f.at in
      record { node = s.node; at = s.at; query = s.query ∙ f.same.query }

-- Further events
module _ (old new : Shown) (es : List Told) (j : Given) (h : IsBoard old) (same : new.graphs ≡ old.graphs)
    (r : Reached (reads old.graphs) old.core es new.core) where
  move_stays : (m : Move) → MayMove old j m → MayMove new j m
  move_stays (move.Ask child query) a = (moves_stay old new es j h same r).2 child query.value a
  move_stays (move.Feed number) a = (moves_stay old new es j h same r).3 number a
  move_stays (move.Park rest) a = (moves_stay old new es j h same r).1 rest a
  move_stays (move.Close how s) a = ((moves_stay old new es j h same r).4 how a.0, a.1)

  shown_stays : (s : Summary) → MayBeShown old j s → MayBeShown new j s
  shown_stays s m =
      let R = reads old.graphs in
      let a = asks_still R (states_lawful old.graphs h.linked) old.asserts old.core es new.core r (board_keeps old h) j.id m.node m.at in
      subst (λ (b : Shown). MayBeShown b j s) (ap (λ gs. record new { graphs = gs }) (sym same)) (record {
        node = a.node;
        at = a.at;
        holds = m.holds;
        proc = m.proc ∙ ap (λ (q : Query). q.proc) (sym a.query);
        exit = m.exit ∙ ap (λ (q : Query). q.exit) (sym a.query);
      })

pub moves_keep : MovesKeep
moves_keep old new es j h same r = (move_stays old new es j h same r, shown_stays old new es j h same r)

-- Whether a query may be said is decided
module _ (b : Shown) (i : ℕ) where
  abbrev Decided : Type 0
  Decided = MayBeSaid b i ⊎ (MayBeSaid b i → ⊥)

  own_is : (own : Entry Seen) → slice_get b.core.entries i ≡ Some own → (m : MayBeSaid b i) → own ≡ m.own
  own_is own e m = same_Some own m.own (sym e ∙ m.at)

  by_said : (own : Entry Seen) → slice_get b.core.entries i ≡ Some own → (n : ℕ) → own.status ≡ Dropped n → own.payload ≡ None →
      (t : Bool) → has_said b.core.history i ≡ t → Decided
  by_said own e n f p false t = inl (record { own = own; at = e; stamp = n; dropped = f; out = p; once = t })
  by_said own e n f p true t = inr (λ m. let o = m.once in absurd (cc))

  by_payload : (own : Entry Seen) → slice_get b.core.entries i ≡ Some own → (n : ℕ) → own.status ≡ Dropped n → (p : Option Seen) →
      own.payload ≡ p → Decided
  by_payload own e n f None p = by_said own e n f p _ refl
  by_payload own e n f (Some s) p =
      inr (λ m.
      let q : Some s ≡ None = sym p ∙ (ap (λ (x : Entry Seen). x.payload) (own_is own e m) ∙ m.out) in
      absurd (cc))

  not_dropped : (own : Entry Seen) → slice_get b.core.entries i ≡ Some own → (s : Status) → own.status ≡ s →
      ((n : ℕ) → s ≡ Dropped n → ⊥) → Decided
  not_dropped own e s f no' = inr (λ m. no' m.stamp (sym f ∙ (ap (λ (x : Entry Seen). x.status) (own_is own e m) ∙ m.dropped)))

  by_status : (own : Entry Seen) → slice_get b.core.entries i ≡ Some own → (s : Status) → own.status ≡ s → Decided
  by_status own e Ready f = not_dropped own e Ready f (λ n h. absurd (cc))
  by_status own e Running f = not_dropped own e Running f (λ n h. absurd (cc))
  by_status own e Blocked f = not_dropped own e Blocked f (λ n h. absurd (cc))
  by_status own e Starved f = not_dropped own e Starved f (λ n h. absurd (cc))
  by_status own e Closed f = not_dropped own e Closed f (λ n h. absurd (cc))
  by_status own e (Dropped n) f = by_payload own e n f _ refl

  by_entry : (o : Option (Entry Seen)) → slice_get b.core.entries i ≡ o → Decided
  by_entry None e = inr (λ m. let a = m.at in let q : None ≡ Some m.own = sym e ∙ a in absurd (cc))
  by_entry (Some own) e = by_status own e _ refl

  pub said_decided : Decided
  said_decided = by_entry _ refl
