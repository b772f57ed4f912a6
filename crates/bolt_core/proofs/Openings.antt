-- What is true of the entries of a board that opens.
use Rattle.std.proofs.Common.{◌≡◌, ℕ, ◌+◌, ◌^◌, ◌<◌, ◌≤◌, List, [], ◌∷◌, ◌++◌, length, Some, refl, sym, ap, subst, ⊎_elim, arith}
use Rattle.std.specs.Prelude.{slice_get}
use Rattle.query_tree.specs.declared.Entry.{Entry}
use Rattle.query_tree.specs.Forest.{after_root, root_of}
use Rattle.query_tree.specs.Kept.{IsKept}
use Rattle.query_tree.proofs.Feed.{root_kept}
use Rattle.query_tree.proofs.Lists.{from_pushed}
use Rattle.summary_form.specs.declared.summary.Summary.{Summary}
use Rattle.bolt_core.specs.Histories.{Told, has_said}
use Rattle.bolt_core.specs.Keeps.{AreEnded, Stocked}
use Rattle.bolt_core.specs.KeptEntries.{KeepsEntries}
use Rattle.bolt_core.specs.Machine.{AllOf, Core, Reads, first_board, node_of_root, opening}
use Rattle.bolt_core.proofs.Credits.{room_root}
use Rattle.bolt_core.proofs.Links.{linked_pushed}
use Rattle.bolt_core.proofs.Stored.{StoredIn}

abbrev no_entries : (S : Type 0) → List (Entry S)
no_entries S = []

none_kept : (S : Type 0) → IsKept (no_entries S)
none_kept S = record {
  tree = record { rooted = λ i e a. absurd (cc) };
  shut = record { above = λ i e a. absurd (cc) };
  leaning = record { leaning = λ i e a. absurd (cc) };
  granted = record { granted = λ i e a. absurd (cc); small = λ r. omega arith; all = refl };
  each = record { fine = λ i e a. absurd (cc) };
  ended = record { ended = λ i e n a. absurd (cc) };
}

module _ {S : Type 0} (R : Reads S) where
  none_ended : (c : Core S) → c.history ≡ [] → AreEnded c
  none_ended c none = record {
    ended = λ t w i left steps waiting a. let e = ap (λ (h : List Told). slice_get h t) none in absurd (cc);
    going = λ t i now k lt z. let a = z.at in let e = ap (λ (h : List Told). slice_get h k) none in absurd (cc);
  }

  none_entries : (ks : List Summary) → KeepsEntries R 0 (first_board R ks)
  none_entries ks = record {
    kept = none_kept S;
    stocked = record { stocked = λ i e a. absurd (cc) };
    stored = record { stored = λ i e a. absurd (cc) };
    room = record { owed = omega arith; few = omega arith };
    linked = record { linked = λ i e a. absurd (cc) };
    ended = none_ended (first_board R ks) refl;
    said = record { said = λ i is. absurd (cc) };
  }

  module _ (grant : ℕ) (some : 1 ≤ grant) (fits : grant < 2 ^ 32) where
    -- one root more
    abbrev with_root : Core S → S → Core S
    with_root c s = record c {
      entries = after_root c.entries grant s;
      nodes = c.nodes ++ node_of_root R s ∷ [];
    }

    pub root_entries : (n : ℕ) (c : Core S) (s : S) → c.history ≡ [] → R.steps s ≡ 0 → KeepsEntries R n c →
        KeepsEntries R (n + 1) (with_root c s)
    root_entries n c s none made h =
        let x : Entry S = root_of (length c.entries) grant s in
        record {
          kept = root_kept c.entries grant s fits h.kept;
          stocked = record {
            stocked = λ i e a. ⊎_elim
                (λ o. h.stocked.stocked i e o)
                (λ o. subst (λ (y : Entry S). Stocked y.status y.left y.lent) (sym o.1) some)
                (from_pushed c.entries x i e a);
          };
          stored = record {
            stored = λ i e a. ⊎_elim
                (λ o. h.stored.stored i e o)
                (λ o. subst (StoredIn R) (sym o.1) (λ q is. let w : Some s ≡ Some q = is in cc))
                (from_pushed c.entries x i e a);
          };
          room = room_root c.entries (has_said c.history) c.is_stopped (length c.history) n h.room grant s;
          linked = linked_pushed c.entries c.history x (λ is. absurd (cc)) h.linked;
          ended = none_ended (with_root c s) none;
          said = record { said = λ i is. let e = ap (λ (h : List Told). has_said h i) none in absurd (cc) };
        }

    pub roots_entries : (ss : List S) (n : ℕ) (c : Core S) → c.history ≡ [] → AllOf (λ s. R.steps s ≡ 0) ss → KeepsEntries R n c →
        KeepsEntries R (n + length ss) (opening R grant ss c)
    roots_entries [] n c none made h = let e : n ≡ n + 0 = omega arith in subst (λ m. KeepsEntries R m c) e h
    roots_entries (s ∷ ss) n c none made h =
        let e : (n + 1) + length ss ≡ n + length (s ∷ ss) = omega arith in
        subst (λ m. KeepsEntries R m (opening R grant ss (with_root c s))) e
        (roots_entries ss (n + 1) (with_root c s) none made.1 (root_entries n c s none made.0 h))

    pub opening_entries : (ss : List S) (ks : List Summary) → AllOf (λ s. R.steps s ≡ 0) ss →
        KeepsEntries R (length ss) (opening R grant ss (first_board R ks))
    opening_entries ss ks made =
        let e : 0 + length ss ≡ length ss = omega arith in
        subst (λ m. KeepsEntries R m (opening R grant ss (first_board R ks))) e
        (roots_entries ss 0 (first_board R ks) refl made (none_entries ks))
