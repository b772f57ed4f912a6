-- Splits and Asks over a call that were chosen and confirmed.
use Rattle.std.proofs.Common.{◌≡◌, ◌∙◌, ℕ, ◌-◌, ◌<◌, ◌≤◌, List, ◌++◌, length, Some, Bool, get_or, arith, refl, sym, ap, subst}
use Rattle.std.specs.Prelude.{IsTrue, slice_get}
use Rattle.std.proofs.lemmas.Option.{slice_get_read}
use Rattle.linear_formula.specs.Formula.{are_terms}
use Rattle.linear_formula.specs.declared.formula.Atom.{Atom}
use Rattle.infeasible_cert.specs.declared.certificate.Certificate.{Certificate}
use Rattle.flow_graph.specs.Calls.{call_site}
use Rattle.flow_graph.specs.Columns.{is_entry_column, rows_name_only}
use Rattle.summary_form.specs.NotMays.{is_end_column}
use Rattle.summary_form.specs.declared.path.Path.{Path}
use Rattle.summary_form.specs.declared.query.Query.{Query}
use Rattle.summary_form.specs.declared.summary.Summary.{Summary}
use Rattle.summary_form.specs.declared.summary.Summary.TheVariants.{Must}
use Rattle.may_partition.proofs.Pieces.{get_left, get_right}
use Rattle.call_bridge.specs.Musts.{NamesNumbers}
use Rattle.query_rules.specs.Decided.{AskedOthers}
use Rattle.query_rules.specs.Rows.{Entails, IsMustPreimage}
use Rattle.query_rules.specs.declared.step.Excluded.{Excluded}
use Rattle.query_rules.specs.declared.step.Step.TheVariants as step
use Rattle.punch_step.specs.CallFrontiers.{AllHaveMusts, MayAskHere, table_at}
use Rattle.punch_step.specs.Confirming.{FitsCallee, HasMustPreimage, HasRest, IsCallCut, IsConfirmed, IsWeakerAsk}
use Rattle.punch_step.specs.Entailing.{IsHeld, IsNotMayAt, NotBefore}
use Rattle.punch_step.specs.declared.confirm.Confirmation.{Confirmation}
use Rattle.punch_step.specs.declared.confirm.Marked.{Marked}
use Rattle.punch_step.specs.declared.entailing.Holder.TheVariants as holder
use Rattle.punch_step.specs.declared.over_call.CallFrontier.{CallFrontier}
use Rattle.punch_step.proofs.Held.{held_whole}

-- Rows of a query

pub row_of_start : (start end : List Atom) (n size : ℕ) (a : Atom) → size ≡ length start → n < size → a ≡ get_or start n a →
    slice_get (start ++ end) n ≡ Some a
row_of_start start end n size a e low is = get_left start n end a (slice_get_read start size n a e low is)

pub row_of_end : (start end : List Atom) (n size : ℕ) (a : Atom) → size ≡ length end → length start ≤ n → n - length start < size →
    a ≡ get_or end (n - length start) a → slice_get (start ++ end) n ≡ Some a
row_of_end start end n size a e high low is =
    subst (λ (k : ℕ). slice_get (start ++ end) k ≡ Some a) (omega (arith, high))
    (get_right start (n - length start) end a (slice_get_read end size (n - length start) a e low is))

module _ (f : CallFrontier) where
  -- Splits

  pub preimage_here : (place : ℕ) (s : Summary) (path : Path) (pre : List Atom) → slice_get (table_at f) place ≡ Some s → s ≡ Must path →
      path.proc ≡ (call_site f.calling.call.now).procedure → path.exit ≡ f.calling.exit → NamesNumbers path →
      IsMustPreimage path (call_site f.calling.call.now) f.calling.target.now.atoms pre → HasMustPreimage f place pre
  preimage_here place s path pre at is proc exit numbers w = record {
    path = path;
    here = record { there = at ∙ ap Some is; of_procedure = proc; of_exit = exit };
    numbers = numbers;
    is_pre = w;
  }

  -- what is confirmed is of the calling's trail
  abbrev pub marked_at : Marked
  marked_at = record {
    graph = f.calling.graph;
    query = f.calling.query;
    trail = f.calling.trail;
    source = f.calling.source;
  }

  pub split_cut : (place : ℕ) (pre : List Atom) (c : Confirmation) → HasMustPreimage f place pre → IsConfirmed marked_at pre c →
      IsCallCut f (step.CallSplit f.at place c.atoms.atoms c.follows c.proofs)
  split_cut place pre c h w =
      (refl, (h.path, w.proof, w.one, h.here, h.numbers, record { pre = pre; is_pre = h.is_pre; splits = w.splits }))

  pub part_cut : (by : Excluded) (atom : ℕ) (rows : List Atom) (c : Confirmation) → HasRest f by atom rows → IsConfirmed marked_at rows c →
      IsCallCut f (step.CallPart f.at by atom c.atoms.atoms c.follows c.proofs)
  part_cut by atom rows c h w = (refl, (rows, w.proof, w.one, h, w.own, w.splits))

  -- Asks

  pub fits : (q : Query) (start end : Bool) → IsTrue (are_terms q.start.atoms) → IsTrue (are_terms q.end.atoms) →
      start ≡ rows_name_only (is_entry_column (length (call_site f.calling.call.now).arguments)) q.start.atoms →
      end ≡ rows_name_only (is_end_column (record {
        entries = length (call_site f.calling.call.now).arguments;
        exits = length (call_site f.calling.call.now).results;
      }) q.exit) q.end.atoms →
      IsTrue start → IsTrue end → FitsCallee f q
  fits q start end s t es ee hs he = record {
    of_procedure = refl;
    start_names = sym es ∙ hs;
    end_names = sym ee ∙ he;
    start_terms = s;
    end_terms = t;
  }

  -- the earlier queries of the edge have musts
  pub all_musts : (q : Query) → MayAskHere f q → AllHaveMusts f
  all_musts q may i a at same = (may.shown.others i a at same).0

  pub weaker : (asked q copy : Query) (follows : List Certificate) (seen : ℕ) → copy ≡ q → MayAskHere f asked → Entails asked q follows →
      FitsCallee f q → IsHeld (NotBefore 0 (IsNotMayAt (table_at f))) q holder.None → AskedOthers f.asked.now f.at q →
      seen ≡ length (table_at f) → IsWeakerAsk f (step.Ask f.at copy follows seen)
  weaker asked q copy follows seen same may e fit none others all =
      subst (λ (x : Query). IsWeakerAsk f (step.Ask f.at x follows seen)) (sym same) (
        refl,
        all,
        (asked, may, e, fit, λ place s at. (held_whole (table_at f) q holder.None none place s at).shown, others),
      )
