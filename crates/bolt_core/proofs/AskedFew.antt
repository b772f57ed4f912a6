-- A state asked at most as many queries as it made steps, and those of a payload are few.
use Rattle.std.proofs.Common.{◌≡◌, ℕ, ◌^◌, ◌<◌, ◌≤◌, List, ◌++◌, [], ◌∷◌, length, Some, ap, sym, subst, arith}
use Rattle.std.specs.Prelude.{slice_get}
use Rattle.std.proofs.lemmas.List.{length_push}
use Rattle.flow_graph.specs.declared.graph.Graph.{Graph}
use Rattle.query_tree.specs.declared.Entry.{Entry}
use Rattle.query_tree.proofs.Feed.{one_le}
use Rattle.query_rules.specs.Seen.{Seen}
use Rattle.query_rules.specs.States.{Happening, after, after_all, heard, made}
use Rattle.query_rules.specs.Steps.{Model, begin_model, with_child, with_news}
use Rattle.query_rules.specs.declared.step.Asked.{Asked}
use Rattle.query_rules.specs.declared.step.News.TheVariants as news
use Rattle.query_rules.specs.declared.step.Step.{Step}
use Rattle.query_rules.specs.declared.step.Step.TheVariants as step
use Rattle.summary_form.specs.declared.summary.Summary.{Summary}
use Rattle.bolt_core.specs.Histories.{table_of}
use Rattle.bolt_core.specs.Keeps.{Keeps}
use Rattle.bolt_core.specs.Machine.{Core}
use Rattle.bolt_core.specs.States.{IsStateFor, reads}
use Rattle.bolt_core.proofs.LastAsks.{length_updated}

abbrev AsksFew : Model → Type 0
AsksFew m = length m.asked ≤ length m.steps

module _ (gs : List Graph) (g : Graph) (table : List Summary) where
  one_more : (e : Happening) (m : Model) → AsksFew m → AsksFew (after gs g table e m)
  one_more (made (step.Extend k trail point) n) m h = omega (arith, h, length_push m.steps (step.Extend k trail point))
  one_more (made (step.Split k atoms follows proofs) n) m h = omega (arith, h, length_push m.steps (step.Split k atoms follows proofs))
  one_more (made (step.Kill k by) n) m h = omega (arith, h, length_push m.steps (step.Kill k by))
  one_more (made (step.CallExtend k trail place point) n) m h =
      omega (arith, h, length_push m.steps (step.CallExtend k trail place point))
  one_more (made (step.CallSplit k place atoms follows proofs) n) m h =
      omega (arith, h, length_push m.steps (step.CallSplit k place atoms follows proofs))
  one_more (made (step.CallPart k by atom atoms follows proofs) n) m h =
      omega (arith, h, length_push m.steps (step.CallPart k by atom atoms follows proofs))
  one_more (made (step.Ask k query follows seen) n) m h =
      let a : Asked = record { edge = k; query = query; child = 0; news = news.Waiting } in
      omega (arith, h, length_push m.steps (step.Ask k query follows seen), length_push m.asked a)
  one_more (made (step.Feed i) n) m h =
      omega (arith, h, length_push m.steps (step.Feed i), length_updated (with_news news.Waiting) m.asked i)
  one_more (made (step.Stuck k why seen) n) m h = omega (arith, h, length_push m.steps (step.Stuck k why seen))
  one_more (heard i number known) m h = omega (arith, h, length_updated (with_child number known) m.asked i)

  all_more : (es : List Happening) (m : Model) → AsksFew m → AsksFew (after_all gs g table es m)
  all_more [] m h = h
  all_more (e ∷ es) m h = all_more es (after gs g table e m) (one_more e m h)

pub asked_few : (gs : List Graph) (table : List Summary) (s : Seen) → IsStateFor gs table s → length s.asked ≤ length s.steps
asked_few gs table s h =
    let few : AsksFew h.model = subst AsksFew (sym h.state.reached)
    (all_more gs h.graph table h.state.happenings (begin_model h.graph s.query s.ancestors) (omega arith)) in
    omega (
      arith,
      few,
      ap (λ (xs : List Asked). length xs) h.shows.asked,
      ap (λ (xs : List Step). length xs) h.shows.steps,
    )

module _ (gs : List Graph) (roots : ℕ) (c : Core Seen) (k : Keeps (reads gs) roots c) (i : ℕ) (own : Entry Seen)
    (at : slice_get c.entries i ≡ Some own) (s : Seen) (payload : own.payload ≡ Some s) where
  pub payload_steps : length s.steps < 2 ^ 32
  payload_steps =
      let stored : length s.steps ≡ own.spent = k.stored.stored i own at s payload in
      omega (arith, stored, one_le c.entries i own at, k.kept.granted.small own.root)

  pub payload_few : IsStateFor gs (c.kept ++ table_of c.history) s → length s.asked < 2 ^ 32
  payload_few h = omega (arith, asked_few gs (c.kept ++ table_of c.history) s h, payload_steps)
