-- What a close finds in the board, and what its event tells.
use Rattle.std.proofs.Common.{◌≡◌, ℕ, List, [], ◌∷◌, ◌++◌, length, take, drop, Bool, Option, Some, None, refl, ap, ◌∙◌, subst, arith}
use Rattle.std.specs.Prelude.{slice_get}
use Rattle.std.specs.Option.{option_map}
use Rattle.std.proofs.lemmas.Bool.{false_from_ne_true}
use Rattle.std.proofs.lemmas.Option.{slice_get-map}
use Rattle.query_tree.specs.Forest.{is_place}
use Rattle.query_tree.proofs.Tests.{place_is}
use Rattle.query_rules.specs.Seen.{Seen}
use Rattle.query_rules.specs.declared.step.Closing.{Closing}
use Rattle.query_rules.specs.declared.step.Closing.TheVariants as closing
use Rattle.query_tree.specs.declared.Entry.{Entry}
use Rattle.summary_form.specs.declared.query.Query.{Query}
use Rattle.summary_form.specs.declared.summary.Summary.{Summary}
use Rattle.summary_form.specs.declared.summary.Summary.TheVariants as summary
use Rattle.bolt_core.specs.declared.event.Event.{Event as Stored}
use Rattle.bolt_core.specs.declared.slot.ClosedAs.{ClosedAs}
use Rattle.bolt_core.specs.declared.slot.ClosedAs.TheVariants as how
use Rattle.bolt_core.specs.declared.slot.Slot.{Slot}
use Rattle.bolt_core.specs.Boards.{HandsIn, IsBoard, IsRoomy, Shown, core_of, node_of}
use Rattle.bolt_core.specs.Groups.{Node, discharged, publishes}
use Rattle.bolt_core.specs.Machine.{Reads, appended, closed_how, shows}
use Rattle.bolt_core.specs.steps.Closes.{HandsInFor, IsGroupOf, appended_by, closed_as, summaries_in}
use Rattle.bolt_core.proofs.BoardKeeps.{board_keeps}
use Rattle.bolt_core.proofs.Numbered.{board_numbered}

-- the slots of a board are those of a group
pub group_of : (p : Shown) (es : List (Entry Seen)) (ss : List Slot) (ts : List Summary) (xs : List Stored) (st : Bool) (f t s v : ℕ) →
    let b : Shown = record p { core = core_of p.core.kept es ss ts xs st } in IsBoard b → IsRoomy b ss xs f t s v → (place : ℕ) →
    place ≡ length xs → (i : ℕ) (own : Slot) → slice_get ss i ≡ Some own → IsGroupOf ss i own.level place
group_of p es ss ts xs st f t s v h r place is i own a = record {
  levelled = (board_keeps (record p { core = core_of p.core.kept es ss ts xs st }) h).levelled;
  own = own;
  at = a;
  level = refl;
  fresh = λ j y e. false_from_ne_true (is_place y.published place) (λ z. omega (
    arith,
    is,
    r.shown j y e place (place_is y.published place z),
  ));
  handed = r.handed;
  numbered = λ j y e. board_numbered (record p { core = core_of p.core.kept es ss ts xs st }) h j (node_of y)
      (slice_get-map node_of ss j ∙ ap (option_map node_of) e);
}

pub hands_in : (q own : Query) (level : ℕ) (low : Option ℕ) (c : Closing) (s : Option Summary) → q ≡ own → HandsIn q c s →
    HandsInFor own (closed_as level low c) s
hands_in q own level low closing.NotMay s e h = record {
  not_may = λ l z. subst (λ x. s ≡ Some (summary.NotMay x)) e h;
  must = λ z. absurd (cc);
}
hands_in q own level low (closing.Must p) s e h = record {
  not_may = λ l z. absurd (cc);
  must = λ z. (summary.Must p, h);
}
hands_in q own level low (closing.Stuck kind) s e h = record {
  not_may = λ l z. absurd (cc);
  must = λ z. absurd (cc);
}

module _ {S : Type 0} (R : Reads S) where
  pub closed_is : (level : ℕ) (s : S) (c : Closing) → closed_as level (R.lowest s) c ≡ closed_how R level s c
  closed_is level s closing.NotMay = refl
  closed_is level s (closing.Must p) = refl
  closed_is level s (closing.Stuck kind) = refl

  pub shows_is : (c : ClosedAs) → publishes c ≡ shows R c
  shows_is (how.NotMay low) = refl
  shows_is how.Must = refl
  shows_is (how.Stuck kind) = refl

  not_may_appended : (ns : List Node) (i : ℕ) (n : Node) (low : Option ℕ) (s : Option Summary) →
      appended_by ns i n.level n.query (how.NotMay low) s ≡ appended R ns i n (how.NotMay low) closing.NotMay
  not_may_appended ns i n None s = refl
  not_may_appended ns i n (Some j) s = refl

  pub appended_is : (ns : List Node) (i : ℕ) (n : Node) (level : ℕ) (low : Option ℕ) (q : Query) (c : Closing) (s : Option Summary) →
      HandsIn q c s →
      appended_by ns i n.level n.query (closed_as level low c) s ≡ appended R ns i n (closed_as level low c) c
  appended_is ns i n level low q closing.NotMay s h = not_may_appended ns i n (discharged level low) s
  appended_is ns i n level low q (closing.Must p) s h = ap summaries_in h
  appended_is ns i n level low q (closing.Stuck kind) s h = refl

-- the part of a table that a close appended

pub appended_part : (ts us : List Summary) → take (length us) (drop (length ts) (ts ++ us)) ≡ us
appended_part [] us = all_of us
  where
    all_of : (vs : List Summary) → take (length vs) vs ≡ vs
    all_of [] = refl
    all_of (v ∷ vs) = ap (λ ws. v ∷ ws) (all_of vs)
appended_part (t ∷ ts) us = appended_part ts us
