-- Declarations become sets, one after another.
use Rattle.std.proofs.Common.{◌≡◌, ℕ, ◌+◌, ◌<◌, ◌≤◌, List, [], ◌∷◌, ◌++◌, length, drop, get_or, map, refl, ap, sym, ◌∙◌, arith}
use Rattle.std.proofs.lemmas.List.{at_drop_more, at_drop_all}
use Rattle.c_tree.specs.declared.tree.Stmt.{Stmt}
use Rattle.c_tree.specs.declared.syntax_tree.Declared.{Declared}
use Rattle.c_tree.specs.Syntax as program
use Rattle.c_tree.specs.Syntax.{Statement, Statements}
use Rattle.c_tree.specs.View.{statement_of, statements_of}
use Rattle.c_tree.specs.declared.syntax_tree.ForFirst.{ForFirst}
use Rattle.c_tree.specs.declared.syntax_tree.ForFirst.TheVariants.{Nothing, Declare, Simple}
use Rattle.c_typing.specs.steps.LoweringSteps.{wrapped}
use Rattle.c_tree.specs.SourceView.{declarator_of, init_of}
use Rattle.c_typing.specs.Scope.{FileScope, Scope, with_variable, with_names, names_of}
use Rattle.c_typing.specs.Lowering.{joined, lowered_value, lowered_declarators}

pub joined-nil : (ss : Statements) → joined ss program.no_statements ≡ ss
joined-nil program.no_statements = refl
joined-nil (program.statement s ss) = ap (program.statement s) (joined-nil ss)

pub joined-joined : (as_ bs cs : Statements) → joined (joined as_ bs) cs ≡ joined as_ (joined bs cs)
joined-joined program.no_statements bs cs = refl
joined-joined (program.statement s ss) bs cs = ap (program.statement s) (joined-joined ss bs cs)

pub statements-push : (es : List Stmt) (e : Stmt) → statements_of (es ++ e ∷ []) ≡ joined (statements_of es)
    (program.statement (statement_of e) program.no_statements)
statements-push [] e = refl
statements-push (x ∷ xs) e = ap (program.statement (statement_of x)) (statements-push xs e)

pub set_pushed : (out o1 : List Stmt) (e : Stmt) (made : Statement) → o1 ≡ out ++ e ∷ [] → statement_of e ≡ made → statements_of o1
    ≡ joined (statements_of out) (program.statement made program.no_statements)
set_pushed out o1 e made push is = ap statements_of push ∙ statements-push out e
    ∙ ap (λ m. joined (statements_of out) (program.statement m program.no_statements)) is

module _ (file : FileScope) where
  abbrev pub sets_left : List Scope → ℕ → List Stmt → List Declared → Statements
  sets_left ss next out ds = joined (statements_of out) (lowered_declarators file ss next (map declarator_of ds))

  abbrev pub names_left : List Declared → ℕ
  names_left ds = length (names_of (map declarator_of ds))

  abbrev pub scopes_left : List Scope → ℕ → List Declared → List Scope
  scopes_left ss next ds = with_names ss next (names_of (map declarator_of ds))

  pub sets_turn : (ds : List Declared) (i : ℕ) (d : Declared) (ss s1 : List Scope) (next n1 : ℕ) (out o1 : List Stmt) (goal : Statements) →
      i < length ds →
      (let x = declarator_of (get_or ds i d) in statements_of o1 ≡ joined (statements_of out)
      (program.statement (program.set next (lowered_value file ss x.value)) program.no_statements)) →
      s1 ≡ with_variable ss (declarator_of (get_or ds i d)).named.name next → n1 ≡ next + 1 → sets_left ss next out (drop i ds) ≡ goal →
      sets_left s1 n1 o1 (drop (i + 1) ds) ≡ goal
  sets_turn ds i d ss s1 next n1 out o1 goal less push scopes count left =
      let x = declarator_of (get_or ds i d) in
      let one = program.statement (program.set next (lowered_value file ss x.value)) program.no_statements in
      let rest = map declarator_of (drop (i + 1) ds) in
      ap (λ o. joined o (lowered_declarators file s1 n1 rest)) push
      ∙ ap (λ u. joined (joined (statements_of out) one) (lowered_declarators file u n1 rest)) scopes
      ∙ ap (λ k. joined (joined (statements_of out) one) (lowered_declarators file (with_variable ss x.named.name next) k rest)) count
      ∙ joined-joined (statements_of out) one (lowered_declarators file (with_variable ss x.named.name next) (next + 1) rest)
      ∙ sym (at_drop_more (sets_left ss next out) ds i d less) ∙ left

  pub sets_end : (ds : List Declared) (i : ℕ) (ss : List Scope) (next : ℕ) (out : List Stmt) (goal : Statements) → length ds ≤ i →
      sets_left ss next out (drop i ds) ≡ goal → statements_of out ≡ goal
  sets_end ds i ss next out goal past left = sym (joined-nil (statements_of out)) ∙ sym (at_drop_all (sets_left ss next out) ds i past)
      ∙ left

  pub scopes_turn : (ds : List Declared) (i : ℕ) (d : Declared) (ss s1 goal : List Scope) (next n1 : ℕ) → i < length ds →
      s1 ≡ with_variable ss (declarator_of (get_or ds i d)).named.name next → n1 ≡ next + 1 → scopes_left ss next (drop i ds) ≡ goal →
      scopes_left s1 n1 (drop (i + 1) ds) ≡ goal
  scopes_turn ds i d ss s1 goal next n1 less scopes count left =
      ap (λ u. scopes_left u n1 (drop (i + 1) ds)) scopes
      ∙ ap (λ k. scopes_left (with_variable ss (declarator_of (get_or ds i d)).named.name next) k (drop (i + 1) ds)) count
      ∙ sym (at_drop_more (scopes_left ss next) ds i d less) ∙ left

  pub scopes_end : (ds : List Declared) (i : ℕ) (ss goal : List Scope) (next : ℕ) → length ds ≤ i → scopes_left ss next (drop i ds) ≡ goal →
      ss ≡ goal
  scopes_end ds i ss goal next past left = sym (at_drop_all (scopes_left ss next) ds i past) ∙ left

  pub names_turn : (ds : List Declared) (i : ℕ) (d : Declared) → i < length ds → names_left (drop i ds) ≡ names_left (drop (i + 1) ds) + 1
  names_turn ds i d less = at_drop_more names_left ds i d less ∙ omega arith

  pub names_end : (ds : List Declared) (i : ℕ) → length ds ≤ i → names_left (drop i ds) ≡ 0
  names_end ds i past = at_drop_all names_left ds i past

pub wrapped_said : (f : ForFirst) (before after : List Stmt) (w : Stmt) (m : Statement) → (f ≡ Nothing → ⊥) → after ≡ before ++ w ∷ [] →
    m ≡ program.block (statements_of after) → m ≡ wrapped (init_of f) (statements_of before) (statement_of w)
wrapped_said Nothing before after w m other push is = absurd (other refl)
wrapped_said (Declare ds) before after w m other push is = is ∙ ap program.block (ap statements_of push ∙ statements-push before w)
wrapped_said (Simple s) before after w m other push is = is ∙ ap program.block (ap statements_of push ∙ statements-push before w)
