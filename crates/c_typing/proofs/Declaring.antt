-- Declarations and statements, one after another.
use Rattle.std.proofs.Common.{◌≡◌, ℕ, ◌+◌, ◌<◌, ◌≤◌, Bool, ◌||◌, List, [], ◌∷◌, ◌++◌, length, drop, get_or, map, refl, ap, sym, ◌∙◌, append_assoc}
use Rattle.std.proofs.lemmas.List.{append-nil, at_drop_more, at_drop_all}
use Rattle.c_tree.specs.declared.tree.Pos.{Pos}
use Rattle.c_tree.specs.declared.syntax_tree.Named.{Named}
use Rattle.c_tree.specs.declared.syntax_tree.Declared.{Declared}
use Rattle.c_tree.specs.declared.syntax_tree.StmtTree.{StmtTree}
use Rattle.c_typing.specs.declared.fault.TypeFault.TheVariants.{Duplicate}
use Rattle.c_tree.specs.SourceTree.{Identifier, StatementTree, block, empty, declare, simple, if_then, if_else, while_loop, do_while, for_loop, break, continue, return}
use Rattle.c_tree.specs.SourceView.{identifier_of, declarator_of, statement_tree_of, statement_trees_of}
use Rattle.c_typing.specs.Scope.{FileScope, Scope, with_variable, with_names, names_of, declared_by, declared_in, is_declared_here, is_built_in, asserts_of_optional, asserts_by_declarators, asserts_by, asserts_in}
use Rattle.c_typing.specs.Faults.{Fault, fault_if, optional_faults, declared_faults, declarators_faults, scopes_after, statement_faults, statements_faults, parameters_faults}
use Rattle.c_typing.specs.steps.Tables.{Noted, noted, with_zeros, zeros_after, outer_of}
use Rattle.c_typing.proofs.Erased.{erased, erased-variable, statements-same}
use Rattle.c_typing.proofs.Noting.{noted-append, noted-nil, noted_two}
use Rattle.c_typing.proofs.Tabled.{outer-variable}

pub erased-zeros : (ss ts : List Scope) (b : ℕ) (ns : List Identifier) → erased ss ≡ erased ts → erased (with_zeros ss ns)
    ≡ erased (with_names ts b ns)
erased-zeros ss ts b [] e = e
erased-zeros ss ts b (n ∷ ns) e = erased-zeros (with_variable ss n.name 0) (with_variable ts n.name b) (b + 1) ns
    (erased-variable ss ts n.name 0 b e)

pub outer-zeros : (ss : List Scope) (ns : List Identifier) → outer_of (with_zeros ss ns) ≡ outer_of ss
outer-zeros ss [] = refl
outer-zeros ss (n ∷ ns) = outer-zeros (with_variable ss n.name 0) ns ∙ outer-variable ss n.name 0

pub outer-after : (ss : List Scope) (s : StatementTree) → outer_of (zeros_after ss s) ≡ outer_of ss
outer-after ss (declare ds) = outer-zeros ss (names_of ds)
outer-after ss (block a) = refl
outer-after ss empty = refl
outer-after ss (simple s) = refl
outer-after ss (if_then e a) = refl
outer-after ss (if_else e a c) = refl
outer-after ss (while_loop e a) = refl
outer-after ss (do_while a e) = refl
outer-after ss (for_loop f t s a) = refl
outer-after ss (break at) = refl
outer-after ss (continue at) = refl
outer-after ss (return at e) = refl

erased-after : (file : FileScope) (ss : List Scope) (s : StatementTree) → erased (scopes_after file ss s) ≡ erased (zeros_after ss s)
erased-after file ss (declare ds) = sym (erased-zeros ss ss 0 (names_of ds) refl)
erased-after file ss (block a) = refl
erased-after file ss empty = refl
erased-after file ss (simple s) = refl
erased-after file ss (if_then e a) = refl
erased-after file ss (if_else e a c) = refl
erased-after file ss (while_loop e a) = refl
erased-after file ss (do_while a e) = refl
erased-after file ss (for_loop f t s a) = refl
erased-after file ss (break at) = refl
erased-after file ss (continue at) = refl
erased-after file ss (return at e) = refl

-- the second part has no assertions
pub noted_last : (n n1 n2 : Noted) (fs gs : List Fault) (ns ms : List Identifier) (places : List Pos) → n1 ≡ noted n fs ns places →
    n2 ≡ noted n1 gs ms [] → n2 ≡ noted n (fs ++ gs) (ns ++ ms) places
noted_last n n1 n2 fs gs ns ms places p q = noted_two n n1 n2 fs gs ns ms places [] p q ∙ ap (λ a. noted n (fs ++ gs) (ns ++ ms) a)
    (append-nil places)

module _ (file : FileScope) where
  abbrev pub declarators_left : List Scope → Noted → List Declared → Noted
  declarators_left ss n ds = noted n (declarators_faults file ss (map declarator_of ds)) (names_of (map declarator_of ds))
      (asserts_by_declarators (map declarator_of ds))

  abbrev pub zeros_left : List Scope → List Declared → List Scope
  zeros_left ss ds = with_zeros ss (names_of (map declarator_of ds))

  pub declarators_turn : (ds : List Declared) (i : ℕ) (d : Declared) (ss s1 : List Scope) (n n1 goal : Noted) → i < length ds →
      (let x = declarator_of (get_or ds i d) in n1 ≡ noted n (optional_faults file ss x.value ++ declared_faults file ss x.named)
      (x.named ∷ [])
      (asserts_of_optional x.value)) →
      s1 ≡ with_variable ss (declarator_of (get_or ds i d)).named.name 0 → declarators_left ss n (drop i ds) ≡ goal →
      declarators_left s1 n1 (drop (i + 1) ds) ≡ goal
  declarators_turn ds i d ss s1 n n1 goal less step scopes left =
      let x = declarator_of (get_or ds i d) in
      let rest = map declarator_of (drop (i + 1) ds) in
      let s2 = with_variable ss x.named.name 0 in
      ap (λ m. declarators_left s1 m (drop (i + 1) ds)) step
      ∙ ap (λ u. declarators_left u (noted n (optional_faults file ss x.value ++ declared_faults file ss x.named) (x.named ∷ [])
      (asserts_of_optional x.value)) (drop (i + 1) ds)) scopes
      ∙ noted-append n (optional_faults file ss x.value ++ declared_faults file ss x.named) (declarators_faults file s2 rest) (x.named ∷ [])
      (names_of rest) (asserts_of_optional x.value) (asserts_by_declarators rest)
      ∙ ap (λ f. noted n f (x.named ∷ names_of rest) (asserts_of_optional x.value ++ asserts_by_declarators rest))
      (append_assoc (optional_faults file ss x.value) (declared_faults file ss x.named) (declarators_faults file s2 rest))
      ∙ sym (at_drop_more (declarators_left ss n) ds i d less) ∙ left

  pub declarators_end : (ds : List Declared) (i : ℕ) (ss : List Scope) (n goal : Noted) → length ds ≤ i → declarators_left ss n (drop i ds)
      ≡ goal → n ≡ goal
  declarators_end ds i ss n goal past left = sym (noted-nil n) ∙ sym (at_drop_all (declarators_left ss n) ds i past) ∙ left

  pub zeros_turn : (ds : List Declared) (i : ℕ) (d : Declared) (ss s1 goal : List Scope) → i < length ds →
      s1 ≡ with_variable ss (declarator_of (get_or ds i d)).named.name 0 → zeros_left ss (drop i ds) ≡ goal →
      zeros_left s1 (drop (i + 1) ds)
      ≡ goal
  zeros_turn ds i d ss s1 goal less scopes left = ap (λ u. zeros_left u (drop (i + 1) ds)) scopes
      ∙ sym (at_drop_more (zeros_left ss) ds i d less) ∙ left

  pub zeros_end : (ds : List Declared) (i : ℕ) (ss goal : List Scope) → length ds ≤ i → zeros_left ss (drop i ds) ≡ goal → ss ≡ goal
  zeros_end ds i ss goal past left = sym (at_drop_all (zeros_left ss) ds i past) ∙ left

  module _ (void l : Bool) where
    abbrev pub statements_left : List Scope → Noted → List StmtTree → Noted
    statements_left ss n as_ = noted n (statements_faults file void l ss (statement_trees_of as_)) (declared_in (statement_trees_of as_))
        (asserts_in (statement_trees_of as_))

    pub statements_turn : (as_ : List StmtTree) (i : ℕ) (d : StmtTree) (ss s1 : List Scope) (n n1 goal : Noted) → i < length as_ →
        (let x = statement_tree_of (get_or as_ i d) in n1 ≡ noted n (statement_faults file void l ss x) (declared_by x) (asserts_by x)) →
        s1 ≡ zeros_after ss (statement_tree_of (get_or as_ i d)) →
        statements_left ss n (drop i as_) ≡ goal → statements_left s1 n1 (drop (i + 1) as_) ≡ goal
    statements_turn as_ i d ss s1 n n1 goal less step scopes left =
        let x = statement_tree_of (get_or as_ i d) in
        let rest = statement_trees_of (drop (i + 1) as_) in
        let s2 = zeros_after ss x in
        ap (λ m. statements_left s1 m (drop (i + 1) as_)) step
        ∙ ap (λ u. statements_left u (noted n (statement_faults file void l ss x) (declared_by x) (asserts_by x)) (drop (i + 1) as_)) scopes
        ∙ noted-append n (statement_faults file void l ss x) (statements_faults file void l s2 rest) (declared_by x) (declared_in rest)
        (asserts_by x) (asserts_in rest)
        ∙ ap (λ f. noted n (statement_faults file void l ss x ++ f) (declared_by x ++ declared_in rest) (asserts_by x ++ asserts_in rest))
        (sym (statements-same file void l (scopes_after file ss x) s2 rest (erased-after file ss x)))
        ∙ sym (at_drop_more (statements_left ss n) as_ i d less) ∙ left

    pub statements_end : (as_ : List StmtTree) (i : ℕ) (ss : List Scope) (n goal : Noted) → length as_ ≤ i →
        statements_left ss n (drop i as_)
        ≡ goal → n ≡ goal
    statements_end as_ i ss n goal past left = sym (noted-nil n) ∙ sym (at_drop_all (statements_left ss n) as_ i past) ∙ left

abbrev pub parameters_left : List Scope → Noted → List Named → Noted
parameters_left ss n ds = noted n (parameters_faults ss (map identifier_of ds)) (map identifier_of ds) []

abbrev pub parameters_zeros : List Scope → List Named → List Scope
parameters_zeros ss ds = with_zeros ss (map identifier_of ds)

pub parameters_turn : (ds : List Named) (i : ℕ) (d : Named) (ss s1 : List Scope) (n n1 goal : Noted) → i < length ds →
    (let x = identifier_of (get_or ds i d) in n1 ≡ noted n (fault_if (is_declared_here ss x.name || is_built_in x.name) Duplicate x.at)
    (x ∷ []) []) →
    s1 ≡ with_variable ss (identifier_of (get_or ds i d)).name 0 → parameters_left ss n (drop i ds) ≡ goal →
    parameters_left s1 n1 (drop (i + 1) ds) ≡ goal
parameters_turn ds i d ss s1 n n1 goal less step scopes left =
    let x = identifier_of (get_or ds i d) in
    let rest = map identifier_of (drop (i + 1) ds) in
    let here = fault_if (is_declared_here ss x.name || is_built_in x.name) Duplicate x.at in
    let s2 = with_variable ss x.name 0 in
    ap (λ m. parameters_left s1 m (drop (i + 1) ds)) step ∙ ap (λ u. parameters_left u (noted n here (x ∷ []) []) (drop (i + 1) ds)) scopes
    ∙ noted-append n here (parameters_faults s2 rest) (x ∷ []) rest [] [] ∙ sym (at_drop_more (parameters_left ss n) ds i d less) ∙ left

pub parameters_end : (ds : List Named) (i : ℕ) (ss : List Scope) (n goal : Noted) → length ds ≤ i → parameters_left ss n (drop i ds)
    ≡ goal →
    n ≡ goal
parameters_end ds i ss n goal past left = sym (noted-nil n) ∙ sym (at_drop_all (parameters_left ss n) ds i past) ∙ left

pub parameter_zeros_turn : (ds : List Named) (i : ℕ) (d : Named) (ss s1 goal : List Scope) → i < length ds →
    s1 ≡ with_variable ss (identifier_of (get_or ds i d)).name 0 → parameters_zeros ss (drop i ds) ≡ goal →
    parameters_zeros s1 (drop (i + 1) ds) ≡ goal
parameter_zeros_turn ds i d ss s1 goal less scopes left = ap (λ u. parameters_zeros u (drop (i + 1) ds)) scopes
    ∙ sym (at_drop_more (parameters_zeros ss) ds i d less) ∙ left

pub parameter_zeros_end : (ds : List Named) (i : ℕ) (ss goal : List Scope) → length ds ≤ i → parameters_zeros ss (drop i ds) ≡ goal →
    ss ≡ goal
parameter_zeros_end ds i ss goal past left = sym (at_drop_all (parameters_zeros ss) ds i past) ∙ left
