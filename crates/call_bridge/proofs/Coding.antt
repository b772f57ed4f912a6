-- Lists of sums as the code makes them.
use Rattle.std.proofs.Common.{◌≡◌, ℕ, List, [], ◌++◌, Option, None, sym, ap, ◌∙◌, append_assoc}
use Rattle.linear_formula.specs.Results.{renamed_column}
use Rattle.linear_formula.specs.declared.formula.Atom.{Atom}
use Rattle.linear_formula.specs.declared.formula.Cube.{Cube}
use Rattle.shadow_elim.specs.declared.sum.Sum.{Sum}
use Rattle.shadow_elim.specs.Sums.{first_wide, rows_of_sums, row_sums, renaming, IsFirstWide}
use Rattle.shadow_elim.specs.declared.limit.Kept.{Kept}
use Rattle.shadow_elim.specs.Projection.{Projected, projected, refuses, unless_wide}
use Rattle.flow_graph.specs.Calls.{CallSite}
use Rattle.summary_form.specs.declared.path.Path.{Path}
use Rattle.summary_form.specs.declared.query.ExitKind.{ExitKind}
use Rattle.call_bridge.specs.Asked.{argument_columns, exit_columns, exit_column, place_sums, call_sums}
use Rattle.call_bridge.specs.Musts.{AreMustRows, replacing, must_sums, plain_rows, slot_sums, slotted, symbol_columns, must_preimage}

-- the three kinds of rows, one after the other
pub sums_chain : (exit : ExitKind) (site : CallSite) (source target from to : List Atom)
    (none thens firsts others : List (ℕ × ℕ))
    (a b c : List Sum) → from ≡ source → to ≡ target → none ≡ [] → thens ≡ argument_columns 0 site.arguments → firsts ≡ exit_columns exit
    site.results →
    others ≡ argument_columns 0 site.arguments → a ≡ row_sums (renaming (λ x. renamed_column thens (renamed_column none x))) from →
    b ≡ a ++ row_sums (renaming (λ x. renamed_column others (renamed_column firsts x))) to → c ≡ b ++ place_sums others 0 site.arguments →
    c ≡ call_sums exit site source target
sums_chain exit site source target from to none thens firsts others a b c hf ht hn h1 h2 h3 ea eb ec =
    let all : List (ℕ × ℕ) = argument_columns 0 site.arguments in
    let r1 : row_sums (renaming (λ x. renamed_column thens (renamed_column none x))) from ≡ row_sums (renaming (renamed_column all))
    source = ap (λ m. row_sums (renaming (λ x. renamed_column m (renamed_column none x))) from) h1
    ∙ ap (λ m. row_sums (renaming (λ x. renamed_column all (renamed_column m x))) from) hn ∙ ap (row_sums (renaming (renamed_column all)))
    hf
    in
    let r2 : row_sums (renaming (λ x. renamed_column others (renamed_column firsts x))) to
    ≡ row_sums (renaming (λ x. renamed_column all (exit_column exit site.results x))) target =
    ap (λ m. row_sums (renaming (λ x. renamed_column m (renamed_column firsts x))) to) h3
    ∙ ap (λ m. row_sums (renaming (λ x. renamed_column all (renamed_column m x))) to) h2
    ∙ ap (row_sums (renaming (λ x. renamed_column all (exit_column exit site.results x)))) ht in
    let r3 : place_sums others 0 site.arguments ≡ place_sums all 0 site.arguments = ap (λ m. place_sums m 0 site.arguments) h3 in
    ec ∙ ap (λ l. l ++ place_sums others 0 site.arguments)
    (eb ∙ ap (λ l. l ++ row_sums (renaming (λ x. renamed_column others (renamed_column firsts x))) to) (ea ∙ r1)
    ∙ ap (λ l. row_sums (renaming (renamed_column all)) source ++ l) r2) ∙ ap (λ l. (row_sums (renaming (renamed_column all)) source
    ++ row_sums (renaming (λ x. renamed_column all (exit_column exit site.results x))) target) ++ l) r3 ∙ append_assoc (row_sums (renaming
    (renamed_column all)) source) (row_sums (renaming (λ x. renamed_column all (exit_column exit site.results x))) target) (place_sums all 0
    site.arguments)

-- after sums within their limits
pub must_stage : (must : Path) (site : CallSite) (target : List Atom) (items : List Sum) (columns : List (ℕ × ℕ))
    (others plain : List Atom) → items ≡ must_sums must site target → columns ≡ replacing [] site.arguments must.entry → first_wide items
    ≡ None →
    others ≡ rows_of_sums items → plain ≡ must.guard.atoms ++ others → must_preimage must site target ≡ slotted columns plain
must_stage must site target items columns others plain is col n r pl =
    ap (λ (o : Option Sum). unless_wide o (slotted (replacing [] site.arguments must.entry) (plain_rows must site target)))
    (ap first_wide (sym is) ∙ n) ∙ ap (slotted (replacing [] site.arguments must.entry)) (ap (λ l. must.guard.atoms ++ rows_of_sums l)
    (sym is)
    ∙ ap (λ l. must.guard.atoms ++ l) (sym r) ∙ sym pl) ∙ ap (λ m. slotted m plain) (sym col)

-- the rows that are read in two stages, where no sum is too wide
pub must_rows_read : (must : Path) (site : CallSite) (target : List Atom) (items : List Sum) (columns : List (ℕ × ℕ))
    (others plain : List Atom) (renamed : List Sum) (rows : Cube) → items ≡ must_sums must site target → columns
    ≡ replacing [] site.arguments must.entry → first_wide items ≡ None → others ≡ rows_of_sums items → plain
    ≡ must.guard.atoms ++ others → renamed ≡ row_sums (renaming (renamed_column columns)) plain → first_wide renamed ≡ None → rows.atoms
    ≡ rows_of_sums renamed → AreMustRows must site target rows
must_rows_read must site target items columns others plain renamed rows is col n r pl ren w row =
    let p : plain ≡ plain_rows must site target = pl ∙ ap (λ l. must.guard.atoms ++ l) (r ∙ ap rows_of_sums is) in
    let s : renamed ≡ slot_sums must site.arguments (plain_rows must site target) =
    ren ∙ ap (λ m. row_sums (renaming (renamed_column m)) plain) col
    ∙ ap (λ l. row_sums (renaming (renamed_column (replacing [] site.arguments must.entry))) l) p in
    record {
      sums = ap first_wide (sym is) ∙ n;
      slots = ap first_wide (sym s) ∙ w;
      same = row ∙ ap rows_of_sums s;
    }

-- a sum of the second stage that is too wide is the limit of the preimage
pub must_rows_wide : (must : Path) (site : CallSite) (target : List Atom) (items : List Sum) (columns : List (ℕ × ℕ))
    (others plain : List Atom) (renamed : List Sum) (kept : Kept) → items ≡ must_sums must site target → columns
    ≡ replacing [] site.arguments must.entry → first_wide items ≡ None → others ≡ rows_of_sums items → plain
    ≡ must.guard.atoms ++ others → renamed ≡ row_sums (renaming (renamed_column columns)) plain → IsFirstWide renamed kept →
    must_preimage must site target ≡ refuses kept
must_rows_wide must site target items columns others plain renamed kept is col n r pl ren w =
    must_stage must site target items columns others plain is col n r pl
    ∙ ap (λ (o : Option Sum). unless_wide o (slotted_then columns plain)) (ap first_wide (sym ren) ∙ w.first)
    ∙ ap refuses (sym w.same) where
      slotted_then : List (ℕ × ℕ) → List Atom → Projected
      slotted_then cs ps =
          let rows = rows_of_sums (row_sums (renaming (renamed_column cs)) ps) in projected (symbol_columns rows) rows
