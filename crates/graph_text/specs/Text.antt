-- The text of graphs, in lines of a word and numbers, each number after one blank.
use Rattle.std.specs.Prelude.{ℕ, List, [], ◌∷◌, ◌++◌, length, flat_map, codes, ℤ}
use Rattle.std.specs.Fmt.{decimal, signed_decimal}
use Rattle.linear_formula.specs.declared.formula.Atom.{Atom}
use Rattle.flow_graph.specs.declared.graph.Edge.{Edge}
use Rattle.flow_graph.specs.declared.graph.Edge.TheVariants.{Entry, Assign, Guard, Input, Pick, Call, Assert, Return}
use Rattle.flow_graph.specs.declared.graph.Graph.{Graph}

-- Numbers in decimal, without a leading 0, after a `-` below 0

abbrev pub number : ℕ → List ℕ
number n = 32 ∷ decimal n

abbrev pub integer : ℤ → List ℕ
integer z = 32 ∷ signed_decimal z

-- how many there are, and each
abbrev pub counted : {A : Type 0} → (A → List ℕ) → List A → List ℕ
counted f xs = number (length xs) ++ flat_map f xs

-- Rows: each column with its coefficient, and the constant

abbrev pub column_text : ℕ × ℤ → List ℕ
column_text p = number p.0 ++ integer p.1

abbrev pub row_text : Atom → List ℕ
row_text a =
    codes "row" ++ (counted column_text a.term.parts ++ (integer a.term.constant ++ 10 ∷ []))

-- how many end a line, and the line of each is after it
abbrev pub rows_text : List Atom → List ℕ
rows_text atoms = number (length atoms) ++ (10 ∷ flat_map row_text atoms)

-- Edges: the nodes from which and to which they lead, and what they do

-- a slot with its coefficient
abbrev pub part_text : ℤ × ℕ → List ℕ
part_text p = number p.1 ++ integer p.0

abbrev pub edge_text : Edge → List ℕ
edge_text (Entry to params) = codes "entry" ++ (number to ++ (number params ++ 10 ∷ []))
edge_text (Assign from to slot value) =
    codes "assign" ++ (number from ++ (number to ++ (number slot
    ++ (counted part_text value.parts ++ (integer value.constant ++ 10 ∷ [])))))
edge_text (Guard from to rows) =
    codes "guard" ++ (number from ++ (number to ++ rows_text rows.atoms))
edge_text (Input from to slot) =
    codes "input" ++ (number from ++ (number to ++ (number slot ++ 10 ∷ [])))
edge_text (Pick from to slot rows) =
    codes "pick" ++ (number from ++ (number to ++ (number slot ++ rows_text rows.atoms)))
edge_text (Call from to proc args results) =
    codes "call" ++ (number from ++ (number to ++ (number proc
    ++ (counted number args ++ (counted number results ++ 10 ∷ [])))))
edge_text (Assert from to id rows) =
    codes "assert" ++ (number from ++ (number to ++ (number id ++ rows_text rows.atoms)))
edge_text (Return from to slots) =
    codes "return" ++ (number from ++ (number to ++ (counted number slots ++ 10 ∷ [])))

-- Graphs

abbrev pub graph_text : Graph → List ℕ
graph_text g =
    codes "graph" ++ (number g.nodes ++ (number g.exit ++ (number g.fail ++ (number g.params
    ++ (number g.exits ++ (number g.slots ++ (number (length g.edges)
    ++ (10 ∷ flat_map edge_text g.edges))))))))

-- the graphs of a program by the numbers of its procedures, of which one is `main`
abbrev pub graphs_text : (main : ℕ) → List Graph → List ℕ
graphs_text main gs =
    codes "smash-graphs 1" ++ (10 ∷ codes "main" ++ (number main
    ++ (10 ∷ codes "graphs" ++ (number (length gs) ++ (10 ∷ flat_map graph_text gs)))))
