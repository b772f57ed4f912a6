-- Moves and claims are what is read of their texts.
use Rattle.std.proofs.Common.{◌≡◌, ℕ, ◌<◌, Bool, true, false, Some, List, [], ◌∷◌, ◌++◌, arith, subst, ◌∙◌, if◌then◌else◌}
use Rattle.std.specs.Prelude.{codes}
use Rattle.linear_formula.specs.declared.formula.Atom.{Atom}
use Rattle.infeasible_cert.specs.Refutation.{Refutation}
use Rattle.summary_form.specs.declared.query.ExitKind.{ExitKind}
use Rattle.summary_form.specs.declared.query.ExitKind.TheVariants.{Return, Fail}
use Rattle.may_partition.specs.declared.region.RegionEdge.{RegionEdge}
use Rattle.proof_bundle.specs.Claims.{PureClaim, PureMove, split, kill, kill_call}
use Rattle.proof_bundle.specs.Text.{AreEach, Is32, IsCertificate, IsClaim, IsEdge, IsExit, IsMove, claim_text, cube_text, edge_text, exit_text, item, last, lines_text, move_text, refutation_text}
use Rattle.proof_bundle.specs.steps.Reading.{begins, lines_at, max_thing, number_at, tag_at, tagged_at}
use Rattle.proof_bundle.specs.steps.Bundles.{call_at, certificate_at, claim_at, cube_at, edge_at, exit_at, fail_at, kill_at, move_at, return_at, split_at}
use Rattle.proof_bundle.proofs.Certificates.{certificates}
use Rattle.proof_bundle.proofs.Listing.{lines, tagged}
use Rattle.proof_bundle.proofs.Numbers.{number_text, things}
use Rattle.proof_bundle.proofs.Parsing.{Parses, bind_again, bind_is, glue, some_is, tag_again, tag_takes, tag_then, then_again}
use Rattle.proof_bundle.proofs.Rows.{cubes}

things_item : Parses Is32 item (number_at 32 max_thing)
things_item = things 32 (omega arith)

things_last : Parses Is32 last (number_at 10 max_thing)
things_last = things 10 (omega arith)

-- Edges

module _ (end : ℕ) (low : end < 48) where
  abbrev text : RegionEdge → List ℕ
  text = edge_text (number_text end)

  edge_takes : (bytes : List ℕ) (x : RegionEdge × List ℕ) → edge_at end bytes ≡ Some x → IsEdge x.0 × (bytes ≡ text x.0 ++ x.1)
  unfolding edge_at
  edge_takes bytes x e =
      let a = bind_is (number_at 32 max_thing bytes) _ x e in
      let b = bind_is (number_at 32 max_thing a.0.1) _ x a.2 in
      let c = bind_is (number_at end max_thing b.0.1) _ x b.2 in
      let t = things_item.takes bytes a.0 a.1 in
      let u = things_item.takes a.0.1 b.0 b.1 in
      let w = (things end low).takes b.0.1 c.0 c.1 in
      let k : RegionEdge = record { edge = a.0.0; from = b.0.0; to = c.0.0 } in
      subst (λ (y : RegionEdge × List ℕ). IsEdge y.0 × (bytes ≡ text y.0 ++ y.1)) (some_is (k, c.0.1) x c.2) (
        record { edge = t.0; from = u.0; to = w.0 },
        glue bytes (item a.0.0) a.0.1 (item b.0.0 ++ number_text end c.0.0) c.0.1 t.1
            (glue a.0.1 (item b.0.0) b.0.1 (number_text end c.0.0) c.0.1 u.1 w.1),
      )

  edge_again : (k : RegionEdge) (rest : List ℕ) → IsEdge k → edge_at end (text k ++ rest) ≡ Some (k, rest)
  unfolding edge_at
  edge_again k rest h =
      let to = number_text end k.to in
      bind_again (number_at 32 max_thing (text k ++ rest)) _ (k.edge, (item k.from ++ to) ++ rest)
      (then_again things_item k.edge (item k.from ++ to) rest h.edge)
      ∙ bind_again (number_at 32 max_thing ((item k.from ++ to) ++ rest)) _ (k.from, to ++ rest)
      (then_again things_item k.from to rest h.from)
      ∙ bind_again (number_at end max_thing (to ++ rest)) _ (k.to, rest) ((things end low).again k.to rest h.to)

  pub edges : Parses IsEdge text (edge_at end)
  edges = record { takes = edge_takes; again = edge_again }

edges_item : Parses IsEdge (edge_text item) (edge_at 32)
edges_item = edges 32 (omega arith)

edges_last : Parses IsEdge (edge_text last) (edge_at 10)
edges_last = edges 10 (omega arith)

-- Moves

split_takes : (bytes : List ℕ) (x : PureMove × List ℕ) → split_at bytes ≡ Some x → IsMove x.0 × (bytes ≡ move_text x.0 ++ x.1)
unfolding split_at
split_takes bytes x e =
    let a = bind_is (tag_at (codes "split ") bytes) _ x e in
    let b = bind_is (edge_at 10 a.0) _ x a.2 in
    let c = bind_is (cube_at b.0.1) _ x b.2 in
    let t = edges_last.takes a.0 b.0 b.1 in
    let u = cubes.takes b.0.1 c.0 c.1 in
    subst (λ (y : PureMove × List ℕ). IsMove y.0 × (bytes ≡ move_text y.0 ++ y.1)) (some_is (split b.0.0 c.0.0, c.0.1) x c.2) (
      (t.0, u.0),
      glue bytes (codes "split ") a.0 (edge_text last b.0.0 ++ cube_text c.0.0) c.0.1 (tag_takes (codes "split ") bytes a.0 a.1)
          (glue a.0 (edge_text last b.0.0) b.0.1 (cube_text c.0.0) c.0.1 t.1 u.1),
    )

split_again : (k : RegionEdge) (atoms : List Atom) (rest : List ℕ) → IsMove (split k atoms) →
    split_at (move_text (split k atoms) ++ rest) ≡ Some (split k atoms, rest)
unfolding split_at
split_again k atoms rest h =
    bind_again (tag_at (codes "split ") (move_text (split k atoms) ++ rest)) _ ((edge_text last k ++ cube_text atoms) ++ rest)
    (tag_then (codes "split ") (edge_text last k ++ cube_text atoms) rest)
    ∙ bind_again (edge_at 10 ((edge_text last k ++ cube_text atoms) ++ rest)) _ (k, cube_text atoms ++ rest)
    (then_again edges_last k (cube_text atoms) rest h.0)
    ∙ bind_again (cube_at (cube_text atoms ++ rest)) _ (atoms, rest) (cubes.again atoms rest h.1)

kill_takes : (bytes : List ℕ) (x : PureMove × List ℕ) → kill_at bytes ≡ Some x → IsMove x.0 × (bytes ≡ move_text x.0 ++ x.1)
unfolding kill_at
kill_takes bytes x e =
    let a = bind_is (tag_at (codes "kill ") bytes) _ x e in
    let b = bind_is (edge_at 10 a.0) _ x a.2 in
    let c = bind_is (certificate_at b.0.1) _ x b.2 in
    let t = edges_last.takes a.0 b.0 b.1 in
    let u = certificates.takes b.0.1 c.0 c.1 in
    subst (λ (y : PureMove × List ℕ). IsMove y.0 × (bytes ≡ move_text y.0 ++ y.1)) (some_is (kill b.0.0 c.0.0, c.0.1) x c.2) (
      (t.0, u.0),
      glue bytes (codes "kill ") a.0 (edge_text last b.0.0 ++ refutation_text c.0.0) c.0.1 (tag_takes (codes "kill ") bytes a.0 a.1)
          (glue a.0 (edge_text last b.0.0) b.0.1 (refutation_text c.0.0) c.0.1 t.1 u.1),
    )

kill_again : (k : RegionEdge) (c : Refutation) (rest : List ℕ) → IsMove (kill k c) → kill_at (move_text (kill k c) ++ rest)
    ≡ Some (kill k c, rest)
unfolding kill_at
kill_again k c rest h =
    bind_again (tag_at (codes "kill ") (move_text (kill k c) ++ rest)) _ ((edge_text last k ++ refutation_text c) ++ rest)
    (tag_then (codes "kill ") (edge_text last k ++ refutation_text c) rest)
    ∙ bind_again (edge_at 10 ((edge_text last k ++ refutation_text c) ++ rest)) _ (k, refutation_text c ++ rest)
    (then_again edges_last k (refutation_text c) rest h.0)
    ∙ bind_again (certificate_at (refutation_text c ++ rest)) _ (c, rest) (certificates.again c rest h.1)

proofs : Parses (AreEach IsCertificate) (lines_text refutation_text) (lines_at certificate_at)
proofs = lines IsCertificate refutation_text certificate_at certificates

call_takes : (bytes : List ℕ) (x : PureMove × List ℕ) → call_at bytes ≡ Some x → IsMove x.0 × (bytes ≡ move_text x.0 ++ x.1)
unfolding call_at
call_takes bytes x e =
    let a = bind_is (tag_at (codes "call ") bytes) _ x e in
    let b = bind_is (edge_at 32 a.0) _ x a.2 in
    let c = bind_is (number_at 32 max_thing b.0.1) _ x b.2 in
    let d = bind_is (lines_at certificate_at c.0.1) _ x c.2 in
    let t = edges_item.takes a.0 b.0 b.1 in
    let u = things_item.takes b.0.1 c.0 c.1 in
    let w = proofs.takes c.0.1 d.0 d.1 in
    let tail = item c.0.0 ++ lines_text refutation_text d.0.0 in
    subst (λ (y : PureMove × List ℕ). IsMove y.0 × (bytes ≡ move_text y.0 ++ y.1)) (some_is (kill_call b.0.0 c.0.0 d.0.0, d.0.1) x d.2) (
      (t.0, u.0, w.0),
      glue bytes (codes "call ") a.0 (edge_text item b.0.0 ++ tail) d.0.1 (tag_takes (codes "call ") bytes a.0 a.1)
          (glue a.0 (edge_text item b.0.0) b.0.1 tail d.0.1 t.1 (glue b.0.1 (item c.0.0) c.0.1 (lines_text refutation_text d.0.0) d.0.1 u.1
          w.1)),
    )

call_again : (k : RegionEdge) (n : ℕ) (cs : List Refutation) (rest : List ℕ) → IsMove (kill_call k n cs) →
    call_at (move_text (kill_call k n cs) ++ rest) ≡ Some (kill_call k n cs, rest)
unfolding call_at
call_again k n cs rest h =
    let proof = lines_text refutation_text cs in
    bind_again (tag_at (codes "call ") (move_text (kill_call k n cs) ++ rest)) _ ((edge_text item k ++ (item n ++ proof)) ++ rest)
    (tag_then (codes "call ") (edge_text item k ++ (item n ++ proof)) rest)
    ∙ bind_again (edge_at 32 ((edge_text item k ++ (item n ++ proof)) ++ rest)) _ (k, (item n ++ proof) ++ rest)
    (then_again edges_item k (item n ++ proof) rest h.0)
    ∙ bind_again (number_at 32 max_thing ((item n ++ proof) ++ rest)) _ (n, proof ++ rest) (then_again things_item n proof rest h.1)
    ∙ bind_again (lines_at certificate_at (proof ++ rest)) _ (cs, rest) (proofs.again cs rest h.2)

move_takes : (bytes : List ℕ) (x : PureMove × List ℕ) → move_at bytes ≡ Some x → IsMove x.0 × (bytes ≡ move_text x.0 ++ x.1)
unfolding move_at
move_takes bytes x e = by_tests (begins 115 bytes) (begins 107 bytes) e where
  by_tests : (t u : Bool) → (if t then split_at bytes else (if u then kill_at bytes else call_at bytes)) ≡ Some x →
      IsMove x.0 × (bytes ≡ move_text x.0 ++ x.1)
  by_tests true u k = split_takes bytes x k
  by_tests false true k = kill_takes bytes x k
  by_tests false false k = call_takes bytes x k

move_again : (m : PureMove) (rest : List ℕ) → IsMove m → move_at (move_text m ++ rest) ≡ Some (m, rest)
unfolding move_at
move_again (split k atoms) rest h = split_again k atoms rest h
move_again (kill k c) rest h = kill_again k c rest h
move_again (kill_call k n cs) rest h = call_again k n cs rest h

moves : Parses IsMove move_text move_at
moves = record { takes = move_takes; again = move_again }

moves_lines : Parses (AreEach IsMove) (λ ms. codes "moves " ++ lines_text move_text ms) (tagged_at (codes "moves ") move_at)
moves_lines = tagged IsMove move_text move_at moves (codes "moves ")

-- Exits

abbrev return_text : List ℕ
return_text = codes "return" ++ 10 ∷ []

exit_takes : (bytes : List ℕ) (x : ExitKind × List ℕ) → exit_at bytes ≡ Some x → IsExit x.0 × (bytes ≡ exit_text x.0 ++ x.1)
unfolding exit_at return_at fail_at
exit_takes bytes x e = by_test (begins 114 bytes) e where
  by_return : return_at bytes ≡ Some x → IsExit x.0 × (bytes ≡ exit_text x.0 ++ x.1)
  by_return k =
      let a = bind_is (tag_at return_text bytes) _ x k in
      subst (λ (y : ExitKind × List ℕ). IsExit y.0 × (bytes ≡ exit_text y.0 ++ y.1)) (some_is (Return, a.0) x a.2)
      (tt, tag_takes return_text bytes a.0 a.1)

  by_fail : fail_at bytes ≡ Some x → IsExit x.0 × (bytes ≡ exit_text x.0 ++ x.1)
  by_fail k =
      let a = bind_is (tag_at (codes "fail ") bytes) _ x k in
      let b = bind_is (number_at 10 max_thing a.0) _ x a.2 in
      let t = things_last.takes a.0 b.0 b.1 in
      subst (λ (y : ExitKind × List ℕ). IsExit y.0 × (bytes ≡ exit_text y.0 ++ y.1)) (some_is (Fail b.0.0, b.0.1) x b.2)
      (t.0, glue bytes (codes "fail ") a.0 (last b.0.0) b.0.1 (tag_takes (codes "fail ") bytes a.0 a.1) t.1)

  by_test : (t : Bool) → (if t then return_at bytes else fail_at bytes) ≡ Some x → IsExit x.0 × (bytes ≡ exit_text x.0 ++ x.1)
  by_test true k = by_return k
  by_test false k = by_fail k

exit_again : (x : ExitKind) (rest : List ℕ) → IsExit x → exit_at (exit_text x ++ rest) ≡ Some (x, rest)
unfolding exit_at return_at fail_at
exit_again Return rest h = bind_again (tag_at return_text (return_text ++ rest)) _ rest (tag_again return_text rest)
exit_again (Fail id) rest h =
    bind_again (tag_at (codes "fail ") (exit_text (Fail id) ++ rest)) _ (last id ++ rest) (tag_then (codes "fail ") (last id) rest)
    ∙ bind_again (number_at 10 max_thing (last id ++ rest)) _ (id, rest) (things_last.again id rest h)

exits : Parses IsExit exit_text exit_at
exits = record { takes = exit_takes; again = exit_again }

-- Claims

claim_takes : (bytes : List ℕ) (x : PureClaim × List ℕ) → claim_at bytes ≡ Some x → IsClaim x.0 × (bytes ≡ claim_text x.0 ++ x.1)
unfolding claim_at
claim_takes bytes x e =
    let a = bind_is (tag_at (codes "claim ") bytes) _ x e in
    let b = bind_is (number_at 32 max_thing a.0) _ x a.2 in
    let c = bind_is (exit_at b.0.1) _ x b.2 in
    let d = bind_is (cube_at c.0.1) _ x c.2 in
    let g = bind_is (cube_at d.0.1) _ x d.2 in
    let m = bind_is (tagged_at (codes "moves ") move_at g.0.1) _ x g.2 in
    let proc = things_item.takes a.0 b.0 b.1 in
    let exit = exits.takes b.0.1 c.0 c.1 in
    let start = cubes.takes c.0.1 d.0 d.1 in
    let end = cubes.takes d.0.1 g.0 g.1 in
    let ms = moves_lines.takes g.0.1 m.0 m.1 in
    let claim : PureClaim = record {
      query = record { proc = b.0.0; exit = c.0.0; start = record { atoms = d.0.0 }; end = record { atoms = g.0.0 } };
      moves = m.0.0;
    } in
    let moved = codes "moves " ++ lines_text move_text m.0.0 in
    let ended = cube_text g.0.0 ++ moved in
    let started = cube_text d.0.0 ++ ended in
    let left = exit_text c.0.0 ++ started in
    subst (λ (y : PureClaim × List ℕ). IsClaim y.0 × (bytes ≡ claim_text y.0 ++ y.1)) (some_is (claim, m.0.1) x m.2) (
      record { proc = proc.0; exit = exit.0; start = start.0; end = end.0; moves = ms.0 },
      glue bytes (codes "claim ") a.0 (item b.0.0 ++ left) m.0.1 (tag_takes (codes "claim ") bytes a.0 a.1)
          (glue a.0 (item b.0.0) b.0.1 left m.0.1 proc.1
          (glue b.0.1 (exit_text c.0.0) c.0.1 started m.0.1 exit.1
          (glue c.0.1 (cube_text d.0.0) d.0.1 ended m.0.1 start.1 (glue d.0.1 (cube_text g.0.0) g.0.1 moved m.0.1 end.1 ms.1)))),
    )

claim_again : (c : PureClaim) (rest : List ℕ) → IsClaim c → claim_at (claim_text c ++ rest) ≡ Some (c, rest)
unfolding claim_at
claim_again c rest h =
    let moved = codes "moves " ++ lines_text move_text c.moves in
    let ended = cube_text c.query.end.atoms ++ moved in
    let started = cube_text c.query.start.atoms ++ ended in
    let left = exit_text c.query.exit ++ started in
    bind_again (tag_at (codes "claim ") (claim_text c ++ rest)) _ ((item c.query.proc ++ left) ++ rest)
    (tag_then (codes "claim ") (item c.query.proc ++ left) rest)
    ∙ bind_again (number_at 32 max_thing ((item c.query.proc ++ left) ++ rest)) _ (c.query.proc, left ++ rest)
    (then_again things_item c.query.proc left rest h.proc)
    ∙ bind_again (exit_at (left ++ rest)) _ (c.query.exit, started ++ rest) (then_again exits c.query.exit started rest h.exit)
    ∙ bind_again (cube_at (started ++ rest)) _ (c.query.start.atoms, ended ++ rest) (then_again cubes c.query.start.atoms ended rest
    h.start)
    ∙ bind_again (cube_at (ended ++ rest)) _ (c.query.end.atoms, moved ++ rest) (then_again cubes c.query.end.atoms moved rest h.end)
    ∙ bind_again (tagged_at (codes "moves ") move_at (moved ++ rest)) _ (c.moves, rest) (moves_lines.again c.moves rest h.moves)

pub claims : Parses IsClaim claim_text claim_at
claims = record { takes = claim_takes; again = claim_again }
