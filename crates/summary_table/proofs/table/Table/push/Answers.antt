use Rattle.std.proofs.Common.{◌≡◌, ◌<◌, ◌++◌, ◌∷◌, [], List, Some, None, length, map, ap, refl, arith, ◌∙◌}
use Rattle.std.specs.Arc.{arc_value}
use Rattle.std.specs.Prelude.{slice_get, slice_set, vec_capacity, vec_len}
use Rattle.std.proofs.lemmas.List.{length-map, map-append}
use Rattle.std.proofs.lemmas.Option.{slice_get_read}
use Rattle.summary_form.specs.declared.summary.Summary.{Summary}
use Rattle.summary_table.specs.Tables.{Listed, exit_of, proc_of}
use Rattle.summary_table.specs.steps.Chains.{key_of}
use Rattle.summary_table.specs.declared.table.Table.TheInside.{Inside}
use Rattle.summary_table.proofs.Chains.{last_within, linked_behind, linked_first}
use Rattle.summary_table.proofs.table.Table.push.Goals.{in-None, in-Some}
use Rattle.summary_table.proofs.table.Table.push.Goals as goal

pub index_mut-requires-in-Some : goal.index_mut-requires-in-Some
index_mut-requires-in-Some c =
    let o = c.self.inside in
    let table : List Summary = map arc_value o.summaries.items in
    let h = c.self.invariant.4 in
    let key = c.key_of_summary-key.ensures.key ∙ ap (λ (s : Summary). key_of (proc_of s) (exit_of s)) c.deref.ensures in
    let last : slice_get o.last.items c.key_of_summary-key.result ≡ Some (Some c.in-Some.before) =
    slice_get_read o.last.items (length o.last.items) c.key_of_summary-key.result c.index.result.now refl
    (omega (arith, h.lasts, c.key_of_summary-key.ensures.within)) c.index.ensures ∙ ap Some c.in-Some.is in
    let low : c.in-Some.before < length o.next.items =
    last_within table o.first.items o.last.items o.next.items c.args.summary.value c.key_of_summary-key.result (length table) h
    c.requires.numbers key refl _ [] _ [] refl refl c.in-Some.before last in
    omega (arith, low, o.next.ok.0)

pub invariant_of-self : goal.invariant_of-self
invariant_of-self c =
    let o = c.self.inside in
    let i = c.match-index.self-inside in
    let s : Summary = c.args.summary.value in
    let table : List Summary = map arc_value o.summaries.items in
    let h = c.self.invariant.4 in
    let key = c.key_of_summary-key.ensures.key ∙ ap (λ (x : Summary). key_of (proc_of x) (exit_of x)) c.deref.ensures in
    let place : c.len-place.result ≡ length table = omega (
      arith,
      c.len-place.ensures,
      o.summaries.ok.0,
      length-map o.summaries.items
          arc_value,
    )
    in
    let last : slice_get o.last.items c.key_of_summary-key.result ≡ Some c.index.result.now =
    slice_get_read o.last.items (length o.last.items) c.key_of_summary-key.result c.index.result.now refl
    (omega (arith, h.lasts, c.key_of_summary-key.ensures.within)) c.index.ensures in
    let full : length table < o.room =
    omega (arith, c.requires.room, ap (λ (t : Listed). length t.summaries) c.self.view_is, ap (λ (t : Listed). t.room) c.self.view_is) in
    let added : c.push_reserved-2.new.self.items ≡ i.summaries.items ++ c.args.summary ∷ [] = c.push_reserved-2.ensures.items in
    let few : vec_len o.summaries < o.room = omega (arith, full, o.summaries.ok.0, length-map o.summaries.items arc_value) in
    elim c.match-index.branch [
      | in-None w ↦
          let e = w.self-inside-is in
          let room = ap (λ (x : Inside). x.room) e in (
            omega (arith, few, room, c.push_reserved-2.ensures.len, ap (λ (x : Inside). vec_len x.summaries) e),
            omega (arith, room, c.push_reserved-2.ensures.capacity, ap (λ (x : Inside). vec_capacity x.summaries) e, c.self.invariant.1),
            omega (arith, room, c.self.invariant.2),
            omega (arith, room, c.push_reserved.ensures.capacity, ap (λ (x : Inside). vec_capacity x.next) e, c.self.invariant.3),
            linked_first table o.first.items o.last.items o.next.items s c.key_of_summary-key.result c.len-place.result h c.requires.numbers
                key
                place _ _ _ _
                (ap (map arc_value) added ∙ (map-append arc_value i.summaries.items (c.args.summary ∷ [])
                ∙ ap (λ (x : Inside). map arc_value x.summaries.items ++ s ∷ []) e))
                (ap (λ (x : Inside). slice_set x.last.items c.key_of_summary-key.result (Some c.len-place.result)) e)
                (last ∙ ap Some w.in-None.is) (ap (λ (x : Inside). x.first.items) e)
                (c.push_reserved.ensures.items ∙ ap (λ (x : Inside). x.next.items ++ None ∷ []) e),
          )
      | in-Some w ↦
          let e = w.self-inside-is in
          let room = ap (λ (x : Inside). x.room) e in (
            omega (arith, few, room, c.push_reserved-2.ensures.len, ap (λ (x : Inside). vec_len x.summaries) e),
            omega (arith, room, c.push_reserved-2.ensures.capacity, ap (λ (x : Inside). vec_capacity x.summaries) e, c.self.invariant.1),
            omega (arith, room, c.self.invariant.2),
            omega (arith, room, c.push_reserved.ensures.capacity, ap (λ (x : Inside). vec_capacity x.next) e, c.self.invariant.3),
            linked_behind table o.first.items o.last.items o.next.items s c.key_of_summary-key.result c.len-place.result h
                c.requires.numbers
                key place _ _ _ _
                (ap (map arc_value) added ∙ (map-append arc_value i.summaries.items (c.args.summary ∷ [])
                ∙ ap (λ (x : Inside). map arc_value x.summaries.items ++ s ∷ []) e))
                (ap (λ (x : Inside). slice_set x.last.items c.key_of_summary-key.result (Some c.len-place.result)) e) w.in-Some.before
                (last ∙ ap Some w.in-Some.is) (ap (λ (x : Inside). x.first.items) e)
                (c.push_reserved.ensures.items ∙ ap (λ (x : Inside). x.next.items ++ None ∷ []) e),
          )
    ]
