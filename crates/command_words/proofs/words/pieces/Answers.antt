use Rattle.std.proofs.Common.{◌+◌, ℤ, drop, take, rules, sym, subst, arith}
use Rattle.std.proofs.lemmas.Int.{to_z-of_z}
use mir.Val.{to_z, of_z, SFits}
use mir.Syntax.{w64}
use Rattle.command_words.specs.Words.{ArePieces, IsPiece}
use Rattle.command_words.proofs.WordsRuns.{at_end, before_end, behind_first}
use Rattle.command_words.proofs.WordsLists.{Reading, no_piece, reading_last, reading_more}
use Rattle.command_words.proofs.words.pieces.Goals as goal

pub returns-in_default-clause-none : goal.returns-in_default-clause-none
returns-in_default-clause-none c zs h le =
    no_piece c.args.text.now c.loop-rest.rest.now c.loop-rest.values.items c.run_len-len.result c.loop-rest.invariant.reading
    c.run_len-len.ensures c.in_default.ensures.none zs h

pub returns-in-empty-clause-some : goal.returns-in-empty-clause-some
returns-in-empty-clause-some c =
    let rest = c.loop-rest.rest.now in
    let len = c.run_len-len.result in
    let z : ℤ = to_z w64 (of_z w64 c.in-Some.z) in
    let fits : SFits w64 c.in-Some.z = search rules in
    let piece : IsPiece (take len rest) z = subst (IsPiece (take len rest)) (sym (to_z-of_z w64 c.in-Some.z fits)) c.in-Some.ensures.some in
    let all = reading_last c.args.text.now rest c.loop-rest.values.items len c.loop-rest.invariant.reading c.run_len-len.ensures
    (at_end rest len c.run_len-len.ensures.within c.in-empty.len_below) z piece in
    let size = c.push.new.self.ok.0 in
    let more = c.in_ok-push.ensures.len in
    (subst (ArePieces c.args.text.now) (sym c.in_ok-push.ensures.items) all, omega (arith, size, more))

pub loop-rest-preserved : goal.loop-rest-preserved
loop-rest-preserved c =
    let text = c.args.text.now in
    let rest = c.loop-rest.rest.now in
    let len = c.run_len-len.result in
    let more = c.in_ok-push.ensures.len in
    let z : ℤ = to_z w64 (of_z w64 c.in-Some.z) in
    let fits : SFits w64 c.in-Some.z = search rules in
    let piece : IsPiece (take len rest) z = subst (IsPiece (take len rest)) (sym (to_z-of_z w64 c.in-Some.z fits)) c.in-Some.ensures.some in
    let all = reading_more text rest c.loop-rest.values.items len c.loop-rest.invariant.reading c.run_len-len.ensures
    (before_end rest len c.in-len1-up.len_at_least) z piece in
    record {
      few = omega (arith, more);
      reading = subst (λ x. Reading text x c.push.new.self.items) (sym (behind_first rest len))
          (subst (λ v. Reading text (drop (len + 1) rest) v) (sym c.in_ok-push.ensures.items) all);
    }
