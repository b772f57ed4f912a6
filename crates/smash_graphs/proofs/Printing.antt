-- How the program ends, put together.
use Rattle.std.proofs.Common.{◌≡◌, ◌⊎◌, ℕ, ◌+◌, List, sym, ◌∙◌, subst, arith, inl, inr}
use Rattle.outer_io.specs.Causes.{Took}
use Rattle.report_text.specs.Refused.{too_long_text}
use Rattle.source_program.specs.Ends.{Change, EndsWith, IsWhole}
use Rattle.source_program.specs.Source.{IsAccepted, source_limit}
use Rattle.source_program.proofs.Taking.{whole, at_most, took_whole}
use Rattle.smash_graphs.specs.Printed.{Prints, PrintsAll}
use Rattle.smash_graphs.specs.steps.Replies.{EndsAsAsked, EndsSilent}

module _ (status : ℕ) (source sink : Change) where
  pub read_ends : (bytes : List ℕ) → IsWhole source_limit source bytes → EndsAsAsked bytes status sink ⊎ EndsSilent status sink →
      Prints status source sink
  read_ends bytes read (inl e) =
      inl (record { bytes = bytes; read = read; due = e.due; text = e.text; asked = e.asked; settled = e.settled; ends = e.ends })
  read_ends bytes read (inr m) =
      inr (inr (inr (record {
        taken = took_whole source.before source.after bytes source_limit read.consumed read.fits;
        is_seven = m.is_seven;
        silent = m.silent;
      })))

  pub long_ends : Took source.before source.after (source_limit + 1) → EndsWith status sink 3 too_long_text ⊎ EndsSilent status sink →
      Prints status source sink
  long_ends took (inl e) = inr (inl (record { taken = took; ends = e }))
  long_ends took (inr m) =
      inr (inr (inr (record { taken = (source_limit + 1, omega arith, took); is_seven = m.is_seven; silent = m.silent })))

  -- where nothing fails, what is accepted is printed
  pub completes : Prints status source sink → PrintsAll status source sink
  completes (inl k) all told fits P accepted read_well write_well = ended k.ends
    where
      same : k.bytes ≡ all
      same = whole source.before source.after all k.bytes told k.read.consumed k.read.at_end

      ended : EndsWith status sink k.due k.text → (status ≡ 0) ⊎ (status ≡ 7)
      ended (inl e) = inl (e.0 ∙ (k.settled P (subst (λ bytes. IsAccepted bytes P) (sym same) accepted)).is_zero)
      ended (inr e) = absurd (write_well e.1)
  completes (inr (inl l)) all told fits P accepted read_well write_well =
      absurd (omega (arith, at_most source.before source.after all l.taken.0 told l.taken.1, l.taken.2, fits))
  completes (inr (inr (inl b))) all told fits P accepted read_well write_well = absurd (read_well b.failed)
  completes (inr (inr (inr m))) all told fits P accepted read_well write_well = inr m.is_seven
