-- What is written of a refusal is what the bytes ask for.
use Rattle.std.proofs.Common.{◌≡◌, List, ℕ, ◌∙◌}
use Rattle.report_text.specs.declared.fault.Refusal.{Refusal}
use Rattle.report_text.specs.Refused.{refusal_text}
use Rattle.source_program.specs.Rejections.{IsRefusedFor}
use Rattle.smash_run.specs.Analysis.{Witness, no_witness}
use Rattle.smash_run.specs.Asked.{AsksRefusal}

pub asks_refusal : (bytes : List ℕ) (why : Refusal) → IsRefusedFor bytes why → (status : ℕ) (text : List ℕ) (w : Witness) → status ≡ 3 →
    text ≡ refusal_text why → w ≡ no_witness → AsksRefusal bytes status text w
asks_refusal bytes why h status text w three told nothing = record {
  at = h.at;
  why = h.text;
  refused = h.refused;
  is_three = three;
  told = told ∙ h.told;
  nothing = nothing;
}
