-- The run of a delay's model: the right program gives its outputs, and one whose memory is stored early is refused.
use Rattle.std.specs.Prelude.{◌≡◌, refl, ℕ, ◌==◌, false, List, [], ◌∷◌, map, replicate, slice_index_or, None, pos, nat_abs, ℤ}
use Rattle.std.specs.Fmt.{digits}
use Rattle.std.proofs.Common.{sym, ap, ◌∙◌, true≢false}
use Rattle.std.proofs.lemmas.Bool.{eq-eqb}
use Rattle.diagram_activity.specs.declared.TrigMem.TheVariants.{NotYet}
use Rattle.diagram_meaning.specs.Laws.{Run, IsRunOver, HasOneRun}
use Rattle.diagram_meaning.specs.Run.{outs}
use Rattle.right_claim.specs.Right.{GivesOutputs}
use Rattle.right_claim.specs.DelaySamples.{one_delay, delay_program, early_memory, delay_trace}

abbrev remembers : ℤ → List (List ℤ)
remembers v = [] ∷ (v ∷ []) ∷ [] ∷ []

abbrev delay_run : Run
delay_run = record {
  values = (pos 5 ∷ pos 0 ∷ pos 0 ∷ []) ∷ (pos 6 ∷ pos 5 ∷ pos 5 ∷ []) ∷ (pos 7 ∷ pos 6 ∷ pos 6 ∷ []) ∷ [];
  memories = remembers (pos 0) ∷ remembers (pos 5) ∷ remembers (pos 6) ∷ remembers (pos 7) ∷ [];
  triggers = replicate 4 (replicate 3 NotYet);
}

is_delay_run : IsRunOver one_delay None delay_trace delay_run
is_delay_run = (
  refl,
  refl,
  (
    record { values = refl; memories = refl; triggers = refl },
    (
      record { values = refl; memories = refl; triggers = refl },
      (record { values = refl; memories = refl; triggers = refl }, tt),
    ),
  ),
)

-- the outputs of the one run
run-outputs : (one : HasOneRun one_delay None delay_trace) → map (outs one_delay None) one.run.values ≡ (pos 0 ∷ [])
    ∷ (pos 5 ∷ []) ∷ (pos 6 ∷ []) ∷ []
run-outputs one = ap (λ (run : Run). map (outs one_delay None) run.values) (sym (one.only delay_run is_delay_run))

gives : HasOneRun one_delay None delay_trace → GivesOutputs delay_program one_delay delay_trace
unfolding digits
gives one = record { one_run = one; outputs = sym (run-outputs one) }

second-of : List (List ℤ) → ℤ
second-of xs = slice_index_or (slice_index_or xs 1 []) 0 (pos 0)

apart : (a b : ℕ) → (a == b) ≡ false → a ≡ b → ⊥
apart a b differ e = true≢false (sym (eq-eqb a b e) ∙ differ)

early : GivesOutputs early_memory one_delay delay_trace → ⊥
unfolding digits second-of
early h = apart 0 5 refl (ap (λ xs. nat_abs (second-of xs)) (h.outputs ∙ run-outputs h.one_run))
