-- A program that stores the memory of its delay early doesn't give what the file of the model gives.
use Rattle.std.specs.Prelude.{◌≡◌, refl, ℕ, ◌==◌, false, List, [], slice_index_or, pos, nat_abs, ℤ}
use Rattle.std.specs.Fmt.{digits}
use Rattle.std.proofs.Common.{sym, ap, ◌∙◌, true≢false}
use Rattle.std.proofs.lemmas.Bool.{eq-eqb}
use Rattle.right_claim.specs.DelaySamples.{one_delay, early_memory, delay_trace}
use Rattle.lustre_system.specs.File.{lustre_file}
use Rattle.lustre_agreement.specs.BackEnds.{GiveTheSame}

second-of : List (List ℤ) → ℤ
second-of xs = slice_index_or (slice_index_or xs 1 []) 0 (pos 0)

apart : (a b : ℕ) → (a == b) ≡ false → a ≡ b → ⊥
apart a b differ e = true≢false (sym (eq-eqb a b e) ∙ differ)

early : GiveTheSame (lustre_file one_delay 1) early_memory delay_trace → ⊥
unfolding digits second-of
early given = apart 5 0 refl (ap (λ xs. nat_abs (second-of xs)) given.same_outputs)
