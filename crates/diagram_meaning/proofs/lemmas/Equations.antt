-- The equation of each row at a tick.
use Rattle.std.specs.Prelude.{◌≡◌, ℕ, ◌<◌, true, List, [], length, Option, ℤ, pos, if◌then◌else◌}
use Rattle.std.proofs.Common.{◌∙◌, ap}
use Rattle.diagram_activity.specs.declared.TrigMem.{TrigMem}
use Rattle.diagram_activity.specs.declared.TrigMem.TheVariants.{NotYet}
use Rattle.diagram_meaning.specs.Rows.{is_inside}
use Rattle.diagram_meaning.specs.Diagram.{Diagram}
use Rattle.diagram_meaning.specs.Run.{value_at, memory_at, trigger_at, row_value, row_memory, row_trigger, has_memory, has_trigger, IsTick}
use Rattle.diagram_meaning.proofs.lemmas.ByRow.{by_row-at}

module _ (d : Diagram) (s : Option ℕ) (t : ℕ) (x before : List ℤ) (m : List (List ℤ)) (g : List TrigMem) (v : List ℤ)
    (m' : List (List ℤ)) (g' : List TrigMem) (tick : IsTick d s t x before m g v m' g') (b : ℕ)
    (h : b < length d.rows) where
  pub value-of_row : is_inside d.rows s b ≡ true → value_at v b ≡ row_value d s t x before m g v b
  value-of_row inside =
      ap (λ l. value_at l b) tick.values
      ∙ by_row-at d.rows (λ c. if is_inside d.rows s c then row_value d s t x before m g v c else pos 0) b (pos 0) h
      ∙ ap (λ i. if i then row_value d s t x before m g v b else pos 0) inside

  pub memory-of_row : has_memory d s b ≡ true → memory_at m' b ≡ row_memory d s t x m g v b
  memory-of_row has =
      ap (λ l. memory_at l b) tick.memories
      ∙ by_row-at d.rows (λ c. if has_memory d s c then row_memory d s t x m g v c else []) b [] h
      ∙ ap (λ i. if i then row_memory d s t x m g v b else []) has

  pub trigger-of_row : has_trigger d s b ≡ true → trigger_at g' b ≡ row_trigger d s x g v b
  trigger-of_row has =
      ap (λ l. trigger_at l b) tick.triggers
      ∙ by_row-at d.rows (λ c. if has_trigger d s c then row_trigger d s x g v c else NotYet) b NotYet h
      ∙ ap (λ i. if i then row_trigger d s x g v b else NotYet) has
