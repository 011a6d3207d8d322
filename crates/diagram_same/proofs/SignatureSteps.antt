-- The signature of the rows so far.
use Rattle.std.specs.Prelude.{◌≡◌, ℕ, zero, suc, ◌+◌, ◌-◌, ◌<◌, ◌≤◌, fold}
use Rattle.std.specs.List.{range_with_len}
use Rattle.std.proofs.Common.{sym, ◌∙◌, ap, arith}
use Rattle.diagram_meaning.specs.Diagram.{Diagram}
use Rattle.diagram_same.specs.Interiors.{IsInterior}
use Rattle.diagram_same.specs.Signatures.{mixed, row_number, signature_of, signature_of_rows}

fold-more : (f : ℕ → ℕ → ℕ) (sum a n : ℕ) → fold f sum (range_with_len a (suc n)) ≡ f (fold f sum (range_with_len a n)) (a + n)
fold-more f sum a zero = ap (f sum) (omega arith)
fold-more f sum a (suc n) =
    fold-more f (f sum a) (a + 1) n ∙ ap (f (fold f (f sum a) (range_with_len (a + 1) n))) (omega arith)

-- the signature of the rows from the first on and before b
abbrev pub IsSum : Diagram → (first b sum : ℕ) → Type 0
IsSum d first b sum = (sum ≡ signature_of_rows d (range_with_len first (b - first))) × (sum < 2147483647)

pub sum-none : (d : Diagram) (first b : ℕ) → b ≡ first → IsSum d first b 1
sum-none d first b same =
    let none : b - first ≡ 0 = omega (arith, same) in
    (sym (ap (λ n. signature_of_rows d (range_with_len first n)) none), omega arith)

pub sum-more : (d : Diagram) (first b sum next : ℕ) → first ≤ b → IsSum d first b sum → next ≡ mixed sum (row_number d b) →
    next < 2147483647 → IsSum d first (b + 1) next
sum-more d first b sum next late was is below =
    let here : b ≡ first + (b - first) = omega (arith, late) in
    let long : suc (b - first) ≡ b + 1 - first = omega (arith, late) in (
      is
          ∙ ap (λ s. mixed s (row_number d b)) was.0
          ∙ ap (λ n. mixed (signature_of_rows d (range_with_len first (b - first))) (row_number d n)) here
          ∙ sym (fold-more (λ sum b. mixed sum (row_number d b)) 1 first (b - first))
          ∙ ap (λ n. signature_of_rows d (range_with_len first n)) long,
      below,
    )

pub sum-all : (d : Diagram) (e end sum : ℕ) → IsInterior d.rows e end → IsSum d (e + 1) end sum → sum ≡ signature_of d e
sum-all d e end sum inside was = was.0 ∙ sym (ap (signature_of_rows d) inside.is_range)
