-- Passes over the rows of a table, row by row.
use Rattle.std.proofs.Common.{◌≡◌, sym, ◌∙◌, ap, ℕ, zero, suc, ◌+◌, ◌-◌, ◌<◌, ◌≤◌, ◌∷◌, Option, None, arith}
use Rattle.std.specs.List.{range_with_len}
use native.Mathlib.Decide.{ℕ_discrete}
use Rattle.base_refusals.specs.Refusals.{PlainRefusal}
use Rattle.base_refusals.specs.FirstRefusal.{earlier_of, least_in}
use Rattle.base_refusals.proofs.lemmas.FirstRefusals.{earlier_assoc, earlier-none, none-first, none-later}

-- the rows from b on
rows_from : (n b : ℕ) → b < n → range_with_len b (n - b) ≡ b ∷ range_with_len (b + 1) (n - (b + 1))
rows_from n b h = ap (range_with_len b) (let e : n - b ≡ suc (n - (b + 1)) = omega arith in e)

-- one row more is looked at
pub least-more : (found : ℕ → Option PlainRefusal) (n b : ℕ) (before after whole : Option PlainRefusal) → b < n →
    after ≡ earlier_of before (found b) →
    earlier_of before (least_in found (range_with_len b (n - b))) ≡ whole →
    earlier_of after (least_in found (range_with_len (b + 1) (n - (b + 1)))) ≡ whole
least-more found n b before after whole h e all =
    ap (λ o. earlier_of o (least_in found (range_with_len (b + 1) (n - (b + 1))))) e
    ∙ earlier_assoc before (found b) (least_in found (range_with_len (b + 1) (n - (b + 1))))
    ∙ ap (λ xs. earlier_of before (least_in found xs)) (sym (rows_from n b h)) ∙ all

-- all are looked at
pub least-end : (found : ℕ → Option PlainRefusal) (n b : ℕ) (before whole : Option PlainRefusal) → n ≤ b →
    earlier_of before (least_in found (range_with_len b (n - b))) ≡ whole → before ≡ whole
least-end found n b before whole h all =
    sym (earlier-none before)
    ∙ ap (λ k. earlier_of before (least_in found (range_with_len b k))) (let e : 0 ≡ n - b = omega arith in e) ∙ all

-- where a pass finds nothing it finds nothing at any row
pub none-found : (found : ℕ → Option PlainRefusal) (n a b : ℕ) → least_in found (range_with_len a n) ≡ None → a ≤ b →
    b < a + n → found b ≡ None
none-found found zero a b e low high = absurd (omega arith)
none-found found (suc n) a b e low high = by (none-found found n (a + 1) b (none-later (found a) _ e))
  where
    by : (a + 1 ≤ b → b < a + 1 + n → found b ≡ None) → found b ≡ None
    by rest = elim (ℕ_discrete b a) [
      | yes same ↦ ap found same ∙ none-first (found a) _ e
      | no differ ↦ rest (omega arith) (omega arith)
    ]
