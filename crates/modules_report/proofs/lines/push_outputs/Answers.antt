use Rattle.std.proofs.Common.{◌≡◌, ℕ, ◌+◌, ◌-◌, ◌∷◌, [], ◌++◌, ◌≤◌, Bool, true, false, cond, List, map, filter, sym, ap, ◌∙◌, arith}
use Rattle.std.specs.Prelude.{decimal}
use Rattle.std.specs.List.{range_with_len}
use Rattle.std.specs.String.{string_bytes}
use Rattle.base_core.specs.Ports.{has_bit}
use Rattle.modules_report.proofs.Words.{kept_numbers-more, with-word, without-word}
use Rattle.modules_report.proofs.lines.push_outputs.Goals as goal
use Rattle.modules_report.proofs.lines.push_outputs.Goals.{then-has+in_ok-write, else-has}

abbrev members : ℕ → ℕ → List (List ℕ)
members mask n = map decimal (filter (λ k. has_bit mask (k - 1)) (range_with_len 1 n))

one-more : (mask k : ℕ) (t : Bool) → has_bit mask (k - 1) ≡ t → 1 ≤ k →
    members mask (k + 1 - 1) ≡ members mask (k - 1) ++ cond t (decimal k ∷ []) []
one-more mask k t is some =
    kept_numbers-more (λ k. has_bit mask (k - 1)) decimal k some ∙ ap (λ t. members mask (k - 1) ++ cond t (decimal k ∷ []) []) is

tested : (c : goal.Joined-has) (t : Bool) → c.has.result ≡ t → has_bit c.args.mask (c.loop-k.k-counter - 1) ≡ t
tested c t e = ap (λ m. has_bit m (c.loop-k.k-counter - 1)) (sym c.from.ensures) ∙ sym c.has.ensures ∙ e

pub loop-k-preserved : goal.loop-k-preserved
loop-k-preserved c =
    let k : ℕ = c.loop-k.k-counter in
    let some : 1 ≤ k = omega arith in
    elim c.if-has.branch [
      | then-has+in_ok-write w ↦
          with-word (string_bytes c.args.out.now) (string_bytes c.loop-k.out) (string_bytes c.if-has.out) (members c.args.mask
          (k - 1)) (members c.args.mask (k + 1 - 1)) (decimal k) c.loop-k.any c.if-has.any
          (one-more c.args.mask k true (tested c true w.if-has.true) some) c.loop-k.invariant.0 (ap (λ s. string_bytes s) w.out-is
          ∙ w.in_ok-write.ensures.bytes) w.any-is
      | else-has w ↦
          without-word (string_bytes c.args.out.now) (string_bytes c.loop-k.out) (string_bytes c.if-has.out) (members c.args.mask
          (k - 1)) (members c.args.mask (k + 1 - 1)) (decimal k) c.loop-k.any c.if-has.any
          (one-more c.args.mask k false (tested c false w.if-has.false) some) c.loop-k.invariant (ap
          (λ s. string_bytes s) w.out-is) w.any-is
    ]
