use Rattle.std.proofs.Common.{◌≡◌, ℕ, ◌+◌, ◌*◌, ◌%◌, ◌^◌, ◌<◌, Bool, true, false, cond, eqb, List, map, length, get_or, take, bit_or, refl, sym, ap, subst, ◌∙◌, arith}
use Rattle.std.proofs.lemmas.Bool.{eq-eqb, ne_eqb}
use Rattle.std.proofs.lemmas.Grind.{one_shifted}
use Rattle.std.proofs.lemmas.List.{length-map, length-take-le, map_more}
use Rattle.modules_profile.specs.Functions.{mask_of}
use Rattle.modules_profile.proofs.lemmas.Masks.{mask-bound, mask-more, or_next}
use Rattle.modules_profile.proofs.functions.function_for.Goals as goal
use Rattle.modules_profile.proofs.functions.function_for.Goals.{then-mask-inputs, else-mask-inputs}

module _ (needs : List ℕ) (inputs k : ℕ) (within : k < length needs) where
  -- which of the first outputs need just these inputs
  abbrev bits : ℕ → List Bool
  bits n = map (λ m. eqb m inputs) (take n needs)

  len : length (bits k) ≡ k
  len = length-map (take k needs) (λ m. eqb m inputs) ∙ length-take-le k needs (omega arith)

  next : (b : Bool) → eqb (get_or needs k 0) inputs ≡ b → mask_of (bits (k + 1)) ≡ mask_of (bits k) + cond b (2 ^ k) 0
  next b e = ap mask_of (map_more (λ m. eqb m inputs) needs k 0 within) ∙ mask-more (bits k) (eqb (get_or needs k 0) inputs)
      ∙ ap (λ r. mask_of (bits k) + cond r (2 ^ length (bits k)) 0) e ∙ ap (λ n. mask_of (bits k) + cond b (2 ^ n) 0) len

  with : k < 32 → (outputs : ℕ) → outputs ≡ mask_of (bits k) → eqb (get_or needs k 0) inputs ≡ true →
      bit_or outputs (1 * 2 ^ k % 2 ^ 32) ≡ mask_of (bits (k + 1))
  with few outputs so_far e =
      ap (bit_or outputs) (one_shifted k 4294967295 refl few).0
      ∙ or_next outputs k
      (subst (λ m. m < 2 ^ k) (sym so_far) (subst (λ n. mask_of (bits k) < 2 ^ n) len (mask-bound (bits k))))
      ∙ ap (λ m. m + 2 ^ k) so_far ∙ sym (next true e)

  apart : (outputs : ℕ) → outputs ≡ mask_of (bits k) → eqb (get_or needs k 0) inputs ≡ false → outputs ≡ mask_of (bits (k + 1))
  apart outputs so_far e = so_far ∙ (let none : mask_of (bits k) ≡ mask_of (bits k) + 0 = omega arith in none) ∙ sym (next false e)

pub loop-k-preserved : goal.loop-k-preserved
loop-k-preserved c = elim c.if-mask-inputs.branch [
  | then-mask-inputs w ↦ w.outputs-is
      ∙ with c.args.needs.now c.args.inputs c.loop-k.k c.loop-k-test.true (let few = c.requires in
      let t = c.loop-k-test.true in omega arith) c.loop-k.outputs c.loop-k.invariant
      (eq-eqb (get_or c.args.needs.now c.loop-k.k 0) c.args.inputs w.if-mask-inputs.true)
  | else-mask-inputs w ↦ w.outputs-is
      ∙ apart c.args.needs.now c.args.inputs c.loop-k.k c.loop-k-test.true c.loop-k.outputs c.loop-k.invariant
      (ne_eqb (get_or c.args.needs.now c.loop-k.k 0) c.args.inputs w.if-mask-inputs.false)
]
