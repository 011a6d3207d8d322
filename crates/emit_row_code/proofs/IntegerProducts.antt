-- Products of whole numbers are associative.
use Rattle.std.proofs.Common.{◌≡◌, refl, sym, ap, ◌∙◌, ℕ, zero, suc, ◌*◌, ℤ, pos, negsuc, neg_ℤ, ◌*ℤ◌, arith}
use Rattle.std.proofs.Math.IntN.{*ℤ_comm}
use Rattle.std.proofs.Math.Nat.{mul_assoc}
use Rattle.std.proofs.lemmas.Int.{ints}

twice : (v : ℤ) → v ≡ neg_ℤ (neg_ℤ v)
twice v = omega (arith, ints)

none : (n : ℕ) → n ≡ 0 → pos n ≡ neg_ℤ (pos n)
none n e = omega (arith, ints, e)

pub mul_neg : (x y : ℤ) → x *ℤ neg_ℤ y ≡ neg_ℤ (x *ℤ y)
mul_neg (pos a) (pos zero) = none (a * 0) (omega arith)
mul_neg (pos a) (pos (suc b)) = refl
mul_neg (pos a) (negsuc b) = twice (pos (a * suc b))
mul_neg (negsuc a) (pos zero) = ap neg_ℤ (none (suc a * 0) (omega arith))
mul_neg (negsuc a) (pos (suc b)) = twice (pos (suc a * suc b))
mul_neg (negsuc a) (negsuc b) = refl

neg_mul : (x y : ℤ) → neg_ℤ x *ℤ y ≡ neg_ℤ (x *ℤ y)
neg_mul x y = *ℤ_comm (neg_ℤ x) y ∙ mul_neg y x ∙ ap neg_ℤ (*ℤ_comm y x)

third : (a b : ℕ) (z : ℤ) → (pos a *ℤ pos b) *ℤ z ≡ pos a *ℤ (pos b *ℤ z)
third a b (pos c) = ap pos (mul_assoc a b c)
third a b (negsuc c) =
    let C = pos (suc c) in
    mul_neg (pos a *ℤ pos b) C ∙ ap neg_ℤ (ap pos (mul_assoc a b (suc c))) ∙ sym (mul_neg (pos a) (pos b *ℤ C))
    ∙ ap (λ n. pos a *ℤ n) (sym (mul_neg (pos b) C))

second : (a : ℕ) (y z : ℤ) → (pos a *ℤ y) *ℤ z ≡ pos a *ℤ (y *ℤ z)
second a (pos b) z = third a b z
second a (negsuc b) z =
    let B = pos (suc b) in
    ap (λ n. n *ℤ z) (mul_neg (pos a) B) ∙ neg_mul (pos a *ℤ B) z ∙ ap neg_ℤ (third a (suc b) z)
    ∙ sym (mul_neg (pos a) (B *ℤ z)) ∙ ap (λ n. pos a *ℤ n) (sym (neg_mul B z))

pub product_assoc : (x y z : ℤ) → (x *ℤ y) *ℤ z ≡ x *ℤ (y *ℤ z)
product_assoc (pos a) y z = second a y z
product_assoc (negsuc a) y z =
    let A = pos (suc a) in
    ap (λ n. n *ℤ z) (neg_mul A y) ∙ neg_mul (A *ℤ y) z ∙ ap neg_ℤ (second (suc a) y z) ∙ sym (neg_mul A (y *ℤ z))
