-- What led to a result.
use Rattle.std.proofs.Common.{◌≡◌, refl, ℕ, Bool, true, false, if◌then◌else◌}
use Rattle.c_syntax.specs.declared.Stuck.{Stuck}
use Rattle.c_semantics.specs.Values.{Answer, gives, sticks, and_then}

pub given-same : {A : Type 0} (x y : A) (m n : ℕ) → gives x m ≡ gives y n → x ≡ y
given-same x y m n is = cc

-- a first result, and what went on with it
pub given-first : {A B : Type 0} (first : Answer A) (go : A → ℕ → Answer B) (y : B) (end : ℕ) → and_then first go ≡ gives y end →
    (x : A) × (mid : ℕ) × (first ≡ gives x mid) × (go x mid ≡ gives y end)
given-first (gives x mid) go y end is = (x, mid, refl, is)
given-first (sticks at) go y end is = absurd (cc)

-- a test that holds
pub given-if : {A : Type 0} (b : Bool) (kept : Answer A) (at : Stuck) (y : A) (end : ℕ) →
    (if b then kept else sticks at) ≡ gives y end → (b ≡ true) × (kept ≡ gives y end)
given-if true kept at y end is = (refl, is)
given-if false kept at y end is = absurd (cc)

-- a test that doesn't
pub given-unless : {A : Type 0} (b : Bool) (kept : Answer A) (at : Stuck) (y : A) (end : ℕ) →
    (if b then sticks at else kept) ≡ gives y end → (b ≡ false) × (kept ≡ gives y end)
given-unless true kept at y end is = absurd (cc)
given-unless false kept at y end is = (refl, is)
