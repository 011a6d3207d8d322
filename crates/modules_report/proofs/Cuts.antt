-- Where words end: no byte of a word is a blank or an end of a line.
use Rattle.std.proofs.Common.{◌≡◌, ℕ, ◌<◌, ◌≤◌, List, [], ◌∷◌, ◌++◌, refl, sym, ap, ap₂, ◌∙◌, append_assoc, arith}
use Rattle.std.specs.List.{AllByRecursion}
use Rattle.modules_report.specs.Texts.{spaced}

-- each byte is above that of a space, and so above that of a line's end
abbrev pub IsWord : List ℕ → Type 0
IsWord = AllByRecursion (λ b. 32 < b)

-- a space or an end of a line comes first
abbrev pub IsBreak : List ℕ → Type 0
IsBreak [] = ⊥
IsBreak (c ∷ bs) = c ≤ 32

abbrev head-of : List ℕ → ℕ
head-of [] = 0
head-of (b ∷ bs) = b

abbrev tail-of : List ℕ → List ℕ
tail-of [] = []
tail-of (b ∷ bs) = bs

pub same-head : (a b : ℕ) (xs ys : List ℕ) → a ∷ xs ≡ b ∷ ys → a ≡ b
same-head a b xs ys e = ap head-of e

pub same-tail : (a b : ℕ) (xs ys : List ℕ) → a ∷ xs ≡ b ∷ ys → xs ≡ ys
same-tail a b xs ys e = ap tail-of e

-- two words with what follows them
pub cut : (v w x y : List ℕ) → IsWord v → IsWord w → IsBreak x → IsBreak y → v ++ x ≡ w ++ y → (v ≡ w) × (x ≡ y)
cut [] [] x y v w low low' e = (refl, e)
cut [] (b ∷ bs) [] y v w low low' e = absurd low
cut [] (b ∷ bs) (c ∷ x) y v w low low' e =
    absurd (let same = same-head c b x (bs ++ y) e in let above = w.0 in omega (arith, same, above, low))
cut (a ∷ more) [] x [] v w low low' e = absurd low'
cut (a ∷ more) [] x (d ∷ y) v w low low' e =
    absurd (let same = same-head a d (more ++ x) y e in let above = v.0 in omega (arith, same, above, low'))
cut (a ∷ more) (b ∷ bs) x y v w low low' e =
    let rest = cut more bs x y v.1 w.1 low low' (same-tail a b (more ++ x) (bs ++ y) e) in
    (ap₂ (λ (k : ℕ) (ks : List ℕ). k ∷ ks) (same-head a b (more ++ x) (bs ++ y) e) rest.0, rest.1)

-- each is a word
abbrev pub AreWords : List (List ℕ) → Type 0
AreWords = AllByRecursion IsWord

pub break-spaced : (ws : List (List ℕ)) (x : List ℕ) → IsBreak (spaced ws ++ 10 ∷ x)
break-spaced [] x = omega arith
break-spaced (w ∷ ws) x = omega arith

-- words after spaces up to the end of a line
pub cut-words : (vs ws : List (List ℕ)) (x y : List ℕ) → AreWords vs → AreWords ws →
    spaced vs ++ 10 ∷ x ≡ spaced ws ++ 10 ∷ y → (vs ≡ ws) × (x ≡ y)
cut-words [] [] x y v w e = (refl, same-tail 10 10 x y e)
cut-words [] (u ∷ ws) x y v w e = absurd (let same = same-head 10 32 x ((u ++ spaced ws) ++ 10 ∷ y) e in omega (arith, same))
cut-words (u ∷ vs) [] x y v w e = absurd (let same = same-head 32 10 ((u ++ spaced vs) ++ 10 ∷ x) y e in omega (arith, same))
cut-words (u ∷ vs) (t ∷ ws) x y v w e =
    let inside = same-tail 32 32 ((u ++ spaced vs) ++ 10 ∷ x) ((t ++ spaced ws) ++ 10 ∷ y) e in
    let parts = cut u t (spaced vs ++ 10 ∷ x) (spaced ws ++ 10 ∷ y) v.0 w.0 (break-spaced vs x) (break-spaced ws y)
    (sym (append_assoc u (spaced vs) (10 ∷ x)) ∙ inside ∙ append_assoc t (spaced ws) (10 ∷ y)) in
    let more = cut-words vs ws x y v.1 w.1 parts.1 in
    (ap₂ (λ (k : List ℕ) (ks : List (List ℕ)). k ∷ ks) parts.0 more.0, more.1)
