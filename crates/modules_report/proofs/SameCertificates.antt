-- Needs have one certificate of the least outputs and the least bits.
use Rattle.std.proofs.Common.{◌≡◌, ℕ, ◌<◌, List, length, get_or, map, sym, ap, subst, ◌∙◌, arith, inl, inr}
use Rattle.std.proofs.lemmas.Bool.{cases_order}
use Rattle.std.proofs.lemmas.List.{ext_get_or, get_or-map, length-map}
use Rattle.modules_certificate.specs.declared.certificate.Difference.{Difference}
use Rattle.modules_certificate.specs.PlainCertificate.{PlainCertificate}
use Rattle.modules_certificate.specs.Sound.{IsCertificateFor, IsInJustOne, need_at, pairs_below, positions}

abbrev none : Difference
none = record { first = 0; second = 0; bit = 0 }

pub same-certificate : (needs : List ℕ) (c e : PlainCertificate) → IsCertificateFor needs c → IsCertificateFor needs e → c ≡ e
same-certificate needs c e a b = λ i. record { representatives = representatives i; differ = differ i }
  where
    representatives : c.representatives ≡ e.representatives
    representatives = a.representatives ∙ sym b.representatives

    pairs : map positions c.differ ≡ map positions e.differ
    pairs = a.sound.pairs ∙ ap (λ (r : List ℕ). pairs_below (length r)) representatives ∙ sym b.sound.pairs

    lengths : length c.differ ≡ length e.differ
    lengths = sym (length-map c.differ positions) ∙ ap length pairs ∙ length-map e.differ positions

    at : (k : ℕ) → k < length c.differ → get_or c.differ k none ≡ get_or e.differ k none
    at k within = λ i. record { first = first i; second = second i; bit = bit i }
      where
        place : positions (get_or c.differ k none) ≡ positions (get_or e.differ k none)
        place = sym (get_or-map positions c.differ k none (0, 0) within) ∙ ap (λ (ps : List (ℕ × ℕ)). get_or ps k (0, 0)) pairs
            ∙ get_or-map positions e.differ k none (0, 0) (omega (arith, within, lengths))

        first : (get_or c.differ k none).first ≡ (get_or e.differ k none).first
        first = ap (λ (p : ℕ × ℕ). p.0) place

        second : (get_or c.differ k none).second ≡ (get_or e.differ k none).second
        second = ap (λ (p : ℕ × ℕ). p.1) place

        within' : k < length e.differ
        within' = omega (arith, within, lengths)

        firsts : need_at needs c.representatives (get_or c.differ k none).first
            ≡ need_at needs e.representatives (get_or e.differ k none).first
        firsts = λ i. need_at needs (representatives i) (first i)

        seconds : need_at needs c.representatives (get_or c.differ k none).second
            ≡ need_at needs e.representatives (get_or e.differ k none).second
        seconds = λ i. need_at needs (representatives i) (second i)

        bit : (get_or c.differ k none).bit ≡ (get_or e.differ k none).bit
        bit = elim (cases_order (get_or c.differ k none).bit (get_or e.differ k none).bit) [
          | inl same ↦ same
          | inr apart ↦ elim apart [
            | inl less ↦ absurd (b.least k none within' (get_or c.differ k none).bit less
                (subst (λ n. IsInJustOne (need_at needs e.representatives (get_or e.differ k none).first) n
                (get_or c.differ k none).bit) seconds
                (subst (λ n. IsInJustOne n (need_at needs c.representatives (get_or c.differ k none).second)
                (get_or c.differ k none).bit) firsts
                (a.sound.bits k none within))))
            | inr more ↦ absurd (a.least k none within (get_or e.differ k none).bit more
                (subst (λ n. IsInJustOne (need_at needs c.representatives (get_or c.differ k none).first) n
                (get_or e.differ k none).bit) (sym seconds)
                (subst (λ n. IsInJustOne n (need_at needs e.representatives (get_or e.differ k none).second)
                (get_or e.differ k none).bit) (sym firsts)
                (b.sound.bits k none within'))))
          ]
        ]

    differ : c.differ ≡ e.differ
    differ = ext_get_or none c.differ e.differ lengths at
