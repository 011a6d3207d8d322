-- A line whose code was put after its margin, and which was then ended with its note.
use Rattle.std.proofs.Common.{◌≡◌, ◌≢◌, refl, sym, ap, ◌∙◌, subst, ℕ, ◌+◌, Bool, true, false, nat_le, List, [], ◌∷◌, ◌++◌, length, take, drop, if◌then◌else◌}
use Rattle.std.specs.Prelude.{OnOk}
use Rattle.std.specs.declared.alloc.AllocError.{AllocError}
use Rattle.std.specs.declared.result.Result.{Result}
use Rattle.std.proofs.lemmas.List.{append_assoc, take-append-drop}
use Rattle.std.proofs.Math.Seq.{take-append_seam, drop-append_seam}
use Rattle.c_printer.specs.Comments.{comment_bytes}
use Rattle.c_printer.specs.Lines.{column_limit, ended, margin_bytes, noted_line}

-- a text whose end is the code, after its margin
split : (before text : List ℕ) (margin at : ℕ) → take at text ≡ before ++ margin_bytes margin →
    text ≡ (before ++ margin_bytes margin) ++ drop at text
split before text margin at front = sym (take-append-drop at text) ∙ ap (λ x. x ++ drop at text) front

pub ended-plain : (before text note : List ℕ) (margin at : ℕ) → take at text ≡ before ++ margin_bytes margin →
    length note ≡ 0 → text ++ 10 ∷ [] ≡ before ++ noted_line margin note (drop at text)
ended-plain before text [] margin at front none =
    ap (λ x. x ++ 10 ∷ []) (split before text margin at front)
    ∙ regrouped before (margin_bytes margin) (drop at text) (10 ∷ [])
  where
    regrouped : (o m c e : List ℕ) → ((o ++ m) ++ c) ++ e ≡ o ++ ((m ++ c) ++ e)
    regrouped o m c e = simp append_assoc
ended-plain before text (b ∷ bs) margin at front none = absurd (let wrong : ⊥ = cc none in wrong)

commented : (before text note : List ℕ) (margin at : ℕ) → (fits : Bool) →
    nat_le (margin + length (drop at text) + 1 + length (comment_bytes note)) column_limit ≡ fits →
    length note ≢ 0 → noted_line margin note (drop at text) ≡
    (if fits then ended (margin_bytes margin ++ drop at text ++ 32 ∷ comment_bytes note)
    else ended (margin_bytes margin ++ comment_bytes note) ++ ended (margin_bytes margin ++ drop at text))
commented before text [] margin at fits e some = absurd (some refl)
commented before text (b ∷ bs) margin at fits e some = rw e refl

pub ended-after : (before text note : List ℕ) (margin at : ℕ) → take at text ≡ before ++ margin_bytes margin →
    length note ≢ 0 →
    nat_le (margin + length (drop at text) + 1 + length (comment_bytes note)) column_limit ≡ true →
    text ++ ended (32 ∷ comment_bytes note) ≡ before ++ noted_line margin note (drop at text)
ended-after before text note margin at front some fits =
    ap (λ x. x ++ ended (32 ∷ comment_bytes note)) (split before text margin at front)
    ∙ regrouped before (margin_bytes margin) (drop at text) (32 ∷ comment_bytes note) (10 ∷ [])
    ∙ ap (λ x. before ++ x) (sym (commented before text note margin at true fits some))
  where
    regrouped : (o m c n e : List ℕ) → ((o ++ m) ++ c) ++ (n ++ e) ≡ o ++ (((m ++ c) ++ n) ++ e)
    regrouped o m c n e = simp append_assoc

pub ended-above : (before text note : List ℕ) (margin at : ℕ) → take at text ≡ before ++ margin_bytes margin →
    length note ≢ 0 →
    nat_le (margin + length (drop at text) + 1 + length (comment_bytes note)) column_limit ≡ false →
    take at text ++ ended (comment_bytes note) ++ ended (margin_bytes margin ++ drop at text)
    ≡ before ++ noted_line margin note (drop at text)
ended-above before text note margin at front some fits =
    ap (λ x. x ++ ended (comment_bytes note) ++ ended (margin_bytes margin ++ drop at text)) front
    ∙ regrouped before (margin_bytes margin) (comment_bytes note) (10 ∷ []) (ended (margin_bytes margin ++ drop at text))
    ∙ ap (λ x. before ++ x) (sym (commented before text note margin at false fits some))
  where
    regrouped : (o m n e c : List ℕ) → ((o ++ m) ++ (n ++ e)) ++ c ≡ o ++ (((m ++ n) ++ e) ++ c)
    regrouped o m n e c = simp append_assoc

-- a line that is put part by part
pub line-put : (result : Result Unit AllocError) (margin at : ℕ) (before with_margin code text new note : List ℕ) →
    with_margin ≡ before ++ margin_bytes margin → at ≡ length with_margin → text ≡ with_margin ++ code →
    ((front : List ℕ) → take at text ≡ front ++ margin_bytes margin →
    OnOk result (new ≡ front ++ noted_line margin note (drop at text))) →
    OnOk result (new ≡ before ++ noted_line margin note code)
line-put result margin at before with_margin code text new note margined place put made =
    subst (λ c. OnOk result (new ≡ before ++ noted_line margin note c)) behind (made before front)
  where
    front : take at text ≡ before ++ margin_bytes margin
    front = rw (place, put) (take-append_seam with_margin code ∙ margined)

    behind : drop at text ≡ code
    behind = rw (place, put) (drop-append_seam with_margin code)
