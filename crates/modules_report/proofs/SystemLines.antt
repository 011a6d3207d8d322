-- What lines say: each kind of line as words after its first one.
use Rattle.std.proofs.Common.{◌≡◌, ℕ, suc, ◌^◌, ◌<◌, ◌≤◌, List, [], ◌∷◌, ◌++◌, length, map, refl, sym, ap, ◌∙◌, append_assoc, arith}
use Rattle.std.specs.Prelude.{codes, decimal, Option, Some, None}
use Rattle.std.specs.List.{AllByRecursion}
use Rattle.std.proofs.lemmas.Fmt.{decimal_injective}
use Rattle.std.proofs.lemmas.List.{append_cancel_left}
use Rattle.base_core.specs.declared.Port.{Port}
use Rattle.base_core.specs.declared.Port.TheVariants.{Number, Enable, Trigger}
use Rattle.base_core.specs.Words.{port_word}
use Rattle.modules_profile.specs.Systems.{system_name}
use Rattle.modules_report.specs.PlainReport.{PlainReport}
use Rattle.modules_report.specs.Reading.{HasRow}
use Rattle.base_core.specs.Ports.{AreControls}
use Rattle.modules_report.specs.Texts.{control_words, counts_text, head_line, spaced, system_line}
use Rattle.modules_report.proofs.Cuts.{IsWord, AreWords, cut-words, same-head, same-tail}
use Rattle.modules_report.proofs.LineWords.{IsSmall, other-port, port_injective, same-first, same-members, same-others, word, word-decimal}

-- ---- The line of a system

abbrev pub counted_words : List ℕ → List ℕ → List ℕ → List ℕ → List (List ℕ) → List (List ℕ)
counted_words name i o f more = name ∷ codes "inputs" ∷ i ∷ codes "outputs" ∷ o ∷ codes "functions" ∷ f ∷ more

abbrev pub system_words : PlainReport → List (List ℕ)
system_words r =
    counted_words (system_name r.row) (decimal r.inputs) (decimal r.outputs) (decimal (length r.profile.functions)) (control_words
    r.controls)

abbrev counts : List ℕ → List ℕ → List ℕ → List ℕ
counts i o f = codes " inputs " ++ i ++ codes " outputs " ++ o ++ codes " functions " ++ f

abbrev flat : List ℕ → List ℕ → List ℕ → List ℕ → List ℕ → List ℕ
flat name i o f ends =
    codes "system "
    ++ (name ++ (codes " inputs " ++ (i ++ (codes " outputs " ++ (o ++ (codes " functions " ++ (f ++ ends)))))))

four : (a b c d e : List ℕ) → a ++ b ++ c ++ d ++ e ≡ a ++ (b ++ (c ++ (d ++ e)))
four a b c d e = simp (append_assoc) refl

five : (a b c d e x : List ℕ) → a ++ b ++ c ++ d ++ e ++ x ≡ a ++ (b ++ (c ++ (d ++ (e ++ x))))
five a b c d e x = simp (append_assoc) refl

left-shape : (name i o f s x : List ℕ) →
    codes "system " ++ name ++ counts i o f ++ s ++ codes "\n" ++ x ≡ flat name i o f (s ++ 10 ∷ x)
left-shape name i o f s x =
    ap (λ (t : List ℕ). codes "system " ++ t) (four name (counts i o f) s (codes "\n") x
    ∙ ap (λ (t : List ℕ). name ++ (codes " inputs " ++ t)) (five i (codes " outputs ") o (codes " functions ") f (s ++ 10 ∷ x)))

right-shape : (name i o f : List ℕ) (more : List (List ℕ)) (x : List ℕ) →
    codes "system" ++ spaced (counted_words name i o f more) ++ 10 ∷ x ≡ flat name i o f (spaced more ++ 10 ∷ x)
right-shape name i o f more x =
    ap (λ (t : List ℕ). codes "system " ++ t)
    (append_assoc name (spaced (codes "inputs" ∷ i ∷ codes "outputs" ∷ o ∷ codes "functions" ∷ f ∷ more)) (10 ∷ x)
    ∙ ap (λ (t : List ℕ). name ++ (codes " inputs " ++ t))
    (append_assoc i (spaced (codes "outputs" ∷ o ∷ codes "functions" ∷ f ∷ more)) (10 ∷ x)
    ∙ ap (λ (t : List ℕ). i ++ (codes " outputs " ++ t))
    (append_assoc o (spaced (codes "functions" ∷ f ∷ more)) (10 ∷ x) ∙ ap (λ (t : List ℕ). o ++ (codes " functions " ++ t))
    (append_assoc f (spaced more) (10 ∷ x)))))

pub head-line-words : (row : Option ℕ) (i o f : ℕ) (controls : List Port) (x : List ℕ) → head_line row i o f controls ++ x
    ≡ codes "system" ++ spaced (counted_words (system_name row) (decimal i) (decimal o) (decimal f) (control_words controls)) ++ 10 ∷ x
unfolding counts_text
head-line-words row i o f controls x =
    left-shape (system_name row) (decimal i) (decimal o) (decimal f) (spaced (control_words controls)) x
    ∙ sym (right-shape (system_name row) (decimal i) (decimal o) (decimal f) (control_words controls) x)

pub system-line-words : (r : PlainReport) (x : List ℕ) → system_line r ++ x ≡ codes "system" ++ spaced (system_words r) ++ 10 ∷ x
system-line-words r x = head-line-words r.row r.inputs r.outputs (length r.profile.functions) r.controls x

word-name : (row : Option ℕ) → HasRow row → IsWord (system_name row)
word-name None h = word (codes "top") refl
word-name (Some row) h = ((let e : 32 < 115 = omega arith in e), word-decimal row (omega (arith, h)))

words-controls : (controls : List Port) → AreControls controls → AreWords (control_words controls)
words-controls [] c = tt
words-controls (Number k ∷ ports) c = absurd c
words-controls (Enable ∷ []) c = (word (codes "control") refl, (word (codes "enable") refl, tt))
words-controls (Enable ∷ Number k ∷ ports) c = absurd c
words-controls (Enable ∷ Enable ∷ ports) c = absurd c
words-controls (Enable ∷ Trigger ∷ []) c = (word (codes "control") refl, (word (codes "enable") refl, (word (codes "trigger") refl, tt)))
words-controls (Enable ∷ Trigger ∷ p ∷ ports) c = absurd c
words-controls (Trigger ∷ []) c = (word (codes "control") refl, (word (codes "trigger") refl, tt))
words-controls (Trigger ∷ p ∷ ports) c = absurd c

-- what makes the line of a system one of words
pub record IsHead (r : PlainReport) : Type 0 where
  pub row : HasRow r.row
  pub inputs : r.inputs ≤ 32
  pub outputs : r.outputs ≤ 32
  pub controls : AreControls r.controls
  pub functions : length r.profile.functions ≤ 32

low : (n : ℕ) → n ≤ 32 → n < 2 ^ 64
low n h = omega (arith, h)

pub words-head : (row : Option ℕ) (i o f : ℕ) (controls : List Port) → HasRow row → i ≤ 32 → o ≤ 32 → f ≤ 32 → AreControls controls →
    AreWords (counted_words (system_name row) (decimal i) (decimal o) (decimal f) (control_words controls))
words-head row i o f controls has a b c are = (
  word-name row has,
  (
    word (codes "inputs") refl,
    (
      word-decimal i (low i a),
      (
        word (codes "outputs") refl,
        (word-decimal o (low o b), (word (codes "functions") refl, (word-decimal f (low f c), words-controls controls are))),
      ),
    ),
  ),
)

pub words-system : (r : PlainReport) → IsHead r → AreWords (system_words r)
words-system r h =
    words-head r.row r.inputs r.outputs (length r.profile.functions) r.controls h.row h.inputs h.outputs h.functions
    h.controls

same-row : (a b : Option ℕ) → HasRow a → HasRow b → system_name a ≡ system_name b → a ≡ b
same-row None None h k e = refl
same-row None (Some b) h k e = absurd (let same = same-head 116 115 _ _ e in omega (arith, same))
same-row (Some a) None h k e = absurd (let same = same-head 115 116 _ _ e in omega (arith, same))
same-row (Some a) (Some b) h k e =
    ap Some (decimal_injective a b (omega (arith, h)) (omega (arith, k)) (same-tail 115 115 (decimal a) (decimal b) e))

pub small-controls : (controls : List Port) → AreControls controls → AllByRecursion IsSmall controls
small-controls [] c = tt
small-controls (Number k ∷ ports) c = absurd c
small-controls (Enable ∷ []) c = (tt, tt)
small-controls (Enable ∷ Number k ∷ ports) c = absurd c
small-controls (Enable ∷ Enable ∷ ports) c = absurd c
small-controls (Enable ∷ Trigger ∷ []) c = (tt, (tt, tt))
small-controls (Enable ∷ Trigger ∷ p ∷ ports) c = absurd c
small-controls (Trigger ∷ []) c = (tt, tt)
small-controls (Trigger ∷ p ∷ ports) c = absurd c

no-none : (p : Port) → IsSmall p → port_word p ≡ codes "none" → ⊥
no-none p s e = other-port p 110 _ s (omega arith) (λ h. omega (arith, h)) (λ h. omega (arith, h)) e

same-controls : (a b : List Port) → AllByRecursion IsSmall a → AllByRecursion IsSmall b → control_words a ≡ control_words b → a ≡ b
same-controls [] [] s t e = refl
same-controls [] (q ∷ b) s t e = absurd (let long : 0 ≡ suc (length (map port_word (q ∷ b))) = ap length e in omega (arith, long))
same-controls (p ∷ a) [] s t e = absurd (let long : suc (length (map port_word (p ∷ a))) ≡ 0 = ap length e in omega (arith, long))
same-controls (p ∷ a) (q ∷ b) s t e =
    same-members IsSmall port_word port_injective no-none (p ∷ a) (q ∷ b) s t
    (same-others _ _ (map port_word (p ∷ a)) (map port_word (q ∷ b)) e)

-- what two equal lines of systems have in common
pub record AreAlike (r s : PlainReport) : Type 0 where
  pub row : r.row ≡ s.row
  pub inputs : r.inputs ≡ s.inputs
  pub outputs : r.outputs ≡ s.outputs
  pub controls : r.controls ≡ s.controls
  pub functions : length r.profile.functions ≡ length s.profile.functions

pub same-systems : (r s : PlainReport) (x y : List ℕ) → IsHead r → IsHead s → system_line r ++ x ≡ system_line s ++ y →
    AreAlike r s × (x ≡ y)
same-systems r s x y h k e =
    let all = cut-words (system_words r) (system_words s) x y (words-system r h) (words-system s k)
    (append_cancel_left (codes "system") _ _ (sym (system-line-words r x) ∙ e ∙ system-line-words s y)) in
    let one = same-others _ _ _ _ all.0 in
    let two = same-others _ _ _ _ one in
    let three = same-others _ _ _ _ two in
    let four = same-others _ _ _ _ three in
    let five = same-others _ _ _ _ four in
    let six = same-others _ _ _ _ five in
    let seven = same-others _ _ _ _ six in (
      record {
        row = same-row r.row s.row h.row k.row (same-first _ _ _ _ all.0);
        inputs = decimal_injective r.inputs s.inputs (low r.inputs h.inputs) (low s.inputs k.inputs) (same-first _ _ _ _ two);
        outputs = decimal_injective r.outputs s.outputs (low r.outputs h.outputs) (low s.outputs k.outputs) (same-first _ _ _ _ four);
        controls = same-controls r.controls s.controls (small-controls r.controls h.controls) (small-controls s.controls k.controls) seven;
        functions = decimal_injective (length r.profile.functions) (length s.profile.functions)
            (low (length r.profile.functions) h.functions) (low (length s.profile.functions) k.functions) (same-first _ _ _ _ six);
      },
      all.1,
    )
