-- A line of code is read the same with its note, which is a comment.
use Rattle.std.proofs.Common.{◌≡◌, refl, ◌∙◌, ap, subst, ℕ, ◌+◌, Bool, true, false, not, ◌&&◌, ◌==◌, nat_le, List, [], ◌∷◌, ◌++◌, length, Some, codes, if◌then◌else◌, arith}
use Rattle.std.specs.List.{list_all}
use Rattle.std.proofs.lemmas.List.{append_assoc}
use Rattle.std.proofs.lemmas.List.Folds.{list_all-append}
use Rattle.c_grammar.specs.Tokens.{tokens_from}
use Rattle.c_grammar.specs.Grammar.{Spelling}
use Rattle.c_grammar.proofs.lemmas.LiteralLaws.{and_both, and_first, and_second}
use Rattle.c_rules.specs.AlikeTexts.{is_quiet}
use Rattle.c_printer.specs.Comments.{comment_inside, comment_bytes}
use Rattle.c_printer.specs.Lines.{margin_bytes, ended, note_line, column_limit, noted_line}
use Rattle.c_printer.proofs.lemmas.Bytes.{differs}
use Rattle.c_printer.proofs.CommentLaws.{commented}
use Rattle.c_printer.proofs.HarmlessComments.{inside-quiet}
use Rattle.c_printer.proofs.TextReading.{Reads, along, lined, line_ended, margined}

-- quiet bytes are none that isn't
pub quiet-none : (c : ℕ) → is_quiet c ≡ false → (bs : List ℕ) → list_all is_quiet bs ≡ true → list_all (λ b. not (b == c)) bs ≡ true
quiet-none c loud [] all = refl
quiet-none c loud (b ∷ bs) all =
    and_both (not (b == c)) (list_all (λ x. not (x == c)) bs)
    (ap not (differs is_quiet b c (and_first (is_quiet b) (list_all is_quiet bs) all) loud))
    (quiet-none c loud bs (and_second (is_quiet b) (list_all is_quiet bs) all))

-- after a comment come the tokens that come without it
comment-tokens : (note x : List ℕ) (line : ℕ) → tokens_from 0 line (comment_bytes note ++ x) ≡ tokens_from 0 line x
comment-tokens note x line =
    ap (λ t. tokens_from 0 line (47 ∷ 42 ∷ t)) (append_assoc (comment_inside note) (codes "*/") x)
    ∙ commented (comment_inside note) x line (quiet-none 42 refl (comment_inside note) (inside-quiet note)) one_line
  where
    one_line : list_all (λ b. not (b == 10)) (comment_inside note ++ codes "*/") ≡ true
    one_line =
        list_all-append (λ b. not (b == 10)) (comment_inside note) (codes "*/")
        ∙ ap (λ t. t && true) (quiet-none 10 refl (comment_inside note) (inside-quiet note))

-- a comment before a text, and after it
commented-text : {a : Spelling} {l m : ℕ} {x z : List ℕ} (note : List ℕ) → Reads a l x m z → Reads a l (comment_bytes note ++ x) m z
commented-text {a} {l} {m} {x} note reads = record { is = ap a (comment-tokens note x l) ∙ reads.is }

comment-passed : {a : Spelling} {l m : ℕ} {x z : List ℕ} (note : List ℕ) → Reads a l x m (32 ∷ (comment_bytes note ++ z)) → Reads a l x m z
comment-passed {a} {l} {m} {x} {z} note reads = record { is = reads.is ∙ ap Some (comment-tokens note z m) }

-- how many lines there are of a note on a line of its own
abbrev pub note_lines : List ℕ → ℕ
note_lines [] = 0
note_lines (b ∷ bs) = 1

pub note-read : {a : Spelling} {l m : ℕ} {x z : List ℕ} (note : List ℕ) → Reads a (l + note_lines note) x m z →
    Reads a l (note_line 0 note ++ x) m z
note-read {a} {l} {m} {x} {z} [] reads = subst (λ k. Reads a k x m z) (let none : l + 0 ≡ l = omega arith in none) reads
note-read {a} {l} {m} {x} (b ∷ bs) reads =
    along (append_assoc (comment_bytes (b ∷ bs)) (10 ∷ []) x) (commented-text (b ∷ bs) (lined reads))

-- whether the note on a line of code is on that line
abbrev pub is_beside : ℕ → List ℕ → List ℕ → Bool
is_beside margin note code = nat_le (margin + length code + 1 + length (comment_bytes note)) column_limit

-- how many lines of its note there are above a line of code
abbrev pub lines_above : ℕ → List ℕ → List ℕ → ℕ
lines_above margin [] code = 0
lines_above margin (b ∷ bs) code = if is_beside margin (b ∷ bs) code then 0 else 1

-- the shapes of lines
bare_shape : (m c z : List ℕ) → ((m ++ c) ++ 10 ∷ []) ++ z ≡ m ++ (c ++ 10 ∷ z)
bare_shape m c z = simp append_assoc

beside_shape : (m c n z : List ℕ) → (((m ++ c) ++ 32 ∷ n) ++ 10 ∷ []) ++ z ≡ m ++ (c ++ 32 ∷ (n ++ 10 ∷ z))
beside_shape m c n z = simp append_assoc

above_shape : (m c n z : List ℕ) → (((m ++ n) ++ 10 ∷ []) ++ ((m ++ c) ++ 10 ∷ [])) ++ z ≡ m ++ (n ++ 10 ∷ (m ++ (c ++ 10 ∷ z)))
above_shape m c n z = simp append_assoc

module _ (a : ℕ → Spelling) (margin : ℕ) (code : List ℕ) (read : (k : ℕ) (z : List ℕ) → Reads (a k) k (code ++ z) k z) where
  -- without a note
  bare-read : (l : ℕ) (rest : List ℕ) → Reads (a l) l (ended (margin_bytes margin ++ code) ++ rest) (l + 1) rest
  bare-read l rest = along (bare_shape (margin_bytes margin) code rest) (margined margin (line_ended (read l (10 ∷ rest))))

  -- no line above
  at-once : (l : ℕ) (x rest : List ℕ) → Reads (a l) l x (l + 1) rest → Reads (a (l + 0)) l x (l + 0 + 1) rest
  at-once l x rest reads = subst (λ k. Reads (a k) l x (k + 1) rest) (let same : l ≡ l + 0 = omega arith in same) reads

  beside-read : (note : List ℕ) (l : ℕ) (rest : List ℕ) →
      Reads (a l) l (ended (margin_bytes margin ++ code ++ 32 ∷ comment_bytes note) ++ rest) (l + 1) rest
  beside-read note l rest =
      along (beside_shape (margin_bytes margin) code (comment_bytes note) rest)
      (margined margin (line_ended (comment-passed note (read l (32 ∷ (comment_bytes note ++ 10 ∷ rest))))))

  above-read : (note : List ℕ) (l : ℕ) (rest : List ℕ) →
      Reads (a (l + 1)) l ((ended (margin_bytes margin ++ comment_bytes note) ++ ended (margin_bytes margin ++ code)) ++ rest)
      (l + 1 + 1) rest
  above-read note l rest =
      along (above_shape (margin_bytes margin) code (comment_bytes note) rest)
      (margined margin (commented-text note (lined (margined margin (line_ended (read (l + 1) (10 ∷ rest)))))))

  pub noted-read : (note : List ℕ) (l : ℕ) (rest : List ℕ) →
      Reads (a (l + lines_above margin note code)) l (noted_line margin note code ++ rest) (l + lines_above margin note code + 1) rest
  noted-read [] l rest = at-once l (ended (margin_bytes margin ++ code) ++ rest) rest (bare-read l rest)
  noted-read (b ∷ bs) l rest = by (is_beside margin (b ∷ bs) code)
    where
      beside : List ℕ
      beside = ended (margin_bytes margin ++ code ++ 32 ∷ comment_bytes (b ∷ bs))

      above : List ℕ
      above = ended (margin_bytes margin ++ comment_bytes (b ∷ bs)) ++ ended (margin_bytes margin ++ code)

      by : (t : Bool) → Reads (a (l + (if t then 0 else 1))) l ((if t then beside else above) ++ rest)
          (l + (if t then 0 else 1) + 1) rest
      by true = at-once l (beside ++ rest) rest (beside-read (b ∷ bs) l rest)
      by false = above-read (b ∷ bs) l rest
