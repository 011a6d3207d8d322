-- The next line of a text, and what it says of whatever may follow.
use Rattle.std.proofs.Common.{◌≡◌, refl, sym, ◌∙◌, ap, subst, ℕ, ◌+◌, ◌-◌, ◌<◌, ◌≤◌, ◌≢◌, Bool, true, false, List, [], ◌∷◌, ◌++◌, length, take, drop, get_or, append_assoc, inl, inr, arith, ◌==◌}
use Rattle.std.specs.Prelude.{nat_le, ◌⊎◌, ⊤, ◌&&◌, ◌||◌, if◌then◌else◌}
use Rattle.std.specs.Str.Lines.{lines}
use Rattle.std.proofs.lemmas.Bool.{eqb-true, eqb-false, ne_eqb, leb-true, leb-false}
use Rattle.std.proofs.lemmas.List.{length-drop, take-append-drop}
use Rattle.tool_traces.specs.declared.lines.Next.{Next}
use Rattle.tool_traces.specs.declared.lines.Next.TheVariants.{Line, More, Long, End}
use Rattle.tool_traces.specs.Lines.{next_line_of, line_at, ended_line, unended_line, kept_len, whole_lines}
use Rattle.tool_traces.specs.Pieces.{BeginsLine}
use Rattle.tool_traces.proofs.LineLaws.{line_len, len-le, last_line, no_whole_line, kept-le, unended, head_of, lines_of_head, whole_lines_of_head, FirstLine, long_ended, long_unended}

-- the line that a line's places give, in a text that begins there
record Ended (text : List ℕ) (from start end after : ℕ) : Type 0 where
  part : line_len text < length text
  short : kept_len text (line_len text) ≤ 4096
  starts : start ≡ from
  ends : end ≡ from + kept_len text (line_len text)
  goes_on : after ≡ from + line_len text + 1

-- what the next line of a text that may go on says of the text
abbrev Says : (text : List ℕ) (from : ℕ) → Next → Type 0
Says text from (Line start end after) = Ended text from start end after
Says text from More = (line_len text ≡ length text) × (length text ≤ 4097)
Says text from Long = (behind : List ℕ) → FirstLine (text ++ behind) (λ line. 4096 < length line)
Says text from End = ⊥

ended_says : (text : List ℕ) (from : ℕ) → line_len text < length text → Says text from (ended_line from text (line_len text))
ended_says text from part = by_short (nat_le (kept_len text (line_len text)) 4096) refl
  where
    by_short : (t : Bool) → nat_le (kept_len text (line_len text)) 4096 ≡ t →
        Says text from (if t then Line from (from + kept_len text (line_len text)) (from + line_len text + 1) else Long)
    by_short true short = record {
      part = part;
      short = leb-true (kept_len text (line_len text)) 4096 short;
      starts = refl;
      ends = refl;
      goes_on = refl;
    }
    by_short false long = λ behind. long_ended text behind part (leb-false (kept_len text (line_len text)) 4096 long)

unended_says : (text : List ℕ) (from : ℕ) → line_len text ≡ length text → Says text from (unended_line from text false)
unended_says text from whole =
    by_size (nat_le (length text) 4096) (length text == 4097) (get_or text 4096 0 == 13) refl refl refl
  where
    by_size : (few one_more carriage : Bool) → nat_le (length text) 4096 ≡ few → (length text == 4097) ≡ one_more →
        (get_or text 4096 0 == 13) ≡ carriage →
        Says text from (if few || (one_more && carriage) then More else Long)
    by_size true one_more carriage few size byte = (whole, omega (arith, leb-true (length text) 4096 few))
    by_size false true true few size byte = (whole, omega (arith, eqb-true (length text) 4097 size))
    by_size false true false few size byte = λ behind. long_unended text behind whole (leb-false (length text) 4096 few) (λ is. byte)
    by_size false false carriage few size byte =
        let apart : length text ≢ 4097 = eqb-false (length text) 4097 size in
        λ behind. long_unended text behind whole (leb-false (length text) 4096 few) (λ is. absurd (apart is))

says : (text : List ℕ) (from : ℕ) → Says text from (line_at from text false)
says text from = by_end (line_len text == length text) refl
  where
    by_end : (t : Bool) → (line_len text == length text) ≡ t →
        Says text from (if t then unended_line from text false else ended_line from text (line_len text))
    by_end true whole = unended_says text from (eqb-true (line_len text) (length text) whole)
    by_end false part =
        let apart : line_len text ≢ length text = eqb-false (line_len text) (length text) part in
        ended_says text from (omega (arith, len-le text))

what_is : (bytes : List ℕ) (from : ℕ) (next : Next) → next ≡ next_line_of bytes from false → Says (drop from bytes) from next
what_is bytes from next is = subst (Says (drop from bytes) from) (sym is) (says (drop from bytes) from)

-- ---- The line's places

-- the bytes of a line's places are those before its end
between_is : (bytes : List ℕ) (from start end after : ℕ) → Ended (drop from bytes) from start end after →
    take (end - start) (drop start bytes) ≡ take (kept_len (drop from bytes) (line_len (drop from bytes))) (drop from bytes)
between_is bytes from start end after line =
    let size : end - start ≡ kept_len (drop from bytes) (line_len (drop from bytes)) = omega (arith, line.starts, line.ends) in
    ap (λ k. take k (drop start bytes)) size
    ∙ ap (λ k. take (kept_len (drop from bytes) (line_len (drop from bytes))) (drop k bytes)) line.starts

-- a first line that ends, whatever follows
first_kept : (text behind : List ℕ) → line_len text < length text →
    FirstLine (text ++ behind) (λ line. line ≡ take (kept_len text (line_len text)) text)
first_kept text behind part =
    let rest = drop (line_len text + 1) text in
    let whole : text ++ behind ≡ head_of text ++ (rest ++ behind) =
    ap (λ t. t ++ behind) (sym (take-append-drop (line_len text + 1) text)) ∙ append_assoc (head_of text) rest behind in
    record {
      line = take (kept_len text (line_len text)) text;
      behind = lines (rest ++ behind);
      is = ap lines whole ∙ lines_of_head text (rest ++ behind) part;
      has = refl;
    }

-- a line with its end is at these places, whatever follows
pub record StandsAt (bytes : List ℕ) (from start end after : ℕ) : Type 0 where
  pub goes_on : from < after
  pub within : after ≤ length bytes
  pub ordered : start ≤ end
  pub inside : end ≤ length bytes
  pub all : (behind : List ℕ) →
      lines (take (after - from) (drop from bytes) ++ behind) ≡ take (end - start) (drop start bytes) ∷ lines behind
  pub whole : (behind : List ℕ) → whole_lines (take (after - from) (drop from bytes) ++ behind) ≡ take (end - start)
      (drop start bytes) ∷ whole_lines behind
  pub first : (behind : List ℕ) → FirstLine (drop from bytes ++ behind) (λ line. line ≡ take (end - start) (drop start bytes))

stands_at : (bytes : List ℕ) (from start end after : ℕ) → Ended (drop from bytes) from start end after → StandsAt bytes from start end after
stands_at bytes from start end after line =
    let text = drop from bytes in
    let between = between_is bytes from start end after line in
    let size : after - from ≡ line_len text + 1 = omega (arith, line.goes_on) in
    let head : take (after - from) text ≡ head_of text = ap (λ k. take k text) size in
    record {
      goes_on = omega (arith, line.goes_on);
      within = omega (arith, line.goes_on, line.part, length-drop from bytes);
      ordered = omega (arith, line.starts, line.ends);
      inside = omega (arith, line.ends, line.part, length-drop from bytes, kept-le text (line_len text));
      all = λ behind. ap (λ h. lines (h ++ behind)) head ∙ lines_of_head text behind line.part ∙ ap (λ l. l ∷ lines behind) (sym between);
      whole = λ behind. ap (λ h. whole_lines (h ++ behind)) head ∙ whole_lines_of_head text behind line.part
          ∙ ap (λ l. l ∷ whole_lines behind) (sym between);
      first = λ behind. let kept = first_kept text behind line.part in
          record { line = kept.line; behind = kept.behind; is = kept.is; has = kept.has ∙ sym between };
    }

-- ---- What the next line shows

-- what the next line of bytes that may go on shows of them
abbrev pub Shows : (bytes : List ℕ) (from : ℕ) → Next → Type 0
Shows bytes from (Line start end after) = StandsAt bytes from start end after
Shows bytes from More = BeginsLine (drop from bytes)
Shows bytes from Long = (behind : List ℕ) → FirstLine (drop from bytes ++ behind) (λ line. 4096 < length line)
Shows bytes from End = ⊥

pub shows : (bytes : List ℕ) (from : ℕ) (next : Next) → next ≡ next_line_of bytes from false → Shows bytes from next
shows bytes from (Line start end after) is = stands_at bytes from start end after (what_is bytes from (Line start end after) is)
shows bytes from More is =
    let next = what_is bytes from More is in
    record { no_whole = no_whole_line (drop from bytes) next.0; short = next.1 }
shows bytes from Long is = what_is bytes from Long is
shows bytes from End is = what_is bytes from End is

-- the line's end isn't there
pub nothing_whole : (bytes : List ℕ) (from : ℕ) (next : Next) → next ≡ next_line_of bytes from false →
    (next ≡ End) ⊎ (next ≡ More) → BeginsLine (drop from bytes)
nothing_whole bytes from End is which = absurd (shows bytes from End is)
nothing_whole bytes from More is which = shows bytes from More is
nothing_whole bytes from Long is which = elim which [ inl e ↦ cc | inr e ↦ cc ]
nothing_whole bytes from (Line start end after) is which = elim which [ inl e ↦ cc | inr e ↦ cc ]

-- some line is there
pub some_line : (bytes : List ℕ) (from : ℕ) (next : Next) → next ≡ next_line_of bytes from false → next ≢ End → next ≢ More →
    (behind : List ℕ) → FirstLine (drop from bytes ++ behind) (λ line. ⊤)
some_line bytes from End is some unended behind = absurd (some refl)
some_line bytes from More is some unended behind = absurd (unended refl)
some_line bytes from Long is some unended behind =
    let first = shows bytes from Long is behind in
    record { line = first.line; behind = first.behind; is = first.is; has = tt }
some_line bytes from (Line start end after) is some unended behind =
    let first = (shows bytes from (Line start end after) is).first behind in
    record { line = first.line; behind = first.behind; is = first.is; has = tt }

-- ---- The last line

pub last_is : (text : List ℕ) → whole_lines text ≡ [] → length text ≢ 0 → lines text ≡ text ∷ []
last_is text none some = last_line text (unended text none) (ne_eqb (length text) 0 some)
