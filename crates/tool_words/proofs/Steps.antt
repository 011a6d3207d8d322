-- A walk of `clap` over words with a first byte that is no `-`: each goes to the positional argument that is next.
use Rattle.std.proofs.Common.{◌≡◌, ◌∙◌, ◌&&◌, ◌||◌, ◌==◌, ℕ, Bool, cond, true, false, suc, refl, sym, ap, ap₂, true≢false, List, [], ◌∷◌, None}
use Rattle.std.specs.Prelude.{not, fold}
use Rattle.std.specs.List.{list_all}
use Rattle.std.specs.Option.{option_map_or}
use Rattle.std.specs.Str.{bytes_eq}
use Rattle.clap.specs.Lexer.{long_of, short_of}
use Rattle.clap.specs.Simple.{Shape}
use Rattle.clap.specs.Walk.{Held, Text, Walk, after_step, arg_by_index, finished, idle, long_or_other, nothing_held, rows_after, short_or_plain, to_positional, trailing, value, walked, word_met}
use Rattle.clap.specs.Takes.{bundle_passes, default_passes, flag_word_passes, is_valid, level_passes, other_passes, positional_passes, settle_passes, step_passes, turn_passes, walk_passes}
use Rattle.tool_words.specs.Words.{is_word}

no_minus : (x : ℕ) (xs : Text) → is_word (x ∷ xs) ≡ true → (x == 45) ≡ false
no_minus x xs is = go (x == 45) is
  where
    go : (b : Bool) → not b ≡ true → b ≡ false
    go true e = absurd (true≢false (sym e))
    go false e = refl

no_end : (word : Text) → is_word word ≡ true → bytes_eq word (45 ∷ 45 ∷ []) ≡ false
no_end [] is = absurd (true≢false (sym is))
no_end (x ∷ xs) is = rw (no_minus x xs is) refl

no_long : (word : Text) → is_word word ≡ true → long_of word ≡ None
no_long [] is = absurd (true≢false (sym is))
no_long (x ∷ xs) is = rw (no_minus x xs is) refl

no_short : (word : Text) → is_word word ≡ true → short_of word ≡ None
no_short [] is = absurd (true≢false (sym is))
no_short (x ∷ xs) is = rw (no_minus x xs is) refl

-- a walk that is before a positional
abbrev pub place : Held → ℕ → Walk
place h position = record { held = h; waiting = idle; position = position; is_trailing = false; stopped = None }

module _ (s : Shape) where
  met : (h : Held) (position : ℕ) (word : Text) → is_word word ≡ true → word_met s.rules [] false idle position word h ≡ (h, value)
  met h position word is =
      ap (λ b. cond b (h, trailing position) (long_or_other s.rules idle word (long_of word) h)) (no_end word is)
      ∙ ap (λ o. long_or_other s.rules idle word o h) (no_long word is)
      ∙ ap (λ o. short_or_plain s.rules idle word o h) (no_short word is)

  abbrev pub to_next : Held → ℕ → Text → Walk
  to_next h position word = to_positional s.rules (arg_by_index s.rules position) word (place h position) h

  walked_to : (h : Held) (position : ℕ) (word : Text) → is_word word ≡ true
      → walked s.rules [] (place h position) word ≡ to_next h position word
  unfolding walked
  walked_to h position word is = ap (λ m. after_step s.rules word (place h position) m.0 m.1) (met h position word is)

  is_no_flag : (h : Held) (word : Text) → is_word word ≡ true → other_passes s None word h ≡ true
  is_no_flag h word is =
      ap (λ b. b || flag_word_passes s.rules s.args_override_self (long_of word) word h) (no_end word is)
      ∙ ap (λ o. flag_word_passes s.rules s.args_override_self o word h) (no_long word is)
      ∙ ap (λ o. option_map_or (λ flags. bundle_passes s.rules s.args_override_self flags h) o true) (no_short word is)

  abbrev pub next_passes : Held → ℕ → Bool
  next_passes h position = option_map_or (λ a. positional_passes s.rules s.args_override_self a h) (arg_by_index s.rules position) false

  turned_to : (h : Held) (position : ℕ) (word : Text) → is_word word ≡ true
      → turn_passes s [] (place h position) word ≡ next_passes h position
  turned_to h position word is = ap₂ (λ b m. b && step_passes s position m.0 m.1) (is_no_flag h word is) (met h position word is)

  -- each of the words has its positional, and this is held after them
  abbrev pub Goes : Held → ℕ → List Text → Held → Type 0
  Goes h position [] end = h ≡ end
  Goes h position (word ∷ words) end = (next : Held) × (is_word word ≡ true) × (to_next h position word ≡ place next (suc position))
      × (next_passes h position ≡ true) × Goes next (suc position) words end

  goes_held : (h : Held) (position : ℕ) (words : List Text) (end : Held) → Goes h position words end
      → (fold (walked s.rules []) (place h position) words).held ≡ end
  goes_held h position [] end goes = goes
  goes_held h position (word ∷ words) end goes =
      ap (λ w. (fold (walked s.rules []) w words).held) (walked_to h position word goes.1 ∙ goes.2)
      ∙ goes_held goes.0 (suc position) words end goes.4

  goes_pass : (h : Held) (position : ℕ) (words : List Text) (end : Held) → Goes h position words end
      → walk_passes s [] (place h position) words ≡ true
  unfolding walk_passes
  goes_pass h position [] end goes = refl
  goes_pass h position (word ∷ words) end goes =
      ap₂ (λ b w. b && walk_passes s [] w words) (turned_to h position word goes.1 ∙ goes.3) (walked_to h position word goes.1 ∙ goes.2)
      ∙ goes_pass goes.0 (suc position) words end goes.4

  -- what is held after the words passes
  abbrev pub end_passes : Held → Bool
  end_passes h = settle_passes s.rules s.args_override_self h && (list_all default_passes s.rules && is_valid s (finished s.rules h) false)

  pub goes_level : (words : List Text) (end : Held) → Goes nothing_held 1 words end → end_passes end ≡ true
      → level_passes s [] nothing_held words false ≡ true
  goes_level words end goes ends =
      ap₂ (λ b h. b && end_passes h) (goes_pass nothing_held 1 words end goes) (goes_held nothing_held 1 words end goes)
      ∙ ends

  pub goes_rows : (words : List Text) (end : Held) → Goes nothing_held 1 words end → rows_after s.rules [] words ≡ finished s.rules end
  goes_rows words end goes = ap (finished s.rules) (goes_held nothing_held 1 words end goes)
