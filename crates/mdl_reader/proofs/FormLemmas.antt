-- The form of a line by its first bytes.
use Rattle.std.proofs.Common.{◌≡◌, refl, sym, ◌∙◌, ap, ℕ, Bool, true, false, cond, true≢false, List, [], ◌∷◌, get_or, ne_eqb, ◌==◌, not, ◌&&◌}
use Rattle.std.specs.List.{take_while}
use Rattle.std.specs.Char.{is_ascii_digit}
use Rattle.base_core.specs.Bytes.{drop_while}
use Rattle.mdl_tree.specs.Text.{LineForm, is_name_byte, named_form, line_form}

-- a byte of a name is none that isn't
other_byte : (c k : ℕ) → is_name_byte c ≡ true → is_name_byte k ≡ false → (c == k) ≡ false
other_byte c k name none = ne_eqb c k (λ same. true≢false (sym name ∙ ap is_name_byte same ∙ none))

-- a line that begins with a name
pub line_form-named : (line : ℕ) (text : List ℕ) → is_name_byte (get_or text 0 0) ≡ true → is_ascii_digit (get_or text 0 0) ≡ false →
    line_form line text ≡ named_form line (take_while is_name_byte text) (drop_while is_name_byte text)
line_form-named line [] name no_digit = absurd (true≢false (sym name))
line_form-named line (c ∷ rest) name no_digit =
    by_tests (c == 35) (c == 125) (c == 34) (is_name_byte c) (is_ascii_digit c) _ _ _ _ _
    (other_byte c 35 name refl) (other_byte c 125 name refl) (other_byte c 34 name refl) name no_digit
  where
    by_tests : (a b d e f : Bool) (v w x y z : LineForm) → a ≡ false → b ≡ false → d ≡ false → e ≡ true → f ≡ false →
        cond a v (cond b w (cond d x (cond (e && not f) y z))) ≡ y
    by_tests false false false true false v w x y z _ _ _ _ _ = refl
    by_tests true b d e f v w x y z h _ _ _ _ = absurd (true≢false h)
    by_tests false true d e f v w x y z _ h _ _ _ = absurd (true≢false h)
    by_tests false false true e f v w x y z _ _ h _ _ = absurd (true≢false h)
    by_tests false false false false f v w x y z _ _ _ h _ = absurd (true≢false (sym h))
    by_tests false false false true true v w x y z _ _ _ _ h = absurd (true≢false h)
