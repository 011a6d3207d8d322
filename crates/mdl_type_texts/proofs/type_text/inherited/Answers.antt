use Rattle.std.proofs.Common.{◌≡◌, ap, ◌∙◌, ℕ, Bool, true, false, List, codes, nat_eq, if◌then◌else◌}
use Rattle.std.specs.List.{starts_with}
use Rattle.mdl_type_texts.specs.TypeTexts.{Meaning, Logical, Back, Inherit, stands_in, inherited_meaning}
use Rattle.mdl_type_texts.proofs.type_text.inherited.Goals as goal

-- the meaning by the two tests
abbrev meaning_by : Bool → Bool → Meaning
meaning_by logical back = if logical then Logical else if back then Back else Inherit

by_tests : (text front part : List ℕ) (logical back : Bool) → front ≡ codes "Inherit: Logical" → part ≡ codes "back propagation" →
    logical ≡ starts_with nat_eq text front → back ≡ stands_in part text → meaning_by logical back ≡ inherited_meaning text
by_tests text front part logical back e f a b =
    ap (λ t. meaning_by t back) (a ∙ ap (starts_with nat_eq text) e)
    ∙ ap (meaning_by (starts_with nat_eq text (codes "Inherit: Logical"))) (b ∙ ap (λ p. stands_in p text) f)

pub returns-then-stands_in : goal.returns-then-stands_in
returns-then-stands_in c =
    by_tests _ _ _ false true c.as_slice.ensures c.as_slice-else-starts_with.ensures c.if-starts_with.ensures.value
    c.if-stands_in.ensures

pub returns-else-stands_in : goal.returns-else-stands_in
returns-else-stands_in c =
    by_tests _ _ _ false false c.as_slice.ensures c.as_slice-else-starts_with.ensures c.if-starts_with.ensures.value
    c.if-stands_in.ensures
