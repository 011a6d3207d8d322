-- Texts read, and texts refused: by the first line, at a token, at the end, and by a rule.
use Rattle.std.specs.Prelude.{◌≡◌, [], ◌∷◌, Ok, Err, codes, refl}
use Rattle.std.specs.Fmt.{digits}
use Rattle.c_syntax.specs.declared.fault.CKind.TheVariants.{Syntax, Name}
use Rattle.c_grammar.specs.Prefix.{fault_at}
use Rattle.c_syntax.specs.ProgramExamples.{zero_program}
use Rattle.c_grammar.specs.TextLines.{text_of_lines}
use Rattle.c_reading_laws.specs.ReadingExamples.{zero_text, name_text}
use Rattle.c_reading_laws.specs.ReadText.{read_text}

zero_text-read : read_text zero_text ≡ Ok zero_program
unfolding digits
zero_text-read = refl

name_text-refused : read_text name_text ≡ Err (fault_at 5 Name)
unfolding digits
name_text-refused = refl

no_header-refused : read_text (codes "struct root { int32_t y1; };") ≡ Err (fault_at 1 Syntax)
no_header-refused = refl

no_token-refused : read_text
    (text_of_lines (codes "#include <stdint.h>" ∷ codes "struct root { int32_t y1; };"
    ∷ codes "/* a comment" ∷ codes "*/ void root_start() { }" ∷ [])) ≡ Err (fault_at 4 Syntax)
no_token-refused = refl

early_end-refused : read_text
    (text_of_lines (codes "#include <stdint.h>" ∷ codes "struct root { int32_t y1; };" ∷ []))
    ≡ Err (fault_at 2 Syntax)
early_end-refused = refl
