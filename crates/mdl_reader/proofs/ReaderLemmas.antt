-- A builder line by line.
use Rattle.std.proofs.Common.{◌≡◌, sym, ◌∙◌, ap, ℕ, ◌+◌, List, [], ◌∷◌, ◌++◌, length, map, reverse, Result, Ok, Err}
use Rattle.std.specs.Prelude.{IfOk, IfErr}
use Rattle.std.specs.Str.Lines.{lines}
use Rattle.base_core.specs.Bytes.{trim}
use Rattle.base_core.specs.Numbers.{reported_number}
use Rattle.mdl_tree.specs.declared.tree.Section.{Section}
use Rattle.mdl_tree.specs.Text.{Within, NoValue, at_end, after_line, joined, statements_from}
use Rattle.mdl_tree.specs.Spelling.{End}
use Rattle.mdl_tree.specs.Values.{section_tree, items_of}
use Rattle.mdl_tree.specs.Walks.{SectionTree}
use Rattle.mdl_reader.specs.declared.builder.Builder.{Builder}
use Rattle.mdl_reader.specs.declared.fault.ReadFault.{ReadFault}
use Rattle.mdl_reader.specs.declared.fault.ReadFault.TheVariants.{Syntax, Memory}
use Rattle.mdl_reader.specs.Faults.{Answers}
use Rattle.mdl_reader.specs.Reading.{IsFileOf, IsFaultOf}
use Rattle.mdl_reader.specs.Building.{tree_from, file_of}
use Rattle.mdl_reader.specs.Builders.{continuing, outcome, within_begun, HasRead, FailsAt, Finishes, IsNew}
use Rattle.mdl_reader.proofs.TreeLemmas.{text_outcome, text_fault, text_tree}

-- a builder that has read nothing comes to what the whole text does
pub outcome-start : (builder : Builder) (texts : List (List ℕ)) → IsNew builder →
    outcome (reported_number (length texts)) builder (statements_from (within_begun builder.begun) 1 texts) ≡ text_outcome texts
outcome-start builder texts fresh =
    let last = reported_number (length texts) in
    ap (λ b. outcome last builder (statements_from (within_begun b) 1 texts)) fresh.begun
    ∙ ap (λ (s : SectionTree). tree_from last s (map section_tree (reverse builder.around.items))
    (continuing builder.quoted (joined (statements_from NoValue 1 texts)))) fresh.current
    ∙ ap (λ xs. tree_from last (file_of End) (map section_tree (reverse xs))
    (continuing builder.quoted (joined (statements_from NoValue 1 texts)))) fresh.around
    ∙ ap (λ q. tree_from last (file_of End) [] (continuing q (joined (statements_from NoValue 1 texts)))) fresh.quoted

line_found : (within : Within) (line number : ℕ) (text trimmed : List ℕ) → line ≡ reported_number number → trimmed ≡ trim text →
    after_line within line trimmed ≡ after_line within (reported_number number) (trim text)
line_found within line number text trimmed reported cut =
    ap (λ l. after_line within l trimmed) reported ∙ ap (after_line within (reported_number number)) cut

-- a line that is read leaves what the text comes to
pub outcome-line : (last number line : ℕ) (old new : Builder) (text trimmed : List ℕ) (texts rest : List (List ℕ)) →
    line ≡ reported_number number → trimmed ≡ trim text → texts ≡ text ∷ rest →
    HasRead old new (after_line (within_begun old.begun) line trimmed) →
    outcome last new (statements_from (within_begun new.begun) (number + 1) rest)
    ≡ outcome last old (statements_from (within_begun old.begun) number texts)
outcome-line last number line old new text trimmed texts rest reported cut first takes =
    let within = within_begun old.begun in
    ap (λ w. outcome last new (statements_from w (number + 1) rest)) takes.0
    ∙ takes.1 last (statements_from (after_line within line trimmed).0 (number + 1) rest)
    ∙ ap (λ f. outcome last old (f.1 ++ statements_from f.0 (number + 1) rest)) (line_found within line number text trimmed reported cut)
    ∙ ap (λ ts. outcome last old (statements_from within number ts)) (sym first)

-- a line that isn't read has the first error
pub fault_at_line : (OfValue : Unit {0} → Type 0) (bytes : List ℕ) (number line : ℕ) (old : Builder)
    (text trimmed : List ℕ) (texts rest : List (List ℕ)) (fault : ReadFault) →
    line ≡ reported_number number → trimmed ≡ trim text → texts ≡ text ∷ rest →
    outcome (reported_number (length (lines bytes))) old (statements_from (within_begun old.begun) number texts)
    ≡ text_outcome (lines bytes) →
    Answers {X = Unit {0}} (Err fault) OfValue (FailsAt old (after_line (within_begun old.begun) line trimmed).1) → IsFaultOf bytes fault
fault_at_line OfValue bytes number line old text trimmed texts rest (Syntax told kind) reported cut first read fails =
    let last = reported_number (length (lines bytes)) in
    let within = within_begun old.begun in
    text_fault (lines bytes) (told, kind) (sym read
    ∙ ap (λ ts. outcome last old (statements_from within number ts)) first
    ∙ ap (λ f. outcome last old (f.1 ++ statements_from f.0 (number + 1) rest))
    (sym (line_found within line number text trimmed reported cut))
    ∙ fails last (statements_from (after_line within line trimmed).0 (number + 1) rest))
fault_at_line OfValue bytes number line old text trimmed texts rest Memory reported cut first read fails = tt

-- after the last line
pub tree_at_end : (bytes : List ℕ) (line number : ℕ) (builder : Builder) (texts : List (List ℕ)) (result : Result Section ReadFault) →
    line ≡ reported_number (length (lines bytes)) → texts ≡ [] →
    outcome (reported_number (length (lines bytes))) builder (statements_from (within_begun builder.begun) number texts)
    ≡ text_outcome (lines bytes) →
    Finishes line builder result → IfOk result (λ section. IsFileOf bytes (section_tree section)) × IfErr result (IsFaultOf bytes)
tree_at_end bytes line number builder texts (Ok section) reported none read (same, made) = (
  record {
    name = ap (λ (s : SectionTree). s.name) same;
    line = ap (λ (s : SectionTree). s.line) same;
    items = text_tree (lines bytes) (items_of section.items.items) (sym read ∙ at_last ∙ made);
  },
  tt,
)
  where
    at_last : outcome (reported_number (length (lines bytes))) builder (statements_from (within_begun builder.begun) number texts)
        ≡ outcome line builder (at_end (within_begun builder.begun))
    at_last =
        ap (λ ts. outcome (reported_number (length (lines bytes))) builder (statements_from (within_begun builder.begun) number ts)) none
        ∙ ap (λ l. outcome l builder (at_end (within_begun builder.begun))) (sym reported)
tree_at_end bytes line number builder texts (Err (Syntax told kind)) reported none read made =
    (tt, text_fault (lines bytes) (told, kind) (sym read ∙ at_last ∙ made))
  where
    at_last : outcome (reported_number (length (lines bytes))) builder (statements_from (within_begun builder.begun) number texts)
        ≡ outcome line builder (at_end (within_begun builder.begun))
    at_last =
        ap (λ ts. outcome (reported_number (length (lines bytes))) builder (statements_from (within_begun builder.begun) number ts)) none
        ∙ ap (λ l. outcome l builder (at_end (within_begun builder.begun))) (sym reported)
tree_at_end bytes line number builder texts (Err Memory) reported none read made = (tt, tt)
