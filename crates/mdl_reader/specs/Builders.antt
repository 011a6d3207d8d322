-- A builder in memory, and what each of its steps does.
use Rattle.std.specs.Prelude.{◌≡◌, ℕ, Bool, true, List, [], ◌∷◌, ◌++◌, map, reverse, Option, None, Some, Result, Ok, Err}
use Rattle.base_refusals.specs.declared.refusal.SyntaxKind.{SyntaxKind}
use Rattle.mdl_tree.specs.declared.tree.Section.{Section}
use Rattle.mdl_tree.specs.Text.{Statement, Sets, Within, NoValue, Value, joined, joined_with, at_end}
use Rattle.mdl_tree.specs.Spelling.{Items, End, Param}
use Rattle.mdl_tree.specs.Values.{section_tree}
use Rattle.mdl_tree.specs.Walks.{SectionTree}
use Rattle.mdl_reader.specs.declared.builder.Builder.{Builder}
use Rattle.mdl_reader.specs.declared.builder.Parameter.{Parameter}
use Rattle.mdl_reader.specs.declared.fault.ReadFault.{ReadFault}
use Rattle.mdl_reader.specs.Building.{file_of, with_items, tree_from}
use Rattle.mdl_reader.specs.Faults.{Answers}

-- a parameter as a statement, whether its value is quoted or not
abbrev pub statement_of : Parameter → Bool → Statement
statement_of parameter quoted = Sets parameter.line parameter.name parameter.value.items quoted

-- the section with the quoted parameter, if there is one, as its last item
abbrev pub with_quoted : Option Parameter → SectionTree → SectionTree
with_quoted None section = section
with_quoted (Some parameter) section =
    with_items section (Param parameter.name parameter.value.items parameter.line End)

-- the statements after the quoted parameter, if there is one, which takes the strings that they
-- begin with
abbrev pub continuing : Option Parameter → List Statement → List Statement
continuing None statements = statements
continuing (Some parameter) statements = joined_with (statement_of parameter true) statements

-- the sections around the innermost, from the inside out
abbrev pub around_of : Builder → List SectionTree
around_of builder = map section_tree (reverse builder.around.items)

-- what the builder comes to with these statements of the lines that follow
abbrev pub outcome : ℕ → Builder → List Statement → Result Items (ℕ × SyntaxKind)
outcome last builder statements =
    tree_from last (section_tree builder.current) (around_of builder)
    (continuing builder.quoted (joined statements))

-- where the next line is
abbrev pub within_begun : Option Parameter → Within
within_begun None = NoValue
within_begun (Some parameter) = Value parameter.line parameter.name parameter.value.items

-- the builder has read nothing
pub record IsNew (builder : Builder) : Type 0 where
  pub current : section_tree builder.current ≡ file_of End
  pub around : builder.around.items ≡ []
  pub quoted : builder.quoted ≡ None
  pub begun : builder.begun ≡ None

-- the builder has read these statements
abbrev pub Reads : Builder → Builder → List Statement → Type 0
Reads old new statements = (last : ℕ) (rest : List Statement) →
    outcome last new rest ≡ outcome last old (statements ++ rest)

-- with these statements the builder comes to this error
abbrev pub FailsAt : Builder → List Statement → ℕ → SyntaxKind → Type 0
FailsAt builder statements line kind =
    (last : ℕ) (rest : List Statement) →
    outcome last builder (statements ++ rest) ≡ Err (line, kind)

-- a step over one statement
abbrev pub Steps : Builder → Builder → Result (Unit {0}) ReadFault → Statement → Type 0
Steps old new result statement =
    Answers result (λ _. Reads old new (statement ∷ []) × (new.begun ≡ old.begun))
    (FailsAt old (statement ∷ []))

-- the builder has read the statements of a line, and is after it
abbrev pub HasRead : Builder → Builder → Within × List Statement → Type 0
HasRead old new found = (within_begun new.begun ≡ found.0) × Reads old new found.1

-- a step over a line, by where the next one is and what statements this one makes or ends
abbrev pub StepsOver : Builder → Builder → Result (Unit {0}) ReadFault → Within × List Statement →
    Type 0
StepsOver old new result found = Answers result (λ _. HasRead old new found) (FailsAt old found.1)

-- the end of the text, whose last line has this number
abbrev pub Finishes : ℕ → Builder → Result Section ReadFault → Type 0
Finishes last builder result =
    let outcome_at_end = outcome last builder (at_end (within_begun builder.begun)) in
    Answers result
    (λ section. (section_tree section ≡ file_of (section_tree section).items)
    × (outcome_at_end ≡ Ok (section_tree section).items))
    (λ line kind. outcome_at_end ≡ Err (line, kind))
