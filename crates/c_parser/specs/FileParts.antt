-- Structs and files by their parts.
use Rattle.std.specs.Prelude.{ℕ, suc, List, ◌∷◌, length, codes, Result, Ok}
use Rattle.c_syntax.specs.declared.fault.CFault.{CFault}
use Rattle.base_core.specs.Results.{◌>>=◌}
use Rattle.c_grammar.specs.Tokens.{Token}
use Rattle.c_grammar.specs.Written.{WrittenField, WrittenStruct, WrittenProcedure, WrittenProgram}
use Rattle.c_grammar.specs.Parsing.{Parsed, Limits, many, next, parse_word, parse_name, parse_field, fields_step, parse_procedure, definition_of, pures_step, structs_step, procedures_step}

module _ (last : ℕ) (limits : Limits) where
  -- the fields of a struct, of which there is one at least, and the `}`
  abbrev pub fields : List Token → Parsed (List WrittenField)
  fields tokens = do
    first ← parse_field last limits tokens
    later ← many (fields_step last limits) (suc (length first.1)) 0 first.1
    Ok (first.0 ∷ later.0, later.1)

  -- a struct after its `struct`
  abbrev pub struct_parts : Token → List Token → Parsed WrittenStruct
  struct_parts t tokens = do
    name ← parse_name last tokens
    opened ← parse_word last (codes "{") name.1
    all ← fields opened.1
    end ← parse_word last (codes ";") all.1
    Ok (record { line = t.line; name = name.0; fields = all.0 }, end.1)

  -- the first procedure
  abbrev pub first_procedure : List Token → Parsed WrittenProcedure
  first_procedure tokens =
      next last tokens >>= (λ t. parse_procedure last limits t.0 t.1 (definition_of t.0.text))

  -- the procedures, of which there is one at least
  abbrev pub procedures : List Token → Parsed (List WrittenProcedure)
  procedures tokens = do
    first ← first_procedure tokens
    later ← many (procedures_step last limits) (suc (length first.1)) 0 first.1
    Ok (first.0 ∷ later.0, later.1)

  -- a file after its first line
  abbrev pub file_parts : List Token → Result WrittenProgram CFault
  file_parts tokens = do
    pures ← many (pures_step last limits) (suc (length tokens)) 0 tokens
    structs ← many (structs_step last limits) (suc (length pures.1)) 0 pures.1
    all ← procedures structs.1
    Ok (record { pures = pures.0; structs = structs.0; procedures = all.0 })
