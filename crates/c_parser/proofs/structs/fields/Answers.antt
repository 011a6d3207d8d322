use Rattle.std.proofs.Common.{sym, ◌∙◌, ap, suc, [], ◌∷◌, ◌++◌, map, length, Vec}
use Rattle.std.specs.declared.alloc.Global.{Global}
use Rattle.c_grammar.specs.Parsing.{many, fields_step, parse_field}
use Rattle.c_expressions.specs.Limited.{limits_of}
use Rattle.c_grammar.specs.WrittenTrees.{field_of}
use Rattle.c_grammar.specs.declared.written.WrittenField.{WrittenField}
use Rattle.c_parser.proofs.PartsLaws.{first-gives}
use Rattle.c_parser.proofs.structs.fields.Goals as goal

pub returns : goal.returns
returns c =
    first-gives (λ (v : Vec WrittenField Global). map field_of v.items) (field_of c.in_ok-first.first) c.in_ok-first.rest
    (parse_field c.args.reader.last (limits_of c.args.reader.limits) c.args.tokens.now)
    (λ ts. many (fields_step c.args.reader.last (limits_of c.args.reader.limits)) (suc (length ts)) 0 ts)
    (map field_of c.push.new.self.items) c.later_fields.result (sym c.in_ok-first.ensures)
    (ap (map field_of) (c.in_ok-push.ensures.items ∙ ap (λ xs. xs ++ c.in_ok-first.first ∷ []) c.new-fields.ensures.items))
    c.later_fields.ensures
