use Rattle.std.proofs.Common.{◌∙◌, ap, suc, [], ◌∷◌, ◌++◌, map, length, Vec}
use Rattle.std.specs.declared.alloc.Global.{Global}
use Rattle.c_grammar.specs.Parsing.{many, procedures_step}
use Rattle.c_expressions.specs.Limited.{limits_of}
use Rattle.c_grammar.specs.WrittenTrees.{procedure_of}
use Rattle.c_parser.specs.FileParts.{first_procedure}
use Rattle.c_grammar.specs.declared.written.WrittenProcedure.{WrittenProcedure}
use Rattle.c_parser.proofs.PartsLaws.{first-gives}
use Rattle.c_parser.proofs.file.procedures.Goals as goal

pub returns : goal.returns
returns c =
    first-gives (λ (v : Vec WrittenProcedure Global). map procedure_of v.items)
    (procedure_of c.in_ok-first.first) c.in_ok-first.rest
    (first_procedure c.args.reader.last (limits_of c.args.reader.limits) c.args.tokens.now)
    (λ ts. many (procedures_step c.args.reader.last (limits_of c.args.reader.limits)) (suc (length ts)) 0 ts)
    (map procedure_of c.push.new.self.items) c.later_procedures.result c.in_ok-first.ensures
    (ap (map procedure_of) (c.in_ok-push.ensures.items
    ∙ ap (λ xs. xs ++ c.in_ok-first.first ∷ []) c.new-procedures.ensures.items)) c.later_procedures.ensures
