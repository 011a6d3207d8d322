use Rattle.std.proofs.Common.{◌≡◌, ◌∙◌, ap, subst, suc, [], ◌∷◌, ◌++◌, map, length, Vec, arith}
use Rattle.std.specs.declared.alloc.Global.{Global}
use Rattle.c_grammar.specs.Parsing.{many, pure_params_step, parse_pure_param}
use Rattle.c_expressions.specs.Gives.{Gives, behind}
use Rattle.c_expressions.specs.Limited.{limits_of}
use Rattle.c_grammar.specs.WrittenTrees.{pure_param_of}
use Rattle.c_grammar.specs.declared.written.WrittenPureParam.{WrittenPureParam}
use Rattle.c_parser.proofs.PartsLaws.{first-gives}
use Rattle.c_parser.proofs.params.pure_params.Goals as goal

pub returns : goal.returns
returns c =
    let one : c.push.new.self.len ≡ 1 = omega (arith, c.in_ok-push.ensures.len, c.new-params.ensures.len) in
    first-gives (λ (v : Vec WrittenPureParam Global). map pure_param_of v.items)
    (pure_param_of c.in_ok-first.first) c.in_ok-first.rest
    (parse_pure_param c.args.reader.last (limits_of c.args.reader.limits) 0 c.args.tokens.now)
    (λ ts. many (pure_params_step c.args.reader.last (limits_of c.args.reader.limits)) (suc (length ts)) 1 ts)
    (map pure_param_of c.push.new.self.items) c.later_pure_params.result c.in_ok-first.ensures
    (ap (map pure_param_of) (c.in_ok-push.ensures.items
    ∙ ap (λ xs. xs ++ c.in_ok-first.first ∷ []) c.new-params.ensures.items))
    (subst (λ k. Gives (λ (v : Vec WrittenPureParam Global). map pure_param_of v.items) c.later_pure_params.result
    (behind (map pure_param_of c.push.new.self.items)
    (many (pure_params_step c.args.reader.last (limits_of c.args.reader.limits))
    (suc (length c.in_ok-first.rest)) k c.in_ok-first.rest))) one c.later_pure_params.ensures)
