use Rattle.std.proofs.Common.{◌≡◌, sym, ◌∙◌, ap, map, length, drop, reverse, get_or, ◌+◌, ◌++◌, ◌∷◌, [], Err, List, ℕ, arith}
use Rattle.c_rules.specs.Resolve.{check_params, function_names}
use Rattle.c_syntax.specs.Outputs.{has_name}
use Rattle.c_syntax.proofs.lemmas.NamePlaces.{or-left, or-right}
use Rattle.c_grammar.specs.declared.written.WrittenPureParam.{WrittenPureParam}
use Rattle.c_resolver.specs.Scopes.{known_of}
use Rattle.c_resolver.specs.Params.{line_and_name}
use Rattle.c_rules.proofs.lemmas.ParamLaws.{param-passes, param-fails, from_place_or, from_end, up_to_or}
use Rattle.c_resolver.proofs.params.resolve_params.Goals as goal

abbrev no_param : WrittenPureParam
no_param = record { line = 0; name = record { ref_ptr = (0, 0); now = [] } }

pub returns-then-is_taken-clause-checked : goal.returns-then-is_taken-clause-checked
returns-then-is_taken-clause-checked c =
    let functions = function_names (known_of c.args.known.now) in
    let i = c.loop-param.param-index in
    let p = line_and_name (get_or c.args.params.now i no_param) in
    c.loop-param.invariant.checked
    ∙ ap (check_params functions (reverse c.loop-param.names))
    (from_place_or line_and_name c.args.params.now i no_param c.loop-param-test.true)
    ∙ param-fails functions c.loop-param.names p (map line_and_name (drop (i + 1) c.args.params.now))
    (sym c.is_taken.ensures ∙ c.if-is_taken.true) ∙ ap Err (sym c.fault_at.ensures)

pub loop-param-preserved : goal.loop-param-preserved
loop-param-preserved c =
    let functions = function_names (known_of c.args.known.now) in
    let i = c.loop-param.param-index in
    let p = line_and_name (get_or c.args.params.now i no_param) in
    let free = sym c.is_taken.ensures ∙ c.if-is_taken.false in
    let apart = or-left (has_name functions p.1) (has_name c.loop-param.names p.1) free in
    let new = or-right (has_name functions p.1) (has_name c.loop-param.names p.1) free in
    let more = c.in_ok-push.ensures.new new in
    let rest = map line_and_name (drop (i + 1) c.args.params.now) in
    record {
      named = more ∙ ap (λ (ns : List (List ℕ)). ns ++ p.1 ∷ []) c.loop-param.invariant.named
          ∙ up_to_or (λ (q : WrittenPureParam). q.name.now) c.args.params.now i no_param c.loop-param-test.true;
      checked = c.loop-param.invariant.checked
          ∙ ap (check_params functions (reverse c.loop-param.names))
          (from_place_or line_and_name c.args.params.now i no_param c.loop-param-test.true)
          ∙ param-passes functions c.loop-param.names p rest apart new
          ∙ ap (λ names. check_params functions (reverse names) rest) (sym more);
    }

pub returns-clause-checked : goal.returns-clause-checked
returns-clause-checked c =
    let functions = function_names (known_of c.args.known.now) in
    let all : length c.args.params.now ≡ c.loop-param.param-index =
    omega (arith, c.loop-param-test.false, c.loop-param.auto.param-index-end) in
    c.loop-param.invariant.checked
    ∙ ap (check_params functions (reverse c.loop-param.names))
    (from_end line_and_name c.args.params.now c.loop-param.param-index all)
