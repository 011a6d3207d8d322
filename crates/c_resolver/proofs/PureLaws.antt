-- A pure function, step by step.
use Rattle.std.proofs.Common.{◌≡◌, refl, sym, ◌∙◌, ap, ℕ, List, [], map, false, not, None, Result, Ok, Err}
use Rattle.c_syntax.specs.declared.fault.CFault.{CFault}
use Rattle.c_syntax.specs.declared.fault.CKind.TheVariants.{Name}
use Rattle.c_syntax.specs.Tree.{ExprTree, PureTree}
use Rattle.c_grammar.specs.Written.{WrittenPure, WrittenPureParam}
use Rattle.c_syntax.specs.Outputs.{has_name}
use Rattle.base_core.specs.Results.{◌>>=◌, ◌>>◌}
use Rattle.c_rules.specs.Resolve.{Known, Names, function_names, on_line, unless_fault, check_params, resolve_expr, resolve_pure}
use Rattle.c_grammar.specs.declared.fault.ReadCFault.{ReadCFault}
use Rattle.c_grammar.specs.declared.fault.ReadCFault.TheVariants.{Refused, Memory}
use Rattle.c_resolver.specs.Bodies.{pure_body}
use Rattle.c_rules.specs.Gives.{Fails}
use Rattle.c_rules.proofs.lemmas.Each.{bind_ok}
use Rattle.c_rules.proofs.lemmas.Fails.{fails-bind}

pub fails-then : {A B : Type 0} (e : ReadCFault) (r : Result A CFault) (next whole : Result B CFault) →
    whole ≡ (r >> next) → Fails e r → Fails e whole
fails-then (Refused fault) r next whole is h = is ∙ ap (λ s. s >> next) h
fails-then Memory r next whole is h = tt

abbrev pub pure_scope : Known → List (List ℕ) → Names
pure_scope known params = record { known = known; of = None; fields = []; params = params }

-- a step after another, and what comes of both
pub then-bind : {A B C E : Type 0} (r : Result A E) (next : Result B E) (go : B → Result C E) →
    (r >> (next >>= go)) ≡ ((r >> next) >>= go)
then-bind (Ok x) next go = refl
then-bind (Err fault) next go = refl

abbrev pub pure_of_body : WrittenPure → ExprTree → PureTree
pure_of_body p x = record {
  name = p.name;
  params = map (λ (q : WrittenPureParam). q.name) p.params;
  body = x;
  line = p.return_line;
}

module _ (known : Known) (p : WrittenPure) where
  abbrev checked_params : Result (Unit {0}) CFault
  checked_params = check_params (function_names known) [] (map (λ (q : WrittenPureParam). (q.line, q.name)) p.params)

  abbrev resolved_body : Result ExprTree CFault
  resolved_body = resolve_expr (pure_scope known (map (λ (q : WrittenPureParam). q.name) p.params)) p.body

  pub fails_params : (e : ReadCFault) → Fails e checked_params → Fails e (pure_body known p)
  fails_params e h = fails-then e checked_params resolved_body (pure_body known p) refl h

  pub behind_params : checked_params ≡ Ok tt → resolved_body ≡ pure_body known p
  behind_params checked = sym (ap (λ r. r >> resolved_body) checked)

  module _ (free : has_name (function_names known) p.name ≡ false) where
    behind_name : resolve_pure known p ≡ (pure_body known p >>= (λ x. Ok (pure_of_body p x)))
    behind_name =
        (λ i. on_line p.line (unless_fault (not (free i)) Name) >>
        (checked_params >> (resolved_body >>= (λ x. Ok (pure_of_body p x)))))
        ∙ then-bind checked_params resolved_body (λ x. Ok (pure_of_body p x))

    pub fails_body : (e : ReadCFault) → Fails e (pure_body known p) → Fails e (resolve_pure known p)
    fails_body e h = fails-bind e (pure_body known p) (λ x. Ok (pure_of_body p x)) (resolve_pure known p) behind_name h

    pub gives_pure : (x : ExprTree) → pure_body known p ≡ Ok x → resolve_pure known p ≡ Ok (pure_of_body p x)
    gives_pure x h = behind_name ∙ bind_ok (pure_body known p) (λ y. Ok (pure_of_body p y)) x h
