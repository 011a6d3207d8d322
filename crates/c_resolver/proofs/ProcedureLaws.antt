-- A procedure, step by step.
use Rattle.std.proofs.Common.{◌≡◌, refl, sym, ◌∙◌, ap, ℕ, Bool, List, [], map, true, false, not, Some, Result, Ok, bytes_eq}
use Rattle.std.specs.List.{position_from}
use Rattle.c_syntax.specs.declared.fault.CKind.TheVariants.{Name, TypeRule}
use Rattle.c_syntax.specs.declared.fault.CFault.{CFault}
use Rattle.c_syntax.specs.Tree.{StmtTrees, ProcedureTree, struct_fields}
use Rattle.c_grammar.specs.Written.{WrittenProcedure, WrittenParam}
use Rattle.c_syntax.specs.Outputs.{has_name}
use Rattle.base_core.specs.Results.{◌>>=◌, ◌>>◌}
use Rattle.c_rules.specs.Resolve.{Known, Names, function_names, on_line, unless_fault, or_unnamed, is_lawful_root, check_params, resolve_head, resolve_stmts, resolve_procedure}
use Rattle.c_rules.proofs.lemmas.Resolved.{then-parts, unless-ok, on_line-ok}
use Rattle.c_grammar.specs.declared.fault.ReadCFault.{ReadCFault}
use Rattle.c_resolver.specs.Bodies.{procedure_body}
use Rattle.c_rules.specs.Gives.{Fails}
use Rattle.c_rules.proofs.lemmas.Each.{bind_ok}
use Rattle.c_rules.proofs.lemmas.Fails.{fails-bind}
use Rattle.c_resolver.proofs.PureLaws.{fails-then, then-bind}

abbrev pub procedure_scope : Known → ℕ → List (List ℕ) → Names
procedure_scope known of params = record { known = known; of = Some of; fields = struct_fields known.structs of; params = params }

not-true : (b : Bool) → not b ≡ true → b ≡ false
not-true false h = refl
not-true true h = cc

abbrev pub procedure_of_body : WrittenProcedure → ℕ → StmtTrees → ProcedureTree
procedure_of_body p of xs = record {
  name = p.name;
  private = p.private;
  of = of;
  params = map (λ (q : WrittenParam). record { name = q.name; type = q.type }) p.params;
  body = xs;
}

module _ (known : Known) (p : WrittenProcedure) (of : ℕ) where
  abbrev checked_params : Result (Unit {0}) CFault
  checked_params = check_params (function_names known) [] (map (λ (q : WrittenParam). (q.line, q.name)) p.params)

  abbrev resolved_body : Result StmtTrees CFault
  resolved_body = resolve_stmts (procedure_scope known of (map (λ (q : WrittenParam). q.name) p.params)) p.body

  pub fails_params : (e : ReadCFault) → Fails e checked_params → Fails e (procedure_body known of p)
  fails_params e h = fails-then e checked_params resolved_body (procedure_body known of p) refl h

  pub behind_params : checked_params ≡ Ok tt → resolved_body ≡ procedure_body known of p
  behind_params checked = sym (ap (λ r. r >> resolved_body) checked)

  module _ (head : on_line p.line (resolve_head known p) ≡ Ok of) where
    pub new_name : has_name (function_names known) p.name ≡ false
    new_name =
        let parts : _ =
        then-parts (unless_fault (not (has_name (function_names known) p.name)) Name)
        (or_unnamed (position_from (λ d. bytes_eq d.name p.of) 0 known.structs)
        >>= (λ k. unless_fault (is_lawful_root p) TypeRule >> Ok k)) of
        (on_line-ok p.line (resolve_head known p) of head) in
        not-true (has_name (function_names known) p.name) (unless-ok (not (has_name (function_names known) p.name)) Name parts.0 parts.1)

    behind_head : resolve_procedure known p ≡ (procedure_body known of p >>= (λ xs. Ok (procedure_of_body p of xs)))
    behind_head =
        bind_ok (on_line p.line (resolve_head known p))
        (λ k. check_params (function_names known) [] (map (λ (q : WrittenParam). (q.line, q.name)) p.params) >>
        (resolve_stmts (procedure_scope known k (map (λ (q : WrittenParam). q.name) p.params)) p.body
        >>= (λ xs. Ok (procedure_of_body p k xs)))) of head
        ∙ then-bind checked_params resolved_body (λ xs. Ok (procedure_of_body p of xs))

    pub fails_body : (e : ReadCFault) → Fails e (procedure_body known of p) → Fails e (resolve_procedure known p)
    fails_body e h =
        fails-bind e (procedure_body known of p) (λ xs. Ok (procedure_of_body p of xs)) (resolve_procedure known p)
        behind_head h

    pub gives_procedure : (xs : StmtTrees) → procedure_body known of p ≡ Ok xs →
        resolve_procedure known p ≡ Ok (procedure_of_body p of xs)
    gives_procedure xs h = behind_head ∙ bind_ok (procedure_body known of p) (λ ys. Ok (procedure_of_body p of ys)) xs h
