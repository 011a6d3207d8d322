-- Definitions and files by their parts are those of the grammar.
use Rattle.std.proofs.Common.{◌≡◌, refl, sym, ◌∙◌, ap, subst, ℕ, suc, Bool, List, [], ◌∷◌, length, codes, bytes_eq, Result, Ok, Err}
use Rattle.c_syntax.specs.declared.fault.CFault.{CFault}
use Rattle.base_core.specs.Results.{◌>>=◌, ◌>>◌}
use Rattle.c_grammar.specs.Tokens.{Token}
use Rattle.c_grammar.specs.Parsing.{Parsed, Limits, many, or_syntax_unless, next, parse_word, parse_name, parse_expr, parse_pure_param, pure_params_step, parse_pure, parse_procedure_behind, parse_field, fields_step, parse_struct, parse_procedure, definition_of, pures_step, structs_step, procedures_step, parse_file}
use Rattle.c_grammar.specs.declared.fault.ReadCFault.{ReadCFault}
use Rattle.c_expressions.specs.Gives.{Gives, behind}
use Rattle.c_parser.specs.Parts.{pure_parts, procedure_parts}
use Rattle.c_parser.specs.FileParts.{struct_parts, first_procedure, file_parts}

by-step : {A B : Type 0} (r : Result A CFault) (f g : A → Result B CFault) → ((x : A) → f x ≡ g x) → (r >>= f) ≡ (r >>= g)
by-step (Ok x) f g e = e x
by-step (Err fault) f g e = refl

then-then : {A B C : Type 0} (r : Result A CFault) (f : A → Result B CFault) (g : B → Result C CFault) →
    ((r >>= f) >>= g) ≡ (r >>= (λ x. f x >>= g))
then-then (Ok x) f g = refl
then-then (Err fault) f g = refl

unless-then : {A B C : Type 0} (r : Result A CFault) (s : Result B CFault) (g : B → Result C CFault) → ((r >> s) >>= g) ≡ (r >> (s >>= g))
unless-then (Ok x) s g = refl
unless-then (Err fault) s g = refl

by-unless : {A B : Type 0} (r : Result A CFault) (s u : Result B CFault) → s ≡ u → (r >> s) ≡ (r >> u)
by-unless (Ok x) s u e = e
by-unless (Err fault) s u e = refl

module _ (last : ℕ) (limits : Limits) where
  pub pure_parts-is : (t : Token) (tokens : List Token) → pure_parts last limits t tokens ≡ parse_pure last limits t tokens
  pure_parts-is t tokens =
      by-step (parse_word last (codes "int64_t") tokens) _ _ (λ type.
      by-step (parse_name last type.1) _ _ (λ name.
      by-step (parse_word last (codes "(") name.1) _ _ (λ opened.
      then-then (parse_pure_param last limits 0 opened.1) _ _ ∙ by-step (parse_pure_param last limits 0 opened.1) _ _ (λ first.
      then-then (many (pure_params_step last limits) (suc (length first.1)) 1 first.1) _ _
      ∙ by-step (many (pure_params_step last limits) (suc (length first.1)) 1 first.1) _ _ (λ later.
      by-step (parse_word last (codes "{") later.1) _ _ (λ open_body.
      then-then (next last open_body.1) _ _ ∙ by-step (next last open_body.1) _ _ (λ r.
      unless-then (or_syntax_unless r.0 (bytes_eq r.0.text (codes "return"))) _ _
      ∙ by-unless (or_syntax_unless r.0 (bytes_eq r.0.text (codes "return"))) _ _ (
      then-then (parse_expr last limits.exprs r.1) _ _ ∙ by-step (parse_expr last limits.exprs r.1) _ _ (λ body.
      then-then (parse_word last (codes ";") body.1) _ _ ∙ by-step (parse_word last (codes ";") body.1) _ _ (λ end.
      then-then (parse_word last (codes "}") end.1) _ _))))))))))

  pub procedure_parts-is : (line : ℕ) (private : Bool) (tokens : List Token) →
      procedure_parts last limits line private tokens ≡ parse_procedure_behind last limits line private tokens
  procedure_parts-is line private tokens =
      by-step (parse_name last tokens) _ _ (λ name.
      by-step (parse_word last (codes "(") name.1) _ _ (λ opened.
      then-then (parse_word last (codes "struct") opened.1) _ _ ∙ by-step (parse_word last (codes "struct") opened.1) _ _ (λ struct_word.
      then-then (parse_name last struct_word.1) _ _ ∙ by-step (parse_name last struct_word.1) _ _ (λ of.
      then-then (parse_word last (codes "*") of.1) _ _ ∙ by-step (parse_word last (codes "*") of.1) _ _ (λ star.
      then-then (parse_word last (codes "s") star.1) _ _)))))

  pub struct_parts-is : (t : Token) (tokens : List Token) → struct_parts last limits t tokens ≡ parse_struct last limits t tokens
  struct_parts-is t tokens =
      by-step (parse_name last tokens) _ _ (λ name.
      by-step (parse_word last (codes "{") name.1) _ _ (λ opened.
      then-then (parse_field last limits opened.1) _ _ ∙ by-step (parse_field last limits opened.1) _ _ (λ first.
      then-then (many (fields_step last limits) (suc (length first.1)) 0 first.1) _ _)))

  pub file_parts-is : (tokens : List Token) → file_parts last limits tokens ≡ parse_file last limits tokens
  file_parts-is tokens =
      by-step (many (pures_step last limits) (suc (length tokens)) 0 tokens) _ _ (λ pures.
      by-step (many (structs_step last limits) (suc (length pures.1)) 0 pures.1) _ _ (λ structs.
      then-then (first_procedure last limits structs.1) _ _ ∙ (then-then (next last structs.1) _ _ ∙ by-step (next last structs.1) _ _ (λ t.
      by-step (parse_procedure last limits t.0 t.1 (definition_of t.0.text)) _ _ (λ first.
      then-then (many (procedures_step last limits) (suc (length first.1)) 0 first.1) _ _)))))

one-first : {X : Type 0} (x : X) (r : Parsed (List X)) → behind (x ∷ []) r ≡ (r >>= (λ (xs : List X × List Token). Ok (x ∷ xs.0, xs.1)))
one-first x (Ok read) = refl
one-first x (Err fault) = refl

-- a list whose first element is read before the others
pub first-gives : {A X : Type 0} (view : A → List X) (x : X) (rest : List Token) (p : Parsed X) (later : List Token →
    Parsed (List X)) (ys : List X) (result : Result (A × List Token) ReadCFault) → p ≡ Ok (x, rest) → ys ≡ x ∷ [] →
    Gives view result (behind ys (later rest)) →
    Gives view result
    (p >>= (λ (first : X × List Token). later first.1 >>= (λ (xs : List X × List Token). Ok (first.0 ∷ xs.0, xs.1))))
first-gives {A} {X} view x rest p later ys result e one g =
    subst (Gives view result) same g
  where
    same : behind ys (later rest)
        ≡ (p >>= (λ (first : X × List Token). later first.1
        >>= (λ (xs : List X × List Token). Ok (first.0 ∷ xs.0, xs.1))))
    same = ap (λ zs. behind zs (later rest)) one ∙ one-first x (later rest)
        ∙ ap (λ (q : Parsed X). q
        >>= (λ (first : X × List Token). later first.1 >>= (λ (xs : List X × List Token). Ok (first.0 ∷ xs.0, xs.1))))
        (sym e)
