-- An expression where a level is left, and where none is.
use Rattle.std.proofs.Common.{◌≡◌, refl, ◌∙◌, ap, ℕ, zero, suc, ◌-◌, ◌<◌, Bool, true, false, if◌then◌else◌, List, Result, Ok, Err, arith}
use Rattle.base_core.specs.Results.{◌>>=◌, ◌>>◌}
use Rattle.c_syntax.specs.declared.fault.CFault.{CFault}
use Rattle.c_syntax.specs.declared.fault.CKind.TheVariants.{Syntax, Deep}
use Rattle.c_grammar.specs.Tokens.{Token}
use Rattle.c_grammar.specs.Prefix.{fault_at}
use Rattle.c_grammar.specs.Parsing.{Parsed, or_syntax_unless, deep_at, next}
use Rattle.lustre_grammar.specs.Parsing.{is_opener, leaf_of, parse_opened, parse_expr}
use Rattle.lustre_grammar.specs.Written.{WrittenExpr}

pub expr-some : (last levels : ℕ) (tokens : List Token) (t : Token) (rest : List Token) → 0 < levels →
    next last tokens ≡ Ok (t, rest) →
    parse_expr last levels tokens ≡ parse_opened last (parse_expr last (levels - 1)) t rest (leaf_of t)
expr-some last zero tokens t rest some first = absurd (omega (arith, some))
expr-some last (suc levels) tokens t rest some first =
    ap (λ (r : Parsed Token). r
    >>= (λ (read : Token × List Token). parse_opened last (parse_expr last levels) read.0 read.1 (leaf_of read.0))) first
    ∙ ap (λ n. parse_opened last (parse_expr last n) t rest (leaf_of t)) same
  where
    same : levels ≡ suc levels - 1
    same = omega arith

pub expr-none : (last levels : ℕ) (tokens : List Token) (t : Token) (rest : List Token) → levels ≡ 0 →
    next last tokens ≡ Ok (t, rest) →
    parse_expr last levels tokens ≡ Err (fault_at t.line (if is_opener t.text then Deep else Syntax))
expr-none last levels tokens t rest none first =
    ap (λ n. parse_expr last n tokens) none
    ∙ ap (λ (r : Parsed Token). r
    >>= (λ (read : Token × List Token). or_syntax_unless read.0 (is_opener read.0.text) >> deep_at read.0)) first
    ∙ by (is_opener t.text)
  where
    by : (opens : Bool) →
        ◌≡◌ {A = Parsed WrittenExpr} (or_syntax_unless t opens >> deep_at t) (Err (fault_at t.line (if opens then Deep else Syntax)))
    by true = refl
    by false = refl
