-- Expressions that are not too deep, as a test on what is written.
use Rattle.std.proofs.Common.{◌≡◌, refl, sym, subst, ◌≤◌, ◌↔◌, Bool, true, false, ◌&&◌, nat_le, leb-true, le-leb}
use Rattle.std.specs.List.{list_all}
use Rattle.lustre_syntax.specs.Tree.{ExprTree}
use Rattle.lustre_syntax.specs.Lawful.{expr_depth, expr_limit}
use Rattle.lustre_grammar.specs.Written.{WrittenExpr, WrittenEquation, set, call, WrittenNode, WrittenFile}

abbrev pub value_within : WrittenExpr → Bool
value_within v = nat_le (expr_depth v) expr_limit

abbrev pub equation_within : WrittenEquation → Bool
equation_within (set line given value) = value_within value
equation_within (call line given callee values) = list_all value_within values

abbrev pub node_within : WrittenNode → Bool
node_within n = list_all equation_within n.equations

abbrev pub file_within : WrittenFile → Bool
file_within w = list_all node_within w.nodes

-- an expression by places is as deep
pub value-limit : (w : WrittenExpr) (x : ExprTree) → expr_depth w ≡ expr_depth x →
    (value_within w ≡ true) ↔ (expr_depth x ≤ expr_limit)
value-limit w x same = (
  λ h. subst (λ n. n ≤ expr_limit) same (leb-true (expr_depth w) expr_limit h),
  λ h. le-leb (expr_depth w) expr_limit (subst (λ n. n ≤ expr_limit) (sym same) h),
)

pub both-hold : (a b : Bool) (P Q : Type 0) → (a ≡ true) ↔ P → (b ≡ true) ↔ Q → ((a && b) ≡ true) ↔ (P × Q)
both-hold true b P Q f g = (λ h. (f.0 refl, g.0 h), λ h. g.1 h.1)
both-hold false b P Q f g = (λ h. cc, λ h. f.1 h.0)
