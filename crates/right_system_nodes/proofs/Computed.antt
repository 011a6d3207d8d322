-- The expression of a row computes what the row computes, where a row that reads its inputs has them.
use Rattle.std.specs.Prelude.{◌≡◌, ℕ, ◌+◌, ◌≤◌, true, false, List, [], map, ℤ, refl}
use Rattle.std.proofs.Common.{sym, ap, subst, ◌∙◌, arith, true≢false}
use Rattle.base_fixed_point.specs.declared.types.FixType.{FixType}
use Rattle.diagram_blocks.specs.declared.op.Op.{Op}
use Rattle.diagram_blocks.specs.declared.op.Op.TheVariants.{Copy, Value, Delay, Line, Gain, Sum, Product, Switch, Relational, Logic, Convert, Nothing}
use Rattle.diagram_blocks.specs.Value.{rhs, feeds_through}
use Rattle.diagram_blocks.specs.Evaluation.{PassesInType, IsEvaluable}
use Rattle.diagram_blocks.specs.Kinds.{is_delay}
use Rattle.c_syntax.specs.declared.code.Leaf.{Leaf}
use Rattle.c_syntax.specs.Tree.{ExprTree, PureTree}
use Rattle.c_semantics.specs.Values.{gives, eval, Reads, functions_of, step_limit}
use Rattle.emit_prelude.specs.Rules.{IsPrelude}
use Rattle.emit_shape.specs.Delays.{is_line}
use Rattle.emit_row_code.specs.RowCode.{rhs_code}
use Rattle.emit_row_code.specs.Computed.{returns}
use Rattle.emit_row_code.specs.KnownTypes.{IsOfType, AreTypesOf}
use Rattle.emit_row_code.specs.Laws.{RowsAreComputed, ReturnsAreFew}

-- ---- A row that is no delay doesn't ask what is remembered

passes-any : (op : Op) (out : FixType) (vs : List ℤ) (a b : ℤ) → feeds_through op ≡ true → PassesInType op out vs a →
    PassesInType op out vs b
passes-any (Delay initial) out vs a b through p = absurd (true≢false (sym through))
passes-any (Line long start) out vs a b through p = absurd (true≢false (sym through))
passes-any _ out vs a b through p = p

evaluable-any : (op : Op) (vs : List ℤ) (a b : ℤ) → feeds_through op ≡ true → IsEvaluable op vs a → IsEvaluable op vs b
evaluable-any op vs a b through e = record {
  kind = e.kind;
  types = e.types;
  out = e.out;
  delays = e.delays;
  is_op = e.is_op;
  within_limits = e.within_limits;
  has_types =
      e.has_types;
  narrow = e.narrow;
  reads = e.reads;
  passes = passes-any op e.out vs a b through e.passes;
}

rhs-any : (op : Op) (vs : List ℤ) (a b : ℤ) → feeds_through op ≡ true → rhs op vs a ≡ rhs op vs b
rhs-any (Delay initial) vs a b through = absurd (true≢false (sym through))
rhs-any (Line long start) vs a b through = absurd (true≢false (sym through))
rhs-any _ vs a b through = refl

all-types : (op : Op) (types : List FixType) (vs : List ℤ) → ((i : ℕ) → IsOfType types vs i) → AreTypesOf op types vs
all-types (Gain m frac to how) types vs all = all 0
all-types (Sum count minus fracs to how) types vs all = all
all-types (Product count frac to how) types vs all = all
all-types (Switch criterion threshold fracs to how) types vs all = all
all-types (Convert frac to how) types vs all = all 0
all-types _ types vs all = tt

pub no-line : (op : Op) → feeds_through op ≡ true → is_line op ≡ false
no-line (Line long start) through = sym through
no-line _ through = refl

-- ---- What it computes

module _ (law : RowsAreComputed) (few : ReturnsAreFew) (ps : List PureTree) (prelude : IsPrelude ps) (given : Reads) where
  -- the expression gives this in at most two calls
  pub record Computes (e : ExprTree) (v : ℤ) : Type 0 where
    pub calls : ℕ
    pub at_most : calls ≤ 2
    pub comes : (count : ℕ) → count + 2 ≤ step_limit → eval (functions_of [] ps) given 0 e count ≡ gives v (count + calls)

  -- the expression gives this in no step
  abbrev pub Gives : ExprTree → ℤ → Type 0
  Gives e v = (count : ℕ) → eval (functions_of [] ps) given 0 e count ≡ gives v count

  module _ (leaves : List Leaf) (types : List FixType) (memory : ExprTree) (m : ℤ) (wanted : List ℤ)
      (typed : (i : ℕ) → IsOfType types wanted i) where
    remembered : Gives memory m → Computes memory m
    remembered holds = record {
      calls = 0;
      at_most = omega arith;
      comes = λ count room. holds count ∙ (let same : count ≡ count + 0 = omega arith in ap (gives m) same);
    }

    by-law : (op : Op) → feeds_through op ≡ true → map given.leaf leaves ≡ wanted → (n : ℤ) → Gives memory n →
        IsEvaluable op wanted m →
        Computes (rhs_code op leaves types memory) (rhs op wanted m)
    by-law op through read n holds can = record {
      calls = returns op types (map given.leaf leaves);
      at_most = few op types (map given.leaf leaves);
      comes = λ count room.
          law op leaves types memory n ps given 0 count prelude
          (subst (λ vs. IsEvaluable op vs n) (sym read) (evaluable-any op wanted m n through can))
          (all-types op types (map given.leaf leaves) (λ i. subst (λ vs. IsOfType types vs i) (sym read) (typed i)))
          room holds
          ∙ ap (λ v. gives v (count + returns op types (map given.leaf leaves)))
          (ap (λ vs. rhs op vs n) read ∙ rhs-any op wanted n m through);
    }

    pub computes : (op : Op) → (feeds_through op ≡ true → map given.leaf leaves ≡ wanted) →
        (feeds_through op ≡ true → (n : ℤ) × Gives memory n) →
        (is_delay op ≡ true → Gives memory m) → IsEvaluable op wanted m →
        Computes (rhs_code op leaves types memory) (rhs op wanted m)
    computes (Delay initial) read holds remembers can = remembered (remembers refl)
    computes (Line long start) read holds remembers can = remembered (remembers refl)
    computes Copy read holds remembers can = let h = holds refl in by-law Copy refl (read refl) h.0 h.1 can
    computes (Value v) read holds remembers can = let h = holds refl in by-law (Value v) refl (read refl) h.0 h.1 can
    computes (Gain g frac to how) read holds remembers can = let h = holds refl in
        by-law (Gain g frac to how) refl (read refl) h.0 h.1 can
    computes (Sum count minus fracs to how) read holds remembers can =
        let h = holds refl in by-law (Sum count minus fracs to how) refl (read refl) h.0 h.1 can
    computes (Product count frac to how) read holds remembers can =
        let h = holds refl in by-law (Product count frac to how) refl (read refl) h.0 h.1 can
    computes (Switch criterion threshold fracs to how) read holds remembers can =
        let h = holds refl in by-law (Switch criterion threshold fracs to how) refl (read refl) h.0 h.1 can
    computes (Relational compare fracs) read holds remembers can =
        let h = holds refl in by-law (Relational compare fracs) refl (read refl) h.0 h.1 can
    computes (Logic op count) read holds remembers can = let h = holds refl in by-law (Logic op count) refl (read refl) h.0 h.1 can
    computes (Convert frac to how) read holds remembers can = let h = holds refl in
        by-law (Convert frac to how) refl (read refl) h.0 h.1 can
    computes Nothing read holds remembers can = let h = holds refl in by-law Nothing refl (read refl) h.0 h.1 can
