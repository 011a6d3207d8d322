-- A row that passes on its input passes on a number of its own type: nothing is refused for types, so the input has that
-- type too, or is a Ground, whose 0 lies in every type.
use Rattle.std.specs.Prelude.{◌≡◌, ℕ, zero, suc, ◌+◌, ◌<◌, ◌≤◌, ◌==◌, Bool, true, false, not, ◌&&◌, ◌||◌, if◌then◌else◌, IsTrue, MatchBool, List, [], ◌∷◌, ◌++◌, map, flat_map, length, Option, Some, None, is_some, option_and_then, slice_get, slice_index_or, ◌⊎◌, ℤ, pos}
use Rattle.std.specs.List.{AllByRecursion, range_with_len}
use Rattle.std.specs.Bool.{beq}
use Rattle.std.specs.Option.{option_or}
use Rattle.std.proofs.Common.{refl, sym, ◌∙◌, ap, subst, arith, inl, inr, true≢false, eqb-true}
use native.Mathlib.Decide.{ℕ_discrete}
use Rattle.base_refusals.specs.Refusals.{PlainRefusal}
use Rattle.base_fixed_point.specs.declared.FixType.{FixType}
use Rattle.base_fixed_point.specs.declared.TypeText.{TypeText}
use Rattle.base_fixed_point.specs.declared.TypeText.TheVariants.{Inherit, Logical, Back, Fixed}
use Rattle.base_fixed_point.specs.Types.{boolean}
use Rattle.base_fixed_point.specs.Conversion.{InType}
use Rattle.diagram_blocks.specs.declared.Kind.{Kind}
use Rattle.diagram_blocks.specs.declared.Kind.TheVariants.{Inport, Outport, SubSystem, Ground, Terminator, EnablePort, TriggerPort}
use Rattle.diagram_blocks.specs.Value.{input}
use Rattle.diagram_blocks.proofs.lemmas.InType.{values_stay_in_type}
use Rattle.diagram_meaning.specs.declared.table.Row.{Row}
use Rattle.diagram_meaning.specs.Rows.{row_at, no_row}
use Rattle.diagram_blocks.specs.Kinds.{is_inport, is_outport}
use Rattle.diagram_meaning.specs.RowTable.{RowTable}
use Rattle.diagram_meaning.specs.WellFormed.{IsRow, IsWireIn, IsTypeTextOf, has_output, wires_wanted, reading_system}
use Rattle.diagram_meaning.specs.Types.{SameAs, NoRule, first_input, inherited_rule, rule_of, type_by, type_within, MeetsType, is_boolean_by_kind, type_at}
use Rattle.base_refusals.specs.FirstRefusal.{least_line}
use Rattle.diagram_meaning.specs.TypeRefusals.{known_type, written_type, followed_type, type_of_row, same_type, are_unlike, is_unlike, type_faults, bad_types, type_refusal}
use Rattle.diagram_meaning.specs.ResolvedTree.{ResolvedTree, IsResolvedTree, diagram_of}
use Rattle.diagram_meaning.specs.Run.{value_at}
use Rattle.diagram_meaning.proofs.lemmas.OneType.{meets-one}
use Rattle.diagram_meaning.proofs.lemmas.TypeFollowed.{type_followed}
use Rattle.diagram_typed_runs.specs.Fitting.{FitsRow, EachFits}

-- 0 lies in every type
pub zero-in : (type : FixType) → InType type (pos 0)
zero-in type = values_stay_in_type Ground [] type false [] (pos 0) tt

-- ---- Nothing is refused for types

-- a passage that finds nothing, before others
first-none : (refusals : List PlainRefusal) (rest : Option PlainRefusal) → option_or (least_line refusals) rest ≡ None → refusals ≡ []
first-none [] rest e = refl
first-none (refusal ∷ refusals) rest e = absurd (let wrong : ⊥ = cc e in wrong)

left-nil : (xs ys : List PlainRefusal) → xs ++ ys ≡ [] → xs ≡ []
left-nil [] ys e = refl
left-nil (x ∷ xs) ys e = absurd (let wrong : ⊥ = cc e in wrong)

right-nil : (xs ys : List PlainRefusal) → xs ++ ys ≡ [] → ys ≡ []
right-nil [] ys e = e
right-nil (x ∷ xs) ys e = absurd (let wrong : ⊥ = cc e in wrong)

-- where nothing is found of the numbers from a on, nothing is found of each
none-at : (f : ℕ → List PlainRefusal) (n a b : ℕ) → flat_map f (range_with_len a n) ≡ [] → a ≤ b → b < a + n → f b ≡ []
none-at f zero a b e low high = absurd (omega arith)
none-at f (suc n) a b e low high = elim (ℕ_discrete a b) [
  | yes same ↦ subst (λ k. f k ≡ []) same (left-nil (f a) (flat_map f (range_with_len (a + 1) n)) e)
  | no differ ↦ none-at f n (a + 1) b (right-nil (f a) (flat_map f (range_with_len (a + 1) n)) e) (omega arith) (omega arith)
]

-- no row writes a type unlike its input's
is-like : (rows : List Row) (b : ℕ) → type_refusal rows ≡ None → b < length rows → is_unlike rows b ≡ false
is-like rows b accepted inside =
    by (is_some (type_of_row rows b)) (is_unlike rows b) _ _
    (none-at (type_faults rows) (length rows) 0 b (first-none (bad_types rows) _ accepted) (omega arith)
    (omega arith))
  where
    by : (some unlike : Bool) (missing wrong : PlainRefusal) →
        (if some then (if unlike then wrong ∷ [] else []) else missing ∷ []) ≡ [] → unlike ≡ false
    by true true missing wrong e = absurd (let no : ⊥ = cc e in no)
    by true false missing wrong e = refl
    by false unlike missing wrong e = absurd (let no : ⊥ = cc e in no)

-- what holds of all items holds of each
all-at : {X : Type 0} (P : X → Type 0) (xs : List X) (k : ℕ) (d : X) → AllByRecursion P xs → k < length xs → P (slice_index_or xs k d)
all-at P [] k d h inside = absurd (omega arith)
all-at P (x ∷ xs) zero d h inside = h.0
all-at P (x ∷ xs) (suc k) d h inside = all-at P xs k d h.1 (omega arith)

-- ---- Types that are the same

same-bools : (x y : Bool) → beq x y ≡ true → x ≡ y
same-bools true true e = refl
same-bools true false e = sym e
same-bools false true e = e
same-bools false false e = refl

both : (x y : Bool) → (x && y) ≡ true → (x ≡ true) × (y ≡ true)
both true y e = (refl, e)
both false y e = absurd (true≢false (sym e))

-- a number of a type lies in one that is the same
same-in : (t u : FixType) (number : ℤ) → same_type t u ≡ true → InType u number → InType t number
same-in t u number same h =
    let parts = both (beq t.signed u.signed) (t.bits == u.bits && t.frac == u.frac) same in
    let signed = same-bools t.signed u.signed parts.0 in
    let bits : t.bits ≡ u.bits = eqb-true t.bits u.bits (both (t.bits == u.bits) (t.frac == u.frac) parts.1).0 in
    rw (signed, bits) h

-- ---- A row that passes on its input

-- row b has one wire and the type of that wire, or writes one
pub record PassesOn (rows : List Row) (b : ℕ) : Type 0 where
  pub rule : inherited_rule (row_at rows b).kind (row_at rows b).inputs ≡ first_input (row_at rows b).inputs
  pub typed : is_boolean_by_kind (row_at rows b).kind ≡ false
  pub text : ((row_at rows b).type_text ≡ Inherit) ⊎ ((is_inport (row_at rows b).kind || is_outport (row_at rows b).kind) ≡ true)
  pub wires : length (row_at rows b).inputs ≡ 1

-- what is met first by a rule that leads to row c, if no type is written
first-met : (rows : List Row) (text : TypeText) (c n : ℕ) (type : FixType) →
    type_by (rule_of text (SameAs c)) (type_within rows n) ≡ Some type →
    MeetsType rows c type ⊎ (known_type (rule_of text NoRule) ≡ Some type)
first-met rows Inherit c n type e = inl (n, e)
first-met rows Logical c n type e = inr e
first-met rows Back c n type e = absurd (let no : ⊥ = cc e in no)
first-met rows (Fixed written) c n type e = inr e

-- a wire whose type is boolean by its kind is a Ground
ground-wire : (kind : Kind) → is_boolean_by_kind kind ≡ true → IsTrue (has_output kind) ⊎ IsTrue (is_outport kind) → kind ≡ Ground
ground-wire Ground e h = refl
ground-wire (SubSystem control) e (inl h) = absurd (true≢false (sym h))
ground-wire (SubSystem control) e (inr h) = absurd (true≢false (sym h))
ground-wire Terminator e (inl h) = absurd (true≢false (sym h))
ground-wire Terminator e (inr h) = absurd (true≢false (sym h))
ground-wire EnablePort e (inl h) = absurd (true≢false (sym h))
ground-wire EnablePort e (inr h) = absurd (true≢false (sym h))
ground-wire TriggerPort e (inl h) = absurd (true≢false (sym h))
ground-wire TriggerPort e (inr h) = absurd (true≢false (sym h))
ground-wire _ e h = absurd (true≢false (sym e))

matched : (x : Bool) (P Q : Type 0) → x ≡ false → MatchBool x P Q → Q
matched true P Q e h = absurd (true≢false e)
matched false P Q e h = h

-- an Inport or Outport that writes a type, like that of its input
same-written : (port : Bool) (written followed : Option FixType) (t u : FixType) → (port && are_unlike written followed) ≡ false →
    port ≡ true → written ≡ Some t → followed ≡ Some u → same_type t u ≡ true
same-written false written followed t u e p w f = absurd (true≢false (sym p))
same-written true written followed t u e p w f = by (same_type t u) (sym (λ i. are_unlike (w i) (f i)) ∙ e)
  where
    by : (same : Bool) → not same ≡ false → same ≡ true
    by true e = refl
    by false e = absurd (true≢false e)

-- over a resolved tree
module _ (r : ResolvedTree) (is : IsResolvedTree r) where
  abbrev table : RowTable
  table = r.tree.table

  abbrev type : ℕ → FixType
  type b = type_at r.types b

  met : (b : ℕ) → b < length table.rows → is_boolean_by_kind (row_at table.rows b).kind ≡ false → MeetsType table.rows b (type b)
  met b inside typed = matched (is_boolean_by_kind (row_at table.rows b).kind) _ _ typed (is.resolved.are_types b inside)

  followed : (b : ℕ) → b < length table.rows → is_boolean_by_kind (row_at table.rows b).kind ≡ false →
      followed_type table.rows b ≡ Some (type b)
  followed b inside typed =
      by (is_boolean_by_kind (row_at table.rows b).kind) typed
      ((type_followed table.rows b (type b)).0 (is.resolved.are_types b inside))
    where
      by : (x : Bool) → x ≡ false → (if x then Some boolean else followed_type table.rows b) ≡ Some (type b) →
          followed_type table.rows b ≡ Some (type b)
      by true e h = absurd (true≢false e)
      by false e h = h

  module _ (b c : ℕ) (inside : b < length table.rows) (on : PassesOn table.rows b) (wired : (row_at table.rows b).inputs ≡ c ∷ []) where
    wire : IsWireIn table.rows (reading_system table.rows (row_at table.rows b).kind (row_at table.rows b).owner) c
    wire = (subst
        (AllByRecursion
        (IsWireIn table.rows (reading_system table.rows (row_at table.rows b).kind (row_at table.rows b).owner))) wired
        (is.tree.table.wired.wires b inside)).0

    gives : IsTrue (has_output (row_at table.rows c).kind) ⊎ IsTrue (is_outport (row_at table.rows c).kind)
    gives = elim wire.1 [ inl own ↦ inl own.1 | inr out ↦ inr out.0 ]

    -- the type of its wire, or the one that it writes
    found : MeetsType table.rows c (type b) ⊎ (written_type table.rows b ≡ Some (type b))
    found = let m = met b inside on.typed in by m.0 m.1
      where
        by : (n : ℕ) → type_within table.rows n b ≡ Some (type b) →
            MeetsType table.rows c (type b) ⊎ (written_type table.rows b ≡ Some (type b))
        by zero e = absurd (let no : ⊥ = cc e in no)
        by (suc n) e =
            first-met table.rows (row_at table.rows b).type_text c n (type b)
            (subst (λ rule. type_by (rule_of (row_at table.rows b).type_text rule) (type_within table.rows n)
            ≡ Some (type b)) (on.rule ∙ ap first_input wired) e)

    same : is_boolean_by_kind (row_at table.rows c).kind ≡ false → written_type table.rows b ≡ Some (type b) →
        same_type (type b) (type c) ≡ true
    same typed written = elim on.text [
      | inl inherits ↦ absurd (let no : ⊥ = cc (sym (ap (λ text. known_type (rule_of text NoRule)) inherits) ∙ written) in no)
      | inr port ↦
          same-written _ _ _ (type b) (type c) (is-like table.rows b is.resolved.types_accepted inside) port written
          (ap (λ ws. option_and_then (followed_type table.rows) (slice_get ws 0)) wired ∙ followed c wire.0 typed)
    ]

    -- its own type has the number of its wire
    pub copied : (number : ℤ) → FitsRow (diagram_of r) c number → InType (type b) number
    copied number fits = by (is_boolean_by_kind (row_at table.rows c).kind) refl found
      where
        by : (x : Bool) → is_boolean_by_kind (row_at table.rows c).kind ≡ x →
            MeetsType table.rows c (type b) ⊎ (written_type table.rows b ≡ Some (type b)) → InType (type b) number
        by true e _ = subst (InType (type b)) (sym (fits.ground (ground-wire (row_at table.rows c).kind e gives))) (zero-in (type b))
        by false e (inl meets) =
            let own = met c wire.0 e in
            subst (λ t. InType t number) (meets-one table.rows own.0 meets.0 c (type c) (type b) own.1 meets.1) fits.in_type
        by false e (inr written) = same-in (type b) (type c) number (same e written) fits.in_type

  -- a row that passes on its input has one, in its own type
  pub passed : (b : ℕ) → b < length table.rows → PassesOn table.rows b → (v : List ℤ) → EachFits (diagram_of r) v →
      (0 < length (map (value_at v) (row_at table.rows b).inputs))
      × InType (type b) (input (map (value_at v) (row_at table.rows b).inputs) 0)
  passed b inside on v fit = by (row_at table.rows b).inputs refl on.wires
    where
      by : (ws : List ℕ) → (row_at table.rows b).inputs ≡ ws → length ws ≡ 1 →
          (0 < length (map (value_at v) ws)) × InType (type b) (input (map (value_at v) ws) 0)
      by [] e one = absurd (omega arith)
      by (c ∷ []) e one = (omega arith, copied b c inside on e (value_at v c) (fit c))
      by (c ∷ k ∷ ws) e one = absurd (omega arith)

  -- a row of this kind passes on its input
  pub passes-on : (b : ℕ) (kind : Kind) → b < length table.rows → (row_at table.rows b).kind ≡ kind →
      inherited_rule kind (row_at table.rows b).inputs ≡ first_input (row_at table.rows b).inputs → is_boolean_by_kind kind ≡ false →
      (IsTypeTextOf kind (row_at table.rows b).type_text →
      ((row_at table.rows b).type_text ≡ Inherit) ⊎ ((is_inport kind || is_outport kind) ≡ true)) →
      wires_wanted kind (row_at table.rows b).owner ≡ 1 → PassesOn table.rows b
  passes-on b kind inside e rule typed text wires = record {
    rule = ap (λ k. inherited_rule k (row_at table.rows b).inputs) e ∙ rule;
    typed = ap is_boolean_by_kind e ∙ typed;
    text = elim (text
        (subst (λ k. IsTypeTextOf k (row_at table.rows b).type_text) e
        (all-at IsRow table.rows b no_row is.tree.table.each inside).type)) [
          | inl inherits ↦ inl inherits
          | inr port ↦ inr (ap (λ k. is_inport k || is_outport k) e ∙ port)
        ];
    wires = is.tree.table.wired.counts b inside ∙ ap (λ k. wires_wanted k (row_at table.rows b).owner) e ∙ wires;
  }
