-- The types of a root whose first row is its only Inport.
use Rattle.std.proofs.Common.{◌≡◌, refl, sym, ◌∙◌, ap, subst, ℕ, zero, suc, ◌+◌, ◌<◌, ◌==◌, Bool, true, false, true≢false, cond, List, [], ◌∷◌, ◌++◌, length, map, filter, filter_map, find, Option, Some, None, is_some, unwrap_or, slice_get, MatchBool, arith}
use Rattle.std.specs.List.{AllByRecursion, AllZip, range_with_len}
use Rattle.base_core.specs.declared.Control.{Control}
use Rattle.base_core.specs.declared.Port.TheVariants.{Number}
use Rattle.base_fixed_point.specs.declared.FixType.{FixType}
use Rattle.base_fixed_point.specs.declared.TypeText.{TypeText}
use Rattle.base_fixed_point.specs.declared.TypeText.TheVariants as held
use Rattle.base_fixed_point.specs.Types.{boolean}
use Rattle.mdl_type_texts.specs.TypeTexts.{Format, Meaning, Fixed, Inherit, Logical, Back, meaning_of, format_of, integer_format}
use Rattle.diagram_blocks.specs.declared.Kind.{Kind}
use Rattle.diagram_blocks.specs.declared.Kind.TheVariants as kind
use Rattle.diagram_meaning.specs.declared.table.Row.{Row}
use Rattle.diagram_meaning.specs.Rows.{row_at, rows_of, inports_of, same_system}
use Rattle.diagram_blocks.specs.Kinds.{is_inport, port_of}
use Rattle.diagram_meaning.specs.Inputs.{input_ports}
use Rattle.diagram_meaning.specs.Traces.{input_type_of}
use Rattle.diagram_meaning.specs.Types.{TypeRule, rule_of, inherited_rule, type_by, type_within, is_boolean_by_kind, HasType, MeetsType, type_at}
use Rattle.diagram_meaning.specs.Diagram.{Diagram}
use Rattle.mdl_blocks.specs.Blocks.{KindText, inport, outport, subsystem, constant, ground, terminator, gain, sum, product, unit_delay, delay, zero_order_hold, switch, relational, logic, convert, rate_transition, enable_port, trigger_port}
use Rattle.mdl_rows.specs.Models.{Block, Model, kind_of}
use Rattle.mdl_rows.specs.Interiors.{inport_number, control_of}
use Rattle.mdl_rows.specs.RowTexts.{IsKind}
use Rattle.mdl_rows.specs.Tables.{IsRowOf}
use Rattle.right_generated.proofs.TraceRows.{IsInt32}
use Rattle.right_generated.proofs.RootBlocks.{IsNoInput, input_block}

-- ---- Rows that aren't inputs of the root

-- a row that is no Inport, where it is one of the root
abbrev pub IsNoInputRow : Row → Type 0
IsNoInputRow r = same_system r.owner None ≡ true → is_inport r.kind ≡ false

kind_none : (text : KindText) (control : Control) (k : Kind) → inport_number text ≡ None → IsKind text control k → is_inport k ≡ false
kind_none (inport port) control k h is = absurd (true≢false (ap is_some h))
kind_none (outport port reset initial) control k h (d, e, is) = ap is_inport is
kind_none (constant said) control k h (d, e, is) = ap is_inport is
kind_none (gain factor factor_type how) control k h (d, type, e, f, is) = ap is_inport is
kind_none (unit_delay initial) control k h (d, e, is) = ap is_inport is
kind_none (delay length initial) control k h (d, e, is) = ap is_inport is
kind_none (switch criterion threshold how) control k h (d, e, is) = ap is_inport is
kind_none (rate_transition initial out) control k h (d, time, e, f, is) = ap is_inport is
kind_none _ control k h is = ap is_inport is

root_owner : (o : Option ℕ) → same_system o None ≡ true → o ≡ None
root_owner None h = refl
root_owner (Some e) h = absurd (true≢false (sym h))

row_none : (m : Model) (b : Block) (r : Row) → IsNoInput b → IsRowOf m b r → IsNoInputRow r
row_none m b r h row own =
    kind_none (kind_of b) (control_of m.blocks b.number) r.kind (h (sym row.owner ∙ root_owner r.owner own)) row.kind

rows_none : (m : Model) (bs : List Block) (rs : List Row) → AllByRecursion IsNoInput bs →
    AllZip (IsRowOf m) bs rs → AllByRecursion IsNoInputRow rs
rows_none m [] [] all zip = tt
rows_none m [] (r ∷ rs) all zip = absurd zip
rows_none m (b ∷ bs) [] all zip = absurd zip
rows_none m (b ∷ bs) (r ∷ rs) all zip = (row_none m b r all.0 zip.0, rows_none m bs rs all.1 zip.1)

-- ---- The root's inputs

-- the first row is the Inport 1 of the root, of int32, and no other is an Inport of it
pub record HasOneInput (rows : List Row) : Type 0 where
  pub first : Row
  pub others : List Row
  pub all : rows ≡ first ∷ others
  pub owner : first.owner ≡ None
  pub kind : first.kind ≡ kind.Inport 1
  pub type_text : meaning_of first.type_text ≡ Fixed (integer_format true 32)
  pub none : AllByRecursion IsNoInputRow others

pub one_input : (m : Model) (line : ℕ) (bs : List Block) (rows : List Row) → AllByRecursion IsNoInput bs →
    AllZip (IsRowOf m) (input_block line ∷ bs) rows → HasOneInput rows
one_input m line bs [] none zip = absurd zip
one_input m line bs (r ∷ rs) none zip = record {
  first = r;
  others = rs;
  all = refl;
  owner = zip.0.owner;
  kind = zip.0.kind;
  type_text = zip.0.type_text;
  none = rows_none m bs rs none zip.1;
}

none_at : (rs : List Row) (i : ℕ) → AllByRecursion IsNoInputRow rs → i < length rs → IsNoInputRow (row_at rs i)
none_at [] i all h = absurd (omega (arith, h))
none_at (r ∷ rs) zero all h = all.0
none_at (r ∷ rs) (suc i) all h = none_at rs i all.1 (omega (arith, h))

-- what holds of so many numbers from one on
all_range : (P : ℕ → Type 0) (a n : ℕ) → ((i : ℕ) → i < n → P (a + i)) → AllByRecursion P (range_with_len a n)
all_range P a zero h = tt
all_range P a (suc n) h = (
  subst P (let e : a + 0 ≡ a = omega arith in e) (h 0 (omega arith)),
  all_range P (a + 1) n (λ i less. subst P (let e : a + suc i ≡ a + 1 + i = omega arith in e) (h (suc i) (omega (arith, less)))),
)

both_none : (f g : ℕ → Bool) (xs : List ℕ) → AllByRecursion (λ j. g j ≡ true → f j ≡ false) xs → filter f (filter g xs) ≡ []
both_none f g [] all = refl
both_none f g (x ∷ xs) all = by (g x) all.0 (both_none f g xs all.1)
  where
    by : (t : Bool) → (t ≡ true → f x ≡ false) → filter f (filter g xs) ≡ [] → filter f (cond t (x ∷ filter g xs) (filter g xs)) ≡ []
    by true h e = ap (λ u. cond u (x ∷ filter f (filter g xs)) (filter f (filter g xs))) (h refl) ∙ e
    by false h e = e

module _ (r : Row) (rs : List Row) (owner : r.owner ≡ None) (is : r.kind ≡ kind.Inport 1) (none : AllByRecursion IsNoInputRow rs) where
  others_none : AllByRecursion (λ j. same_system (row_at (r ∷ rs) j).owner None ≡ true → is_inport (row_at (r ∷ rs) j).kind ≡ false)
      (range_with_len 1 (length rs))
  others_none =
      all_range (λ j. IsNoInputRow (row_at (r ∷ rs) j)) 1 (length rs)
      (λ i less. subst (λ j. IsNoInputRow (row_at (r ∷ rs) j)) (let e : suc i ≡ 1 + i = omega arith in e) (none_at rs i none less))

  own_inports : filter (λ b. is_inport (row_at (r ∷ rs) b).kind) (rows_of (r ∷ rs) None) ≡ 0 ∷ []
  own_inports =
      let f : ℕ → Bool = λ b. is_inport (row_at (r ∷ rs) b).kind in
      let g : ℕ → Bool = λ b. same_system (row_at (r ∷ rs) b).owner None in
      let more = filter g (range_with_len 1 (length rs)) in
      ap (λ o. filter f (cond (same_system o None) (0 ∷ more) more)) owner
      ∙ ap (λ k. cond (is_inport k) (0 ∷ filter f more) (filter f more)) is
      ∙ ap (λ xs. 0 ∷ xs) (both_none f g (range_with_len 1 (length rs)) others_none)

  root_inports : inports_of (r ∷ rs) None ≡ 0 ∷ []
  root_inports =
      ap (λ own. filter_map (λ k. find (λ b. port_of (row_at (r ∷ rs) b).kind == k) own) (range_with_len 1 (length own))) own_inports
      ∙ ap (λ k. filter_map (λ p. find (λ b. port_of k == p) (0 ∷ [])) (1 ∷ [])) is

-- ---- Its type

some_type : (a b : FixType) → Some a ≡ Some b → a ≡ b
some_type a b e = ap (λ o. unwrap_or o a) e

-- the numbers of what a text means, if it means a type
abbrev format_in : Meaning → Option Format
format_in Inherit = None
format_in Logical = None
format_in Back = None
format_in (Fixed format) = Some format

format_same : (a b : Format) → Some a ≡ Some b → a ≡ b
format_same a b e = ap (λ o. unwrap_or o a) e

rule_type : (text : TypeText) (inherited : TypeRule) (next : ℕ → Option FixType) (t : FixType) →
    meaning_of text ≡ Fixed (integer_format true 32) → type_by (rule_of text inherited) next ≡ Some t → IsInt32 t
rule_type held.Inherit inherited next t means is = absurd (true≢false (sym (ap (λ m. is_some (format_in m)) means)))
rule_type held.Logical inherited next t means is = absurd (true≢false (sym (ap (λ m. is_some (format_in m)) means)))
rule_type held.Back inherited next t means is = absurd (true≢false (sym (ap (λ m. is_some (format_in m)) means)))
rule_type (held.Fixed type) inherited next t means is =
    let format = format_same (format_of type) (integer_format true 32) (ap format_in means) in
    let same = some_type type t is in
    record {
      signed = ap (λ (x : FixType). x.signed) (sym same) ∙ ap (λ (f : Format). f.signed) format;
      bits = ap (λ (x : FixType). x.bits) (sym same) ∙ ap (λ (f : Format). f.bits) format;
    }

first_type : (r : Row) (rs : List Row) (t : FixType) → r.kind ≡ kind.Inport 1 → meaning_of r.type_text ≡ Fixed (integer_format true 32) →
    HasType (r ∷ rs) 0 t → IsInt32 t
first_type r rs t is means type = by (subst (λ k. MatchBool (is_boolean_by_kind k) (t ≡ boolean) (MeetsType (r ∷ rs) 0 t)) is type)
  where
    by : MeetsType (r ∷ rs) 0 t → IsInt32 t
    by (zero, e) = absurd (true≢false (sym (ap is_some e)))
    by (suc n, e) = rule_type r.type_text (inherited_rule r.kind r.inputs) (type_within (r ∷ rs) n) t means e

-- the only input of the root is of int32
pub int32_root : (d : Diagram) → HasOneInput d.rows → HasType d.rows 0 (type_at d.types 0) →
    (map (input_type_of d None) (input_ports d.rows None) ≡ type_at d.types 0 ∷ []) × IsInt32 (type_at d.types 0)
int32_root d one type =
    let rows = one.first ∷ one.others in
    let inports : inports_of d.rows None ≡ 0 ∷ [] =
    ap (λ rs. inports_of rs None) one.all ∙ root_inports one.first one.others one.owner one.kind one.none in (
      ap (λ own. map (input_type_of d None) (map Number (range_with_len 1 (length own)) ++ [])) inports
          ∙ ap (λ own. type_at d.types (unwrap_or (slice_get own 0) (length d.rows)) ∷ []) inports,
      first_type one.first one.others (type_at d.types 0) one.kind one.type_text
          (subst (λ rs. HasType rs 0 (type_at d.types 0)) one.all type),
    )
