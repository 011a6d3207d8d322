-- What the row of a block says, and why it has none.
use Rattle.std.proofs.Common.{◌≡◌, refl, sym, ◌∙◌, ap, subst, Bool, true, false, None, Some, Ok, Err}
use Rattle.std.specs.Prelude.{Result, ⊤, IfOk, IfErr, if◌then◌else◌, not, ◌&&◌}
use Rattle.std.specs.Result.{result_err}
use Rattle.base_core.specs.declared.Control.{Control}
use Rattle.base_core.specs.declared.TimeText.{TimeText}
use Rattle.base_core.specs.declared.Decimal.{Decimal}
use Rattle.base_fixed_point.specs.declared.TypeText.{TypeText}
use Rattle.base_fixed_point.specs.declared.TypeText.TheVariants.{Inherit}
use Rattle.diagram_blocks.specs.declared.How.{How}
use Rattle.diagram_blocks.specs.declared.Kind.{Kind}
use Rattle.diagram_blocks.specs.declared.Kind.TheVariants as row
use Rattle.mdl_blocks.specs.declared.fault.Fault.{Fault}
use Rattle.mdl_blocks.specs.declared.fault.Fault.TheVariants.{FloatType}
use Rattle.mdl_blocks.specs.declared.written.WrittenType.{WrittenType}
use Rattle.mdl_blocks.specs.declared.written.WrittenType.TheVariants as a_type
use Rattle.mdl_blocks.specs.declared.written.WrittenTime.{WrittenTime}
use Rattle.mdl_blocks.specs.declared.written.WrittenTime.TheVariants as a_time
use Rattle.mdl_blocks.specs.declared.written.WrittenConstant.{WrittenConstant}
use Rattle.mdl_blocks.specs.declared.kind.BlockKind.{BlockKind}
use Rattle.mdl_blocks.specs.declared.kind.BlockKind.TheVariants as held
use Rattle.mdl_blocks.specs.declared.block.Body.{Body}
use Rattle.mdl_blocks.specs.declared.row.RowText.{RowText}
use Rattle.mdl_blocks.specs.Rows.{known_type, row_kind, row_of, is_inherited}
use Rattle.base_core.specs.Results.{◌>>=◌}
use Rattle.mdl_blocks.specs.Held.{kind_text, body_text, type_said, time_said}
use Rattle.mdl_rows.specs.RowTexts.{IsKind, is_float, row_fault}
use Rattle.mdl_rows.specs.Held.{IsBodyRow}

-- ---- Errors

-- the error of a type alone
plain : {A : Type 0} (type : WrittenType) (f : TypeText → A) →
    result_err (known_type type >>= (λ t. Ok (f t))) ≡ elim (is_float (type_said type)) [ true ↦ Some FloatType | false ↦ None ]
plain (a_type.Known t) f = refl
plain a_type.Float f = refl

-- a row by its kind, where its time is known
abbrev row_by : BlockKind → WrittenType → TimeText → Control → Result RowText Fault
row_by k type time control = row_of (record { kind = k; type_text = type; time_text = a_time.Known time }) control

-- a constant by a test on how it is written
constant-by : {A : Type 0} (test : Bool) (kind : Kind) (f : Kind → A) →
    result_err ((if test then Err FloatType else Ok kind) >>= (λ k. Ok (f k))) ≡ (if test then Some FloatType else None)
constant-by true kind f = refl
constant-by false kind f = refl

constant-fault : (c : WrittenConstant) (type : WrittenType) (time : TimeText) (control : Control) →
    result_err (row_by (held.Constant c) type time control)
    ≡ row_fault (body_text (record { kind = held.Constant c; type_text = type; time_text = a_time.Known time }))
constant-fault c (a_type.Known Inherit) time control = constant-by (not c.is_truth) (row.Constant c.value) _
constant-fault c _ time control = refl

gain-fault : (factor : Decimal) (factor_type : WrittenType) (how : How) (type : WrittenType) (time : TimeText) (control : Control) →
    result_err (row_by (held.Gain factor factor_type how) type time control)
    ≡ row_fault (body_text (record { kind = held.Gain factor factor_type how; type_text = type; time_text = a_time.Known time }))
gain-fault factor (a_type.Known t) how (a_type.Known u) time control = refl
gain-fault factor (a_type.Known t) how a_type.Float time control = refl
gain-fault factor a_type.Float how (a_type.Known u) time control = refl
gain-fault factor a_type.Float how a_type.Float time control = refl

transition-fault : (initial : Decimal) (out : WrittenTime) (type : WrittenType) (time : TimeText) (control : Control) →
    result_err (row_by (held.RateTransition initial out) type time control)
    ≡ row_fault (body_text (record { kind = held.RateTransition initial out; type_text = type; time_text = a_time.Known time }))
transition-fault initial (a_time.Known t) (a_type.Known u) time control = refl
transition-fault initial (a_time.Known t) a_type.Float time control = refl
transition-fault initial a_time.Zero type time control = refl

kind-fault : (k : BlockKind) (type : WrittenType) (time : TimeText) (control : Control) →
    result_err (row_by k type time control) ≡ row_fault (body_text (record { kind = k; type_text = type; time_text = a_time.Known time }))
kind-fault (held.Constant value) type time control = constant-fault value type time control
kind-fault (held.Gain factor factor_type how) type time control = gain-fault factor factor_type how type time control
kind-fault (held.RateTransition initial out) type time control = transition-fault initial out type time control
kind-fault _ type time control = plain type _

time-fault : (k : BlockKind) (type : WrittenType) (time : WrittenTime) (control : Control) →
    result_err (row_of (record { kind = k; type_text = type; time_text = time }) control)
    ≡ row_fault (body_text (record { kind = k; type_text = type; time_text = time }))
time-fault k type (a_time.Known t) control = kind-fault k type t control
time-fault k type a_time.Zero control = refl

-- why a block has no row
pub row-fault : (b : Body) (control : Control) → result_err (row_of b control) ≡ row_fault (body_text b)
row-fault b control = time-fault b.kind b.type_text b.time_text control

-- ---- Rows

-- the kind of a row that has one
abbrev HasKind : BlockKind → WrittenType → Control → Result Kind Fault → Type 0
HasKind k type control (Ok r) = IsKind (kind_text k) control r
HasKind k type control (Err fault) = ⊤

constant-kind : (c : WrittenConstant) (test : Bool) (type : WrittenType) (control : Control) →
    HasKind (held.Constant c) type control (if test then Err FloatType else Ok (row.Constant c.value))
constant-kind c true type control = tt
constant-kind c false type control = (c.value, refl, refl)

has-kind : (k : BlockKind) (type : WrittenType) (control : Control) → HasKind k type control (row_kind k type control)
has-kind (held.Outport port reset initial) type control = (initial, refl, refl)
has-kind (held.Constant c) type control = constant-kind c (is_inherited type && not c.is_truth) type control
has-kind (held.Gain factor (a_type.Known t) how) type control = (factor, t, refl, refl, refl)
has-kind (held.Gain factor a_type.Float how) type control = tt
has-kind (held.UnitDelay initial) type control = (initial, refl, refl)
has-kind (held.Delay length initial) type control = (initial, refl, refl)
has-kind (held.Switch criterion threshold how) type control = (threshold, refl, refl)
has-kind (held.RateTransition initial (a_time.Known t)) type control = (initial, t, refl, refl, refl)
has-kind (held.RateTransition initial a_time.Zero) type control = tt
has-kind _ type control = refl

-- what a row says that a block has
abbrev HasRow : BlockKind → WrittenType → WrittenTime → Control → Result RowText Fault → Type 0
HasRow k type time control (Ok t) =
    IsBodyRow (record { kind = kind_text k; type_text = type_said type; time_text = time_said time }) control t
HasRow k type time control (Err fault) = ⊤

kind-row : (k : BlockKind) (type : WrittenType) (time : TimeText) (control : Control) (r : Result Kind Fault) → HasKind k type control r →
    HasRow k type (a_time.Known time) control
    (r >>= (λ kind. known_type type >>= (λ t. Ok (record { kind = kind; type_text = t; time_text = time }))))
kind-row k (a_type.Known t) time control (Ok r) has = record { kind = has; type_text = refl; time_text = refl }
kind-row k a_type.Float time control (Ok r) has = tt
kind-row k type time control (Err fault) has = tt

has-row : (k : BlockKind) (type : WrittenType) (time : WrittenTime) (control : Control) →
    HasRow k type time control (row_of (record { kind = k; type_text = type; time_text = time }) control)
has-row k type (a_time.Known t) control = kind-row k type t control (row_kind k type control) (has-kind k type control)
has-row k type a_time.Zero control = tt

-- what the row of a block says
pub is-row : (b : Body) (control : Control) (t : RowText) → row_of b control ≡ Ok t → IsBodyRow (body_text b) control t
is-row b control t e = subst (HasRow b.kind b.type_text b.time_text control) e (has-row b.kind b.type_text b.time_text control)

-- ---- Of a result

pub text-told : (b : Body) (control : Control) (r : Result RowText Fault) → r ≡ row_of b control → IfOk r (IsBodyRow (body_text b) control)
text-told b control (Ok t) e = is-row b control t (sym e)
text-told b control (Err fault) e = tt

pub lawful-told : (b : Body) (control : Control) (r : Result RowText Fault) → r ≡ row_of b control →
    IfOk r (λ t. row_fault (body_text b) ≡ None)
lawful-told b control (Ok t) e = sym (row-fault b control) ∙ ap result_err (sym e)
lawful-told b control (Err fault) e = tt

pub fault-told : (b : Body) (control : Control) (r : Result RowText Fault) → r ≡ row_of b control →
    IfErr r (λ f. row_fault (body_text b) ≡ Some f)
fault-told b control (Ok t) e = tt
fault-told b control (Err fault) e = sym (row-fault b control) ∙ ap result_err (sym e)
