-- The rows of a model that isn't refused stand for its blocks, one by one.
use Rattle.std.proofs.Common.{◌≡◌, refl, sym, ◌∙◌, ap, subst, ℕ, zero, suc, ◌<◌, Bool, true, false, cond, List, [], ◌∷◌, length, slice_get, slice_index_or, Option, None, Some, is_some, arith}
use Rattle.std.specs.Prelude.{filter_map, option_map, Result, Ok, Err}
use Rattle.std.specs.List.{AllByRecursion, AllZip, cons_option}
use Rattle.std.specs.Option.{option_or}
use Rattle.std.specs.Result.{result_ok}
use Rattle.base_core.specs.declared.Control.{Control}
use Rattle.base_refusals.specs.Refusals.{PlainRefusal}
use Rattle.diagram_blocks.specs.declared.Kind.{Kind}
use Rattle.diagram_meaning.specs.declared.table.Row.{Row}
use Rattle.base_refusals.specs.FirstRefusal.{first_there, least_in, earlier_of}
use Rattle.diagram_blocks.specs.Kinds as kinds
use Rattle.diagram_meaning.specs.Rows as rows
use Rattle.diagram_meaning.specs.Rows.{no_row, row_at}
use Rattle.base_refusals.proofs.lemmas.FirstRefusals.{none-first, none-later}
use Rattle.mdl_tree.specs.Spelling.{Items}
use Rattle.mdl_tree.specs.Walks.{SectionTree}
use Rattle.mdl_params.specs.declared.BlockType.{BlockType}
use Rattle.mdl_params.specs.Defaults.{DefaultTexts}
use Rattle.diagram_meaning.specs.RowTable.{RowTable}
use Rattle.mdl_blocks.specs.declared.fault.Fault.{Fault}
use Rattle.mdl_blocks.specs.declared.fault.Fault.TheVariants as fault
use Rattle.mdl_blocks.specs.Faults.{refusal_at}
use Rattle.mdl_blocks.specs.Blocks.{BlockText, KindText, inport, outport, subsystem, constant, ground, terminator, gain, sum, product, unit_delay, delay, zero_order_hold, switch, relational, logic, convert, rate_transition, enable_port, trigger_port}
use Rattle.base_refusals.specs.Order.{is_before, first_of}
use Rattle.mdl_systems.specs.Models as found
use Rattle.mdl_systems.specs.Models.{model_of}
use Rattle.mdl_systems.specs.Outlines.{Outline, outlines_of, is_subsystem, systems_of}
use Rattle.mdl_systems.specs.Refusals.{deep, too_many_blocks, crowd, numbers_refusal, read, unread_at, misformed_at, unread, misformed, newer, blocks_refusal, model_refusal}
use Rattle.mdl_rows.specs.Models.{Block, Model, system_in, block_read, model_with}
use Rattle.mdl_rows.specs.Interiors.{control_of}
use Rattle.mdl_rows.specs.RowTexts.{IsKind, row_fault}
use Rattle.mdl_rows.specs.Refusals.{first_in, systems_refusal, row_refusal, rows_refusal, defaults_of, refusal_by, tree_refusal}
use Rattle.mdl_rows.specs.Tables.{IsRowOf}
use Rattle.mdl_table.specs.Tables.{IsTableOf, IsTableBy, TableOf}
use Rattle.mdl_table.proofs.SaidBodies.{IsSound, block-sound}

-- ---- No refusal

pub some-none : {A : Type 0} (x : A) → Some x ≡ None → ⊥
some-none x e = cc e

or-none : (first rest : Option PlainRefusal) → option_or first rest ≡ None → (first ≡ None) × (rest ≡ None)
or-none None rest e = (refl, e)
or-none (Some refusal) rest e = absurd (some-none refusal e)

-- where there is no first refusal there is none
pub all-none : (refusals : List (Option PlainRefusal)) → first_there refusals ≡ None → AllByRecursion (λ o. o ≡ None) refusals
all-none [] e = tt
all-none (o ∷ rest) e = let both = or-none o (first_there rest) e in (both.0, all-none rest both.1)

first-none : (a b : Option PlainRefusal) → first_of a b ≡ None → (a ≡ None) × (b ≡ None)
first-none None b e = (refl, e)
first-none (Some a) None e = absurd (some-none a e)
first-none (Some a) (Some b) e = by (is_before b a) e
  where
    by : (t : Bool) → cond t (Some b) (Some a) ≡ None → (Some a ≡ None) × (Some b ≡ None)
    by true e = absurd (some-none b e)
    by false e = absurd (some-none a e)

-- nothing is found in any item
pub none-found : {A : Type 0} (what : A → Option PlainRefusal) (xs : List A) → first_in what xs ≡ None →
    AllByRecursion (λ x. what x ≡ None) xs
none-found what [] e = tt
none-found what (x ∷ xs) e = let both = first-none (what x) (first_in what xs) e in (both.0, none-found what xs both.1)

-- the same of a pass
pub none-least : {A : Type 0} (what : A → Option PlainRefusal) (xs : List A) → least_in what xs ≡ None →
    AllByRecursion (λ x. what x ≡ None) xs
none-least what [] e = tt
none-least what (x ∷ xs) e = (none-first (what x) (least_in what xs) e, none-least what xs (none-later (what x) (least_in what xs) e))

-- ---- Blocks that are read

-- a block is read
abbrev pub IsReadable : DefaultTexts → Outline → Type 0
IsReadable defaults o = (text : BlockText) × (read defaults o ≡ Ok text)

read-there : (defaults : DefaultTexts) (o : Outline) → unread defaults o ≡ None → misformed defaults o ≡ None → IsReadable defaults o
read-there defaults o e f = by (read defaults o) refl e f
  where
    line : ℕ
    line = o.section.line

    by : (r : Result BlockText Fault) → read defaults o ≡ r → unread_at line r ≡ None → misformed_at line r ≡ None → IsReadable defaults o
    by (Ok text) p e f = (text, p)
    by (Err fault.Unsupported) p e f = absurd (some-none _ e)
    by (Err (fault.Parameter parameter)) p e f = absurd (some-none _ f)
    by (Err fault.Continuous) p e f = absurd (some-none _ f)
    by (Err fault.FloatType) p e f = absurd (some-none _ f)

all-read : (defaults : DefaultTexts) (os : List Outline) → AllByRecursion (λ o. unread defaults o ≡ None) os →
    AllByRecursion (λ o. misformed defaults o ≡ None) os →
    AllByRecursion (IsReadable defaults) os
all-read defaults [] e f = tt
all-read defaults (o ∷ os) e f = (read-there defaults o e.0 f.0, all-read defaults os e.1 f.1)

-- what is known of a System whose model isn't refused
pub record IsAccepted (defaults : DefaultTexts) (system : SectionTree) : Type 0 where
  pub not_deep : AllByRecursion (λ o. deep o ≡ None) (outlines_of system)
  pub few : too_many_blocks (outlines_of system) ≡ None
  pub uncrowded : AllByRecursion (λ s. crowd s ≡ None) (systems_of system)
  pub each : AllByRecursion (IsReadable defaults) (outlines_of system)

pub accepted : (defaults : DefaultTexts) (system : SectionTree) → model_refusal defaults system ≡ None → IsAccepted defaults system
accepted defaults system e =
    let os : List Outline = outlines_of system in
    let both : AllByRecursion (λ o. o ≡ None) (numbers_refusal system ∷ blocks_refusal defaults system ∷ []) =
    all-none (numbers_refusal system ∷ blocks_refusal defaults system ∷ []) e in
    let numbers : AllByRecursion (λ o. o ≡ None) (least_in deep os ∷ too_many_blocks os ∷ least_in crowd (systems_of system) ∷ []) =
    all-none (least_in deep os ∷ too_many_blocks os ∷ least_in crowd (systems_of system) ∷ []) both.0 in
    let first : Option PlainRefusal = earlier_of (least_in (unread defaults) os) (least_in newer (systems_of system)) in
    let blocks : AllByRecursion (λ o. o ≡ None) (first ∷ least_in (misformed defaults) os ∷ []) =
    all-none (first ∷ least_in (misformed defaults) os ∷ []) both.1.0 in
    record {
      not_deep = none-least deep os numbers.0;
      few = numbers.1.0;
      uncrowded = none-least crowd (systems_of system) numbers.1.1.0;
      each = all-read defaults os
          (none-least (unread defaults) os (none-first (least_in (unread defaults) os) (least_in newer (systems_of system)) blocks.0))
          (none-least (misformed defaults) os blocks.1.0);
    }

-- ---- A row for each block

-- the row of a block where it is
pub record IsOutlineRow (defaults : DefaultTexts) (m : Model) (o : Outline) (row : Row) : Type 0 where
  pub text : BlockText
  pub is : read defaults o ≡ Ok text
  pub has : IsRowOf m (record { number = o.number; owner = o.owner; text = text }) row

pub outline-rows : (defaults : DefaultTexts) (m : Model) (os : List Outline) (rs : List Row) → AllByRecursion (IsReadable defaults) os →
    AllZip (IsRowOf m) (filter_map (block_read defaults) os) rs → AllZip (IsOutlineRow defaults m) os rs
outline-rows defaults m [] [] all zip = tt
outline-rows defaults m [] (row ∷ rs) all zip = absurd zip
outline-rows defaults m (o ∷ os) rs all zip =
    by rs (subst (λ b. AllZip (IsRowOf m) (cons_option b (filter_map (block_read defaults) os)) rs) (ap seen all.0.1) zip)
    (λ rs. outline-rows defaults m os rs all.1)
  where
    seen : Result BlockText Fault → Option Block
    seen r = option_map (λ text. record { number = o.number; owner = o.owner; text = text }) (result_ok r)

    by : (rs : List Row) →
        AllZip (IsRowOf m) (record { number = o.number; owner = o.owner; text = all.0.0 } ∷ filter_map (block_read defaults) os) rs →
        ((rs : List Row) → AllZip (IsRowOf m) (filter_map (block_read defaults) os) rs → AllZip (IsOutlineRow defaults m) os rs) →
        AllZip (IsOutlineRow defaults m) (o ∷ os) rs
    by [] h more = absurd h
    by (row ∷ rs) h more = (record { text = all.0.0; is = all.0.1; has = h.0 }, more rs h.1)

-- ---- By numbers

pub zip-length : {A B : Type 0} (R : A → B → Type 0) (xs : List A) (ys : List B) → AllZip R xs ys → length ys ≡ length xs
zip-length R [] [] h = refl
zip-length R [] (y ∷ ys) h = absurd h
zip-length R (x ∷ xs) [] h = absurd h
zip-length R (x ∷ xs) (y ∷ ys) h = ap suc (zip-length R xs ys h.1)

-- what is at a place beside an item
pub zip-at : {A B : Type 0} (R : A → B → Type 0) (xs : List A) (ys : List B) (k : ℕ) (d : B) → AllZip R xs ys → k < length ys →
    (x : A) × (slice_get xs k ≡ Some x) × R x (slice_index_or ys k d)
zip-at R [] [] k d h g = absurd (omega (arith, g))
zip-at R [] (y ∷ ys) k d h g = absurd h
zip-at R (x ∷ xs) [] k d h g = absurd h
zip-at R (x ∷ xs) (y ∷ ys) zero d h g = (x, refl, h.0)
zip-at R (x ∷ xs) (y ∷ ys) (suc k) d h g = zip-at R xs ys k d h.1 (omega (arith, g))

pub get-below : {A : Type 0} (xs : List A) (k : ℕ) (x : A) → slice_get xs k ≡ Some x → k < length xs
get-below [] k x e = absurd (some-none x (sym e))
get-below (y ∷ xs) zero x e = omega arith
get-below (y ∷ xs) (suc k) x e = let h : k < length xs = get-below xs k x e in omega (arith, h)

pub all-at : {A : Type 0} (P : A → Type 0) (xs : List A) (k : ℕ) (x : A) → AllByRecursion P xs → slice_get xs k ≡ Some x → P x
all-at P [] k x h e = absurd (some-none x (sym e))
all-at P (y ∷ xs) zero x h e = subst P (let same : y ≡ x = cc e in same) h.0
all-at P (y ∷ xs) (suc k) x h e = all-at P xs k x h.1 e

-- the block whose row is at a number
pub record IsRowAt (defaults : DefaultTexts) (m : Model) (os : List Outline) (rs : List Row) (k : ℕ) : Type 0 where
  pub outline : Outline
  pub at : slice_get os k ≡ Some outline
  pub row : IsOutlineRow defaults m outline (row_at rs k)

pub row-there : (defaults : DefaultTexts) (m : Model) (os : List Outline) (rs : List Row) (k : ℕ) →
    AllZip (IsOutlineRow defaults m) os rs → k < length rs →
    IsRowAt defaults m os rs k
row-there defaults m os rs k zip h =
    let found = zip-at (IsOutlineRow defaults m) os rs k no_row zip h in record { outline = found.0; at = found.1; row = found.2 }

-- ---- Subsystems

-- a row's kind is that of a subsystem where the block has a System inside
pub subsystem-kind : (text : KindText) (c : Control) (k : Kind) → IsKind text c k → kinds.is_subsystem k ≡ is_some (system_in text)
subsystem-kind (outport port reset initial) c k h = ap kinds.is_subsystem h.2
subsystem-kind (constant said) c k h = ap kinds.is_subsystem h.2
subsystem-kind (gain factor factor_type how) c k h = ap kinds.is_subsystem h.4
subsystem-kind (unit_delay initial) c k h = ap kinds.is_subsystem h.2
subsystem-kind (delay length initial) c k h = ap kinds.is_subsystem h.2
subsystem-kind (switch criterion threshold how) c k h = ap kinds.is_subsystem h.2
subsystem-kind (rate_transition initial out) c k h = ap kinds.is_subsystem h.4
subsystem-kind _ c k h = ap kinds.is_subsystem h

-- the row of a subsystem block is one, and no other is
pub same-kind : (defaults : DefaultTexts) (m : Model) (o : Outline) (row : Row) → IsOutlineRow defaults m o row →
    kinds.is_subsystem row.kind ≡ is_subsystem o
same-kind defaults m o row is =
    let block = block-sound defaults o.peers o.section is.text is.is in
    subsystem-kind is.text.body.kind (control_of m.blocks o.number) row.kind is.has.kind ∙ block.sound.inside ∙ sym block.named

-- ---- Blocks that have rows

-- what a block says is within its limits, and it has a row
pub record IsGood (b : Block) : Type 0 where
  pub type : BlockType
  pub sound : IsSound type b.text.body
  pub no_fault : row_fault b.text.body ≡ None

unfaulty : (b : Block) → row_refusal b ≡ None → row_fault b.text.body ≡ None
unfaulty b e = by (row_fault b.text.body) e
  where
    by : (o : Option Fault) → option_map (refusal_at b.text.line) o ≡ None → o ≡ None
    by None e = refl
    by (Some own) e = absurd (some-none (refusal_at b.text.line own) e)

pub all-good : (defaults : DefaultTexts) (os : List Outline) → AllByRecursion (IsReadable defaults) os →
    AllByRecursion (λ b. row_refusal b ≡ None) (filter_map (block_read defaults) os) →
    AllByRecursion IsGood (filter_map (block_read defaults) os)
all-good defaults [] all none = tt
all-good defaults (o ∷ os) all none =
    subst (λ b. AllByRecursion IsGood (cons_option b (filter_map (block_read defaults) os))) (sym (ap seen all.0.1))
    (good, all-good defaults os all.1 faultless.1)
  where
    seen : Result BlockText Fault → Option Block
    seen r = option_map (λ text. record { number = o.number; owner = o.owner; text = text }) (result_ok r)

    own : Block
    own = record { number = o.number; owner = o.owner; text = all.0.0 }

    faultless : (row_refusal own ≡ None) × AllByRecursion (λ b. row_refusal b ≡ None) (filter_map (block_read defaults) os)
    faultless =
        subst (λ b. AllByRecursion (λ b. row_refusal b ≡ None) (cons_option b (filter_map (block_read defaults) os))) (ap seen all.0.1) none

    good : IsGood own
    good =
        let block = block-sound defaults o.peers o.section all.0.0 all.0.1 in
        record { type = block.type; sound = block.sound; no_fault = unfaulty own faultless.0 }

-- ---- Of a file

-- a file's model that isn't refused
pub record HasModel (file : Items) : Type 0 where
  pub model : found.Model
  pub is : model_of file ≡ Ok model
  pub accepted : IsAccepted (defaults_of model) model.system
  pub good : AllByRecursion IsGood (model_with (defaults_of model) model.system).blocks

pub has-model : (file : Items) → tree_refusal file ≡ None → HasModel file
has-model file e = by (model_of file) refl e
  where
    by : (r : Result found.Model PlainRefusal) → model_of file ≡ r → refusal_by r ≡ None → HasModel file
    by (Ok model) p e =
        let defaults : DefaultTexts = defaults_of model in
        let m : Model = model_with defaults model.system in
        let both : AllByRecursion (λ o. o ≡ None) (model_refusal defaults model.system ∷ rows_refusal m ∷ []) =
        all-none (model_refusal defaults model.system ∷ rows_refusal m ∷ []) e in
        let is = accepted defaults model.system both.0 in
        let later = first-none (systems_refusal m) (first_in row_refusal m.blocks) both.1.0 in
        record {
          model = model;
          is = p;
          accepted = is;
          good = all-good defaults (outlines_of model.system) is.each (none-found row_refusal m.blocks later.1);
        }
    by (Err refusal) p e = absurd (some-none refusal e)

-- the table of a file is that of its model
pub table-of : (file : Items) (table : RowTable) (own : HasModel file) → TableOf file table → IsTableOf own.model table
table-of file table own is = subst (λ r. IsTableBy r table) own.is is
