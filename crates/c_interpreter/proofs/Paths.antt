-- Instances at paths: their numbers, and runs in them.
use Rattle.std.proofs.Common.{◌≡◌, refl, sym, ◌∙◌, ap, ℕ, zero, suc, ◌+◌, ◌-◌, ◌≤◌, ℤ, List, [], ◌∷◌, ◌++◌, length, arith, take, drop, slice_get, slice_index_or, Some, Result, Ok, Err, append_assoc, length-append}
use Rattle.std.proofs.lemmas.List.{take-append-drop}
use Rattle.c_syntax.specs.declared.fault.Cost.{Cost}
use Rattle.c_syntax.specs.declared.fault.Stuck.{Stuck}
use Rattle.c_syntax.specs.declared.program.FieldKind.{FieldKind}
use Rattle.c_syntax.specs.declared.program.FieldKind.TheVariants as kind
use Rattle.c_syntax.specs.Tree.{FieldTree, StructTree, struct_fields, ProgramTree}
use Rattle.c_semantics.specs.Cells.{Cells, object, no_cells, set_cell, fields_at, cells_at}
use Rattle.c_semantics.specs.Machine.{Outcome, in_child, at_path, routine_at, program_routines, call_from_outside}
use Rattle.c_interpreter.specs.declared.slots.Slot.TheVariants.{Instance}
use Rattle.c_interpreter.specs.Layouts.{slot_of, slots_from, kind_size, AreLaidOut}
use Rattle.c_interpreter.specs.Numbering.{IsReached}
use Rattle.c_interpreter.specs.Roots.{root_ended}
use Rattle.c_interpreter.specs.Seen.{seen}
use Rattle.c_interpreter.specs.Slots.{StructLayout, layout_at}
use Rattle.c_interpreter.specs.States.{filled, numbers_of}
use Rattle.c_interpreter.proofs.Outcomes.{child_ran, child_halted}
use Rattle.c_interpreter.proofs.Places.{drop_more, take_more, take_of_more, drop_of_more, length_taken, length_dropped, filled-take, child_is, hold_at}

-- ---- lists
drop_all : (s : List ℤ) → drop (length s) s ≡ []
drop_all [] = refl
drop_all (x ∷ s) = drop_all s

append_none : (s : List ℤ) → s ++ [] ≡ s
append_none [] = refl
append_none (x ∷ s) = ap (λ r. x ∷ r) (append_none s)

put_length : (part t : List ℤ) (rest : ℕ) → rest + length t ≤ length part →
    length (take rest part ++ (t ++ drop (rest + length t) part)) ≡ length part
put_length part t rest fits =
    let a : length (take rest part) ≡ rest = length_taken rest part (omega arith) in
    let b : length (drop (rest + length t) part) + (rest + length t) ≡ length part = length_dropped (rest + length t) part fits in
    omega (arith, a, b, length-append (take rest part) (t ++ drop (rest + length t) part), length-append t (drop (rest + length t) part))

-- numbers written into a part, and the part written back
put_nested : (s t : List ℤ) (from rest size m : ℕ) → size ≡ rest + length t + m →
    take (from + rest) s ++ (t ++ drop (from + rest + length t) s)
    ≡ take from s ++ ((take rest (take size (drop from s)) ++ (t ++ drop (rest + length t) (take size (drop from s))))
    ++ drop (from + size) s)
put_nested s t from rest size m is =
    let n : ℕ = length t in
    let b : List ℤ = drop from s in
    let x : List ℤ = drop (rest + n) b in
    let far : size ≡ rest + (n + m) = omega arith in
    let first : take rest (take size b) ≡ take rest b = ap (λ k. take rest (take k b)) far ∙ take_of_more rest (n + m) b in
    let behind : drop (rest + n) (take size b) ≡ take m x = ap (λ k. drop (rest + n) (take k b)) is ∙ drop_of_more (rest + n) m b in
    let whole_x : x ≡ drop (from + (rest + n)) s = drop_more from (rest + n) s in
    let plus : from + (rest + n) + m ≡ from + size = omega arith in
    let last : drop (from + size) s ≡ drop m x =
    ap (λ k. drop k s) (sym plus) ∙ sym (drop_more (from + (rest + n)) m s) ∙ ap (drop m) (sym whole_x) in
    let assoc : from + (rest + n) ≡ from + rest + n = omega arith in
    let inner : (take rest b ++ (t ++ take m x)) ++ drop m x ≡ take rest b ++ (t ++ x) =
    append_assoc (take rest b) (t ++ take m x) (drop m x)
    ∙ ap (λ r. take rest b ++ r) (append_assoc t (take m x) (drop m x) ∙ ap (λ r. t ++ r) (take-append-drop m x)) in
    let right : take from s
    ++ ((take rest (take size b) ++ (t ++ drop (rest + n) (take size b))) ++ drop (from + size) s)
    ≡ take from s ++ (take rest b ++ (t ++ x)) = (λ i. take from s ++ ((first i ++ (t ++ behind i)) ++ last i))
    ∙ ap (λ r. take from s ++ r) inner in
    let left : take from s ++ (take rest b ++ (t ++ x)) ≡ take (from + rest) s ++ (t ++ drop (from + rest + n) s) =
    sym (append_assoc (take from s) (take rest b) (t ++ x))
    ∙ (λ i. take_more from rest s i ++ (t ++ (whole_x ∙ ap (λ k. drop k s) assoc) i)) in
    sym (right ∙ left)

-- ---- fields and slots
field_of_slot : (layouts : List StructLayout) (at : ℕ) (fields : List FieldTree) (f from size inner : ℕ) →
    slice_get (slots_from layouts at fields) f ≡ Some (Instance from size inner) →
    (x : FieldTree) × (slice_get fields f ≡ Some x) × (x.kind ≡ kind.Struct inner)
field_of_slot layouts at [] f from size inner there = absurd (cc)
field_of_slot layouts at (y ∷ ys) zero from size inner there = (y, refl, here y.kind there)
  where
    here : (k : FieldKind) → Some (slot_of layouts at k) ≡ Some (Instance from size inner) → k ≡ kind.Struct inner
    here (kind.Number type) e = absurd (cc)
    here (kind.Array type count) e = absurd (cc)
    here (kind.Struct j) e = let same : j ≡ inner = cc in ap kind.Struct same
field_of_slot layouts at (y ∷ ys) (suc f) from size inner there =
    field_of_slot layouts (at + kind_size layouts y.kind) ys f from size inner there

-- a run in an instance, seen from the instance that holds it
child_root : (f : ℕ) (cells inner zeros : Cells) (r : Result Cost Stuck) (t s : List ℤ) (o : Outcome) →
    root_ended inner r t ≡ seen 0 o → set_cell cells f (object (filled inner t)) ≡ filled zeros s →
    root_ended zeros r s ≡ seen 0 (in_child f cells o)
child_root f cells inner zeros (Ok cost) t s o given left =
    child_ran f 0 cost.steps cost.calls cells (filled inner t) (filled zeros s) o given left
child_root f cells inner zeros (Err at) t s o given left = child_halted f 0 cells (filled inner t) (filled zeros s) at o given left

-- one field more
pub reached_more : (layouts : List StructLayout) (of : ℕ) (path : List ℕ) (struct at f from size inner : ℕ) →
    IsReached layouts of path struct at →
    slice_get (layout_at layouts struct).slots f ≡ Some (Instance from size inner) →
    IsReached layouts of (path ++ f ∷ []) inner (at + from)
reached_more layouts of [] struct at f from size inner h slot =
    let e : at ≡ 0 = h.1 in
    let sum : at + from ≡ from + 0 = omega arith in
    (from, size, inner, 0, (λ i. slice_get (layout_at layouts (sym h.0 i)).slots f) ∙ slot, sum, (refl, refl))
reached_more layouts of (g ∷ path) struct at f from size inner h slot =
    let e : at ≡ h.0 + h.3 = h.5 in
    let sum : at + from ≡ h.0 + (h.3 + from) = omega arith in
    (h.0, h.1, h.2, h.3 + from, h.4, sum, reached_more layouts h.2 path struct h.3 f from size inner h.6 slot)

module _ (structs : List StructTree) (layouts : List StructLayout) (zeros : List Cells) (laid : AreLaidOut structs layouts zeros) where
  pub slot_field : (of f from size inner : ℕ) →
      slice_get (layout_at layouts of).slots f ≡ Some (Instance from size inner) →
      (x : FieldTree) × (slice_get (struct_fields structs of) f ≡ Some x) × (x.kind ≡ kind.Struct inner)
  slot_field of f from size inner slot =
      field_of_slot layouts 0 (struct_fields structs of) f from size inner
      (ap (λ t. slice_get t f) (sym (laid.slots_are of)) ∙ slot)

  -- an instance in a field has its numbers among those of the instance that holds it
  pub record Fits (of from size inner : ℕ) : Type 0 where
    pub size_is : size ≡ (layout_at layouts inner).size
    pub within : from + size ≤ (layout_at layouts of).size

  pub slot_fits : (of f from size inner : ℕ) →
      slice_get (layout_at layouts of).slots f ≡ Some (Instance from size inner) → Fits of from size inner
  slot_fits of f from size inner slot =
      let x = slot_field of f from size inner slot in
      let s : List ℤ = numbers_of (slice_index_or zeros of no_cells) in
      let n : (layout_at layouts of).size ≡ length s = laid.sized of in
      let h = hold_at structs layouts zeros laid of f inner x.0 s from size inner x.1 x.2 (sym n) slot in
      let w : from + size ≤ length s = h.within in
      record { size_is = h.size_is; within = omega arith }

  pub reached_fits : (of : ℕ) (path : List ℕ) (struct at : ℕ) → IsReached layouts of path struct at →
      at + (layout_at layouts struct).size ≤ (layout_at layouts of).size
  reached_fits of [] struct at h =
      let e : (layout_at layouts struct).size ≡ (layout_at layouts of).size = ap (λ k. (layout_at layouts k).size) h.0 in
      let z : at ≡ 0 = h.1 in
      omega arith
  reached_fits of (f ∷ path) struct at h =
      let far = reached_fits h.2 path struct h.3 h.6 in
      let fits = slot_fits of f h.0 h.1 h.2 h.4 in
      let n : h.1 ≡ (layout_at layouts h.2).size = fits.size_is in
      let w : h.0 + h.1 ≤ (layout_at layouts of).size = fits.within in
      let z : at ≡ h.0 + h.3 = h.5 in
      omega arith

  -- the fields at a path
  pub reads_under : (of : ℕ) (path : List ℕ) (struct at : ℕ) (s : List ℤ) → IsReached layouts of path struct at →
      cells_at path (filled (slice_index_or zeros of no_cells) s)
      ≡ filled (slice_index_or zeros struct no_cells) (drop at s)
  reads_under of [] struct at s h = λ i. filled (slice_index_or zeros (sym h.0 i) no_cells) (drop (sym h.1 i) s)
  reads_under of (f ∷ path) struct at s h =
      ap (cells_at path) (child_is structs layouts zeros laid of s f h.0 h.1 h.2 h.4)
      ∙ reads_under h.2 path struct h.3 (drop h.0 s) h.6
      ∙ ap (filled (slice_index_or zeros struct no_cells)) (drop_more h.0 h.3 s ∙ ap (λ n. drop n s) (sym h.5))

  -- a run at a path
  leaves_under : (of : ℕ) (path : List ℕ) (struct at : ℕ) (s t : List ℤ) (r : Result Cost Stuck) (go : Cells →
      Outcome) → IsReached layouts of path struct at → length s ≡ (layout_at layouts of).size →
      length t ≡ (layout_at layouts struct).size →
      root_ended (slice_index_or zeros struct no_cells) r t ≡ seen 0
      (go (cells_at path (filled (slice_index_or zeros of no_cells) s))) →
      root_ended (slice_index_or zeros of no_cells) r (take at s ++ (t ++ drop (at + length t) s))
      ≡ seen 0 (at_path path go (filled (slice_index_or zeros of no_cells) s))
  leaves_under of [] struct at s t r go h room long given =
      let e : (layout_at layouts struct).size ≡ (layout_at layouts of).size = ap (λ k. (layout_at layouts k).size) h.0 in
      let z : at ≡ 0 = h.1 in
      let all : at + length t ≡ length s = omega arith in
      let whole : take at s ++ (t ++ drop (at + length t) s) ≡ t =
      (λ i. take (z i) s ++ (t ++ drop (all i) s)) ∙ ap (λ q. t ++ q) (drop_all s) ∙ append_none t in
      (λ i. root_ended (slice_index_or zeros (sym h.0 i) no_cells) r (whole i)) ∙ given
  leaves_under of (f ∷ path) struct at s t r go h room long given =
      let from : ℕ = h.0 in
      let size : ℕ = h.1 in
      let inner : ℕ = h.2 in
      let rest : ℕ = h.3 in
      let cells : Cells = filled (slice_index_or zeros of no_cells) s in
      let x = slot_field of f from size inner h.4 in
      let a = hold_at structs layouts zeros laid of f inner x.0 s from size inner x.1 x.2 room h.4 in
      let part : List ℤ = take size (drop from s) in
      let within : from + size ≤ length s = a.within in
      let size_is : size ≡ (layout_at layouts inner).size = a.size_is in
      let left : length (drop from s) + from ≡ length s = length_dropped from s (omega arith) in
      let part_long : length part ≡ size = length_taken size (drop from s) (omega arith) in
      let far = reached_fits inner path struct rest h.6 in
      let fits : rest + length t ≤ size = omega arith in
      let now : List ℤ = take rest part ++ (t ++ drop (rest + length t) part) in
      let now_long : length now ≡ size = put_length part t rest (omega arith) ∙ part_long in
      let next =
      leaves_under inner path struct rest part t r go h.6 (part_long ∙ size_is) long (given
      ∙ ap (λ q. seen 0 (go (cells_at path q))) a.fields_are) in
      let at_is : at ≡ from + rest = h.5 in
      let sum : size ≡ rest + length t + (size - (rest + length t)) = omega arith in
      (λ i. root_ended (slice_index_or zeros of no_cells) r (take (at_is i) s ++ (t ++ drop (at_is i + length t) s)))
      ∙ ap (root_ended (slice_index_or zeros of no_cells) r)
      (put_nested s t from rest size (size - (rest + length t)) sum)
      ∙ child_root f cells (slice_index_or zeros inner no_cells) (slice_index_or zeros of no_cells) r now
      (take from s ++ (now ++ drop (from + size) s)) (at_path path go (fields_at cells f))
      (next ∙ ap (λ q. seen 0 (at_path path go q)) (sym a.fields_are)) (a.left now now_long)

  -- a call from outside at a path, by what the code's run left of the numbers there
  pub ran_under : (p : ProgramTree) (k of : ℕ) (path : List ℕ) (struct at size : ℕ) (values s t : List ℤ)
      (r : Result Cost Stuck) → IsReached layouts of path struct at → length s ≡ (layout_at layouts of).size →
      size ≡ (layout_at layouts struct).size → length t ≡ size →
      root_ended (slice_index_or zeros struct no_cells) r t ≡ seen 0
      (call_from_outside p k [] values (filled (slice_index_or zeros struct no_cells) (take size (drop at s)))) →
      root_ended (slice_index_or zeros of no_cells) r (take at s ++ (t ++ drop (at + size) s))
      ≡ seen 0 (call_from_outside p k path values (filled (slice_index_or zeros of no_cells) s))
  ran_under p k of path struct at size values s t r h room size_is long given =
      let z : Cells = slice_index_or zeros struct no_cells in
      let there : filled z (take size (drop at s)) ≡ cells_at path (filled (slice_index_or zeros of no_cells) s) =
      ap (λ n. filled z (take n (drop at s))) (size_is ∙ laid.sized struct) ∙ filled-take z (drop at s)
      ∙ sym (reads_under of path struct at s h) in
      ap (λ n. root_ended (slice_index_or zeros of no_cells) r (take at s ++ (t ++ drop (at + n) s))) (sym long)
      ∙ leaves_under of path struct at s t r (λ inner. (routine_at (program_routines p) k).run values inner 0) h
      room (long ∙ size_is) (given ∙ ap (λ q. seen 0 ((routine_at (program_routines p) k).run values q 0)) there)
