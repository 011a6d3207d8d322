-- Programs that differ in one thing from that of a root and its shared child are not right: each is refused by one part.
use Rattle.std.specs.Prelude.{◌≡◌, ◌⊎◌, ◌↔◌, refl, ℕ, suc, ◌+◌, ◌<◌, ◌≤◌, ◌==◌, false, List, [], ◌∷◌, map, length, replicate, slice_index, slice_index_or, IsBitSet, Option, Some, None, pos, nat_abs, ℤ}
use Rattle.std.specs.Fmt.{digits}
use Rattle.std.proofs.Common.{sym, ap, subst, arith, ◌∙◌, inl, inr, lit<, lit≤, rules, true≢false}
use Rattle.std.proofs.lemmas.Bool.{eq-eqb}
use Rattle.std.proofs.lemmas.List.{length-append}
use Rattle.std.proofs.lemmas.List.Sorted.{length_permutation}
use Rattle.base_core.specs.declared.Port.TheVariants.{Number}
use Rattle.base_core.specs.Interface.{ShownToNeed}
use Rattle.diagram_activity.specs.declared.TrigMem.TheVariants.{NotYet}
use Rattle.diagram_meaning.specs.Walk.{Reaches}
use Rattle.diagram_meaning.specs.Needs.{needs_inside, TrueNeeds, AreTrueNeeds}
use Rattle.modules_profile.specs.Functions.{functions_for}
use Rattle.diagram_meaning.specs.Laws.{Run, IsRunOver}
use Rattle.diagram_meaning.specs.Traces.{IsTrace}
use Rattle.modules_profile.specs.LocalSamples.{shared_child}
use Rattle.c_syntax.specs.Tree.{ProgramTree}
use Rattle.c_semantics.specs.Cells.{Cells, number, object, no_cells, more_cells}
use Rattle.c_semantics.specs.Rows.{start_run}
use Rattle.emit_shape.specs.Faces.{takes, out_places, givers, HasLeastInterface}
use Rattle.emit_shape.specs.Programs.{struct_place}
use Rattle.right_relation.specs.Instances.{OnDone}
use Rattle.right_relation.specs.Forms.{Forms, HasForms, holds_number, holds_instance, forms_of}
use Rattle.c_syntax.specs.declared.CType.TheVariants.{I32, U8}
use Rattle.right_claim.specs.Scripts.{Call, out_with, IsLawfulScript, Fits}
use Rattle.right_claim.specs.Calls.{IsWholeTick}
use Rattle.right_claim.specs.Driving.{TakesTraces}
use Rattle.right_claim.specs.Right.{StaysInBound, AnswersAnyOrder}
use Rattle.right_claim.specs.Anew.{forms_at, RenewsAll, Restarts}
use Rattle.right_claim.specs.SharedSamples.{trace, repeats_shared, called_first_alone, takes_unused, one_step, idle_functions, flat_step, divides_by_zero, over_bound, leaves_values, leaves_counter, leaves_child, stores_values, leaves_tick, leaves_output}
use Rattle.right_claim.proofs.SharedNeeds.{not_second, outer_input, outer_needs}

-- ---- The run

abbrev pub shared_run : Run
shared_run = record {
  values = (pos 1 ∷ pos 10 ∷ pos 0 ∷ pos 1 ∷ pos 1 ∷ pos 11 ∷ pos 1 ∷ pos 11 ∷ [])
      ∷ (pos 2 ∷ pos 20 ∷ pos 0 ∷ pos 2 ∷ pos 2 ∷ pos 22 ∷ pos 2 ∷ pos 22 ∷ []) ∷ [];
  memories = replicate 3 (replicate 8 []);
  triggers = replicate 3 (replicate 8 NotYet);
}

pub is_shared_run : IsRunOver shared_child None trace shared_run
is_shared_run = (
  refl,
  refl,
  (
    record { values = refl; memories = refl; triggers = refl },
    (record { values = refl; memories = refl; triggers = refl }, tt),
  ),
)

-- ---- Calls in each tick

-- two numbers that differ are not one
apart : (a b : ℕ) → (a == b) ≡ false → a ≡ b → ⊥
apart a b differ e = true≢false (sym (eq-eqb a b e) ∙ differ)

pub values-apart : (a b : ℕ) → (a == b) ≡ false → pos a ≡ pos b → ⊥
values-apart a b differ e = apart a b differ (ap nat_abs e)

-- a whole tick of calls is one longer than there are functions
long : (p : ProgramTree) (s : Option ℕ) (calls : List ℕ) → IsWholeTick p s calls → length calls ≡ length (out_places p s) + 1
long p s calls h = ap length h.then_update ∙ length-append h.outs _
    ∙ ap (λ n. n + 1) (length_permutation (out_places p s) h.outs h.each_once)

is_shared_trace : IsTrace shared_child None trace
is_shared_trace = ((search rules, (search rules, tt)), ((search rules, (search rules, tt)), tt))

-- a program answers each trace from its start
abbrev AnswersTraces : ProgramTree → Type 0
AnswersTraces p = OnDone (start_run p) (λ started. TakesTraces p shared_child started.cells)

-- a shared node that is run again calls the child's function twice
repeated : AnswersTraces repeats_shared → ⊥
unfolding digits
repeated h = apart 3 2 refl (long repeats_shared (Some 2) (1 ∷ 1 ∷ 2 ∷ []) (h trace shared_run is_shared_trace is_shared_run).0.calls.inside.each.0)

-- and stores the node's value twice
stored_twice : AnswersTraces repeats_shared → ⊥
unfolding digits
stored_twice h = let once : 2 ≤ 1 = (h trace shared_run is_shared_trace is_shared_run).0.calls.inside.stored_once.0 in omega arith

-- a flat step calls nothing
flat : AnswersTraces flat_step → ⊥
unfolding digits
flat h = apart 0 2 refl (long flat_step (Some 2) [] (h trace shared_run is_shared_trace is_shared_run).0.calls.inside.each.0)

-- ---- Steps

-- a division by 0 is stuck in the first tick
divided : StaysInBound divides_by_zero shared_child trace → ⊥
unfolding digits
divided h = cc h.not_stuck

-- a tick takes 325 steps, where 324 are allowed
too_long : StaysInBound over_bound shared_child trace → ⊥
unfolding digits
too_long h = let within : 325 ≤ 324 = h.steps.0 in omega arith

-- ---- Interfaces

second_unneeded : TrueNeeds shared_child None 6 (Number 2) → ⊥
second_unneeded t = by 2 t.0 refl (outer_input 2 t.0 t.1) t.2
  where
    by : (k i : ℕ) → (k == 1) ≡ false → ((k ≡ 1) × (i ≡ 0)) ⊎ ((k ≡ 2) × (i ≡ 1)) → Reaches (needs_inside shared_child None) 6 i → ⊥
    by k i second (inl one) way = apart k 1 second one.0
    by k i second (inr two) way = not_second (subst (λ j. Reaches (needs_inside shared_child None) 6 j) two.1 way)

first_giver : (gives : List ℕ) (rest : List (List ℕ)) → map (λ j. j ∷ []) gives ≡ (0 ∷ []) ∷ rest → slice_index gives 0 ≡ 0
first_giver [] rest e = let no : 0 ≡ suc (length rest) = ap (λ (xs : List (List ℕ)). length xs) e in absurd (omega arith)
first_giver (g ∷ gives) rest e = ap (λ (xs : List (List ℕ)). slice_index_or (slice_index_or xs 0 []) 0 0) e

-- no interface is exact whose first output is given by a function that takes the second input
takes_second : (p : ProgramTree) (others : List ℕ) (rest : List (List ℕ)) →
    map (takes p shared_child None) (out_places p None) ≡ 3 ∷ others →
    map (givers p None) (6 ∷ 7 ∷ []) ≡ (0 ∷ []) ∷ rest → HasLeastInterface p shared_child None → ⊥
takes_second p others rest inputs gives h = by h.needs h.are_needs (h.exact.exact 0 1)
  where
    taken : IsBitSet (slice_index h.face.takes (slice_index h.face.gives 0)) 1
    taken =
        subst (λ k. IsBitSet (slice_index h.face.takes k) 1) (sym (first_giver h.face.gives rest (h.is_face.outputs ∙ gives)))
        (subst (λ xs. IsBitSet (slice_index xs 0) 1) (sym (h.is_face.functions ∙ inputs)) (λ e. let no : 2 ≡ 0 = e in omega arith))

    by : (needs : List ℕ) → AreTrueNeeds shared_child None needs →
        (0 < length needs → ShownToNeed h.face (slice_index h.face.gives 0) 1 ↔ IsBitSet (slice_index needs 0) 1) → ⊥
    by [] are exact = absurd are
    by (m ∷ needs) are exact = second_unneeded ((are.0.number 2 (lit< tt) (lit≤ tt)).0 ((exact (omega arith)).0 (inl taken)))

one_function : HasLeastInterface one_step shared_child None → ⊥
unfolding digits
one_function h = takes_second one_step [] _ refl refl h

unused_input : HasLeastInterface takes_unused shared_child None → ⊥
unfolding digits
unused_input h = takes_second takes_unused (3 ∷ []) _ refl refl h

-- each output has a giver
none_gives : (gives : List ℕ) (rest : List (List ℕ)) → map (λ j. j ∷ []) gives ≡ [] ∷ rest → ⊥
none_gives [] rest e = let no : 0 ≡ suc (length rest) = ap (λ (xs : List (List ℕ)). length xs) e in omega arith
none_gives (g ∷ gives) rest e = apart 1 0 refl (ap (λ (xs : List (List ℕ)). length (slice_index_or xs 0 [])) e)

idle : HasLeastInterface idle_functions shared_child None → ⊥
unfolding digits
idle h = none_gives h.face.gives ([] ∷ []) h.is_face.outputs

-- ---- Calls in any order

-- the second function before the first
abbrev second_first : List Call
second_first = out_with 2 (pos 1 ∷ pos 10 ∷ []) ∷ []

abbrev pub one_row : List (List ℤ)
one_row = (pos 1 ∷ pos 10 ∷ []) ∷ []

abbrev pub short_run : Run
short_run = record {
  values = (pos 1 ∷ pos 10 ∷ pos 0 ∷ pos 1 ∷ pos 1 ∷ pos 11 ∷ pos 1 ∷ pos 11 ∷ []) ∷ [];
  memories = replicate 2 (replicate 8 []);
  triggers = replicate 2 (replicate 8 NotYet);
}

pub is_short_run : IsRunOver shared_child None one_row short_run
is_short_run = (refl, refl, (record { values = refl; memories = refl; triggers = refl }, tt))

in_order : IsLawfulScript shared_child None (functions_for (1 ∷ 3 ∷ [])) second_first
in_order = (
  record {
    in_turn = (lit< tt, lit≤ tt, refl);
    in_types = (search rules, (search rules, tt));
    alike = (tt, (tt, tt));
  },
  tt,
)

pub is_trace : IsTrace shared_child None one_row
is_trace = ((search rules, (search rules, tt)), tt)

fits : Fits shared_child None (functions_for (1 ∷ 3 ∷ [])) one_row second_first
fits = record { one_row_each = refl; agrees = ((refl, (refl, tt)), tt) }

-- a group that its first function alone calls leaves the second output at 10
first_alone : AnswersAnyOrder called_first_alone shared_child 1 None → ⊥
unfolding digits
first_alone h =
    let driven = h (1 ∷ 3 ∷ []) second_first one_row short_run outer_needs in_order is_trace fits is_short_run in
    values-apart 10 11 refl driven.0.0.0

-- ---- Starts and resets

-- what these hold
abbrev top_forms : Forms
top_forms =
    let value = holds_number I32 in
    let counter = holds_number U8 in
    forms_of (value ∷ value ∷ value ∷ value ∷ value ∷ holds_instance (forms_of (value ∷ value ∷ counter ∷ [])) ∷ counter
    ∷ counter ∷ counter ∷ [])

-- fields of `top` in the midst of a tick
abbrev midst : Cells
midst =
    more_cells (number (pos 9))
    (more_cells (number (pos 9))
    (more_cells (number (pos 9)) (more_cells (number (pos 9)) (more_cells (number (pos 9))
    (more_cells (object (more_cells (number (pos 9)) (more_cells (number (pos 9)) (more_cells (number (pos 1)) no_cells))))
    (more_cells (number (pos 1)) (more_cells (number (pos 1)) (more_cells (number (pos 1)) no_cells))))))))

has_forms : (p : ProgramTree) → forms_at p (struct_place p None) ≡ top_forms → HasForms (forms_at p (struct_place p None)) midst
has_forms p same =
    subst (λ forms. HasForms forms midst) (sym same)
    (refl, (refl, (refl, (refl, (refl, ((refl, (refl, (refl, tt))), (refl, (refl, (refl, tt)))))))))

left_values : RenewsAll leaves_values shared_child 1 None → ⊥
unfolding digits
left_values h = values-apart 9 0 refl (h.starts midst (has_forms leaves_values refl)).1.0.here.values.0

left_counter : RenewsAll leaves_counter shared_child 1 None → ⊥
unfolding digits
left_counter h = values-apart 1 0 refl (h.starts midst (has_forms leaves_counter refl)).1.0.here.counters.0

left_child : RenewsAll leaves_child shared_child 1 None → ⊥
unfolding digits
left_child h = values-apart 9 0 refl (h.starts midst (has_forms leaves_child refl)).1.0.inside.0.values.0

stored_values : RenewsAll stores_values shared_child 1 None → ⊥
unfolding digits
stored_values h = values-apart 0 9 refl (h.resets midst (has_forms stores_values refl)).1.here.values.0

-- ---- The whole program started again

-- fields of `root` in the midst of a tick
abbrev whole_midst : Cells
whole_midst = more_cells (number (pos 1)) (more_cells (number (pos 9)) (more_cells (number (pos 9)) (more_cells (object midst) no_cells)))

left_tick : Restarts leaves_tick shared_child 1 → ⊥
unfolding digits
left_tick h = values-apart 1 0 refl (h whole_midst (refl, (refl, (refl, (has_forms leaves_tick refl, tt))))).1.tick

left_output : Restarts leaves_output shared_child 1 → ⊥
unfolding digits
left_output h =
    values-apart 9 0 refl
    (ap (λ (outputs : List ℤ). slice_index_or outputs 1 (pos 0))
    (h whole_midst (refl, (refl, (refl, (has_forms leaves_output refl, tt))))).1.outputs)
