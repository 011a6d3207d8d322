-- What a tick leaves, by the values of its slots.
use Rattle.std.proofs.Common.{◌≡◌, sym, ◌∙◌, subst, ℤ, List, length, take, map, arith, Option, Some, slice_index}
use Rattle.lustre_syntax.specs.Tree.{FileTree}
use Rattle.lustre_flows.specs.Values.{value_at}
use Rattle.lustre_flows.specs.Ticks.{last_place, last_node, fresh_root, settled}
use Rattle.lustre_flows.specs.FlowLaws.{ValuesStay, Stays, IsTickOf}
use Rattle.lustre_settling.specs.Solutions.{HoldsAtTick}
use Rattle.lustre_settling.proofs.lemmas.Settled.{settled-form}
use Rattle.lustre_settling.proofs.lemmas.Solutions.{settled_is_least, settled_is_only}
use Rattle.lustre_slots.specs.Layout.{sizes_of}
use Rattle.lustre_slot_laws.specs.Laid.{laid, flat}
use Rattle.lustre_slot_laws.specs.Outcomes.{Keeps, AllKeep}
use Rattle.lustre_slot_laws.specs.SlotLaws.{laid_before, SlotsSolve}
use Rattle.lustre_slot_laws.proofs.lemmas.Flat.{flat-length, laid-flat, laid-stays, laid-form}
use Rattle.lustre_slot_laws.proofs.lemmas.Laying.{size-counted, value-read}
use Rattle.lustre_slot_laws.proofs.lemmas.Solving.{root-solved}
use Rattle.lustre_slot_laws.proofs.lemmas.Tables.{slots-of-links, links-of-slots}

pub slots_solve : SlotsSolve
slots_solve f before now row lawful size =
    let solved = root-solved f before now row lawful (omega arith) in (
      λ h. let kept = solved.0 h in
          (kept.0, slots-of-links (Keeps f before now) f (λ s. sym (value-read (value_at now s))) kept.1),
      λ kept. solved.1 (kept.0, links-of-slots (Keeps f before now) f lawful kept.1),
    )

module _ (f : FileTree) (before : Option (List (Option ℤ))) (row : List ℤ) (tick : IsTickOf f (laid_before f before) row) where
  abbrev pub left : List (Option ℤ)
  left = flat (settled f (laid_before f before) row)

  pub left-length : length left ≡ slice_index (sizes_of f) (last_place f)
  left-length =
      sym (size-counted f (last_place f) ∙ flat-length (fresh_root f) (settled f (laid_before f before) row) (settled-form f (laid_before f before) row tick))

  left-laid : laid left (fresh_root f) ≡ settled f (laid_before f before) row
  left-laid = laid-flat (fresh_root f) (settled f (laid_before f before) row) (settled-form f (laid_before f before) row tick)

  left-holds : (take (last_node f).inputs left ≡ map Some row) × AllKeep f before left
  left-holds =
      (slots_solve f before left row tick.lawful left-length).0
      (subst (HoldsAtTick f (laid_before f before) row) (sym left-laid)
      (settled_is_least.solution f (laid_before f before) row tick).holds)

  -- the values that it leaves are those to which slots come
  pub left-inputs : take (last_node f).inputs left ≡ map Some row
  left-inputs = left-holds.0

  pub left-keeps : AllKeep f before left
  left-keeps = left-holds.1

  -- and the only such values that it has
  pub left-only : (now : List (Option ℤ)) → length now ≡ slice_index (sizes_of f) (last_place f) →
      take (last_node f).inputs now ≡ map Some row → AllKeep f before now → ValuesStay now left →
      laid now (fresh_root f) ≡ settled f (laid_before f before) row
  left-only now size inputs keep stay =
      settled_is_only f (laid_before f before) row (laid now (fresh_root f)) tick
      (record {
        form = laid-form f now tick.lawful size;
        holds = (slots_solve f before now row tick.lawful size).1 (inputs, keep);
      })
      (subst (Stays (laid now (fresh_root f))) left-laid (laid-stays (fresh_root f) now left stay))
