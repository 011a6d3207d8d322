-- The relation in each tick, from what procedures do and what that adds.
use Rattle.std.specs.Prelude.{ℕ, Bool, [], refl}
use Rattle.std.proofs.Common.{sym, subst}
use Rattle.modules_profile.specs.Locals.{own_header}
use Rattle.emit_row_code.specs.Laws.{NumbersAreWritten}
use Rattle.right_relation.specs.ExecutedNodes.{RowIsNoField, RowIsExecuted, CallIsExecuted, StandingHasSlots}
use Rattle.right_relation.specs.Instances.{out, update, reset, offered_for, Performs}
use Rattle.right_relation.specs.Rings.{EmptiedIsRing, MovedIsRing}
use Rattle.right_relation.specs.SoundLocals.{LocalsAreSound}
use Rattle.emit_system_spec.specs.Emitted.{EmittedIsEmittable}
use Rattle.right_system_ticks.specs.ActLaws.{IsTickOf, emitted_offer, emitted_instance, EmittedActsArePerformed, CalledGroupsAreHeld, EmittedStepsAreFew, EmittedActsAdd, EmittedActsAreLogged, EmittedOutputsStand, EmittedFieldsRest}
use Rattle.right_system_ticks.specs.Holding.{held, counted}
use Rattle.right_system_ticks.specs.KeptTicks.{EmittedCodeKeepsTicks}
use Rattle.right_system_ticks.specs.OwnInstances.{own_steps}
use Rattle.right_system_ticks.specs.PlaceLaws.{FieldsHavePlaces, ProceduresHavePlaces, CallsAreLoggedByName, ChildResetsStand, ArgumentsAreTaken, GroupsTakeParameters}
use Rattle.right_system_ticks.specs.ScheduleLaws.{GroupsAreNext, UpdatesEndTicks, GroupsStandFirst}
use Rattle.right_system_ticks.proofs.NoneCalled.{nothing-counted}
use Rattle.right_system_ticks.proofs.OutActs.{out-acts}
use Rattle.right_system_ticks.proofs.UpdateActs.{update-acts}
use Rattle.right_system_ticks.proofs.ResetActs.{reset-acts}

-- what the acts rest on: laws of lower crates, of the schedule and of places
pub record ActPremises : Type 0 where
  pub row_is_executed : RowIsExecuted
  pub call_is_executed : CallIsExecuted
  pub row_is_no_field : RowIsNoField
  pub standing_has_slots : StandingHasSlots
  pub emptied_is_ring : EmptiedIsRing
  pub moved_is_ring : MovedIsRing
  pub numbers_are_written : NumbersAreWritten
  pub locals_are_sound : LocalsAreSound
  pub emitted_is_emittable : EmittedIsEmittable
  pub groups_are_next : GroupsAreNext
  pub updates_end_ticks : UpdatesEndTicks
  pub groups_stand_first : GroupsStandFirst
  pub fields_have_places : FieldsHavePlaces
  pub procedures_have_places : ProceduresHavePlaces
  pub calls_are_logged_by_name : CallsAreLoggedByName
  pub child_resets_stand : ChildResetsStand
  pub arguments_are_taken : ArgumentsAreTaken
  pub groups_take_parameters : GroupsTakeParameters

module _ (laws : ActPremises) where
  pub acts_are_performed : EmittedActsArePerformed
  acts_are_performed local profile schedule cycle offers m children tick pieces pures prelude numbers called (out j)
      (active, some, most, new) =
      out-acts laws.row_is_executed laws.call_is_executed laws.row_is_no_field laws.groups_are_next laws.groups_take_parameters local
      profile schedule
      tick.emitted (laws.groups_stand_first local profile schedule tick.emitted)
      (laws.procedures_have_places local profile schedule tick.emitted)
      (laws.calls_are_logged_by_name local profile schedule tick.emitted) pieces offers children cycle m pures
      (record {
        works = record {
          sound = laws.locals_are_sound tick.emitted.resolved local.row local tick.emitted.is_resolved tick.emitted.is_local;
          are_slots = (laws.fields_have_places local profile schedule tick.emitted).are_slots;
          is_tick = tick.is_tick;
          is_typed = tick.is_typed;
          callable = active;
          serve = tick.serve;
        };
        places = laws.fields_have_places local profile schedule tick.emitted;
        prelude = prelude;
        is_cycle = tick.is_cycle;
        are_offers = tick.are_offers;
      })
      (laws.arguments_are_taken local profile schedule cycle m tick.emitted tick.is_cycle tick.is_tick tick.is_typed) numbers j some most
      called new
  acts_are_performed local profile schedule cycle offers m children tick pieces pures prelude numbers called update (active, all) =
      update-acts laws.row_is_executed laws.call_is_executed laws.row_is_no_field laws.standing_has_slots laws.emptied_is_ring
      laws.moved_is_ring
      laws.updates_end_ticks local profile schedule tick.emitted (laws.groups_stand_first local profile schedule tick.emitted)
      (laws.procedures_have_places local profile schedule tick.emitted)
      (laws.calls_are_logged_by_name local profile schedule tick.emitted) pieces offers children cycle m pures
      (record {
        works = record {
          sound = laws.locals_are_sound tick.emitted.resolved local.row local tick.emitted.is_resolved tick.emitted.is_local;
          are_slots = (laws.fields_have_places local profile schedule tick.emitted).are_slots;
          is_tick = tick.is_tick;
          is_typed = tick.is_typed;
          callable = active;
          serve = tick.serve;
        };
        places = laws.fields_have_places local profile schedule tick.emitted;
        prelude = prelude;
        is_cycle = tick.is_cycle;
        are_offers = tick.are_offers;
      })
      (laws.arguments_are_taken local profile schedule cycle m tick.emitted tick.is_cycle tick.is_tick tick.is_typed) numbers called all
  acts_are_performed local profile schedule cycle offers m children tick pieces pures prelude numbers called reset (off, none) =
      let own = emitted_instance local profile schedule offers pures numbers m children in
      subst (λ (c : ℕ → Bool). Performs (offered_for (emitted_offer local profile schedule offers pures numbers) reset).routine []
      (own.standing c) own.after (own.most c reset)
      (own.log c reset) (own.stored c reset)) (sym none)
      (reset-acts laws.numbers_are_written local profile schedule (laws.groups_stand_first local profile schedule tick.emitted)
      (laws.procedures_have_places local profile schedule tick.emitted)
      (laws.calls_are_logged_by_name local profile schedule tick.emitted) offers children cycle m
      (record {
        sound = laws.locals_are_sound tick.emitted.resolved local.row local tick.emitted.is_resolved tick.emitted.is_local;
        places = laws.fields_have_places local profile schedule tick.emitted;
        emittable = laws.emitted_is_emittable local profile schedule tick.emitted;
        is_tick = tick.is_tick;
        is_typed = tick.is_typed;
        off_around = off;
        serve = tick.serve;
      }) pures numbers (λ own. laws.child_resets_stand local offers own tick.are_offers))

-- the whole relation
pub code_keeps_ticks : EmittedActsArePerformed → CalledGroupsAreHeld → EmittedStepsAreFew → EmittedActsAdd → EmittedActsAreLogged →
    EmittedOutputsStand →
    EmittedFieldsRest → EmittedCodeKeepsTicks
code_keeps_ticks acts are_held few adds logged stand rest local profile schedule emitted pieces = record {
  held = held local schedule;
  are_held = are_held local profile schedule emitted;
  counted = counted schedule;
  nothing_counted = nothing-counted schedule;
  in_ticks = λ pures prelude numbers cycle is_cycle offers are_offers m is_tick is_typed children serve.
      let tick : IsTickOf local profile schedule cycle offers m children = record {
        emitted = emitted;
        is_cycle = is_cycle;
        are_offers = are_offers;
        is_tick = is_tick;
        is_typed = is_typed;
        serve = serve;
      } in
      let outputs = stand local profile schedule cycle offers m children tick pures numbers in
      record {
        own = emitted_instance local profile schedule offers pures numbers m children;
        standing = λ called. refl;
        after = refl;
        serves = record {
          outputs = outputs.outputs;
          stay = outputs.stay;
          acts = λ called act may. acts local profile schedule cycle offers m children tick pieces pures prelude numbers called act may;
          logged = λ called act may. logged local profile schedule offers m children pures numbers called act;
          rests = λ active off. rest local profile schedule cycle offers m children tick pures numbers active off;
        };
        steps = own_steps local (own_header local profile) schedule m children;
        in_budget = few local profile schedule m children emitted;
        adds = λ called act may. adds local profile schedule cycle offers m children tick pures numbers called act may;
      };
}
