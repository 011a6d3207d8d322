-- Each kind of piece is right in each procedure of a system that is emitted.
use Rattle.emit_row_code.specs.StatementLaws.{MemoriesAreStored, RingsAreStored, TriggersAreStored, CallsAreMade, ResetsAreCalled}
use Rattle.emit_row_code.specs.TestLaws.{ActivityIsTested}
use Rattle.right_relation.specs.SoundLocals.{LocalsAreSound}
use Rattle.right_system_nodes.specs.PieceLaws.{ValuesAreGiven, MemoriesAreGiven, RingsAreGiven, TriggersAreRemembered, CallsAreActs, UpdatesAreActs, ResetsAreActs}
use Rattle.right_system_nodes.proofs.Calls.{call-given, update-given, reset-given}
use Rattle.right_system_nodes.proofs.Memories.{TickLaws, memory-given, ring-given, trigger-given}
use Rattle.right_system_nodes.proofs.Settled.{settled}
use Rattle.right_system_nodes.proofs.Values.{RowLaws, value-given}

pub values_are_given : LocalsAreSound → RowLaws → ValuesAreGiven
values_are_given sound laws local profile schedule params emitted has r own has_value takes
    pures prelude cycle is_cycle offers are m tick typed children serve routines =
    value-given laws local schedule params (settled sound local profile schedule emitted) has
    pures prelude cycle is_cycle offers m tick typed children routines r own has_value takes

pub memories_are_given : LocalsAreSound → TickLaws → MemoriesAreStored → MemoriesAreGiven
memories_are_given sound laws law local profile schedule params emitted has r own single
    pures prelude cycle is_cycle offers are m tick typed children serve routines =
    memory-given local schedule params (settled sound local profile schedule emitted) has
    pures cycle is_cycle offers m tick typed children routines laws law r own single

pub rings_are_given : LocalsAreSound → TickLaws → RingsAreStored → RingsAreGiven
rings_are_given sound laws law local profile schedule params emitted has r own line
    pures prelude cycle is_cycle offers are m tick typed children serve routines =
    ring-given local schedule params (settled sound local profile schedule emitted) has
    pures cycle is_cycle offers m tick typed children routines laws law r own line

pub triggers_are_remembered : LocalsAreSound → TriggersAreStored → TriggersAreRemembered
triggers_are_remembered sound law local profile schedule params emitted has triggered
    pures prelude cycle is_cycle offers are m tick typed children serve routines =
    trigger-given local schedule params (settled sound local profile schedule emitted) has
    pures cycle is_cycle offers m tick typed children routines law triggered

pub calls_are_acts : LocalsAreSound → ActivityIsTested → CallsAreMade → CallsAreActs
calls_are_acts sound activity law local profile schedule params emitted has f k j u slot low high
    pures prelude cycle is_cycle offers are m tick typed children serve routines =
    call-given local schedule params (settled sound local profile schedule emitted) has
    pures cycle is_cycle offers are m typed children serve routines activity law f k j u slot low high

pub updates_are_acts : LocalsAreSound → ActivityIsTested → CallsAreMade → UpdatesAreActs
updates_are_acts sound activity law local profile schedule params emitted has f k u slot
    pures prelude cycle is_cycle offers are m tick typed children serve routines =
    update-given local schedule params (settled sound local profile schedule emitted) has
    pures cycle is_cycle offers are m typed children serve routines activity law f k u slot

pub resets_are_acts : LocalsAreSound → ActivityIsTested → ResetsAreCalled → ResetsAreActs
resets_are_acts sound activity law local profile schedule params emitted has f k u slot
    pures prelude cycle is_cycle offers are m tick typed children serve routines =
    reset-given local schedule params (settled sound local profile schedule emitted) has
    pures cycle is_cycle offers are m typed children serve routines activity law f k u slot
