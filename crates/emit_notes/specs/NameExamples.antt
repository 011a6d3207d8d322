-- What some names in code stand for.
use Rattle.std.specs.Prelude.{◌≡◌, codes, refl}
use Rattle.emit_notes.specs.declared.name_uses.NameUse.TheVariants.{Value, Memory, OldestPlace, SampleCount, System, Group, Output, Input, Trigger, Top, Tick, Other}
use Rattle.emit_notes.specs.NameUses.{use_of}

value_used : use_of (codes "v17") ≡ Value 17
value_used = refl

memory_used : use_of (codes "m0") ≡ Memory 0
memory_used = refl

place_used : use_of (codes "p203") ≡ OldestPlace 203
place_used = refl

count_used : use_of (codes "n203") ≡ SampleCount 203
count_used = refl

system_used : use_of (codes "s5") ≡ System 5
system_used = refl

group_used : use_of (codes "k2") ≡ Group 2
group_used = refl

output_used : use_of (codes "y1") ≡ Output 1
output_used = refl

input_used : use_of (codes "u3") ≡ Input 3
input_used = refl

trigger_used : use_of (codes "w") ≡ Trigger
trigger_used = refl

top_used : use_of (codes "top") ≡ Top
top_used = refl

tick_used : use_of (codes "now") ≡ Tick
tick_used = refl

-- the filler, and a letter without a number
filler_used : use_of (codes "none") ≡ Other
filler_used = refl

bare_letter_used : use_of (codes "v") ≡ Other
bare_letter_used = refl
