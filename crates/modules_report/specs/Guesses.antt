-- What the words of lines say.
use Rattle.std.specs.Prelude.{ℕ, ◌<◌, ⊤, List, ◌∷◌, ◌++◌, map, codes, decimal}
use Rattle.base_core.specs.declared.Port.{Port}
use Rattle.base_core.specs.Words.{port_word}
use Rattle.modules_profile.specs.declared.Function.{Function}
use Rattle.base_core.specs.Ports.{bit_of, ports_mask}
use Rattle.modules_profile.specs.Systems.{system_name}
use Rattle.modules_report.specs.declared.head.Head.{Head}
use Rattle.modules_report.specs.Following.{controls_with}
use Rattle.modules_report.specs.declared.stop.Stop.{Stop}
use Rattle.modules_report.specs.declared.stop.Stop.TheVariants.{Left, Memory}
use Rattle.modules_report.specs.Texts.{control_words, list_words}

-- a port with a place in the sets of a report
abbrev pub IsPlaced : Port → Type 0
IsPlaced p = bit_of p < 34

-- the words of the line of a system
abbrev pub head_words : Head → List (List ℕ)
head_words h =
    codes "system" ∷ system_name h.row ∷ codes "inputs" ∷ decimal h.inputs ∷ codes "outputs"
    ∷ decimal h.outputs ∷ codes "functions" ∷ decimal h.functions
    ∷ control_words (controls_with h.enabled h.triggered)

-- the words of two lists of ports
abbrev pub lists_words : List Port → List Port → List (List ℕ)
lists_words needs outputs =
    list_words (map port_word needs) ++ codes "outputs" ∷ list_words (map port_word outputs)

-- a line isn't read, and not because memory runs out
abbrev pub IsLeft : Stop → Type 0
IsLeft (Left bytes) = ⊤
IsLeft Memory = ⊥

-- the function whose line has these lists of ports
abbrev pub told_function : List Port → List Port → Function
told_function needs outputs = record { inputs = ports_mask needs; outputs = ports_mask outputs }
