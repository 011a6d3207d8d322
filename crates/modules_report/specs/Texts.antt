-- The text of reports.
use Rattle.std.specs.Prelude.{ℕ, ◌+◌, ◌-◌, ◌==◌, List, [], ◌∷◌, ◌++◌, map, filter, flat_map, length, Option, codes, decimal}
use Rattle.std.specs.List.{enumerate_from, range_with_len}
use Rattle.base_core.specs.declared.Port.{Port}
use Rattle.base_core.specs.declared.Port.TheVariants.{Number}
use Rattle.base_core.specs.Words.{port_word}
use Rattle.modules_certificate.specs.declared.Difference.{Difference}
use Rattle.modules_profile.specs.declared.Function.{Function}
use Rattle.base_core.specs.Ports.{bit_of, has_bit, ports_in}
use Rattle.modules_profile.specs.Systems.{system_name}
use Rattle.modules_report.specs.PlainReport.{PlainReport}

-- the inputs of the system of a report: by number, and then its controls
abbrev pub ports_with : ℕ → List Port → List Port
ports_with inputs controls = map Number (range_with_len 1 inputs) ++ controls

abbrev pub ports_of : PlainReport → List Port
ports_of r = ports_with r.inputs r.controls

-- words, each after a space
abbrev pub spaced : List (List ℕ) → List ℕ
spaced words = flat_map (λ word. 32 ∷ word) words

-- the words of a list, or `none`
abbrev pub list_words : List (List ℕ) → List (List ℕ)
list_words [] = codes "none" ∷ []
list_words (word ∷ words) = word ∷ words

-- the ports of a set, and the outputs of one
abbrev pub ports_text : List Port → ℕ → List ℕ
ports_text ports mask = spaced (list_words (map port_word (ports_in mask ports)))

abbrev pub outputs_text : ℕ → ℕ → List ℕ
outputs_text outputs mask =
    spaced (list_words
    (map decimal (filter (λ k. has_bit mask (k - 1)) (range_with_len 1 outputs))))

-- `control` and the controls, where there are any
abbrev pub control_words : List Port → List (List ℕ)
control_words [] = []
control_words (control ∷ controls) = codes "control" ∷ port_word control ∷ map port_word controls

-- `inputs I outputs O functions F`
unfoldable pub counts_text : ℕ → ℕ → ℕ → List ℕ
counts_text inputs outputs functions =
    codes " inputs " ++ decimal inputs ++ codes " outputs " ++ decimal outputs
    ++ codes " functions " ++ decimal functions

-- the line of a system: its name and its counts, and its controls
abbrev pub head_line : Option ℕ → ℕ → ℕ → ℕ → List Port → List ℕ
head_line row inputs outputs functions controls =
    codes "system " ++ system_name row ++ counts_text inputs outputs functions
    ++ spaced (control_words controls) ++ codes "\n"

abbrev pub system_line : PlainReport → List ℕ
system_line r = head_line r.row r.inputs r.outputs (length r.profile.functions) r.controls

-- `out J needs LIST outputs LIST`
abbrev pub out_line : List Port → ℕ → ℕ → Function → List ℕ
out_line ports outputs j f =
    codes "out " ++ decimal j ++ codes " needs" ++ ports_text ports f.inputs ++ codes " outputs"
    ++ outputs_text outputs f.outputs ++ codes "\n"

-- the lines of functions from one with a number on
abbrev pub out_lines : List Port → ℕ → ℕ → List Function → List ℕ
out_lines ports outputs j functions =
    flat_map (λ (f : ℕ × Function). out_line ports outputs f.0 f.1) (enumerate_from j functions)

-- the port at a bit of a set
abbrev pub ports_at : ℕ → List Port → List Port
ports_at bit ports = filter (λ p. bit_of p == bit) ports

-- `differ J K by X`
abbrev pub differ_line : List Port → Difference → List ℕ
differ_line ports d =
    codes "differ " ++ decimal (d.first + 1) ++ codes " " ++ decimal (d.second + 1) ++ codes " by"
    ++ spaced (map port_word (ports_at d.bit ports)) ++ codes "\n"

-- the lines of a system: its own, one for each function, and one for each two of them
unfoldable pub system_text : PlainReport → List ℕ
system_text r =
    system_line r
    ++ out_lines (ports_of r) r.outputs 1 r.profile.functions
    ++ flat_map (differ_line (ports_of r)) r.certificate.differ

-- the line that says how many systems there are
abbrev pub last_line : ℕ → List ℕ
last_line systems = codes "systems " ++ decimal systems ++ codes "\n"

-- the text of reports: system by system, and then how many there are
abbrev pub report_text : List PlainReport → List ℕ
report_text reports = flat_map system_text reports ++ last_line (length reports)
