-- Where scripts end on a system of two inputs and two functions, each of which takes one input and
-- gives one output.
use Rattle.std.specs.Prelude.{◌≡◌, refl, [], ◌∷◌, pos, codes}
use Rattle.std.specs.Fmt.{digits}
use Rattle.base_core.specs.declared.Port.TheVariants.{Number}
use Rattle.base_fixed_point.specs.Types.{int32}
use Rattle.right_claim.specs.Scripts.{out_with}
use Rattle.tool_driver.specs.declared.fault.DriveFault.TheVariants.{Twice, Early, Value, Unlike}
use Rattle.tool_driver.specs.Shapes.{Shape}
use Rattle.tool_scripts.specs.declared.calls.ScriptWhy.TheVariants.{NoFunction, Count}
use Rattle.tool_script_runner.specs.ScriptEnds.{Whole, AtLine, AtCall, script_end, lawful_calls}
use Rattle.tool_script_runner.specs.FaultTexts.{functions_up_to, bad_call_line, refused_call_line}

crossed : Shape
crossed = record {
  name = codes "s1";
  functions = record { inputs = 1; outputs = 1 } ∷ record { inputs = 2; outputs = 2 } ∷ [];
  inputs = int32 ∷ int32 ∷ [];
  controls = [];
  outputs = codes "v4" ∷ codes "v5" ∷ [];
  hyper = 1;
}

end-of_tick : script_end crossed (codes "out 2 9\nout 1 4\nupdate 4 9\n") ≡ Whole
unfolding crossed
end-of_tick = refl

end-within_tick : script_end crossed (codes "out 2 9") ≡ Whole
unfolding crossed
end-within_tick = refl

end-early : script_end crossed (codes "out 1 4\nupdate 4 9\n")
    ≡ AtCall (record { line = 2; why = Early 2 })
unfolding crossed
end-early = refl

end-twice : script_end crossed (codes "out 1 4\nout 1 4\n")
    ≡ AtCall (record { line = 2; why = Twice 1 })
unfolding crossed
end-twice = refl

end-unlike : script_end crossed (codes "out 1 4\nout 2 9\nupdate 5 9\n")
    ≡ AtCall (record { line = 3; why = Unlike (Number 1) (pos 4) (pos 5) })
unfolding crossed
end-unlike = refl

end-value : script_end crossed (codes "out 1 2147483648\n")
    ≡ AtCall (record { line = 1; why = Value (Number 1) })
unfolding crossed
end-value = refl

end-no_function : script_end crossed (codes "out 3 1\n")
    ≡ AtLine (record { line = 1; why = NoFunction (pos 3) })
unfolding crossed
end-no_function = refl

end-count : script_end crossed (codes "update 4\n") ≡ AtLine (record { line = 1; why = Count 1 })
unfolding crossed
end-count = refl

-- a call that is refused comes before a later line that is no call
end-first : script_end crossed (codes "out 1 4\nout 1 4\nx\n")
    ≡ AtCall (record { line = 2; why = Twice 1 })
unfolding crossed
end-first = refl

-- the next tick allows a function again, with another value
end-next_tick : script_end crossed (codes "out 1 4\nout 2 9\nupdate 4 9\nout 1 5\n") ≡ Whole
unfolding crossed
end-next_tick = refl

calls-before : lawful_calls crossed (codes "out 1 4\nout 1 4\n") ≡ out_with 1 (pos 4 ∷ []) ∷ []
unfolding crossed
calls-before = refl

-- ---- Texts

text-early : refused_call_line (record { line = 2; why = Early 6 })
    ≡ codes "script line 2 Early 2 3\n"
unfolding functions_up_to digits
text-early = refl

text-unlike : refused_call_line (record { line = 3; why = Unlike (Number 1) (pos 4) (pos 5) })
    ≡ codes "script line 3 Unlike 1 4 5\n"
unfolding digits
text-unlike = refl

text-no_function : bad_call_line (record { line = 1; why = NoFunction (pos 3) })
    ≡ codes "script line 1 NoFunction 3\n"
unfolding digits
text-no_function = refl
