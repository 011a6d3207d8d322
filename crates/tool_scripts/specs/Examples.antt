-- Worked scripts.
use Rattle.std.specs.Prelude.{◌≡◌, refl, [], ◌∷◌, ◌++◌, None, Some, Ok, Err, pos, negsuc, codes, replicate}
use Rattle.right_claim.specs.Scripts.{out_with, update_with}
use Rattle.tool_scripts.specs.declared.calls.ScriptWhy.TheVariants.{Long, Many, Form, NoFunction, Count}
use Rattle.tool_scripts.specs.Calls.{call_of_line}
use Rattle.tool_scripts.specs.Scripts.{calls_behind, calls_of, whole_calls_of}

-- of a system with two inputs, of which each of its two functions takes one
script-a_tick : calls_of (1 ∷ 1 ∷ []) 2 (codes "out 2 9\nout 1 4\nupdate 4 9\n")
    ≡ record {
      calls = out_with 2 (pos 9 ∷ []) ∷ out_with 1 (pos 4 ∷ [])
          ∷ update_with (pos 4 ∷ pos 9 ∷ []) ∷ [];
      bad = None;
    }
script-a_tick = refl

-- what a tick allows isn't seen in a line
script-early : calls_of (1 ∷ 1 ∷ []) 2 (codes "out 1 4\nupdate 4 9")
    ≡ record { calls = out_with 1 (pos 4 ∷ []) ∷ update_with (pos 4 ∷ pos 9 ∷ []) ∷ []; bad = None }
script-early = refl

script-twice : calls_of (1 ∷ 1 ∷ []) 2 (codes "out 1 4\r\nout 1 4\r\n")
    ≡ record { calls = out_with 1 (pos 4 ∷ []) ∷ out_with 1 (pos 4 ∷ []) ∷ []; bad = None }
script-twice = refl

script-other_value : calls_of (1 ∷ 1 ∷ []) 2 (codes "out 1 4\nout 2 9\nupdate 5 9\n")
    ≡ record {
      calls = out_with 1 (pos 4 ∷ []) ∷ out_with 2 (pos 9 ∷ [])
          ∷ update_with (pos 5 ∷ pos 9 ∷ []) ∷ [];
      bad = None;
    }
script-other_value = refl

script-large_value : calls_of (1 ∷ 1 ∷ []) 2 (codes "out 1 2147483648")
    ≡ record { calls = out_with 1 (pos 2147483648 ∷ []) ∷ []; bad = None }
script-large_value = refl

script-no_function : calls_of (1 ∷ 1 ∷ []) 2 (codes "out 3 1")
    ≡ record { calls = []; bad = Some (record { line = 1; why = NoFunction (pos 3) }) }
script-no_function = refl

script-count : calls_of (1 ∷ 1 ∷ []) 2 (codes "out 2 1\nupdate 4\nout 1 4")
    ≡ record {
      calls = out_with 2 (pos 1 ∷ []) ∷ [];
      bad = Some (record { line = 2; why = Count 1 });
    }
script-count = refl

script-empty : calls_of (1 ∷ 1 ∷ []) 2 [] ≡ record { calls = []; bad = None }
script-empty = refl

script-empty_line : calls_of (1 ∷ 1 ∷ []) 2 (codes "\n")
    ≡ record { calls = []; bad = Some (record { line = 1; why = Form }) }
script-empty_line = refl

script-many : calls_behind 4294967295 (1 ∷ 1 ∷ []) 2 (codes "out 1 4" ∷ [])
    ≡ record { calls = []; bad = Some (record { line = 4294967295; why = Many }) }
script-many = refl

script-whole : whole_calls_of (1 ∷ 1 ∷ []) 2 (codes "out 2 9\nout x")
    ≡ record { calls = out_with 2 (pos 9 ∷ []) ∷ []; bad = None }
script-whole = refl

-- a system without inputs, with one function
line-no_inputs : call_of_line (0 ∷ []) 0 (codes "update") ≡ Ok (update_with [])
line-no_inputs = refl

line-no_values : call_of_line (0 ∷ []) 0 (codes "out 1") ≡ Ok (out_with 1 [])
line-no_values = refl

line-blanks : call_of_line (1 ∷ 2 ∷ []) 2 (codes "\t out\t2  -4 \t05 ")
    ≡ Ok (out_with 2 (negsuc 3 ∷ pos 5 ∷ []))
line-blanks = refl

line-no_number : call_of_line (1 ∷ 1 ∷ []) 2 (codes "out") ≡ Err Form
line-no_number = refl

line-other_word : call_of_line (1 ∷ 1 ∷ []) 2 (codes "outx 1") ≡ Err Form
line-other_word = refl

line-negative : call_of_line (1 ∷ 1 ∷ []) 2 (codes "out -1 2") ≡ Err (NoFunction (negsuc 0))
line-negative = refl

line-zero : call_of_line (1 ∷ 1 ∷ []) 2 (codes "out -0 2") ≡ Err (NoFunction (pos 0))
line-zero = refl

-- the form of each number comes before the function's number, and this before the count
line-form : call_of_line (1 ∷ 1 ∷ []) 2 (codes "out 3 1 1 x") ≡ Err Form
line-form = refl

line-digits : call_of_line (1 ∷ 1 ∷ []) 2 (codes "out 99999999999999999999 1") ≡ Err Form
line-digits = refl

line-function_first : call_of_line (1 ∷ 1 ∷ []) 2 (codes "out 3 1 1") ≡ Err (NoFunction (pos 3))
line-function_first = refl

line-too_many_values : call_of_line (1 ∷ 1 ∷ []) 2 (codes "update 1 2 3") ≡ Err (Count 3)
line-too_many_values = refl

line-long : call_of_line (1 ∷ 1 ∷ []) 2 (codes "update 4 9" ++ replicate 4087 32) ≡ Err Long
line-long = refl

line-longest : call_of_line (1 ∷ 1 ∷ []) 2 (codes "update 4 9" ++ replicate 4086 32)
    ≡ Ok (update_with (pos 4 ∷ pos 9 ∷ []))
line-longest = refl
