-- Words of command lines.
use Rattle.std.specs.Prelude.{◌≡◌, refl, List, ℕ, [], ◌∷◌, Option, Some, None, codes}
use Rattle.tool_words.specs.Words.{Asked, asked_by, number_up_to, greatest_start, greatest_size, Compile, Run, Exec, Profile, Drive, Gen, Lustre, Flow}

words-none : asked_by [] ≡ None
words-none = refl

words-short : asked_by (codes "compile" ∷ codes "a" ∷ []) ≡ None
words-short = refl

words-long : asked_by (codes "compile" ∷ codes "a" ∷ codes "b" ∷ codes "c" ∷ []) ≡ None
words-long = refl

words-same : asked_by (codes "compile" ∷ codes "a" ∷ codes "a" ∷ []) ≡ None
words-same = refl

words-help : asked_by (codes "help" ∷ []) ≡ None
words-help = refl

words-unknown : asked_by (codes "comp" ∷ codes "a" ∷ codes "b" ∷ []) ≡ None
words-unknown = refl

words-dash : asked_by (codes "compile" ∷ codes "a" ∷ codes "-c" ∷ []) ≡ None
words-dash = refl

words-ends : asked_by (codes "compile" ∷ codes "--" ∷ codes "b" ∷ []) ≡ None
words-ends = refl

words-empty : asked_by (codes "compile" ∷ codes "a" ∷ [] ∷ []) ≡ None
words-empty = refl

words-compile : asked_by (codes "compile" ∷ codes "a" ∷ codes "b" ∷ [])
    ≡ Some (Compile (codes "a") (codes "b"))
words-compile = refl

words-run : asked_by (codes "run" ∷ codes "a" ∷ codes "b" ∷ codes "c" ∷ [])
    ≡ Some (Run (codes "a") (codes "b") (codes "c"))
words-run = refl

words-run_by_the_model : asked_by (codes "run" ∷ codes "a" ∷ codes "b" ∷ codes "a" ∷ [])
    ≡ Some (Run (codes "a") (codes "b") (codes "a"))
words-run_by_the_model = refl

words-run_over_model : asked_by (codes "run" ∷ codes "a" ∷ codes "a" ∷ codes "b" ∷ []) ≡ None
words-run_over_model = refl

words-run_over_trace : asked_by (codes "run" ∷ codes "a" ∷ codes "b" ∷ codes "b" ∷ []) ≡ None
words-run_over_trace = refl

words-exec : asked_by (codes "exec" ∷ codes "a" ∷ codes "b" ∷ [])
    ≡ Some (Exec (codes "a") (codes "b"))
words-exec = refl

words-exec_by_the_code : asked_by (codes "exec" ∷ codes "a" ∷ codes "a" ∷ [])
    ≡ Some (Exec (codes "a") (codes "a"))
words-exec_by_the_code = refl

words-named_run : asked_by (codes "compile" ∷ codes "run" ∷ codes "help" ∷ [])
    ≡ Some (Compile (codes "run") (codes "help"))
words-named_run = refl

words-profile : asked_by (codes "profile" ∷ codes "a" ∷ []) ≡ Some (Profile (codes "a"))
words-profile = refl

words-profile_short : asked_by (codes "profile" ∷ []) ≡ None
words-profile_short = refl

words-profile_long : asked_by (codes "profile" ∷ codes "a" ∷ codes "b" ∷ []) ≡ None
words-profile_long = refl

words-profile_dash : asked_by (codes "profile" ∷ codes "-a" ∷ []) ≡ None
words-profile_dash = refl

-- the words of `drive`, with a model `a`
abbrev drive : (code subsystem script : List ℕ) → Option Asked
drive code subsystem script =
    asked_by (codes "drive" ∷ codes "a" ∷ code ∷ subsystem ∷ script ∷ [])

words-drive : drive (codes "b") (codes "top") (codes "c")
    ≡ Some (Drive (codes "a") (codes "b") (codes "top") (codes "c"))
words-drive = refl

words-drive_by_the_model : drive (codes "b") (codes "1") (codes "a")
    ≡ Some (Drive (codes "a") (codes "b") (codes "1") (codes "a"))
words-drive_by_the_model = refl

words-drive_subsystem_named_as_code : drive (codes "b") (codes "b") (codes "c")
    ≡ Some (Drive (codes "a") (codes "b") (codes "b") (codes "c"))
words-drive_subsystem_named_as_code = refl

words-drive_named_so : drive (codes "drive") (codes "10") (codes "run")
    ≡ Some (Drive (codes "a") (codes "drive") (codes "10") (codes "run"))
words-drive_named_so = refl

words-drive_over_model : drive (codes "a") (codes "top") (codes "c") ≡ None
words-drive_over_model = refl

words-drive_over_script : drive (codes "b") (codes "top") (codes "b") ≡ None
words-drive_over_script = refl

words-drive_all_one : drive (codes "a") (codes "top") (codes "a") ≡ None
words-drive_all_one = refl

words-drive_dash : drive (codes "b") (codes "-1") (codes "c") ≡ None
words-drive_dash = refl

words-drive_empty : drive (codes "b") [] (codes "c") ≡ None
words-drive_empty = refl

words-drive_short : asked_by (codes "drive" ∷ codes "a" ∷ codes "b" ∷ codes "top" ∷ []) ≡ None
words-drive_short = refl

words-drive_long : asked_by
    (codes "drive" ∷ codes "a" ∷ codes "b" ∷ codes "top" ∷ codes "c" ∷ codes "d" ∷ []) ≡ None
words-drive_long = refl

-- the words of `gen`, with a model `a`
abbrev gen : (start size code : List ℕ) → Option Asked
gen start size code = asked_by (codes "gen" ∷ start ∷ size ∷ codes "a" ∷ code ∷ [])

words-gen : gen (codes "1") (codes "2") (codes "b") ≡ Some (Gen 1 2 (codes "a") (codes "b"))
words-gen = refl

words-gen_greatest : gen (codes "2147483646") (codes "2499") (codes "b")
    ≡ Some (Gen 2_147_483_646 2_499 (codes "a") (codes "b"))
words-gen_greatest = refl

words-gen_named_so : gen (codes "10") (codes "200") (codes "gen")
    ≡ Some (Gen 10 200 (codes "a") (codes "gen"))
words-gen_named_so = refl

words-gen_same : gen (codes "1") (codes "1") (codes "a") ≡ None
words-gen_same = refl

words-gen_start_of_nothing : gen (codes "0") (codes "1") (codes "b") ≡ None
words-gen_start_of_nothing = refl

words-gen_size_of_nothing : gen (codes "1") (codes "0") (codes "b") ≡ None
words-gen_size_of_nothing = refl

words-gen_leading_zero : gen (codes "01") (codes "1") (codes "b") ≡ None
words-gen_leading_zero = refl

words-gen_size_with_leading_zero : gen (codes "1") (codes "01") (codes "b") ≡ None
words-gen_size_with_leading_zero = refl

words-gen_start_beyond : gen (codes "2147483647") (codes "1") (codes "b") ≡ None
words-gen_start_beyond = refl

words-gen_size_beyond : gen (codes "1") (codes "2500") (codes "b") ≡ None
words-gen_size_beyond = refl

words-gen_long_start : gen (codes "12345678901") (codes "1") (codes "b") ≡ None
words-gen_long_start = refl

words-gen_no_number : gen (codes "x") (codes "1") (codes "b") ≡ None
words-gen_no_number = refl

words-gen_sign : gen (codes "+1") (codes "1") (codes "b") ≡ None
words-gen_sign = refl

words-gen_short : asked_by (codes "gen" ∷ codes "1" ∷ codes "1" ∷ codes "a" ∷ []) ≡ None
words-gen_short = refl

words-gen_long : asked_by (codes "gen" ∷ codes "1" ∷ codes "1" ∷ codes "a" ∷ codes "b" ∷ codes "c"
    ∷ []) ≡ None
words-gen_long = refl

words-lustre : asked_by (codes "lustre" ∷ codes "a" ∷ codes "b" ∷ [])
    ≡ Some (Lustre (codes "a") (codes "b"))
words-lustre = refl

words-lustre_same : asked_by (codes "lustre" ∷ codes "a" ∷ codes "a" ∷ []) ≡ None
words-lustre_same = refl

words-lustre_short : asked_by (codes "lustre" ∷ codes "a" ∷ []) ≡ None
words-lustre_short = refl

words-lustre_long : asked_by (codes "lustre" ∷ codes "a" ∷ codes "b" ∷ codes "c" ∷ []) ≡ None
words-lustre_long = refl

words-flow : asked_by (codes "flow" ∷ codes "a" ∷ codes "b" ∷ [])
    ≡ Some (Flow (codes "a") (codes "b"))
words-flow = refl

words-flow_named_so : asked_by (codes "flow" ∷ codes "lustre" ∷ codes "flow" ∷ [])
    ≡ Some (Flow (codes "lustre") (codes "flow"))
words-flow_named_so = refl

words-flow_same : asked_by (codes "flow" ∷ codes "a" ∷ codes "a" ∷ []) ≡ None
words-flow_same = refl

words-flow_dash : asked_by (codes "flow" ∷ codes "a" ∷ codes "-b" ∷ []) ≡ None
words-flow_dash = refl

words-flows : asked_by (codes "flows" ∷ codes "a" ∷ codes "b" ∷ []) ≡ None
words-flows = refl

-- ---- Numbers

start-least : number_up_to greatest_start (codes "1") ≡ Some 1
start-least = refl

start-greatest : number_up_to greatest_start (codes "2147483646") ≡ Some 2_147_483_646
start-greatest = refl

size-greatest : number_up_to greatest_size (codes "2499") ≡ Some 2_499
size-greatest = refl

size-digit_and_letter : number_up_to greatest_size (codes "24x") ≡ None
size-digit_and_letter = refl

size-blank : number_up_to greatest_size (codes "24 ") ≡ None
size-blank = refl
