-- Words that `clap` takes, with what their matches ask for.
use Rattle.std.specs.Prelude.{◌≡◌, refl, true, false, [], ◌∷◌, Some, None, codes}
use Rattle.clap.specs.Words.{subcommand_of, takes}
use Rattle.clap.proofs.OnLiterals.{clap_on_literals}
use Rattle.tool_words.specs.Words.{Compile, Run, Exec, Profile, Drive, Gen, Lustre, Flow}
use Rattle.tool_words.specs.Program.{program, asked_in}

takes-compile : takes program (codes "compile" ∷ codes "a" ∷ codes "b" ∷ []) ≡ true
unfolding clap_on_literals
takes-compile = refl

asked-compile : asked_in (subcommand_of program (codes "compile" ∷ codes "a" ∷ codes "b" ∷ []))
    ≡ Some (Compile (codes "a") (codes "b"))
unfolding clap_on_literals
asked-compile = refl

asked-run : asked_in (subcommand_of program (codes "run" ∷ codes "a" ∷ codes "b" ∷ codes "a" ∷ []))
    ≡ Some (Run (codes "a") (codes "b") (codes "a"))
unfolding clap_on_literals
asked-run = refl

asked-exec : asked_in (subcommand_of program (codes "exec" ∷ codes "run" ∷ codes "help" ∷ []))
    ≡ Some (Exec (codes "run") (codes "help"))
unfolding clap_on_literals
asked-exec = refl

asked-profile : asked_in (subcommand_of program (codes "profile" ∷ codes "a" ∷ []))
    ≡ Some (Profile (codes "a"))
unfolding clap_on_literals
asked-profile = refl

asked-drive : asked_in (subcommand_of program
    (codes "drive" ∷ codes "a" ∷ codes "b" ∷ codes "top" ∷ codes "a" ∷ []))
    ≡ Some (Drive (codes "a") (codes "b") (codes "top") (codes "a"))
unfolding clap_on_literals
asked-drive = refl

asked-drive_named_so : asked_in (subcommand_of program
    (codes "drive" ∷ codes "drive" ∷ codes "gen" ∷ codes "1" ∷ codes "run" ∷ []))
    ≡ Some (Drive (codes "drive") (codes "gen") (codes "1") (codes "run"))
unfolding clap_on_literals
asked-drive_named_so = refl

asked-gen : asked_in
    (subcommand_of program (codes "gen" ∷ codes "2147483646" ∷ codes "2499" ∷ codes "a" ∷ codes "b"
    ∷ [])) ≡ Some (Gen 2_147_483_646 2_499 (codes "a") (codes "b"))
unfolding clap_on_literals
asked-gen = refl

asked-lustre : asked_in (subcommand_of program (codes "lustre" ∷ codes "a" ∷ codes "b" ∷ []))
    ≡ Some (Lustre (codes "a") (codes "b"))
unfolding clap_on_literals
asked-lustre = refl

asked-flow : asked_in (subcommand_of program (codes "flow" ∷ codes "lustre" ∷ codes "a" ∷ []))
    ≡ Some (Flow (codes "lustre") (codes "a"))
unfolding clap_on_literals
asked-flow = refl

-- `clap` takes some words that are not lawful

takes-same : takes program (codes "compile" ∷ codes "a" ∷ codes "a" ∷ []) ≡ true
unfolding clap_on_literals
takes-same = refl

takes-flow_same : takes program (codes "flow" ∷ codes "a" ∷ codes "a" ∷ []) ≡ true
unfolding clap_on_literals
takes-flow_same = refl

takes-empty : takes program (codes "exec" ∷ [] ∷ codes "a" ∷ []) ≡ true
unfolding clap_on_literals
takes-empty = refl

takes-none : takes program [] ≡ false
unfolding clap_on_literals
takes-none = refl

takes-help : takes program (codes "help" ∷ []) ≡ false
unfolding clap_on_literals
takes-help = refl

takes-dash : takes program (codes "compile" ∷ codes "a" ∷ codes "-c" ∷ []) ≡ false
unfolding clap_on_literals
takes-dash = refl

takes-more : takes program (codes "compile" ∷ codes "a" ∷ codes "b" ∷ codes "c" ∷ []) ≡ false
unfolding clap_on_literals
takes-more = refl

takes-drive_over_model : takes program
    (codes "drive" ∷ codes "a" ∷ codes "a" ∷ codes "top" ∷ codes "c" ∷ []) ≡ true
unfolding clap_on_literals
takes-drive_over_model = refl

takes-drive_over_script : takes program
    (codes "drive" ∷ codes "a" ∷ codes "b" ∷ codes "top" ∷ codes "b" ∷ []) ≡ true
unfolding clap_on_literals
takes-drive_over_script = refl

takes-drive_short : takes program
    (codes "drive" ∷ codes "a" ∷ codes "b" ∷ codes "top" ∷ []) ≡ false
unfolding clap_on_literals
takes-drive_short = refl

takes-drive_long : takes program
    (codes "drive" ∷ codes "a" ∷ codes "b" ∷ codes "top" ∷ codes "c" ∷ codes "d" ∷ []) ≡ false
unfolding clap_on_literals
takes-drive_long = refl

takes-drive_dash : takes program
    (codes "drive" ∷ codes "a" ∷ codes "b" ∷ codes "-1" ∷ codes "c" ∷ []) ≡ false
unfolding clap_on_literals
takes-drive_dash = refl

takes-gen_same : takes program (codes "gen" ∷ codes "1" ∷ codes "1" ∷ codes "a" ∷ codes "a" ∷ [])
    ≡ true
unfolding clap_on_literals
takes-gen_same = refl

takes-gen_no_number : takes program (codes "gen" ∷ codes "x" ∷ codes "01" ∷ codes "a" ∷ codes "b"
    ∷ []) ≡ true
unfolding clap_on_literals
takes-gen_no_number = refl

asked-gen_no_number : asked_in
    (subcommand_of program (codes "gen" ∷ codes "x" ∷ codes "1" ∷ codes "a" ∷ codes "b" ∷ []))
    ≡ None
unfolding clap_on_literals
asked-gen_no_number = refl

takes-gen_short : takes program (codes "gen" ∷ codes "1" ∷ codes "1" ∷ codes "a" ∷ []) ≡ false
unfolding clap_on_literals
takes-gen_short = refl

takes-profile_dash : takes program (codes "profile" ∷ codes "-a" ∷ []) ≡ false
unfolding clap_on_literals
takes-profile_dash = refl
