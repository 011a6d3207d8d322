-- The program as `clap` knows it, and what its matches ask for.
use Rattle.std.specs.Prelude.{◌≡◌, true, false, if◌then◌else◌, List, [], ◌∷◌, map, fold, Option, Some, None, bytes_eq, codes}
use Rattle.clap.specs.Words.{App, Row, Rule, Shape, Text, first_of, new_app, new_rule, shape_of, with_subcommand}
use Rattle.clap.specs.declared.builder.command.Command.{Command}
use Rattle.clap.specs.declared.builder.command.Command.TheViews.{out-Command as fields_of}
use Rattle.tool_words.specs.Words.{Asked, Compile, Run, Exec, Profile, Drive, Lustre, Flow, number_up_to, greatest_start, greatest_size, gen_by}
use denote.Ref.{Bor}

-- an argument by its place, which has to be there
abbrev pub argument : Text → Rule
argument name = record (new_rule name) { required = true }

-- a command that takes these arguments
abbrev pub with_arguments : Text → List Text → Shape
with_arguments name arguments = record (new_app name).top { rules = map argument arguments }

abbrev pub compile : Shape
compile = with_arguments (codes "compile") (codes "MODEL" ∷ codes "CODE" ∷ [])

abbrev pub run : Shape
run = with_arguments (codes "run") (codes "MODEL" ∷ codes "CODE" ∷ codes "TRACE" ∷ [])

abbrev pub exec : Shape
exec = with_arguments (codes "exec") (codes "CODE" ∷ codes "TRACE" ∷ [])

abbrev pub profile : Shape
profile = with_arguments (codes "profile") (codes "MODEL" ∷ [])

abbrev pub drive : Shape
drive = with_arguments (codes "drive")
    (codes "MODEL" ∷ codes "CODE" ∷ codes "SUBSYSTEM" ∷ codes "SCRIPT" ∷ [])

abbrev pub gen : Shape
gen =
    with_arguments (codes "gen") (codes "START" ∷ codes "SIZE" ∷ codes "MODEL" ∷ codes "CODE" ∷ [])

abbrev pub lustre : Shape
lustre = with_arguments (codes "lustre") (codes "MODEL" ∷ codes "FILE" ∷ [])

abbrev pub flow : Shape
flow = with_arguments (codes "flow") (codes "FILE" ∷ codes "TRACE" ∷ [])

-- the program without its commands
abbrev pub bare : App
bare = record {
  top = record (new_app (codes "mdlc")).top {
    no_binary_name = true;
    disable_help_flag = true;
    disable_help_subcommand = true;
    disable_version_flag = true;
    subcommand_required = true;
  };
  subs = [];
}

-- the program with a further command, by its name and the names of its arguments
abbrev pub with_command : App → Text × List Text → App
with_command a command = with_subcommand a (with_arguments command.0 command.1)

abbrev pub with_commands : List (Text × List Text) → App
with_commands commands = fold with_command bare commands

-- texts, and commands by their names and arguments, behind references
abbrev pub texts : List (Bor Text) → List Text
texts names = map (λ (name : Bor Text). name.now) names

abbrev pub command_texts : Bor Text × Bor (List (Bor Text)) → Text × List Text
command_texts command = (command.0.now, texts command.1.now)

abbrev pub program : App
program = record {
  top = record bare.top { is_leaf = false };
  subs = compile ∷ run ∷ exec ∷ profile ∷ drive ∷ gen ∷ lustre ∷ flow ∷ [];
}

-- a command of this shape, which has no argument for its subcommands
abbrev pub IsSubcommand : Command → Shape → Type 0
IsSubcommand c s = (shape_of c ≡ s) × ((fields_of c).has_globals ≡ false)

-- ---- What matches ask for

abbrev pub compile_of : Option Text → Option Text → Option Asked
compile_of (Some model) (Some code) = Some (Compile model code)
compile_of None _ = None
compile_of (Some model) None = None

abbrev pub run_of : Option Text → Option Text → Option Text → Option Asked
run_of (Some model) (Some code) (Some trace) = Some (Run model code trace)
run_of None _ _ = None
run_of (Some model) None _ = None
run_of (Some model) (Some code) None = None

abbrev pub exec_of : Option Text → Option Text → Option Asked
exec_of (Some code) (Some trace) = Some (Exec code trace)
exec_of None _ = None
exec_of (Some code) None = None

abbrev pub profile_of : Option Text → Option Asked
profile_of (Some model) = Some (Profile model)
profile_of None = None

abbrev pub drive_of : (model code subsystem script : Option Text) → Option Asked
drive_of (Some model) (Some code) (Some subsystem) (Some script) =
    Some (Drive model code subsystem script)
drive_of None _ _ _ = None
drive_of (Some model) None _ _ = None
drive_of (Some model) (Some code) None _ = None
drive_of (Some model) (Some code) (Some subsystem) None = None

abbrev pub gen_of : (start size model code : Option Text) → Option Asked
gen_of (Some start) (Some size) (Some model) (Some code) =
    gen_by (number_up_to greatest_start start) (number_up_to greatest_size size) model code
gen_of None _ _ _ = None
gen_of (Some start) None _ _ = None
gen_of (Some start) (Some size) None _ = None
gen_of (Some start) (Some size) (Some model) None = None

abbrev pub lustre_of : Option Text → Option Text → Option Asked
lustre_of (Some model) (Some file) = Some (Lustre model file)
lustre_of None _ = None
lustre_of (Some model) None = None

abbrev pub flow_of : Option Text → Option Text → Option Asked
flow_of (Some file) (Some trace) = Some (Flow file trace)
flow_of None _ = None
flow_of (Some file) None = None

-- what a command of this name asks for, with the values of its arguments
abbrev pub asked_of : Text → (Text → Option Text) → Option Asked
asked_of name value =
    if bytes_eq name (codes "compile")
    then compile_of (value (codes "MODEL")) (value (codes "CODE"))
    else if bytes_eq name (codes "run") then run_of (value (codes "MODEL")) (value (codes "CODE"))
    (value (codes "TRACE"))
    else if bytes_eq name (codes "exec") then exec_of (value (codes "CODE")) (value (codes "TRACE"))
    else if bytes_eq name (codes "profile") then profile_of (value (codes "MODEL"))
    else if bytes_eq name (codes "drive")
    then drive_of (value (codes "MODEL")) (value (codes "CODE")) (value (codes "SUBSYSTEM"))
    (value (codes "SCRIPT"))
    else if bytes_eq name (codes "gen")
    then gen_of (value (codes "START")) (value (codes "SIZE")) (value (codes "MODEL"))
    (value (codes "CODE"))
    else if bytes_eq name (codes "lustre")
    then lustre_of (value (codes "MODEL")) (value (codes "FILE"))
    else if bytes_eq name (codes "flow") then flow_of (value (codes "FILE")) (value (codes "TRACE"))
    else None

-- what the subcommand that was met asks for
abbrev pub asked_in : Option (Text × List Row) → Option Asked
asked_in None = None
asked_in (Some met) = asked_of met.0 (λ id. first_of id met.1)
