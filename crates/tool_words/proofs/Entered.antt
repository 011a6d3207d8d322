-- The program when `clap` built it, and a walk that meets one of its commands.
use Rattle.std.proofs.Common.{◌≡◌, ◌∙◌, ◌&&◌, ◌++◌, ℕ, Bool, true, false, refl, sym, ap, ap₂, append-nil, append_assoc, List, [], ◌∷◌, Option, Some, None, codes}
use Rattle.std.specs.Prelude.{find, fold, is_some, option_map}
use Rattle.std.specs.List.{list_all}
use Rattle.std.specs.Option.{option_map_or}
use Rattle.clap.specs.Simple.{App, Shape, built, entered, is_simple, label_of, names_of, rows_at, subcommand_of}
use Rattle.clap.specs.Walk.{Names, Rule, Text, Walk, answers_to, finished, idle, nothing_held, stop_after, walk, walk_from, walked}
use Rattle.clap.specs.Takes.{built_takes, default_passes, entered_passes, is_valid, level_passes, settle_passes, takes, turn_passes, walk_passes}
use Rattle.clap.specs.declared.builder.action.ArgAction.TheVariants.{Set}
use Rattle.clap.specs.declared.builder.value_parser.ValueParser.TheVariants as vp
use Rattle.clap.proofs.OnLiterals.{clap_on_literals}
use Rattle.tool_words.specs.Program.{program}

abbrev pub argument_at : ℕ → Text → Rule
argument_at index name = record {
  id = name;
  long = None;
  aliases = [];
  short = None;
  short_aliases = [];
  index = Some index;
  action = Some Set;
  range = Some (record { start_inclusive = 1; end_inclusive = 1 });
  value_names = 0;
  defaults = [];
  missing = [];
  trailing_var_arg = false;
  parser = Some vp.String;
  ignore_case = false;
  required = true;
  is_simple = true;
  is_free = true;
}

abbrev pub shape : Text → List Rule → Bool → Shape
shape name rules is_leaf = record {
  name = name;
  aliases = [];
  rules = rules;
  is_plain = true;
  is_leaf = is_leaf;
  no_binary_name = true;
  disable_help_flag = true;
  disable_help_subcommand = true;
  disable_version_flag = true;
  propagate_version = false;
  has_version = false;
  has_long_version = false;
  args_override_self = false;
  arg_required_else_help = false;
  subcommand_required = false;
  subcommand_negates_reqs = false;
  is_built = true;
}

abbrev pub compile : Shape
compile = shape (codes "compile") (argument_at 1 (codes "MODEL") ∷ argument_at 2 (codes "CODE") ∷ []) true

abbrev pub run : Shape
run = shape (codes "run") (argument_at 1 (codes "MODEL") ∷ argument_at 2 (codes "CODE") ∷ argument_at 3 (codes "TRACE") ∷ []) true

abbrev pub exec : Shape
exec = shape (codes "exec") (argument_at 1 (codes "CODE") ∷ argument_at 2 (codes "TRACE") ∷ []) true

abbrev pub profile : Shape
profile = shape (codes "profile") (argument_at 1 (codes "MODEL") ∷ []) true

abbrev pub drive : Shape
drive = shape (codes "drive")
    (argument_at 1 (codes "MODEL") ∷ argument_at 2 (codes "CODE") ∷ argument_at 3 (codes "SUBSYSTEM") ∷ argument_at 4 (codes "SCRIPT") ∷ [])
    true

abbrev pub gen : Shape
gen = shape (codes "gen") (argument_at 1 (codes "START") ∷ argument_at 2 (codes "SIZE") ∷ argument_at 3 (codes "MODEL")
    ∷ argument_at 4 (codes "CODE") ∷ []) true

abbrev pub lustre : Shape
lustre = shape (codes "lustre") (argument_at 1 (codes "MODEL") ∷ argument_at 2 (codes "FILE") ∷ []) true

abbrev pub flow : Shape
flow = shape (codes "flow") (argument_at 1 (codes "FILE") ∷ argument_at 2 (codes "TRACE") ∷ []) true

abbrev pub top : Shape
top = record (shape (codes "mdlc") [] false) { subcommand_required = true }

abbrev pub ready : App
ready = record { top = top; subs = compile ∷ run ∷ exec ∷ profile ∷ drive ∷ gen ∷ lustre ∷ flow ∷ [] }

is_ready : built program ≡ ready
is_ready = refl

is_plain : is_simple program ≡ true
is_plain = refl

abbrev pub names : Names
names = names_of ready

-- the walk met a command of this name, with these words after it
abbrev pub stopped_at : Text → List Text → Walk
stopped_at name words = record { held = nothing_held; waiting = idle; position = 1; is_trailing = false; stopped = Some (name, words) }

stays : (name : Text) (rest seen : List Text) → fold (walked [] names) (stopped_at name seen) rest ≡ stopped_at name (seen ++ rest)
unfolding walked
stays name [] seen = ap (stopped_at name) (sym (append-nil seen))
stays name (word ∷ rest) seen = stays name rest (seen ++ word ∷ []) ∙ ap (stopped_at name) (append_assoc seen (word ∷ []) rest)

passes_on : (name : Text) (rest seen : List Text) → walk_passes top names (stopped_at name seen) rest ≡ true
unfolding walked walk_passes
passes_on name [] seen = refl
passes_on name (word ∷ rest) seen = passes_on name rest (seen ++ word ∷ [])

-- a word that names a command of this shape
pub record Meets (name : Text) (s : Shape) : Type 0 where
  pub walk : walked [] names (walk_from nothing_held) name ≡ stopped_at name []
  pub turn : turn_passes top names (walk_from nothing_held) name ≡ true
  pub found : find (λ x. answers_to name (label_of x)) ready.subs ≡ Some s

module _ (name : Text) (s : Shape) (meets : Meets name s) (rest : List Text) where
  walk_is : walk [] names nothing_held (name ∷ rest) ≡ stopped_at name rest
  walk_is = ap (λ w. fold (walked [] names) w rest) meets.walk ∙ stays name rest []

  pass_is : walk_passes top names (walk_from nothing_held) (name ∷ rest) ≡ true
  unfolding walk_passes
  pass_is = ap₂ (λ b w. b && walk_passes top names w rest) meets.turn meets.walk ∙ passes_on name rest []

  abbrev level_of : Bool → Walk → Bool
  level_of passes w = entered_passes ready w.stopped && (passes && (settle_passes [] false w.held
      && (list_all default_passes [] && is_valid top (finished [] w.held) (is_some (entered ready w.stopped)))))

  abbrev level_by : Option Shape → Bool
  level_by o = option_map_or (λ x. level_passes x [] nothing_held rest false) o true
      && is_valid top [] (is_some (option_map (λ x. rows_at x rest) o))

  built_level : built_takes ready nothing_held (name ∷ rest) ≡ level_by (Some s)
  built_level = ap₂ level_of pass_is walk_is ∙ ap level_by meets.found

  pub meets_takes : level_passes s [] nothing_held rest false ≡ true → takes program (name ∷ rest) ≡ true
  meets_takes level = ap₂ (λ b a. b && built_takes a nothing_held (name ∷ rest)) is_plain is_ready ∙ built_level ∙ ap (λ b. b && true) level

  pub meets_rows : subcommand_of program (name ∷ rest) ≡ Some (rows_at s rest)
  meets_rows =
      ap (λ a. entered a (stop_after a.top.rules (names_of a) (name ∷ rest))) is_ready
      ∙ ap (λ w. entered ready w.stopped) walk_is ∙ ap (option_map (λ x. rows_at x rest)) meets.found

pub meets_compile : Meets (codes "compile") compile
unfolding clap_on_literals
meets_compile = record { walk = refl; turn = refl; found = refl }

pub meets_run : Meets (codes "run") run
unfolding clap_on_literals
meets_run = record { walk = refl; turn = refl; found = refl }

pub meets_exec : Meets (codes "exec") exec
unfolding clap_on_literals
meets_exec = record { walk = refl; turn = refl; found = refl }

pub meets_profile : Meets (codes "profile") profile
unfolding clap_on_literals
meets_profile = record { walk = refl; turn = refl; found = refl }

pub meets_drive : Meets (codes "drive") drive
unfolding clap_on_literals
meets_drive = record { walk = refl; turn = refl; found = refl }

pub meets_gen : Meets (codes "gen") gen
unfolding clap_on_literals
meets_gen = record { walk = refl; turn = refl; found = refl }

pub meets_lustre : Meets (codes "lustre") lustre
unfolding clap_on_literals
meets_lustre = record { walk = refl; turn = refl; found = refl }

pub meets_flow : Meets (codes "flow") flow
unfolding clap_on_literals
meets_flow = record { walk = refl; turn = refl; found = refl }
