-- Words that ask for something are taken by `clap`, and its matches ask for the same.
use Rattle.std.proofs.Common.{◌≡◌, ◌∙◌, ◌&&◌, Bool, true, false, refl, sym, ap, subst, true≢false, List, [], ◌∷◌, Option, Some, None, codes}
use Rattle.std.specs.Prelude.{is_some, if◌then◌else◌}
use Rattle.std.specs.List.{list_all}
use Rattle.std.specs.Str.{bytes_eq}
use Rattle.std.proofs.lemmas.Slice.Eq.{bytes_eq-Decides}
use Rattle.clap.specs.Values.{reading_of}
use Rattle.clap.specs.Walk.{Held, Row, nothing_held}
use Rattle.clap.specs.Words.{Text, subcommand_of, takes}
use Rattle.clap.specs.declared.builder.value_parser.ValueParser.TheVariants as vp
use Rattle.clap.specs.declared.parser.matches.ValueSource.TheVariants.{CommandLine}
use Rattle.tool_words.specs.Words.{Asked, Compile, Run, Exec, Profile, Drive, Lustre, Flow, is_word, differ, number_up_to, greatest_start, greatest_size, gen_by, with_one, with_two, with_three, with_four, command_with, asked_by}
use Rattle.tool_words.specs.Program.{program, asked_in}
use Rattle.tool_words.proofs.Entered.{compile, run, exec, profile, drive, gen, lustre, flow, meets_compile, meets_run, meets_exec, meets_profile, meets_drive, meets_gen, meets_lustre, meets_flow, meets_takes, meets_rows}
use Rattle.tool_words.proofs.Steps.{Goes, goes_level, goes_rows}

-- `clap` takes the words, and its matches ask for this
abbrev pub Serves : List Text → Option Asked → Type 0
Serves words o = (takes program words ≡ true) × (asked_in (subcommand_of program words) ≡ o)

abbrev row : Text → Text → Row
row name word = record { id = name; values = word ∷ []; count = None; source = Some CommandLine; reading = reading_of vp.String }

-- rows of arguments that were read, and one that is being read
abbrev held : List Row → Text → Text → Held
held rows name word = record { rows = rows; pending = Some (name, word ∷ []); skip = 0 }

serves_compile : (model code : Text) → is_word model ≡ true → is_word code ≡ true
    → Serves (codes "compile" ∷ model ∷ code ∷ []) (Some (Compile model code))
serves_compile model code m c =
    let words = model ∷ code ∷ [] in
    let first = held [] (codes "MODEL") model in
    let second = held (row (codes "MODEL") model ∷ []) (codes "CODE") code in
    let goes : Goes compile nothing_held 1 words second = (first, m, refl, refl, (second, c, refl, refl, refl)) in (
      meets_takes (codes "compile") compile meets_compile words (goes_level compile words second goes refl),
      ap asked_in (meets_rows (codes "compile") compile meets_compile words)
          ∙ ap (λ rows. asked_in (Some (codes "compile", rows))) (goes_rows compile words second goes),
    )

serves_lustre : (model file : Text) → is_word model ≡ true → is_word file ≡ true
    → Serves (codes "lustre" ∷ model ∷ file ∷ []) (Some (Lustre model file))
serves_lustre model file m f =
    let words = model ∷ file ∷ [] in
    let first = held [] (codes "MODEL") model in
    let second = held (row (codes "MODEL") model ∷ []) (codes "FILE") file in
    let goes : Goes lustre nothing_held 1 words second = (first, m, refl, refl, (second, f, refl, refl, refl)) in (
      meets_takes (codes "lustre") lustre meets_lustre words (goes_level lustre words second goes refl),
      ap asked_in (meets_rows (codes "lustre") lustre meets_lustre words)
          ∙ ap (λ rows. asked_in (Some (codes "lustre", rows))) (goes_rows lustre words second goes),
    )

serves_flow : (file trace : Text) → is_word file ≡ true → is_word trace ≡ true
    → Serves (codes "flow" ∷ file ∷ trace ∷ []) (Some (Flow file trace))
serves_flow file trace f t =
    let words = file ∷ trace ∷ [] in
    let first = held [] (codes "FILE") file in
    let second = held (row (codes "FILE") file ∷ []) (codes "TRACE") trace in
    let goes : Goes flow nothing_held 1 words second = (first, f, refl, refl, (second, t, refl, refl, refl)) in (
      meets_takes (codes "flow") flow meets_flow words (goes_level flow words second goes refl),
      ap asked_in (meets_rows (codes "flow") flow meets_flow words)
          ∙ ap (λ rows. asked_in (Some (codes "flow", rows))) (goes_rows flow words second goes),
    )

serves_run : (model code trace : Text) → is_word model ≡ true → is_word code ≡ true → is_word trace ≡ true
    → Serves (codes "run" ∷ model ∷ code ∷ trace ∷ []) (Some (Run model code trace))
serves_run model code trace m c t =
    let words = model ∷ code ∷ trace ∷ [] in
    let first = held [] (codes "MODEL") model in
    let second = held (row (codes "MODEL") model ∷ []) (codes "CODE") code in
    let third = held (row (codes "MODEL") model ∷ row (codes "CODE") code ∷ []) (codes "TRACE") trace in
    let goes : Goes run nothing_held 1 words third = (first, m, refl, refl, (second, c, refl, refl, (third, t, refl, refl, refl))) in (
      meets_takes (codes "run") run meets_run words (goes_level run words third goes refl),
      ap asked_in (meets_rows (codes "run") run meets_run words)
          ∙ ap (λ rows. asked_in (Some (codes "run", rows))) (goes_rows run words third goes),
    )

serves_exec : (code trace : Text) → is_word code ≡ true → is_word trace ≡ true
    → Serves (codes "exec" ∷ code ∷ trace ∷ []) (Some (Exec code trace))
serves_exec code trace c t =
    let words = code ∷ trace ∷ [] in
    let first = held [] (codes "CODE") code in
    let second = held (row (codes "CODE") code ∷ []) (codes "TRACE") trace in
    let goes : Goes exec nothing_held 1 words second = (first, c, refl, refl, (second, t, refl, refl, refl)) in (
      meets_takes (codes "exec") exec meets_exec words (goes_level exec words second goes refl),
      ap asked_in (meets_rows (codes "exec") exec meets_exec words)
          ∙ ap (λ rows. asked_in (Some (codes "exec", rows))) (goes_rows exec words second goes),
    )

serves_profile : (model : Text) → is_word model ≡ true → Serves (codes "profile" ∷ model ∷ []) (Some (Profile model))
serves_profile model m =
    let words = model ∷ [] in
    let first = held [] (codes "MODEL") model in
    let goes : Goes profile nothing_held 1 words first = (first, m, refl, refl, refl) in (
      meets_takes (codes "profile") profile meets_profile words (goes_level profile words first goes refl),
      ap asked_in (meets_rows (codes "profile") profile meets_profile words)
          ∙ ap (λ rows. asked_in (Some (codes "profile", rows))) (goes_rows profile words first goes),
    )

serves_drive : (model code subsystem script : Text) → is_word model ≡ true → is_word code ≡ true → is_word subsystem ≡ true
    → is_word script ≡ true → Serves (codes "drive" ∷ model ∷ code ∷ subsystem ∷ script ∷ []) (Some (Drive model code subsystem script))
serves_drive model code subsystem script m c b s =
    let words = model ∷ code ∷ subsystem ∷ script ∷ [] in
    let first = held [] (codes "MODEL") model in
    let second = held (row (codes "MODEL") model ∷ []) (codes "CODE") code in
    let third = held (row (codes "MODEL") model ∷ row (codes "CODE") code ∷ []) (codes "SUBSYSTEM") subsystem in
    let rows = row (codes "MODEL") model ∷ row (codes "CODE") code ∷ row (codes "SUBSYSTEM") subsystem ∷ [] in
    let fourth = held rows (codes "SCRIPT") script in
    let goes : Goes drive nothing_held 1 words fourth =
    (first, m, refl, refl, (second, c, refl, refl, (third, b, refl, refl, (fourth, s, refl, refl, refl)))) in (
      meets_takes (codes "drive") drive meets_drive words (goes_level drive words fourth goes refl),
      ap asked_in (meets_rows (codes "drive") drive meets_drive words)
          ∙ ap (λ rows. asked_in (Some (codes "drive", rows))) (goes_rows drive words fourth goes),
    )

serves_gen : (start size model code : Text) → is_word start ≡ true → is_word size ≡ true → is_word model ≡ true → is_word code ≡ true
    → Serves (codes "gen" ∷ start ∷ size ∷ model ∷ code ∷ [])
    (gen_by (number_up_to greatest_start start) (number_up_to greatest_size size) model code)
serves_gen start size model code s z m c =
    let words = start ∷ size ∷ model ∷ code ∷ [] in
    let first = held [] (codes "START") start in
    let second = held (row (codes "START") start ∷ []) (codes "SIZE") size in
    let third = held (row (codes "START") start ∷ row (codes "SIZE") size ∷ []) (codes "MODEL") model in
    let fourth = held (row (codes "START") start ∷ row (codes "SIZE") size ∷ row (codes "MODEL") model ∷ []) (codes "CODE") code in
    let goes : Goes gen nothing_held 1 words fourth =
    (first, s, refl, refl, (second, z, refl, refl, (third, m, refl, refl, (fourth, c, refl, refl, refl)))) in (
      meets_takes (codes "gen") gen meets_gen words (goes_level gen words fourth goes refl),
      ap asked_in (meets_rows (codes "gen") gen meets_gen words)
          ∙ ap (λ rows. asked_in (Some (codes "gen", rows))) (goes_rows gen words fourth goes),
    )

-- ---- Every list of words

-- where something is asked for, `clap` serves it
abbrev pub Right : List Text → Option Asked → Type 0
Right words o = is_some o ≡ true → Serves words o

choose : (words : List Text) (b : Bool) (o rest : Option Asked) → (b ≡ true → Right words o) → Right words rest
    → Right words (if b then o else rest)
choose words true o rest here there = here refl
choose words false o rest here there = there

asks_nothing : (words : List Text) → Right words None
asks_nothing words e = absurd (true≢false (sym e))

first_of_both : (a b : Bool) → (a && b) ≡ true → a ≡ true
first_of_both true b e = refl
first_of_both false b e = e

second_of_both : (a b : Bool) → (a && b) ≡ true → b ≡ true
second_of_both true b e = e
second_of_both false b e = absurd (true≢false (sym e))

-- a command by its name
named : (name command : Text) (words : List Text) (o : Option Asked) → Serves (name ∷ words) o → bytes_eq command name ≡ true
    → Right (command ∷ words) o
named name command words o serves e some = subst (λ c. Serves (c ∷ words) o) (sym ((bytes_eq-Decides command name).0 e)) serves

one_word : (command a : Text) → is_word a ≡ true → Right (command ∷ a ∷ []) (with_one command a)
one_word command a x =
    choose (command ∷ a ∷ []) (bytes_eq command (codes "profile")) _ _
    (named (codes "profile") command (a ∷ []) _ (serves_profile a x)) (asks_nothing (command ∷ a ∷ []))

two_words : (command a b : Text) → is_word a ≡ true → is_word b ≡ true → Right (command ∷ a ∷ b ∷ []) (with_two command a b)
two_words command a b x y =
    choose (command ∷ a ∷ b ∷ []) (bytes_eq command (codes "compile") && differ b a) _ _
    (λ e. named (codes "compile") command (a ∷ b ∷ []) _ (serves_compile a b x y) (first_of_both _ (differ b a) e))
    (choose (command ∷ a ∷ b ∷ []) (bytes_eq command (codes "exec")) _ _
    (named (codes "exec") command (a ∷ b ∷ []) _ (serves_exec a b x y))
    (choose (command ∷ a ∷ b ∷ []) (bytes_eq command (codes "lustre") && differ b a) _ _
    (λ e. named (codes "lustre") command (a ∷ b ∷ []) _ (serves_lustre a b x y) (first_of_both _ (differ b a) e))
    (choose (command ∷ a ∷ b ∷ []) (bytes_eq command (codes "flow") && differ b a) _ _
    (λ e. named (codes "flow") command (a ∷ b ∷ []) _ (serves_flow a b x y) (first_of_both _ (differ b a) e))
    (asks_nothing (command ∷ a ∷ b ∷ [])))))

three_words : (command a b c : Text) → is_word a ≡ true → is_word b ≡ true → is_word c ≡ true
    → Right (command ∷ a ∷ b ∷ c ∷ []) (with_three command a b c)
three_words command a b c x y z =
    choose (command ∷ a ∷ b ∷ c ∷ []) (bytes_eq command (codes "run") && differ b a && differ b c) _ _
    (λ e. named (codes "run") command (a ∷ b ∷ c ∷ []) _ (serves_run a b c x y z)
    (first_of_both (bytes_eq command (codes "run")) (differ b a) (first_of_both _ (differ b c) e)))
    (asks_nothing (command ∷ a ∷ b ∷ c ∷ []))

four_words : (command a b c d : Text) → is_word a ≡ true → is_word b ≡ true → is_word c ≡ true → is_word d ≡ true
    → Right (command ∷ a ∷ b ∷ c ∷ d ∷ []) (with_four command a b c d)
four_words command a b c d x y z w =
    choose (command ∷ a ∷ b ∷ c ∷ d ∷ []) (bytes_eq command (codes "drive") && differ b a && differ b d) _ _
    (λ e. named (codes "drive") command (a ∷ b ∷ c ∷ d ∷ []) _ (serves_drive a b c d x y z w)
    (first_of_both (bytes_eq command (codes "drive")) (differ b a) (first_of_both _ (differ b d) e)))
    (choose (command ∷ a ∷ b ∷ c ∷ d ∷ []) (bytes_eq command (codes "gen") && differ d c) _ _
    (λ e. named (codes "gen") command (a ∷ b ∷ c ∷ d ∷ []) _ (serves_gen a b c d x y z w) (first_of_both _ (differ d c) e))
    (asks_nothing (command ∷ a ∷ b ∷ c ∷ d ∷ [])))

with_words : (command : Text) (words : List Text) → list_all is_word words ≡ true → Right (command ∷ words) (command_with command words)
with_words command [] e = asks_nothing (command ∷ [])
with_words command (a ∷ []) e = one_word command a (first_of_both (is_word a) _ e)
with_words command (a ∷ b ∷ []) e =
    let rest = second_of_both (is_word a) _ e in
    two_words command a b (first_of_both (is_word a) _ e) (first_of_both (is_word b) _ rest)
with_words command (a ∷ b ∷ c ∷ []) e =
    let rest = second_of_both (is_word a) _ e in
    let last = second_of_both (is_word b) _ rest in
    three_words command a b c (first_of_both (is_word a) _ e) (first_of_both (is_word b) _ rest) (first_of_both (is_word c) _ last)
with_words command (a ∷ b ∷ c ∷ d ∷ []) e =
    let rest = second_of_both (is_word a) _ e in
    let more = second_of_both (is_word b) _ rest in
    let last = second_of_both (is_word c) _ more in
    four_words command a b c d (first_of_both (is_word a) _ e) (first_of_both (is_word b) _ rest)
    (first_of_both (is_word c) _ more) (first_of_both (is_word d) _ last)
with_words command (a ∷ b ∷ c ∷ d ∷ f ∷ more) e = asks_nothing (command ∷ a ∷ b ∷ c ∷ d ∷ f ∷ more)

pub all_words : (words : List Text) → Right words (asked_by words)
all_words [] = asks_nothing []
all_words (command ∷ words) =
    choose (command ∷ words) (list_all is_word (command ∷ words)) _ None
    (λ e. with_words command words (second_of_both (is_word command) _ e)) (asks_nothing (command ∷ words))
