-- A command with a further argument, and the program with a further command: the next of those that are in a list.
use Rattle.std.proofs.Common.{◌≡◌, ◌∙◌, ◌||◌, ◌++◌, ◌∷◌, ◌+◌, ◌<◌, ℕ, length, List, [], map, take, get_or, false, sym, ap, ap₂}
use Rattle.std.proofs.lemmas.List.{map-append, take_more}
use Rattle.std.proofs.lemmas.Grind.{fold-append}
use Rattle.clap.specs.Words.{AddsArg, App, Shape, Rule, Text, rule_of}
use Rattle.clap.specs.declared.builder.arg.Arg.{Arg}
use Rattle.clap.specs.declared.builder.command.Command.{Command}
use Rattle.tool_words.specs.Program.{IsSubcommand, argument, bare, with_arguments, with_command, with_commands}

module _ {X Y : Type 0} (f : X → Y) (xs : List X) (i : ℕ) (d : X) (more : i < length xs) where
  map_more : map f (take (i + 1) xs) ≡ map f (take i xs) ++ f (get_or xs i d) ∷ []
  map_more = ap (map f) (take_more xs i d more) ∙ map-append f (take i xs) (get_or xs i d ∷ [])

module _ {X : Type 0} (text : X → Text) (xs : List X) (i : ℕ) (d : X) (more : i < length xs) where
  rules_more : map argument (map text (take i xs)) ++ argument (text (get_or xs i d)) ∷ [] ≡ map argument (map text (take (i + 1) xs))
  rules_more =
      sym (map-append argument (map text (take i xs)) (text (get_or xs i d) ∷ []))
      ∙ ap (map argument) (sym (map_more text xs i d more))

  pub further_argument : (name : Text) (old new : Command) (a : Arg) → IsSubcommand old (with_arguments name (map text (take i xs)))
      → (rule_of a ≡ argument (text (get_or xs i d))) × (a.global ≡ false) → AddsArg old a new
      → IsSubcommand new (with_arguments name (map text (take (i + 1) xs)))
  further_argument name old new a is rule adds = (
    ap (λ (a : App). a.top) (adds.shape rule.1)
        ∙ ap₂ (λ (s : Shape) (r : Rule). record s { rules = s.rules ++ r ∷ [] }) is.0 rule.0
        ∙ ap (λ rules. record (with_arguments name []) { rules = rules }) rules_more,
    adds.globals ∙ ap₂ (λ b c. b || c) is.1 rule.1,
  )

module _ {X : Type 0} (command : X → Text × List Text) (xs : List X) (i : ℕ) (d : X) (more : i < length xs) where
  pub further_command : (old new : App) → old ≡ with_commands (map command (take i xs)) → new ≡ with_command old (command (get_or xs i d))
      → new ≡ with_commands (map command (take (i + 1) xs))
  further_command old new is adds =
      adds ∙ ap (λ a. with_command a (command (get_or xs i d))) is
      ∙ sym (fold-append with_command bare (map command (take i xs)) (command (get_or xs i d) ∷ []))
      ∙ ap with_commands (sym (map_more command xs i d more))
