-- The values of arguments, by getters and by rows.
use Rattle.std.proofs.Common.{◌≡◌, ◌∙◌, ap, ap₂, true≢false, Option, Some, None, Box}
use Rattle.std.specs.Prelude.{option_map, unwrap_or, is_some}
use Rattle.std.specs.Box.{box_value}
use Rattle.clap.specs.Matches.{first_value}
use Rattle.clap.specs.Simple.{subcommand_rows}
use Rattle.clap.specs.Walk.{Text, first_of, rows_of}
use Rattle.clap.specs.declared.parser.matches.ArgMatches.TheViews.{out-SubCommand}
use Rattle.clap.specs.declared.parser.matches.Found.{Found}
use Rattle.clap.specs.declared.parser.matches.SubCommand.{SubCommand}
use Rattle.clap.proofs.WalkLemmas.{first_value-rows}
use Rattle.tool_words.specs.Program.{asked_of, asked_in}

module _ (f : Found) where
  abbrev got : Text → Option Text
  got = first_value f

  abbrev told : Text → Option Text
  told id = first_of id (rows_of f)

  asked_as_told : (name : Text) → asked_of name got ≡ asked_of name told
  asked_as_told name = λ i. asked_of name (λ id. first_value-rows f id i)

some_is : {X : Type 0} (x y : X) → Some x ≡ Some y → x ≡ y
some_is x y e = ap (λ o. unwrap_or o x) e

some_is_not_none : {X : Type 0} (x : X) → Some x ≡ None → ⊥
some_is_not_none x e = true≢false (ap is_some e)

module _ {Z : Type 0} where
  -- the name and the matches of a subcommand, as they were got
  pub asked_as_met : (o : Option (Box SubCommand Z)) (name : Text) (f : Found)
      → Some name ≡ option_map (λ b. (out-SubCommand (box_value b)).name.now) o
      → Some (rows_of f) ≡ option_map (λ p. p.1) (subcommand_rows o) → asked_of name (first_value f) ≡ asked_in (subcommand_rows o)
  asked_as_met None name f n r = absurd (some_is_not_none name n)
  asked_as_met (Some b) name f n r =
      asked_as_told f name ∙ ap₂ (λ m rows. asked_of m (λ id. first_of id rows)) (some_is name _ n) (some_is (rows_of f) _ r)
