-- The parts of right code, and that the program is lawful, come together.
use Rattle.right_linking.specs.Whole.{CodeFollows}

pub code_follows : CodeFollows
code_follows a runs answers renews restarts shape least lawful = record {
  lawful = lawful;
  code = record { runs = runs; least = least; shape = shape; any_order = answers; renewed = renews; restarted = restarts };
}
