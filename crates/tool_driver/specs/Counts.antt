-- How many numbers the calls of a driver take.
use Rattle.std.specs.Prelude.{ℕ, List, map, length}
use Rattle.tool_driver.specs.Shapes.{Shape, inputs_of, inputs_taken}

-- how many inputs each function of a shape takes, its controls among them
abbrev pub input_counts : Shape → List ℕ
input_counts shape = map (λ f. length (inputs_taken f (inputs_of shape))) shape.functions
