-- The nodes of a root whose child is shared by both its outputs.
use Rattle.std.specs.Prelude.{◌≡◌, refl, [], ◌∷◌, map}
use Rattle.modules_profile.specs.declared.nodes.Node.TheVariants.{Row, Call}
use Rattle.modules_profile.specs.Functions.{functions_for}
use Rattle.modules_profile.specs.Headers.{given_rows}
use Rattle.modules_profile.specs.Locals.{outports, own_header}
use Rattle.modules_profile.specs.LocalNodes.{node_list, node_needs, node_gives}
use Rattle.modules_profile.specs.LocalSamples.{inner_header, inner_local, inner_profile, outer_local, outer_profile}

own_rows : map (λ r. r.row) outer_local.rows ≡ 0 ∷ 1 ∷ 2 ∷ 5 ∷ 6 ∷ 7 ∷ []
own_rows = refl

nodes : node_list outer_local ≡ Row 0 ∷ Row 1 ∷ Row 2 ∷ Row 5 ∷ Row 6 ∷ Row 7 ∷ Call 2 1 ∷ []
nodes = refl

sum_needs : node_needs outer_local (Row 5) ≡ 4 ∷ 1 ∷ []
sum_needs = refl

call_needs : node_needs outer_local (Call 2 1) ≡ 0 ∷ []
call_needs = refl

call_gives : node_gives outer_local (Call 2 1) ≡ 4 ∷ []
call_gives = refl

outputs : map (λ r. r.row) (outports outer_local) ≡ 6 ∷ 7 ∷ []
outputs = refl

-- Out1 needs In1, and Out2 both inputs
functions : functions_for (1 ∷ 3 ∷ []) ≡ outer_profile.functions
functions = refl

second_gives : given_rows (own_header outer_local outer_profile) 2 ≡ 7 ∷ []
second_gives = refl

-- the child's header is that of its own rows
one_header : own_header inner_local inner_profile ≡ inner_header
one_header = refl
