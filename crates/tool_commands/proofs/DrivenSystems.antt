-- A system in the code that a model was compiled to.
use Rattle.std.proofs.Common.{ℕ, List, [], ◌∷◌}
use Rattle.std.specs.Prelude.{Contains, Option}
use Rattle.std.specs.List.{All, AllZip}
use Rattle.std.proofs.lemmas.List.Elements.{All-nil, All-cons, All-contains}
use Rattle.diagram_meaning.specs.Needs.{AreTrueNeeds, HasNoLoop, needs_of}
use Rattle.diagram_meaning.specs.ResolvedTable.{ResolvedTable, diagram_of_table}
use Rattle.modules_profile.specs.Systems.{systems}
use Rattle.tool_compiled.specs.Compilation.{Compilation, IsCompilationOf}
use Rattle.tool_driver.specs.Driven.{Driven}

-- each of the first things has one of the others
zipped : {A B : Type 0} (R : A → B → Type 0) (xs : List A) (ys : List B) → AllZip R xs ys → All (λ x. (y : B) × R x y) xs
zipped {A} {B} R [] [] all = All-nil (λ x. (y : B) × R x y)
zipped R [] (y ∷ ys) all = absurd all
zipped R (x ∷ xs) [] all = absurd all
zipped {A} {B} R (x ∷ xs) (y ∷ ys) all = All-cons (λ x. (y : B) × R x y) x xs (y, all.0) (zipped R xs ys all.1)

module _ (r : ResolvedTable) (c : Compilation) (s : Option ℕ) (right : IsCompilationOf r c)
    (there : Contains (systems r.table.rows) s) where
  -- what its outputs need
  pub system-needs : (needs : List ℕ) × AreTrueNeeds (diagram_of_table r) s needs
  system-needs =
      All-contains (λ t. (needs : List ℕ) × AreTrueNeeds (diagram_of_table r) t needs) (systems r.table.rows) s
      (zipped (AreTrueNeeds (diagram_of_table r)) (systems r.table.rows) right.functions.needs right.functions.are_needs) there

  -- the system in the code
  abbrev pub driven-of : HasNoLoop (needs_of (diagram_of_table r)) → Driven
  driven-of no_loop = record {
    program = right.code.program;
    diagram = diagram_of_table r;
    delays = r.times.delays;
    hyper = r.times.hyper;
    system = s;
    needs = system-needs.0;
    code = right.code.code;
    in_diagram = there;
    are_needs = system-needs.1;
    no_loop = no_loop;
  }
