-- The own fields that each of a list of procedures stores, itself or through private procedures
-- that it calls.
use Rattle.std.specs.Prelude.{ℕ, Bool, if◌then◌else◌, List, [], ◌∷◌, ◌++◌, map, flat_map, slice_index_or, bytes_eq}
use Rattle.std.specs.List.{list_any}
use Rattle.c_syntax.specs.declared.Target.{Target}
use Rattle.c_syntax.specs.declared.Target.TheVariants.{Own, Child}
use Rattle.c_syntax.specs.Tree.{ProcedureTree}
use Rattle.emit_shape.specs.Reads.{stores_in, calls_in}

-- the procedures, and the name of a field of the struct of each; a call on `s` names one by its
-- position
module _ (private : ℕ → Bool) (field_name : ProcedureTree → ℕ → List ℕ) where
  -- what a call on a target stores, where `earlier` has the names that each procedure before stores
  abbrev pub stored_on : List (List (List ℕ)) → ℕ → Target → List (List ℕ)
  stored_on earlier k Own = if private k then slice_index_or earlier k [] else []
  stored_on earlier k (Child f) = []

  -- the names that a procedure stores
  abbrev pub stored_in : List (List (List ℕ)) → ProcedureTree → List (List ℕ)
  stored_in earlier q = map (λ st. field_name q st.field) (stores_in q.body)
      ++ flat_map (λ c. stored_on earlier c.procedure c.target) (calls_in q.body)

  -- the same for each procedure of a list; each calls only earlier ones
  abbrev pub stored_names : List (List (List ℕ)) → List ProcedureTree → List (List (List ℕ))
  stored_names earlier [] = earlier
  stored_names earlier (q ∷ qs) = stored_names (earlier ++ stored_in earlier q ∷ []) qs

-- whether a list of names has this one
abbrev pub has_stored : List (List (List ℕ)) → ℕ → List ℕ → Bool
has_stored stored k name = list_any (bytes_eq name) (slice_index_or stored k [])
