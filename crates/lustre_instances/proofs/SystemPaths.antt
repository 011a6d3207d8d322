-- The path of a system's instance goes on from that of the system around it.
use Rattle.std.specs.Prelude.{◌≡◌, ⊤, ℕ, zero, suc, ◌<◌, List, [], ◌∷◌, ◌++◌, map, reverse, length, Option, Some, None, option_map, refl}
use Rattle.std.proofs.Common.{ap, ◌∙◌, arith}
use Rattle.std.proofs.lemmas.List.{map-append}
use Rattle.diagram_meaning.specs.declared.Row.{Row}
use Rattle.diagram_meaning.specs.Rows.{row_at, outward, enclosing}
use Rattle.diagram_meaning.specs.WellFormed.{IsNested, IsOwner}
use Rattle.diagram_meaning.proofs.lemmas.Enclosing.{enclosing-step}
use Rattle.modules_profile.specs.Systems.{system_name}
use Rattle.emit_shape.specs.Names.{root_name}
use Rattle.lustre_syntax.specs.Tree.{FileTree}
use Rattle.lustre_flows.specs.Instances.{Instance, values_in, calls_in, call_at}
use Rattle.lustre_flows.specs.Ticks.{inside}
use Rattle.lustre_right.specs.Paths.{node_place, node_named, call_place, path_through, systems_to, path_to}
use Rattle.lustre_instances.proofs.FileNodes.{reverse-first}

-- ---- The instance one call further in

pub inside-longer : (path : List ℕ) (k : ℕ) (i : Instance) → inside (path ++ k ∷ []) i ≡ call_at (calls_in (inside path i)) k
inside-longer [] k i = refl
inside-longer (j ∷ path) k i = inside-longer path k (call_at (calls_in i) j)

pub was-longer : (path : List ℕ) (k : ℕ) (b : Option Instance) →
    option_map (inside (path ++ k ∷ [])) b ≡ option_map (λ c. call_at c k) (option_map calls_in (option_map (inside path) b))
was-longer path k None = refl
was-longer path k (Some i) = ap Some (inside-longer path k i)

pub was-values : (path : List ℕ) (b : Option Instance) →
    option_map values_in (option_map (inside path) b) ≡ option_map (λ i. values_in (inside path i)) b
was-values path None = refl
was-values path (Some i) = refl

pub was-itself : (b : Option Instance) → b ≡ option_map (inside []) b
was-itself None = refl
was-itself (Some i) = refl

-- ---- Paths through nodes

abbrev end_of : List ℕ → List (List ℕ) → List ℕ
end_of text [] = text
end_of text (next ∷ more) = end_of next more

path-longer : (f : FileTree) (text : List ℕ) (xs : List (List ℕ)) (y : List ℕ) →
    path_through f text (xs ++ y ∷ []) ≡ path_through f text xs ++ call_place (node_named f (end_of text xs)) (node_place f y) ∷ []
path-longer f text [] y = refl
path-longer f text (x ∷ xs) y =
    ap (λ (ks : List ℕ). call_place (node_named f text) (node_place f x) ∷ ks) (path-longer f x xs y)

end-longer : (text : List ℕ) (xs : List (List ℕ)) (y : List ℕ) → end_of text (xs ++ y ∷ []) ≡ y
end-longer text [] y = refl
end-longer text (x ∷ xs) y = end-longer x xs y

-- ---- Paths to systems

none-outward : (rows : List Row) (n : ℕ) → outward rows None n None ≡ []
none-outward rows zero = refl
none-outward rows (suc n) = refl

module _ (rows : List Row) where
  abbrev name_of : ℕ → List ℕ
  name_of e = system_name (Some e)

  abbrev names_by : List ℕ → List (List ℕ)
  names_by es = system_name None ∷ map name_of (reverse es)

  systems-to-top : systems_to rows None ≡ system_name None ∷ []
  systems-to-top = ap names_by (none-outward rows (length rows))

  pub path-to-top : (f : FileTree) → path_to f rows None ≡ call_place (node_named f root_name) (node_place f (system_name None)) ∷ []
  path-to-top f = ap (path_through f root_name) systems-to-top

  module _ (nested : IsNested rows) where
    systems-to-child : (e : ℕ) → e < length rows → systems_to rows (Some e) ≡ systems_to rows (row_at rows e).owner ++ name_of e ∷ []
    systems-to-child e below =
        let outer = enclosing rows None (row_at rows e).owner in
        ap names_by (enclosing-step rows None nested e below)
        ∙ ap (λ es. system_name None ∷ map name_of es) (reverse-first e outer)
        ∙ ap (λ (ts : List (List ℕ)). system_name None ∷ ts) (map-append name_of (reverse outer) (e ∷ []))

    -- a system of the table
    abbrev IsIn : Option ℕ → Type 0
    IsIn None = ⊤
    IsIn (Some e) = e < length rows

    last-of_systems : (s : Option ℕ) → IsIn s → end_of root_name (systems_to rows s) ≡ system_name s
    last-of_systems None there = ap (end_of root_name) systems-to-top
    last-of_systems (Some e) there =
        ap (end_of root_name) (systems-to-child e there) ∙ end-longer root_name (systems_to rows (row_at rows e).owner) (name_of e)

    owner-in : (e : ℕ) (o : Option ℕ) → e < length rows → IsOwner rows e o → IsIn o
    owner-in e None below owned = tt
    owner-in e (Some p) below owned = let low = owned.0 in omega arith

    pub path-to-child : (f : FileTree) (e : ℕ) → e < length rows → path_to f rows (Some e)
        ≡ path_to f rows (row_at rows e).owner
        ++ call_place (node_named f (system_name (row_at rows e).owner)) (node_place f (system_name (Some e))) ∷ []
    path-to-child f e below =
        let o = (row_at rows e).owner in
        ap (path_through f root_name) (systems-to-child e below)
        ∙ path-longer f root_name (systems_to rows o) (name_of e)
        ∙ ap (λ (t : List ℕ). path_to f rows o ++ call_place (node_named f t) (node_place f (name_of e)) ∷ [])
        (last-of_systems o (owner-in e o below (nested.owned e below)))
