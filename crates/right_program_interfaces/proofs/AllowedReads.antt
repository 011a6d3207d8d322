-- What a system's procedures may read of a child has a name.
use Rattle.std.specs.Prelude.{◌≡◌, ℕ, Bool, true, false, if◌then◌else◌, List, [], ◌∷◌, map, flat_map, find, Contains, Option, Some, None, bytes_eq}
use Rattle.std.specs.Option.{option_map_or}
use Rattle.std.specs.List.{AllByRecursion}
use Rattle.std.proofs.Common.{refl, sym, ap, subst, inl, inr}
use Rattle.diagram_blocks.specs.Kinds.{is_inport, port_of}
use Rattle.modules_profile.specs.declared.ChildUse.{ChildUse}
use Rattle.modules_profile.specs.declared.LocalRow.{LocalRow}
use Rattle.modules_profile.specs.LocalSystem.{LocalSystem}
use Rattle.modules_profile.specs.Systems.{system_name}
use Rattle.modules_profile.specs.Locals.{entering}
use Rattle.modules_profile.proofs.lemmas.Members.{in-cases, of-zip, map-at}
use Rattle.c_syntax.specs.Tree.{ParamTree}
use Rattle.emit_shape.specs.NamedLeaf.{NamedLeaf, param, own, child}
use Rattle.emit_shape.specs.Names.{value_name, memory_name, place_name, taken_name, trigger_name, trigger_param, is_counter_name, input_name}
use Rattle.emit_shape.specs.Heads.{input_params}
use Rattle.emit_shape.specs.Rules.{has_output, wire_place, input_reads, row_reads, store_reads, index_reads, test_reads, passed}
use Rattle.right_linking.proofs.lemmas.AssembledChildren.{all-append}

abbrev pub has_bytes : List ℕ → Bool
has_bytes [] = false
has_bytes (b ∷ bs) = true

abbrev pub is_named : NamedLeaf → Bool
is_named (param name) = true
is_named (own field) = true
is_named (child field inner) = has_bytes inner

abbrev pub IsNamed : NamedLeaf → Type 0
IsNamed leaf = is_named leaf ≡ true

-- ---- What may be read

all-flat : {A B : Type 0} (P : B → Type 0) (f : A → List B) (xs : List A) → ((x : A) → AllByRecursion P (f x)) →
    AllByRecursion P (flat_map f xs)
all-flat P f [] holds = tt
all-flat P f (x ∷ xs) holds = all-append P (f x) (flat_map f xs) (holds x) (all-flat P f xs holds)

all-if : {A : Type 0} (P : A → Type 0) (t : Bool) (xs : List A) → AllByRecursion P xs → AllByRecursion P (if t then xs else [])
all-if P true xs all = all
all-if P false xs all = tt

all-own : (names : List (List ℕ)) → AllByRecursion IsNamed (map own names)
all-own [] = tt
all-own (name ∷ names) = (refl, all-own names)

wire-named : (local : LocalSystem) (c : ℕ) → IsNamed (wire_place local c)
wire-named local c = by (find (has_output c) local.children)
  where
    by : (o : Option ChildUse) → IsNamed
        (option_map_or (λ (u : ChildUse). child (system_name u.header.row) (value_name c)) o (own (value_name c)))
    by None = refl
    by (Some u) = refl

wires-named : (local : LocalSystem) (cs : List ℕ) → AllByRecursion IsNamed (map (wire_place local) cs)
wires-named local [] = tt
wires-named local (c ∷ cs) = (wire-named local c, wires-named local cs)

inputs-named : (local : LocalSystem) (r : LocalRow) → AllByRecursion IsNamed (input_reads local r)
inputs-named local r = by (is_inport r.kind)
  where
    by : (t : Bool) → AllByRecursion IsNamed (if t then param (input_name (port_of r.kind)) ∷ [] else map (wire_place local) r.inputs)
    by true = (refl, tt)
    by false = wires-named local r.inputs

row-named : (local : LocalSystem) (name : List ℕ) (r : LocalRow) → AllByRecursion IsNamed (row_reads local name r)
row-named local name r =
    let inputs = inputs-named local r in
    all-append IsNamed _ _
    (all-append IsNamed _ _
    (all-append IsNamed _ _
    (all-if IsNamed (bytes_eq name (value_name r.row))
    (own (memory_name r.row) ∷ own (place_name r.row) ∷ own (taken_name r.row) ∷ input_reads local r) (refl, (refl, (refl, inputs))))
    (all-if IsNamed (bytes_eq name (memory_name r.row)) (input_reads local r) inputs))
    (all-if IsNamed (bytes_eq name (place_name r.row)) (own name ∷ []) (refl, tt)))
    (all-if IsNamed (bytes_eq name (taken_name r.row)) (own name ∷ []) (refl, tt))

pub store-named : (local : LocalSystem) (counters : List (List ℕ)) (name : List ℕ) →
    AllByRecursion IsNamed (store_reads local counters name)
store-named local counters name =
    all-append IsNamed _ _
    (all-append IsNamed _ _
    (all-flat IsNamed (row_reads local name) local.rows (row-named local name))
    (all-if IsNamed (bytes_eq name trigger_name) (param (trigger_param local.control) ∷ own trigger_name ∷ []) (refl, (refl, tt))))
    (all-if IsNamed (is_counter_name name) (map own counters) (all-own counters))

pub index-named : (local : LocalSystem) (name : List ℕ) → AllByRecursion IsNamed (index_reads local name)
index-named local name =
    all-flat IsNamed (λ (r : LocalRow). if bytes_eq name (memory_name r.row) then own (place_name r.row) ∷ [] else []) local.rows
    (λ r. all-if IsNamed (bytes_eq name (memory_name r.row)) (own (place_name r.row) ∷ []) (refl, tt))

pub test-named : (counters : List (List ℕ)) → AllByRecursion IsNamed (test_reads counters)
test-named counters = (refl, (refl, (refl, (refl, all-own counters))))

pub passed-named : (local : LocalSystem) (u : ChildUse) (name : List ℕ) (what : NamedLeaf) → Contains (passed local u) (name, what) →
    IsNamed what
passed-named local u name what has = elim (in-cases _ (name, what) _ has) [
  | inl same ↦ ap (λ (e : List ℕ × NamedLeaf). is_named e.1) (sym same)
  | inr more ↦
      let at = of-zip (map (λ (q : ParamTree). q.name) (input_params u.header)) (map (wire_place local) (entering u)) (name, what) more in
      let wire = map-at (wire_place local) (entering u) at.0 what at.2 in
      subst IsNamed wire.2 (wire-named local wire.0)
]
