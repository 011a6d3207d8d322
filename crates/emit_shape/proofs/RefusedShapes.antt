-- Codes that differ in one thing from that of a child that passes its input on haven't the shape of a system's code.
use Rattle.std.specs.Prelude.{◌≡◌, refl, ℕ, zero, suc, ◌<◌, ◌≤◌, ◌==◌, false, List, [], ◌∷◌, length, slice_index_or, Contains, codes}
use Rattle.std.specs.Fmt.{digits}
use Rattle.std.proofs.Common.{sym, ap, arith, ◌∙◌, true≢false}
use Rattle.std.proofs.lemmas.Bool.{eq-eqb}
use Rattle.modules_profile.specs.LocalSamples.{inner_local, inner_profile}
use Rattle.c_syntax.specs.Tree.{StructTree}
use Rattle.emit_shape.specs.NamedLeaf.{NamedLeaf, param, own, child}
use Rattle.emit_shape.specs.LocalShape.{HasLocalShape}
use Rattle.emit_shape.specs.SystemTree.{SystemTree}
use Rattle.emit_shape.specs.TinySamples.{x1, y1, inner_slots}
use Rattle.emit_shape.specs.RefusedShapes.{longer_struct, stored_by_two, reads_parameter, tests_value, named_otherwise, passes_number, gives_nothing, idle_group, idle_counter, idle_slots}

pub apart : (a b : ℕ) → (a == b) ≡ false → a ≡ b → ⊥
apart a b differ e = true≢false (sym (eq-eqb a b e) ∙ differ)

abbrev HasShapeOfChild : SystemTree → Type 0
HasShapeOfChild code = HasLocalShape inner_local inner_profile (inner_slots x1 y1) code

-- ---- Struct and functions

longer : HasShapeOfChild longer_struct → ⊥
unfolding digits
longer h = apart 4 3 refl (ap (λ (s : StructTree). length s.fields) h.structure)

gives_none : HasShapeOfChild gives_nothing → ⊥
unfolding digits
gives_none h = apart 0 1 refl (ap (λ (rows : List ℕ). length rows) h.gives.0)

-- ---- Statements

two_statements : HasShapeOfChild stored_by_two → ⊥
unfolding digits
two_statements h = let once : 2 ≤ 1 = h.once.values.1.0 in omega arith

-- the first letter of an own field's name, 0 of anything else
abbrev initial : NamedLeaf → ℕ
initial (own name) = slice_index_or name 0 0
initial (param name) = 0
initial (child field inner) = 0

-- what the output is made from holds no parameter
no-parameter : Contains (own (codes "m4") ∷ own (codes "p4") ∷ own (codes "n4") ∷ own (codes "v3") ∷ []) (param (codes "u1")) → ⊥
no-parameter (zero, below, is) = cc is
no-parameter (suc zero, below, is) = cc is
no-parameter (suc (suc zero), below, is) = cc is
no-parameter (suc (suc (suc zero)), below, is) = cc is
no-parameter (suc (suc (suc (suc k))), below, is) = omega arith

from_parameter : HasShapeOfChild reads_parameter → ⊥
unfolding digits
from_parameter h = no-parameter h.rules.0.stores.1.1.0.0

-- what a test may read holds no value
no-value : Contains (param (codes "now") ∷ param (codes "ctl") ∷ param (codes "trg") ∷ own (codes "w")
    ∷ own (codes "k0") ∷ []) (own (codes "v3")) → ⊥
no-value (zero, below, is) = cc is
no-value (suc zero, below, is) = cc is
no-value (suc (suc zero), below, is) = cc is
no-value (suc (suc (suc zero)), below, is) = apart 119 118 refl (ap initial is)
no-value (suc (suc (suc (suc zero))), below, is) = apart 107 118 refl (ap initial is)
no-value (suc (suc (suc (suc (suc k)))), below, is) = omega arith

test_of_value : HasShapeOfChild tests_value → ⊥
unfolding digits
test_of_value h = no-value h.rules.0.tests.0.0

-- ---- Names and calls

other_name : HasShapeOfChild named_otherwise → ⊥
unfolding digits
other_name h = apart 104 103 refl (ap (λ (name : List ℕ). slice_index_or name 3 0) h.rules.0.private_name.1)

passed_number : HasShapeOfChild passes_number → ⊥
unfolding digits
passed_number h = cc h.rules.1.0.calls.0.0.1

-- ---- What nothing uses

uncalled : HasShapeOfChild idle_group → ⊥
unfolding digits
uncalled h = let called : 0 < 0 = h.used.called.1.1.1.1.1.0 in omega arith

-- the number of the only counter that is read, as a letter
no-second : Contains (own (codes "k0") ∷ []) (own (codes "k1")) → ⊥
no-second (zero, below, is) = apart 48 49 refl (ap (λ (leaf : NamedLeaf). second leaf) is)
  where
    second : NamedLeaf → ℕ
    second (own name) = slice_index_or name 1 0
    second (param name) = 0
    second (child field inner) = 0
no-second (suc k, below, is) = omega arith

unread : HasLocalShape inner_local inner_profile idle_slots idle_counter → ⊥
unfolding digits
unread h = no-second h.used.read.1.0
