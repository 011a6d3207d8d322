-- What a system's procedures in a program are for the code around it.
use Rattle.std.specs.Prelude.{◌≡◌, ◌⊎◌, ℕ, ◌+◌, ◌-◌, ◌<◌, ◌≤◌, List, map, length, slice_get, Contains, Option, Some}
use Rattle.std.specs.List.{range_with_len}
use Rattle.modules_profile.specs.declared.ChildUse.{ChildUse}
use Rattle.modules_profile.specs.SystemHeader.{SystemHeader}
use Rattle.modules_profile.specs.Headers.{header_functions}
use Rattle.c_syntax.specs.declared.Leaf.TheVariants.{Child}
use Rattle.c_syntax.specs.Tree.{ProcedureTree, ProgramTree}
use Rattle.c_semantics.specs.Machine.{routine_at, program_routines}
use Rattle.emit_shape.specs.Names.{value_name, out_name, update_name, start_name, reset_name}
use Rattle.emit_shape.specs.Programs.{procedure_place}
use Rattle.emit_shape.specs.Reads.{calls_in, stmts_leaves}
use Rattle.emit_shape.specs.Assembled.{first_procedure, relocation_of}
use Rattle.right_relation.specs.Instances.{Offered, Offer}
use Rattle.right_relation.specs.Serving.{IsOfferOf}
use Rattle.right_relation.specs.Relation.{children_routines, behind_offers, own_offer}
use Rattle.right_claim.specs.Paths.{place_in}
use Rattle.right_linking.specs.Parts.{Parts, program_of, all_systems, coded_header, Views}

-- the procedure of a program with a name
abbrev pub offered_by : ProgramTree → List ℕ → Offered
offered_by p name =
    record {
      routine = routine_at (program_routines p) (procedure_place p name);
      number = procedure_place p name;
    }

-- what an instance of the system with this header offers in a program
abbrev pub program_offer : ProgramTree → SystemHeader → Offer
program_offer p h = record {
  outs =
      map (λ j. offered_by p (out_name h.row j)) (range_with_len 1 (length (header_functions h)));
  update = offered_by p (update_name h.row);
  start = offered_by p (start_name h.row);
  reset = offered_by p (reset_name h.row);
  places = map (λ o. place_in p h.row (value_name o.0)) h.outputs;
}

-- what the system s offers
abbrev pub offer_of : (a : Parts) → Views a → Option ℕ → Offer
offer_of a v s = program_offer (program_of a) (coded_header (v.at s))

-- what the children of the system s offer
abbrev pub child_offers : (a : Parts) → Views a → Option ℕ → List Offer
child_offers a v s = map (λ (u : ChildUse). offer_of a v u.header.row) (v.at s).local.children

-- The procedures of the system s, at this place, call own earlier ones and those that its children
-- offer; these come before its own in the program, and the outputs that it reads are where they
-- are offered.
pub record NamesAgree (a : Parts) (v : Views a) (place : ℕ) (s : Option ℕ) : Type 0 where
  pub called : (j : ℕ) (q : ProcedureTree) → slice_get (v.at s).code.procedures j ≡ Some q →
      (k : ℕ) → Contains (map (λ c. c.procedure) (calls_in q.body)) k →
      (k < j) ⊎ ((length (v.at s).code.procedures ≤ k)
      × (k - length (v.at s).code.procedures < length (children_routines (child_offers a v s))))
  pub offered : (i : ℕ) → i < length (children_routines (child_offers a v s)) →
      ((relocation_of a.codes place).offered i < first_procedure a.codes place)
      × (routine_at (program_routines (program_of a)) ((relocation_of a.codes place).offered i)
      ≡ routine_at (children_routines (child_offers a v s)) i)
  pub outputs : (j : ℕ) (q : ProcedureTree) → slice_get (v.at s).code.procedures j ≡ Some q →
      (f o : ℕ) → Contains (stmts_leaves q.body) (Child f o) →
      (relocation_of a.codes place).output f o
      ≡ (behind_offers (v.at s).slots (child_offers a v s)
      (length (v.at s).code.procedures)).output f o

-- what the system offers in the program is what its code does among the procedures of its children
abbrev pub ProceduresAreSystems : (a : Parts) → Views a → ℕ → Option ℕ → Type 0
ProceduresAreSystems a v place s =
    offer_of a v s
    ≡ own_offer (v.at s).local (v.at s).profile a.pures (v.at s).slots (child_offers a v s)
    (v.at s).code (λ i. first_procedure a.codes place + i)

-- each system offers what its code does
abbrev pub SystemsOfferTheirs : Type 0
SystemsOfferTheirs = (a : Parts) (v : Views a) (place : ℕ) (s : Option ℕ) →
    slice_get (all_systems a) place ≡ Some s → ProceduresAreSystems a v place s

-- Given that what the system's procedures call and read is found alike in the program and in its
-- children's offers.
abbrev pub ProceduresFollow : Type 0
ProceduresFollow = (a : Parts) (v : Views a) (place : ℕ) (s : Option ℕ) →
    slice_get (all_systems a) place ≡ Some s →
    NamesAgree a v place s → ProceduresAreSystems a v place s

-- a system's procedures take what its header says
abbrev pub OffersAreOfHeaders : Type 0
OffersAreOfHeaders = (a : Parts) (v : Views a) (place : ℕ) (s : Option ℕ) →
    slice_get (all_systems a) place ≡ Some s →
    IsOfferOf (coded_header (v.at s)) (offer_of a v s)
