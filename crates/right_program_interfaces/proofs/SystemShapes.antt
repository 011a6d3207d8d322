-- Each system of an assembled program has the shape of its code.
use Rattle.std.specs.Prelude.{◌≡◌, ℕ, ◌<◌, not, List, [], ◌∷◌, map, filter, length, slice_get, Contains, IsPermutation, Option, Some, refl}
use Rattle.std.specs.List.{AllByRecursion}
use Rattle.std.proofs.Common.{sym, ap, ap₂, subst, ◌∙◌}
use Rattle.modules_profile.specs.LocalSystem.{LocalSystem}
use Rattle.modules_profile.specs.Locals.{local_of, own_header}
use Rattle.modules_profile.specs.NodeFacts.{LocalsAreLawful}
use Rattle.modules_profile.specs.Systems.{system_name}
use Rattle.modules_profile.specs.SystemProfile.{SystemProfile}
use Rattle.modules_profile.proofs.lemmas.Members.{in-first, in-rest, in-at, at-in}
use Rattle.c_syntax.specs.Tree.{FieldTree, StructTree, ProcedureTree}
use Rattle.emit_shape.specs.CodeNames.{NamedField, named_kind, named_fields}
use Rattle.c_syntax.specs.Kinds.{struct_kind}
use Rattle.emit_shape.specs.Heads.{Head, head_of, public_heads}
use Rattle.emit_shape.specs.LocalShape.{callable, local_names}
use Rattle.emit_shape.specs.Once.{StatesOnce}
use Rattle.emit_shape.specs.Programs.{struct_at, names_in, procedures_of, struct_place}
use Rattle.emit_shape.specs.ProgramShape.{named_slot, HasSystemShape}
use Rattle.emit_shape.specs.Reads.{CallSite, calls_in}
use Rattle.emit_shape.specs.Relocation.{moved_procedure}
use Rattle.emit_shape.specs.Rules.{KeepsRules}
use Rattle.emit_shape.specs.Slots.{Slot, value, memory, ring_items, ring_place, ring_taken, trigger, counter, instance, filler, slot_field, counters_in, AreSlots}
use Rattle.emit_shape.specs.Used.{AreUsed}
use Rattle.emit_shape.specs.SystemTree.{SystemTree}
use Rattle.emit_shape.specs.Assembled.{struct_position, relocation_of, moved_kind}
use Rattle.right_linking.specs.Parts.{Parts, program_of, diagram, all_systems, IsCodedAs, CodesHaveViews, Views}
use Rattle.right_linking.specs.Places.{SystemsHavePlaces}
use Rattle.right_linking.proofs.lemmas.AssembledNames.{struct-name}
use Rattle.right_linking.proofs.lemmas.AssembledPlaces.{all-made, code-is}
use Rattle.right_linking.proofs.lemmas.AssembledChildren.{of-child, behind, child-found}
use Rattle.right_program_interfaces.specs.Shapes.{SystemsHaveShape}
use Rattle.right_program_interfaces.proofs.MovedRules.{procedure-kept, once-kept}
use Rattle.right_program_interfaces.proofs.MovedUses.{used-kept}
use Rattle.right_program_interfaces.proofs.StandingCode.{moved_field, struct-here, own-same, own-procedures, leaf-same, callee-same}

-- what a program has of a system by its own rows, whose fields are for these
record IsShapedAs (a : Parts) (s : Option ℕ) (local : LocalSystem) (profile : SystemProfile) (slots : List Slot) : Type 0 where
  pub are_slots : AreSlots local slots
  pub are_fields : map named_slot slots ≡ named_fields (names_in (program_of a) (struct_place (program_of a) s))
      (struct_at (program_of a) (struct_place (program_of a) s)).fields
  pub heads : IsPermutation (public_heads (own_header local profile))
      (filter (λ (h : Head). not h.private) (map head_of (procedures_of (program_of a) (struct_place (program_of a) s))))
  pub rules : AllByRecursion (KeepsRules (names_in (program_of a) (struct_place (program_of a) s)) local (counters_in slots))
      (procedures_of (program_of a) (struct_place (program_of a) s))
  pub once : StatesOnce (names_in (program_of a) (struct_place (program_of a) s)) local
      (procedures_of (program_of a) (struct_place (program_of a) s))
  pub used : AreUsed (names_in (program_of a) (struct_place (program_of a) s)) (counters_in slots)
      (procedures_of (program_of a) (struct_place (program_of a) s))

module _ (locals : LocalsAreLawful) (places : SystemsHavePlaces) (a : Parts) (v : Views a) (place : ℕ) (s : Option ℕ)
    (stands : slice_get (all_systems a) place ≡ Some s) where
  known : IsCodedAs a place s (v.at s)
  known = v.each place s stands

  abbrev local : LocalSystem
  local = (v.at s).local

  abbrev code : SystemTree
  code = (v.at s).code

  abbrev slots : List Slot
  slots = (v.at s).slots

  -- ---- Fields

  abbrev moved_name : FieldTree → NamedField
  moved_name f = record {
    name = f.name;
    kind = named_kind (names_in (program_of a) (struct_place (program_of a) s))
        (moved_kind a.codes f.name f.kind);
  }

  slot-named : (slot : Slot) → Contains slots slot → named_slot slot ≡ moved_name (slot_field slot)
  slot-named (instance k u) has =
      let child = in-at local.children k u (of-child local slots known.shape.slots_right (instance k u) has) in
      let inner = behind a v place s stands u child in
      let row = u.header.row in
      let theirs = v.each inner.inner_place row inner.stands in
      let named : (struct_at (program_of a) (struct_position a.codes inner.inner_place)).name ≡ system_name row =
      ap (λ k. (struct_at (program_of a) k).name) (sym (places a v inner.inner_place row inner.stands).struct)
      ∙ ap (λ (st : StructTree). st.name) (struct-here places a v inner.inner_place row inner.stands)
      ∙ ap (λ (z : SystemTree). z.structure.name) (sym (code-is a inner.inner_place row (v.at row) theirs))
      ∙ struct-name a inner.inner_place row (v.at row) theirs in
      ap (λ name. record { name = system_name row; kind = struct_kind name })
      (sym (ap (λ n. (struct_at (program_of a) (struct_position a.codes n)).name) (child-found a v place s stands u child) ∙ named))
  slot-named _ has = refl

  all-named : (xs : List Slot) → ((slot : Slot) → Contains xs slot → Contains slots slot) →
      map named_slot xs ≡ named_fields (names_in (program_of a) (struct_place (program_of a) s))
      (map (moved_field a.codes) (map slot_field xs))
  all-named [] within = refl
  all-named (x ∷ xs) within = ap₂ (λ f fs. f ∷ fs) (slot-named x (within x (in-first x xs)))
      (all-named xs (λ slot has. within slot (in-rest x slot xs has)))

  -- ---- The whole

  within : AllByRecursion (λ (q : ProcedureTree). AllByRecursion (λ (c : CallSite). c.procedure < length (callable local code))
      (calls_in q.body)) code.procedures
  within = known.lawful.calls

  shaped : IsShapedAs a s local (v.at s).profile slots
  shaped =
      let names = names_in (program_of a) (struct_place (program_of a) s) in
      let own = local_names local slots code in
      let m = relocation_of a.codes place in
      let there = own-procedures places a v place s stands in
      record {
        are_slots = known.shape.slots_right;
        are_fields = all-named slots (λ slot has. has)
            ∙ sym (ap (λ (st : StructTree). named_fields names st.fields) (struct-here places a v place s stands)
            ∙ ap (λ (st : StructTree). named_fields names (map (moved_field a.codes) st.fields)) known.shape.structure);
        heads = subst (λ hs. IsPermutation (public_heads (own_header local (v.at s).profile)) (filter (λ (h : Head). not h.private) hs))
            (heads-same code.procedures ∙ ap (map head_of) (sym there)) known.shape.heads;
        rules = subst (AllByRecursion (KeepsRules names local (counters_in slots))) (sym there)
            (rules-kept code.procedures within known.shape.rules);
        once = subst (StatesOnce names local) (sym there)
            (once-kept names own m (length (callable local code)) (own-same places a v place s stands) (leaf-same places a v place s stands)
            (callee-same places a v place s stands locals) local code.procedures within known.shape.once);
        used = subst (AreUsed names (counters_in slots)) (sym there)
            (used-kept names own m (length (callable local code)) (own-same places a v place s stands) (leaf-same places a v place s stands)
            (callee-same places a v place s stands locals) (counters_in slots) code.procedures within known.shape.used);
      }
    where
      heads-same : (qs : List ProcedureTree) → map head_of qs ≡ map head_of (map (moved_procedure (relocation_of a.codes place)) qs)
      heads-same [] = refl
      heads-same (q ∷ qs) = ap (λ hs. head_of q ∷ hs) (heads-same qs)

      rules-kept : (qs : List ProcedureTree) →
          AllByRecursion (λ (q : ProcedureTree). AllByRecursion (λ (c : CallSite). c.procedure < length (callable local code))
          (calls_in q.body)) qs →
          AllByRecursion (KeepsRules (local_names local slots code) local (counters_in slots)) qs →
          AllByRecursion (KeepsRules (names_in (program_of a) (struct_place (program_of a) s)) local (counters_in slots))
          (map (moved_procedure (relocation_of a.codes place)) qs)
      rules-kept [] inside all = tt
      rules-kept (q ∷ qs) inside all = (
        procedure-kept (names_in (program_of a) (struct_place (program_of a) s)) (local_names local slots code)
            (relocation_of a.codes place) (length (callable local code))
            (own-same places a v place s stands) (leaf-same places a v place s stands) (callee-same places a v place s stands locals)
            local (counters_in slots) q inside.0 all.0,
        rules-kept qs inside.1 all.1,
      )

  pub system-shape : HasSystemShape (program_of a) (diagram a) a.model.times.delays s
  system-shape =
      let headers = known.local.headers in
      let by : IsShapedAs a s (local_of (diagram a) a.model.times.delays s headers) (v.at s).profile slots = subst
      (λ l. IsShapedAs a s l (v.at s).profile slots) known.local.is_local shaped in
      record {
        view = record { headers = headers; are_headers = known.local.are_headers; profile = (v.at s).profile; is_profile = known.profile };
        struct_there = ap (λ (st : StructTree). st.name) (struct-here places a v place s stands)
            ∙ ap (λ (z : SystemTree). z.structure.name) (sym (code-is a place s (v.at s) known)) ∙ struct-name a place s (v.at s) known;
        fields = record { slots = slots; are_slots = by.are_slots; are_fields = by.are_fields };
        heads = by.heads;
        rules = by.rules;
        once = by.once;
        used = by.used;
      }

pub systems_have_shape : CodesHaveViews → LocalsAreLawful → SystemsHavePlaces → SystemsHaveShape
systems_have_shape views locals places a =
    all-made (HasSystemShape (program_of a) (diagram a) a.model.times.delays) (all_systems a)
    (λ s has. let stands = at-in (all_systems a) s has in system-shape locals places a (views a) stands.0 s stands.1)
