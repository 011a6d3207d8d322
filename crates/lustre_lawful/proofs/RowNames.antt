-- The names that the equations of a row give: each is lawful, tells the row, and is given once.
use Rattle.std.specs.Prelude.{◌≡◌, ◌⊎◌, ℕ, zero, suc, ◌^◌, ◌<◌, ◌≤◌, Bool, true, false, ◌||◌, List, [], ◌∷◌, ◌++◌, map, length, Contains, decimal, Option, Some}
use Rattle.std.specs.List.{AllByRecursion, range_with_len}
use Rattle.std.proofs.Common.{refl, sym, ◌∙◌, ap, subst, arith, inl, inr, true≢false}
use Rattle.std.proofs.lemmas.Fmt.{decimal_injective}
use Rattle.std.proofs.lemmas.Option.{same_Some}
use Rattle.std.proofs.lemmas.List.{append-nil}
use Rattle.diagram_blocks.specs.declared.Kind.{Kind}
use Rattle.diagram_blocks.specs.declared.Kind.TheVariants.{SubSystem}
use Rattle.diagram_blocks.specs.Kinds.{is_delay, is_outport, is_subsystem}
use Rattle.diagram_blocks.specs.Meaning.{has_value, delay_length}
use Rattle.diagram_meaning.specs.declared.Row.{Row}
use Rattle.diagram_meaning.specs.Rows.{row_at, outports_of}
use Rattle.diagram_meaning.specs.Diagram.{Diagram, type_at, op_at}
use Rattle.diagram_meaning.specs.SystemRuns.{IsRowOf}
use Rattle.diagram_meaning.specs.WellFormed.{IsNested, IsOwner}
use Rattle.c_syntax.specs.declared.Leaf.TheVariants.{Child}
use Rattle.emit_shape.specs.Names.{value_name}
use Rattle.modules_profile.proofs.lemmas.Members.{of-range}
use Rattle.modules_profile.proofs.lemmas.PortRows.{of-ports}
use Rattle.lustre_syntax.specs.Names.{is_lustre_name}
use Rattle.lustre_system.specs.FromC.{call_count}
use Rattle.lustre_system.specs.Names.{takes_name, sample_name, part_name, leaves_of}
use Rattle.lustre_system.specs.RowEquations.{only_if, row_code, samples}
use Rattle.lustre_rows.proofs.lemmas.Lists.{all-after, all-only}
use Rattle.lustre_lawful.proofs.Counts.{Once, once-none, once-single, once-beside, once-mapped}
use Rattle.lustre_lawful.proofs.FewCalls.{few-calls}
use Rattle.lustre_lawful.proofs.NumberedNames.{is_input_text, begins, is_bare, not-bare, value-injective, sample-injective, part-injective}
use Rattle.lustre_lawful.proofs.Places.{all-mapped}
use Rattle.lustre_lawful.proofs.RowTexts.{own_kind, memory_texts, part_texts, child_texts, row_given}
use Rattle.lustre_lawful.proofs.ApartNumbers.{apart-numbers, apart-outports}
use Rattle.lustre_lawful.proofs.Texts.{number_text, numbered-name, letter-number, letter-numbers, number-first, number-alone}

-- ---- A row

-- the limits of a diagram that names need
pub record HasFewNumbers (d : Diagram) : Type 0 where
  pub nested : IsNested d.rows
  pub few_samples : (b : ℕ) → b < length d.rows → delay_length (op_at d b) ≤ 65535

-- the row that a text with this number belongs to: what isn't a value has the row's number, and a value that of the row or of a
-- child's Outport
abbrev pub Whose : List Row → ℕ → List ℕ → Type 0
Whose rows b x =
    ((begins 118 x ≡ false) × (number_text x ≡ decimal b))
    ⊎ ((o : ℕ) × (o < length rows) × (x ≡ value_name o) × ((o ≡ b) ⊎ ((row_at rows o).owner ≡ Some b)))

-- a name that an equation of row b gives
pub record IsRowText (rows : List Row) (b : ℕ) (x : List ℕ) : Type 0 where
  pub named : is_lustre_name x ≡ true
  pub no_input : is_input_text x ≡ false
  pub numbered : is_bare x ≡ false
  pub whose : Whose rows b x

module _ (d : Diagram) (few : HasFewNumbers d) where
  abbrev rows : List Row
  rows = d.rows

  pub small : (b : ℕ) → b < length rows → b < 2 ^ 64
  small b below = let most = few.nested.at_most in omega (arith, below, most)

  -- ---- Whose a text is

  value-text : (b o : ℕ) → o < length rows → (o ≡ b) ⊎ ((row_at rows o).owner ≡ Some b) → IsRowText rows b (value_name o)
  value-text b o below of = record {
    named = numbered-name (value_name o) (letter-number 118 o refl (small o below));
    no_input = refl;
    numbered = not-bare (value_name o) o (small o below) (number-alone 118 o (small o below));
    whose = inr (o, below, refl, of);
  }

  owner-apart : (s : Option ℕ) (b c : ℕ) → IsRowOf rows s b → IsRowOf rows s c → (row_at rows b).owner ≡ Some c → ⊥
  owner-apart s b c one two own =
      let at : (row_at rows c).owner ≡ Some c = two.own ∙ sym one.own ∙ own in
      let less = (subst (IsOwner rows c) at (few.nested.owned c two.in_table)).0 in
      omega (arith, less)

  pub one-row : (s : Option ℕ) (b c : ℕ) (x : List ℕ) → IsRowOf rows s b → IsRowOf rows s c → Whose rows b x → Whose rows c x → b ≡ c
  one-row s b c x one two (inl p) (inl q) =
      decimal_injective b c (small b one.in_table) (small c two.in_table) (sym p.1 ∙ q.1)
  one-row s b c x one two (inl p) (inr (o, below, is, of)) = absurd (true≢false (sym (ap (begins 118) is) ∙ p.0))
  one-row s b c x one two (inr (o, below, is, of)) (inl q) = absurd (true≢false (sym (ap (begins 118) is) ∙ q.0))
  one-row s b c x one two (inr (o, below, is, of)) (inr (u, under, same, also)) =
      by (value-injective o u (small o below) (small u under) (sym is ∙ same)) of also
    where
      by : o ≡ u → (o ≡ b) ⊎ ((row_at rows o).owner ≡ Some b) → (u ≡ c) ⊎ ((row_at rows u).owner ≡ Some c) → b ≡ c
      by equal (inl here) (inl there) = sym here ∙ equal ∙ there
      by equal (inl here) (inr there) =
          absurd (owner-apart s b c one two (ap (λ i. (row_at rows i).owner) (sym here ∙ equal) ∙ there))
      by equal (inr here) (inl there) =
          absurd (owner-apart s c b two one (ap (λ i. (row_at rows i).owner) (sym there ∙ sym equal) ∙ here))
      by equal (inr here) (inr there) = same_Some b c (sym here ∙ ap (λ i. (row_at rows i).owner) equal ∙ there)

  module _ (s : Option ℕ) (b : ℕ) (row : IsRowOf rows s b) where
    abbrev k : Kind
    k = own_kind d s b

    low : b < 2 ^ 64
    low = small b row.in_table

    own-text : (x : List ℕ) → is_lustre_name x ≡ true → is_input_text x ≡ false → begins 118 x ≡ false → number_text x ≡ decimal b →
        IsRowText rows b x
    own-text x named no_input no_value is = record
        { named = named; no_input = no_input; numbered = not-bare x b low is; whose = inl (no_value, is) }

    takes-text : IsRowText rows b (takes_name b)
    takes-text =
        own-text (takes_name b) (numbered-name (takes_name b) (letter-number 114 b refl low)) refl refl (number-alone 114 b low)

    sample-text : (j : ℕ) → j < 2 ^ 64 → IsRowText rows b (sample_name b j)
    sample-text zero few =
        own-text (sample_name b 0) (numbered-name (sample_name b 0) (letter-number 109 b refl low)) refl refl (number-alone 109 b low)
    sample-text (suc j) few =
        own-text (sample_name b (suc j)) (numbered-name (sample_name b (suc j)) (letter-numbers 109 b (suc j) refl low few)) refl refl
        (number-first 109 b (decimal (suc j)) low)

    part-text : (j : ℕ) → j < 2 ^ 64 → IsRowText rows b (part_name b j)
    part-text j few =
        own-text (part_name b j) (numbered-name (part_name b j) (letter-numbers 113 b j refl low few)) refl refl
        (number-first 113 b (decimal j) low)

    sample-few : (j : ℕ) → Contains (range_with_len 0 (delay_length (op_at d b))) j → j < 2 ^ 64
    sample-few j there =
        let high = (of-range 0 (delay_length (op_at d b)) j there).1 in
        let most = few.few_samples b row.in_table in omega (arith, high, most)

    part-few : (j : ℕ) → Contains (range_with_len 1 (call_count (row_code d s b))) j → j < 2 ^ 64
    part-few j there =
        let high = (of-range 1 (call_count (row_code d s b)) j there).1 in
        let most = few-calls (op_at d b) (leaves_of rows s b) (map (type_at d.types) (row_at rows b).inputs) (Child b 0) in
        omega (arith, high, most)

    children-texts : AllByRecursion (IsRowText rows b) (child_texts d s b)
    children-texts =
        all-mapped (IsRowText rows b) value_name (outports_of rows (Some b)) (λ o there.
        let m = of-ports rows (Some b) is_outport o there in value-text b o m.0 (inr m.1))

    pub row-texts : AllByRecursion (IsRowText rows b) (row_given d s b)
    row-texts =
        let value = part_texts d s b ++ value_name b ∷ [] in
        let children = only_if (is_subsystem k) (child_texts d s b) in
        all-after (IsRowText rows b) (only_if (is_delay (op_at d b)) (memory_texts d s b)) (only_if (has_value k) value ++ children)
        (all-only (IsRowText rows b) (is_delay (op_at d b)) (memory_texts d s b) (λ is. (
          takes-text,
          all-mapped (IsRowText rows b) (sample_name b) (range_with_len 0 (delay_length (op_at d b)))
              (λ j there. sample-text j (sample-few j there)),
        )))
        (all-after (IsRowText rows b) (only_if (has_value k) value) (only_if (is_subsystem k) (child_texts d s b))
        (all-only (IsRowText rows b) (has_value k) value (λ is.
        all-after (IsRowText rows b) (part_texts d s b) (value_name b ∷ [])
        (all-mapped (IsRowText rows b) (part_name b) (range_with_len 1 (call_count (row_code d s b)))
        (λ j there. part-text j (part-few j there)))
        (value-text b b row.in_table (inl refl), tt)))
        (all-only (IsRowText rows b) (is_subsystem k) (child_texts d s b) (λ is. children-texts)))

    -- ---- Each is given once

    abbrev is_memory : List ℕ → Bool
    is_memory x = begins 114 x || begins 109 x

    sample-begins : (j : ℕ) → begins 114 (sample_name b j) ≡ false
    sample-begins zero = refl
    sample-begins (suc j) = refl

    sample-memory : (j : ℕ) → is_memory (sample_name b j) ≡ true
    sample-memory zero = refl
    sample-memory (suc j) = refl

    memory-once : Once (memory_texts d s b)
    memory-once =
        once-beside (begins 114) (takes_name b ∷ []) (samples d s b) (refl, tt)
        (all-mapped (λ x. begins 114 x ≡ false) (sample_name b) (range_with_len 0 (delay_length (op_at d b))) (λ j there. sample-begins j))
        (once-single (takes_name b))
        (once-mapped (sample_name b) (range_with_len 0 (delay_length (op_at d b))) (apart-numbers 0 (delay_length (op_at d b)))
        (λ i j h m. sample-injective b i j (sample-few i h) (sample-few j m)))

    parts-once : Once (part_texts d s b ++ value_name b ∷ [])
    parts-once =
        once-beside (begins 113) (part_texts d s b) (value_name b ∷ [])
        (all-mapped (λ x. begins 113 x ≡ true) (part_name b) (range_with_len 1 (call_count (row_code d s b))) (λ j there. refl)) (refl, tt)
        (once-mapped (part_name b) (range_with_len 1 (call_count (row_code d s b))) (apart-numbers 1 (call_count (row_code d s b)))
        (λ i j h m. part-injective b i j (part-few i h) (part-few j m))) (once-single (value_name b))

    children-once : Once (child_texts d s b)
    children-once =
        once-mapped value_name (outports_of rows (Some b)) (apart-outports rows (Some b))
        (λ i j h m. value-injective i j (small i (of-ports rows (Some b) is_outport i h).0) (small j (of-ports rows (Some b) is_outport j m).0))

    once-only : (t : Bool) (ts : List (List ℕ)) → Once ts → Once (only_if t ts)
    once-only true ts once = once
    once-only false ts once = once-none

    values-once : (has sub : Bool) → (has ≡ true → sub ≡ true → ⊥) →
        Once (only_if has (part_texts d s b ++ value_name b ∷ []) ++ only_if sub (child_texts d s b))
    values-once true true never = absurd (never refl refl)
    values-once true false never = subst Once (sym (append-nil (part_texts d s b ++ value_name b ∷ []))) parts-once
    values-once false sub never = once-only sub (child_texts d s b) children-once

    never-both : (k : Kind) → has_value k ≡ true → is_subsystem k ≡ true → ⊥
    never-both (SubSystem control) has sub = true≢false (sym has)
    never-both _ has sub = true≢false (sym sub)

    pub row-once : Once (row_given d s b)
    row-once =
        let value = part_texts d s b ++ value_name b ∷ [] in
        once-beside is_memory (only_if (is_delay (op_at d b)) (memory_texts d s b))
        (only_if (has_value k) value ++ only_if (is_subsystem k) (child_texts d s b))
        (all-only (λ x. is_memory x ≡ true) (is_delay (op_at d b)) (memory_texts d s b) (λ is. (
          refl,
          all-mapped (λ x. is_memory x ≡ true) (sample_name b) (range_with_len 0 (delay_length (op_at d b)))
              (λ j there. sample-memory j),
        )))
        (all-after (λ x. is_memory x ≡ false) (only_if (has_value k) value) (only_if (is_subsystem k) (child_texts d s b))
        (all-only (λ x. is_memory x ≡ false) (has_value k) value (λ is.
        all-after (λ x. is_memory x ≡ false) (part_texts d s b) (value_name b ∷ [])
        (all-mapped (λ x. is_memory x ≡ false) (part_name b) (range_with_len 1 (call_count (row_code d s b))) (λ j there. refl))
        (refl, tt)))
        (all-only (λ x. is_memory x ≡ false) (is_subsystem k) (child_texts d s b) (λ is.
        all-mapped (λ x. is_memory x ≡ false) value_name (outports_of rows (Some b)) (λ o there. refl))))
        (once-only (is_delay (op_at d b)) (memory_texts d s b) memory-once) (values-once (has_value k) (is_subsystem k) (never-both k))
