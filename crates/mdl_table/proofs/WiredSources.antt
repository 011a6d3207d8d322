-- What the sources of lines name: blocks of the system, and outputs that these have.
use Rattle.std.proofs.Common.{◌≡◌, refl, sym, ◌∙◌, ap₂, subst, ℕ, ◌<◌, ◌≤◌, Bool, true, false, cond, List, [], ◌∷◌, map, Option, None, Some, codes}
use Rattle.std.specs.Prelude.{find, filter_map, flat_map, option_map, option_and_then, slice_get}
use Rattle.std.specs.List.{AllByRecursion}
use Rattle.mdl_tree.specs.Spelling.{Items}
use Rattle.mdl_tree.specs.Walks.{SectionTree, first_value}
use Rattle.mdl_blocks.specs.Words.{number_up_to}
use Rattle.mdl_wiring.specs.declared.member.Shape.{Shape}
use Rattle.mdl_wiring.specs.declared.ports.Source.{Source}
use Rattle.mdl_wiring.specs.Members.{Member, place_of, output_count}
use Rattle.mdl_wiring.specs.Lines.{Place, LineEnd, lines_in, parts_of_line, member_named, target_of, source_of, ends_from, ends_of_line, ends_in}
use Rattle.mdl_wiring.specs.Ports.{output_named, output_at}
use Rattle.mdl_wiring.specs.Refusals.{numbers_of}
use Rattle.mdl_wiring.specs.Wiring.{sources_of}
use Rattle.mdl_table.proofs.PortReads.{none-some, some-same, number-up-to}
use Rattle.mdl_table.proofs.WiredLists.{all-append, all-given}

-- a source is an output that one of these blocks has
abbrev pub IsOutput : List Member → Source → Type 0
IsOutput ms s = (m : Member) × (slice_get ms s.member ≡ Some m) × (0 < s.output) × (s.output ≤ output_count m.shape)

-- what output a place names, one of these blocks has
abbrev IsFrom : List Member → Place → Type 0
IsFrom ms p = (s : Source) → output_at p ≡ Some s → IsOutput ms s

-- a source with this block and this output
abbrev source_with : (member output : ℕ) → Source
source_with member output = record { member = member; output = output }

-- a block that is there has the outputs that a text may name
output-there : (ms : List Member) (at : ℕ) (m : Member) (text : List ℕ) (s : Source) (o : Option ℕ) → slice_get ms at ≡ Some m →
    number_up_to (output_count m.shape) text ≡ o → option_map (source_with at) o ≡ Some s → IsOutput ms s
output-there ms at m text s None here p e = absurd (none-some s e)
output-there ms at m text s (Some k) here p e =
    let range = number-up-to (output_count m.shape) text k p in
    subst (IsOutput ms) (some-same (source_with at k) s e) (m, here, range.0, range.1)

-- of a block in any form that says its place and its ports
output-from : {N : Type 0} (at_of : N → ℕ) (shape : N → Shape) (make : ℕ → Member → N) (ms : List Member) (place : Option ℕ)
    (port : Option (List ℕ)) (s : Source) →
    option_and_then (λ b. option_map (source_with (at_of b)) (option_and_then (output_named (shape b)) port))
    (option_and_then (λ at. option_map (make at) (slice_get ms at)) place) ≡ Some s →
    ((at : ℕ) (m : Member) → at_of (make at m) ≡ at) → ((at : ℕ) (m : Member) → shape (make at m) ≡ m.shape) → IsOutput ms s
output-from {N} at_of shape make ms None port s e same_at same_shape = absurd (none-some s e)
output-from {N} at_of shape make ms (Some at) port s e same_at same_shape = by (slice_get ms at) refl e
  where
    said : (m : Member) (o : Option (List ℕ)) → slice_get ms at ≡ Some m →
        option_map (source_with at) (option_and_then (output_named m.shape) o) ≡ Some s → IsOutput ms s
    said m None here e = absurd (none-some s e)
    said m (Some text) here e = output-there ms at m text s (number_up_to (output_count m.shape) text) here refl e

    by : (o : Option Member) → slice_get ms at ≡ o →
        option_and_then (λ b. option_map (source_with (at_of b)) (option_and_then (output_named (shape b)) port))
        (option_map (make at) o) ≡ Some s →
        IsOutput ms s
    by None p e = absurd (none-some s e)
    by (Some m) p e =
        let same = ap₂ (λ n sh. option_map (source_with n) (option_and_then (output_named sh) port)) (same_at at m) (same_shape at m) in
        said m port p (sym same ∙ e)

-- a place that names a block by its name
place-from : (ms : List Member) (name : List ℕ) (line : ℕ) (port : Option (List ℕ)) →
    IsFrom ms (record { line = line; named = member_named ms name; port = port })
place-from ms name line port s e = output-from (λ b. b.at) (λ b. b.shape) _ ms (place_of name ms) port s e (λ at m. refl) (λ at m. refl)

-- the place that a line names by this name
abbrev place_by : List Member → SectionTree → List ℕ → Place
place_by ms line name = record { line = line.line; named = member_named ms name; port = first_value (codes "SrcPort") line.items }

-- the source of a line
source-from : (ms : List Member) (line : SectionTree) (p : Place) → source_of ms line ≡ Some p → IsFrom ms p
source-from ms line p e = by (first_value (codes "SrcBlock") line.items) e
  where
    by : (o : Option (List ℕ)) → option_map (place_by ms line) o ≡ Some p → IsFrom ms p
    by None e = absurd (none-some p e)
    by (Some name) e =
        subst (IsFrom ms) (some-same (place_by ms line name) p e)
        (place-from ms name line.line (first_value (codes "SrcPort") line.items))

-- the sources of line ends
abbrev AllFrom : List Member → List LineEnd → Type 0
AllFrom ms ends = AllByRecursion (λ (e : LineEnd). IsFrom ms e.source) ends

ends-to : (ms : List Member) (p : Place) → IsFrom ms p → (targets : List Place) →
    AllFrom ms (map (λ target. record { source = p; target = target }) targets)
ends-to ms p is [] = tt
ends-to ms p is (t ∷ targets) = (is, ends-to ms p is targets)

line-from : (ms : List Member) (line : SectionTree) (o : Option Place) → source_of ms line ≡ o → AllFrom ms (ends_from ms o line)
line-from ms line None e = tt
line-from ms line (Some p) e = ends-to ms p (source-from ms line p e) (filter_map (target_of ms) (parts_of_line line))

lines-from : (ms : List Member) (lines : List SectionTree) → AllFrom ms (flat_map (ends_of_line ms) lines)
lines-from ms [] = tt
lines-from ms (line ∷ lines) =
    all-append (λ (e : LineEnd). IsFrom ms e.source) (ends_of_line ms line) (flat_map (ends_of_line ms) lines)
    (line-from ms line (source_of ms line) refl) (lines-from ms lines)

-- the source of the first of some line ends that pass a test
into : (ms : List Member) (leads : LineEnd → Bool) (ends : List LineEnd) → AllFrom ms ends → (s : Source) →
    option_and_then (λ (e : LineEnd). output_at e.source) (find leads ends) ≡ Some s → IsOutput ms s
into ms leads [] all s e = absurd (none-some s e)
into ms leads (x ∷ ends) all s e = by (leads x) e (into ms leads ends all.1 s)
  where
    by : (t : Bool) → option_and_then (λ (e : LineEnd). output_at e.source) (cond t (Some x) (find leads ends)) ≡ Some s →
        (option_and_then (λ (e : LineEnd). output_at e.source) (find leads ends) ≡ Some s → IsOutput ms s) → IsOutput ms s
    by true e later = all.0 s e
    by false e later = later e

-- all sources of a block are outputs that blocks of its system have
pub sources-there : (ms : List Member) (items : Items) (at : ℕ) (m : Member) →
    AllByRecursion (IsOutput ms) (sources_of (ends_in ms items) at m)
sources-there ms items at m =
    all-given (IsOutput ms) _ (numbers_of m) (λ number s e. into ms _ (ends_in ms items) (lines-from ms (lines_in items)) s e)
