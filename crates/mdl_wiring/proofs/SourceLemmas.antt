-- One source is read by each input where nothing is refused.
use Rattle.std.proofs.Common.{◌≡◌, refl, sym, ◌∙◌, ap, ℕ, suc, zero, ◌+◌, ◌<◌, ◌≤◌, Bool, true, false, ◌||◌, cond, true≢false, List, [], ◌∷◌, ◌++◌, length, Option, None, Some, is_some, arith, map}
use Rattle.std.specs.Prelude.{⊤, find, filter_map, flat_map, option_and_then, option_to_list, is_none}
use Rattle.std.specs.List.{list_any, range_with_len}
use Rattle.base_refusals.specs.Refusals.{NoPort}
use Rattle.base_refusals.specs.FirstRefusal.{least_in}
use Rattle.base_refusals.proofs.lemmas.FirstRefusals.{none-first, none-later, least-append}
use Rattle.mdl_tree.specs.Walks.{SectionTree}
use Rattle.mdl_wiring.specs.declared.ports.Input.{Input}
use Rattle.mdl_wiring.specs.declared.ports.Source.{Source}
use Rattle.mdl_wiring.specs.Members.{Member, port_count}
use Rattle.mdl_wiring.specs.Lines.{Place, LineEnd, lines_in, parts_of_line, target_of, source_of, ends_from, ends_of_line, sources_in, ends_in}
use Rattle.mdl_wiring.specs.Ports.{leads_to, output_at}
use Rattle.mdl_wiring.specs.Refusals.{no_output, missing_blocks, missing_ports, double_sources, unconnected_ports, double_names, lines_refusal}
use Rattle.mdl_wiring.specs.Wiring.{source_into}
use Rattle.mdl_wiring.specs.Laws.{EachInputHasOneSource}
use Rattle.mdl_wiring.proofs.LineLemmas.{or-first, or-later, some-line}

-- the sources of these line ends have their ports
abbrev HaveOutputs : List LineEnd → Type 0
HaveOutputs [] = ⊤
HaveOutputs (e ∷ ends) = (is_some (output_at e.source) ≡ true) × HaveOutputs ends

both : (xs ys : List LineEnd) → HaveOutputs xs → HaveOutputs ys → HaveOutputs (xs ++ ys)
both [] ys h k = k
both (x ∷ xs) ys h k = (h.0, both xs ys h.1 k)

-- all ends of a line lead from its source
of-source : (source : Place) (targets : List Place) → is_some (output_at source) ≡ true →
    HaveOutputs (map (λ target. record { source = source; target = target }) targets)
of-source source [] h = tt
of-source source (t ∷ targets) h = (h, of-source source targets h)

there : (o : Option Source) (line : ℕ) → cond (is_none o) (Some (NoPort line)) None ≡ None → is_some o ≡ true
there None line e = cc
there (Some s) line e = refl

-- of one line
of-line : (ms : List Member) (line : SectionTree) (source : Option Place) → least_in no_output (option_to_list source) ≡ None →
    HaveOutputs (ends_from ms source line)
of-line ms line None none = tt
of-line ms line (Some source) none =
    of-source source (filter_map (target_of ms) (parts_of_line line))
    (there (output_at source) source.line (none-first (no_output source) None none))

-- of all lines
of-lines : (ms : List Member) (lines : List SectionTree) →
    least_in no_output (flat_map (λ line. option_to_list (source_of ms line)) lines) ≡ None →
    HaveOutputs (flat_map (ends_of_line ms) lines)
of-lines ms [] none = tt
of-lines ms (line ∷ lines) none =
    let here = option_to_list (source_of ms line) in
    let rest = flat_map (λ line. option_to_list (source_of ms line)) lines in
    let split = sym (least-append no_output here rest) ∙ none in
    both (ends_of_line ms line) (flat_map (ends_of_line ms) lines)
    (of-line ms line (source_of ms line) (none-first (least_in no_output here) (least_in no_output rest) split))
    (of-lines ms lines (none-later (least_in no_output here) (least_in no_output rest) split))

-- the source of the first line end that leads to an input
found-source : (input : Input) (ends : List LineEnd) → HaveOutputs ends → list_any (leads_to input) ends ≡ true →
    is_some (source_into ends input) ≡ true
found-source input [] h e = absurd (true≢false (sym e))
found-source input (x ∷ ends) h e = by (leads_to input x) e (found-source input ends h.1)
  where
    by : (t : Bool) → (t || list_any (leads_to input) ends) ≡ true →
        (list_any (leads_to input) ends ≡ true → is_some (source_into ends input) ≡ true) →
        is_some (option_and_then (λ (e : LineEnd). output_at e.source) (cond t (Some x) (find (leads_to input) ends))) ≡ true
    by true e later = h.0
    by false e later = later e

-- a source for each of some numbers
all-found : (source : ℕ → Option Source) (a n : ℕ) → ((k : ℕ) → a ≤ k → k < a + n → is_some (source k) ≡ true) →
    length (filter_map source (range_with_len a n)) ≡ n
all-found source a zero all = refl
all-found source a (suc n) all =
    by (source a) refl (all a (omega arith) (omega arith))
    (all-found source (a + 1) n (λ k low high. all k (omega (arith, low)) (omega (arith, high))))
  where
    rest : List Source
    rest = filter_map source (range_with_len (a + 1) n)

    taken : (s : Source) → source a ≡ Some s → filter_map source (range_with_len a (suc n)) ≡ s ∷ rest
    taken s e = cc

    by : (o : Option Source) → source a ≡ o → is_some o ≡ true → length rest ≡ n →
        length (filter_map source (range_with_len a (suc n))) ≡ suc n
    by None e some same = absurd (true≢false (sym some))
    by (Some s) e some same = ap length (taken s e) ∙ ap suc same

pub one_source : EachInputHasOneSource
one_source is_root ms items none at m here =
    let sources = sources_in ms items in
    let ends = ends_in ms items in
    let lines = or-first (lines_refusal is_root ms sources ends) None (or-later (double_names ms) _ none) in
    let ports = or-later (missing_blocks sources ends) _ lines in
    let doubles = or-later (missing_ports sources ends) _ ports in
    let loose = or-later (double_sources ends) _ doubles in
    let outputs =
    of-lines ms (lines_in items)
    (none-first (least_in no_output sources) _ (or-first (missing_ports sources ends) _ ports)) in
    all-found (λ number. source_into ends (record { member = at; number = number })) 1 (port_count m.shape)
    (λ number low high. found-source (record { member = at; number = number }) ends outputs
    (some-line ends ms (or-first (unconnected_ports ends ms) _ loose) at m number here low (omega (arith, high))))
