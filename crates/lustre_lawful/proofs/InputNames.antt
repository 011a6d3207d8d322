-- The names of a system's inputs: they are lawful, different, and told from others by their first letters.
use Rattle.std.specs.Prelude.{◌≡◌, ℕ, ◌^◌, ◌<◌, ◌≤◌, Bool, true, false, ◌||◌, List, [], ◌∷◌, ◌++◌, map, length, Contains, Option}
use Rattle.std.specs.List.{AllByRecursion, range_with_len}
use Rattle.std.proofs.Common.{refl, sym, ◌∙◌, ap, subst, arith}
use Rattle.std.proofs.lemmas.Fmt.{decimal_injective}
use Rattle.std.proofs.lemmas.List.{map-append}
use Rattle.base_core.specs.Ports.{control_ports}
use Rattle.base_core.specs.declared.Control.{Control}
use Rattle.base_core.specs.declared.Control.TheVariants.{Plain, Enabled, Triggered, Both}
use Rattle.base_core.specs.declared.Port.TheVariants.{Number, Enable, Trigger}
use Rattle.diagram_meaning.specs.declared.Row.{Row}
use Rattle.diagram_meaning.specs.Rows.{inports_of, system_control}
use Rattle.emit_shape.specs.Names.{input_name, port_name, now_name}
use Rattle.modules_profile.proofs.lemmas.Members.{of-range}
use Rattle.lustre_syntax.specs.Names.{is_lustre_name}
use Rattle.lustre_system.specs.Names.{around_active, around_off, port_names}
use Rattle.lustre_rows.proofs.lemmas.Lists.{all-after}
use Rattle.lustre_lawful.proofs.ApartNumbers.{apart-numbers}
use Rattle.lustre_lawful.proofs.Counts.{Once, once-none, once-single, once-beside, once-mapped, once-from}
use Rattle.lustre_lawful.proofs.Places.{all-mapped}
use Rattle.lustre_lawful.proofs.NumberedNames.{is_input_text, begins}
use Rattle.lustre_lawful.proofs.Texts.{number_text, numbered-name, letter-number, number-alone}

abbrev pub IsNamed : List ℕ → Type 0
IsNamed x = is_lustre_name x ≡ true

input-injective : (j k : ℕ) → j < 2 ^ 64 → k < 2 ^ 64 → input_name j ≡ input_name k → j ≡ k
input-injective j k low high same =
    decimal_injective j k low high (sym (number-alone 117 j low) ∙ ap number_text same ∙ number-alone 117 k high)

abbrev numbered : ℕ → List (List ℕ)
numbered n = map input_name (range_with_len 1 n)

abbrev controls : Control → List (List ℕ)
controls c = map (port_name c) (control_ports c)

controls-once : (c : Control) → Once (controls c)
controls-once Plain = once-none
controls-once (Enabled reset) = once-single (port_name (Enabled reset) Enable)
controls-once (Triggered edge) = once-single (port_name (Triggered edge) Trigger)
controls-once (Both reset edge) = once-from (controls (Both reset edge)) (refl, refl, (refl, refl, tt))

controls-begin : (c : Control) → AllByRecursion (λ x. begins 117 x ≡ false) (controls c)
controls-begin Plain = tt
controls-begin (Enabled reset) = (refl, tt)
controls-begin (Triggered edge) = (refl, tt)
controls-begin (Both reset edge) = (refl, (refl, tt))

-- those of n inputs and of a control
module _ (n : ℕ) (few : n ≤ 32) where
  input-few : (k : ℕ) → Contains (range_with_len 1 n) k → k < 2 ^ 64
  input-few k there = let high = (of-range 1 n k there).1 in omega (arith, high, few)

  -- what holds of each kind of name holds of all
  each-port : (P : List ℕ → Type 0) → ((k : ℕ) → k < 2 ^ 64 → P (input_name k)) → ((c : Control) → AllByRecursion P (controls c)) →
      (c : Control) → AllByRecursion P (numbered n ++ controls c)
  each-port P inputs others c =
      all-after P (numbered n) (controls c) (all-mapped P input_name (range_with_len 1 n) (λ k there. inputs k (input-few k there)))
      (others c)

  ports-once : (c : Control) → Once (numbered n ++ controls c)
  ports-once c =
      once-beside (begins 117) (numbered n) (controls c)
      (all-mapped (λ x. begins 117 x ≡ true) input_name (range_with_len 1 n) (λ k there. refl)) (controls-begin c)
      (once-mapped input_name (range_with_len 1 n) (apart-numbers 1 n)
      (λ j k h m. input-injective j k (input-few j h) (input-few k m))) (controls-once c)

port-names : (rows : List Row) (s : Option ℕ) →
    port_names rows s ≡ numbered (length (inports_of rows s)) ++ controls (system_control rows s)
port-names rows s =
    let c = system_control rows s in
    let ks = range_with_len 1 (length (inports_of rows s)) in
    map-append (port_name c) (map Number ks) (control_ports c)
    ∙ ap (λ ts. ts ++ map (port_name c) (control_ports c)) (by c ks)
  where
    by : (c : Control) (ks : List ℕ) → map (port_name c) (map Number ks) ≡ map input_name ks
    by c [] = refl
    by c (k ∷ ks) = ap (λ ts. input_name k ∷ ts) (by c ks)

module _ (rows : List Row) (s : Option ℕ) (few : length (inports_of rows s) ≤ 32) where
  -- what holds of each kind of name holds of a system's inputs
  pub each-port_name : (P : List ℕ → Type 0) → ((k : ℕ) → k < 2 ^ 64 → P (input_name k)) →
      ((c : Control) → AllByRecursion P (map (port_name c) (control_ports c))) → AllByRecursion P (port_names rows s)
  each-port_name P inputs others =
      subst (AllByRecursion P) (sym (port-names rows s)) (each-port (length (inports_of rows s)) few P inputs others (system_control rows s))

  pub port-names_named : AllByRecursion IsNamed (port_names rows s)
  port-names_named = each-port_name IsNamed (λ k low. numbered-name (input_name k) (letter-number 117 k refl low)) by
    where
      by : (c : Control) → AllByRecursion IsNamed (map (port_name c) (control_ports c))
      by Plain = tt
      by (Enabled reset) = (refl, tt)
      by (Triggered edge) = (refl, tt)
      by (Both reset edge) = (refl, (refl, tt))

  pub port-names_once : Once (port_names rows s)
  port-names_once = subst Once (sym (port-names rows s)) (ports-once (length (inports_of rows s)) few (system_control rows s))

  -- a test that tells the inputs of a system from other names by the first letter
  pub port-names_told : (test : List ℕ → Bool) (b : Bool) → ((k : ℕ) → test (input_name k) ≡ b) →
      ((c : Control) → AllByRecursion (λ x. test x ≡ b) (map (port_name c) (control_ports c))) →
      AllByRecursion (λ x. test x ≡ b) (port_names rows s)
  port-names_told test b inputs others = each-port_name (λ x. test x ≡ b) (λ k low. inputs k) others

  abbrev first_inputs : List (List ℕ)
  first_inputs = now_name ∷ around_active ∷ around_off ∷ []

  abbrev pub input_texts : List (List ℕ)
  input_texts = first_inputs ++ port_names rows s

  abbrev is_first : List ℕ → Bool
  is_first x = begins 110 x || begins 111 x

  pub inputs-named : AllByRecursion IsNamed input_texts
  inputs-named = (refl, (refl, (refl, port-names_named)))

  pub inputs-told : AllByRecursion (λ x. is_input_text x ≡ true) input_texts
  inputs-told = (refl, (refl, (refl, port-names_told is_input_text true (λ k. refl) by)))
    where
      by : (c : Control) → AllByRecursion (λ x. is_input_text x ≡ true) (map (port_name c) (control_ports c))
      by Plain = tt
      by (Enabled reset) = (refl, tt)
      by (Triggered edge) = (refl, tt)
      by (Both reset edge) = (refl, (refl, tt))

  pub inputs-once : Once input_texts
  inputs-once =
      once-beside is_first first_inputs (port_names rows s) (refl, (refl, (refl, tt))) (port-names_told is_first false (λ k. refl) by)
      (once-from first_inputs (refl, refl, (refl, refl, (refl, refl, tt)))) port-names_once
    where
      by : (c : Control) → AllByRecursion (λ x. is_first x ≡ false) (map (port_name c) (control_ports c))
      by Plain = tt
      by (Enabled reset) = (refl, tt)
      by (Triggered edge) = (refl, tt)
      by (Both reset edge) = (refl, (refl, tt))
