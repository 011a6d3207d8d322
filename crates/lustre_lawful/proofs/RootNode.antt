-- The root of a file is lawful.
use Rattle.std.specs.Prelude.{◌≡◌, ℕ, ◌^◌, ◌<◌, ◌≤◌, Bool, true, false, not, ◌||◌, List, [], ◌∷◌, ◌++◌, map, flat_map, length, Contains, Some, None, slice_get}
use Rattle.std.specs.List.{AllByRecursion, range_with_len}
use Rattle.std.proofs.Common.{refl, sym, ◌∙◌, ap, ap₂, subst, arith}
use Rattle.std.proofs.lemmas.Bool.{and_from, leb-true}
use Rattle.std.proofs.lemmas.Fmt.{decimal_injective}
use Rattle.std.proofs.lemmas.List.{map-append, append-nil, append_assoc, length-map}
use Rattle.std.proofs.lemmas.List.Elements.{Contains-append_left, Contains-append_right}
use Rattle.std.proofs.lemmas.List.FromFn.{length-range_with_len}
use Rattle.c_syntax.specs.Outputs.{has_name, output_name}
use Rattle.base_core.specs.Ports.{control_ports}
use Rattle.base_core.specs.declared.Control.{Control}
use Rattle.base_core.specs.declared.Control.TheVariants.{Plain, Enabled, Triggered, Both}
use Rattle.diagram_meaning.specs.Rows.{inports_of, outports_of}
use Rattle.diagram_meaning.specs.Diagram.{Diagram}
use Rattle.modules_profile.specs.Systems.{system_name}
use Rattle.modules_profile.proofs.lemmas.Members.{in-first, in-rest, of-range}
use Rattle.emit_shape.specs.Names.{now_name, root_name, port_name, value_name}
use Rattle.lustre_syntax.specs.Names.{is_lustre_name}
use Rattle.lustre_syntax.specs.Tree.{ValueType, int, ExprTree, Declared, truth, name, NodeTree, given_by, texts_of, types_of, node_texts}
use Rattle.lustre_syntax.specs.Named.{NamedExpr, NamedNode, renamed, place_of, all_names, placed_node}
use Rattle.lustre_syntax.specs.Typing.{type_at, fits, all_fit, have_types, input_types, output_types}
use Rattle.lustre_syntax.specs.Lawful.{IsWritable, IsLawfulNode, expr_limit}
use Rattle.lustre_system.specs.File.{next_now, output_names, root_node}
use Rattle.lustre_system.specs.Functions.{int_name}
use Rattle.lustre_system.specs.Names.{port_names}
use Rattle.lustre_system.specs.SystemNodes.{system_node}
use Rattle.lustre_rows.proofs.lemmas.Lists.{all-after}
use Rattle.lustre_rows.proofs.lemmas.NamePlaces.{texts-int}
use Rattle.lustre_lawful.proofs.Counts.{times, Once, times-append, once-beside, once-single, once-mapped, distinct-from}
use Rattle.lustre_lawful.proofs.IntTypes.{AreInts, ints-mapped, ints-append, int-there, int-at, have-ints, name-fits, names-fit, inputs-typed, outputs-typed}
use Rattle.lustre_lawful.proofs.Places.{gives-names, place-below, all-mapped}
use Rattle.lustre_lawful.proofs.NumberedNames.{begins}
use Rattle.lustre_lawful.proofs.InputNames.{port-names_named, port-names_once, port-names_told}
use Rattle.lustre_lawful.proofs.ApartNumbers.{apart-numbers}
use Rattle.lustre_lawful.proofs.Texts.{number_text, numbered-name, letter-number, number-alone}

module _ (d : Diagram) (hyper : ℕ) (few : length (inports_of d.rows None) ≤ 32) (few_outputs : length (outports_of d.rows None) ≤ 32) where
  abbrev root : NamedNode
  root = root_node d hyper

  abbrev ports : List (List ℕ)
  ports = port_names d.rows None

  abbrev outs : List (List ℕ)
  outs = output_names d

  abbrev names : List Declared
  names = all_names root

  abbrev texts : List (List ℕ)
  texts = texts_of names

  abbrev types : List ValueType
  types = types_of names

  abbrev place : List ℕ → ℕ
  place t = place_of texts t

  abbrev many : ℕ
  many = length (outports_of d.rows None)

  -- ---- Names

  texts-are : texts ≡ ports ++ (outs ++ now_name ∷ [])
  texts-are =
      ap texts_of (append_assoc (map int_name ports) (map int_name outs) (int_name now_name ∷ []))
      ∙ map-append (λ (x : Declared). x.text) (map int_name ports) (map int_name outs ++ int_name now_name ∷ [])
      ∙ ap₂ ◌++◌ (texts-int ports)
      (map-append (λ (x : Declared). x.text) (map int_name outs) (int_name now_name ∷ []) ∙ ap (λ ts. ts ++ now_name ∷ []) (texts-int outs))

  output-few : (k : ℕ) → Contains (range_with_len 1 many) k → k < 2 ^ 64
  output-few k there = let high = (of-range 1 many k there).1 in omega (arith, high, few_outputs)

  outs-once : Once outs
  outs-once =
      once-mapped output_name (range_with_len 1 many) (apart-numbers 1 many)
      (λ j k h m same. decimal_injective j k (output-few j h) (output-few k m)
      (sym (number-alone 121 j (output-few j h)) ∙ ap number_text same ∙ number-alone 121 k (output-few k m)))

  outs-named : AllByRecursion (λ t. is_lustre_name t ≡ true) outs
  outs-named =
      all-mapped (λ t. is_lustre_name t ≡ true) output_name (range_with_len 1 many)
      (λ k there. numbered-name (output_name k) (letter-number 121 k refl (output-few k there)))

  outs-begin : AllByRecursion (λ t. begins 121 t ≡ true) outs
  outs-begin = all-mapped (λ t. begins 121 t ≡ true) output_name (range_with_len 1 many) (λ k there. refl)

  abbrev is_port : List ℕ → Bool
  is_port t = not (begins 121 t || begins 110 t)

  ports-told : (c : Control) → AllByRecursion (λ t. is_port t ≡ true) (map (port_name c) (control_ports c))
  ports-told Plain = tt
  ports-told (Enabled reset) = (refl, tt)
  ports-told (Triggered edge) = (refl, tt)
  ports-told (Both reset edge) = (refl, (refl, tt))

  texts-once : Once texts
  texts-once =
      subst Once (sym texts-are)
      (once-beside is_port ports (outs ++ now_name ∷ []) (port-names_told d.rows None few is_port true (λ k. refl) ports-told)
      (all-after (λ t. is_port t ≡ false) outs (now_name ∷ [])
      (all-mapped (λ t. is_port t ≡ false) output_name (range_with_len 1 many) (λ k there. refl)) (refl, tt))
      (port-names_once d.rows None few)
      (once-beside (begins 121) outs (now_name ∷ []) outs-begin (refl, tt) outs-once (once-single now_name)))

  texts-named : AllByRecursion (λ t. is_lustre_name t ≡ true) texts
  texts-named =
      subst (AllByRecursion (λ t. is_lustre_name t ≡ true)) (sym texts-are)
      (all-after (λ t. is_lustre_name t ≡ true) ports (outs ++ now_name ∷ []) (port-names_named d.rows None few)
      (all-after (λ t. is_lustre_name t ≡ true) outs (now_name ∷ []) outs-named (refl, tt)))

  given-same : (x : List ℕ) → times x (texts_of (root.outputs ++ root.others)) ≡ times x (flat_map given_by root.equations)
  given-same x =
      let one = ap (times x)
      (map-append (λ (y : Declared). y.text) (map int_name outs) (int_name now_name ∷ []) ∙ ap (λ ts. ts ++ now_name ∷ []) (texts-int outs)) in
      let two = times-append x outs (now_name ∷ []) in
      let three = times-append x (now_name ∷ []) (outs ++ []) in
      let four = ap (times x) (append-nil outs) in
      omega (arith, one, two, three, four)

  -- ---- Types

  all-int : AreInts types
  all-int =
      ints-append (map int_name ports ++ map int_name outs) (int_name now_name ∷ [])
      (ints-append (map int_name ports) (map int_name outs) (ints-mapped (λ t. t) ports) (ints-mapped (λ t. t) outs)) (refl, tt)

  place-low : (t : List ℕ) → Contains texts t → place t < length names
  place-low t there = subst (λ n. place t < n) (length-map names (λ (x : Declared). x.text)) (place-below texts t there)

  int-of : (t : List ℕ) → Contains texts t → slice_get types (place t) ≡ Some int
  int-of t there =
      let same = length-map names (λ (x : Declared). x.type) in
      let low = place-low t there in
      int-there types (place t) all-int (omega (arith, same, low))

  now-there : Contains texts now_name
  now-there =
      subst (λ ts. Contains ts now_name) (sym texts-are)
      (Contains-append_right ports (outs ++ now_name ∷ []) now_name
      (Contains-append_right outs (now_name ∷ []) now_name (in-first now_name [])))

  port-there : (t : List ℕ) → Contains ports t → Contains texts t
  port-there t there = subst (λ ts. Contains ts t) (sym texts-are) (Contains-append_left ports (outs ++ now_name ∷ []) t there)

  abbrev counting : ExprTree
  counting = renamed place (next_now hyper)

  now-typed : fits (slice_get types) counting (type_at types (place now_name)) ≡ true
  now-typed =
      ap (fits (slice_get types) counting) (int-at types (place now_name) all-int)
      ∙ ap (λ o. fits (λ (j : ℕ). o) counting int) (int-of now_name now-there)

  abbrev top : NamedNode
  top = system_node d None

  abbrev arguments : List NamedExpr
  arguments = name now_name ∷ truth true ∷ truth false ∷ map name ports

  top-fits : (callees : List (List ℕ)) →
      all_fit (slice_get types) (map (renamed place) arguments) (input_types (placed_node callees top)) ≡ true
  top-fits callees =
      ap (all_fit (slice_get types) (map (renamed place) arguments)) (inputs-typed callees top)
      ∙ and_from (fits (slice_get types) (name (place now_name)) int) _ (name-fits types (place now_name) (int-of now_name now-there))
      (names-fit types place ports (λ t there. int-of t (port-there t there)))

  top-given : (callees : List (List ℕ)) → have_types types (map place outs) (output_types (placed_node callees top)) ≡ true
  top-given callees =
      ap (have_types types (map place outs)) (outputs-typed callees top)
      ∙ have-ints types (map place outs) (types_of top.outputs) all-int
      (length-map outs place ∙ length-map (range_with_len 1 many) output_name ∙ length-range_with_len 1 many
      ∙ sym (length-map (outports_of d.rows None) (λ o. int_name (value_name o)))
      ∙ sym (length-map top.outputs (λ (x : Declared). x.type)))
      (ints-mapped value_name (outports_of d.rows None))

  -- ---- Expressions that can be written

  module _ (short : hyper < 2 ^ 63) where
    counting-writable : IsWritable (length names) counting
    counting-writable = record {
      reads = (place-low now_name now-there, tt);
      literals = ((0, refl, omega arith), ((tt, (1, refl, omega arith)), (hyper, refl, short)));
      depth = leb-true 4 expr_limit refl;
    }

    name-writable : (t : List ℕ) → Contains texts t → IsWritable (length names) (name (place t))
    name-writable t there = record { reads = (place-low t there, tt); literals = tt; depth = leb-true 1 expr_limit refl }

    truth-writable : (b : Bool) → IsWritable (length names) (truth b)
    truth-writable b = record { reads = tt; literals = tt; depth = leb-true 1 expr_limit refl }

    names-writable : (ts : List (List ℕ)) → ((t : List ℕ) → Contains ts t → Contains texts t) →
        AllByRecursion (IsWritable (length names)) (map (renamed place) (map name ts))
    names-writable [] each = tt
    names-writable (t ∷ ts) each =
        (name-writable t (each t (in-first t ts)), names-writable ts (λ u there. each u (in-rest t u ts there)))

    pub root-lawful : (callees : List (List ℕ)) (earlier : List NodeTree) → has_name (node_texts earlier) root_name ≡ false →
        slice_get earlier (place_of callees (system_name None)) ≡ Some (placed_node callees top) →
        IsLawfulNode earlier (placed_node callees root)
    root-lawful callees earlier new there =
        let given = gives-names callees root texts-once given-same in
        record {
          named = refl;
          new = new;
          names = distinct-from texts texts-named texts-once;
          ports = given.ports;
          within = given.within;
          given = given.given;
          typed = (now-typed, ((placed_node callees top, there, top-given callees, top-fits callees), tt));
          writable = (
            (counting-writable, tt),
            (
              (
                name-writable now_name now-there,
                (truth-writable true, (truth-writable false, names-writable ports port-there)),
              ),
              tt,
            ),
          );
        }

  pub root-inputs : (callees : List (List ℕ)) → AreInts (input_types (placed_node callees root))
  root-inputs callees = subst AreInts (sym (inputs-typed callees root)) (ints-mapped (λ t. t) ports)

  pub root-outputs : (callees : List (List ℕ)) → AreInts (output_types (placed_node callees root))
  root-outputs callees = subst AreInts (sym (outputs-typed callees root)) (ints-mapped (λ t. t) outs)
