-- The inputs of a system's node by their places, and what the call for a child gives them.
use Rattle.std.proofs.Common.{◌≡◌, refl, sym, ap, ◌∙◌, ℕ, zero, suc, ◌+◌, ◌<◌, true, List, [], ◌∷◌, ◌++◌, map, take, length, slice_get, slice_index_or, Option, None, Some, ℤ, arith, length-append}
use Rattle.std.specs.List.{range_with_len}
use Rattle.std.proofs.lemmas.List.{length-map, get_or-take, get_or_append_left}
use Rattle.std.proofs.lemmas.List.FromFn.{length-range_with_len}
use Rattle.std.proofs.lemmas.Option.{none-some, slice_get_within, same_Some}
use Rattle.base_core.specs.Ports.{control_ports}
use Rattle.base_core.specs.declared.Port.{Port}
use Rattle.base_core.specs.declared.Port.TheVariants.{Number}
use Rattle.diagram_blocks.specs.Kinds.{is_subsystem}
use Rattle.diagram_meaning.specs.declared.Row.{Row}
use Rattle.diagram_meaning.specs.Rows.{row_at, system_control, inports_of, outports_of}
use Rattle.diagram_meaning.specs.Inputs.{input_ports}
use Rattle.diagram_meaning.specs.SystemRuns.{IsRowOf}
use Rattle.diagram_typed_runs.specs.TypedRuns.{IsSystem}
use Rattle.modules_profile.specs.Systems.{entering_wire}
use Rattle.c_syntax.specs.declared.Leaf.TheVariants.{Param}
use Rattle.emit_shape.specs.Names.{port_name, value_name, now_name, trigger_name}
use Rattle.lustre_syntax.specs.Tree.{Declared, name, texts_of}
use Rattle.lustre_syntax.specs.Named.{NamedExpr}
use Rattle.lustre_flows.specs.Values.{value_of, read, value_at}
use Rattle.lustre_system.specs.Functions.{int_name}
use Rattle.lustre_system.specs.Names.{around_active, around_off, active_name, reset_name, port_names, leaf_name}
use Rattle.lustre_system.specs.RowEquations.{wire_read}
use Rattle.lustre_system.specs.SystemNodes.{system_inputs, system_names}
use Rattle.lustre_right.specs.Systems.{system_texts, named_value}
use Rattle.lustre_ticks.proofs.Setting.{Setting, d, rows, hyper, solved, place}
use Rattle.lustre_ticks.proofs.Agreement.{outcome}
use Rattle.lustre_ticks.proofs.NodeNames.{place-is}
use Rattle.lustre_ticks.proofs.Held.{child-holds}

-- ---- Lists

-- the texts of the first names
front : (texts : List (List ℕ)) (next rest : List Declared) (k : ℕ) → k < length texts →
    slice_index_or (texts_of (map int_name texts ++ next ++ rest)) k [] ≡ slice_index_or texts k []
front [] next rest k below = absurd (omega (arith, below))
front (x ∷ xs) next rest zero below = refl
front (x ∷ xs) next rest (suc k) below = front xs next rest k (omega (arith, below))

front-below : (texts : List (List ℕ)) (next rest : List Declared) (k : ℕ) → k < length texts →
    k < length (texts_of (map int_name texts ++ next ++ rest))
front-below [] next rest k below = absurd (omega (arith, below))
front-below (x ∷ xs) next rest zero below = omega arith
front-below (x ∷ xs) next rest (suc k) below = let more = front-below xs next rest k (omega (arith, below)) in omega (arith, more)

pub number-port : (a n k : ℕ) (rest : List Port) → k < n → slice_get (map Number (range_with_len a n) ++ rest) k ≡ Some (Number (a + k))
number-port a zero k rest below = absurd (omega (arith, below))
number-port a (suc n) zero rest below = let same : a ≡ a + 0 = omega arith in ap (λ i. Some (Number i)) same
number-port a (suc n) (suc k) rest below =
    let same : a + 1 + k ≡ a + suc k = omega arith in
    number-port (a + 1) n k rest (omega (arith, below)) ∙ ap (λ i. Some (Number i)) same

pub control-port : (a n j i : ℕ) (rest : List Port) → i ≡ n + j → slice_get (map Number (range_with_len a n) ++ rest) i ≡ slice_get rest j
control-port a zero j i rest at = let same : i ≡ j = omega (arith, at) in ap (slice_get rest) same
control-port a (suc n) j zero rest at = absurd (omega (arith, at))
control-port a (suc n) j (suc i) rest at = control-port (a + 1) n j i rest (omega (arith, at))

mapped-at : {A B : Type 0} (f : B → Option ℤ) (h : A → B) (xs : List A) (k : ℕ) (x : A) → slice_get xs k ≡ Some x →
    value_at (map f (map h xs)) k ≡ f (h x)
mapped-at f h [] k x at = absurd (none-some x at)
mapped-at f h (y ∷ ys) zero x at = let same : y ≡ x = same_Some y x at in ap (λ z. f (h z)) same
mapped-at f h (y ∷ ys) (suc k) x at = mapped-at f h ys k x at

pub read-is : (x : Option ℤ) → value_of (read x) ≡ x
read-is None = refl
read-is (Some v) = refl

pub first-below : (n : ℕ) → 0 < suc (suc (suc n))
first-below n = omega arith

pub second-below : (n : ℕ) → 1 < suc (suc (suc n))
second-below n = omega arith

pub third-below : (n : ℕ) → 2 < suc (suc (suc n))
third-below n = omega arith

-- ---- Places

pub port-total : (table : List Row) (s : Option ℕ) →
    length (port_names table s) ≡ length (inports_of table s) + length (control_ports (system_control table s))
port-total table s =
    let numbers = map Number (range_with_len 1 (length (inports_of table s))) in
    length-map (input_ports table s) (port_name (system_control table s)) ∙ length-append numbers (control_ports (system_control table s))
    ∙ ap (λ k. k + length (control_ports (system_control table s)))
    (length-map (range_with_len 1 (length (inports_of table s))) Number ∙ length-range_with_len 1 (length (inports_of table s)))

module _ (g : Setting) (s : Option ℕ) (system : IsSystem (rows g) s) where
  abbrev next_declared : List Declared
  next_declared = map (λ o. int_name (value_name o)) (outports_of (rows g) s)

  abbrev later_count : ℕ
  later_count = length (texts_of (map int_name (port_names (rows g) s) ++ next_declared ++ system_names (d g) s))

  pub param-text : (k : ℕ) → k < length (port_names (rows g) s) →
      slice_index_or (system_texts (d g) s) (suc (suc (suc k))) [] ≡ leaf_name (rows g) s (Param k)
  param-text k below =
      front (port_names (rows g) s) next_declared (system_names (d g) s) k below
      ∙ sym (get_or_append_left (port_names (rows g) s) (trigger_name ∷ now_name ∷ []) [] k below)

  pub param-below : (k : ℕ) → k < length (port_names (rows g) s) → suc (suc (suc k)) < length (system_texts (d g) s)
  param-below k below =
      let more = front-below (port_names (rows g) s) next_declared (system_names (d g) s) k below in
      let bound : suc (suc (suc k)) < suc (suc (suc later_count)) = omega (arith, more) in
      bound

  pub param-place : (k : ℕ) → k < length (port_names (rows g) s) → place g s (leaf_name (rows g) s (Param k)) ≡ suc (suc (suc k))
  param-place k below =
      ap (place g s) (sym (param-text k below)) ∙ place-is g s system (suc (suc (suc k))) (param-below k below)

  pub now-place : place g s now_name ≡ 0
  now-place = place-is g s system 0 (first-below later_count)

  pub on-place : place g s around_active ≡ 1
  on-place = place-is g s system 1 (second-below later_count)

  pub off-place : place g s around_off ≡ 2
  off-place = place-is g s system 2 (third-below later_count)

-- ---- The call for a child

module _ (g : Setting) (o : Option ℕ) (system : IsSystem (rows g) o) (e : ℕ) (row : IsRowOf (rows g) o e)
    (is : is_subsystem (row_at (rows g) e).kind ≡ true) where
  abbrev wire_of : Port → NamedExpr
  wire_of p = wire_read (d g) o (entering_wire (rows g) e p)

  abbrev pub call_arguments : List NamedExpr
  call_arguments = name now_name ∷ name active_name ∷ name reset_name ∷ map wire_of (input_ports (rows g) (Some e))

  pub called-child : (take (length (system_inputs (d g) (Some e))) (solved g (Some e)) ≡ map (outcome g o) call_arguments)
      × (map (named_value (d g) (hyper g) g.before g.left o) (map value_name (outports_of (rows g) (Some e)))
      ≡ map (λ k. value_at (solved g (Some e)) (place g (Some e) (value_name k))) (outports_of (rows g) (Some e)))
  called-child = (child-holds g o system e row is).0.1 e row is refl

  input-is : (k : ℕ) → k < length (system_inputs (d g) (Some e)) →
      value_at (solved g (Some e)) k ≡ value_at (map (outcome g o) call_arguments) k
  input-is k below =
      sym (get_or-take (length (system_inputs (d g) (Some e))) (solved g (Some e)) k None below)
      ∙ ap (λ (vs : List (Option ℤ)). value_at vs k) called-child.0

  pub first-input : (w : ℤ) → value_at (solved g o) (place g o now_name) ≡ Some w → value_at (solved g (Some e)) 0 ≡ Some w
  first-input w at =
      input-is 0 (first-below (length (map int_name (port_names (rows g) (Some e)))))
      ∙ read-is (value_at (solved g o) (place g o now_name)) ∙ at

  pub second-input : (w : ℤ) → value_at (solved g o) (place g o active_name) ≡ Some w → value_at (solved g (Some e)) 1 ≡ Some w
  second-input w at =
      input-is 1 (second-below (length (map int_name (port_names (rows g) (Some e)))))
      ∙ read-is (value_at (solved g o) (place g o active_name)) ∙ at

  pub third-input : (w : ℤ) → value_at (solved g o) (place g o reset_name) ≡ Some w → value_at (solved g (Some e)) 2 ≡ Some w
  third-input w at =
      input-is 2 (third-below (length (map int_name (port_names (rows g) (Some e)))))
      ∙ read-is (value_at (solved g o) (place g o reset_name)) ∙ at

  -- a wire that enters the child
  pub wire-input : (k c : ℕ) (p : Port) (w : ℤ) → slice_get (input_ports (rows g) (Some e)) k ≡ Some p →
      entering_wire (rows g) e p ≡ Some c → value_at (solved g o) (place g o (value_name c)) ≡ Some w →
      value_at (solved g (Some e)) (suc (suc (suc k))) ≡ Some w
  wire-input k c p w at enters here =
      let many = length-map (port_names (rows g) (Some e)) int_name in
      let names_many = length-map (input_ports (rows g) (Some e)) (port_name (system_control (rows g) (Some e))) in
      let within : k < length (input_ports (rows g) (Some e)) = slice_get_within (input_ports (rows g) (Some e)) k p at in
      let bound : suc (suc (suc k)) < suc (suc (suc (length (map int_name (port_names (rows g) (Some e)))))) =
      omega (arith, within, many, names_many) in
      input-is (suc (suc (suc k))) bound
      ∙ mapped-at (outcome g o) wire_of (input_ports (rows g) (Some e)) k p at
      ∙ ap (λ x. outcome g o (wire_read (d g) o x)) enters ∙ read-is (value_at (solved g o) (place g o (value_name c))) ∙ here
