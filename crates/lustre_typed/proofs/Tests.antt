-- The tests of a system's activity and of sample times have the type `bool`.
use Rattle.std.proofs.Common.{◌≡◌, refl, sym, ap, subst, ℕ, ◌+◌, ◌^◌, ◌<◌, ◌≤◌, ◌==◌, Bool, true, false, if◌then◌else◌, List, [], length, map, Option, Some, None, pos, arith, length-append}
use Rattle.std.specs.Prelude.{⊤}
use Rattle.std.specs.List.{range_with_len}
use Rattle.std.proofs.lemmas.List.{length-map}
use Rattle.std.proofs.lemmas.List.FromFn.{length-range_with_len}
use Rattle.base_core.specs.Ports.{control_ports}
use Rattle.base_core.specs.declared.Compare.TheVariants as how
use Rattle.base_core.specs.declared.Control.{Control}
use Rattle.base_core.specs.declared.Control.TheVariants.{Plain, Enabled, Triggered, Both}
use Rattle.base_core.specs.declared.Edge.{Edge}
use Rattle.base_core.specs.declared.Edge.TheVariants.{Rising, Falling, Either}
use Rattle.base_core.specs.declared.Port.TheVariants.{Number, Enable, Trigger}
use Rattle.diagram_meaning.specs.declared.Time.{Time}
use Rattle.diagram_meaning.specs.Rows.{system_control, is_enabled, is_triggered, enable_count, inports_of, column}
use Rattle.diagram_meaning.specs.Diagram.{Diagram}
use Rattle.c_syntax.specs.declared.BinOp.TheVariants.{Rem}
use Rattle.c_syntax.specs.Tree.{read, binary, literal, compare}
use Rattle.emit_row_code.specs.TestCode.{event_test, active_by, disabled_by, off_by, hit_test}
use Rattle.lustre_syntax.specs.declared.LusOp.TheVariants as op
use Rattle.lustre_syntax.specs.Tree.{int, bool, number, name, negation, two}
use Rattle.lustre_syntax.specs.Named.{NamedExpr}
use Rattle.lustre_syntax.specs.Lawful.{AreDistinct}
use Rattle.lustre_system.specs.FromC.{test_of}
use Rattle.lustre_system.specs.Functions.{function_name}
use Rattle.lustre_system.specs.Names.{around_active, leaf_name, port_count, now_leaf, control_leaves}
use Rattle.lustre_system.specs.RowEquations.{also, test_in}
use Rattle.lustre_rows.proofs.lemmas.ParamNames.{memory-named, now-named}
use Rattle.lustre_right.specs.Systems.{system_texts, place_in}
use Rattle.lustre_typed.proofs.Names.{types, Holds, Fits, now-holds, on-holds, trigger-holds, param-holds}
use Rattle.lustre_typed.proofs.Typed.{deeper, number-typed, name-typed, negation-typed, two-typed}

enable-below : (c : Control) → is_enabled c ≡ true → 0 < length (control_ports c)
enable-below Plain is = absurd (cc)
enable-below (Enabled reset) is = omega arith
enable-below (Triggered edge) is = absurd (cc)
enable-below (Both reset edge) is = omega arith

trigger-below : (c : Control) → is_triggered c ≡ true → enable_count c < length (control_ports c)
trigger-below Plain is = absurd (cc)
trigger-below (Enabled reset) is = absurd (cc)
trigger-below (Triggered edge) is = omega arith
trigger-below (Both reset edge) is = omega arith

module _ (d : Diagram) (s : Option ℕ) (distinct : AreDistinct (system_texts d s)) where
  abbrev Held : NamedExpr → ℕ → Type 0
  Held e deep = Fits d s e bool deep

  abbrev place : List ℕ → ℕ
  place = place_in d s

  abbrev control : Control
  control = system_control d.rows s

  abbrev enable : List ℕ
  enable = leaf_name d.rows s (control_leaves d.rows s).enable

  abbrev trigger : List ℕ
  trigger = leaf_name d.rows s (control_leaves d.rows s).trigger

  abbrev remembers : List ℕ
  remembers = leaf_name d.rows s (control_leaves d.rows s).remembers

  -- ---- Leaves

  pub many-ports : port_count d.rows s ≡ length (inports_of d.rows s) + length (control_ports control)
  many-ports =
      let n = length (inports_of d.rows s) in
      let all = length-append (map Number (range_with_len 1 n)) (control_ports control) in
      let mapped = length-map (range_with_len 1 n) Number in
      let numbers = length-range_with_len 1 n in
      omega (arith, all, mapped, numbers)

  enable-holds : is_enabled control ≡ true → Holds d s enable int
  enable-holds is =
      param-holds d s distinct (column d.rows s Enable)
      (let many = many-ports in let below = enable-below control is in omega (arith, many, below))

  pub trigger-column : is_triggered control ≡ true → column d.rows s Trigger < port_count d.rows s
  trigger-column is = let many = many-ports in let below = trigger-below control is in omega (arith, many, below)

  trigger-leaf-holds : is_triggered control ≡ true → Holds d s trigger int
  trigger-leaf-holds is = param-holds d s distinct (column d.rows s Trigger) (trigger-column is)

  remembers-holds : is_triggered control ≡ true → Holds d s remembers int
  remembers-holds is =
      subst (λ text. Holds d s text int) (sym (memory-named control (length (inports_of d.rows s)))) (trigger-holds d s distinct is)

  pub now-leaf-holds : Holds d s (leaf_name d.rows s (now_leaf d.rows s)) int
  now-leaf-holds = subst (λ text. Holds d s text int) (sym (now-named control (length (inports_of d.rows s)))) (now-holds d s distinct)

  -- ---- Tests

  high-typed : (text : List ℕ) → Holds d s text int → Held (two op.Gt (name text) (number (pos 0))) 2
  high-typed text holds =
      two-typed (types d s) place op.Gt (name text) (number (pos 0)) int bool 1 refl (name-typed (types d s) place text int holds)
      (number-typed (types d s) place 0 (omega arith))

  was-typed : (text : List ℕ) (level : ℕ) → level < 2 ^ 63 → Holds d s text int →
      Held (two op.Eq (name text) (number (pos level))) 2
  was-typed text level small holds =
      two-typed (types d s) place op.Eq (name text) (number (pos level)) int bool 1 refl (name-typed (types d s) place text int holds)
      (number-typed (types d s) place level small)

  low-typed : (text : List ℕ) → Holds d s text int → Held (negation (two op.Gt (name text) (number (pos 0)))) 3
  low-typed text holds = negation-typed (types d s) place (two op.Gt (name text) (number (pos 0))) 2 (high-typed text holds)

  abbrev rises : NamedExpr
  rises = two op.And (two op.Eq (name remembers) (number (pos 1))) (two op.Gt (name trigger) (number (pos 0)))

  abbrev falls : NamedExpr
  falls = two op.And (two op.Eq (name remembers) (number (pos 2))) (negation (two op.Gt (name trigger) (number (pos 0))))

  rises-typed : Holds d s trigger int → Holds d s remembers int → Held rises 3
  rises-typed holds memory =
      two-typed (types d s) place op.And (two op.Eq (name remembers) (number (pos 1))) (two op.Gt (name trigger) (number (pos 0)))
      bool bool 2 refl (was-typed remembers 1 (omega arith) memory) (high-typed trigger holds)

  falls-typed : Holds d s trigger int → Holds d s remembers int → Held falls 4
  falls-typed holds memory =
      let was = two op.Eq (name remembers) (number (pos 2)) in
      two-typed (types d s) place op.And was (negation (two op.Gt (name trigger) (number (pos 0))))
      bool bool 3 refl (deeper (types d s) place was bool 2 3 (omega arith) (was-typed remembers 2 (omega arith) memory))
      (low-typed trigger holds)

  event-typed : (e : Edge) → Holds d s trigger int → Holds d s remembers int →
      Held (test_of (leaf_name d.rows s) function_name (λ n. []) (event_test e (control_leaves d.rows s))) 5
  event-typed Rising holds memory = deeper (types d s) place rises bool 3 5 (omega arith) (rises-typed holds memory)
  event-typed Falling holds memory = deeper (types d s) place falls bool 4 5 (omega arith) (falls-typed holds memory)
  event-typed Either holds memory =
      two-typed (types d s) place op.Or rises falls bool bool 4 refl
      (deeper (types d s) place rises bool 3 4 (omega arith) (rises-typed holds memory)) (falls-typed holds memory)

  -- a test, where there is one
  abbrev pub On : Option NamedExpr → Type 0
  On None = ⊤
  On (Some e) = Held e 10

  at-most : (e : NamedExpr) (deep : ℕ) → deep ≤ 10 → Held e deep → Held e 10
  at-most e deep low is = deeper (types d s) place e bool deep 10 low is

  pub active-on : (c : Control) → control ≡ c → On (test_in d s (active_by c (control_leaves d.rows s)))
  active-on Plain same = tt
  active-on (Enabled reset) same =
      at-most (two op.Gt (name enable) (number (pos 0))) 2 (omega arith) (high-typed enable (enable-holds (ap is_enabled same)))
  active-on (Triggered edge) same =
      at-most (test_of (leaf_name d.rows s) function_name (λ n. []) (event_test edge (control_leaves d.rows s))) 5 (omega arith)
      (event-typed edge (trigger-leaf-holds (ap is_triggered same)) (remembers-holds (ap is_triggered same)))
  active-on (Both reset edge) same =
      let high = two op.Gt (name enable) (number (pos 0)) in
      let event = test_of (leaf_name d.rows s) function_name (λ n. []) (event_test edge (control_leaves d.rows s)) in
      at-most (two op.And high event) 6 (omega arith)
      (two-typed (types d s) place op.And high event bool bool 5 refl
      (deeper (types d s) place high bool 2 5 (omega arith) (high-typed enable (enable-holds (ap is_enabled same))))
      (event-typed edge (trigger-leaf-holds (ap is_triggered same)) (remembers-holds (ap is_triggered same))))

  low-on : is_enabled control ≡ true → Held (negation (two op.Gt (name enable) (number (pos 0)))) 10
  low-on is = at-most (negation (two op.Gt (name enable) (number (pos 0)))) 3 (omega arith) (low-typed enable (enable-holds is))

  pub disabled-on : (c : Control) → control ≡ c → On (test_in d s (disabled_by c (control_leaves d.rows s)))
  disabled-on Plain same = tt
  disabled-on (Enabled reset) same = low-on (ap is_enabled same)
  disabled-on (Triggered edge) same = tt
  disabled-on (Both reset edge) same = low-on (ap is_enabled same)

  pub off-on : (c : Control) → control ≡ c → On (test_in d s (off_by c (control_leaves d.rows s)))
  off-on Plain same = tt
  off-on (Enabled true) same = low-on (ap is_enabled same)
  off-on (Enabled false) same = tt
  off-on (Triggered edge) same = tt
  off-on (Both true edge) same = low-on (ap is_enabled same)
  off-on (Both false edge) same = tt

  pub hit-on : (time : Time) → time.period < 2 ^ 63 → On (test_in d s (hit_test time (now_leaf d.rows s)))
  hit-on time small = by (time.period == 1)
    where
      now : NamedExpr
      now = name (leaf_name d.rows s (now_leaf d.rows s))

      rest : NamedExpr
      rest = two op.Mod (name (leaf_name d.rows s (now_leaf d.rows s))) (number (pos time.period))

      by : (b : Bool) →
          On (test_in d s (if b then None
          else Some (compare how.Eq (binary Rem (read (now_leaf d.rows s)) (literal (pos time.period))) (literal (pos time.offset)))))
      by true = tt
      by false =
          at-most (two op.Eq rest (number (pos time.offset))) 3 (omega arith)
          (two-typed (types d s) place op.Eq rest (number (pos time.offset)) int bool 2 refl
          (two-typed (types d s) place op.Mod (name (leaf_name d.rows s (now_leaf d.rows s))) (number (pos time.period)) int int 1 refl
          (name-typed (types d s) place (leaf_name d.rows s (now_leaf d.rows s)) int now-leaf-holds)
          (number-typed (types d s) place time.period small))
          (deeper (types d s) place (number (pos time.offset)) int 1 2 (omega arith)
          (number-typed (types d s) place time.offset (let less = time.in_period in omega (arith, less, small)))))

  pub also-typed : (first : NamedExpr) (o : Option NamedExpr) → Held first 10 → On o → Held (also first o) 11
  also-typed first None holds on = deeper (types d s) place first bool 10 11 (omega arith) holds
  also-typed first (Some second) holds on = two-typed (types d s) place op.And first second bool bool 10 refl holds on

  abbrev on : NamedExpr
  on = name around_active

  pub on-typed : Held on 10
  on-typed = at-most on 1 (omega arith) (name-typed (types d s) place around_active bool (on-holds d s distinct))
