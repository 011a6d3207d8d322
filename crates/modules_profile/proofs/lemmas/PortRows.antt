-- The rows of a system, and its Inports and Outports by port.
use Rattle.std.specs.Prelude.{◌≡◌, ℕ, ◌-◌, ◌<◌, ◌≤◌, Bool, true, ◌==◌, List, filter, length, count_by, slice_get, Contains, Option, Some, None, refl}
use Rattle.std.specs.List.{range_with_len}
use Rattle.std.proofs.Common.{sym, ap, subst, ◌∙◌, arith}
use Rattle.std.proofs.lemmas.Bool.{eq-eqb}
use Rattle.std.proofs.lemmas.List.Sums.{length-filter}
use Rattle.diagram_blocks.specs.declared.Kind.{Kind}
use Rattle.diagram_meaning.specs.declared.table.Row.{Row}
use Rattle.diagram_meaning.specs.Rows.{row_at, row_numbers, same_system, rows_of, subsystems_of, by_port}
use Rattle.diagram_blocks.specs.Kinds.{port_of, is_subsystem}
use Rattle.diagram_meaning.specs.WellFormed.{HasPorts}
use Rattle.diagram_meaning.proofs.lemmas.RestsOnNeeds.{same_system-equal}
use Rattle.modules_profile.proofs.lemmas.Members.{in-filter, of-filter, in-range, of-range}
use Rattle.modules_profile.proofs.Numbered.{Apart, apart-range, apart-filter, at-port, length-numbered, of-numbered}

pub same-self : (s : Option ℕ) → same_system s s ≡ true
same-self None = refl
same-self (Some k) = eq-eqb k k refl

module _ (rows : List Row) (o : Option ℕ) where
  pub in-rows : (b : ℕ) → b < length rows → (row_at rows b).owner ≡ o → Contains (rows_of rows o) b
  in-rows b below own =
      in-filter (λ c. same_system (row_at rows c).owner o) (row_numbers rows) b (in-range 0 (length rows) b (omega arith) (omega arith))
      (ap (λ s. same_system s o) own ∙ same-self o)

  pub of-rows : (b : ℕ) → Contains (rows_of rows o) b → (b < length rows) × ((row_at rows b).owner ≡ o)
  of-rows b h =
      let m = of-filter (λ c. same_system (row_at rows c).owner o) (row_numbers rows) b h in
      let high = (of-range 0 (length rows) b m.0).1 in
      (omega arith, same_system-equal (row_at rows b).owner o m.1)

  pub in-subsystems : (b : ℕ) → b < length rows → (row_at rows b).owner ≡ o → is_subsystem (row_at rows b).kind ≡ true →
      Contains (subsystems_of rows o) b
  in-subsystems b below own is = in-filter (λ c. is_subsystem (row_at rows c).kind) (rows_of rows o) b (in-rows b below own) is

  pub of-subsystems : (b : ℕ) → Contains (subsystems_of rows o) b →
      (b < length rows) × ((row_at rows b).owner ≡ o) × (is_subsystem (row_at rows b).kind ≡ true)
  of-subsystems b h =
      let m = of-filter (λ c. is_subsystem (row_at rows c).kind) (rows_of rows o) b h in
      let r = of-rows b m.0 in
      (r.0, r.1, m.1)

  module _ (test : Kind → Bool) where
    abbrev own_ports : List ℕ
    own_ports = filter (λ b. test (row_at rows b).kind) (rows_of rows o)

    of-own : (b : ℕ) → Contains own_ports b → (b < length rows) × ((row_at rows b).owner ≡ o) × (test (row_at rows b).kind ≡ true)
    of-own b h =
        let m = of-filter (λ c. test (row_at rows c).kind) (rows_of rows o) b h in
        let r = of-rows b m.0 in
        (r.0, r.1, m.1)

    -- each of the ports of a system is a row of it that passes
    pub of-ports : (b : ℕ) → Contains (by_port rows o test) b →
        (b < length rows) × ((row_at rows b).owner ≡ o) × (test (row_at rows b).kind ≡ true)
    of-ports b h = of-own b (of-numbered (λ k c. port_of (row_at rows c).kind == k) own_ports (range_with_len 1 (length own_ports)) b h)

    module _ (ports : HasPorts rows test o) where
      many : length own_ports ≡ count_by (λ b. test (row_at rows b).kind) (rows_of rows o)
      many = length-filter (λ b. test (row_at rows b).kind) (rows_of rows o)

      apart : Apart own_ports
      apart = apart-filter (λ b. test (row_at rows b).kind) (rows_of rows o)
          (apart-filter (λ b. same_system (row_at rows b).owner o) (row_numbers rows) (apart-range 0 (length rows)))

      range : (b : ℕ) → Contains own_ports b → (0 < port_of (row_at rows b).kind) × (port_of (row_at rows b).kind ≤ length own_ports)
      range b h =
          let m = of-own b h in
          let r = ports.in_range b m.0 m.1 m.2 in
          (r.0, subst (λ n. port_of (row_at rows b).kind ≤ n) (sym many) r.1)

      one : (b c : ℕ) → Contains own_ports b → Contains own_ports c → port_of (row_at rows b).kind ≡ port_of (row_at rows c).kind → b ≡ c
      one b c h i same =
          let m = of-own b h in
          let n = of-own c i in
          ports.one_each b c m.0 n.0 m.1 n.1 m.2 n.2 same

      -- a row that passes is at its port
      pub port-place : (b : ℕ) → b < length rows → (row_at rows b).owner ≡ o → test (row_at rows b).kind ≡ true →
          slice_get (by_port rows o test) (port_of (row_at rows b).kind - 1) ≡ Some b
      port-place b below own passes =
          at-port (λ c. port_of (row_at rows c).kind) own_ports apart range one b
          (in-filter (λ c. test (row_at rows c).kind) (rows_of rows o) b (in-rows b below own) passes)

      -- its port is one of at most 32
      pub port-range : (b : ℕ) → b < length rows → (row_at rows b).owner ≡ o → test (row_at rows b).kind ≡ true →
          (0 < port_of (row_at rows b).kind) × (port_of (row_at rows b).kind ≤ length (by_port rows o test))
      port-range b below own passes =
          let r = range b (in-filter (λ c. test (row_at rows c).kind) (rows_of rows o) b (in-rows b below own) passes) in (
            r.0,
            subst (λ n. port_of (row_at rows b).kind ≤ n)
                (sym (length-numbered (λ c. port_of (row_at rows c).kind) own_ports apart range one)) r.1,
          )

      pub few-ports : length (by_port rows o test) ≤ 32
      few-ports =
          let most = ports.at_most in
          subst (λ n. n ≤ 32) (sym (length-numbered (λ c. port_of (row_at rows c).kind) own_ports apart range one ∙ many)) most
