-- A system of a model and its code, from what was made for it.
use Rattle.std.specs.Prelude.{◌≡◌, ℕ, ◌≤◌, length, List, map, Contains, Option, None, refl}
use Rattle.std.specs.List.{AllZip}
use Rattle.std.proofs.Common.{sym, ap, subst, arith}
use Rattle.std.proofs.lemmas.List.{length-map}
use Rattle.diagram_meaning.specs.Diagram.{Diagram}
use Rattle.diagram_meaning.specs.Needs.{needs_of, HasNoLoop}
use Rattle.diagram_meaning.specs.ResolvedTree.{ResolvedTree, IsResolvedTree, diagram_of}
use Rattle.diagram_meaning.specs.Rows.{outports_of}
use Rattle.diagram_blocks.specs.Kinds.{is_outport}
use Rattle.modules_profile.specs.LocalSystem.{LocalSystem}
use Rattle.modules_profile.specs.SystemProfile.{SystemProfile}
use Rattle.modules_profile.specs.Functions.{IsProfileOf}
use Rattle.modules_profile.specs.Locals.{local_of, local_row, outports}
use Rattle.modules_profile.specs.NodeFacts.{IsLocalOf}
use Rattle.modules_profile.specs.Systems.{systems}
use Rattle.modules_profile.proofs.lemmas.OwnRows.{by_port_mapped}
use Rattle.modules_profile.proofs.lemmas.PortRows.{few-ports}
use Rattle.modules_schedule.specs.SystemSchedule.{SystemSchedule}
use Rattle.emit_shape.specs.ProgramShape.{SystemView}
use Rattle.emit_shape.specs.SystemTree.{SystemTree}
use Rattle.right_claim.specs.Assembly.{CanAssemble, IsCodeOf}
use Rattle.right_claim.specs.SystemOk.{SystemOk}
use Rattle.emit_system_spec.specs.Emitted.{IsEmitted}
use Rattle.emit_system_spec.specs.Schedules.{IsScheduleOf}

module _ (r : ResolvedTree) (s : Option ℕ) (local : LocalSystem) (is : IsLocalOf r s local) where
  abbrev d : Diagram
  d = diagram_of r

  pub few-outputs : IsResolvedTree r → length (outports local) ≤ 32
  few-outputs resolved =
      let own = local_of d r.times.delays s is.headers in
      let ports = few-ports d.rows s is_outport (resolved.tree.table.outports s) in
      let made : length (outports own) ≡ length (map (local_row d r.times.delays) (outports_of d.rows s)) =
      ap length (by_port_mapped d r.times.delays s is.headers is_outport) in
      let long = length-map (outports_of d.rows s) (local_row d r.times.delays) in
      let same = ap (λ (l : LocalSystem). length (outports l)) is.is_local in
      omega (arith, ports, made, long, same)

  own-row : local.row ≡ s
  own-row = ap (λ (l : LocalSystem). l.row) is.is_local

  -- its code is made from these
  pub is-emitted : (profile : SystemProfile) (schedule : SystemSchedule) → IsResolvedTree r → HasNoLoop (needs_of d) →
      Contains (systems d.rows) s → IsProfileOf d s profile → IsScheduleOf local profile schedule → IsEmitted local profile schedule
  is-emitted profile schedule resolved no_loop listed is_profile is_schedule = record {
    resolved = r;
    is_resolved = resolved;
    no_loop = no_loop;
    is_system = subst (Contains (systems d.rows)) (sym own-row) listed;
    is_local = subst (λ o. IsLocalOf r o local) (sym own-row) is;
    is_profile = subst (λ o. IsProfileOf d o profile) (sym own-row) is_profile;
    is_schedule = is_schedule;
  }

  abbrev pub view_of : (profile : SystemProfile) → IsProfileOf d s profile → SystemView d r.times.delays s
  view_of profile is_profile = record { headers = is.headers; are_headers = is.are_headers; profile = profile; is_profile = is_profile }

  -- code that is right for it is a code of the system
  pub is-code : (profile : SystemProfile) (code : SystemTree) → IsProfileOf d s profile → SystemOk local profile code → IsCodeOf r s code
  is-code profile code is_profile ok = record {
    view = view_of profile is_profile;
    ok = subst (λ (l : LocalSystem). SystemOk l profile code) is.is_local ok;
  }

-- with the codes of all systems a program can be put together
pub can-assemble : (r : ResolvedTree) (s : Option ℕ) (root : LocalSystem) (profile : SystemProfile)
    (inside : List (Option ℕ)) (codes : List SystemTree) → s ≡ None → inside ≡ systems (diagram_of r).rows → IsResolvedTree r →
    HasNoLoop (needs_of (diagram_of r)) → IsLocalOf r s root →
    IsProfileOf (diagram_of r) s profile → AllZip (IsCodeOf r) inside codes → CanAssemble r codes root r.times.hyper
can-assemble r s root profile inside codes is_none all resolved no_loop is is_profile each =
    let top : IsLocalOf r None root = subst (λ o. IsLocalOf r o root) is_none is in
    let own : IsProfileOf (diagram_of r) None profile = subst (λ o. IsProfileOf (diagram_of r) o profile) is_none is_profile in
    record {
      resolved = resolved;
      no_loop = no_loop;
      each = subst (λ (rows : List (Option ℕ)). AllZip (IsCodeOf r) rows codes) all each;
      root_view = view_of r None root top profile own;
      is_root = top.is_local;
      is_cycle = refl;
    }
