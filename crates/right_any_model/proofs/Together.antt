-- The codes of all systems of a model, each of its own rows, its profile and its schedule.
use Rattle.std.specs.Prelude.{ℕ, List, [], ◌∷◌, Contains, Option, None, refl}
use Rattle.std.specs.List.{AllZip}
use Rattle.std.proofs.Common.{arith, subst}
use Rattle.diagram_meaning.specs.Diagram.{Diagram}
use Rattle.diagram_meaning.specs.Needs.{needs_of, HasNoLoop}
use Rattle.diagram_meaning.specs.ResolvedTree.{ResolvedTree, IsResolvedTree, diagram_of}
use Rattle.modules_profile.specs.LocalSystem.{LocalSystem}
use Rattle.modules_profile.specs.Systems.{systems}
use Rattle.modules_profile.proofs.lemmas.Members.{in-first, in-rest}
use Rattle.emit_prelude.specs.Bodies.{function_trees}
use Rattle.emit_prelude.proofs.lemmas.PreludeLaws.{prelude_is}
use Rattle.emit_shape.specs.SystemTree.{SystemTree}
use Rattle.emit_shape.specs.ProgramShape.{SystemView}
use Rattle.right_claim.specs.Assembly.{IsCodeOf, CanAssemble}
use Rattle.right_claim.specs.SystemOk.{SystemOk}
use Rattle.right_any_system.specs.AnySystem.{EmittedSystem, EachSystemIsEmitted}
use Rattle.right_any_model.specs.AnyModel.{SystemCodes, AreOk, ModelsHaveParts}

module _ (each : EachSystemIsEmitted) (code : SystemCodes) (ok : AreOk code) (r : ResolvedTree)
    (resolved : IsResolvedTree r) (none : HasNoLoop (needs_of (diagram_of r))) where
  abbrev d : Diagram
  d = diagram_of r

  module _ (s : Option ℕ) (e : EmittedSystem r s) where
    abbrev view : SystemView d r.times.delays s
    view = record {
      headers = e.is_local.headers;
      are_headers = e.is_local.are_headers;
      profile = e.profile;
      is_profile = e.is_profile;
    }

    abbrev own_code : SystemTree
    own_code = code e.local e.profile e.schedule

    is-code : IsCodeOf r s own_code
    is-code = record {
      view = view;
      ok = subst (λ (l : LocalSystem). SystemOk l e.profile own_code) e.is_local.is_local
          (ok e.local e.profile e.schedule e.is_emitted);
    }

  codes-for : (ss : List (Option ℕ)) → ((s : Option ℕ) → Contains ss s → Contains (systems d.rows) s) →
      (codes : List SystemTree) × AllZip (IsCodeOf r) ss codes
  codes-for [] listed = ([], tt)
  codes-for (s ∷ ss) listed =
      let e = each r s resolved none (listed s (in-first s ss)) in
      let more = codes-for ss (λ o m. listed o (in-rest s o ss m)) in
      (own_code s e ∷ more.0, (is-code s e, more.1))

  pub together : (codes : List SystemTree) × (root : LocalSystem) × CanAssemble r codes root r.times.hyper
  together =
      let codes = codes-for (systems d.rows) (λ s m. m) in
      let top = each r None resolved none (0, omega arith, refl) in (
        codes.0,
        top.local,
        record {
          resolved = resolved;
          no_loop = none;
          each = codes.1;
          root_view = view None top;
          is_root = top.is_local.is_local;
          is_cycle = refl;
        },
      )

pub models_have_parts : EachSystemIsEmitted → ModelsHaveParts
models_have_parts each code ok r resolved none =
    let made = together each code ok r resolved none in record {
      parts = record {
        model = r;
        codes = made.0;
        root = made.1;
        hyper = r.times.hyper;
        pures = function_trees;
        can = made.2;
        prelude = prelude_is;
        known = refl;
      };
      is_model = refl;
      is_cycle = refl;
    }
