-- The parameters of a function.
use Rattle.std.proofs.Common.{◌≡◌, ℕ, zero, suc, ◌-◌, ◌<◌, ◌≤◌, List, ◌∷◌, length, get_or, sym, ap, ap₂, ◌∙◌, arith}
use Rattle.std.proofs.lemmas.List.{get_or_default}
use Rattle.base_core.specs.declared.base.Port.{Port}
use Rattle.base_fixed_point.specs.declared.types.FixType.{FixType}
use Rattle.modules_profile.specs.declared.profile.Function.{Function}
use Rattle.modules_profile.specs.LocalSystem.{LocalSystem}
use Rattle.modules_profile.specs.SystemProfile.{SystemProfile}
use Rattle.modules_profile.specs.Headers.{idle_function, header_function}
use Rattle.modules_profile.specs.Locals.{own_header}
use Rattle.base_core.specs.Ports.{bit_of, has_bit}
use Rattle.emit_shape.specs.Heads.{now_param, out_head}
use Rattle.emit_system_spec.specs.Heads.{port_types, params_where}
use Rattle.emit_signatures.proofs.TakenPorts.{taken-is}

function-is : (local : LocalSystem) (profile : SystemProfile) (j : ℕ) (f : Function) → 0 < j →
    j ≤ length profile.functions → f ≡ get_or profile.functions (j - 1) f →
    f ≡ header_function (own_header local profile) j
function-is local profile zero f first last read = absurd (omega arith)
function-is local profile (suc k) f first last read =
    let before : suc k - 1 ≡ k = omega arith in
    read ∙ ap (λ i. get_or profile.functions i f) before ∙ get_or_default profile.functions k f idle_function (omega arith)

pub out-params-are : (local : LocalSystem) (profile : SystemProfile) (j : ℕ) (f : Function)
    (ports : List (Port × FixType)) → 0 < j → j ≤ length profile.functions → f ≡ get_or profile.functions (j - 1) f →
    ports ≡ port_types (own_header local profile) →
    now_param ∷ params_where local.control (λ p. has_bit f.inputs (bit_of p)) ports
    ≡ (out_head (own_header local profile) j).params
out-params-are local profile j f ports first last read are =
    ap₂ (λ (g : Function) (ps : List (Port × FixType)). now_param
    ∷ params_where local.control (λ p. has_bit g.inputs (bit_of p)) ps)
    (function-is local profile j f first last read) are
    ∙ ap (λ ps. now_param ∷ ps) (sym (taken-is (own_header local profile) j))
