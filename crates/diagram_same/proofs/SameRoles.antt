-- Two controls, or two roles, are equal exactly where `==` says so.
use Rattle.std.specs.Prelude.{◌≡◌, ◌↔◌, true}
use Rattle.std.proofs.Common.{rules, sym, ap, subst, true≢false}
use Rattle.base_core.specs.declared.Control.{Control}
use Rattle.base_core.specs.declared.Control.TheVariants.{Plain, Enabled, Triggered, Both}
use Rattle.base_core.specs.contracts.base.ControlPartialEq.TheImpl as control_impl
use Rattle.diagram_same.specs.declared.role.Role.{Role}
use Rattle.diagram_same.specs.declared.role.Role.TheVariants.{Input, Output, Subsystem, Other}
use Rattle.diagram_same.specs.contracts.role.RolePartialEq.TheImpl as role_impl

control-to : (a b : Control) → control_impl.ghosts.eq a b ≡ true → a ≡ b
control-to Plain Plain e = search rules
control-to Plain _ e = absurd (true≢false (sym e))
control-to (Enabled reset) (Enabled reset') e = search rules
control-to (Enabled reset) _ e = absurd (true≢false (sym e))
control-to (Triggered edge) (Triggered edge') e = search rules
control-to (Triggered edge) _ e = absurd (true≢false (sym e))
control-to (Both reset edge) (Both reset' edge') e = search rules
control-to (Both reset edge) _ e = absurd (true≢false (sym e))

control-itself : (a : Control) → control_impl.ghosts.eq a a ≡ true
control-itself Plain = search rules
control-itself (Enabled reset) = search rules
control-itself (Triggered edge) = search rules
control-itself (Both reset edge) = search rules

pub control-decides : (a b : Control) → (control_impl.ghosts.eq a b ≡ true) ↔ (a ≡ b)
control-decides a b = (control-to a b, λ same. subst (λ b. control_impl.ghosts.eq a b ≡ true) same (control-itself a))

role-to : (a b : Role) → role_impl.ghosts.eq a b ≡ true → a ≡ b
role-to (Input port) (Input port') e = search rules
role-to (Input port) _ e = absurd (true≢false (sym e))
role-to (Output port reset num den) (Output port' reset' num' den') e = search rules
role-to (Output port reset num den) _ e = absurd (true≢false (sym e))
role-to (Subsystem control) (Subsystem control') e = ap Subsystem (control-to control control' e)
role-to (Subsystem control) _ e = absurd (true≢false (sym e))
role-to Other Other e = search rules
role-to Other _ e = absurd (true≢false (sym e))

role-itself : (a : Role) → role_impl.ghosts.eq a a ≡ true
role-itself (Input port) = search rules
role-itself (Output port reset num den) = search rules
role-itself (Subsystem control) = control-itself control
role-itself Other = search rules

pub role-decides : (a b : Role) → (role_impl.ghosts.eq a b ≡ true) ↔ (a ≡ b)
role-decides a b = (role-to a b, λ same. subst (λ b. role_impl.ghosts.eq a b ≡ true) same (role-itself a))
