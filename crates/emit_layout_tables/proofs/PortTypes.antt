-- The ports of a system with their types.
use Rattle.std.proofs.Common.{◌≡◌, ℕ, ◌+◌, ◌<◌, List, [], ◌∷◌, ◌++◌, map, length, take, get_or, refl, sym, ap, ap₂, ◌∙◌, arith}
use Rattle.std.specs.List.{zip, range_with_len}
use Rattle.std.proofs.lemmas.List.{length-map, map-append, map_more, length-take-le}
use Rattle.std.proofs.lemmas.List.FromFn.{length-range_with_len}
use Rattle.base_core.specs.declared.base.Port.{Port}
use Rattle.base_core.specs.declared.base.Port.TheVariants.{Number}
use Rattle.base_fixed_point.specs.declared.types.FixType.{FixType}
use Rattle.modules_profile.specs.declared.local.LocalRow.{LocalRow}
use Rattle.modules_profile.specs.LocalSystem.{LocalSystem}
use Rattle.modules_profile.specs.Locals.{inports, bare_header}
use Rattle.base_core.specs.Ports.{control_ports}
use Rattle.emit_system_spec.specs.Heads.{port_types}
use Rattle.emit_row_facts.specs.declared.ported.Ported.{Ported}
use Rattle.emit_row_facts.specs.Ported.{ported_of}
use Rattle.emit_row_facts.proofs.lemmas.Steps.{range-more, map-map}

zip-append : {A B : Type 0} (cs bs : List A) (xs ys : List B) → length cs ≡ length xs → zip (cs ++ bs) (xs ++ ys) ≡ zip cs xs ++ zip bs ys
zip-append [] bs [] ys e = refl
zip-append [] bs (x ∷ xs) ys e = absurd (omega (arith, e))
zip-append (a ∷ cs) bs [] ys e = absurd (omega (arith, e))
zip-append (a ∷ cs) bs (x ∷ xs) ys e = ap (λ es. (a, x) ∷ es) (zip-append cs bs xs ys (omega (arith, e)))

-- one input more
pub inputs-more : (ps : List Ported) (i : ℕ) (p : Ported) → i < length ps → p ≡ get_or ps i p →
    zip (map Number (range_with_len 1 (i + 1))) (map (λ (e : Ported). e.out) (take (i + 1) ps))
    ≡ zip (map Number (range_with_len 1 i)) (map (λ (e : Ported). e.out) (take i ps)) ++ (Number (i + 1), p.out)
    ∷ []
inputs-more ps i p inside read =
    let front : List Port = map Number (range_with_len 1 i) in
    let types : List FixType = map (λ (e : Ported). e.out) (take i ps) in
    let long : length front ≡ length types = let m = length-map (range_with_len 1 i) Number in let r =
    length-range_with_len 1 i in let o = length-map (take i ps) (λ (e : Ported). e.out) in let t =
    length-take-le i ps (omega arith) in omega (arith, m, r, o, t) in
    ap₂ (λ (ports : List Port) (ts : List FixType). zip ports ts)
    (ap (map Number) (range-more 1 i (i + 1) (omega arith)) ∙ map-append Number (range_with_len 1 i) ((i + 1) ∷ []))
    (map_more (λ (e : Ported). e.out) ps i p inside ∙ ap (λ (q : Ported). types ++ q.out ∷ []) (sym read))
    ∙ zip-append front (Number (i + 1) ∷ []) types (p.out ∷ []) long

pub port-types-are : (local : LocalSystem) →
    zip (map Number (range_with_len 1 (length (map ported_of (inports local)))))
    (map (λ (e : Ported). e.out) (map ported_of (inports local)))
    ++ zip (control_ports local.control) local.controls ≡ port_types (bare_header local)
port-types-are local =
    let types : List FixType = map (λ (r : LocalRow). r.out) (inports local) in
    let many : length (map ported_of (inports local)) ≡ length types =
    length-map (inports local) ported_of ∙ sym (length-map (inports local) (λ (r : LocalRow). r.out)) in
    ap₂ (λ (n : ℕ) (ts : List FixType). zip (map Number (range_with_len 1 n)) ts
    ++ zip (control_ports local.control) local.controls) many
    (map-map (λ (e : Ported). e.out) ported_of (inports local))
    ∙ sym (zip-append (map Number (range_with_len 1 (length types))) (control_ports local.control) types local.controls
    (length-map (range_with_len 1 (length types)) Number ∙ length-range_with_len 1 (length types)))
