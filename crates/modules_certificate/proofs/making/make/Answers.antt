use Rattle.std.proofs.Common.{◌≡◌, ◌<◌, ◌^◌, List, ℕ, length, subst, sym, ap, ap₂, ◌∙◌, arith}
use Rattle.std.specs.List.{All}
use Rattle.std.proofs.lemmas.List.{get_or_default}
use Rattle.modules_certificate.specs.declared.certificate.Difference.{Difference}
use Rattle.modules_certificate.specs.Sound.{IsCertificateFor, differences_from, first_outputs}
use Rattle.modules_certificate.proofs.Chosen.{few, all-outputs}
use Rattle.modules_certificate.proofs.Made.{made}
use Rattle.modules_certificate.proofs.making.make.Goals as goal

pub differences-requires-clause-few : goal.differences-requires-clause-few
differences-requires-clause-few c =
    let h = few c.args.needs.now in let e = ap length (c.deref.ensures.value ∙ c.in_ok-representatives.ensures) in omega arith

pub differences-requires-clause-outputs : goal.differences-requires-clause-outputs
differences-requires-clause-outputs c =
    subst (All (λ o. o < length c.args.needs.now)) (sym (c.deref.ensures.value
    ∙ c.in_ok-representatives.ensures)) (all-outputs c.args.needs.now)

pub returns : goal.returns
returns c =
    let needs : List ℕ = c.args.needs.now in
    let fits : All (λ n. n < 2 ^ 64) needs =
    λ k d within. let h = c.type_inv.needs k in let e = get_or_default needs k d 0 within in omega (arith, e, h) in
    let same : c.deref.result.now ≡ first_outputs needs = c.deref.ensures.value ∙ c.in_ok-representatives.ensures in
    let differ : c.in_ok-differ.differ.items ≡ differences_from needs (first_outputs needs) 0 (length (first_outputs needs)) =
    c.in_ok-differ.ensures ∙ ap (λ (xs : List ℕ). differences_from needs xs 0 (length xs)) same
    in
    subst (IsCertificateFor needs)
    (ap₂ (λ (xs : List ℕ) (ds : List Difference). record { representatives = xs; differ = ds }) (sym c.in_ok-representatives.ensures)
    (sym differ))
    (made needs fits)
