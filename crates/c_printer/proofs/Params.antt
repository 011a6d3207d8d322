-- Parameters that keep the rules.
use Rattle.std.proofs.Common.{◌≡◌, refl, ℕ, List, [], ◌∷◌, map, Ok}
use Rattle.c_rules.specs.Resolve.{check_params}
use Rattle.c_syntax.specs.Lawful.{AreDistinct, AreApart}
use Rattle.c_syntax.proofs.lemmas.NameFacts.{AreApart-more}

-- parameters that differ from each other and from the functions pass
pub check_params-pass : {A : Type 0} (line : A → ℕ) (name : A → List ℕ) (functions earlier : List (List ℕ))
    (ps : List A) → AreDistinct (map name ps) → AreApart (map name ps) functions → AreApart (map name ps) earlier →
    check_params functions earlier (map (λ q. (line q, name q)) ps) ≡ Ok tt
check_params-pass line name functions earlier [] distinct apart unlike = refl
check_params-pass line name functions earlier (p ∷ ps) distinct apart unlike =
    rw (apart.0, unlike.0) (check_params-pass line name functions (name p ∷ earlier) ps distinct.2 apart.1
    (AreApart-more (map name ps) (name p) earlier distinct.1 unlike.1))
