-- What an error in one of many says of all.
use Rattle.std.proofs.Common.{◌≡◌, sym, ◌∙◌, subst, ℕ, ◌<◌, List, take, length, get_or, Result, Ok, Err}
use Rattle.std.specs.Result.{IsErrAnd}
use Rattle.c_syntax.specs.declared.fault.CFault.{CFault}
use Rattle.base_core.specs.Results.{◌>>=◌}
use Rattle.c_grammar.specs.declared.fault.ReadCFault.{ReadCFault}
use Rattle.c_grammar.specs.declared.fault.ReadCFault.TheVariants.{Refused, Memory}
use Rattle.c_rules.specs.Gives.{Gives, Fails}
use Rattle.c_rules.proofs.lemmas.Each.{bind_err, each, each-fault}

-- an error that is passed on
pub gives-same : {A B : Type 0} (view : A → B) (r : Result A ReadCFault) (e : ReadCFault) (ruled : Result B CFault) →
    IsErrAnd r (λ given. given ≡ e) → Fails e ruled → Gives view r ruled
gives-same view (Ok x) e ruled h fails = absurd h
gives-same view (Err given) e ruled h fails = subst (λ (g : ReadCFault). Fails g ruled) (sym h) fails

pub each-fails : {A B C : Type 0} (f : A → Result B CFault) (go : List B → Result C CFault) (whole : Result C CFault)
    (xs : List A) (i : ℕ) (x : A) (ys : List B) (e : ReadCFault) → whole ≡ (each f xs >>= go) → i < length xs →
    x ≡ get_or xs i x → each f (take i xs) ≡ Ok ys → Fails e (f x) → Fails e whole
each-fails f go whole xs i x ys (Refused fault) is within here before h =
    is ∙ bind_err (each f xs) go fault (each-fault f xs i x ys fault within here before h)
each-fails f go whole xs i x ys Memory is within here before h = tt

-- an error in the first step is that of all
pub fails-bind : {A B : Type 0} (e : ReadCFault) (r : Result A CFault) (go : A → Result B CFault)
    (whole : Result B CFault) → whole ≡ (r >>= go) → Fails e r → Fails e whole
fails-bind (Refused fault) r go whole is h = is ∙ bind_err r go fault h
fails-bind Memory r go whole is h = tt
