-- The errors of texts that are refused.
use Rattle.std.proofs.Common.{◌≡◌, sym, subst, ℕ, List, Ok, Err, Result}
use Rattle.std.specs.Result.{IfErr, IsErrAnd}
use Rattle.c_grammar.specs.declared.fault.ReadCFault.{ReadCFault}
use Rattle.c_grammar.specs.declared.fault.ReadCFault.TheVariants.{Refused, Memory}
use Rattle.c_reading_laws.specs.ReadText.{read_text}
use Rattle.c_reading_laws.proofs.lemmas.ReadTexts.{texts_agree}
use Rattle.c_rules.specs.Gives.{Fails}
use Rattle.c_reader.specs.Reading.{IsReadFault}

-- the first error of a text
pub refused-text : (bytes : List ℕ) (e : ReadCFault) → Fails e (read_text bytes) → IsReadFault bytes e
refused-text bytes (Refused fault) h = texts_agree.refused bytes fault h
refused-text bytes Memory h = tt

pub refused-same : {A : Type 0} (r : Result A ReadCFault) (e : ReadCFault) (P : ReadCFault → Type 0) →
    IsErrAnd r (λ given. given ≡ e) → P e → IfErr r P
refused-same (Ok x) e P h fact = tt
refused-same (Err given) e P h fact = subst P (sym h) fact
