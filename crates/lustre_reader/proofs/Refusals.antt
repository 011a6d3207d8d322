-- The errors of texts that are refused.
use Rattle.std.proofs.Common.{◌≡◌, sym, subst, ℕ, List, Ok, Err, Result}
use Rattle.std.specs.Result.{IfErr, IsErrAnd}
use Rattle.c_grammar.specs.declared.fault.ReadCFault.{ReadCFault}
use Rattle.c_grammar.specs.declared.fault.ReadCFault.TheVariants.{Refused, Memory}
use Rattle.c_rules.specs.Gives.{Fails}
use Rattle.lustre_grammar.specs.Written.{WrittenFile}
use Rattle.lustre_grammar.specs.ParsedText.{parse_text}
use Rattle.lustre_rules.specs.Resolve.{resolve_file}
use Rattle.lustre_reading_laws.proofs.lemmas.Readings.{text-refused, rule-broken}
use Rattle.lustre_reader.specs.Reading.{IsReadFault}

-- an error of the grammar, and of a rule
pub grammar-refused : (bytes : List ℕ) (e : ReadCFault) → Fails e (parse_text bytes) → IsReadFault bytes e
grammar-refused bytes (Refused fault) h = text-refused bytes fault h
grammar-refused bytes Memory h = tt

pub rule-refused : (bytes : List ℕ) (w : WrittenFile) (e : ReadCFault) → parse_text bytes ≡ Ok w → Fails e (resolve_file w) →
    IsReadFault bytes e
rule-refused bytes w (Refused fault) parsed h = rule-broken bytes w fault parsed h
rule-refused bytes w Memory parsed h = tt

pub refused-same : {A : Type 0} (r : Result A ReadCFault) (e : ReadCFault) (P : ReadCFault → Type 0) →
    IsErrAnd r (λ given. given ≡ e) → P e → IfErr r P
refused-same (Ok x) e P h fact = tt
refused-same (Err given) e P h fact = subst P (sym h) fact
