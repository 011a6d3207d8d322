-- A file that has too many bytes, or was read in part: what was taken of it, and what is left.
use Rattle.std.proofs.Common.{◌≡◌, ℕ, List, ◌++◌, sym, ap, subst, ◌∙◌}
use Rattle.std.specs.Prelude.{Option, Some, None, Err, IfSome, unwrap_or}
use Rattle.std.specs.Io.KnownBytes.{prepend_known}
use Rattle.base_host.specs.Files.{File}
use Rattle.base_host.specs.Reading.{Source, ReadsTooLong}
use Rattle.base_host.specs.WholeFiles.{ReadsFile}
use Rattle.base_host.specs.declared.whole.ReadAllFault.{ReadAllFault}
use Rattle.base_host.specs.declared.whole.ReadAllFault.TheVariants.{TooLong}
use Rattle.tool_runner.specs.Runs.{Parts}
use Rattle.tool_endings.specs.Told.{HostTold}
use Rattle.tool_endings.specs.EndingsOfModels.{OnNamed, OnBytes}
use Rattle.tool_endings.proofs.lemmas.Files.{there}

-- it has too many bytes
pub too_long : {most : ℕ} {files : Option (List File)} {name : List ℕ} {s s' : Source} (fault : ReadAllFault) → fault ≡ TooLong →
    ReadsFile (Err fault) most files name s s' → ReadsTooLong most files name s s'
too_long {most} {files} {name} {s} {s'} fault is reads = subst (λ (x : ReadAllFault). ReadsFile (Err x) most files name s s') is reads

-- ---- Two parts

some-bytes : (x y : List ℕ) → Some x ≡ Some y → x ≡ y
some-bytes x y e = ap (λ (o : Option (List ℕ)). unwrap_or o x) e

-- what was taken of a file that is reported, and what is left of it, are its bytes
both-parts : (rest rest' : Option (List ℕ)) (told : List ℕ) (parts : Parts) → rest ≡ Some told →
    rest ≡ prepend_known parts.taken rest' → IfSome rest' (λ x. x ≡ parts.left) → told ≡ parts.taken ++ parts.left
both-parts rest None told parts is took left =
    let none : Some told ≡ None = sym is ∙ took in cc
both-parts rest (Some x) told parts is took left =
    some-bytes told (parts.taken ++ parts.left) (sym is ∙ took ∙ ap (λ (y : List ℕ). Some (parts.taken ++ y)) left)

-- what holds of the two parts of the bytes that were run holds of the file's
pub on-file : (rest : Option (List ℕ)) (name : List ℕ) (h h' : HostTold) → OnNamed h name (λ bytes. rest ≡ Some bytes) →
    (parts : Parts) (P : List ℕ → Type 0) → rest ≡ prepend_known parts.taken h'.rest → IfSome h'.rest (λ told. told ≡ parts.left) →
    P (parts.taken ++ parts.left) → OnBytes h name P
on-file rest name h h' opened parts P took left holds = record {
  bytes = parts.taken ++ parts.left;
  file = there h.files h.rest name opened (λ told is. both-parts rest h'.rest told parts is took left);
  holds = holds;
}
