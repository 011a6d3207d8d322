-- The path of a subsystem, by the subsystem around it.
use Rattle.std.proofs.Common.{◌≡◌, sym, ◌∙◌, ap, ap₂, ℕ, zero, suc, ◌-◌, ◌<◌, List, ◌++◌, Some, arith, codes}
use Rattle.std.specs.Prelude.{slice_get}
use Rattle.std.proofs.lemmas.List.{append_assoc}
use Rattle.emit_notes.specs.declared.labels.Label.{Label}
use Rattle.emit_notes.specs.BlockNotes.{path_around, path_to, path_of}

-- the path of a block that is there
path-some : (labels : List Label) (n r : ℕ) (l : Label) → 0 < n → slice_get labels r ≡ Some l →
    path_of labels n r ≡ path_around (λ o. path_of labels (n - 1) o) l.owner ++ l.name
path-some labels zero r l some at = absurd (omega (arith, some))
path-some labels (suc n) r l some at =
    ap (path_to (λ o. path_of labels n o)) at
    ∙ ap (λ m. path_around (λ o. path_of labels m o) l.owner ++ l.name) (let e : n ≡ suc n - 1 = omega arith in e)

-- the path to the subsystem around, and then the own name
pub path-inside : (labels : List Label) (n r o : ℕ) (l : Label) (out with_path with_slash name : List ℕ) → 0 < n →
    slice_get labels r ≡ Some l → l.owner ≡ Some o → with_path ≡ out ++ path_of labels (n - 1) o → with_slash ≡ with_path ++ codes "/" →
    name ≡ l.name → with_slash ++ name ≡ out ++ path_of labels n r
path-inside labels n r o l out with_path with_slash name some at around path slash named =
    let before : List ℕ = path_of labels (n - 1) o in
    ap₂ ◌++◌ (slash ∙ ap (λ x. x ++ codes "/") path) named
    ∙ ap (λ x. x ++ l.name) (append_assoc out before (codes "/")) ∙ append_assoc out (before ++ codes "/") l.name
    ∙ ap (λ p. out ++ p)
    (sym (path-some labels n r l some at ∙ ap (λ o. path_around (λ o. path_of labels (n - 1) o) o ++ l.name) around))
