-- Structs and procedures, from the last code to the first.
use Rattle.std.proofs.Common.{◌≡◌, sym, ap, ◌∙◌, ℕ, ◌+◌, List, [], ◌∷◌, ◌++◌, map, reverse, append_assoc, arith}
use Rattle.std.specs.List.{range_with_len, flat_map}
use Rattle.std.proofs.lemmas.List.{reverse-append}
use Rattle.std.proofs.lemmas.List.Concat.{flat_map-cons}
use Rattle.c_syntax.specs.Tree.{ProcedureTree}
use Rattle.emit_shape.specs.SystemTree.{SystemTree}
use Rattle.emit_shape.specs.Relocation.{moved_procedure}
use Rattle.emit_shape.specs.Assembled.{code_at, relocation_of}
use Rattle.emit_row_facts.proofs.lemmas.Steps.{range-more}

-- the procedures of code i in the program
abbrev pub code_procedures : List SystemTree → ℕ → List ProcedureTree
code_procedures all i = map (moved_procedure (relocation_of all i)) (code_at all i).procedures

-- the numbers below one more, from the last
pub last-first : (i : ℕ) → reverse (range_with_len 0 (i + 1)) ≡ i ∷ reverse (range_with_len 0 i)
last-first i = ap reverse (range-more 0 i i (omega arith)) ∙ reverse-append (range_with_len 0 i) (i ∷ [])

pub structs-more : {A : Type 0} (f : ℕ → A) (j i : ℕ) (done new whole : List A) → j ≡ i + 1 →
    done ++ map f (reverse (range_with_len 0 j)) ≡ whole → new ≡ done ++ f i ∷ [] → new ++ map f (reverse (range_with_len 0 i)) ≡ whole
structs-more {A = A} f j i done new whole next before pushed =
    ap (λ (l : List A). l ++ map f (reverse (range_with_len 0 i))) pushed
    ∙ append_assoc done (f i ∷ []) (map f (reverse (range_with_len 0 i)))
    ∙ ap (λ l. done ++ map f l) (sym (ap (λ n. reverse (range_with_len 0 n)) next ∙ last-first i)) ∙ before

pub procedures-more : {A : Type 0} (f : ℕ → List A) (j i : ℕ) (done new whole : List A) → j ≡ i + 1 →
    done ++ flat_map f (reverse (range_with_len 0 j)) ≡ whole → new ≡ done ++ f i →
    new ++ flat_map f (reverse (range_with_len 0 i)) ≡ whole
procedures-more {A = A} f j i done new whole next before pushed =
    ap (λ (l : List A). l ++ flat_map f (reverse (range_with_len 0 i))) pushed
    ∙ append_assoc done (f i) (flat_map f (reverse (range_with_len 0 i)))
    ∙ ap (λ (l : List A). done ++ l) (sym (flat_map-cons f i (reverse (range_with_len 0 i))))
    ∙ ap (λ l. done ++ flat_map f l) (sym (ap (λ n. reverse (range_with_len 0 n)) next ∙ last-first i)) ∙ before
