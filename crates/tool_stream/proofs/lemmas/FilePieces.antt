-- Files that are read in pieces.
use Rattle.std.proofs.Common.{◌≡◌, refl, sym, ◌∙◌, ap, subst, ℕ, List, [], ◌∷◌, ◌++◌, length, arith}
use Rattle.std.specs.Prelude.{Option, None, Some, IfSome}
use Rattle.std.specs.Io.KnownBytes.{IsAtEnd}
use Rattle.std.proofs.lemmas.List.{append-nil}
use Rattle.base_host.specs.Reading.{Source}
use Rattle.base_host.specs.Buffers.{ReadsOn}
use Rattle.tool_traces.specs.Pieces.{BeginsLine}

pub begins_none : (bytes : List ℕ) → bytes ≡ [] → BeginsLine bytes
begins_none bytes none = subst BeginsLine (sym none) (record { no_whole = refl; short = omega arith })

pub no_bytes : (piece : List ℕ) → length piece ≡ 0 → piece ≡ []
no_bytes [] none = refl
no_bytes (c ∷ cs) none = absurd (omega arith)

-- at the end of the file the bytes are those that were there
pub same_bytes : (count : ℕ) (bytes bytes' : List ℕ) (rest rest' : Source) →
    ReadsOn count bytes bytes' rest rest' → count ≡ 0 → bytes' ≡ bytes
same_bytes count bytes bytes' rest rest' more none =
    more.bytes ∙ ap (λ p. bytes ++ p) (no_bytes more.piece (more.size ∙ none)) ∙ append-nil bytes

-- what is left of a file, where it is reported
abbrev pub left_of : Option (List ℕ) → List ℕ
left_of None = []
left_of (Some xs) = xs

pub is_left : (rest : Option (List ℕ)) → IfSome rest (λ told. told ≡ left_of rest)
is_left None = tt
is_left (Some xs) = refl

pub none_left : (rest : Option (List ℕ)) → IsAtEnd rest → left_of rest ≡ []
none_left None end = refl
none_left (Some xs) end = end
