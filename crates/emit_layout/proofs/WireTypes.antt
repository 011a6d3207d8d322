-- The types of wires, one wire on.
use Rattle.std.proofs.Common.{◌≡◌, ℕ, ◌+◌, ◌<◌, List, [], ◌∷◌, ◌++◌, map, length, get_or, drop, Option, Some, None, sym, ap, ◌∙◌, append-nil, append_assoc}
use Rattle.std.proofs.lemmas.List.{at_drop_more}
use Rattle.base_fixed_point.specs.declared.types.FixType.{FixType}
use Rattle.emit_system_spec.specs.declared.source.Source.{Source}
use Rattle.emit_system_spec.specs.Sources.{known_types}

-- Where this is what wires read.
module _ (found : ℕ → Option Source) where
  abbrev types : List ℕ → List FixType
  types wires = known_types (map found wires)

  next : (wires : List ℕ) (i w : ℕ) (o : Option Source) → i < length wires → w ≡ get_or wires i w → found w ≡ o →
      types (drop i wires) ≡ known_types (o ∷ map found (drop (i + 1) wires))
  next wires i w o inside read is =
      at_drop_more types wires i w inside
      ∙ ap (λ s. known_types (s ∷ map found (drop (i + 1) wires))) (sym (ap found read) ∙ is)

  -- a wire with a source adds its type
  pub types-more : (wires : List ℕ) (i w : ℕ) (s : Source) (so_far now : List FixType) → i < length wires → w ≡ get_or wires i w →
      found w ≡ Some s → types wires ≡ so_far ++ types (drop i wires) → now ≡ so_far ++ s.number ∷ [] →
      types wires ≡ now ++ types (drop (i + 1) wires)
  types-more wires i w s so_far now inside read is before pushed =
      before ∙ ap (λ ts. so_far ++ ts) (next wires i w (Some s) inside read is)
      ∙ sym (append_assoc so_far (s.number ∷ []) (types (drop (i + 1) wires)))
      ∙ ap (λ ts. ts ++ types (drop (i + 1) wires)) (sym pushed)

  -- at one without there is no further type
  pub types-end : (wires : List ℕ) (i w : ℕ) (so_far : List FixType) → i < length wires → w ≡ get_or wires i w → found w ≡ None →
      types wires ≡ so_far ++ types (drop i wires) → so_far ≡ types wires
  types-end wires i w so_far inside read is before =
      sym (before ∙ ap (λ ts. so_far ++ ts) (next wires i w None inside read is) ∙ append-nil so_far)
