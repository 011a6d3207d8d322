-- Numbers that are read one after another, into as many items as there are.
use Rattle.std.proofs.Common.{◌≡◌, refl, sym, ◌∙◌, ap, ℕ, ◌+◌, ◌<◌, ◌≤◌, List, [], ◌∷◌, ◌++◌, length, take, set, append_assoc, arith}
use Rattle.std.specs.Prelude.{ℤ, Option, None, Some, option_map}
use Rattle.std.proofs.lemmas.List.{length-append, length-set, take_all, take_more_set, take-append-le}
use Rattle.tool_scripts.specs.Numbers.{with_number, HasRead}

-- all numbers are those that were read and those of what is left
pub record ReadSoFar (all left : Option (List ℤ)) (found : ℕ) (into : List ℤ) : Type 0 where
  pub front : List ℤ
  pub read : HasRead (Some front) found into
  pub parts : all ≡ option_map (λ more. front ++ more) left

-- the first number of what is left goes to the front
moved : (front : List ℤ) (number : ℤ) (more : Option (List ℤ)) →
    option_map (λ xs. front ++ xs) (with_number (Some number) more) ≡ option_map (λ xs. (front ++ number ∷ []) ++ xs) more
moved front number None = refl
moved front number (Some xs) = ap (λ ys. Some ys) (sym (append_assoc front (number ∷ []) xs))

-- one number more was read, into the item after the others or into none
further : (all left more : Option (List ℤ)) (found : ℕ) (into into' : List ℤ) (number : ℤ) → left ≡ with_number (Some number) more →
    (so : ReadSoFar all left found into) → take (found + 1) into' ≡ take (length into') (so.front ++ number ∷ []) →
    ReadSoFar all more (found + 1) into'
further all left more found into into' number first so items = record {
  front = so.front ++ number ∷ [];
  read = (length-append so.front (number ∷ []) ∙ ap (λ n. n + 1) so.read.0, items);
  parts = so.parts ∙ ap (option_map (λ xs. so.front ++ xs)) first ∙ moved so.front number more;
}

pub read_into : (all left more : Option (List ℤ)) (found : ℕ) (into : List ℤ) (number : ℤ) → found < length into →
    left ≡ with_number (Some number) more →
    ReadSoFar all left found into → ReadSoFar all more (found + 1) (set into found number)
read_into all left more found into number there first so =
    let short : length so.front ≤ length into = omega (arith, so.read.0) in
    let size : length (so.front ++ number ∷ []) ≤ length (set into found number) =
    omega (arith, so.read.0, length-append so.front (number ∷ []), length-set into found number) in
    further all left more found into (set into found number) number first so
    (take_more_set into found number there ∙ ap (λ xs. xs ++ number ∷ []) (so.read.1 ∙ take_all (length into) so.front short)
    ∙ sym (take_all (length (set into found number)) (so.front ++ number ∷ []) size))

pub read_past : (all left more : Option (List ℤ)) (found : ℕ) (into : List ℤ) (number : ℤ) → length into ≤ found →
    left ≡ with_number (Some number) more →
    ReadSoFar all left found into → ReadSoFar all more (found + 1) into
read_past all left more found into number none first so =
    further all left more found into into number first so
    (take_all (found + 1) into (omega arith) ∙ sym (take_all found into none) ∙ so.read.1
    ∙ sym (take-append-le (length into) so.front (number ∷ []) (omega (arith, so.read.0))))
