-- Reads of a file, one after another.
use Rattle.std.proofs.Common.{◌≡◌, ◌<◌, ◌≤◌, ℕ, ◌+◌, List, [], ◌++◌, length, take, refl, ap, sym, ◌∙◌, append_assoc, arith}
use Rattle.std.specs.Prelude.{Option, Some, None, IsSomeAnd, unwrap_or}
use Rattle.std.specs.Io.KnownBytes.{prepend_known, IsAtEnd}
use Rattle.std.proofs.lemmas.List.{append-nil, length-append, length-take-le}
use Rattle.base_host.specs.Files.{File, OnFile, lookup}
use Rattle.base_host.specs.Reading.{RoseBy, Source, source, HasRead, ReadsFront, ReadsWhole}

-- what is known is the same with nothing before it
pub prepend_known-none : (k : Option (List ℕ)) → k ≡ prepend_known [] k
prepend_known-none None = refl
prepend_known-none (Some xs) = refl

pub prepend_known-twice : (a b : List ℕ) (k : Option (List ℕ)) → prepend_known a (prepend_known b k) ≡ prepend_known (a ++ b) k
prepend_known-twice a b None = refl
prepend_known-twice a b (Some xs) = ap (λ ys. Some ys) (sym (append_assoc a b xs))

-- a count that rose twice rose by the sum
pub rose_twice : (m n before between now : ℕ) → RoseBy m before between → RoseBy n between now → RoseBy (m + n) before now
rose_twice m n before between now first then_more = omega (arith, first, then_more)

-- a count that rose by n rose by the length of n bytes
pub rose_by_taken : (before now n : ℕ) (bytes : List ℕ) → n ≤ length bytes → RoseBy n before now → RoseBy (length (take n bytes)) before now
rose_by_taken before now n bytes within rose =
    let size : length (take n bytes) ≡ n = length-take-le n bytes within in omega (arith, size, rose)

-- nothing was read
pub read_nothing : (s : Source) → HasRead [] s s
read_nothing s = record { front = prepend_known-none s.rest; count = omega arith }

-- what was read, and what was read after it
pub read_both : (a b : List ℕ) (s s' s'' : Source) → HasRead a s s' → HasRead b s' s'' → HasRead (a ++ b) s s''
read_both a b s s' s'' first then_more = record {
  front = first.front ∙ ap (prepend_known a) then_more.front ∙ prepend_known-twice a b s''.rest;
  count =
      let sum : length (a ++ b) ≡ length a + length b = length-append a b in
      let p = first.count in
      let q = then_more.count in
      omega (arith, sum, p, q);
}

-- where the file is there and known, what holds of its bytes makes another thing hold of them
pub on_file_then : (files : Option (List File)) (rest : Option (List ℕ)) (name : List ℕ) (P Q : List ℕ → Type 0) →
    ((bytes : List ℕ) → P bytes → Q bytes) → OnFile files rest name P → OnFile files rest name Q
on_file_then None rest name P Q f on = tt
on_file_then (Some fs) None name P Q f on = tt
on_file_then (Some fs) (Some xs) name P Q f on = there (lookup name fs) on
  where
    there : (bytes : Option (List ℕ)) → IsSomeAnd bytes P → IsSomeAnd bytes Q
    there None on = on
    there (Some bytes) on = f bytes on

-- a file is these bytes, some more, and what is left
and_more : (files : Option (List File)) (name : List ℕ) (rest rest' rest'' : Option (List ℕ)) (n : ℕ) (bytes into : List ℕ) →
    OnFile files rest name (λ file. Some file ≡ prepend_known bytes rest') → rest' ≡ prepend_known (take n into) rest'' →
    OnFile files rest name (λ file. Some file ≡ prepend_known (bytes ++ take n into) rest'')
and_more files name rest rest' rest'' n bytes into file more = on_file_then files rest name (λ file. Some file ≡ prepend_known bytes rest')
    (λ file. Some file ≡ prepend_known (bytes ++ take n into) rest'')
    (λ file is. is ∙ ap (prepend_known bytes) more ∙ prepend_known-twice bytes (take n into) rest'') file

-- so many bytes, and more
sum_and_more : (n : ℕ) (bytes into : List ℕ) → n ≤ length into → length (bytes ++ take n into) ≡ length bytes + n
sum_and_more n bytes into within =
    let sum : length (bytes ++ take n into) ≡ length bytes + length (take n into) = length-append bytes (take n into) in
    let size : length (take n into) ≡ n = length-take-le n into within in
    omega (arith, sum, size)

-- of a file a front was read, and some more
pub front_and_more : (files : Option (List File)) (name : List ℕ) (rest rest' rest'' : Option (List ℕ))
    (before between now n : ℕ) (bytes into : List ℕ) →
    OnFile files rest name (λ file. Some file ≡ prepend_known bytes rest') → rest' ≡ prepend_known (take n into) rest'' →
    n ≤ length into → RoseBy (length bytes) before between → RoseBy n between now →
    ReadsFront files name (source rest before) (source rest'' now)
front_and_more files name rest rest' rest'' before between now n bytes into file more within rose again = record {
  taken = bytes ++ take n into;
  file = and_more files name rest rest' rest'' n bytes into file more;
  count = let sum = sum_and_more n bytes into within in omega (arith, sum, rose, again);
}

-- a file is no shorter than a front of it
longer : (most : ℕ) (taken told : List ℕ) (rest : Option (List ℕ)) → Some told ≡ prepend_known taken rest → most < length taken →
    most < length told
longer most taken told None is long = let none : Some told ≡ None = is in cc
longer most taken told (Some xs) is long =
    let same : told ≡ taken ++ xs = ap (λ (o : Option (List ℕ)). unwrap_or o told) is in
    let sum : length (taken ++ xs) ≡ length taken + length xs = length-append taken xs in
    omega (arith, ap length same, sum, long)

-- a front and more of a file are too many bytes, so the file has too many
pub long_and_more : (most : ℕ) (files : Option (List File)) (name : List ℕ) (rest rest' rest'' : Option (List ℕ)) (n : ℕ)
    (bytes into : List ℕ) →
    OnFile files rest name (λ file. Some file ≡ prepend_known bytes rest') → rest' ≡ prepend_known (take n into) rest'' →
    n ≤ length into → most < length bytes + n → OnFile files rest name (λ file. most < length file)
long_and_more most files name rest rest' rest'' n bytes into file more within long =
    let sum = sum_and_more n bytes into within in
    let enough : most < length (bytes ++ take n into) = omega (arith, sum, long) in
    on_file_then files rest name (λ file. Some file ≡ prepend_known (bytes ++ take n into) rest'') (λ file. most < length file)
    (λ file is. longer most (bytes ++ take n into) file rest'' is enough) (and_more files name rest rest' rest'' n bytes into file more)

-- ---- A file that was read whole

-- what is at its end after these bytes is empty, and they are all bytes
none_after : (bytes told : List ℕ) (rest : Option (List ℕ)) → IsAtEnd rest → Some told ≡ prepend_known bytes rest →
    (rest ≡ Some []) × (bytes ≡ told)
none_after bytes told None end is = let none : Some told ≡ None = is in cc
none_after bytes told (Some xs) empty is = (
  ap (λ (ys : List ℕ). Some ys) empty,
  sym (ap (λ (o : Option (List ℕ)). unwrap_or o told) is ∙ ap (λ (ys : List ℕ). bytes ++ ys) empty ∙ append-nil bytes),
)

module _ {most : ℕ} {files : Option (List File)} {name bytes : List ℕ} {s s' : Source} (read : ReadsWhole most files name bytes s s') where
  pub whole_bytes : OnFile files s.rest name (λ told. bytes ≡ told)
  whole_bytes =
      on_file_then files s.rest name (λ told. Some told ≡ prepend_known bytes s'.rest) (λ told. bytes ≡ told)
      (λ told is. (none_after bytes told s'.rest read.end is).1) read.file

  -- where the host's files are known, so is that nothing is left
  pub whole_left : OnFile files s.rest name (λ told. s'.rest ≡ Some [])
  whole_left =
      on_file_then files s.rest name (λ told. Some told ≡ prepend_known bytes s'.rest) (λ told. s'.rest ≡ Some [])
      (λ told is. (none_after bytes told s'.rest read.end is).0) read.file

  pub whole_front : ReadsFront files name s s'
  whole_front = record { taken = bytes; file = read.file; count = read.count }
