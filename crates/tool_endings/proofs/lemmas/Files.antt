-- What is known of files that a host may report.
use Rattle.std.proofs.Common.{◌≡◌, ◌<◌, ◌+◌, List, ℕ, length, replicate, refl, sym, subst, arith}
use Rattle.std.proofs.lemmas.List.{length-replicate}
use Rattle.std.specs.Prelude.{Option, Some, None, IsSomeAnd, IfSome, OnSome}
use Rattle.base_host.specs.Files.{File, OnFile, lookup}
use Rattle.base_host.specs.Reading.{Source, ReadsFront}
use Rattle.tool_endings.specs.Told.{HostTold, source_of, ReadsAlone, ReadsNone}
use Rattle.tool_endings.specs.EndingsOfModels.{OnNamed, OnBytes}

-- P holds of the file of this name, if it is there and reported
abbrev pub IfNamed : Option (List File) → Option (List ℕ) → List ℕ → (List ℕ → Type 0) → Type 0
IfNamed files rest name P = IfSome files (λ fs. OnSome rest (IfSome (lookup name fs) P))

-- P holds of the files, if they are reported
abbrev pub IfTold : Option (List File) → Option (List ℕ) → (List File → Type 0) → Type 0
IfTold files rest P = IfSome files (λ fs. OnSome rest (P fs))

-- what holds of all bytes holds of a file's
at_found : (o : Option (List ℕ)) {Q : List ℕ → Type 0} → ((bytes : List ℕ) → Q bytes) → IfSome o Q
at_found None q = tt
at_found (Some bytes) q = q bytes

pub any_file : (files : Option (List File)) (rest : Option (List ℕ)) (name : List ℕ) {Q : List ℕ → Type 0} →
    ((bytes : List ℕ) → Q bytes) → IfNamed files rest name Q
any_file None rest name q = tt
any_file (Some fs) None name q = tt
any_file (Some fs) (Some xs) name q = at_found (lookup name fs) q

-- what follows from what is known of the file's bytes
at_known : (o : Option (List ℕ)) {P Q : List ℕ → Type 0} → IsSomeAnd o P → ((bytes : List ℕ) → P bytes → Q bytes) → IfSome o Q
at_known None h q = absurd h
at_known (Some bytes) h q = q bytes h

pub known_file : (files : Option (List File)) (rest : Option (List ℕ)) (name : List ℕ) {P Q : List ℕ → Type 0} →
    OnFile files rest name P → ((bytes : List ℕ) → P bytes → Q bytes) → IfNamed files rest name Q
known_file None rest name h q = tt
known_file (Some fs) None name h q = tt
known_file (Some fs) (Some xs) name h q = at_known (lookup name fs) h q

-- and it is there
pub at_there : (o : Option (List ℕ)) {P Q : List ℕ → Type 0} → IsSomeAnd o P → ((bytes : List ℕ) → P bytes → Q bytes) → IsSomeAnd o Q
at_there None h q = h
at_there (Some bytes) h q = q bytes h

pub there : (files : Option (List File)) (rest : Option (List ℕ)) (name : List ℕ) {P Q : List ℕ → Type 0} →
    OnFile files rest name P → ((bytes : List ℕ) → P bytes → Q bytes) → OnFile files rest name Q
there None rest name h q = h
there (Some fs) None name h q = h
there (Some fs) (Some xs) name h q = at_there (lookup name fs) h q

-- what is known of some bytes is known of the file that they are
pub named : (h : HostTold) (name : List ℕ) {P : List ℕ → Type 0} → OnBytes h name P → OnNamed h name P
named h name {P = P} known = there h.files h.rest name known.file (λ told is. subst P (sym is) known.holds)

-- what is known of a file that may be reported is known of some bytes, where it holds of any
pub some_bytes : (h : HostTold) (name : List ℕ) {P : List ℕ → Type 0} → OnNamed h name P → (other : List ℕ) → P other → OnBytes h name P
some_bytes h name {P = P} known other holds = by h.files h.rest refl refl known
  where
    at : (fs : List File) (xs : List ℕ) (found : Option (List ℕ)) → h.files ≡ Some fs → h.rest ≡ Some xs →
        lookup name fs ≡ found → IsSomeAnd found P →
        OnBytes h name P
    at fs xs None told rest same known = absurd known
    at fs xs (Some bytes) told rest same known = record {
      bytes = bytes;
      file = rw (told, rest, same) refl;
      holds = known;
    }

    by : (files : Option (List File)) (rest : Option (List ℕ)) → h.files ≡ files → h.rest ≡ rest →
        OnFile files rest name P → OnBytes h name P
    by None rest none same known = record { bytes = other; file = rw none tt; holds = holds }
    by (Some fs) None told none known = record { bytes = other; file = rw (told, none) tt; holds = holds }
    by (Some fs) (Some xs) told rest known = at fs xs (lookup name fs) told rest refl known

-- where nothing more is read, it is still that file alone
pub still_alone : (name : List ℕ) (h h1 h' : HostTold) → ReadsAlone name h h1 → ReadsNone h1 h' → ReadsAlone name h h'
still_alone name h h1 h' alone none = subst (λ (s : Source). ReadsFront h.files name (source_of h) s) (sym none) alone

-- a file that is longer than n bytes, where it is reported
pub longer_than : (h : HostTold) (name : List ℕ) (n : ℕ) → OnNamed h name (λ x. n < length x) → OnBytes h name (λ x. n < length x)
longer_than h name n long =
    some_bytes h name long (replicate (n + 1) 0) (let count = length-replicate {A = ℕ} (n + 1) 0 in
    omega (arith, count))

-- what follows of the files from what is known of one of them
pub told_one : (files : Option (List File)) (rest : Option (List ℕ)) (name : List ℕ) {P : List ℕ → Type 0}
    {Q : List File → Type 0} → OnFile files rest name P → ((fs : List File) → IsSomeAnd (lookup name fs) P → Q fs) →
    IfTold files rest Q
told_one None rest name h q = tt
told_one (Some fs) None name h q = tt
told_one (Some fs) (Some xs) name h q = q fs h

-- the same where a second one is known by what was found of the first
pub told_two : (files : Option (List File)) (rest : Option (List ℕ)) (first second : List ℕ) {X : List ℕ → Type 0}
    {P : (bytes : List ℕ) → X bytes → List ℕ → Type 0} {Q : List File → Type 0} →
    OnFile files rest first (λ bytes. (x : X bytes) × OnFile files rest second (P bytes x)) →
    ((fs : List File) →
    IsSomeAnd (lookup first fs) (λ bytes. (x : X bytes) × IsSomeAnd (lookup second fs) (P bytes x)) → Q fs) →
    IfTold files rest Q
told_two None rest first second h q = tt
told_two (Some fs) None first second h q = tt
told_two (Some fs) (Some xs) first second h q = q fs h

-- what holds of all files holds of those that are reported
pub told_any : (files : Option (List File)) (rest : Option (List ℕ)) {Q : List File → Type 0} →
    ((fs : List File) → Q fs) → IfTold files rest Q
told_any None rest q = tt
told_any (Some fs) None q = tt
told_any (Some fs) (Some xs) q = q fs

-- what follows of the files that are reported from what is known of them
pub told-map : (files : Option (List File)) (rest : Option (List ℕ)) {P Q : List File → Type 0} → IfTold files rest P →
    ((fs : List File) → P fs → Q fs) → IfTold files rest Q
told-map None rest h q = tt
told-map (Some fs) None h q = tt
told-map (Some fs) (Some xs) h q = q fs h
