-- A host that is sure of the files that are read has no error of reading.
use Rattle.std.proofs.Common.{◌≡◌, ◌≢◌, ℕ, inl, inr, List, refl, sym, subst, ◌∙◌, arith}
use Rattle.std.specs.Prelude.{Bool, true, false, Option, Some, None, IfSome, IsSomeAnd, is_some}
use Rattle.base_host.specs.Faults.{Rose, IsCalm}
use Rattle.base_host.specs.Fakes.{SureHostState}
use Rattle.base_host.specs.Files.{File, lookup}
use Rattle.tool_words.specs.Words.{Asked}
use Rattle.tool_endings.specs.Told.{HostTold, SinkTold}
use Rattle.tool_endings.specs.Endings.{EndsAt}
use Rattle.tool_endings.specs.Statuses.{ComesExactly, OnTold, IsDone}
use Rattle.tool_endings.specs.Completeness.{CanDo, first_file, second_file, IsSureOf, IsUnsureOf, BecomesUnsureOf, LacksOne, LacksFile}
use Rattle.tool_endings.proofs.lemmas.Files.{at_there, told-map}
use Rattle.tool_ending_laws.specs.Laws.{SureAreDone, SureHostsAreSure, IsNeeded, told_files, has_file}

-- ---- A host that is sure of its files

apart : (b : Bool) → b ≡ true → b ≡ false → ⊥
apart b holds fails = cc (sym holds ∙ fails)

sure-not-unsure : {H : Type 0} (files : H → Option (List File)) (sure : H → List ℕ → Bool) (x : H) (a : Asked) →
    IsSureOf files sure x a → IsUnsureOf files sure x a → ⊥
sure-not-unsure {H = H} files sure x a of (inl unsure) = by (first_file a) of.first unsure
  where
    by : (o : Option (List ℕ)) → IfSome o (λ name. sure x name ≡ true) → IsSomeAnd o (λ name. sure x name ≡ false) → ⊥
    by None surely unsure = absurd unsure
    by (Some name) surely unsure = apart (sure x name) surely unsure
sure-not-unsure {H = H} files sure x a of (inr later) = by (second_file a) of.second later
  where
    by : (o : Option (List ℕ)) → IfSome o (λ name. (y : H) → files y ≡ files x → sure y name ≡ true) →
        IsSomeAnd o (BecomesUnsureOf files sure x) → ⊥
    by None surely later = absurd later
    by (Some name) surely later = apart (sure later.later name) (surely later.later later.same) later.unsure

pub surely_done : {H : Type 0} (files : H → Option (List File)) (sure : H → List ℕ → Bool) (x : H) →
    SureAreDone → (s : ℕ) (a : Option Asked) (h h' : HostTold) (b b' : SinkTold) → EndsAt s a h h' b b' →
    IfSome a (λ a. s ≡ 5 → IsUnsureOf files sure x a) →
    OnTold a h (λ a fs. IsSureOf files sure x a → IsCalm h.write_faults h'.write_faults → IsCalm b.faults b'.faults → CanDo a fs → IsDone s)
surely_done files sure x law s None h h' b b' ends unsure = tt
surely_done files sure x law s (Some a) h h' b b' ends unsure =
    let known : OnTold (Some a) h
    (λ a fs. s ≢ 5 → IsCalm h.write_faults h'.write_faults → IsCalm b.faults b'.faults → CanDo a fs → IsDone s) =
    law s (Some a) h h' b b' ends in
    told-map h.files h.rest known (λ fs done of. done (λ five. sure-not-unsure files sure x a of (unsure five)))

-- ---- The host that doesn't fail

calm : IsCalm 0 0
calm = record { same = refl; below = omega arith }

pub surely : SureHostsAreSure → (a : Option Asked) (h : SureHostState) (fs : List File) (s : ℕ) → h.files ≡ fs →
    IfSome a (λ a. IsSureOf told_files has_file h a → IsCalm 0 0 → IsCalm 0 0 → CanDo a h.files → IsDone s) →
    IfSome a (λ a. CanDo a fs → IsDone s)
surely law None h fs s same done = tt
surely law (Some a) h fs s same done = λ can.
    let there : CanDo a h.files = subst (CanDo a) (sym same) can in done (law h a there) calm calm there

pub surely_comes : (a : Option Asked) (h : SureHostState) (fs : List File) (s : ℕ) → h.files ≡ fs →
    IfSome a (λ a. ComesExactly s a h.files) → IfSome a (λ a. ComesExactly s a fs)
surely_comes a h fs s same comes = subst (λ (x : List File). IfSome a (λ a. ComesExactly s a x)) same comes

absent : (o : Option (List ℕ)) → is_some o ≡ false → o ≡ None
absent None none = refl
absent (Some bytes) none = cc

same-files : (later h : SureHostState) → told_files later ≡ told_files h → later.files ≡ h.files
same-files later h e = cc

-- that it is not sure of a file means that the file isn't there
pub surely_lacks : (a : Option Asked) (h : SureHostState) (fs : List File) (s : ℕ) → h.files ≡ fs →
    IfSome a (λ a. s ≡ 5 → IsUnsureOf told_files has_file h a) →
    IfSome a (λ a. s ≡ 5 → ((name : List ℕ) → has_file h name ≡ is_some (lookup name h.files)) → IsNeeded a h.files) →
    IfSome a (λ a. s ≡ 5 → LacksFile a fs)
surely_lacks None h fs s same unsure needed = tt
surely_lacks (Some a) h fs s same unsure needed = λ five. record {
  one = lacks (unsure five);
  needed = subst (λ (x : List File). IsNeeded a x) same (needed five (λ name. refl)) (lacks (unsure five));
}
  where
    lacks : IsUnsureOf told_files has_file h a → LacksOne a fs
    lacks (inl first) =
        inl (at_there (first_file a) first
        (λ name is. subst (λ (x : List File). lookup name x ≡ None) same (absent (lookup name h.files) is)))
    lacks (inr second) =
        inr (at_there (second_file a) second (λ name u.
        subst (λ (x : List File). lookup name x ≡ None) (same-files u.later h u.same ∙ same) (absent (lookup name u.later.files) u.unsure)))

-- a count that stays unchanged below its greatest value has not risen
pub unrisen : (s n : ℕ) → (s ≡ n → Rose 0 0) → s ≢ n
unrisen s n rises is = let rose : Rose 0 0 = rises is in omega arith
