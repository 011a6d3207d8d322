-- Calls on `s` go through at most three procedures of a system.
use Rattle.std.specs.Prelude.{◌≡◌, ℕ, zero, suc, ◌+◌, ◌<◌, ◌≤◌, List, [], ◌∷◌, ◌++◌, map, drop, length, replicate, slice_index}
use Rattle.std.specs.List.{AllByRecursion, enumerate_from}
use Rattle.std.proofs.Common.{refl, sym, ap, subst, ◌∙◌, arith}
use Rattle.std.proofs.lemmas.List.{length-map, length-append, length-replicate, map-append, append_assoc, append-nil}
use Rattle.modules_profile.specs.LocalSystem.{LocalSystem}
use Rattle.modules_profile.specs.SystemProfile.{SystemProfile}
use Rattle.modules_schedule.specs.SystemSchedule.{SystemSchedule}
use Rattle.c_syntax.specs.Tree.{ProcedureTree}
use Rattle.c_syntax.specs.Lawful.{chains_of}
use Rattle.c_syntax.specs.Chains.{stmts_chain}
use Rattle.emit_shape.specs.Relocation.{Relocation, moved_number, moved_stmts, moved_procedure}
use Rattle.right_claim.specs.Alone.{bare_procedures, HasShortChains}
use Rattle.emit_system_spec.specs.EmittedCode.{group_procedure, function_procedure, system_procedures, system_code}
use Rattle.emit_system_spec.specs.Groups.{code_groups}
use Rattle.right_system_rules.proofs.Lists.{each-mapped}
use Rattle.right_system_rules.proofs.Different.{all-append}
use Rattle.right_system_rules.proofs.SystemFacts.{SystemFacts}
use Rattle.right_system_rules.proofs.Moves.{Calls, calls-weaker, stmts-short}
use Rattle.right_system_rules.proofs.LeafRules.{BlockLaws}
use Rattle.right_system_rules.proofs.ProcedureLists.{all-weaker}
use Rattle.right_system_rules.proofs.OwnProcedures as own

chains-append : (chains : List ℕ) (ps qs : List ProcedureTree) → chains_of chains (ps ++ qs) ≡ chains_of (chains_of chains ps) qs
chains-append chains [] qs = refl
chains-append chains (p ∷ ps) qs = chains-append (chains ++ (stmts_chain chains p.body + 1) ∷ []) ps qs

front-index : (n : ℕ) (front more : List ℕ) (k : ℕ) → AllByRecursion (λ c. c ≤ n) front → k < length front →
    slice_index (front ++ more) k ≤ n
front-index n [] more k all below = absurd (omega (arith, below))
front-index n (c ∷ front) more zero all below = all.0
front-index n (c ∷ front) more (suc k) all below = front-index n front more k all.1 (omega (arith, below))

-- after chains of at most n, those of procedures that call these alone
record IsLonger (n : ℕ) (front chains : List ℕ) (count : ℕ) : Type 0 where
  pub more : List ℕ
  pub is : chains ≡ front ++ more
  pub short : AllByRecursion (λ c. c ≤ n + 1) more
  pub long : length more ≡ count

chains-longer : (m : Relocation) (n : ℕ) (front more : List ℕ) (ps : List ProcedureTree) → AllByRecursion (λ c. c ≤ n) front →
    AllByRecursion (λ c. c ≤ n + 1) more →
    AllByRecursion (λ (p : ProcedureTree). Calls (λ k. moved_number m k < length front) p.body) ps →
    IsLonger n front (chains_of (front ++ more) (map (moved_procedure m) ps)) (length more + length ps)
chains-longer m n front more [] all short calls = record { more = more; is = refl; short = short; long = omega arith }
chains-longer m n front more (p ∷ ps) all short calls =
    let chains = front ++ more in
    let c = stmts_chain chains (moved_stmts m p.body) + 1 in
    let low : stmts_chain chains (moved_stmts m p.body) ≤ n =
    stmts-short m chains n p.body
    (calls-weaker (λ k. moved_number m k < length front) (λ k. slice_index chains (moved_number m k) ≤ n)
    (λ k below. front-index n front more (moved_number m k) all below) p.body calls.0) in
    let rest =
    chains-longer m n front (more ++ c ∷ []) ps all (all-append (λ c. c ≤ n + 1) more (c ∷ []) short (omega (arith, low), tt)) calls.1 in
    let size = length-append more (c ∷ []) in
    let total = rest.long in record {
      more = rest.more;
      is = ap (λ l. chains_of l (map (moved_procedure m) ps)) (append_assoc front more (c ∷ [])) ∙ rest.is;
      short = rest.short;
      long = omega (arith, total, size);
    }

zeros-low : (n : ℕ) → AllByRecursion (λ c. c ≤ 0) (replicate n 0)
zeros-low zero = tt
zeros-low (suc n) = (omega arith, zeros-low n)

drop-front : (xs ys : List ℕ) → drop (length xs) (xs ++ ys) ≡ ys
drop-front [] ys = refl
drop-front (x ∷ xs) ys = drop-front xs ys

-- ---- A system

module _ (local : LocalSystem) (profile : SystemProfile) (schedule : SystemSchedule) (facts : SystemFacts local profile schedule)
    (laws : BlockLaws) where
  abbrev m : Relocation
  m = own.m local profile schedule facts laws

  abbrev groups : List ProcedureTree
  groups = own.groups local profile schedule facts laws

  abbrev others : List ProcedureTree
  others = own.functions local profile schedule facts laws ++ own.last local profile schedule facts laws

  abbrev moved : List ProcedureTree → List ProcedureTree
  moved = map (moved_procedure m)

  abbrev CallsBelow : ℕ → ProcedureTree → Type 0
  CallsBelow n p = Calls (λ k. moved_number m k < n) p.body

  abbrev limit : ℕ
  limit = length (bare_procedures local)

  abbrev zeros : List ℕ
  zeros = replicate limit 0

  zeros-long : length zeros ≡ limit
  zeros-long = length-replicate limit 0

  -- groups call children alone
  group-chains : IsLonger 0 zeros (chains_of (zeros ++ []) (moved groups)) (length {A = ℕ} [] + length groups)
  group-chains =
      chains-longer m 0 zeros [] groups (zeros-low limit) tt
      (each-mapped (CallsBelow (length zeros)) (group_procedure local profile schedule) (code_groups schedule)
      (λ g h. subst (λ n. CallsBelow n (group_procedure local profile schedule g)) (sym zeros-long)
      (own.group-sound local profile schedule facts laws [] [] g).body.calls))

  front : List ℕ
  front = zeros ++ group-chains.more

  front-long : length front ≡ limit + length (code_groups schedule)
  unfolding front
  front-long =
      let both = length-append zeros group-chains.more in
      let made = length-map (code_groups schedule) (group_procedure local profile schedule) in
      let size = group-chains.long in
      omega (arith, both, zeros-long, made, size)

  front-low : AllByRecursion (λ c. c ≤ 1) front
  unfolding front
  front-low =
      all-append (λ c. c ≤ 1) zeros group-chains.more
      (all-weaker (λ c. c ≤ 0) (λ c. c ≤ 1) (λ c h. omega (arith, h)) zeros (zeros-low limit))
      (all-weaker (λ c. c ≤ 0 + 1) (λ c. c ≤ 1) (λ c h. omega (arith, h)) group-chains.more group-chains.short)

  wider : (p : ProcedureTree) → CallsBelow limit p → CallsBelow (length front) p
  wider p h =
      calls-weaker (λ k. moved_number m k < limit) (λ k. moved_number m k < length front)
      (λ k below. omega (arith, below, front-long)) p.body h

  others-below : AllByRecursion (CallsBelow (length front)) others
  others-below =
      all-append (CallsBelow (length front)) (own.functions local profile schedule facts laws) (own.last local profile schedule facts laws)
      (each-mapped (CallsBelow (length front)) (function_procedure local profile schedule) (enumerate_from 1 schedule.functions)
      (λ e h. subst (λ n. CallsBelow n (function_procedure local profile schedule e)) (sym front-long)
      (own.function-sound local profile schedule facts laws [] [] e (own.of-schedule local profile schedule facts laws e h)).body.calls)) (
        wider (own.update_procedure local profile schedule facts laws)
            (own.update-sound local profile schedule facts laws [] []).body.calls,
        (
          wider (own.start_procedure local profile schedule facts laws)
              (own.start-sound local profile schedule facts laws [] []).body.calls,
          (
            wider (own.reset_procedure local profile schedule facts laws)
                (own.reset-sound local profile schedule facts laws [] []).body.calls,
            tt,
          ),
        ),
      )

  -- the others call children and groups
  other-chains : IsLonger 1 front (chains_of (front ++ []) (moved others)) (length {A = ℕ} [] + length others)
  other-chains = chains-longer m 1 front [] others front-low tt others-below

  abbrev all : List ProcedureTree
  all = system_procedures local profile schedule

  parts : moved all ≡ moved groups ++ moved others
  parts =
      ap moved (append_assoc groups (own.functions local profile schedule facts laws) (own.last local profile schedule facts laws))
      ∙ map-append (moved_procedure m) groups others

  chains-are : chains_of zeros (moved all) ≡ zeros ++ (group-chains.more ++ other-chains.more)
  unfolding front
  chains-are =
      ap (chains_of zeros) parts ∙ chains-append zeros (moved groups) (moved others)
      ∙ ap (λ l. chains_of l (moved others)) (ap (λ l. chains_of l (moved groups)) (sym (append-nil zeros)) ∙ group-chains.is)
      ∙ ap (λ l. chains_of l (moved others)) (sym (append-nil front)) ∙ other-chains.is
      ∙ append_assoc zeros group-chains.more other-chains.more

  dropped : drop limit (chains_of zeros (moved all)) ≡ group-chains.more ++ other-chains.more
  dropped =
      let more = group-chains.more ++ other-chains.more in
      ap (drop limit) chains-are ∙ ap (λ n. drop n (zeros ++ more)) (sym zeros-long) ∙ drop-front zeros more

  pub short_chains : HasShortChains local (system_code local profile schedule)
  short_chains =
      subst (AllByRecursion (λ n. n ≤ 3)) (sym dropped)
      (all-append (λ n. n ≤ 3) group-chains.more other-chains.more
      (all-weaker (λ c. c ≤ 0 + 1) (λ c. c ≤ 3) (λ c h. omega (arith, h)) group-chains.more group-chains.short)
      (all-weaker (λ c. c ≤ 1 + 1) (λ c. c ≤ 3) (λ c h. omega (arith, h)) other-chains.more other-chains.short))
