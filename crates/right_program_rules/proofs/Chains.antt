-- No chain of calls is longer than 128: on each level at most three procedures, and the root's.
use Rattle.std.specs.Prelude.{◌≡◌, ℕ, zero, suc, ◌+◌, ◌-◌, ◌*◌, ◌<◌, ◌≤◌, List, [], ◌∷◌, ◌++◌, map, drop, length, replicate, slice_get, slice_index, Contains, Option, Some}
use Rattle.std.specs.List.{AllByRecursion}
use Rattle.std.proofs.Common.{refl, sym, ap, subst, ◌∙◌, arith, inl, inr}
use Rattle.std.proofs.Math.ListN.{get_or-eq_default}
use Rattle.std.proofs.Math.Seq.{get_or-append_seam}
use Rattle.std.proofs.lemmas.Bool.{cases_lt}
use Rattle.std.proofs.lemmas.List.{append_assoc, get_or_append_left, get_or-append-add, length-append, length-replicate}
use Rattle.std.proofs.lemmas.Option.{same_Some, slice_get-get_or, none-some}
use Rattle.modules_profile.specs.declared.ChildUse.{ChildUse}
use Rattle.modules_profile.specs.SystemHeader.{SystemHeader}
use Rattle.modules_profile.proofs.lemmas.Members.{in-at, at-in, at-below, below-at, at-map}
use Rattle.c_syntax.specs.Tree.{ProcedureTree}
use Rattle.c_syntax.specs.Lawful.{chains_of}
use Rattle.c_syntax.specs.Chains.{stmts_chain, chain_limit}
use Rattle.emit_shape.specs.Heads.{head_of, public_heads}
use Rattle.emit_shape.specs.Relocation.{Relocation, moved_number, moved_procedure}
use Rattle.emit_shape.specs.Programs.{procedure_place}
use Rattle.emit_shape.specs.LocalShape.{callable}
use Rattle.emit_shape.specs.Assembled.{first_procedure, relocation_of}
use Rattle.right_claim.specs.Alone.{bare_procedures, behind_bare, CallsWithin}
use Rattle.right_linking.specs.Parts.{Parts, program_of, diagram, all_systems, IsCodedAs, Views}
use Rattle.right_linking.specs.Places.{SystemsHavePlaces}
use Rattle.right_linking.proofs.lemmas.AssembledPlaces.{mapped-length, member, all-made, own-procedure}
use Rattle.right_program_rules.specs.Keeping.{OfferedStandByName}
use Rattle.right_program_rules.proofs.Lists.{of-flat_map}
use Rattle.right_program_rules.proofs.BareProcedures.{all_heads}
use Rattle.right_program_rules.proofs.ChainLists.{AreChains, chains-made, HasFront, chain-at, stmts-low, stmts-longer}
use Rattle.right_program_rules.proofs.ChildPlaces.{child-known}
use Rattle.right_program_rules.proofs.FunctionNames.{root_both}
use Rattle.right_program_rules.proofs.HeadPlaces.{head-place}
use Rattle.right_program_rules.proofs.Levels.{level, child-level}
use Rattle.right_program_rules.proofs.OwnProcedures.{number-own, number-other, alone-own}
use Rattle.right_program_rules.proofs.Positions.{before_root, at-position, own-before}

-- a chain that is not there is none
past : (xs : List ℕ) (k : ℕ) → length xs ≤ k → slice_index xs k ≡ 0
past xs k more = get_or-eq_default xs 0 more

short-index : (n : ℕ) (xs : List ℕ) (k : ℕ) → AllByRecursion (λ c. c ≤ n) xs → slice_index xs k ≤ n
short-index n [] k all = omega arith
short-index n (x ∷ xs) zero all = all.0
short-index n (x ∷ xs) (suc k) all = short-index n xs k all.1

drop-front : (xs ys : List ℕ) → drop (length xs) (xs ++ ys) ≡ ys
drop-front [] ys = refl
drop-front (x ∷ xs) ys = drop-front xs ys

module _ (offered : OfferedStandByName) (places : SystemsHavePlaces) (a : Parts) (v : Views a) where
  -- ---- By itself

  module _ (s : Option ℕ) where
    abbrev bare_count : ℕ
    bare_count = length (bare_procedures (v.at s).local)

    abbrev moved_alone : List ProcedureTree
    moved_alone = map (moved_procedure (behind_bare (v.at s).local (v.at s).code)) (v.at s).code.procedures

    -- the chains of the system's code by itself
    abbrev chains_alone : List ℕ
    chains_alone = chains_of (replicate bare_count 0) moved_alone

    -- that of own procedure j
    abbrev alone_chain : ℕ → ℕ
    alone_chain j = slice_index chains_alone (bare_count + j)

    -- how much longer chains are in the program
    abbrev extra : ℕ
    extra = 3 * (32 - level (diagram a).rows s)

    module _ (place : ℕ) (stands : slice_get (all_systems a) place ≡ Some s) (j : ℕ) (q : ProcedureTree)
        (at : slice_get (v.at s).code.procedures j ≡ Some q) where
      front-of : HasFront (replicate bare_count 0) moved_alone j (moved_procedure (behind_bare (v.at s).local (v.at s).code) q)
      front-of =
          chain-at (replicate bare_count 0) moved_alone j (moved_procedure (behind_bare (v.at s).local (v.at s).code) q)
          (at-map (moved_procedure (behind_bare (v.at s).local (v.at s).code)) (v.at s).code.procedures j q at)

      zeros : length {A = ℕ} (replicate bare_count 0) ≡ bare_count
      zeros = length-replicate bare_count 0

      alone-low : alone_chain j ≤ 3
      alone-low =
          let f = front-of in
          let back = (stmts_chain f.front (moved_procedure (behind_bare (v.at s).local (v.at s).code) q).body + 1) ∷ f.back in
          let whole : chains_alone ≡ replicate bare_count 0 ++ (f.more ++ back) = f.is ∙ ap (λ l. l ++ back) f.begins
          ∙ append_assoc (replicate bare_count 0) f.more back in
          let dropped : drop bare_count chains_alone ≡ f.more ++ back =
          ap (drop bare_count) whole ∙ ap (λ n. drop n (replicate bare_count 0 ++ (f.more ++ back))) (sym zeros)
          ∙ drop-front (replicate bare_count 0) (f.more ++ back) in
          let short = subst (AllByRecursion (λ n. n ≤ 3)) dropped (v.each place s stands).chains in
          let value : alone_chain j ≡ slice_index (f.more ++ back) j =
          ap (λ l. slice_index l (bare_count + j)) whole
          ∙ ap (λ n. slice_index (replicate bare_count 0 ++ (f.more ++ back)) (n + j)) (sym zeros)
          ∙ get_or-append-add (replicate bare_count 0) (f.more ++ back) j 0 in
          let low = short-index 3 (f.more ++ back) j short in omega (arith, value, low)

      alone-is : alone_chain j ≡ stmts_chain front-of.front (moved_procedure (behind_bare (v.at s).local (v.at s).code) q).body + 1
      alone-is =
          let f = front-of in
          let long = f.long in
          let place_is : bare_count + j ≡ length f.front = omega (arith, long, zeros) in
          ap (λ l. slice_index l (bare_count + j)) f.is
          ∙ ap (slice_index (f.front ++ (stmts_chain f.front (moved_procedure (behind_bare (v.at s).local (v.at s).code) q).body + 1) ∷
          f.back)) place_is
          ∙ get_or-append_seam f.front (stmts_chain f.front (moved_procedure (behind_bare (v.at s).local (v.at s).code) q).body + 1) f.back
          0

      alone-before : (k : ℕ) → k < j → slice_index front-of.front (bare_count + k) ≡ alone_chain k
      alone-before k less =
          let f = front-of in
          let long = f.long in
          sym (ap (λ l. slice_index l (bare_count + k)) f.is
          ∙ get_or_append_left f.front ((stmts_chain f.front (moved_procedure (behind_bare (v.at s).local (v.at s).code) q).body + 1) ∷
          f.back) 0 (bare_count + k) (omega (arith, long, zeros, less)))

  -- ---- In the program

  -- the chain c of the procedure at k
  record IsChain (k c : ℕ) : Type 0 where
    pub own : (place : ℕ) (s : Option ℕ) → slice_get (all_systems a) place ≡ Some s → (j : ℕ) (q : ProcedureTree) →
        slice_get (v.at s).code.procedures j ≡ Some q →
        k ≡ first_procedure a.codes place + j → c ≤ alone_chain s j + extra s
    pub root : c ≤ 99 + (k + 1 - before_root a v)
    pub all : c ≤ chain_limit

  -- a chain that is there, or none
  entry : (chains : List ℕ) (k bound : ℕ) → AreChains IsChain chains → ((c : ℕ) → IsChain k c → c ≤ bound) → slice_index chains k ≤ bound
  entry chains k bound are low = elim (cases_lt k (length chains)) [
    | inl there ↦ low (slice_index chains k) (are k (slice_index chains k) (slice_get-get_or chains k 0 there))
    | inr none ↦ let gone = past chains k none in omega (arith, gone)
  ]

  module _ (place : ℕ) (s : Option ℕ) (stands : slice_get (all_systems a) place ≡ Some s) (j : ℕ) (q : ProcedureTree)
      (at : slice_get (v.at s).code.procedures j ≡ Some q)
      (front : List ℕ) (long : length front ≡ first_procedure a.codes place + j) (are : AreChains IsChain front) where
    known : IsCodedAs a place s (v.at s)
    known = v.each place s stands

    abbrev others : List ℕ
    others = (front-of s place stands j q at).front

    abbrev m : Relocation
    m = behind_bare (v.at s).local (v.at s).code

    abbrev n : Relocation
    n = relocation_of a.codes place

    own-longer : (k : ℕ) → k < length (v.at s).code.procedures →
        slice_index front (moved_number n k) ≤ slice_index others (moved_number m k) + extra s
    own-longer k less = elim (cases_lt k j) [
      | inl before ↦
          let (r, here) = below-at (v.at s).code.procedures k less in
          let low = entry front (first_procedure a.codes place + k) (alone_chain s k + extra s) are
          (λ c is. is.own place s stands k r here refl) in
          let to = ap (slice_index front) (number-own offered places a v place s stands k less) in
          let from = ap (slice_index others) (alone-own offered places a v place s stands k less) in
          let same = alone-before s place stands j q at k before in
          omega (arith, low, to, from, same)
      | inr later ↦
          let to = ap (slice_index front) (number-own offered places a v place s stands k less) in
          let gone = past front (first_procedure a.codes place + k) (omega (arith, long, later)) in
          omega (arith, to, gone)
    ]

    child-longer : (k : ℕ) → length (v.at s).code.procedures ≤ k → k < length (callable (v.at s).local (v.at s).code) →
        slice_index front (moved_number n k) ≤ extra s
    child-longer k more within =
        let i : ℕ = k - length (v.at s).code.procedures in
        let heads = length-append (map head_of (v.at s).code.procedures) (all_heads (v.at s).local.children) in
        let made = mapped-length head_of (v.at s).code.procedures in
        let (head, counted) = below-at (all_heads (v.at s).local.children) i (omega (arith, heads, made, within, more)) in
        let from = of-flat_map (λ (u : ChildUse). public_heads u.header) (v.at s).local.children head
        (in-at (all_heads (v.at s).local.children) i head counted) in
        let number = ap (slice_index front)
        (number-other offered places a v place s stands k more ∙ offered a v place s i head stands counted) in
        let where_child = at-in (v.at s).local.children from.0 from.1 in
        let child = child-known a v place s stands where_child.0 from.0 where_child.1 in
        let levels = child-level a v place s stands from.0 from.1 in
        let one_level = levels.0 in
        let deepest = levels.1 in
        let has = subst (λ (h : SystemHeader). Contains (public_heads h) head) child.header from.2 in
        let h = head-place places a v child.inner_place from.0.header.row child.stands head has in
        let low = entry front (procedure_place (program_of a) head.name)
        (alone_chain from.0.header.row h.number + extra from.0.header.row) are
        (λ c is. is.own child.inner_place from.0.header.row child.stands h.number h.own h.there h.found) in
        let short = alone-low from.0.header.row child.inner_place child.stands h.number h.own h.there in
        omega (arith, number, low, short, one_level, deepest)

    own-chain : stmts_chain front (moved_procedure n q).body + 1 ≤ alone_chain s j + extra s
    own-chain =
        let longer = stmts-longer m n front others (extra s) (λ c. c.procedure < length (callable (v.at s).local (v.at s).code))
        (λ c called. elim (cases_lt c.procedure (length (v.at s).code.procedures)) [
          | inl less ↦ own-longer c.procedure less
          | inr more ↦ let low = child-longer c.procedure more called in omega (arith, low)
        ]) q.body (member (CallsWithin (v.at s).local (v.at s).code) (v.at s).code.procedures q known.lawful.calls
        (in-at (v.at s).code.procedures j q at)) in
        let is = alone-is s place stands j q at in
        omega (arith, longer, is)

  -- ---- All of them

  step : (k : ℕ) (p : ProcedureTree) → slice_get (program_of a).procedures k ≡ Some p → (front : List ℕ) → length front ≡ 0 + k →
      AreChains IsChain front →
      IsChain (0 + k) (stmts_chain front p.body + 1)
  step k p at front long are = elim (at-position a v k p at) [
    | inl own ↦
        let c = stmts_chain front p.body + 1 in
        let here = own.at in
        let bound = own-bound own.place own.system own.stands own.number own.own own.there own.at in
        let short = alone-low own.system own.place own.stands own.number own.own own.there in
        record {
          own = λ place s stands j q there same. own-bound place s stands j q there (omega (arith, same));
          root = omega (arith, bound, short);
          all = omega (arith, bound, short);
        }
    | inr root ↦
        let here = root.at in
        let few = at-below (root_both a v) root.number p root.there in
        let low = stmts-low (99 + root.number) front
        (λ i c there. let limit = (are i c there).root in let within = at-below front i c there in
        omega (arith, limit, within, long, here)) p.body in
        record {
          own = λ place s stands j q there same. absurd
              (let before = own-before a v place s stands j q there in omega (arith, before, same, here));
          root = omega (arith, low, here);
          all = omega (arith, low, few);
        }
  ]
    where
      own-bound : (place : ℕ) (s : Option ℕ) (stands : slice_get (all_systems a) place ≡ Some s) (j : ℕ) (q : ProcedureTree) →
          slice_get (v.at s).code.procedures j ≡ Some q →
          k ≡ first_procedure a.codes place + j → stmts_chain front p.body + 1 ≤ alone_chain s j + extra s
      own-bound place s stands j q there same =
          let moved = moved_procedure (relocation_of a.codes place) q in
          let is : moved ≡ p = same_Some moved p
          (sym (own-procedure a v place s stands j q there) ∙ ap (slice_get (program_of a).procedures) (sym same) ∙ at) in
          subst (λ (z : ProcedureTree). stmts_chain front z.body + 1 ≤ alone_chain s j + extra s) is
          (own-chain place s stands j q there front (omega (arith, long, same)) are)

  pub chains-kept : AllByRecursion (λ n. n ≤ chain_limit) (chains_of [] (program_of a).procedures)
  chains-kept =
      all-made (λ n. n ≤ chain_limit) (chains_of [] (program_of a).procedures)
      (λ n has.
      let at = at-in (chains_of [] (program_of a).procedures) n has in
      (chains-made IsChain [] (program_of a).procedures (λ i c there. absurd (none-some c there)) step at.0 n at.1).all)
