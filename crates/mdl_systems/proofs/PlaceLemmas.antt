-- Where each block of a model is.
use Rattle.std.proofs.Common.{◌≡◌, refl, sym, ◌∙◌, ap, subst, subst₂, ℕ, zero, suc, ◌+◌, ◌<◌, ◌≤◌, Bool, true, false, cond, List, [], ◌∷◌, ◌++◌, length, slice_get, Contains, Some, arith}
use Rattle.std.specs.Prelude.{option_and_then}
use Rattle.std.proofs.lemmas.Option.{slice_get_within}
use Rattle.mdl_tree.specs.Walks.{SectionTree}
use Rattle.mdl_systems.specs.Outlines.{Outline, outlines_of, is_subsystem}
use Rattle.mdl_systems.specs.Nesting.{StandsIn, OwnersAreBefore, outward, owner_at, owners_around, FollowsBlock, OutlinesAreInPreorder, DepthsAreOwnersAround}
use Rattle.mdl_systems.proofs.NumberLemmas.{number-at}
use Rattle.mdl_systems.proofs.StackLemmas.{top, IsOuter, outer-more, behind, AreStacked, model-stacked}

module _ (blocks : List Outline) where
  -- the subsystem e, inside these
  pub record IsAround (e : ℕ) (outer : List ℕ) : Type 0 where
    pub block : Outline
    pub at : slice_get blocks e ≡ Some block
    pub subsystem : is_subsystem block ≡ true
    pub owner : block.owner ≡ top outer
    pub depth : block.depth ≡ length outer

  -- the stack of subsystems around what is at place i
  abbrev pub IsChain : List ℕ → ℕ → Type 0
  IsChain [] i = Unit {0}
  IsChain (e ∷ es) i = (e < i) × IsAround e es × IsChain es e

  chain-later : (s : List ℕ) (i j : ℕ) → i ≤ j → IsChain s i → IsChain s j
  chain-later [] i j h chain = tt
  chain-later (e ∷ es) i j h chain = (omega (arith, h, chain.0), chain.1, chain.2)

  chain-part : (inner t : List ℕ) (i : ℕ) → IsChain (inner ++ t) i → IsChain t i
  chain-part [] t i chain = chain
  chain-part (e ∷ inner) t i chain = chain-later t e i (omega (arith, chain.0)) (chain-part inner t e chain.2)

  chain-outer : (t s : List ℕ) (i : ℕ) → IsOuter t s → IsChain s i → IsChain t i
  chain-outer t s i outer chain = chain-part outer.inner t i (subst (λ s. IsChain s i) outer.is chain)

  -- the block at i is inside these subsystems, and so does the one after it, or inside the block
  pub record IsPlaced (i : ℕ) (b : Outline) : Type 0 where
    pub around : List ℕ
    pub chain : IsChain around i
    pub owner : b.owner ≡ top around
    pub depth : b.depth ≡ length around
    pub later : (c : Outline) → slice_get blocks (suc i) ≡ Some c → (u : List ℕ) × IsOuter u (i ∷ around) × (c.owner ≡ top u)

  behind-outer : (b : Outline) (t u : List ℕ) → IsOuter u (behind b t) → IsOuter u (b.number ∷ t)
  behind-outer b t u outer = by (is_subsystem b) outer
    where
      by : (x : Bool) → IsOuter u (cond x (b.number ∷ t) t) → IsOuter u (b.number ∷ t)
      by true outer = outer
      by false outer = outer-more b.number u t outer

  -- the blocks from i on
  abbrev AreRest : ℕ → List Outline → Type 0
  AreRest i rest = (j : ℕ) → slice_get rest j ≡ slice_get blocks (i + j)

  plus_zero : (i : ℕ) → i + 0 ≡ i
  plus_zero i = omega arith

  plus_suc : (i j : ℕ) → i + suc j ≡ suc i + j
  plus_suc i j = omega arith

  rest-later : (b : Outline) (i : ℕ) (rest : List Outline) → AreRest i (b ∷ rest) → AreRest (suc i) rest
  rest-later b i rest are j = are (suc j) ∙ ap (slice_get blocks) (plus_suc i j)

  rest-first : (b : Outline) (i : ℕ) (rest : List Outline) → AreRest i (b ∷ rest) → slice_get blocks i ≡ Some b
  rest-first b i rest are = ap (slice_get blocks) (sym (plus_zero i)) ∙ sym (are 0)

  -- the same of the block after the first one
  rest-next : (b : Outline) (i : ℕ) (rest : List Outline) (c : Outline) → AreRest i (b ∷ rest) → slice_get blocks (suc i) ≡ Some c →
      slice_get rest 0 ≡ Some c
  rest-next b i rest c are h = rest-later b i rest are 0 ∙ ap (slice_get blocks) (plus_zero (suc i)) ∙ h

  module _ (numbered : (k : ℕ) (b : Outline) → slice_get blocks k ≡ Some b → b.number ≡ k) where
    next-system : (b : Outline) (i : ℕ) (rest : List Outline) (t : List ℕ) → AreRest i (b ∷ rest) → AreStacked (behind b t) rest →
        (c : Outline) → slice_get rest 0 ≡ Some c → (u : List ℕ) × IsOuter u (i ∷ t) × (c.owner ≡ top u)
    next-system b i [] t are stacked c h = absurd (let wrong : ⊥ = cc h in wrong)
    next-system b i (d ∷ rest) t are stacked c h =
        let same : d ≡ c = cc h in (
          stacked.0,
          subst (λ n. IsOuter stacked.0 (n ∷ t)) (numbered i b (rest-first b i (d ∷ rest) are)) (behind-outer b t stacked.0 stacked.1),
          ap (λ (x : Outline). x.owner) (sym same) ∙ stacked.2,
        )

    chain-behind : (b : Outline) (i : ℕ) (t : List ℕ) → slice_get blocks i ≡ Some b → IsChain t i → b.owner ≡ top t → b.depth ≡ length t →
        IsChain (behind b t) (suc i)
    chain-behind b i t at chain own deep = by (is_subsystem b) refl
      where
        by : (x : Bool) → is_subsystem b ≡ x → IsChain (cond x (b.number ∷ t) t) (suc i)
        by true e =
            subst (λ n. IsChain (n ∷ t) (suc i)) (sym (numbered i b at))
            (omega arith, record { block = b; at = at; subsystem = e; owner = own; depth = deep }, chain)
        by false e = chain-later t i (suc i) (omega arith) chain

    -- the place of block k of those from i on
    placed-from : (rest : List Outline) (i k : ℕ) (s : List ℕ) → AreRest i rest → IsChain s i → AreStacked s rest → (b : Outline) →
        slice_get rest k ≡ Some b → IsPlaced (i + k) b
    placed-from [] i k s are chain stacked b h = absurd (let wrong : ⊥ = cc h in wrong)
    placed-from (x ∷ rest) i zero s are chain stacked b h =
        let same : x ≡ b = cc h in
        subst₂ IsPlaced (sym (plus_zero i)) same
        (record {
          around = stacked.0;
          chain = chain-outer stacked.0 s i stacked.1 chain;
          owner = stacked.2;
          depth = stacked.3;
          later = λ c next. next-system x i rest stacked.0 are stacked.4 c (rest-next x i rest c are next);
        })
    placed-from (x ∷ rest) i (suc k) s are chain stacked b h =
        let around = chain-outer stacked.0 s i stacked.1 chain in
        subst (λ n. IsPlaced n b) (sym (plus_suc i k))
        (placed-from rest (suc i) k (behind x stacked.0) (rest-later x i rest are)
        (chain-behind x i stacked.0 (rest-first x i rest are) around stacked.2 stacked.3) stacked.4 b h)

    from_zero : (i : ℕ) → 0 + i ≡ i
    from_zero i = omega arith

    -- each block has its place
    pub placed : AreStacked [] blocks → (i : ℕ) (b : Outline) → slice_get blocks i ≡ Some b → IsPlaced i b
    placed stacked i b h =
        subst (λ n. IsPlaced n b) (from_zero i)
        (placed-from blocks 0 i [] (λ j. ap (slice_get blocks) (sym (from_zero j))) tt stacked b h)

  -- ---- What a place says

  stands-by : (i : ℕ) (s : List ℕ) → IsChain s i → StandsIn blocks i (length s) (top s)
  stands-by i [] chain = refl
  stands-by i (e ∷ es) chain =
      let around = chain.1 in
      (chain.0, (around.block, around.at, around.subsystem, ap suc (sym around.depth) ∙ one-more around.block.depth))
    where
      one-more : (n : ℕ) → suc n ≡ n + 1
      one-more n = omega arith

  pub stands : (i : ℕ) (b : Outline) → IsPlaced i b → StandsIn blocks i b.depth b.owner
  stands i b place = subst₂ (StandsIn blocks i) (sym place.depth) (sym place.owner) (stands-by i place.around place.chain)

  owner-is : (e : ℕ) (es : List ℕ) → IsAround e es → owner_at blocks e ≡ top es
  owner-is e es around = ap (λ o. option_and_then (λ (b : Outline). b.owner) o) around.at ∙ around.owner

  -- the subsystems around, outward
  outward-is : (s : List ℕ) (n i : ℕ) → i ≤ n → IsChain s i → outward blocks n (top s) ≡ s
  outward-is [] zero i h chain = refl
  outward-is [] (suc n) i h chain = refl
  outward-is (e ∷ es) zero i h chain = absurd (omega (arith, h, chain.0))
  outward-is (e ∷ es) (suc n) i h chain =
      ap (λ o. e ∷ outward blocks n o) (owner-is e es chain.1) ∙ ap (λ xs. e ∷ xs) (outward-is es n e (omega (arith, h, chain.0)) chain.2)

  around-is : (i : ℕ) (b : Outline) → slice_get blocks i ≡ Some b → (place : IsPlaced i b) → owners_around blocks b ≡ place.around
  around-is i b h place =
      let within = slice_get_within blocks i b h in
      ap (outward blocks (length blocks)) place.owner ∙ outward-is place.around (length blocks) i (omega (arith, within)) place.chain

  pub deep : (i : ℕ) (b : Outline) → slice_get blocks i ≡ Some b → IsPlaced i b → b.depth ≡ length (owners_around blocks b)
  deep i b h place = place.depth ∙ ap length (sym (around-is i b h place))

  contains-outer : (inner t : List ℕ) (e : ℕ) → top t ≡ Some e → Contains (inner ++ t) e
  contains-outer [] [] e h = absurd (let wrong : ⊥ = cc h in wrong)
  contains-outer [] (x ∷ t) e h = (0, omega arith, let same : x ≡ e = cc h in same)
  contains-outer (x ∷ inner) t e h = let later = contains-outer inner t e h in (suc later.0, omega (arith, later.1), later.2)

  follows-by : (b : Outline) (s : List ℕ) → b.number ∷ owners_around blocks b ≡ s → (u : List ℕ) → IsOuter u s →
      FollowsBlock blocks b (top u)
  follows-by b s e [] outer = tt
  follows-by b s e (x ∷ u) outer = subst (λ xs. Contains xs x) (sym (e ∙ outer.is)) (contains-outer outer.inner (x ∷ u) x refl)

  pub follows : (i : ℕ) (b c : Outline) → b.number ≡ i → slice_get blocks i ≡ Some b → slice_get blocks (suc i) ≡ Some c → IsPlaced i b →
      FollowsBlock blocks b c.owner
  follows i b c number h next place =
      let behind_it = place.later c next in
      subst (FollowsBlock blocks b) (sym behind_it.2)
      (follows-by b (i ∷ place.around)
      (ap (λ n. n ∷ owners_around blocks b) number ∙ ap (λ xs. i ∷ xs) (around-is i b h place)) behind_it.0 behind_it.1)

-- ---- In each model

place-at : (section : SectionTree) (k : ℕ) (b : Outline) → slice_get (outlines_of section) k ≡ Some b → IsPlaced (outlines_of section) k b
place-at section k b h = placed (outlines_of section) (number-at section) (model-stacked section) k b h

pub owners-before : OwnersAreBefore
owners-before section k b h = stands (outlines_of section) k b (place-at section k b h)

pub in-preorder : OutlinesAreInPreorder
in-preorder section k b next h after = follows (outlines_of section) k b next (number-at section k b h) h after (place-at section k b h)

pub depths-around : DepthsAreOwnersAround
depths-around section k b h = deep (outlines_of section) k b h (place-at section k b h)
