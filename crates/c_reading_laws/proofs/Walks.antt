-- Walks along tokens: at each token the needs say just what is opened there.
use Rattle.std.proofs.Common.{◌≡◌, refl, sym, ◌∙◌, ap, List, [], ◌∷◌, ◌++◌, Some, ℕ, if◌then◌else◌, subst}
use Rattle.c_grammar.specs.Tokens.{Token}
use Rattle.c_grammar.specs.Grammar.{word}
use Rattle.c_grammar.specs.Prefix.{Need, too_deep, leaves, step_needs, may_end}
use Rattle.c_grammar.specs.Openings.{Opening, none, is_within}
use Rattle.c_grammar.proofs.lemmas.PrefixLaws.{Front, word-front}

-- the two lists of needs say the same to the first of these tokens
abbrev pub AgreeOn : List Token → List Need → List Need → Type 0
AgreeOn [] needs others = may_end needs ≡ may_end others
AgreeOn (t ∷ tokens) needs others = step_needs needs t.text ≡ step_needs others t.text

-- along the first tokens the needs let through what is within its limit, and call the rest too deep; then these tokens and needs are left
abbrev pub Steps : List Opening → List Token → List Need → List Token → List Need → Type 0
Steps [] tokens needs rest left = (tokens ≡ rest) × AgreeOn tokens needs left
Steps (opening ∷ openings) [] needs rest left = ⊥
Steps (opening ∷ openings) (t ∷ tokens) needs rest left =
    (next : List Need) × (step_needs needs t.text ≡ (if is_within opening then leaves next else too_deep))
    × Steps openings tokens next rest left

pub record Walk (openings : List Opening) (tokens : List Token) (needs : List Need) (rest : List Token) (left : List Need) : Type 0 where
  pub steps : Steps openings tokens needs rest left

AgreeOn-same : (tokens : List Token) (needs : List Need) → AgreeOn tokens needs needs
AgreeOn-same [] needs = refl
AgreeOn-same (t ∷ tokens) needs = refl

AgreeOn-then : (tokens : List Token) (a b c : List Need) → AgreeOn tokens a b → AgreeOn tokens b c → AgreeOn tokens a c
AgreeOn-then [] a b c h k = h ∙ k
AgreeOn-then (t ∷ tokens) a b c h k = h ∙ k

steps-agree : (openings : List Opening) (tokens : List Token) (needs others : List Need) (rest : List Token)
    (left : List Need) → AgreeOn tokens needs others → Steps openings tokens others rest left →
    Steps openings tokens needs rest left
steps-agree [] tokens needs others rest left a s = (s.0, AgreeOn-then tokens needs others left a s.1)
steps-agree (opening ∷ openings) [] needs others rest left a s = absurd s
steps-agree (opening ∷ openings) (t ∷ tokens) needs others rest left a s = (s.0, a ∙ s.1, s.2)

steps-then : (first second : List Opening) (tokens : List Token) (needs : List Need) (mid : List Token)
    (between : List Need) (rest : List Token) (left : List Need) → Steps first tokens needs mid between →
    Steps second mid between rest left → Steps (first ++ second) tokens needs rest left
steps-then [] second tokens needs mid between rest left s u =
    steps-agree second tokens needs between rest left s.1 (subst (λ ts. Steps second ts between rest left) (sym s.0) u)
steps-then (opening ∷ first) second [] needs mid between rest left s u = absurd s
steps-then (opening ∷ first) second (t ∷ tokens) needs mid between rest left s u =
    (s.0, s.1, steps-then first second tokens s.0 mid between rest left s.2 u)

infixr 20 ◌▸◌
-- one walk and then another
pub ◌▸◌ : {first second : List Opening} {tokens : List Token} {needs : List Need} {mid : List Token}
    {between : List Need} {rest : List Token} {left : List Need} → Walk first tokens needs mid between →
    Walk second mid between rest left → Walk (first ++ second) tokens needs rest left
◌▸◌ {first} {second} {tokens} {needs} {mid} {between} {rest} {left} a b =
    record { steps = steps-then first second tokens needs mid between rest left a.steps b.steps }

-- one token, which opens something or nothing
pub opening-walk : (opening : Opening) (text : List ℕ) (tokens rest : List Token) → word text tokens ≡ Some rest →
    (needs left : List Need) → step_needs needs text ≡ (if is_within opening then leaves left else too_deep) →
    Walk (opening ∷ []) tokens needs rest left
opening-walk opening text tokens rest h needs left step =
    let f : Front text tokens rest = word-front text tokens rest h in
    record {
      steps = subst (λ ts. Steps (opening ∷ []) ts needs rest left) (sym f.list)
          (left, ap (step_needs needs) f.same ∙ step, (refl, AgreeOn-same rest left));
    }

pub word-walk : (text : List ℕ) (tokens rest : List Token) → word text tokens ≡ Some rest → (needs left : List Need) →
    step_needs needs text ≡ leaves left → Walk (none ∷ []) tokens needs rest left
word-walk text tokens rest h needs left step = opening-walk none text tokens rest h needs left step

-- no token, but other needs that say the same
pub agree-walk : (tokens : List Token) (needs left : List Need) → AgreeOn tokens needs left → Walk [] tokens needs tokens left
agree-walk tokens needs left a = record { steps = (refl, a) }

pub same-walk : (tokens rest : List Token) → tokens ≡ rest → (needs : List Need) → Walk [] tokens needs rest needs
same-walk tokens rest e needs = record { steps = (e, AgreeOn-same tokens needs) }

-- the same walk, with what is opened written otherwise
pub reopened : {openings others : List Opening} {tokens : List Token} {needs : List Need} {rest : List Token}
    {left : List Need} → openings ≡ others → Walk openings tokens needs rest left → Walk others tokens needs rest left
reopened {openings} {others} {tokens} {needs} {rest} {left} e walk = subst (λ os. Walk os tokens needs rest left) e walk
