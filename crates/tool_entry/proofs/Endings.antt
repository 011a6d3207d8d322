-- The ending whose text was printed.
use Rattle.std.proofs.Common.{◌≡◌, ◌≢◌, ℕ, inl, inr, List, refl, sym, subst}
use Rattle.std.specs.Prelude.{Option, Some, None, IfSome}
use Rattle.tool_endings.specs.declared.ending.Ending.{Ending}
use Rattle.tool_endings.specs.declared.ending.Ending.TheVariants.{NoMemory}
use Rattle.tool_words.specs.Words.{Asked}
use Rattle.tool_endings.specs.Texts.{no_memory_line}
use Rattle.tool_endings.specs.Told.{HostTold, SinkTold}
use Rattle.tool_endings.specs.Endings.{Ends, EndsAt, IsFaultless, IsSaidOf, PutsText, Puts, status_of, text_of}
use Rattle.tool_endings.specs.Completeness.{IfReadFault}
use Rattle.tool_ending_laws.specs.Laws.{FiveIsReadFault}

pub ended : (found said : Ending) (s : ℕ) (a : Option Asked) (h h' : HostTold) (b before b' : SinkTold) →
    Ends found a h h' b before → IsSaidOf said found → Puts said s before b' → EndsAt s a h h' b b'
ended found said s a h h' b before b' ends says puts =
    record { found = found; said = said; before = before; ends = ends; says = says; puts = puts }

-- the text of the ending that was found was printed
pub said_found : (found e : Ending) (status s : ℕ) (text : List ℕ) (b b' : SinkTold) → found ≡ e → status ≡ status_of e →
    text ≡ text_of e → PutsText status text s b b' → (x : Ending) × IsSaidOf x found × Puts x s b b'
said_found found e status s text b b' is same told puts = (
  e,
  inl (sym is),
  subst (λ (n : ℕ). PutsText n (text_of e) s b b') same
      (subst (λ (x : List ℕ). PutsText status x s b b') told puts),
)

-- the text for running out of memory was printed in the place of another
pub said_no_memory : (found : Ending) (status s : ℕ) (text : List ℕ) (b b' : SinkTold) → IsFaultless found →
    status ≡ 10 → text ≡ no_memory_line → PutsText status text s b b' → (e : Ending) × IsSaidOf e found × Puts e s b b'
said_no_memory found status s text b b' other is same puts = (
  NoMemory,
  inr (refl, other),
  subst (λ (n : ℕ). PutsText n no_memory_line s b b') is
      (subst (λ (x : List ℕ). PutsText status x s b b') same puts),
)

-- what holds where the ending was an error of reading holds with status 5
pub unsure_asked : FiveIsReadFault → (P : Asked → Type 0) (a : Option Asked) (found said : Ending) (s : ℕ) (b b' : SinkTold) →
    IfSome a (λ a. IfReadFault found (P a)) → IsSaidOf said found → Puts said s b b' → IfSome a (λ a. s ≡ 5 → P a)
unsure_asked law P None found said s b b' unsure says puts = tt
unsure_asked law P (Some a) found said s b b' unsure says puts =
    λ five. subst (λ (e : Ending). IfReadFault e (P a)) (law found said s b b' says puts five) unsure
