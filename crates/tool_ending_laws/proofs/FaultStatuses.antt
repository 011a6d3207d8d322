-- The statuses of errors are those of one ending each.
use Rattle.std.proofs.Common.{◌≡◌, ℕ, inl, inr, refl, sym, ap, ◌∙◌, arith}
use Rattle.tool_endings.specs.declared.ending.Ending.{Ending}
use Rattle.tool_endings.specs.declared.ending.Ending.TheVariants.{ReadFault, WriteFault, PutFault}
use Rattle.tool_endings.specs.Told.{SinkTold}
use Rattle.tool_endings.specs.Endings.{status_of, IsSaidOf, Puts}

-- status 5 is that of one ending
pub only_read : (e : Ending) → status_of e ≡ 5 → e ≡ ReadFault
only_read ReadFault is = refl
only_read _ is = absurd (omega (arith, is))

-- status 6 is that of one ending
pub only_write : (e : Ending) → status_of e ≡ 6 → e ≡ WriteFault
only_write WriteFault is = refl
only_write _ is = absurd (omega (arith, is))

-- status 7 is that of one ending
pub only_put : (e : Ending) → status_of e ≡ 7 → e ≡ PutFault
only_put PutFault is = refl
only_put _ is = absurd (omega (arith, is))

-- status 5 is given only where the ending was an error of reading
pub five_is_read_fault : (found said : Ending) (s : ℕ) (b b' : SinkTold) → IsSaidOf said found → Puts said s b b' → s ≡ 5 →
    found ≡ ReadFault
five_is_read_fault found said s b b' (inl same) (inl (is, whole)) five = sym same ∙ only_read said (sym is ∙ five)
five_is_read_fault found said s b b' (inr none) (inl (is, whole)) five =
    let ten : status_of said ≡ 10 = ap status_of none.0 in absurd (omega arith)
five_is_read_fault found said s b b' (inl same) (inr (seven, part)) five = absurd (omega arith)
five_is_read_fault found said s b b' (inr none) (inr (seven, part)) five = absurd (omega arith)
