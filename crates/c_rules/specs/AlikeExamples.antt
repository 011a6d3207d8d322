-- Texts that C99 reads alike, and others that it reads otherwise.
use Rattle.std.specs.Prelude.{◌≡◌, true, false, ◌∷◌, ◌++◌, codes, refl}
use Rattle.c_rules.specs.AlikeTexts.{is_alike}

statement : is_alike (codes "    s->v1 = (int32_t)((int64_t)a / (-(int64_t)b));\n") ≡ true
statement = refl

tests : is_alike (codes "if (((int64_t)a >= (int64_t)b) && (!((int64_t)a != (int64_t)b))) {\n") ≡ true
tests = refl

commented : is_alike (codes "int8_t v1; /* Gain \"K p\" (1/s) */\n") ≡ true
commented = refl

-- a comment up to the end of the line
divided : is_alike (codes "a //**/ b") ≡ false
divided = refl

-- C99 joins the two lines first, and then the comment has ended
joined_line : is_alike (codes "/* *" ++ 92 ∷ 10 ∷ codes "/ int x; /* */\n") ≡ false
joined_line = refl

decremented : is_alike (codes "a --b") ≡ false
decremented = refl

shifted : is_alike (codes "a <<b") ≡ false
shifted = refl

trigraph : is_alike (codes "a ?" ++ codes "?(b") ≡ false
trigraph = refl

digraph : is_alike (codes "a <:b") ≡ false
digraph = refl

-- comments that touch a token, that have no end, or hold another's begin
touching : is_alike (codes "a/* b */\n") ≡ false
touching = refl

endless : is_alike (codes "/* b \n") ≡ false
endless = refl

nested : is_alike (codes "/* a /* b */\n") ≡ false
nested = refl

slashed : is_alike (codes "/* a// */\n") ≡ false
slashed = refl

-- the end of a comment after a `/`
closed_late : is_alike (codes "/* a/*/\n") ≡ false
closed_late = refl
