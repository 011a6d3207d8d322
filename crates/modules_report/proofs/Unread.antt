-- What is where the words of a line say nothing, or another line than the one that is there.
use Rattle.std.proofs.Common.{◌≡◌, ℕ, List, ◌++◌, map, sym, ap, subst, ◌∙◌}
use Rattle.std.specs.Prelude.{Option, Some, None, is_some}
use Rattle.std.proofs.lemmas.Bool.{false≢true}
use Rattle.base_core.specs.declared.Port.{Port}
use Rattle.modules_profile.specs.declared.Function.{Function}
use Rattle.modules_report.specs.declared.head.Head.{Head}
use Rattle.modules_report.specs.Heads.{IsPossible, head_text}
use Rattle.modules_report.specs.Reading.{HasRow}
use Rattle.modules_report.specs.Stops.{IsFunctionOf, IsOnlyFunction, NoFunction, NoHead, NoneBegins}
use Rattle.modules_report.specs.Texts.{out_line}
use Rattle.modules_report.proofs.PortGuesses.{one_given}

pub same-words : {X : Type 0} (text : X → List ℕ) (xs ys : List X) (ws : List (List ℕ)) → xs ≡ ys → map text ys ≡ ws → map text xs ≡ ws
same-words text xs ys ws e f = ap (map text) e ∙ f

nothing-given : {X : Type 0} (x : X) → None ≡ Some x → ⊥
nothing-given x e = false≢true (ap is_some e)

-- ---- The line of a function

module _ (ports : List Port) (outputs j : ℕ) (text : List ℕ) (r : Option Function)
    (told : (f : Function) (more : List ℕ) → IsFunctionOf ports outputs f → text ≡ out_line ports outputs j f ++ more → r ≡ Some f) where
  pub no-function-told : r ≡ None → NoFunction ports outputs j text
  no-function-told none f own more e = nothing-given f (sym none ∙ told f more own e)

  pub function-only : (g : Function) → r ≡ Some g → IsOnlyFunction ports outputs j text g
  function-only g is f more own e = one_given r g f is (told f more own e)

  pub function-unlike : (g : Function) → r ≡ Some g → NoneBegins text (out_line ports outputs j g) → NoFunction ports outputs j text
  function-unlike g is unlike f own more e =
      unlike more (e ∙ ap (λ (k : Function). out_line ports outputs j k ++ more) (sym (function-only g is f more own e)))

-- ---- The line of a system

module _ (text : List ℕ) (r : Option Head)
    (told : (h : Head) (more : List ℕ) → HasRow h.row → IsPossible h → text ≡ head_text h ++ more → r ≡ Some h) where
  pub no-head-told : r ≡ None → NoHead text
  no-head-told none h row possible more e = nothing-given h (sym none ∙ told h more row possible e)

  head-only : (g : Head) → r ≡ Some g → (h : Head) (more : List ℕ) → HasRow h.row → IsPossible h → text ≡ head_text h ++ more → g ≡ h
  head-only g is h more row possible e = one_given r g h is (told h more row possible e)

  pub head-impossible : (g : Head) → r ≡ Some g → (IsPossible g → ⊥) → NoHead text
  head-impossible g is refused h row possible more e = refused (subst IsPossible (sym (head-only g is h more row possible e)) possible)

  pub head-unlike : (g : Head) → r ≡ Some g → NoneBegins text (head_text g) → NoHead text
  head-unlike g is unlike h row possible more e =
      unlike more (e ∙ ap (λ (k : Head). head_text k ++ more) (sym (head-only g is h more row possible e)))
