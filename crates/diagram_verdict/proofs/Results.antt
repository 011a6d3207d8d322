-- What follows of the values and errors of results.
use Rattle.std.specs.Prelude.{IfErr, IfOk, OnOk, Result, Ok, Err}

pub ok-later : {X E : Type 0} (P Q : X → Type 0) → ((x : X) → P x → Q x) → (r : Result X E) → IfOk r P → IfOk r Q
ok-later P Q f (Ok x) h = f x h
ok-later P Q f (Err e) h = tt

pub ok-on : {X E : Type 0} (P : X → Type 0) (Q : Type 0) → ((x : X) → P x → Q) → (r : Result X E) → IfOk r P → OnOk r Q
ok-on P Q f (Ok x) h = f x h
ok-on P Q f (Err e) h = tt

pub error-later : {X E : Type 0} (P Q : E → Type 0) → ((e : E) → P e → Q e) → (r : Result X E) → IfErr r P → IfErr r Q
error-later P Q f (Ok x) h = tt
error-later P Q f (Err e) h = f e h
