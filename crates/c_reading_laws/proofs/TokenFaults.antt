-- The first error that is reported of tokens is the first token with which no file can go on, or that opens something too deep.
use Rattle.std.proofs.Common.{◌≡◌, refl, sym, ◌∙◌, ap, ℕ, zero, suc, inl, inr, List, [], ◌∷◌, ◌++◌, length, take, slice_get, Option, Some, None, Bool, true, false, ◌&&◌, if◌then◌else◌, subst, append_assoc, append-nil}
use Rattle.std.specs.List.{list_all}
use Rattle.c_syntax.specs.declared.fault.CFault.{CFault}
use Rattle.c_syntax.specs.declared.fault.CKind.TheVariants.{Syntax}
use Rattle.c_grammar.specs.Tokens.{Token}
use Rattle.c_grammar.specs.Written.{WrittenProgram}
use Rattle.c_grammar.specs.Grammar.{Spells, CanGoOn}
use Rattle.c_grammar.specs.Prefix.{Need, Reply, refuses, too_deep, leaves, step_needs, may_end, file_needs, procedures_need, token_fault, on_reply, fault_at}
use Rattle.c_grammar.specs.Openings.{Opening, is_within, openings}
use Rattle.c_reading_laws.specs.Agreement.{IsFile, GoesOn, OpensBeyond, Reaches, IsFirstFault, FaultsAgree, Leads, NeedsAgree}
use Rattle.c_grammar.proofs.lemmas.PrefixLaws.{some_same}
use Rattle.c_reading_laws.proofs.Walks.{Steps}
use Rattle.c_reading_laws.proofs.FileWalks.{file-walk}
use Rattle.c_reading_laws.proofs.GoesOn.{leads-go_on, deep-goes_on, leads-end}

-- the steps after a front that leads to needs, whose tokens open nothing beyond a limit
record Behind (os : List Opening) (before after : List Token) (needs left : List Need) : Type 0 where
  further : List Opening
  within : list_all is_within (take (length before) os) ≡ true
  at : slice_get os (length before) ≡ slice_get further 0
  all : list_all is_within further ≡ true → list_all is_within os ≡ true
  steps : Steps further after needs [] left

leaves-same : (a b : List Need) → leaves a ≡ leaves b → a ≡ b
leaves-same a b e = ap (λ r. elim r as (λ r. List Need) [ refuses ↦ [] | too_deep ↦ [] | leaves needs ↦ needs ]) e

-- a step that leaves needs is within its limit
within-leaves : (b : Bool) (next left : List Need) → leaves left ≡ (if b then leaves next else too_deep) → (b ≡ true) × (next ≡ left)
within-leaves true next left e = (refl, sym (leaves-same left next e))
within-leaves false next left e = cc

behind : (before after : List Token) (os : List Opening) (start needs left : List Need) → Leads start before needs →
    Steps os (before ++ after) start [] left → Behind os before after needs left
behind [] after os start needs left h s =
    record { further = os; within = refl; at = refl; all = λ w. w; steps = subst (λ n. Steps os after n [] left) h s }
behind (t ∷ before) after [] start needs left h s = cc s.0
behind (t ∷ before) after (opening ∷ os) start needs left h s =
    let w : _ = within-leaves (is_within opening) s.0 h.0 (sym h.1 ∙ s.1) in
    let b : Behind os before after needs left =
    behind before after os h.0 needs left h.2 (subst (λ n. Steps os (before ++ after) n [] left) w.1 s.2) in
    record {
      further = b.further;
      within = ap (λ x. x && list_all is_within (take (length before) os)) w.0 ∙ b.within;
      at = b.at;
      all = λ f. ap (λ x. x && list_all is_within os) w.0 ∙ b.all f;
      steps = b.steps;
    }

file-steps : (before after : List Token) (program : WrittenProgram) (needs : List Need) →
    Leads file_needs before needs → Spells (before ++ after) program →
    Behind (openings program) before after needs (procedures_need ∷ [])
file-steps before after program needs h spelled =
    behind before after (openings program) file_needs needs (procedures_need ∷ []) h
    (file-walk program (before ++ after) spelled).steps

-- a front that opens nothing beyond a limit leads to needs
front-leads : (before after : List Token) (os : List Opening) (start left : List Need) →
    Steps os (before ++ after) start [] left → list_all is_within (take (length before) os) ≡ true →
    (needs : List Need) × Leads start before needs
front-leads [] after os start left s w = (start, refl)
front-leads (t ∷ before) after [] start left s w = cc s.0
front-leads (t ∷ before) after (opening ∷ os) start left s w =
    by (is_within opening) s.1 w (λ k. front-leads before after os s.0 left s.2 k)
  where
    by : (b : Bool) → step_needs start t.text ≡ (if b then leaves s.0 else too_deep) →
        (b && list_all is_within (take (length before) os)) ≡ true →
        (list_all is_within (take (length before) os) ≡ true → (needs : List Need) × Leads s.0 before needs) →
        (needs : List Need) × Leads start (t ∷ before) needs
    by true e k later = let l : _ = later k in (l.0, (s.0, e, l.1))
    by false e k later = cc

goes_on-leads : (tokens : List Token) → GoesOn tokens → (needs : List Need) × Leads file_needs tokens needs
goes_on-leads tokens g =
    front-leads tokens g.more (openings g.program) file_needs (procedures_need ∷ [])
    (file-walk g.program (tokens ++ g.more) g.spelled).steps g.within

leads-goes_on : (tokens : List Token) (needs : List Need) → Leads file_needs tokens needs → GoesOn tokens
leads-goes_on tokens needs h =
    let c : CanGoOn tokens = leads-go_on tokens needs h in
    record { more = c.0; program = c.1; spelled = c.2; within = (file-steps tokens c.0 c.1 needs h c.2).within }

-- what is at the token after a front
record AtToken (program : WrittenProgram) (before : List Token) (t : Token) (needs : List Need) : Type 0 where
  opening : Opening
  there : slice_get (openings program) (length before) ≡ Some opening
  next : List Need
  step : step_needs needs t.text ≡ (if is_within opening then leaves next else too_deep)

at-token : (program : WrittenProgram) (before : List Token) (t : Token) (more : List Token) (needs : List Need) →
    Leads file_needs before needs → Spells (before ++ t ∷ more) program → AtToken program before t needs
at-token program before t more needs h spelled = by b.further b.at b.steps
  where
    b : Behind (openings program) before (t ∷ more) needs (procedures_need ∷ [])
    b = file-steps before (t ∷ more) program needs h spelled

    by : (further : List Opening) → slice_get (openings program) (length before) ≡ slice_get further 0 →
        Steps further (t ∷ more) needs [] (procedures_need ∷ []) → AtToken program before t needs
    by [] e s = cc s.0
    by (opening ∷ os) e s = record { opening = opening; there = e; next = s.0; step = s.1 }

not-refused : (b : Bool) (next : List Need) (reply : Reply) → reply ≡ (if b then leaves next else too_deep) → reply ≡ refuses → ⊥
not-refused true next reply e k = cc (sym k ∙ e)
not-refused false next reply e k = cc (sym k ∙ e)

deep-beyond : (b : Bool) (next : List Need) (reply : Reply) → reply ≡ (if b then leaves next else too_deep) → reply ≡ too_deep → b ≡ false
deep-beyond true next reply e k = cc (sym k ∙ e)
deep-beyond false next reply e k = refl

-- `(before ++ t ∷ []) ++ more` and `before ++ t ∷ more` are one
respelled : (before : List Token) (t : Token) (more : List Token) (program : WrittenProgram) →
    Spells ((before ++ t ∷ []) ++ more) program → Spells (before ++ t ∷ more) program
respelled before t more program h = subst (λ ts. Spells ts program) (append_assoc before (t ∷ []) more) h

unspelled : (before : List Token) (t : Token) (more : List Token) (program : WrittenProgram) →
    Spells (before ++ t ∷ more) program → Spells ((before ++ t ∷ []) ++ more) program
unspelled before t more program h = subst (λ ts. Spells ts program) (sym (append_assoc before (t ∷ []) more)) h

refused-stops : (before : List Token) (needs : List Need) (t : Token) → Leads file_needs before needs →
    step_needs needs t.text ≡ refuses → CanGoOn (before ++ t ∷ []) → ⊥
refused-stops before needs t h e c =
    let a : AtToken c.1 before t needs = at-token c.1 before t c.0 needs h (respelled before t c.0 c.1 c.2) in
    not-refused (is_within a.opening) a.next (step_needs needs t.text) a.step e

deep-opens : (before : List Token) (needs : List Need) (t : Token) → Leads file_needs before needs →
    step_needs needs t.text ≡ too_deep → OpensBeyond before t
deep-opens before needs t h e =
    let c : CanGoOn (before ++ t ∷ []) = deep-goes_on before needs t h e in
    let a : AtToken c.1 before t needs = at-token c.1 before t c.0 needs h (respelled before t c.0 c.1 c.2) in
    record {
      more = c.0;
      program = c.1;
      spelled = respelled before t c.0 c.1 c.2;
      opening = a.opening;
      there = a.there;
      beyond = deep-beyond (is_within a.opening) a.next (step_needs needs t.text) a.step e;
    }

opens-deep : (before : List Token) (needs : List Need) (t : Token) → Leads file_needs before needs →
    OpensBeyond before t → step_needs needs t.text ≡ too_deep
opens-deep before needs t h o =
    let a : AtToken o.program before t needs = at-token o.program before t o.more needs h o.spelled in
    let same : a.opening ≡ o.opening = some_same a.opening o.opening (sym a.there ∙ o.there) in
    a.step ∙ ap (λ b. if b then leaves a.next else too_deep) (ap is_within same ∙ o.beyond)

leads-then : (before tokens : List Token) (start needs left : List Need) → Leads start before needs →
    Leads needs tokens left → Leads start (before ++ tokens) left
leads-then [] tokens start needs left h k = subst (λ n. Leads n tokens left) (sym h) k
leads-then (t ∷ before) tokens start needs left h k = (h.0, h.1, leads-then before tokens h.0 needs left h.2 k)

leads-one : (before : List Token) (needs : List Need) (t : Token) (left : List Need) → Leads file_needs before needs →
    step_needs needs t.text ≡ leaves left → Leads file_needs (before ++ t ∷ []) left
leads-one before needs t left h e = leads-then before (t ∷ []) file_needs needs left h (left, e, refl)

stops-refused : (before : List Token) (needs : List Need) (t : Token) → Leads file_needs before needs →
    (CanGoOn (before ++ t ∷ []) → ⊥) → step_needs needs t.text ≡ refuses
stops-refused before needs t h n = by (step_needs needs t.text) refl
  where
    by : (reply : Reply) → step_needs needs t.text ≡ reply → reply ≡ refuses
    by refuses e = refl
    by too_deep e = absurd (n (deep-goes_on before needs t h e))
    by (leaves left) e = absurd (n (leads-go_on (before ++ t ∷ []) left (leads-one before needs t left h e)))

-- where a file ends, the needs agree that it may
spelled-ends : (tokens : List Token) (needs : List Need) (program : WrittenProgram) → Leads file_needs tokens needs →
    Spells tokens program → (may_end needs ≡ true) × (list_all is_within (openings program) ≡ true)
spelled-ends tokens needs program h spelled = by b.further b.steps b.all
  where
    b : Behind (openings program) tokens [] needs (procedures_need ∷ [])
    b = file-steps tokens [] program needs h (subst (λ ts. Spells ts program) (sym (append-nil tokens)) spelled)

    by : (further : List Opening) → Steps further [] needs [] (procedures_need ∷ []) →
        (list_all is_within further ≡ true → list_all is_within (openings program) ≡ true) →
        (may_end needs ≡ true) × (list_all is_within (openings program) ≡ true)
    by [] s all = (s.1, all refl)
    by (opening ∷ os) s all = absurd s

steps-each : (os : List Opening) (tokens : List Token) (needs left : List Need) → Steps os tokens needs [] left → length os ≡ length tokens
steps-each [] tokens needs left s = ap length (sym s.0)
steps-each (opening ∷ os) [] needs left s = absurd s
steps-each (opening ∷ os) (t ∷ tokens) needs left s = ap suc (steps-each os tokens s.0 left s.2)

pub needs_agree : NeedsAgree
needs_agree = record {
  passes = λ tokens. (λ l. leads-goes_on tokens l.0 l.1, λ g. goes_on-leads tokens g);
  throughout = λ tokens more program g spelled. let l : _ = goes_on-leads tokens g in
      (file-steps tokens more program l.0 l.1 spelled).within;
  refused = λ before needs t h. (λ e. refused-stops before needs t h e, λ n. stops-refused before needs t h n);
  deep = λ before needs t h. (λ e. deep-opens before needs t h e, λ o. opens-deep before needs t h o);
  everywhere = everywhere;
  ends = λ tokens needs h. (λ e. leads-end tokens needs h e, λ p. (spelled-ends tokens needs p.0 h p.1).0);
  each = λ tokens program spelled. steps-each (openings program) tokens file_needs (procedures_need ∷ [])
      (file-walk program tokens spelled).steps;
}
  where
    everywhere : (before : List Token) (t : Token) (more : List Token) (program : WrittenProgram) → GoesOn before →
        OpensBeyond before t → Spells (before ++ t ∷ more) program →
        (opening : Opening) × (slice_get (openings program) (length before) ≡ Some opening)
        × (is_within opening ≡ false)
    everywhere before t more program g o spelled =
        let l : _ = goes_on-leads before g in
        let a : AtToken program before t l.0 = at-token program before t more l.0 l.1 spelled in
        (a.opening, a.there, deep-beyond (is_within a.opening) a.next (step_needs l.0 t.text) a.step (opens-deep before l.0 t l.1 o))

-- the error of tokens is that of what is after a front that passes
lead-fault : (before after : List Token) (start needs : List Need) (last : ℕ) → Leads start before needs →
    token_fault start last (before ++ after) ≡ token_fault needs last after
lead-fault [] after start needs last h = ap (λ n. token_fault n last after) h
lead-fault (t ∷ before) after start needs last h =
    ap (λ r. on_reply r t.line (λ left. token_fault left last (before ++ after))) h.1 ∙ lead-fault before after h.0 needs last h.2

first : (before after : List Token) (needs : List Need) (last : ℕ) → Leads file_needs before needs →
    IsFirstFault (before ++ after) last (token_fault needs last after)
first before [] needs last h =
    subst (λ ts. IsFirstFault ts last (if may_end needs then None else Some (fault_at last Syntax)))
    (sym (append-nil before)) (by (may_end needs) refl)
  where
    by : (b : Bool) → may_end needs ≡ b → IsFirstFault before last (if b then None else Some (fault_at last Syntax))
    by true e =
        let p : _ = leads-end before needs h e in
        record { program = p.0; spelled = p.1; within = (spelled-ends before needs p.0 h p.1).1 }
    by false e =
        inr (inr
        (record {
          goes_on = leads-goes_on before needs h;
          unfinished = λ program spelled. cc (sym e ∙ (spelled-ends before needs program h spelled).0);
          is = refl;
        }))
first before (t ∷ after) needs last h =
    by (step_needs needs t.text) refl
    (λ left e. subst (λ ts. IsFirstFault ts last (token_fault left last after)) (append_assoc before (t ∷ []) after)
    (first (before ++ t ∷ []) after left last (leads-one before needs t left h e)))
  where
    reached : Reaches (before ++ t ∷ after) before t
    reached = record { after = after; list = refl; goes_on = leads-goes_on before needs h }

    by : (reply : Reply) → step_needs needs t.text ≡ reply →
        ((left : List Need) → step_needs needs t.text ≡ leaves left →
        IsFirstFault (before ++ t ∷ after) last (token_fault left last after)) →
        IsFirstFault (before ++ t ∷ after) last (on_reply reply t.line (λ left. token_fault left last after))
    by refuses e later =
        inl (record {
          before = before;
          token = t;
          reached = reached;
          stops = λ c. refused-stops before needs t h e c;
          is = refl;
        })
    by too_deep e later =
        inr (inl (record {
          before = before;
          token = t;
          reached = reached;
          deep = deep-opens before needs t h e;
          is = refl;
        }))
    by (leaves left) e later = later left e

front-within : (n : ℕ) (os : List Opening) → list_all is_within os ≡ true → list_all is_within (take n os) ≡ true
front-within zero os w = refl
front-within (suc n) [] w = refl
front-within (suc n) (opening ∷ os) w = by (is_within opening) w (λ k. front-within n os k)
  where
    by : (b : Bool) → (b && list_all is_within os) ≡ true →
        (list_all is_within os ≡ true → list_all is_within (take n os) ≡ true) →
        (b && list_all is_within (take n os)) ≡ true
    by true k later = later k
    by false k later = cc

-- the tokens of a file within the limits are let through
file-leads : (tokens : List Token) → IsFile tokens → (needs : List Need) × Leads file_needs tokens needs
file-leads tokens file =
    front-leads tokens [] (openings file.program) file_needs (procedures_need ∷ [])
    (file-walk file.program (tokens ++ [])
    (subst (λ ts. Spells ts file.program) (sym (append-nil tokens)) file.spelled)).steps
    (front-within (length tokens) (openings file.program) file.within)

told : (tokens : List Token) (last : ℕ) (answer : Option CFault) → IsFirstFault tokens last answer →
    token_fault file_needs last tokens ≡ answer
told tokens last None file =
    let l : _ = file-leads tokens file in
    ap (token_fault file_needs last) (sym (append-nil tokens)) ∙ lead-fault tokens [] file_needs l.0 last l.1
    ∙ ap (λ b. if b then None else Some (fault_at last Syntax))
    (spelled-ends tokens l.0 file.program l.1 file.spelled).0
told tokens last (Some fault) (inl s) =
    let l : _ = goes_on-leads s.before s.reached.goes_on in
    ap (token_fault file_needs last) s.reached.list
    ∙ lead-fault s.before (s.token ∷ s.reached.after) file_needs l.0 last l.1
    ∙ ap (λ r. on_reply r s.token.line (λ left. token_fault left last s.reached.after))
    (stops-refused s.before l.0 s.token l.1 s.stops) ∙ ap Some (sym s.is)
told tokens last (Some fault) (inr (inl s)) =
    let l : _ = goes_on-leads s.before s.reached.goes_on in
    ap (token_fault file_needs last) s.reached.list
    ∙ lead-fault s.before (s.token ∷ s.reached.after) file_needs l.0 last l.1
    ∙ ap (λ r. on_reply r s.token.line (λ left. token_fault left last s.reached.after))
    (opens-deep s.before l.0 s.token l.1 s.deep) ∙ ap Some (sym s.is)
told tokens last (Some fault) (inr (inr s)) =
    let l : _ = goes_on-leads tokens s.goes_on in
    ap (token_fault file_needs last) (sym (append-nil tokens)) ∙ lead-fault tokens [] file_needs l.0 last l.1
    ∙ ap (λ b. if b then None else Some (fault_at last Syntax)) (by (may_end l.0) l.0 l.1 refl) ∙ ap Some (sym s.is)
  where
    by : (b : Bool) (needs : List Need) → Leads file_needs tokens needs → may_end needs ≡ b → b ≡ false
    by true needs h e = let p : _ = leads-end tokens needs h e in absurd (s.unfinished p.0 p.1)
    by false needs h e = refl

pub faults_agree : FaultsAgree
faults_agree tokens last answer =
    (λ e. subst (λ o. IsFirstFault tokens last o) e (first [] tokens file_needs last refl), λ i. told tokens last answer i)

-- where no error is reported, what the tokens spell opens nothing beyond a limit
pub no_fault-within : (tokens : List Token) (last : ℕ) (program : WrittenProgram) → Spells tokens program →
    token_fault file_needs last tokens ≡ None → list_all is_within (openings program) ≡ true
no_fault-within tokens last program spelled e =
    let l : _ = file-leads tokens ((faults_agree tokens last None).0 e) in
    (spelled-ends tokens l.0 program l.1 spelled).1
