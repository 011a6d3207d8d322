use Rattle.std.proofs.Common.{◌≡◌, List, map, ap, ◌∙◌}
use Rattle.std.proofs.lemmas.Result.{IfOk-weaker}
use Rattle.diagram_meaning.specs.Nested.{row_of, system_of}
use Rattle.diagram_meaning.specs.ResolvedTree.{diagram_of}
use Rattle.modules_profile.specs.SystemHeader.{SystemHeader}
use Rattle.modules_profile.specs.Locals.{local_of}
use Rattle.modules_profile.specs.LawfulLocals.{IsLocal}
use Rattle.modules_profile.specs.NodeFacts.{headers_with, IsLocalOf}
use Rattle.modules_profile.proofs.LawfulProofs.{locals_are_lawful}
use Rattle.modules_profile.proofs.ProfileNeeds.{profiles-are-headers}
use Rattle.modules_profile.proofs.profiles.local_with.Goals as goal

pub headers-requires-clause-profiles : goal.headers-requires-clause-profiles
headers-requires-clause-profiles c = c.requires.children.rows

pub local_of-requires-clause-headers : goal.local_of-requires-clause-headers
local_of-requires-clause-headers c =
    ap (λ (hs : List SystemHeader). map (λ (h : SystemHeader). h.row) hs) (c.deref.ensures.value ∙ c.in_ok-headers.ensures)
    ∙ (profiles-are-headers (diagram_of c.args.r.now) (row_of (system_of c.args.s.now)) c.args.children.now c.requires.children).rows

pub returns-clause-is : goal.returns-clause-is
returns-clause-is c =
    let d = diagram_of c.args.r.now in
    let s = row_of (system_of c.args.s.now) in
    let same = c.deref.ensures.value ∙ c.in_ok-headers.ensures in
    IfOk-weaker c.local_of.result (λ l. l ≡ local_of d c.args.r.now.times.delays s c.deref.result.now) (λ l. l
    ≡ local_of d c.args.r.now.times.delays s (headers_with d c.args.children.now))
    (λ l e. e ∙ ap (local_of d c.args.r.now.times.delays s) same) c.local_of.ensures

pub returns-clause-local : goal.returns-clause-local
returns-clause-local c =
    let d = diagram_of c.args.r.now in
    let s = row_of (system_of c.args.s.now) in
    let same = c.deref.ensures.value ∙ c.in_ok-headers.ensures in
    IfOk-weaker c.local_of.result (λ l. l ≡ local_of d c.args.r.now.times.delays s c.deref.result.now) (λ l. IsLocalOf c.args.r.now s l)
    (λ l e. record {
      headers = headers_with d c.args.children.now;
      are_headers = profiles-are-headers d s c.args.children.now c.requires.children;
      is_local =
          e ∙ ap (local_of d c.args.r.now.times.delays s) same;
    })
    c.local_of.ensures

pub returns-clause-lawful : goal.returns-clause-lawful
returns-clause-lawful c =
    let d = diagram_of c.args.r.now in
    let s = row_of (system_of c.args.s.now) in
    let same = c.deref.ensures.value ∙ c.in_ok-headers.ensures in
    IfOk-weaker c.local_of.result (λ l. l ≡ local_of d c.args.r.now.times.delays s c.deref.result.now) IsLocal
    (λ l e. locals_are_lawful c.args.r.now s l c.is_resolved.ensures
    (record {
      headers = headers_with d c.args.children.now;
      are_headers = profiles-are-headers d s c.args.children.now c.requires.children;
      is_local =
          e ∙ ap (local_of d c.args.r.now.times.delays s) same;
    }))
    c.local_of.ensures
