-- What can be done is done, unless memory runs out.
use Rattle.std.proofs.Common.{◌≡◌, ◌≢◌, ℕ, ◌⊎◌, inl, inr, List, refl, sym, ap}
use Rattle.std.specs.Prelude.{Option, Some, None}
use Rattle.std.proofs.lemmas.Bool.Decides.{eqb_tells}
use Rattle.base_host.specs.Faults.{IsCalm}
use Rattle.base_host.specs.Files.{File, lookup}
use Rattle.c_semantics.specs.Rows.{start_run}
use Rattle.diagram_meaning.specs.ResolvedTable.{ResolvedTable}
use Rattle.tool_system_driver.specs.Words.{system_named}
use Rattle.tool_words.specs.Words.{Asked, Compile, Run, Exec, Profile, Drive, Gen, Lustre, Flow}
use Rattle.tool_endings.specs.Told.{HostTold, SinkTold}
use Rattle.tool_endings.specs.Endings.{EndsAt}
use Rattle.tool_endings.specs.Statuses.{Comes, ComesExactly, OnTold, run_status, status_at, SystemComes, lustre_status, IsDone}
use Rattle.tool_endings.specs.Completeness.{CanDrive, CanDo, IsComplete}
use Rattle.tool_endings.proofs.lemmas.Files.{at_there, told-map}
use Rattle.tool_ending_laws.specs.Laws.{StatusesAreExact}
use Rattle.tool_ending_laws.proofs.StatusLaws.{comes-over, over, flow_over}
use Rattle.tool_ending_laws.proofs.EndingLaws.{no_read, no_write, no_put}

-- ---- What can be done comes to status 0

can-drive : (r : ResolvedTable) (system : Option (Option ℕ)) (script : Option (List ℕ)) → CanDrive r system script →
    SystemComes r system script 0
can-drive r None script can = absurd can
can-drive r (Some system) script (shape, is, whole) = (shape, is, at_there script whole (λ lines end. sym (ap status_at end)))

can-comes : (a : Asked) (fs : List File) → CanDo a fs → Comes a fs 0
can-comes (Compile model code) fs can = at_there (lookup model fs) can (λ bytes x. inr (x.0, x.1, refl))
can-comes (Run model code trace) fs can =
    at_there (lookup model fs) can
    (λ bytes x. inr (x.0, x.1, at_there (lookup trace fs) x.2 (λ lines good. sym (ap (run_status None) good))))
can-comes (Exec code trace) fs can =
    at_there (lookup code fs) can (λ bytes x. inr (inr (
      x.fits,
      (
        x.program,
        x.reading,
        comes-over x.program x.types (lookup trace fs) 0 (start_run x.program) refl x.inputs
            (at_there (lookup trace fs) x.runs (λ lines run. over x.program x.types lines None None run.free run.good)),
      ),
    )))
can-comes (Profile model) fs can = at_there (lookup model fs) can (λ bytes x. inr (x.0, x.1, refl))
can-comes (Drive model code word script) fs can =
    at_there (lookup model fs) can (λ bytes x. inr (x.0, x.1, can-drive x.0 (system_named x.0.table.rows word) (lookup script fs) x.2))
can-comes (Gen start size model code) fs can = inr (can.0, can.1, refl)
can-comes (Lustre model file) fs can = at_there (lookup model fs) can (λ bytes x. inr (x.0, x.1, sym (ap lustre_status x.2)))
can-comes (Flow file trace) fs can =
    at_there (lookup file fs) can (λ bytes x. inr (inr (
      x.file,
      at_there (lookup trace fs) x.runs (λ lines run. flow_over x.file.tree lines None None run.free run.good),
    )))

done-by : (s : ℕ) (a : Asked) (fs : List File) → ComesExactly s a fs → s ≢ 5 → s ≢ 6 → s ≢ 7 → CanDo a fs → IsDone s
done-by s a fs comes reads writes puts can = by (eqb_tells s 10)
  where
    by : {A B : Type 0} → (A × (s ≡ 10)) ⊎ (B × (s ≢ 10)) → IsDone s
    by (inl ten) = inr ten.1
    by (inr other) =
        inl (comes.wherever 0 (can-comes a fs can)
        (record { no_read_fault = reads; no_write_fault = writes; no_put_fault = puts; no_want_of_memory = other.1 }))

-- ---- Where no count rises

pub complete : StatusesAreExact → (s : ℕ) (a : Option Asked) (h h' : HostTold) (b b' : SinkTold) → EndsAt s a h h' b b' →
    IsComplete s a h h' b b'
complete law s None h h' b b' ends = λ calm. tt
complete law s (Some a) h h' b b' ends = λ calm.
    let exact : OnTold (Some a) h (ComesExactly s) = law s (Some a) h h' b b' ends in
    told-map h.files h.rest exact (λ fs comes.
    done-by s a fs comes (no_read s (Some a) h h' b b' ends calm.reads) (no_write s (Some a) h h' b b' ends calm.writes)
    (no_put s (Some a) h h' b b' ends calm.puts))

-- where that of reading may rise, but the status reports no error of reading
pub done_unless_unread : StatusesAreExact → (s : ℕ) (a : Option Asked) (h h' : HostTold) (b b' : SinkTold) → EndsAt s a h h' b b' →
    OnTold a h (λ a fs. s ≢ 5 → IsCalm h.write_faults h'.write_faults → IsCalm b.faults b'.faults → CanDo a fs → IsDone s)
done_unless_unread law s None h h' b b' ends = tt
done_unless_unread law s (Some a) h h' b b' ends =
    let exact : OnTold (Some a) h (ComesExactly s) = law s (Some a) h h' b b' ends in
    told-map h.files h.rest exact (λ fs comes reads writes puts.
    done-by s a fs comes reads (no_write s (Some a) h h' b b' ends writes) (no_put s (Some a) h h' b b' ends puts))
