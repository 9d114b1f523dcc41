-- A database opened over files in memory.
use Rattle.std.proofs.Common.{◌≡◌, ◌⊎◌, inl, inr, ℕ, ◌==◌, Bool, true, false, if◌then◌else◌, List, ap, refl, sym, subst, ◌∙◌}
use Rattle.sqlite_disk.specs.Tally.{both_counts}
use Rattle.sqlite_disk.specs.declared.tally.Tally.{Tally}
use Rattle.sqlite_disk.specs.declared.Files.{Files}
use Rattle.sqlite_disk.specs.declared.memory.Memory.{Memory}
use Rattle.sqlite_disk.specs.contracts.memory.MemoryDisk.TheImpl as memory
use Rattle.sqlite_disk.specs.Memory.{memory_bytes}
use Rattle.sqlite_store.specs.declared.store.FileStore.{FileStore}
use Rattle.sqlite_trees.specs.View.{doubt}
use Rattle.sqlite_trees.specs.declared.error.StoreError.{StoreError}
use Rattle.sqlite_trees.specs.declared.error.StoreError.TheVariants.{Corrupt, Full, Io}
use Rattle.sqlite.specs.Effect.{Database}
use Rattle.sqlite.specs.Closing.{files_left}
use Rattle.sqlite.specs.Files.{AreFoundIn, FailsToOpenFiles, Finds, IsCleanLeft, IsOpened, file_state, tally_left}
use Rattle.sqlite.specs.Held.{Held}
use Rattle.sqlite.specs.Opening.{FailsAs}
use Rattle.sqlite.specs.State.{HasCleanDisk, store_error}
use Rattle.sqlite.specs.declared.error.Error.{Error}
use Rattle.sqlite.specs.declared.error.Error.TheVariants.{SqliteFailure}
use Rattle.sqlite.specs.declared.error.ErrorCode.TheVariants.{DatabaseCorrupt, NotADatabase}
use Rattle.sqlite.specs.declared.file.Leftover.{Leftover}
use Rattle.sqlite.specs.declared.file.Leftover.TheVariants as left
use Rattle.sqlite_pool.specs.Pool as pool
use Rattle.sqlite_store.specs.Report.{named}
use Rattle.sqlite_wal.specs.Reads.{tally_of_files}
use Rattle.trail_bytes.specs.Bytes.{HoldNone, IsOf, IsOpenFault, image, is_refusal}

-- a file in memory returns what was written, whatever was asked of it
pub clean : (conn : Held (FileStore Memory memory.ghosts)) → HasCleanDisk (file_state conn)
unfolding pool.state doubt
clean conn = refl

pub left_clean : (rest : Leftover Memory memory.ghosts) → IsCleanLeft rest
unfolding pool.state
left_clean (left.Files files) = refl
left_clean (left.Unopened files) = refl
left_clean (left.Store it) = refl

pub of_bytes : (files : Files Memory) (log db : List ℕ) (conn : Held (FileStore Memory memory.ghosts))
    → memory_bytes files.log ≡ log → memory_bytes files.db ≡ db → Finds files conn → IsOpened conn → IsOf log db (file_state conn).now
of_bytes files log db conn same_log same_db finds opened =
    let settled : (file_state conn).now.trees ≡ (file_state conn).committed.trees = ap (λ (d : Database). d.trees) opened.0.clean in
    subst (λ (l : List ℕ). IsOf l db (file_state conn).now) same_log
    (subst (λ (d : List ℕ). IsOf (memory_bytes files.log) d (file_state conn).now) same_db (record {
      holds = λ trees held. settled ∙ finds.holds trees held;
      found = subst (AreFoundIn (image (memory_bytes files.log) (memory_bytes files.db))) (sym settled) finds.reads;
      sound = (opened.1 opened.0.is_open).0;
    }))

-- The name of a failure of the disk. No read is caught where the counts say so, and a file in memory has no limit.

abbrev name : Files Memory → Leftover Memory memory.ghosts → StoreError
name files rest = named (tally_of_files memory.ghosts (files.log, files.db)) (tally_left rest)

-- the counts of files in memory: none is refused
refused_none : (a b : Memory) → (both_counts (memory.ghosts.tally_of a) (memory.ghosts.tally_of b)).refused ≡ 0
refused_none a b = refl

left_counts : (rest : Leftover Memory memory.ghosts) → tally_left rest ≡ tally_of_files memory.ghosts (files_left rest)
left_counts (left.Files files) = refl
left_counts (left.Unopened files) = refl
left_counts (left.Store it) = refl

named_io : (old new : Tally) → true ≡ new.caught == old.caught → true ≡ new.refused == old.refused → named old new ≡ Io
named_io old new same room = ap (λ (b : Bool). if b then (if new.refused == old.refused then Io else Full) else Corrupt) (sym same) ∙ ap (λ (b : Bool). if b then Io else Full) (sym room)

pub uncaught : (files : Files Memory) (rest : Leftover Memory memory.ghosts) (now : Files Memory) (before after : Tally) → before ≡ both_counts (memory.ghosts.tally_of files.log) (memory.ghosts.tally_of files.db) → (now.log, now.db) ≡ files_left rest
    → after ≡ both_counts (memory.ghosts.tally_of now.log) (memory.ghosts.tally_of now.db) → true ≡ after.caught == before.caught → name files rest ≡ Io
uncaught files rest now before after was back is same =
    let left_is : tally_left rest ≡ after = left_counts rest ∙ ap (tally_of_files memory.ghosts) (sym back) ∙ sym is in
    (λ k. named (sym was k) (left_is k)) ∙ named_io before after same (sym (ap (λ (n : ℕ). n == before.refused) (ap (λ (t : Tally). t.refused) is) ∙ ap (λ (n : ℕ). 0 == n) (ap (λ (t : Tally). t.refused) was)))

differs : false ≡ true → ⊥
differs e = absurd (cc)

none_wanted : (kind : StoreError) (old new : ℕ) (AtLimit Wanted : Type 0) (e : Error) → FailsAs kind old new AtLimit Wanted e → kind ≡ Io → is_refusal e ≡ true → ¬ Wanted
none_wanted kind old new AtLimit Wanted e (inl memory_failed) io is = absurd (differs (sym (ap is_refusal memory_failed) ∙ is))
none_wanted kind old new AtLimit Wanted e (inr (inl refused)) io is = refused.1
none_wanted kind old new AtLimit Wanted e (inr (inr (inl failed))) io is = absurd (differs (sym (ap is_refusal (failed.0 ∙ ap store_error io)) ∙ is))
none_wanted kind old new AtLimit Wanted e (inr (inr (inr full))) io is = absurd (differs (sym (ap is_refusal full.0) ∙ is))

pub none : (files : Files Memory) (log db : List ℕ) (rest : Leftover Memory memory.ghosts) (e : Error) → memory_bytes files.log ≡ log → memory_bytes files.db ≡ db
    → FailsToOpenFiles files rest e → name files rest ≡ Io → is_refusal e ≡ true → HoldNone log db
none files log db rest e same_log same_db fails io is =
    let not_wanted = none_wanted (name files rest) _ _ _ _ e fails io is in
    subst (λ (l : List ℕ). HoldNone l db) same_log
    (subst (λ (d : List ℕ). HoldNone (memory_bytes files.log) d) same_db
    ((λ trees held. not_wanted (inl (trees, held))), (λ nothing. not_wanted (inr nothing))))

pub fault : (files : Files Memory) (rest : Leftover Memory memory.ghosts) (e : Error) → FailsToOpenFiles files rest e → name files rest ≡ Io → IsOpenFault e
fault files rest e (inl memory_failed) io = inr (inl memory_failed)
fault files rest e (inr (inl refused)) io = inl (either refused.0)
  where
    either : (e ≡ SqliteFailure NotADatabase) ⊎ (e ≡ SqliteFailure DatabaseCorrupt) → is_refusal e ≡ true
    either (inl is) = ap is_refusal is
    either (inr is) = ap is_refusal is
fault files rest e (inr (inr (inl failed))) io = inr (inr (inl (failed.0 ∙ ap store_error io)))
fault files rest e (inr (inr (inr full))) io = inr (inr (inr full.0))
