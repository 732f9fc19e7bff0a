-- A call that changes nothing that is read, before or behind another.
use Rattle.std.proofs.Common.{◌≡◌, inl, ℕ, Result, Ok, Err, List, length, refl, sym, ◌∙◌, ap, subst}
use Rattle.std.specs.Prelude.{IfOk, OnOk, OnErr}
use Rattle.std.proofs.lemmas.Result.{IfOk-weaker, on_ok_weaker}
use Rattle.sm_disk.specs.Sight.{Image, Sight}
use Rattle.sm_disk.specs.Steps.{IsCut, CutOrNot, OnFile, Same, Follows, ReadsFollow, GoesOnTelling, Keeps}
use Rattle.sm_disk.proofs.Runs.{on_file_weaker}
use Rattle.sm_write_buffer.specs.Gathering.{pending_of, Placed, over}
use Rattle.sm_write_buffer.specs.declared.pending.Pending.TheVariants.{Nothing}
use Rattle.sm_write_buffer.specs.declared.waiting.Waiting.{Waiting}
use Rattle.sm_write_buffer.proofs.Overs.{read_below}

pub at_err : {T E A : Type 0} (r : Result T E) → A → OnErr r A
at_err (Ok x) a = tt
at_err (Err e) a = a

pub at_ok : {T E A : Type 0} (r : Result T E) → A → OnOk r A
at_ok (Ok x) a = a
at_ok (Err e) a = tt

-- what changes nothing is a step that changes nothing
pub same_step : (file : ℕ) (step : List ℕ → List ℕ → Type 0) (old new : Image → Type 0) → ((x : List ℕ) → step x x)
    → Follows Same old new → Follows (OnFile file step) old new
same_step file step old new stays follows c image =
    let from = follows c image in (
      from.0,
      from.1,
      record {
        changed = subst (step (from.0 file)) (sym (from.2 file)) (stays (from.0 file));
        others = λ other ne. from.2 other;
      },
    )

pub kept_step : (file : ℕ) (step : List ℕ → List ℕ → Type 0) (old new : Sight) → ((x : List ℕ) → step x x)
    → Keeps old new → ReadsFollow (OnFile file step) old new
kept_step file step old new stays keeps s read =
    (s, keeps.nothing_new s read, record { changed = stays (s file); others = λ other ne. refl })

pub kept_follows : (step : Image → Image → Type 0) (old mid : Sight) (new : Image → Type 0) → Keeps old mid
    → Follows step mid.reads new → Follows step old.reads new
kept_follows step old mid new keeps follows s read =
    let from = follows s read in (from.0, keeps.nothing_new from.0 from.1, from.2)

pub follows_kept : (step : Image → Image → Type 0) (old : Image → Type 0) (mid new : Sight) → Follows step old mid.reads
    → Keeps mid new → Follows step old new.reads
follows_kept step old mid new follows keeps s read = follows s (keeps.nothing_new s read)

pub kept_tells : (old mid : Sight) (new : Image → Type 0) → Keeps old mid
    → ((s : Image) → mid.reads s → (t : Image) × new t) → (s : Image) → old.reads s → (t : Image) × new t
kept_tells old mid new keeps tells s read = tells s (keeps.still s read)

pub tells_kept : (old : Image → Type 0) (mid new : Sight) → ((s : Image) → old s → (t : Image) × mid.reads t)
    → Keeps mid new → (s : Image) → old s → (t : Image) × new.reads t
tells_kept old mid new tells keeps s read = let told = tells s read in (told.0, keeps.still told.0 told.1)

pub keeps_telling : (old new : Sight) → Keeps old new → GoesOnTelling old new
keeps_telling old new keeps s read = (s, keeps.still s read)

-- a cut that is done is one of those that a crash may undo
pub cut_or_not : (file end : ℕ) (old new : Image → Type 0) → Follows (OnFile file (IsCut end)) old new
    → Follows (OnFile file (CutOrNot end)) old new
cut_or_not file end old new follows s read =
    let from = follows s read in
    (from.0, from.1, on_file_weaker file (IsCut end) (CutOrNot end) (λ x y is. inl is) from.0 s from.2)

pub placed_kept : (below after : Sight) (w : Waiting) → Keeps below after → Placed below w → Placed after w
placed_kept below after w keeps placed s read = placed s (keeps.nothing_new s read)

-- what the disk below says of a file is so of what is read over it, where nothing is pending
module _ (file : ℕ) (old : Sight) (below : Sight) (w : Waiting) (none : pending_of w file ≡ Nothing)
    (keeps : Keeps old (over below w)) where
  pub length_over : {E : Type 0} (r : Result ℕ E)
      → IfOk r (λ n. (x : Image) → below.reads x → n ≡ length (x file))
      → IfOk r (λ n. (s : Image) → old.reads s → n ≡ length (s file))
  length_over r ok = IfOk-weaker r _ _ (λ n is s read. let found = read_below below w file none s (keeps.still s read)
      in
      is found.0 found.1 ∙ sym (ap length found.2)) ok

  pub bytes_over : {T E : Type 0} (r : Result T E) (bytes : List ℕ) (part : List ℕ → List ℕ)
      → OnOk r ((x : Image) → below.reads x → bytes ≡ part (x file))
      → OnOk r ((s : Image) → old.reads s → bytes ≡ part (s file))
  bytes_over r bytes part ok = on_ok_weaker r (λ is s read. let found =
      read_below below w file none s (keeps.still s read) in is found.0 found.1 ∙ sym (ap part found.2)) ok
