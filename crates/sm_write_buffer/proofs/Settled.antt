-- What a write on the disk below makes of a file, done or not.
use Rattle.std.proofs.Common.{◌≡◌, ℕ, Result, Ok, Err, List, length, sym, subst}
use Rattle.std.specs.Prelude.{OnOk, OnErr}
use Rattle.sm_disk.specs.Sight.{Image}
use Rattle.sm_disk.specs.Steps.{Holds, Torn, OnFile, Follows}
use Rattle.sm_disk.specs.Laws.{torn_whole}
use Rattle.sm_disk.proofs.Runs.{on_file_weaker}
use Rattle.sm_write_buffer.specs.Gathering.{MayDo}
use Rattle.sm_write_buffer.specs.declared.pending.Pending.{Pending}
use Rattle.sm_write_buffer.specs.declared.pending.Pending.TheVariants.{Write}

pub either : {T E A : Type 0} (r : Result T E) → OnOk r A → OnErr r A → A
either (Ok x) ok err = ok
either (Err e) ok err = err

-- what is said of an answer is said of the same one
pub both : {T E A B C : Type 0} (r : Result T E) → OnOk r A → OnErr r B → (A → C) → (B → C) → C
both (Ok x) ok err f g = f ok
both (Err e) ok err f g = g err

module _ (file at : ℕ) (old new : Image → Type 0) where
  -- a write that is done is one of those that are cut short
  pub holds_torn : (piece : List ℕ) → Follows (OnFile file (Holds at piece)) old new
      → Follows (OnFile file (Torn at (length piece))) old new
  holds_torn piece follows s now =
      let from = follows s now in (
        from.0,
        from.1,
        on_file_weaker file (Holds at piece) (Torn at (length piece))
            (λ x y is. subst (Torn at (length piece) x) (sym is) (torn_whole at piece x)) from.0 s from.2,
      )

  pub tried_write : {T E : Type 0} (r : Result T E) (piece passed : List ℕ) (p : Pending)
      → p ≡ Write at piece → passed ≡ piece
      → OnOk r (Follows (OnFile file (Holds at passed)) old new)
      → OnErr r (Follows (OnFile file (Torn at (length passed))) old new) → Follows (OnFile file (MayDo p)) old new
  tried_write r piece passed p is same ok err =
      subst (λ (q : Pending). Follows (OnFile file (MayDo q)) old new) (sym is)
      (subst (λ (l : List ℕ). Follows (OnFile file (Torn at (length l))) old new) same
      (both r ok err (holds_torn passed) (λ torn. torn)))

  pub tried_torn : {T E : Type 0} (r : Result T E) (piece : List ℕ)
      → OnOk r (Follows (OnFile file (Holds at piece)) old new)
      → OnErr r (Follows (OnFile file (Torn at (length piece))) old new)
      → Follows (OnFile file (Torn at (length piece))) old new
  tried_torn r piece ok err = both r ok err (holds_torn piece) (λ torn. torn)
