use Rattle.std.proofs.Common.{◌≡◌, ℕ, List, [], ◌∷◌, ◌++◌, length, sym, ◌∙◌, ap, arith}
use Rattle.sm_disk.specs.Steps.{Torn, CutOrNot, Holds, IsCut}
use Rattle.sm_disk.specs.OneFile.{Anyhow}
use Rattle.sm_journal.specs.Records.{Short}
use Rattle.sm_journal.proofs.Front.{front-nil, nine}
use Rattle.sm_journal.proofs.Tears.{short_cut, short_torn, made}
use Rattle.sm_journal.proofs.Settings.{starts, goes_with}
use Rattle.sm_journal.proofs.device.begin.Goals as goal

pub returns-in_err-cut-clause-run : goal.returns-in_err-cut-clause-run
returns-in_err-cut-clause-run g c =
    let disk = c.args.disk.now in
    let begins = starts c.args.file (g.D.Disk.sight disk) Anyhow (g.met.D.Disk.only_now disk) (λ image was. tt) in
    let cut = goes_with c.args.file (g.D.Disk.sight disk) Anyhow _ (g.D.Disk.sight c.cut.new.self) (CutOrNot 0)
    (CutOrNot 0) begins c.cut.ensures.crash c.cut.ensures.tells c.in_err-cut.ensures.tried (λ x y z any cut. tt) in
    cut.leaves

pub returns-in_err-write_at-clause-run : goal.returns-in_err-write_at-clause-run
returns-in_err-write_at-clause-run g c =
    let disk = c.args.disk.now in
    let begins = starts c.args.file (g.D.Disk.sight disk) Anyhow (g.met.D.Disk.only_now disk) (λ image was. tt) in
    let cut = goes_with c.args.file (g.D.Disk.sight disk) Anyhow _ (g.D.Disk.sight c.cut.new.self) (CutOrNot 0)
    (IsCut 0) begins c.cut.ensures.crash c.cut.ensures.tells c.in_ok-cut.ensures.cut (λ x y z any cut. tt) in
    let written = goes_with c.args.file (g.D.Disk.sight disk) Anyhow _ (g.D.Disk.sight c.write_at.new.self)
    (Torn 0 (length c.empty_file-empty.result))
    (Torn 0 (length c.empty_file-empty.result)) cut c.write_at.ensures.crash c.write_at.ensures.tells
    c.in_err-write_at.ensures.tried
    (λ x y z any torn. tt) in
    written.leaves

pub returns-clause-run : goal.returns-clause-run
returns-clause-run g c =
    let disk = c.args.disk.now in
    let begins = starts c.args.file (g.D.Disk.sight disk) Anyhow (g.met.D.Disk.only_now disk) (λ image was. tt) in
    let cut = goes_with c.args.file (g.D.Disk.sight disk) Anyhow _ (g.D.Disk.sight c.cut.new.self) (CutOrNot 0)
    (IsCut 0) begins c.cut.ensures.crash c.cut.ensures.tells c.in_ok-cut.ensures.cut (λ x y z any cut. tt) in
    let written = goes_with c.args.file (g.D.Disk.sight disk) Anyhow _ (g.D.Disk.sight c.write_at.new.self)
    (Torn 0 (length c.empty_file-empty.result))
    (Holds 0 c.empty_file-empty.result) cut c.write_at.ensures.crash c.write_at.ensures.tells
    c.in_ok-write_at.ensures.written (λ x y z any torn. tt) in
    written.leaves

pub returns-clause-making : goal.returns-clause-making
returns-clause-making g c =
    let disk = c.args.disk.now in
    let begins = starts c.args.file (g.D.Disk.sight disk) Anyhow (g.met.D.Disk.only_now disk) (λ image was. tt) in
    let cut = goes_with c.args.file (g.D.Disk.sight disk) Anyhow _ (g.D.Disk.sight c.cut.new.self) (CutOrNot 0)
    (IsCut 0) begins c.cut.ensures.crash c.cut.ensures.tells c.in_ok-cut.ensures.cut (λ x y z any cut. tt) in
    let written = goes_with c.args.file (g.D.Disk.sight disk) Anyhow _ (g.D.Disk.sight c.write_at.new.self)
    (Torn 0 (length c.empty_file-empty.result))
    (Holds 0 c.empty_file-empty.result) cut c.write_at.ensures.crash c.write_at.ensures.tells
    c.in_ok-write_at.ensures.written (λ x y z any torn. tt) in
    record {
      reads = λ s read.
          let from = c.in_ok-write_at.ensures.written s read in
          let empty = c.in_ok-cut.ensures.cut from.0 from.1 in
          made c.empty_file-empty.result (from.0 c.args.file) (s c.args.file) empty.2.changed from.2.changed
          ∙ c.empty_file-empty.ensures ∙ ap (λ (l : List ℕ). l ++ 0 ∷ []) (sym (front-nil c.args.format));
      leaves = written.leaves;
    }

pub returns-in_err-cut-clause-short : goal.returns-in_err-cut-clause-short
returns-in_err-cut-clause-short g c images =
    let disk = c.args.disk.now in
    let begins = starts c.args.file (g.D.Disk.sight disk) (λ _. Short) (g.met.D.Disk.only_now disk) images in
    let cut = goes_with c.args.file (g.D.Disk.sight disk) (λ _. Short) _ (g.D.Disk.sight c.cut.new.self) (CutOrNot 0)
    (CutOrNot 0) begins c.cut.ensures.crash c.cut.ensures.tells c.in_err-cut.ensures.tried
    (λ x y z short cut. short_cut 0 y z short cut) in
    cut.leaves

pub returns-in_err-write_at-clause-short : goal.returns-in_err-write_at-clause-short
returns-in_err-write_at-clause-short g c images =
    let disk = c.args.disk.now in
    let begins = starts c.args.file (g.D.Disk.sight disk) (λ _. Short) (g.met.D.Disk.only_now disk) images in
    let cut = goes_with c.args.file (g.D.Disk.sight disk) (λ _. Short) _ (g.D.Disk.sight c.cut.new.self) (CutOrNot 0)
    (IsCut 0) begins c.cut.ensures.crash c.cut.ensures.tells c.in_ok-cut.ensures.cut
    (λ x y z short cut. short_cut 0 y z short cut) in
    let written = goes_with c.args.file (g.D.Disk.sight disk) (λ _. Short) _ (g.D.Disk.sight c.write_at.new.self)
    (Torn 0 (length c.empty_file-empty.result)) (Torn 0 (length c.empty_file-empty.result)) cut
    c.write_at.ensures.crash c.write_at.ensures.tells c.in_err-write_at.ensures.tried
    (λ x y z short torn. short_torn (length c.empty_file-empty.result) y z
    (nine c.args.format _ c.empty_file-empty.ensures)
    short torn) in
    written.leaves

pub returns-clause-short : goal.returns-clause-short
returns-clause-short g c images =
    let disk = c.args.disk.now in
    let begins = starts c.args.file (g.D.Disk.sight disk) (λ _. Short) (g.met.D.Disk.only_now disk) images in
    let cut = goes_with c.args.file (g.D.Disk.sight disk) (λ _. Short) _ (g.D.Disk.sight c.cut.new.self) (CutOrNot 0)
    (IsCut 0) begins c.cut.ensures.crash c.cut.ensures.tells c.in_ok-cut.ensures.cut
    (λ x y z short cut. short_cut 0 y z short cut) in
    let written = goes_with c.args.file (g.D.Disk.sight disk) (λ _. Short) _ (g.D.Disk.sight c.write_at.new.self)
    (Torn 0 (length c.empty_file-empty.result)) (Holds 0 c.empty_file-empty.result) cut c.write_at.ensures.crash
    c.write_at.ensures.tells
    c.in_ok-write_at.ensures.written (λ x y z short torn. short_torn (length c.empty_file-empty.result) y z
    (nine c.args.format _ c.empty_file-empty.ensures)
    short torn) in
    written.leaves
