use Rattle.std.proofs.Common.{◌≤◌, length, ap, arith, sym}
use Rattle.sm_record.specs.Spelling.{spelling, HasSpelling}
use Rattle.sm_record.specs.declared.edition.Edition.TheVariants.{Second}
use Rattle.sm_encoded_size.proofs.SpelledLaws.{entry_size, entry_fits}
use Rattle.sm_encoded_size.proofs.spelling.spell.Goals as goal

pub encode-requires : goal.encode-requires
encode-requires c =
    entry_fits c.args.entry.now c.note_act.ensures c.requires.act c.requires.bound c.note_asker.ensures.caller
    c.note_asker.ensures.by

pub returns : goal.returns
returns c =
    let fits : HasSpelling Second c.args.entry.now = entry_fits c.args.entry.now c.note_act.ensures c.requires.act
    c.requires.bound c.note_asker.ensures.caller c.note_asker.ensures.by in
    let size : length (spelling Second c.args.entry.now) ≤ 1048576 = entry_size c.args.entry.now c.note_act.ensures
    c.requires.act in
    ((fits, sym c.in_ok-ready.ensures), omega (arith, size, ap length c.in_ok-ready.ensures))
