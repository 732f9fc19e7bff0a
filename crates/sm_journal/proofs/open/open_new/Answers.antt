use Rattle.std.proofs.Common.{◌≡◌, ℕ, List, [], refl, sym, subst}
use Rattle.sm_disk.specs.OneFile.{EachHas}
use Rattle.sm_journal.specs.Records.{Whole}
use Rattle.sm_journal.specs.Journals.{IsOpened}
use Rattle.sm_journal.proofs.StandsLemmas.{whole_rests}
use Rattle.sm_journal.proofs.open.open_new.Goals as goal

pub returns-in-Ok-clause-opened : goal.returns-in-Ok-clause-opened
returns-in-Ok-clause-opened g c =
    let opened = c.at_rest-journal.ensures.opened [] refl tt
    (λ image was. whole_rests c.args.format [] (image c.args.file) (c.in-Ok.ensures.whole image was)) in
    subst (λ (bodies : List (List ℕ)). IsOpened c.args.file c.args.limit bodies c.at_rest-journal.result)
    (sym c.empty.ensures) opened

pub returns-in-Ok-clause-whole : goal.returns-in-Ok-clause-whole
returns-in-Ok-clause-whole g c image was =
    let journal = c.at_rest-journal in
    subst (λ file. Whole journal.result.format [] (image file)) (sym journal.ensures.file)
    (subst (λ format. Whole format [] (image c.args.file)) (sym journal.ensures.format)
    (c.in-Ok.ensures.whole image (subst (λ disk. (g.D.Disk.sight disk).images image) journal.ensures.disk was)))
