use Rattle.std.proofs.Common.{◌≡◌, None, length, refl, ap, arith}
use Rattle.sm_disk.specs.OneFile.{EachHas}
use Rattle.sm_journal.specs.Records.{front, AtRest, Loose, RecoversEither}
use Rattle.sm_journal.specs.Tails.{is_unsure_tail}
use Rattle.sm_journal.specs.declared.tail.Tail.TheVariants.{Sure}
use Rattle.sm_journal.proofs.Front.{length-front}
use Rattle.sm_journal.proofs.StandsLemmas.{body_loose, loose_body, loose_either, ends_either, now_has, less, at_err}
use Rattle.sm_journal.proofs.journal.Journal.cut_tail.Goals as goal

pub returns-in_err-cut_behind-clause-any_moment : goal.returns-in_err-cut_behind-clause-any_moment
returns-in_err-cut_behind-clause-any_moment g c bodies failed stands =
    let journal = c.args.self.now in
    let at : journal.gate ≡ length (front journal.format bodies) =
    omega (arith, stands.length, length-front journal.format bodies) in
    let loose : EachHas journal.file (Loose (front journal.format bodies)) (g.D.Disk.sight journal.disk).images =
    λ image was. body_loose journal.format bodies journal.tail failed c.requires (image journal.file)
    (stands.ends image was) in
    less journal.file (Loose (front journal.format bodies)) (RecoversEither journal.format bodies failed) _ _
    (loose_either journal.format bodies failed stands.within)
    (c.cut_behind.ensures.run (front journal.format bodies) at loose)

pub returns-clause-any_moment : goal.returns-clause-any_moment
returns-clause-any_moment g c bodies failed stands =
    let journal = c.args.self.now in
    let at : journal.gate ≡ length (front journal.format bodies) =
    omega (arith, stands.length, length-front journal.format bodies) in
    let loose : EachHas journal.file (Loose (front journal.format bodies)) (g.D.Disk.sight journal.disk).images =
    λ image was. body_loose journal.format bodies journal.tail failed c.requires (image journal.file)
    (stands.ends image was) in
    less journal.file (Loose (front journal.format bodies)) (RecoversEither journal.format bodies failed) _ _
    (loose_either journal.format bodies failed stands.within)
    (c.cut_behind.ensures.run (front journal.format bodies) at loose)

pub returns-in_err-cut_behind-clause-err : goal.returns-in_err-cut_behind-clause-err
returns-in_err-cut_behind-clause-err g c = at_err c.from_residual.result (
  ap is_unsure_tail c.requires,
  λ bodies failed stands.
      let journal = c.args.self.now in
      let at : journal.gate ≡ length (front journal.format bodies) =
      omega (arith, stands.length, length-front journal.format bodies) in
      let loose : EachHas journal.file (Loose (front journal.format bodies)) (g.D.Disk.sight journal.disk).images =
      λ image was. body_loose journal.format bodies journal.tail failed c.requires (image journal.file)
      (stands.ends image was) in
      let now = now_has journal.file (Loose (front journal.format bodies)) (Loose (front journal.format bodies)) _ _
      (c.cut_behind.ensures.run (front journal.format bodies) at loose) in
      record {
        length = stands.length;
        within = stands.within;
        last = stands.last;
        recovers = λ image was. loose_either journal.format bodies failed stands.within _ (now image was);
        ends = λ image was. loose_body journal.format bodies journal.tail failed c.requires _ (now image was);
      },
)

pub returns-clause-ok : goal.returns-clause-ok
returns-clause-ok g c = (
  refl,
  λ bodies failed stands.
      let journal = c.args.self.now in
      let at : journal.gate ≡ length (front journal.format bodies) =
      omega (arith, stands.length, length-front journal.format bodies) in
      let loose : EachHas journal.file (Loose (front journal.format bodies)) (g.D.Disk.sight journal.disk).images =
      λ image was. body_loose journal.format bodies journal.tail failed c.requires (image journal.file)
      (stands.ends image was) in
      let rests : EachHas journal.file (AtRest (front journal.format bodies))
      (g.D.Disk.sight c.cut_behind.new.disk).images =
      c.in_ok-cut_behind.ensures.cut (front journal.format bodies) at loose in
      record {
        length = stands.length;
        within = stands.within;
        last = tt;
        recovers = λ image was. ends_either journal.format Sure bodies None stands.within tt _ (rests image was);
        ends = rests;
      },
)
