use Rattle.std.proofs.Common.{◌≡◌, [], ◌∷◌, ◌++◌, length, Some, None, refl, arith}
use Rattle.sm_disk.specs.OneFile.{EachHas}
use Rattle.sm_journal.specs.Records.{front, entry_of, AtRest, Loose, Gated, RecoversEither}
use Rattle.sm_journal.proofs.Front.{length-front, size-push, within-push}
use Rattle.sm_journal.proofs.StandsLemmas.{loose_either, gated_either, ends_either, whole, opened, sure_ends, closed_gated, now_has, less, both, at_err}
use Rattle.sm_journal.specs.declared.tail.Tail.TheVariants.{Sure}
use Rattle.sm_journal.proofs.journal.Journal.write.Goals as goal

pub returns-in_err-stage-clause-any_moment : goal.returns-in_err-stage-clause-any_moment
returns-in_err-stage-clause-any_moment g c bodies stands =
    let journal = c.args.self.now in
    let body = c.args.body.now in
    let at : journal.gate ≡ length (front journal.format bodies) =
    omega (arith, stands.length, length-front journal.format bodies) in
    let rest : EachHas journal.file (AtRest (front journal.format bodies)) (g.D.Disk.sight journal.disk).images =
    λ image was. sure_ends journal.format journal.tail bodies None c.requires.sure (image journal.file)
    (stands.ends image was) in
    let staging = c.stage.ensures.run (front journal.format bodies) at rest in
    less journal.file (Loose (front journal.format bodies)) (RecoversEither journal.format bodies (Some body)) _ _
    (loose_either journal.format bodies (Some body) stands.within) staging

pub returns-in_err-set_gate-clause-any_moment : goal.returns-in_err-set_gate-clause-any_moment
returns-in_err-set_gate-clause-any_moment g c bodies stands =
    let journal = c.args.self.now in
    let body = c.args.body.now in
    let at : journal.gate ≡ length (front journal.format bodies) =
    omega (arith, stands.length, length-front journal.format bodies) in
    let rest : EachHas journal.file (AtRest (front journal.format bodies)) (g.D.Disk.sight journal.disk).images =
    λ image was. sure_ends journal.format journal.tail bodies None c.requires.sure (image journal.file)
    (stands.ends image was) in
    let staging = c.stage.ensures.run (front journal.format bodies) at rest in
    let staged : EachHas journal.file (Gated (front journal.format bodies) (entry_of body ++ 0 ∷ []))
    (g.D.Disk.sight c.stage.new.disk).images = λ image was.
    closed_gated _ _ _ (c.in_ok-stage.ensures.staged (front journal.format bodies) at rest image was) in
    let setting = c.set_gate.ensures.run (front journal.format bodies) (entry_of body ++ 0 ∷ []) at staged in
    both journal.file (Loose (front journal.format bodies))
    (Gated (front journal.format bodies) (entry_of body ++ 0 ∷ []))
    (RecoversEither journal.format bodies (Some body)) _ _ _
    (loose_either journal.format bodies (Some body) stands.within)
    (gated_either journal.format bodies body stands.within c.requires.room.0) staging setting

pub returns-clause-any_moment : goal.returns-clause-any_moment
returns-clause-any_moment g c bodies stands =
    let journal = c.args.self.now in
    let body = c.args.body.now in
    let at : journal.gate ≡ length (front journal.format bodies) =
    omega (arith, stands.length, length-front journal.format bodies) in
    let rest : EachHas journal.file (AtRest (front journal.format bodies)) (g.D.Disk.sight journal.disk).images =
    λ image was. sure_ends journal.format journal.tail bodies None c.requires.sure (image journal.file)
    (stands.ends image was) in
    let staging = c.stage.ensures.run (front journal.format bodies) at rest in
    let staged : EachHas journal.file (Gated (front journal.format bodies) (entry_of body ++ 0 ∷ []))
    (g.D.Disk.sight c.stage.new.disk).images = λ image was.
    closed_gated _ _ _ (c.in_ok-stage.ensures.staged (front journal.format bodies) at rest image was) in
    let setting = c.set_gate.ensures.run (front journal.format bodies) (entry_of body ++ 0 ∷ []) at staged in
    both journal.file (Loose (front journal.format bodies))
    (Gated (front journal.format bodies) (entry_of body ++ 0 ∷ []))
    (RecoversEither journal.format bodies (Some body)) _ _ _
    (loose_either journal.format bodies (Some body) stands.within)
    (gated_either journal.format bodies body stands.within c.requires.room.0) staging setting

pub returns-in_err-stage-clause-err : goal.returns-in_err-stage-clause-err
returns-in_err-stage-clause-err g c = at_err c.from_residual.result (
  refl,
  λ bodies stands.
      let journal = c.args.self.now in
      let body = c.args.body.now in
      let at : journal.gate ≡ length (front journal.format bodies) =
      omega (arith, stands.length, length-front journal.format bodies) in
      let rest : EachHas journal.file (AtRest (front journal.format bodies)) (g.D.Disk.sight journal.disk).images =
      λ image was. sure_ends journal.format journal.tail bodies None c.requires.sure (image journal.file)
      (stands.ends image was)
      in
      let staging = c.stage.ensures.run (front journal.format bodies) at rest in
      let loose = now_has journal.file (Loose (front journal.format bodies))
      (Loose (front journal.format bodies)) _ _ staging in
      record {
        length = stands.length;
        within = stands.within;
        last = c.requires.room.0;
        recovers = λ image was. loose_either journal.format bodies (Some body) stands.within _ (loose image was);
        ends = loose;
      },
)

pub returns-in_err-set_gate-clause-err : goal.returns-in_err-set_gate-clause-err
returns-in_err-set_gate-clause-err g c = at_err c.from_residual-in_err-set_gate.result (
  refl,
  λ bodies stands.
      let journal = c.args.self.now in
      let body = c.args.body.now in
      let at : journal.gate ≡ length (front journal.format bodies) =
      omega (arith, stands.length, length-front journal.format bodies) in
      let rest : EachHas journal.file (AtRest (front journal.format bodies)) (g.D.Disk.sight journal.disk).images =
      λ image was. sure_ends journal.format journal.tail bodies None c.requires.sure (image journal.file)
      (stands.ends image was)
      in
      let staging = c.stage.ensures.run (front journal.format bodies) at rest in
      let staged : EachHas journal.file (Gated (front journal.format bodies) (entry_of body ++ 0 ∷ []))
      (g.D.Disk.sight c.stage.new.disk).images = λ image was.
      closed_gated _ _ _ (c.in_ok-stage.ensures.staged (front journal.format bodies) at rest image was) in
      let setting = c.set_gate.ensures.run (front journal.format bodies) (entry_of body ++ 0 ∷ []) at staged in
      let gated = now_has journal.file (Gated (front journal.format bodies) (entry_of body ++ 0 ∷ []))
      (Gated (front journal.format bodies) (entry_of body ++ 0 ∷ [])) _ _ setting in
      record {
        length = stands.length;
        within = stands.within;
        last = c.requires.room.0;
        recovers = λ image was. gated_either journal.format bodies body stands.within c.requires.room.0 _
            (gated image was);
        ends = gated;
      },
)

pub returns-clause-ok : goal.returns-clause-ok
returns-clause-ok g c = (
  refl,
  λ bodies stands.
      let journal = c.args.self.now in
      let body = c.args.body.now in
      let at : journal.gate ≡ length (front journal.format bodies) =
      omega (arith, stands.length, length-front journal.format bodies) in
      let rest : EachHas journal.file (AtRest (front journal.format bodies)) (g.D.Disk.sight journal.disk).images =
      λ image was. sure_ends journal.format journal.tail bodies None c.requires.sure (image journal.file)
      (stands.ends image was)
      in
      let staging = c.stage.ensures.run (front journal.format bodies) at rest in
      let staged : EachHas journal.file (Gated (front journal.format bodies) (entry_of body ++ 0 ∷ []))
      (g.D.Disk.sight c.stage.new.disk).images = λ image was.
      closed_gated _ _ _ (c.in_ok-stage.ensures.staged (front journal.format bodies) at rest image was) in
      let setting = c.set_gate.ensures.run (front journal.format bodies) (entry_of body ++ 0 ∷ []) at staged in
      let within = within-push bodies body stands.within c.requires.room.0 in
      let rests : EachHas journal.file (AtRest (front journal.format (bodies ++ body ∷ [])))
      (g.D.Disk.sight c.set_gate.new.disk).images =
      λ image was. opened journal.format bodies body _
      (c.in_ok-set_gate.ensures.set (front journal.format bodies) (entry_of body ++ 0 ∷ []) at staged image was) in (
        record {
          length = omega (arith, stands.length, size-push bodies body);
          within = within;
          last = tt;
          recovers = λ image was. ends_either journal.format Sure (bodies ++ body ∷ []) None within tt _
              (rests image was);
          ends = rests;
        },
        λ image was. whole journal.format bodies body _ (c.in_ok-set_gate.ensures.set (front journal.format bodies)
            (entry_of body ++ 0 ∷ []) at staged image was),
      ),
)
