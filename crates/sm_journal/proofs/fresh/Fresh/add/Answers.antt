use Rattle.std.proofs.Common.{◌≡◌, ℕ, List, [], ◌∷◌, ◌++◌, length, refl, sym, ◌∙◌, ap, arith}
use Rattle.sm_journal.specs.Records.{front}
use Rattle.sm_journal.specs.declared.format.Format.TheVariants.{Second}
use Rattle.sm_journal.proofs.Front.{length-front, front-push, size-push, within-push}
use Rattle.sm_journal.proofs.fresh.Fresh.add.Goals as goal

pub returns-clause-ok : goal.returns-clause-ok
returns-clause-ok g c = (
  refl,
  omega (arith, c.record_size.ensures),
  λ bodies makes.
      let body = c.args.body.now in
      let at : c.args.self.now.gate ≡ length (front Second bodies) =
      omega (arith, makes.length, length-front Second bodies) in
      record {
        length = omega (arith, makes.length, c.record_size.ensures, size-push bodies body);
        within = within-push bodies body makes.within c.requires.within;
        reads = λ s read. c.in_ok-extend.ensures.extended (front Second bodies) at makes.reads s read
            ∙ ap (λ (l : List ℕ). l ++ 0 ∷ []) (sym (front-push Second bodies body));
      },
)
