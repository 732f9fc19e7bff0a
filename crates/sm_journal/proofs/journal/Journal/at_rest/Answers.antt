use Rattle.std.proofs.Common.{None, refl, arith}
use Rattle.sm_journal.specs.declared.tail.Tail.TheVariants.{Sure}
use Rattle.sm_journal.proofs.StandsLemmas.{ends_either}
use Rattle.sm_journal.proofs.journal.Journal.at_rest.Goals as goal

pub returns-clause-opened : goal.returns-clause-opened
returns-clause-opened g c bodies at within rests = record {
  stands = record {
    length = omega (arith, at);
    within = within;
    last = tt;
    recovers = λ image was. ends_either c.args.format Sure bodies None within tt _ (rests image was);
    ends = rests;
  };
  sure = refl;
  in_file = refl;
  under = refl;
}
