use Rattle.std.proofs.Common.{◌∙◌, subst}
use Rattle.std.proofs.lemmas.Result.{IfOk-weaker}
use Rattle.clap.specs.Words.{FailsBy, Kinds}
use Rattle.sm_command_line.proofs.PlaceLemmas.{fault_of-app, is_simple-app, is_simple_and_free-app, matches_of-app}
use Rattle.sm_command_line.proofs.reading.parse.Goals as goal

pub returns : goal.returns
returns c =
    let is = c.in_ok-command.ensures in
    let parsed = c.try_get_matches_from in
    record {
      faults = subst (λ (kinds : Kinds). FailsBy kinds parsed.result) (fault_of-app _ _ is)
          (parsed.ensures.kinds (is_simple_and_free-app _ is));
      found = IfOk-weaker parsed.result _ _ (λ matches has. (has (is_simple-app _ is)).0 ∙ matches_of-app _ _ is)
          parsed.ensures.matches;
    }
