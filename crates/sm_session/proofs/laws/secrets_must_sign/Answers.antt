use Rattle.sm_session.proofs.SigningLemmas.{refuses_unsigned, hears_signed, hears_one_key}
use Rattle.sm_session.proofs.laws.secrets_must_sign.Goals as goal

pub returns : goal.returns
returns c = record { refused = refuses_unsigned; signed = hears_signed; one_key = hears_one_key }
