-- What replies show.
use Rattle.std.specs.Prelude.{Option, None, Some}
use Rattle.sm_model.specs.declared.reply.GotSecret.{GotSecret}
use Rattle.sm_model.specs.declared.reply.Reply.{Reply}
use Rattle.sm_model.specs.declared.reply.Reply.TheVariants as replies

-- the value that a reply to GetSecretValue shows
abbrev pub shown_value : Reply → Option GotSecret
shown_value (replies.GetSecretValue got) = Some got
shown_value _ = None
