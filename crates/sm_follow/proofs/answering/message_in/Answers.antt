use Rattle.std.proofs.Common.{Some}
use Rattle.std.specs.Io.KnownBytes.{IsAtEnd}
use Rattle.sm_follow.proofs.HearLemmas.{ended_now, hears_message, hears_no_bad, hears_no_cut, hears_no_end}
use Rattle.sm_follow.proofs.answering.message_in.Goals as goal

pub returns-in-Message : goal.returns-in-Message
returns-in-Message c =
    hears_message c.args.bytes.now _ c.next.new.source.rest c.new-reader.result c.next.new.self _
    c.in_ok-copy.ensures c.new-reader.ensures c.new-source.ensures.left c.in-Message.message c.in-Message.ensures.reads

pub unreachable-requires : goal.unreachable-requires
unreachable-requires c =
    hears_no_bad c.args.bytes.now _ c.next.new.source.rest c.new-reader.result c.next.new.self _
    c.in_ok-copy.ensures c.new-reader.ensures c.new-source.ensures.left _ _ c.requires c.in-Bad.ensures.reads

pub unreachable-requires-in-End : goal.unreachable-requires-in-End
unreachable-requires-in-End c =
    hears_no_end c.args.bytes.now _ c.next.new.source.rest c.new-reader.result c.next.new.self _
    c.in_ok-copy.ensures c.new-reader.ensures c.new-source.ensures.left c.requires c.in-End.ensures.reads
    (ended_now c.new-reader.result (IsAtEnd (Some c.next.new.source.rest)) c.new-reader.ensures c.in-End.ensures.end)

pub unreachable-requires-in-Cut : goal.unreachable-requires-in-Cut
unreachable-requires-in-Cut c =
    hears_no_cut c.args.bytes.now _ c.next.new.source.rest c.new-reader.result c.next.new.self _
    c.in_ok-copy.ensures c.new-reader.ensures c.new-source.ensures.left _ c.requires c.in-Cut.ensures.reads
    (ended_now c.new-reader.result (IsAtEnd (Some c.next.new.source.rest)) c.new-reader.ensures c.in-Cut.ensures.end)
