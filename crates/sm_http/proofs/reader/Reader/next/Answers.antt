use Rattle.std.proofs.Common.{sym, subst}
use Rattle.sm_http.specs.Messages.{IsPartial}
use Rattle.sm_http.specs.Reading.{ReaderState}
use Rattle.sm_http.proofs.ReaderLemmas.{reads_stop, stop_answered}
use Rattle.sm_http.proofs.reader.Reader.next.Goals as goal

pub returns-in-Stop-clause-reads : goal.returns-in-Stop-clause-reads
returns-in-Stop-clause-reads g c =
    rw (← c.self.view_is, c.stopped-in-Stop.ensures)
    (reads_stop _ c.find_message.new.ahead c.in-Stop.why _ _ c.in-None.is c.in-Stop.ensures.found)

pub returns-in-Message-clause-waits : goal.returns-in-Message-clause-waits
returns-in-Message-clause-waits g c =
    λ there. c.find_message.ensures.still
    (subst (λ (s : ReaderState). IsPartial s.ahead → ⊥) (sym c.self.view_is) there)

pub returns-in-Stop-clause-waits : goal.returns-in-Stop-clause-waits
returns-in-Stop-clause-waits g c =
    λ there. c.find_message.ensures.still
    (subst (λ (s : ReaderState). IsPartial s.ahead → ⊥) (sym c.self.view_is) there)

pub returns-in-Stop-clause-no_other : goal.returns-in-Stop-clause-no_other
returns-in-Stop-clause-no_other g c =
    rw (c.stopped-in-Stop.ensures) (stop_answered c.in-Stop.why _ _ c.in-Stop.ensures.no_other)
