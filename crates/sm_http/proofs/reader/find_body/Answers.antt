use Rattle.std.proofs.Common.{arith, refl, subst}
use Rattle.sm_http.specs.declared.answer.Stop.TheVariants as stop
use Rattle.sm_http.specs.Messages.{StartsBadly}
use Rattle.sm_http.proofs.AheadLemmas.{moves_none}
use Rattle.sm_http.proofs.ReaderLemmas.{awaited_len, awaited_head, awaited_partial, awaited_some, awaited_there, found_stays, found_stop}
use Rattle.sm_http.proofs.reader.find_body.Goals as goal

pub take_message-requires-clause-whole : goal.take_message-requires-clause-whole
take_message-requires-clause-whole g c =
    awaited_head _ _ _ _ _ _ _ _ _ c.as_slice.ensures c.requires.within c.in-Whole.ensures.0 c.in-Got.ensures.moves

pub take_message-requires-clause-there : goal.take_message-requires-clause-there
take_message-requires-clause-there g c =
    let len = awaited_len _ _ _ _ _ _ _ _ _ c.as_slice.ensures c.requires.within c.in-Whole.ensures.0
    c.in-Got.ensures.moves in
    omega (arith, len, c.in-Got.ensures.there)

pub returns-in-End-clause-found : goal.returns-in-End-clause-found
returns-in-End-clause-found g c =
    let m = c.in-End.ensures.moves in
    let partial = awaited_partial _ _ _ _ _ _ _ _ _ c.as_slice.ensures c.requires.within c.in-Whole.ensures.0 m
    c.in-End.ensures.missing in
    let some = awaited_some _ _ _ _ _ _ _ _ _ c.as_slice.ensures c.requires.within c.in-Whole.ensures.0 m in
    found_stop _ _ c.args.at (stop.Cut c.len.result) _ _ m (c.len.ensures, omega (arith, some, c.len.ensures), partial)

pub returns-in-Failed-clause-found : goal.returns-in-Failed-clause-found
returns-in-Failed-clause-found g c =
    found_stop _ _ c.args.at stop.ReadFault _ _ c.in-Failed.ensures.moves
    (awaited_partial _ _ _ _ _ _ _ _ _ c.as_slice.ensures c.requires.within c.in-Whole.ensures.0
    c.in-Failed.ensures.moves c.in-Failed.ensures.missing)

pub returns-in-Bad-clause-found : goal.returns-in-Bad-clause-found
returns-in-Bad-clause-found g c =
    found_stop _ _ c.args.at (stop.Bad c.in-Bad.kind c.args.at) _ _ (moves_none _ _ _ refl)
    (refl, subst (λ bytes. StartsBadly bytes c.in-Bad.kind) c.as_slice.ensures c.in-Bad.ensures)

pub returns-in-Got-clause-still : goal.returns-in-Got-clause-still
returns-in-Got-clause-still g c =
    λ whole. c.await_bytes.ensures.still
    (awaited_there _ _ _ _ _ _ c.as_slice.ensures c.requires.within c.in-Whole.ensures.0 whole)

pub returns-in-End-clause-still : goal.returns-in-End-clause-still
returns-in-End-clause-still g c =
    λ whole. c.await_bytes.ensures.still
    (awaited_there _ _ _ _ _ _ c.as_slice.ensures c.requires.within c.in-Whole.ensures.0 whole)

pub returns-in-Failed-clause-still : goal.returns-in-Failed-clause-still
returns-in-Failed-clause-still g c =
    λ whole. c.await_bytes.ensures.still
    (awaited_there _ _ _ _ _ _ c.as_slice.ensures c.requires.within c.in-Whole.ensures.0 whole)

pub returns-in-Memory-clause-still : goal.returns-in-Memory-clause-still
returns-in-Memory-clause-still g c =
    λ whole. c.await_bytes.ensures.still
    (awaited_there _ _ _ _ _ _ c.as_slice.ensures c.requires.within c.in-Whole.ensures.0 whole)

pub returns-in-Got-clause-no_other : goal.returns-in-Got-clause-no_other
returns-in-Got-clause-no_other g c = found_stays _ _ _ c.in-Got.ensures.no_other
