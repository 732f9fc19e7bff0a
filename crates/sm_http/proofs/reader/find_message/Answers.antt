use Rattle.std.proofs.Common.{◌∙◌, inl, subst, sym}
use Rattle.sm_http.specs.Messages.{IsPartial}
use Rattle.sm_http.proofs.ReaderLemmas.{found_later, found_since}
use Rattle.sm_http.proofs.reader.find_message.Goals as goal

pub returns-in-Head-clause-found : goal.returns-in-Head-clause-found
returns-in-Head-clause-found g c =
    found_later _ _ _ _ _ _ _ _ c.in-Head.ensures.moves c.find_body.ensures.found

pub returns-in-Head-clause-still : goal.returns-in-Head-clause-still
returns-in-Head-clause-still g c =
    λ whole. let stays = c.seek_head.ensures.still (λ lacks. whole (inl lacks)) in
    c.find_body.ensures.still (subst (λ bytes. IsPartial bytes → ⊥) (sym stays.1) whole) ∙ stays.0

pub returns-in-TooLong-clause-still : goal.returns-in-TooLong-clause-still
returns-in-TooLong-clause-still g c = λ whole. (c.seek_head.ensures.still (λ lacks. whole (inl lacks))).0

pub returns-in-Failed-clause-still : goal.returns-in-Failed-clause-still
returns-in-Failed-clause-still g c = λ whole. (c.seek_head.ensures.still (λ lacks. whole (inl lacks))).0

pub returns-in-Memory-clause-still : goal.returns-in-Memory-clause-still
returns-in-Memory-clause-still g c = λ whole. (c.seek_head.ensures.still (λ lacks. whole (inl lacks))).0

pub returns-else-len-eq0-clause-still : goal.returns-else-len-eq0-clause-still
returns-else-len-eq0-clause-still g c = λ whole. (c.seek_head.ensures.still (λ lacks. whole (inl lacks))).0

pub returns-in-Head-clause-no_other : goal.returns-in-Head-clause-no_other
returns-in-Head-clause-no_other g c =
    found_since _ _ _ _ c.in-Head.ensures.no_other c.find_body.ensures.no_other
