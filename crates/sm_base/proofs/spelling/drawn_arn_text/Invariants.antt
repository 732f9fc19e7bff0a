use Rattle.std.proofs.Common.{◌≡◌, ◌++◌, map, take, codes, string_bytes}
use Rattle.sm_base.specs.Drawn.{suffix_character}
use Rattle.sm_base.proofs.spelling.drawn_arn_text.Given as goal

abbrev pub invariant-loop-byte : goal.invariant-loop-byte
invariant-loop-byte l =
    string_bytes l.text
    ≡ codes "arn:aws:secretsmanager:us-east-1:000000000000:secret:"
    ++ (l.name ++ (codes "-" ++ map suffix_character (take l.byte-index l.six)))
