use Rattle.std.proofs.Common.{◌≡◌, ◌++◌, drop, string_bytes}
use Rattle.sm_sigv4.specs.Outcomes.{more_names}
use Rattle.sm_sigv4.proofs.signing.with_more_names.Given as goal

-- the names so far stand behind the text
abbrev pub invariant-loop-name : goal.invariant-loop-name
invariant-loop-name l = string_bytes l.whole ++ more_names (drop l.name-index l.names)
    ≡ string_bytes l.fn.text ++ more_names l.names
