-- What is told of an upstream behind an address: how often it failed.
use Rattle.std.specs.Prelude.{ℕ}
use Rattle.sm_agent.specs.declared.link.LinkUpstream.{LinkUpstream}

-- the count of faults
abbrev pub link_faults : {R : Type 0} → LinkUpstream R → ℕ
link_faults upstream = upstream.faults
