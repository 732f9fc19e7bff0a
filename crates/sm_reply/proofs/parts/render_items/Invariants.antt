use Rattle.std.proofs.Common.{◌≡◌, drop}
use Rattle.sm_reply.specs.Tokens.{items_behind}
use Rattle.sm_reply.proofs.parts.render_items.Given as goal

-- the items to come go behind those so far
abbrev pub invariant-loop-part : goal.invariant-loop-part
invariant-loop-part g l = items_behind g.T.Render.shows (drop l.part-index l.parts) l.out
    ≡ items_behind g.T.Render.shows l.parts l.initial.out
