-- An entry that is judged again.
use Rattle.std.specs.Prelude.{ℕ, Bool, true, false, nat_eq, if◌then◌else◌, List, length, Option, Some, None, ⊤}
use Rattle.sm_model.specs.declared.entry.Act.{Act}
use Rattle.sm_model.specs.declared.entry.Act.TheVariants.{Asked, Begun, Reported}
use Rattle.sm_model.specs.declared.entry.Change.{Change}
use Rattle.sm_model.specs.declared.entry.Change.TheVariants.{Nothing}
use Rattle.sm_model.specs.declared.entry.Entry.{Entry}
use Rattle.sm_model.specs.declared.request.Request.{Request}
use Rattle.sm_model.specs.declared.request.Request.TheVariants as requests
use Rattle.sm_model.specs.declared.rows.Rows.{Rows}
use Rattle.sm_model.specs.declared.why.Why.{Why}
use Rattle.sm_model.specs.Needed.{needed}
use Rattle.sm_model.specs.Versions.{When}
use Rattle.sm_forms.specs.Forms.{forms_of}
use Rattle.sm_judge_common.specs.declared.judged.Judged.{Judged}
use Rattle.sm_judge_common.specs.declared.judged.Judged.TheVariants as judged
use Rattle.sm_judge_rotations.specs.Begun.{begun_change}
use Rattle.sm_judge_rotations.specs.Reported.{reported_change}
use Rattle.sm_core.specs.declared.replaying.Replayed.{Replayed}
use Rattle.sm_core.specs.declared.replaying.Replayed.TheVariants.{Accept, Refuse, Memory}
use Rattle.sm_core.specs.Effects.{when_of}
use Rattle.sm_core.specs.Histories.{may_stand}
use Rattle.sm_core.specs.Judging.{judgement, is_of_nobody}

-- the change, or that there is none; none of either where memory is wanted
abbrev pub again_told : Replayed → Option (Option Change)
again_told (Accept change) = Some (Some change)
again_told Refuse = Some None
again_told Memory = None

-- a fact of the change, where there is one
abbrev pub IfReplayed : Replayed → (Change → Type 0) → Type 0
IfReplayed (Accept change) P = P change
IfReplayed Refuse P = ⊤
IfReplayed Memory P = ⊤

-- accepted where this holds, and refused where it does not
abbrev pub AsLegal : Replayed → Type 0 → Type 0
AsLegal (Accept change) L = L
AsLegal Refuse L = L → ⊥
AsLegal Memory L = ⊤

-- the change of what was judged
abbrev pub change_of : Judged → Option Change
change_of (judged.Accept reply change) = change
change_of (judged.Refuse why) = None
change_of judged.Memory = None

-- the change of what was judged, and none of the forced deletion of a secret that is not there
abbrev pub change_asked : Rows → When → List ℕ → Request → Option Change
change_asked rows when drawn request =
    if is_of_nobody rows when.moment request then Some Nothing else change_of (judgement rows when drawn request)

abbrev pub is_deletion : Request → Bool
is_deletion (requests.DeleteSecret delete) = true
is_deletion _ = false

-- the change, or where a deletion has none, that it changes nothing
abbrev pub or_nothing : Bool → Option Change → Option Change
or_nothing deletes (Some change) = Some change
or_nothing true None = Some Nothing
or_nothing false None = None

-- the change of what was judged; a deletion that is accepted without one changes nothing
abbrev pub change_kept : Bool → Judged → Option Change
change_kept deletes (judged.Accept reply change) = or_nothing deletes change
change_kept deletes (judged.Refuse why) = None
change_kept deletes judged.Memory = None

-- the change of a request whose forms pass
abbrev pub change_unless : Option Why → Option Change → Option Change
change_unless None change = change
change_unless (Some why) change = None

-- the change of a request with as many random bytes as it needs
abbrev pub replayed_request : Rows → When → List ℕ → Request → Option Change
replayed_request rows when drawn request =
    if nat_eq (length drawn) (needed request)
    then change_unless (forms_of request) (change_asked rows when drawn request) else None

abbrev pub replayed_act : Rows → When → List ℕ → Act → Option Change
replayed_act rows when drawn (Asked request) = replayed_request rows when drawn request
replayed_act rows when drawn (Begun arn) = begun_change rows when drawn arn
replayed_act rows when drawn (Reported arn at answer) =
    if nat_eq (length drawn) 0 then reported_change rows when arn at answer else None

-- the change of an entry, where it is legal at the rows
abbrev pub replayed : Rows → Entry → Option Change
replayed rows entry =
    if may_stand entry then replayed_act rows (when_of entry) entry.drawn entry.act else None
