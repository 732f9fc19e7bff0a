-- What a base and entries make with more entries, and when they are lawful.
use Rattle.std.proofs.Common.{◌≡◌, ◌+◌, ◌≤◌, List, [], ◌∷◌, ◌++◌, length, ap, ◌∙◌}
use Rattle.sm_base.specs.declared.moment.TheConstants.{LAST_READING}
use Rattle.sm_core.specs.Histories.{InTime, Legal, last_moment, replay}
use Rattle.sm_model.specs.declared.entry.Entry.{Entry}
use Rattle.sm_recovery.specs.Lawful.{IsLawful, MayFollow, base_under, made_of}
use Rattle.sm_record.specs.declared.base.Base.{Base}
use Rattle.sm_recovery.specs.Following.{after_all, after_entry}
use Rattle.sm_recovery.proofs.FollowLemmas.{after_count, after_joined, after_last, after_rows, come_more}
use Rattle.sm_store.specs.Held.{Held, with_entry}
use Rattle.sm_account.specs.AccountState.{with_entries}

module _ (h : Held) (own : List Entry) where
  made_on : made_of (with_entries h own) ≡ after_all (made_of h) own
  made_on = after_joined (base_under h.base) h.entries own

  -- the rows, the last moment and the count, each by itself
  pub made_rows : (made_of (with_entries h own)).rows ≡ replay (made_of h).rows own
  made_rows = ap (λ (b : Base). b.rows) made_on ∙ after_rows (made_of h) own

  pub made_last : (made_of (with_entries h own)).last ≡ last_moment (made_of h).last own
  made_last = ap (λ (b : Base). b.last) made_on ∙ after_last (made_of h) own

  pub made_count : (made_of (with_entries h own)).entries ≡ (made_of h).entries + length own
  made_count = ap (λ (b : Base). b.entries) made_on ∙ after_count (made_of h) own

-- the moments of entries, by their parts
pub timely_more : (entries : List Entry) (entry : Entry) → InTime entries → entry.moment.0 ≤ LAST_READING
    → InTime (entries ++ entry ∷ [])
timely_more [] entry timely early = (early, tt)
timely_more (e ∷ es) entry timely early = (timely.0, timely_more es entry timely.1 early)

pub timely_front : (entries others : List Entry) → InTime (entries ++ others) → InTime entries
timely_front [] others timely = tt
timely_front (e ∷ es) others timely = (timely.0, timely_front es others timely.1)

pub timely_back : (entries others : List Entry) → InTime (entries ++ others) → InTime others
timely_back [] others timely = timely
timely_back (e ∷ es) others timely = timely_back es others timely.1

-- the later ones of legal entries are legal behind what the earlier ones make
pub legal_behind : (base : Base) (entries others : List Entry) → Legal base.rows base.last (entries ++ others)
    → Legal (after_all base entries).rows (after_all base entries).last others
legal_behind base [] others legal = legal
legal_behind base (e ∷ es) others legal = legal_behind (after_entry base e) es others legal.2

-- what is lawful goes on with an entry that may follow
pub lawful_more : (h : Held) (entry : Entry) → IsLawful h → MayFollow h entry → entry.moment.0 ≤ LAST_READING
    → IsLawful (with_entry h entry)
lawful_more h entry lawful may early = record {
  sound = lawful.sound;
  come = come_more (base_under h.base) h.entries entry lawful.come may;
  timely = timely_more h.entries entry lawful.timely early;
}
