-- Entries that follow a base.
use Rattle.std.proofs.Common.{◌≡◌, ℕ, zero, suc, ◌+◌, ◌<◌, ◌≤◌, List, [], ◌∷◌, ◌++◌, length, take, get_or, refl, sym, ap, subst, ◌∙◌, arith, length-append}
use Rattle.std.proofs.lemmas.List.{take_more, take_all}
use Rattle.sm_base.specs.declared.moment.Moment.{Moment}
use Rattle.sm_base.specs.declared.moment.TheConstants.{LAST_READING}
use Rattle.sm_model.specs.declared.entry.Entry.{Entry}
use Rattle.sm_model.specs.declared.rows.Rows.{Rows}
use Rattle.sm_record.specs.declared.base.Base.{Base}
use Rattle.sm_core.specs.Effects.{effect}
use Rattle.sm_core.specs.Histories.{replay, last_moment, LegalEntry, Legal, InTime}
use Rattle.sm_base_check.specs.Bases.{IsSound}
use Rattle.sm_recovery.specs.Following.{origin, after_entry, after_all, entries_limit, MayCome, StopsAfter}

-- ---- before all entries

pub nothing_sound : IsSound origin
nothing_sound = record {
  rows = record { serials = refl; names = refl; count = omega arith; each = tt };
  last = omega arith;
}

-- ---- what entries make

pub after_more : (base : Base) (entries : List Entry) (entry : Entry)
    → after_all base (entries ++ entry ∷ []) ≡ after_entry (after_all base entries) entry
after_more base [] entry = refl
after_more base (e ∷ es) entry = after_more (after_entry base e) es entry

pub after_joined : (base : Base) (entries others : List Entry)
    → after_all base (entries ++ others) ≡ after_all (after_all base entries) others
after_joined base [] others = refl
after_joined base (e ∷ es) others = after_joined (after_entry base e) es others

-- the rows, the last moment and the count, each by itself
pub after_rows : (base : Base) (entries : List Entry) → (after_all base entries).rows ≡ replay base.rows entries
after_rows base [] = refl
after_rows base (e ∷ es) = after_rows (after_entry base e) es

pub after_last : (base : Base) (entries : List Entry) → (after_all base entries).last ≡ last_moment base.last entries
after_last base [] = refl
after_last base (e ∷ es) = after_last (after_entry base e) es

pub after_count : (base : Base) (entries : List Entry)
    → (after_all base entries).entries ≡ base.entries + length entries
after_count base [] = omega arith
after_count base (e ∷ es) = omega (arith, after_count (after_entry base e) es)

-- ---- which entries may come

pub none_come : (base : Base) → base.entries ≤ entries_limit → MayCome base []
none_come base h = record { legal = tt; counted = omega (arith, h) }

legal_more : (rows : Rows) (before : Moment) (entries : List Entry) (entry : Entry) → Legal rows before entries
    → (last_moment before entries).0 ≤ entry.moment.0 → LegalEntry (replay rows entries) entry
    → Legal rows before (entries ++ entry ∷ [])
legal_more rows before [] entry legal later at = (later, at, tt)
legal_more rows before (e ∷ es) entry legal later at =
    (legal.0, legal.1, legal_more (effect rows e) e.moment es entry legal.2 later at)

legal_front : (rows : Rows) (before : Moment) (entries others : List Entry) → Legal rows before (entries ++ others)
    → Legal rows before entries
legal_front rows before [] others legal = tt
legal_front rows before (e ∷ es) others legal =
    (legal.0, legal.1, legal_front (effect rows e) e.moment es others legal.2)

legal_last : (rows : Rows) (before : Moment) (entries : List Entry) (entry : Entry)
    → Legal rows before (entries ++ entry ∷ [])
    → ((last_moment before entries).0 ≤ entry.moment.0) × LegalEntry (replay rows entries) entry
legal_last rows before [] entry legal = (legal.0, legal.1)
legal_last rows before (e ∷ es) entry legal = legal_last (effect rows e) e.moment es entry legal.2

-- one entry may come
pub one_comes : (base : Base) (entry : Entry) → base.last.0 ≤ entry.moment.0 → LegalEntry base.rows entry
    → base.entries < entries_limit → MayCome base (entry ∷ [])
one_comes base entry later legal counted =
    record { legal = (later, legal, tt); counted = omega (arith, counted) }

-- one more may come behind those that may
pub come_more : (base : Base) (entries : List Entry) (entry : Entry) → MayCome base entries
    → MayCome (after_all base entries) (entry ∷ []) → MayCome base (entries ++ entry ∷ [])
come_more base entries entry come next = record {
  legal = legal_more base.rows base.last entries entry come.legal
      (subst (λ (m : Moment). m.0 ≤ entry.moment.0) (after_last base entries) next.legal.0)
      (subst (λ (rows : Rows). LegalEntry rows entry) (after_rows base entries) next.legal.1);
  counted = omega (arith, next.counted, after_count base entries, length-append entries (entry ∷ []));
}

-- the last of entries that may come may come behind the others
pub come_last : (base : Base) (entries : List Entry) (entry : Entry) → MayCome base (entries ++ entry ∷ [])
    → MayCome (after_all base entries) (entry ∷ [])
come_last base entries entry come =
    let last = legal_last base.rows base.last entries entry come.legal in
    record {
      legal = (
        subst (λ (m : Moment). m.0 ≤ entry.moment.0) (sym (after_last base entries)) last.0,
        subst (λ (rows : Rows). LegalEntry rows entry) (sym (after_rows base entries)) last.1,
        tt,
      );
      counted = omega (arith, come.counted, after_count base entries, length-append entries (entry ∷ []));
    }

pub come_front : (base : Base) (entries others : List Entry) → MayCome base (entries ++ others) → MayCome base entries
come_front base entries others come = record {
  legal = legal_front base.rows base.last entries others come.legal;
  counted = omega (arith, come.counted, length-append entries others);
}

-- ---- the entries of a loop

pub in_time_at : (entries : List Entry) (k : ℕ) (entry : Entry) → InTime entries → k < length entries
    → entry ≡ get_or entries k entry → entry.moment.0 ≤ LAST_READING
in_time_at [] k entry early lt is = absurd (omega (arith, lt))
in_time_at (e ∷ es) zero entry early lt is = subst (λ (d : Entry). d.moment.0 ≤ LAST_READING) (sym is) early.0
in_time_at (e ∷ es) (suc k) entry early lt is = in_time_at es k entry early.1 (omega (arith, lt)) is

front_more : (entries : List Entry) (k : ℕ) (entry : Entry) → k < length entries → entry ≡ get_or entries k entry
    → take (k + 1) entries ≡ take k entries ++ entry ∷ []
front_more entries k entry lt is =
    take_more entries k entry lt ∙ ap (λ (e : Entry). take k entries ++ e ∷ []) (sym is)

-- what stands at a place of the loop
pub record GoesTo (start : Base) (entries : List Entry) (k : ℕ) (now : Base) : Type 0 where
  pub after : now ≡ after_all start (take k entries)
  pub legal : MayCome start (take k entries)

module _ (start : Base) (entries : List Entry) (k : ℕ) (entry : Entry) (lt : k < length entries)
    (is : entry ≡ get_or entries k entry) (now : Base) (here : GoesTo start entries k now) where
  pub step : (next : Base) → next ≡ after_entry now entry → MayCome now (entry ∷ []) → GoesTo start entries (k + 1) next
  step next made come = record {
    after = made ∙ ap (λ (b : Base). after_entry b entry) here.after ∙ sym (after_more start (take k entries) entry)
        ∙ ap (after_all start) (sym (front_more entries k entry lt is));
    legal = subst (MayCome start) (sym (front_more entries k entry lt is))
        (come_more start (take k entries) entry here.legal
        (subst (λ (b : Base). MayCome b (entry ∷ [])) here.after come));
  }

  pub stop : (MayCome now (entry ∷ []) → ⊥) → StopsAfter start entries k
  stop none = record {
    within = lt;
    legal = here.legal;
    not = λ come. none (subst (λ (b : Base). MayCome b (entry ∷ [])) (sym here.after)
        (come_last start (take k entries) entry (subst (MayCome start) (front_more entries k entry lt is) come)));
  }

pub all_gone : (start : Base) (entries : List Entry) (k : ℕ) (now : Base) → length entries ≤ k
    → GoesTo start entries k now → (now ≡ after_all start entries) × MayCome start entries
all_gone start entries k now le here = (
  here.after ∙ ap (after_all start) (take_all k entries le),
  subst (MayCome start) (take_all k entries le) here.legal,
)
