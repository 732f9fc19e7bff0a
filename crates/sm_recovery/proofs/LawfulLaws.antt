-- What a base and the entries behind it make.
use Rattle.std.proofs.Common.{◌≡◌, ℕ, Bool, true, false, cond, length, Option, Some, None, IfSome, refl, sym, subst, arith}
use Rattle.sm_journal.specs.declared.format.Format.{Format}
use Rattle.sm_record.specs.declared.base.Base.{Base}
use Rattle.sm_recovery.proofs.FollowLemmas.{after_more, after_count, none_come}
use Rattle.sm_recovery.proofs.SoundLaws.{come_sound}
use Rattle.sm_store.specs.Held.{Held, only}
use Rattle.sm_recovery.specs.Lawful.{base_under, made_of, IsLawful, MadeOnly, MakesOneMore, StaysLawful}
use Rattle.sm_recovery.specs.Replacing.{is_replaced, new_base, taken_with, taken_of}

pub made_only : MadeOnly
made_only base = refl

pub makes_one_more : MakesOneMore
makes_one_more h entry = after_more (base_under h.base) h.entries entry

pub stays_lawful : StaysLawful
stays_lawful h lawful = record {
  sound = come_sound (base_under h.base) h.entries lawful.sound lawful.come lawful.timely;
  come = none_come (made_of h) (omega (arith, after_count (base_under h.base) h.entries, lawful.come.counted));
  timely = tt;
}

-- ---- what an opening takes

pub new_is : (format : Format) (limit behind : ℕ) (state : Base)
    → IfSome (new_base format limit behind state) (λ base. base ≡ state)
new_is format limit behind state = by (is_replaced format limit behind state)
  where
    by : (is : Bool) → IfSome (cond is (Some state) None) (λ base. base ≡ state)
    by true = refl
    by false = tt

makes_with : (h : Held) (new : Option Base) → IfSome new (λ base. base ≡ made_of h)
    → made_of (taken_with h new) ≡ made_of h
makes_with h None is = refl
makes_with h (Some base) is = is

lawful_with : (h : Held) (new : Option Base) → IfSome new (λ base. base ≡ made_of h) → IsLawful h
    → IsLawful (taken_with h new)
lawful_with h None is lawful = lawful
lawful_with h (Some base) is lawful = subst (λ (b : Base). IsLawful (only b)) (sym is) (stays_lawful h lawful)

-- it makes what was found makes, and is lawful where that is
pub taken_makes : (format : Format) (limit : ℕ) (h : Held) → made_of (taken_of format limit h) ≡ made_of h
taken_makes format limit h =
    makes_with h (new_base format limit (length h.entries) (made_of h))
    (new_is format limit (length h.entries) (made_of h))

pub taken_lawful : (format : Format) (limit : ℕ) (h : Held) → IsLawful h → IsLawful (taken_of format limit h)
taken_lawful format limit h lawful =
    lawful_with h (new_base format limit (length h.entries) (made_of h))
    (new_is format limit (length h.entries) (made_of h)) lawful
