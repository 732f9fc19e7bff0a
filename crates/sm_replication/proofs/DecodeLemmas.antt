-- What decoding says.
use Rattle.std.proofs.Common.{◌≡◌, ◌↔◌, ℕ, zero, suc, ◌+◌, ◌-◌, ◌^◌, ◌<◌, ◌≤◌, ◌==◌, true, false, IsTrue, true≢false, List, [], ◌∷◌, ◌++◌, length, take, drop, get_or, map, Result, Ok, Err, refl, sym, ap, subst, ◌∙◌, arith, length-drop, eqb-true, eq-eqb}
use Rattle.std.proofs.lemmas.List.{take_more, take_all}
use Rattle.sm_http.specs.declared.message.MessageView.{MessageView}
use Rattle.sm_http.specs.declared.message.Front.TheVariants as fronts
use Rattle.sm_http.specs.Fronts.{IsFront}
use Rattle.sm_http.specs.Messages as http
use Rattle.sm_http.specs.Messages.{IsMessage}
use Rattle.sm_base.specs.declared.bad_kind.BadKind.{BadKind}
use Rattle.sm_http.proofs.MessageLemmas.{message_unique, bad_is_no_message, partial_is_no_message}
use Rattle.sm_model.specs.declared.entry.Entry.{Entry}
use Rattle.sm_record.specs.Codec.{IsBytes, Codec, read_items}
use Rattle.sm_record.specs.declared.base.Base.{Base}
use Rattle.sm_record.specs.declared.edition.Edition.TheVariants.{Second}
use Rattle.sm_record.specs.Snapshots.{snapshot, HasSnapshot}
use Rattle.sm_record.specs.Spelling.{spelling, HasSpelling}
use Rattle.sm_record.proofs.ReadingLemmas.{with_front}
use Rattle.sm_replication.specs.declared.frame.Frame.TheVariants as frame
use Rattle.sm_replication.specs.declared.frame.TheConstants.{FRAME_ENTRIES}
use Rattle.sm_replication.specs.declared.input.Input.{Input}
use Rattle.sm_replication.specs.declared.input.Input.TheVariants as input
use Rattle.sm_replication.specs.declared.input.TheConstants.{LIST_LIMIT}
use Rattle.sm_replication.specs.declared.parts.FrameRefused.{FrameRefused}
use Rattle.sm_replication.specs.declared.parts.FrameRefused.TheVariants.{NoFrame, Memory}
use Rattle.sm_replication.specs.Decoding.{IsUnread, FailsAs, IsOneEntry, AreEntries, IsMade, IsDecoded}
use Rattle.sm_replication.specs.Spelled.{AreSpelled}
use Rattle.sm_replication.specs.Frames.{IsOneMessage, parcel_of, IsFrame}
use Rattle.sm_replication.specs.Parcels.{Parcel, Entries, Rows, Message, parcel, parcel_in, listed_size, IsWithin}
use Rattle.sm_replication.proofs.ParcelLaws.{parts_are, read_is_parcel, unread_is_none}

-- ---- items that are read one after the other

-- an item is not read, and so all items are not
pub items_end : {A : Type 0} (c : Codec A) (front : List A) (count i : ℕ) (bytes : List ℕ)
    (all : Result (List A × List ℕ) ℕ) → i < count → IsUnread (c.read bytes)
    → with_front front (read_items c (count - i) bytes) ≡ all → IsUnread all
unfolding read_items
items_end {A} c front count i bytes all lt none so_far = by (c.read bytes) refl none
  where
    by : (r : Result (A × List ℕ) ℕ) → c.read bytes ≡ r → IsUnread r → IsUnread all
    by (Ok x) is h = absurd h
    by (Err left) is h =
        let k : count - i ≡ suc (count - (i + 1)) = omega arith in
        let once : with_front front (read_items c (count - i) bytes) ≡ Err left = rw (k, is) refl in
        subst IsUnread (sym once ∙ so_far) tt

pub items_fail : {A : Type 0} (c : Codec A) (front : List A) (count i : ℕ) (bytes : List ℕ)
    (all : Result (List A × List ℕ) ℕ) (refused : FrameRefused) → i < count → FailsAs refused (c.read bytes)
    → with_front front (read_items c (count - i) bytes) ≡ all → FailsAs refused all
items_fail c front count i bytes all NoFrame lt none so_far = items_end c front count i bytes all lt none so_far
items_fail c front count i bytes all Memory lt none so_far = tt

-- ---- the sizes of items

size_append : (front rest : List (List ℕ)) → listed_size (front ++ rest) ≡ listed_size front + listed_size rest
size_append [] rest = omega arith
size_append (item ∷ front) rest = omega (arith, size_append front rest)

pub size_more : (items : List (List ℕ)) (i : ℕ) (item : List ℕ) → i < length items → item ≡ get_or items i item
    → listed_size (take (i + 1) items) ≡ listed_size (take i items) + 4 + length item
size_more items i item lt at =
    omega (
      arith,
      ap listed_size (take_more items i item lt),
      size_append (take i items) (get_or items i item ∷ []),
      ap length (sym at),
    )

pub size_take : (n : ℕ) (items : List (List ℕ)) → listed_size (take n items) ≤ listed_size items
size_take zero items = omega arith
size_take (suc n) [] = omega arith
size_take (suc n) (item ∷ items) = omega (arith, size_take n items)

pub size_all : (items : List (List ℕ)) (i : ℕ) → length items ≤ i → listed_size (take i items) ≡ listed_size items
size_all items i le = ap listed_size (take_all i items le)

-- what is left of the limit behind the items up to a place, where the next one with its length has so many bytes
module _ (items : List (List ℕ)) (limit left i : ℕ) (item : List ℕ) (size : ℕ) (lt : i < length items)
    (at : item ≡ get_or items i item) (so_far : listed_size (take i items) + left ≡ limit)
    (size_is : size ≡ length item) where
  pub short_more : (rest : ℕ) → rest + 4 + size ≡ left → listed_size (take (i + 1) items) + rest ≡ limit
  short_more rest is = omega (arith, size_more items i item lt at, so_far, size_is, is)

  over : left < 4 + size → listed_size items ≤ limit → ⊥
  over few le =
      absurd (omega (
        arith,
        size_more items i item lt at,
        size_take (i + 1) items,
        so_far,
        size_is,
        few,
        le,
      ))

  pub short_none : left < 4 + size → IsTrue false ↔ (listed_size items ≤ limit)
  short_none few = (λ no. absurd (true≢false (sym no)), λ le. absurd (over few le))

pub short_all : (items : List (List ℕ)) (limit left i : ℕ) → length items ≤ i
    → listed_size (take i items) + left ≡ limit → IsTrue true ↔ (listed_size items ≤ limit)
short_all items limit left i all so_far = (λ yes. omega (arith, size_all items i all, so_far), λ le. refl)

-- ---- entries

spelled_push : (entries : List Entry) (entry : Entry) → AreSpelled entries → HasSpelling Second entry
    → AreSpelled (entries ++ entry ∷ [])
spelled_push [] entry all one = (one, tt)
spelled_push (e ∷ es) entry all one = (all.0, spelled_push es entry all.1 one)

bodies_push : (entries : List Entry) (entry : Entry)
    → map (spelling Second) (entries ++ entry ∷ []) ≡ map (spelling Second) entries ++ spelling Second entry ∷ []
bodies_push [] entry = refl
bodies_push (e ∷ es) entry = ap (λ (xs : List (List ℕ)). spelling Second e ∷ xs) (bodies_push es entry)

-- the entries that were decoded of the bodies up to a place
pub record Gathers (bodies : List (List ℕ)) (i : ℕ) (entries : List Entry) : Type 0 where
  pub spelled : AreSpelled entries
  pub are : map (spelling Second) entries ≡ take i bodies

pub none_gathered : (bodies : List (List ℕ)) → Gathers bodies 0 []
none_gathered bodies = record { spelled = tt; are = refl }

module _ (bodies : List (List ℕ)) (i : ℕ) (body : List ℕ) (lt : i < length bodies) (at : body ≡ get_or bodies i body)
  where
    pub gathers_more : (entries : List Entry) (entry : Entry) → Gathers bodies i entries → HasSpelling Second entry
        → spelling Second entry ≡ body → Gathers bodies (i + 1) (entries ++ entry ∷ [])
    gathers_more entries entry g fits is = record {
      spelled = spelled_push entries entry g.spelled fits;
      are = bodies_push entries entry ∙ ap (λ (xs : List (List ℕ)). xs ++ spelling Second entry ∷ []) g.are
          ∙ ap (λ (b : List ℕ). take i bodies ++ b ∷ []) (is ∙ at) ∙ sym (take_more bodies i body lt);
    }

    -- a body that is no entry's is in no list of entries
    none_gathers : ((entry : Entry) → HasSpelling Second entry → spelling Second entry ≡ body → ⊥)
        → (entries : List Entry) → AreSpelled entries → map (spelling Second) entries ≡ bodies → ⊥
    none_gathers none entries spelled are =
        at_place entries i spelled
        (subst (λ (xs : List (List ℕ)). i < length xs) (sym are) lt)
        (at ∙ ap (λ (xs : List (List ℕ)). get_or xs i body) (sym are))
      where
        at_place : (es : List Entry) (k : ℕ) → AreSpelled es → k < length (map (spelling Second) es)
            → body ≡ get_or (map (spelling Second) es) k body → ⊥
        at_place [] k spelled few is = omega (arith, few)
        at_place (e ∷ es) zero spelled few is = none e spelled.0 (sym is)
        at_place (e ∷ es) (suc k) spelled few is = at_place es k spelled.1 (omega (arith, few)) is

pub entry_refused : (bodies : List (List ℕ)) (i : ℕ) (body : List ℕ) (refused : FrameRefused) → i < length bodies
    → body ≡ get_or bodies i body → IsOneEntry body (Err refused) → AreEntries bodies (Err refused)
entry_refused bodies i body NoFrame lt at none =
    λ entries spelled are. none_gathers bodies i body lt at none entries spelled are
entry_refused bodies i body Memory lt at none = tt

pub gathers_all : (bodies : List (List ℕ)) (i : ℕ) (entries list : List Entry) → length bodies ≤ i
    → Gathers bodies i entries → list ≡ entries → AreEntries bodies (Ok list)
gathers_all bodies i entries list le g same =
    subst (λ (es : List Entry). AreEntries bodies (Ok es)) (sym same) (g.spelled, g.are ∙ take_all i bodies le)

-- ---- frames of parts

-- parts past a limit are those of no frame
pub not_within : (p : Parcel) → (IsWithin p → ⊥) → IsMade p (Err NoFrame)
not_within p past = λ i is same. past (subst IsWithin same is.within)

count_of : (entries : List Entry) → length (map (spelling Second) entries) ≡ length entries
count_of [] = refl
count_of (e ∷ es) = ap suc (count_of es)

module _ (at : ℕ) (bodies : List (List ℕ)) where
  pub entries_made : (entries : List Entry) → at < 2 ^ 64 → length bodies ≤ FRAME_ENTRIES
      → listed_size bodies ≤ LIST_LIMIT → AreEntries bodies (Ok entries)
      → IsMade (Entries at bodies) (Ok (input.Frame (frame.Entries at entries)))
  entries_made entries lt few short are =
      let same : Entries at (map (spelling Second) entries) ≡ Entries at bodies = ap (Entries at) are.1 in
      (record { parts = are.0; within = subst IsWithin (sym same) (lt, few, short) }, same)

  entries_of_none : ((entries : List Entry) → AreSpelled entries → map (spelling Second) entries ≡ bodies → ⊥)
      → (i : Input) → IsFrame i → parcel_of i ≡ Entries at bodies → ⊥
  entries_of_none none (input.Frame (frame.Entries a entries)) is same =
      let are : map (spelling Second) entries ≡ bodies = cc in none entries is.parts are
  entries_of_none none (input.Frame (frame.Rows a base)) is same = cc
  entries_of_none none (input.Message bytes) is same = cc

  pub entries_refused : (refused : FrameRefused) → AreEntries bodies (Err refused)
      → IsMade (Entries at bodies) (Err refused)
  entries_refused NoFrame none = λ i is same. entries_of_none none i is same
  entries_refused Memory none = tt

  pub rows_made : (base : Base) → at < 2 ^ 64 → listed_size bodies ≤ LIST_LIMIT
      → HasSnapshot Second base × (snapshot Second base ≡ bodies)
      → IsMade (Rows at bodies) (Ok (input.Frame (frame.Rows at base)))
  rows_made base lt short are =
      let same : Rows at (snapshot Second base) ≡ Rows at bodies = ap (Rows at) are.1 in
      (record { parts = are.0; within = subst IsWithin (sym same) (lt, short) }, same)

  rows_of_none : ((base : Base) → HasSnapshot Second base → snapshot Second base ≡ bodies → ⊥)
      → (i : Input) → IsFrame i → parcel_of i ≡ Rows at bodies → ⊥
  rows_of_none none (input.Frame (frame.Entries a entries)) is same = cc
  rows_of_none none (input.Frame (frame.Rows a base)) is same =
      let are : snapshot Second base ≡ bodies = cc in none base is.parts are
  rows_of_none none (input.Message bytes) is same = cc

  pub rows_refused : ((base : Base) → HasSnapshot Second base → snapshot Second base ≡ bodies → ⊥)
      → IsMade (Rows at bodies) (Err NoFrame)
  rows_refused none = λ i is same. rows_of_none none i is same

module _ (bytes : List ℕ) where
  pub message_made : (own : List ℕ) → length bytes ≤ LIST_LIMIT → IsOneMessage bytes → own ≡ bytes
      → IsMade (Message bytes) (Ok (input.Message own))
  message_made own short one is =
      let same : Message own ≡ Message bytes = ap Message is in
      (record { parts = subst IsOneMessage (sym is) one; within = subst IsWithin (sym same) short }, same)

  message_of_none : (IsOneMessage bytes → ⊥) → (i : Input) → IsFrame i → parcel_of i ≡ Message bytes → ⊥
  message_of_none none (input.Frame (frame.Entries a entries)) is same = cc
  message_of_none none (input.Frame (frame.Rows a base)) is same = cc
  message_of_none none (input.Message other) is same =
      let are : other ≡ bytes = cc in none (subst IsOneMessage are is.parts)

  pub message_refused : (IsOneMessage bytes → ⊥) → IsMade (Message bytes) (Err NoFrame)
  message_refused none = λ i is same. message_of_none none i is same

-- ---- messages

-- a front that takes all bytes is one whole message, and one that does not shows that they are none
pub is_one : (bytes : List ℕ) (seen : MessageView) (used : ℕ) → IsFront bytes (fronts.Whole seen used)
    → IsTrue (used == length bytes) ↔ IsOneMessage bytes
is_one bytes seen used whole =
    (λ all. (whole.0, subst (IsMessage bytes whole.0) (rest_none (eqb-true used (length bytes) all)) whole.1), back)
  where
    drop_all : (xs : List ℕ) → drop (length xs) xs ≡ []
    drop_all [] = refl
    drop_all (x ∷ xs) = drop_all xs

    rest_none : used ≡ length bytes → drop used bytes ≡ []
    rest_none all = ap (λ (n : ℕ). drop n bytes) all ∙ drop_all bytes

    back : IsOneMessage bytes → IsTrue (used == length bytes)
    back one =
        let none : drop used bytes ≡ []
        = (message_unique bytes whole.0 one.0 (drop used bytes) [] whole.1 one.1).1 in
        eq-eqb used (length bytes) (omega (arith, length-drop used bytes, ap length none, whole.3))

pub is_none : (bytes : List ℕ) → (IsOneMessage bytes → ⊥) → IsTrue false ↔ IsOneMessage bytes
is_none bytes none = (λ no. absurd (true≢false (sym no)), λ one. absurd (none one))

pub bad_is_none : (bytes : List ℕ) (kind : BadKind) → http.StartsBadly bytes kind → IsTrue false ↔ IsOneMessage bytes
bad_is_none bytes kind bad = is_none bytes (λ one. bad_is_no_message bytes kind one.0 [] bad one.1)

pub partial_is_none : (bytes : List ℕ) → http.IsPartial bytes → IsTrue false ↔ IsOneMessage bytes
partial_is_none bytes partial = is_none bytes (λ one. partial_is_no_message bytes one.0 [] partial one.1)

-- ---- bytes

pub decoded : (bytes : List ℕ) (p : Parcel) (result : Result Input FrameRefused) → IsBytes bytes
    → parcel_in bytes ≡ Ok p → IsMade p result → IsDecoded bytes result
decoded bytes p (Ok i) fits read made =
    (made.0, ap parcel.spell made.1 ∙ read_is_parcel bytes p fits read)
decoded bytes p (Err NoFrame) fits read none =
    λ i is same. none i is (parts_are bytes p (parcel_of i) read is.within same)
decoded bytes p (Err Memory) fits read made = tt

pub undecoded_as : (bytes : List ℕ) (refused : FrameRefused) → FailsAs refused (parcel_in bytes)
    → IsDecoded bytes (Err refused)
undecoded_as bytes NoFrame none = λ i is same. unread_is_none bytes (parcel_of i) none is.within same
undecoded_as bytes Memory none = tt
