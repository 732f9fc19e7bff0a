-- Marks of the values as which texts begin.
use Rattle.std.proofs.Common.{◌≡◌, ℕ, zero, suc, ◌+◌, ◌<◌, ◌≤◌, Bool, true, false, not, ◌||◌, cond, nat_eq, ◌==◌, List, [], ◌∷◌, length, map, get_or, set, take, replicate, refl, ap, sym, ◌∙◌, arith, add-one}
use Rattle.std.specs.List.{starts_with}
use Rattle.std.proofs.lemmas.Bool.{false≢true}
use Rattle.std.proofs.lemmas.List.{get_or-map, length-map}
use Rattle.std.proofs.lemmas.List.Folds.{list_any_more}
use Rattle.sm_listing.specs.declared.beginnings.TagPart.{TagPart}
use Rattle.sm_model.specs.declared.value.Tag.{Tag}
use Rattle.sm_listing.specs.Beginnings.{beginning_of, beginning_at, text_of, marked, AreMarks, holds_by}
use Rattle.sm_listing.specs.Filters.{some_begins, value_holds}

pub marked_count : (text : List ℕ) (values : List (List ℕ)) (marks : List Bool) →
    length (marked text values marks) ≡ length marks
marked_count text [] marks = refl
marked_count text (value ∷ values) [] = refl
marked_count text (value ∷ values) (mark ∷ marks) = ap suc (marked_count text values marks)

-- the text begins as the value at a place, whose mark is set
mark_begins : (text : List ℕ) (values : List (List ℕ)) (marks : List Bool) (i : ℕ) → i < length values →
    i < length marks → starts_with nat_eq text (beginning_at values i) ≡ true →
    set (marked text (take i values) marks) i true ≡ marked text (take (suc i) values) marks
mark_begins text [] marks i below within begins = absurd (omega arith)
mark_begins text (value ∷ values) [] i below within begins = absurd (omega arith)
mark_begins text (value ∷ values) (mark ∷ marks) zero below within begins =
    by mark (starts_with nat_eq text (beginning_of value)) begins
  where
    by : (mark begins : Bool) → begins ≡ true → true ∷ marks ≡ (mark || begins) ∷ marks
    by true begins is = refl
    by false true is = refl
    by false false is = absurd (false≢true is)
mark_begins text (value ∷ values) (mark ∷ marks) (suc i) below within begins =
    ap (λ (later : List Bool). (mark || starts_with nat_eq text (beginning_of value)) ∷ later)
    (mark_begins text values marks i (omega arith) (omega arith) begins)

-- it doesn't, and the mark stays
mark_stays : (text : List ℕ) (values : List (List ℕ)) (marks : List Bool) (i : ℕ) → i < length values →
    i < length marks → starts_with nat_eq text (beginning_at values i) ≡ false →
    marked text (take i values) marks ≡ marked text (take (suc i) values) marks
mark_stays text [] marks i below within begins = absurd (omega arith)
mark_stays text (value ∷ values) [] i below within begins = absurd (omega arith)
mark_stays text (value ∷ values) (mark ∷ marks) zero below within begins =
    by mark (starts_with nat_eq text (beginning_of value)) begins
  where
    by : (mark begins : Bool) → begins ≡ false → mark ∷ marks ≡ (mark || begins) ∷ marks
    by true begins is = refl
    by false false is = refl
    by false true is = absurd (false≢true (sym is))
mark_stays text (value ∷ values) (mark ∷ marks) (suc i) below within begins =
    ap (λ (later : List Bool). (mark || starts_with nat_eq text (beginning_of value)) ∷ later)
    (mark_stays text values marks i (omega arith) (omega arith) begins)

-- the mark is set already
mark_kept : (text : List ℕ) (values : List (List ℕ)) (marks : List Bool) (i : ℕ) → i < length values →
    i < length marks → get_or (marked text (take i values) marks) i false ≡ true →
    marked text (take i values) marks ≡ marked text (take (suc i) values) marks
mark_kept text [] marks i below within is = absurd (omega arith)
mark_kept text (value ∷ values) [] i below within is = absurd (omega arith)
mark_kept text (value ∷ values) (mark ∷ marks) zero below within is =
    by mark (starts_with nat_eq text (beginning_of value)) is
  where
    by : (mark begins : Bool) → mark ≡ true → mark ∷ marks ≡ (mark || begins) ∷ marks
    by true begins is = refl
    by false begins is = absurd (false≢true is)
mark_kept text (value ∷ values) (mark ∷ marks) (suc i) below within is =
    ap (λ (later : List Bool). (mark || starts_with nat_eq text (beginning_of value)) ∷ later)
    (mark_kept text values marks i (omega arith) (omega arith) is)

-- the same, of marks so far
pub begins_so_far : (text : List ℕ) (values : List (List ℕ)) (first marks : List Bool) (i : ℕ) →
    marks ≡ marked text (take i values) first → i < length values → length values ≤ length first →
    starts_with nat_eq text (beginning_at values i) ≡ true → set marks i true ≡ marked text (take (i + 1) values) first
begins_so_far text values first marks i are below room begins =
    rw (are, add-one i) (mark_begins text values first i below (omega arith) begins)

pub kept_so_far : (text : List ℕ) (values : List (List ℕ)) (first marks : List Bool) (i : ℕ) →
    marks ≡ marked text (take i values) first → i < length values → length values ≤ length first →
    get_or marks i false ≡ true → marks ≡ marked text (take (i + 1) values) first
kept_so_far text values first marks i are below room is =
    are ∙ rw (add-one i) (mark_kept text values first i below (omega arith) (rw (sym are) is))

pub stays_so_far : (text : List ℕ) (values : List (List ℕ)) (first marks : List Bool) (i : ℕ) →
    marks ≡ marked text (take i values) first → i < length values → length values ≤ length first →
    starts_with nat_eq text (beginning_at values i) ≡ false → marks ≡ marked text (take (i + 1) values) first
stays_so_far text values first marks i are below room begins =
    rw (are, add-one i) (mark_stays text values first i below (omega arith) begins)

-- ---- one text after the other

pub marks_nothing : (values : List (List ℕ)) (n : ℕ) → length values ≤ n → AreMarks [] values (replicate n false)
marks_nothing [] n within = _
marks_nothing (value ∷ values) zero within = absurd (omega arith)
marks_nothing (value ∷ values) (suc n) within = (refl, marks_nothing values n (omega arith))

pub marks_count : (texts values : List (List ℕ)) (marks : List Bool) → AreMarks texts values marks →
    length values ≤ length marks
marks_count texts [] marks are = omega arith
marks_count texts (value ∷ values) [] are = absurd are
marks_count texts (value ∷ values) (mark ∷ marks) are =
    let further = marks_count texts values marks are.1 in omega arith

marks_next : (texts values : List (List ℕ)) (marks : List Bool) (i : ℕ) → i < length texts →
    AreMarks (take i texts) values marks →
    AreMarks (take (i + 1) texts) values (marked (get_or texts i []) values marks)
marks_next texts [] marks i below are = _
marks_next texts (value ∷ values) [] i below are = absurd are
marks_next texts (value ∷ values) (mark ∷ marks) i below are = (
  ap (λ (m : Bool). m || starts_with nat_eq (get_or texts i []) (beginning_of value)) are.0
      ∙ sym (list_any_more (λ (text : List ℕ). starts_with nat_eq text (beginning_of value)) texts i [] below),
  marks_next texts values marks i below are.1,
)

text_here : (part : TagPart) (tags : List Tag) (i : ℕ) (tag : Tag) → i < length tags → tag ≡ get_or tags i tag →
    get_or (map (text_of part) tags) i [] ≡ text_of part tag
text_here part tags i tag below is = get_or-map (text_of part) tags i tag [] below ∙ ap (text_of part) (sym is)

-- the text of one more tag
pub marks_more : (part : TagPart) (tags : List Tag) (values : List (List ℕ)) (marks later : List Bool) (i : ℕ)
    (tag : Tag) (text : List ℕ) → i < length tags → tag ≡ get_or tags i tag → text ≡ text_of part tag →
    later ≡ marked text values marks → AreMarks (take i (map (text_of part) tags)) values marks →
    AreMarks (take (i + 1) (map (text_of part) tags)) values later
marks_more part tags values marks later i tag text below is named made are =
    let same : get_or (map (text_of part) tags) i [] ≡ text = text_here part tags i tag below is ∙ sym named in
    let next =
    marks_next (map (text_of part) tags) values marks i (omega (arith, length-map tags (text_of part))) are in
    rw made (rw same at next)

-- ---- the mark of a value

mark_at : (texts values : List (List ℕ)) (marks : List Bool) (i : ℕ) (d : Bool) → AreMarks texts values marks →
    i < length values → (i < length marks) × (get_or marks i d ≡ some_begins texts (beginning_at values i))
mark_at texts [] marks i d are below = absurd (omega arith)
mark_at texts (value ∷ values) [] i d are below = absurd are
mark_at texts (value ∷ values) (mark ∷ marks) zero d are below = (omega arith, are.0)
mark_at texts (value ∷ values) (mark ∷ marks) (suc i) d are below =
    let further = mark_at texts values marks i d are.1 (omega arith) in (omega (arith, further.0), further.1)

pub mark_within : (texts values : List (List ℕ)) (marks : List Bool) (i : ℕ) → AreMarks texts values marks →
    i < length values → i < length marks
mark_within texts values marks i are below = (mark_at texts values marks i false are below).0

holds_so : (texts : List (List ℕ)) (value : List ℕ) →
    holds_by value (some_begins texts (beginning_of value)) ≡ value_holds texts value
holds_so texts [] = refl
holds_so texts (first ∷ rest) = by (first == 33)
  where
    by : (not_so : Bool) →
        cond not_so (not (some_begins texts (cond not_so rest (first ∷ rest))))
        (some_begins texts (cond not_so rest (first ∷ rest)))
        ≡ cond not_so (not (some_begins texts rest)) (some_begins texts (first ∷ rest))
    by true = refl
    by false = refl

-- a value holds as its mark says
pub mark_holds : (texts values : List (List ℕ)) (marks : List Bool) (i : ℕ) (d : Bool) → AreMarks texts values marks →
    i < length values →
    holds_by (get_or values i []) (get_or marks i d) ≡ value_holds texts (get_or values i [])
mark_holds texts values marks i d are below =
    ap (holds_by (get_or values i [])) (mark_at texts values marks i d are below).1
    ∙ holds_so texts (get_or values i [])
