-- Where nothing is wrong with words, the values of an option with a range of numbers lie in it.
use Rattle.std.proofs.Common.{◌≡◌, ◌+◌, ◌&&◌, ◌||◌, ℕ, Bool, zero, suc, true, false, refl, subst, List, [], ◌∷◌, ◌++◌}
use Rattle.std.proofs.Common.{Option, Some, None, is_some, length, drop, if◌then◌else◌, nat_lt, ◌≤◌, ◌^◌, arith}
use Rattle.std.proofs.lemmas.List.Folds.{list_all-append}
use Rattle.std.proofs.lemmas.Slice.Eq.{bytes_eq-Decides}
use Rattle.std.specs.Prelude.{⊤, encode_utf8, find, fold, min, option_and_then, option_map, slice_get, unwrap_or}
use Rattle.std.specs.List.{list_all}
use Rattle.std.specs.Option.{option_map_or}
use Rattle.std.specs.Str.{bytes_eq, chars}
use Rattle.std.specs.Str.Parse.{digits_value, without_leading_plus}
use Rattle.std.proofs.lemmas.Bool.{leb-true, ne_eqb}
use Rattle.clap.specs.Facts.{parser_of_value, unwrap_or_range}
use Rattle.clap.specs.Faults.{action_fault, bundle_fault, bundle_step_fault, default_fault, defaults_fault}
use Rattle.clap.specs.Faults.{flag_word_fault, flags_fault, given_default_fault, level_fault, long_fault}
use Rattle.clap.specs.Faults.{option_fault, other_fault, positional_fault, react_fault, repeat_fault, settle_fault}
use Rattle.clap.specs.Faults.{short_fault, step_fault, stray_fault, turn_fault, use_fault, values_fault, walk_fault}
use Rattle.clap.specs.Faults.{word_fault}
use Rattle.clap.specs.Kinds.{Kinds, or_else, range_kinds, request_kinds, value_kinds, values_kinds}
use Rattle.clap.specs.Lexer.{long_of, short_of}
use Rattle.clap.specs.Simple.{Shape}
use Rattle.clap.specs.ValueTests.{is_numeral, is_unsigned_in}
use Rattle.clap.specs.Values.{read_as}
use Rattle.sm_command_line.specs.Reading.{number_in, number_of}
use Rattle.clap.specs.Walk.{Held, Outcome, Row, Rule, Step, Text, Waiting, Walk, action_of, after_flag, after_step}
use Rattle.clap.specs.Walk.{arg_by_id, arg_by_index, arg_by_long, arg_by_short, at_row, attached_value, bundle}
use Rattle.clap.specs.Walk.{bundle_met, bundle_step, count_of, counted, default_rows, done, finished, flag_met}
use Rattle.clap.specs.Walk.{has_row, idle, is_empty, is_pending, long_met, long_or_other, more_values, most_values}
use Rattle.clap.specs.Walk.{new_count, next, nothing_held, one_of, option, option_met, option_word, plain, plain_word}
use Rattle.clap.specs.Walk.{positional, positional_held, reacted, reading_by, refused, row_text, rows_after, settled}
use Rattle.clap.specs.Walk.{settled_rows, short_met, short_or_plain, subcommand, subcommand_met, subcommand_or_other}
use Rattle.clap.specs.Walk.{takes_several, takes_values, to_positional, trailing, used, used_as, used_by_id, value}
use Rattle.clap.specs.Walk.{values_or_missing, waits, walk_from, walked, walked_from, with_count, with_default}
use Rattle.clap.specs.Walk.{with_values, without, word_met}
use Rattle.clap.specs.Walk as walks
use Rattle.clap.specs.declared.builder.action.ArgAction.{ArgAction}
use Rattle.clap.specs.declared.builder.action.ArgAction.TheVariants.{Append, Count, Help, HelpLong, HelpShort, Set}
use Rattle.clap.specs.declared.builder.action.ArgAction.TheVariants.{SetFalse, SetTrue, Version}
use Rattle.clap.specs.declared.builder.value_parser.Reading.{Reading}
use Rattle.clap.specs.declared.builder.value_parser.Reading.TheVariants as readings
use Rattle.clap.specs.declared.builder.value_parser.ValueParser.{ValueParser}
use Rattle.clap.specs.declared.builder.value_parser.ValueParser.TheVariants as values
use Rattle.clap.specs.declared.parser.matches.ValueSource.{ValueSource}
use Rattle.clap.specs.declared.parser.matches.ValueSource.TheVariants.{CommandLine, DefaultValue}
use Rattle.clap.specs.declared.error.kind.ErrorKind.TheVariants.{ValueValidation}
use Rattle.clap.proofs.WalkLemmas.{both}

or_else-nil : (a b : Kinds) → or_else a b ≡ [] → (a ≡ []) × (b ≡ [])
or_else-nil [] b is = (refl, is)
or_else-nil (kind ∷ kinds) b is = cc

all-append : {X : Type 0} (p : X → Bool) (xs ys : List X) → list_all p xs ≡ true → list_all p ys ≡ true
    → list_all p (xs ++ ys) ≡ true
all-append p xs ys first second = rw (list_all-append p xs ys, first, second) refl

module _ (target : Text) (low high : ℕ) where
  abbrev is_fit : Text → Bool
  is_fit = is_unsigned_in low high

  -- a row of the option has values in the range
  abbrev pub Fits : Row → Type 0
  Fits r = bytes_eq r.id target ≡ true → (r.reading ≡ readings.AsWritten) × (list_all is_fit r.values ≡ true)

  abbrev pub AllFit : List Row → Type 0
  AllFit [] = ⊤
  AllFit (r ∷ rows) = Fits r × AllFit rows

  -- the rule of the option has the range
  abbrev pub Suits : Rule → Type 0
  Suits a = bytes_eq a.id target ≡ true → (action_of a ≡ Set) × (a.parser ≡ Some (values.Unsigned low high))

  abbrev pub AllSuit : List Rule → Type 0
  AllSuit [] = ⊤
  AllSuit (a ∷ rules) = Suits a × AllSuit rules

  abbrev IfSuits : Option Rule → Type 0
  IfSuits None = ⊤
  IfSuits (Some a) = Suits a

  find-suits : (p : Rule → Bool) (rules : List Rule) → AllSuit rules → IfSuits (find p rules)
  find-suits p [] all = tt
  find-suits p (a ∷ rules) all = go (p a) (find-suits p rules all.1)
    where
      go : (b : Bool) → IfSuits (find p rules) → IfSuits (if b then Some a else find p rules)
      go true later = all.0
      go false later = later

  -- ---- rows

  append-fit : (xs ys : List Row) → AllFit xs → AllFit ys → AllFit (xs ++ ys)
  append-fit [] ys first second = second
  append-fit (x ∷ xs) ys first second = (first.0, append-fit xs ys first.1 second)

  at_row-fit : (id : Text) (change : Row → List Row) (missing : List Row)
      → ((r : Row) → bytes_eq r.id id ≡ true → Fits r → AllFit (change r)) → AllFit missing
      → (rows : List Row) → AllFit rows → AllFit (at_row id change missing rows)
  at_row-fit id change missing changed added [] fit = added
  at_row-fit id change missing changed added (r ∷ rows) fit =
      go (bytes_eq r.id id) refl (at_row-fit id change missing changed added rows fit.1)
    where
      go : (b : Bool) → bytes_eq r.id id ≡ b → AllFit (at_row id change missing rows)
          → AllFit (if b then change r ++ rows else r ∷ at_row id change missing rows)
      go true is later = append-fit (change r) rows (changed r is fit.0) fit.1
      go false is later = (fit.0, later)

  -- the values of an id that are added
  abbrev Adds : Text → Reading → List Text → Type 0
  Adds id how vs = bytes_eq id target ≡ true → (how ≡ readings.AsWritten) × (list_all is_fit vs ≡ true)

  with_values-fit : (id : Text) (how : Reading) (source : ValueSource) (vs : List Text) → Adds id how vs
      → (rows : List Row) → AllFit rows → AllFit (with_values id how source vs rows)
  with_values-fit id how source vs adds = at_row-fit id (more_values source vs) _ changed (adds, tt)
    where
      changed : (r : Row) → bytes_eq r.id id ≡ true → Fits r → AllFit (more_values source vs r)
      changed r is fit = (
        (λ e.
            let same : r.id ≡ id = (bytes_eq-Decides r.id id).0 is in
            let here : bytes_eq id target ≡ true = subst (λ (x : Text). bytes_eq x target ≡ true) same e in
            ((fit e).0, all-append is_fit r.values vs (fit e).1 (adds here).1)),
        tt,
      )

  without-fit : (id : Text) (rows : List Row) → AllFit rows → AllFit (without id rows)
  without-fit id = at_row-fit id (λ r. []) [] (λ r is fit. tt) tt

  with_count-fit : (id : Text) (how : Reading) (source : ValueSource) (n : ℕ) → (bytes_eq id target ≡ true → ⊥)
      → (rows : List Row) → AllFit rows → AllFit (with_count id how source n rows)
  with_count-fit id how source n other = at_row-fit id (new_count source n) _ changed ((λ e. absurd (other e)), tt)
    where
      changed : (r : Row) → bytes_eq r.id id ≡ true → Fits r → AllFit (new_count source n r)
      changed r is fit = (
        (λ e.
            let same : r.id ≡ id = (bytes_eq-Decides r.id id).0 is in
            absurd (other (subst (λ (x : Text). bytes_eq x target ≡ true) same e))),
        tt,
      )

  counted-fit : (id : Text) (how : Reading) (vs : List Text) (rows : List Row) → (bytes_eq id target ≡ true → ⊥)
      → Adds id how vs → AllFit rows → AllFit (counted id how vs rows)
  counted-fit id how [] rows other adds fit =
      with_count-fit id how CommandLine (min (count_of id rows + 1) 255) other (without id rows)
      (without-fit id rows fit)
  counted-fit id how (v ∷ vs) rows other adds fit =
      with_values-fit id how CommandLine (v ∷ vs) adds (without id rows) (without-fit id rows fit)

  used_as-fit : (action : ArgAction) (id : Text) (how : Reading) (vs : List Text) (rows : List Row)
      → (bytes_eq id target ≡ true → action ≡ Set) → Adds id how vs → AllFit rows
      → AllFit (used_as action id how vs rows)
  used_as-fit Set id how vs rows sets adds fit =
      with_values-fit id how CommandLine vs adds (without id rows) (without-fit id rows fit)
  used_as-fit SetTrue id how vs rows sets adds fit =
      with_values-fit id how CommandLine vs adds (without id rows) (without-fit id rows fit)
  used_as-fit SetFalse id how vs rows sets adds fit =
      with_values-fit id how CommandLine vs adds (without id rows) (without-fit id rows fit)
  used_as-fit Append id how vs rows sets adds fit = with_values-fit id how CommandLine vs adds rows fit
  used_as-fit Count id how vs rows sets adds fit = counted-fit id how vs rows (λ e.
      let bad : Count ≡ Set = sets e in cc) adds fit
  used_as-fit Help id how vs rows sets adds fit = fit
  used_as-fit HelpShort id how vs rows sets adds fit = fit
  used_as-fit HelpLong id how vs rows sets adds fit = fit
  used_as-fit Version id how vs rows sets adds fit = fit

  -- ---- one use of an option

  values_kinds-nil : (ignore_case : Bool) (vs : List Text)
      → values_kinds ignore_case (values.Unsigned low high) vs ≡ [] → list_all is_fit vs ≡ true
  values_kinds-nil ignore_case [] nil = refl
  values_kinds-nil ignore_case (v ∷ vs) nil =
      let parts = or_else-nil (value_kinds ignore_case (values.Unsigned low high) v) _ nil in
      go (is_fit v) parts.0 (values_kinds-nil ignore_case vs parts.1)
    where
      go : (b : Bool) → (if b then [] else ValueValidation ∷ []) ≡ [] → list_all is_fit vs ≡ true
          → (b && list_all is_fit vs) ≡ true
      go true first later = later
      go false first later = cc

  values_fault-nil : (a : Rule) (vs : List Text) → a.parser ≡ Some (values.Unsigned low high) → values_fault a vs ≡ []
      → list_all is_fit vs ≡ true
  values_fault-nil a vs is nil = values_kinds-nil a.ignore_case vs
      (subst (λ (o : Option ValueParser). values_kinds a.ignore_case (parser_of_value o) vs ≡ []) is nil)

  suiting-adds : (a : Rule) (vs : List Text) → Suits a → (bytes_eq a.id target ≡ true → values_fault a vs ≡ [])
      → Adds a.id (reading_by a) vs
  suiting-adds a vs suits nil e = (rw (suits e).1 refl, values_fault-nil a vs (suits e).1 (nil e))

  used-fit : (again : Bool) (a : Rule) (vs : List Text) (rows : List Row) → Suits a → use_fault again a vs rows ≡ []
      → AllFit rows → AllFit (used a vs rows)
  used-fit again a vs rows suits nil fit =
      let range = range_kinds (unwrap_or_range a.range).start_inclusive (most_values a) (length vs) in
      let acts = (or_else-nil range _ nil).1 in
      used_as-fit (action_of a) a.id (reading_by a) (values_or_missing a vs) rows (λ e. (suits e).0)
      (suiting-adds a (values_or_missing a vs) suits (λ e.
      (or_else-nil (repeat_fault again a.id rows) _
      (subst (λ (x : ArgAction). action_fault x again a (values_or_missing a vs) rows ≡ []) (suits e).0 acts)).1)) fit

  -- ---- the walk

  module _ (c : List Rule) (all : AllSuit c) (again : Bool) where
    used_by_id-fit : (o : Option Rule) (vs : List Text) (rows : List Row) → IfSuits o
        → option_map_or (λ a. use_fault again a vs rows) o [] ≡ [] → AllFit rows → AllFit (used_by_id o vs rows)
    used_by_id-fit None vs rows suits nil fit = fit
    used_by_id-fit (Some a) vs rows suits nil fit = used-fit again a vs rows suits nil fit

    settled_rows-fit : (pending : Option (Text × List Text)) (rows : List Row)
        → option_map_or (λ p. option_map_or (λ a. use_fault again a p.1 rows) (arg_by_id c p.0) []) pending [] ≡ []
        → AllFit rows → AllFit (settled_rows c pending rows)
    settled_rows-fit None rows nil fit = fit
    settled_rows-fit (Some held) rows nil fit =
        used_by_id-fit (arg_by_id c held.0) held.1 rows (find-suits (λ a. bytes_eq a.id held.0) c all) nil fit

    settled-fit : (h : Held) → settle_fault c again h ≡ [] → AllFit h.rows → AllFit (settled c h).rows
    settled-fit h nil fit = settled_rows-fit h.pending h.rows nil fit

    reacted-fit : (a : Rule) (vs : List Text) (h : Held) → Suits a → react_fault c again a vs h ≡ [] → AllFit h.rows
        → AllFit (reacted c a vs h).rows
    reacted-fit a vs h suits nil fit =
        let parts = or_else-nil (settle_fault c again h) _ nil in
        used-fit again a vs (settled c h).rows suits parts.1 (settled-fit h parts.0 fit)

    option_met-fit : (a : Rule) (v : Option Text) (h : Held) → Suits a → option_fault c again a v h ≡ [] → AllFit h.rows
        → AllFit (option_met c a v h).0.rows
    option_met-fit a (Some v) h suits nil fit = reacted-fit a (v ∷ []) h suits nil fit
    option_met-fit a None h suits nil fit = settled-fit h nil fit

    flag_met-fit : (a : Rule) (v : Option Text) (h : Held) (kinds : Kinds) → Suits a
        → (if is_some v then kinds else react_fault c again a [] h) ≡ [] → AllFit h.rows
        → AllFit (flag_met c a v h).0.rows
    flag_met-fit a (Some v) h kinds suits nil fit = fit
    flag_met-fit a None h kinds suits nil fit = reacted-fit a [] h suits nil fit

    choice-fit : (b : Bool) (x y : Kinds) (m n : Held × Outcome) → (x ≡ [] → AllFit m.0.rows)
        → (y ≡ [] → AllFit n.0.rows)
        → (if b then x else y) ≡ [] → AllFit (if b then m else n).0.rows
    choice-fit true x y m n first second nil = first nil
    choice-fit false x y m n first second nil = second nil

    long_met-fit : (o : Option Rule) (v : Option Text) (h : Held) → IfSuits o → long_fault c again o v h ≡ []
        → AllFit h.rows
        → AllFit (long_met c o v h).0.rows
    long_met-fit None v h suits nil fit = fit
    long_met-fit (Some a) v h suits nil fit = choice-fit (takes_values a) (option_fault c again a v h) _
        (option_met c a v h) (flag_met c a v h) (λ first. option_met-fit a v h suits first fit)
        (λ second. flag_met-fit a v h _ suits second fit) nil

    short_met-fit : (o : Option Rule) (text : Text) (h : Held) (f : Held → Kinds) (g : Held → Held × Outcome)
        → IfSuits o
        → ((x : Held) → f x ≡ [] → AllFit x.rows → AllFit (g x).0.rows)
        → short_fault c again o text h f ≡ [] → AllFit h.rows → AllFit (short_met c o text h g).0.rows
    short_met-fit None text h f g suits goes nil fit = fit
    short_met-fit (Some a) text h f g suits goes nil fit = choice-fit (takes_values a)
        (option_fault c again a (attached_value text) h) (or_else (react_fault c again a [] h) (f (reacted c a [] h)))
        (option_met c a (attached_value text) h) (g (reacted c a [] h))
        (λ first. option_met-fit a (attached_value text) h suits first fit)
        (λ second.
        let parts = or_else-nil (react_fault c again a [] h) _ second in
        goes (reacted c a [] h) parts.1 (reacted-fit a [] h suits parts.0 fit)) nil

    bundle_step-fit : (o : Option ℕ) (flags : Text) (skip : ℕ) (so_far : Outcome) (h : Held)
        (f : Text → ℕ → Held → Kinds)
        (g : Text → ℕ → Outcome → Held → Held × Outcome)
        → ((t : Text) (n : ℕ) (s : Outcome) (x : Held) → f t n x ≡ [] → AllFit x.rows → AllFit (g t n s x).0.rows)
        → bundle_step_fault c again o flags skip h f ≡ [] → AllFit h.rows
        → AllFit (bundle_step c o flags skip so_far h g).0.rows
    bundle_step-fit None flags skip so_far h f g goes nil fit = fit
    bundle_step-fit (Some x) flags zero so_far h f g goes nil fit =
        let left_over : Text = drop (length (encode_utf8 x)) flags in
        short_met-fit (arg_by_short c x) left_over h (f left_over 0) (g left_over 0 done) (find-suits _ c all)
        (goes left_over 0 done) nil fit
    bundle_step-fit (Some x) flags (suc skip) so_far h f g goes nil fit =
        goes (drop (length (encode_utf8 x)) flags) skip so_far h nil fit

    bundle_met-fit : (k : ℕ) (flags : Text) (skip : ℕ) (so_far : Outcome) (h : Held)
        → flags_fault c again k flags skip h ≡ [] → AllFit h.rows → AllFit (bundle_met c k flags skip so_far h).0.rows
    unfolding bundle_met flags_fault
    bundle_met-fit zero flags skip so_far h nil fit = fit
    bundle_met-fit (suc k) flags skip so_far h nil fit = bundle_step-fit (slice_get (chars flags) 0) flags skip so_far h
        (flags_fault c again k) (bundle_met c k) (bundle_met-fit k) nil fit

    option_word-fit : (o : Option Rule) (id word : Text) (h : Held) → AllFit h.rows
        → AllFit (option_word o id word h).0.rows
    option_word-fit None id word h fit = fit
    option_word-fit (Some a) id word h fit = fit

    plain_word-fit : (waiting : Waiting) (word : Text) (h : Held) → AllFit h.rows
        → AllFit (plain_word c waiting word h).0.rows
    plain_word-fit idle word h fit = fit
    plain_word-fit (option id) word h fit = option_word-fit (arg_by_id c id) id word h fit
    plain_word-fit positional word h fit = fit

    after_flag-fit : (waiting : Waiting) (word : Text) (h : Held) (outcome : Outcome) → AllFit h.rows
        → AllFit (after_flag c waiting word h outcome).0.rows
    after_flag-fit waiting word h done fit = fit
    after_flag-fit waiting word h (waits id) fit = fit
    after_flag-fit waiting word h plain fit = plain_word-fit waiting word h fit
    after_flag-fit waiting word h refused fit = plain_word-fit waiting word h fit

    short_or_plain-fit : (waiting : Waiting) (word : Text) (o : Option Text) (h : Held)
        → option_map_or (λ flags. bundle_fault c again flags h) o [] ≡ [] → AllFit h.rows
        → AllFit (short_or_plain c waiting word o h).0.rows
    short_or_plain-fit waiting word (Some flags) h nil fit =
        after_flag-fit waiting word (bundle c flags h).0 (bundle c flags h).1
        (bundle_met-fit (length flags) flags h.skip plain (record h { skip = 0 }) nil fit)
    short_or_plain-fit waiting word None h nil fit = plain_word-fit waiting word h fit

    long_or_other-fit : (waiting : Waiting) (word : Text) (o : Option (Text × Option Text)) (h : Held)
        → flag_word_fault c again o word h ≡ [] → AllFit h.rows → AllFit (long_or_other c waiting word o h).0.rows
    long_or_other-fit waiting word (Some named) h nil fit =
        after_flag-fit waiting word (long_met c (arg_by_long c named.0) named.1 h).0
        (long_met c (arg_by_long c named.0) named.1 h).1
        (long_met-fit (arg_by_long c named.0) named.1 h (find-suits _ c all) nil fit)
    long_or_other-fit waiting word None h nil fit = short_or_plain-fit waiting word (short_of word) h nil fit

    positional_held-fit : (a : Rule) (word : Text) (h : Held) → positional_fault c again a h ≡ [] → AllFit h.rows
        → AllFit (positional_held c a word h).rows
    positional_held-fit a word h nil fit = go (is_pending a h.pending && takes_several a) nil
      where
        go : (b : Bool) → (if b then [] else settle_fault c again h) ≡ [] → AllFit (if b then h else settled c h).rows
        go true none = fit
        go false settles = settled-fit h settles fit

    to_positional-fit : (o : Option Rule) (word : Text) (w : Walk) (h : Held) (stray : Kinds)
        → option_map_or (λ a. positional_fault c again a h) o stray ≡ [] → AllFit h.rows
        → AllFit (to_positional c o word w h).held.rows
    to_positional-fit None word w h stray nil fit = fit
    to_positional-fit (Some a) word w h stray nil fit = positional_held-fit a word h nil fit

  module _ (s : Shape) (all : AllSuit s.rules) where
    subcommand_or_other-fit : (o : Option Text) (waiting : Waiting) (position : ℕ) (word : Text) (h : Held)
        → other_fault s o word h ≡ [] → AllFit h.rows
        → AllFit (subcommand_or_other s.rules o waiting position word h).0.rows
    subcommand_or_other-fit (Some name) waiting position word h nil fit = fit
    subcommand_or_other-fit None waiting position word h nil fit = go (bytes_eq word (45 ∷ 45 ∷ [])) nil
      where
        go : (b : Bool) → (if b then [] else flag_word_fault s.rules s.args_override_self (long_of word) word h) ≡ []
            → AllFit (if b then (h, trailing position) else long_or_other s.rules waiting word (long_of word) h).0.rows
        go true none = fit
        go false flags = long_or_other-fit s.rules all s.args_override_self waiting word (long_of word) h flags fit

    word_met-fit : (names : walks.Names) (is_trailing : Bool) (waiting : Waiting) (position : ℕ) (word : Text)
        (h : Held)
        → word_fault s names is_trailing waiting word h ≡ [] → AllFit h.rows
        → AllFit (word_met s.rules names is_trailing waiting position word h).0.rows
    word_met-fit names true waiting position word h nil fit = fit
    word_met-fit names false waiting position word h nil fit =
        subcommand_or_other-fit (subcommand_met names waiting word) waiting position word h nil fit

    after_step-fit : (word : Text) (w : Walk) (h : Held) (step : Step) → step_fault s w.position h step ≡ []
        → AllFit h.rows
        → AllFit (after_step s.rules word w h step).held.rows
    after_step-fit word w h (next waiting) nil fit = fit
    after_step-fit word w h (trailing position) nil fit = fit
    after_step-fit word w h (subcommand name) nil fit = fit
    after_step-fit word w h value nil fit =
        to_positional-fit s.rules all s.args_override_self (arg_by_index s.rules w.position) word w h
        (stray_fault s) nil fit

    walked_from-fit : (names : walks.Names) (o : Option (Text × List Text)) (w : Walk) (word : Text)
        → (let met = word_met s.rules names w.is_trailing w.waiting w.position word w.held in
        if is_some o then [] else or_else (word_fault s names w.is_trailing w.waiting word w.held)
        (step_fault s w.position met.0 met.1)) ≡ [] → AllFit w.held.rows
        → AllFit (walked_from s.rules names o w word).held.rows
    walked_from-fit names (Some stop) w word nil fit = fit
    walked_from-fit names None w word nil fit =
        let met = word_met s.rules names w.is_trailing w.waiting w.position word w.held in
        let parts = or_else-nil (word_fault s names w.is_trailing w.waiting word w.held) _ nil in
        after_step-fit word w met.0 met.1 parts.1
        (word_met-fit names w.is_trailing w.waiting w.position word w.held parts.0 fit)

    walked-fit : (names : walks.Names) (w : Walk) (word : Text) → turn_fault s names w word ≡ [] → AllFit w.held.rows
        → AllFit (walked s.rules names w word).held.rows
    unfolding walked
    walked-fit names w word nil fit = walked_from-fit names w.stopped w word nil fit

    pub walk-fit : (names : walks.Names) (words : List Text) (w : Walk) → walk_fault s names w words ≡ []
        → AllFit w.held.rows
        → AllFit (fold (walked s.rules names) w words).held.rows
    unfolding walk_fault
    walk-fit names [] w nil fit = fit
    walk-fit names (word ∷ words) w nil fit =
        let parts = or_else-nil (turn_fault s names w word) _ nil in
        walk-fit names words (walked s.rules names w word) parts.1 (walked-fit names w word parts.0 fit)

  -- ---- after the walk

  default_rows-fit : (id : Text) (how : Reading) (vs : List Text) (rows : List Row) → Adds id how vs → AllFit rows
      → AllFit (default_rows id how vs rows)
  default_rows-fit id how [] rows adds fit = fit
  default_rows-fit id how (v ∷ vs) rows adds fit = with_values-fit id how DefaultValue (v ∷ vs) adds rows fit

  given-nil : (a : Rule) (vs : List Text) → (if is_empty vs then [] else given_default_fault a vs) ≡ []
      → values_fault a vs ≡ []
  given-nil a [] nil = refl
  given-nil a (v ∷ vs) nil =
      let some : is_empty (v ∷ vs) ≡ false = ne_eqb (length (v ∷ vs)) 0 (λ e. omega arith) in
      (or_else-nil (request_kinds (action_of a)) _ (rw some at nil)).1

  with_default-fit : (a : Rule) (rows : List Row) → Suits a → default_fault rows a ≡ [] → AllFit rows
      → AllFit (with_default rows a)
  with_default-fit a rows suits nil fit = go (has_row a.id rows) nil
    where
      go : (b : Bool) → (if b || is_empty a.defaults then [] else given_default_fault a a.defaults) ≡ []
          → AllFit (if b then rows else default_rows a.id (reading_by a) a.defaults rows)
      go true none = fit
      go false given = default_rows-fit a.id (reading_by a) a.defaults rows
          (suiting-adds a a.defaults suits (λ e. given-nil a a.defaults given)) fit

  pub defaults-fit : (rules : List Rule) (rows : List Row) → AllSuit rules → defaults_fault rows rules ≡ []
      → AllFit rows
      → AllFit (fold with_default rows rules)
  unfolding defaults_fault
  defaults-fit [] rows all nil fit = fit
  defaults-fit (a ∷ rules) rows all nil fit =
      let parts = or_else-nil (default_fault rows a) _ nil in
      defaults-fit rules (with_default rows a) all.1 parts.1 (with_default-fit a rows all.0 parts.0 fit)

  -- the rows of words with which nothing is wrong
  pub rows_after-fit : (s : Shape) → AllSuit s.rules → (words : List Text) (has_subcommand : Bool) (below : Kinds)
      → level_fault s [] nothing_held words has_subcommand below ≡ [] → AllFit (rows_after s.rules [] words)
  rows_after-fit s all words has_subcommand below nil =
      let end = (fold (walked s.rules []) (walk_from nothing_held) words).held in
      let walking = or_else-nil (walk_fault s [] (walk_from nothing_held) words) _ nil in
      let settling = or_else-nil (settle_fault s.rules s.args_override_self end) _ (or_else-nil below _ walking.1).1 in
      let defaulting = or_else-nil (defaults_fault (settled s.rules end).rows s.rules) _ settling.1 in
      defaults-fit s.rules (settled s.rules end).rows all defaulting.0
      (settled-fit s.rules all s.args_override_self end settling.0
      (walk-fit s all [] words (walk_from nothing_held) walking.0 tt))

  -- the value of the option
  abbrev IsIn : Option Text → Type 0
  IsIn None = ⊤
  IsIn (Some text) = is_fit text ≡ true

  row_text-in : (how : Reading) (vs : List Text) → how ≡ readings.AsWritten → list_all is_fit vs ≡ true
      → IsIn (option_map (read_as how) (slice_get vs 0))
  row_text-in how [] written fit = tt
  row_text-in how (v ∷ vs) written fit = rw written (both (is_fit v) (list_all is_fit vs) fit).0

  one_of-in : (rows : List Row) → AllFit rows → IsIn (one_of target rows)
  one_of-in [] fit = tt
  one_of-in (r ∷ rows) fit = go (bytes_eq r.id target) refl (one_of-in rows fit.1)
    where
      go : (b : Bool) → bytes_eq r.id target ≡ b → IsIn (one_of target rows)
          → IsIn (option_and_then row_text (if b then Some r else find (λ x. bytes_eq x.id target) rows))
      go true is later = row_text-in r.reading r.values (fit.0 is).0 (fit.0 is).1
      go false is later = later

  number_in-bounds : (bits default : ℕ) (text : Option Text) → IsIn text → low ≤ default → default ≤ high
      → (low ≤ unwrap_or (option_and_then (number_in bits) text) default)
      × (unwrap_or (option_and_then (number_in bits) text) default ≤ high)
  number_in-bounds bits default None is least most = (least, most)
  number_in-bounds bits default (Some text) is least most =
      let digits = without_leading_plus text in
      let number = digits_value 10 digits in
      let ends = both _ _ (both _ _ (both _ _ is).1).1 in
      go (is_numeral digits && nat_lt number (2 ^ bits)) number (leb-true _ _ ends.0) (leb-true _ _ ends.1)
    where
      go : (b : Bool) (number : ℕ) → low ≤ number → number ≤ high
          → (low ≤ unwrap_or (if b then Some number else None) default)
          × (unwrap_or (if b then Some number else None) default ≤ high)
      go true number above below = (above, below)
      go false number above below = (least, most)

  pub number_of-bounds : (bits default : ℕ) (rows : List Row) → AllFit rows → low ≤ default → default ≤ high
      → (low ≤ unwrap_or (number_of bits target rows) default) × (unwrap_or (number_of bits target rows) default ≤ high)
  number_of-bounds bits default rows fit least most =
      number_in-bounds bits default (one_of target rows) (one_of-in rows fit) least most
