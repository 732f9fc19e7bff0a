-- Two lists of rules that differ in the names of the first rule's parser alone: a walk makes the same of both.
use Rattle.std.proofs.Common.{◌≡◌, ◌∙◌, ◌==◌, ◌&&◌, ◌||◌, ℕ, Bool, zero, suc, true, false, not, refl, ap, cond, List}
use Rattle.std.proofs.Common.{[], ◌∷◌, Option, Some, None, is_some, length, drop, if◌then◌else◌}
use Rattle.std.specs.Prelude.{encode_utf8, fold, slice_get}
use Rattle.std.specs.Option.{option_map_or}
use Rattle.std.specs.Str.{bytes_eq, chars}
use Rattle.clap.specs.Lexer.{long_of, short_of}
use Rattle.clap.specs.Walk.{Held, Outcome, Row, Rule, Step, Text, Waiting, Walk, after_flag, after_step, arg_by_id}
use Rattle.clap.specs.Walk.{arg_by_index, arg_by_long, arg_by_short, attached_value, bundle, bundle_met, bundle_step}
use Rattle.clap.specs.Walk.{done, finished, flag_met, has_long, has_short, idle, is_multiple, is_pending, long_met}
use Rattle.clap.specs.Walk.{long_or_other, long_word, next, next_position, nothing_held, option, option_met}
use Rattle.clap.specs.Walk.{option_word, plain, plain_word, positional, positional_held, pushed, reacted, refused}
use Rattle.clap.specs.Walk.{rows_after, settled, settled_rows, short_met, short_or_plain, short_word, subcommand}
use Rattle.clap.specs.Walk.{subcommand_met, subcommand_or_other, takes_several, takes_values, to_positional, trailing}
use Rattle.clap.specs.Walk.{used, used_by_id, value, waits, walk_from, walked, walked_from, with_default, word_met}
use Rattle.clap.specs.Walk as walks
use Rattle.clap.specs.declared.builder.value_parser.ValueParser.TheVariants as values
use Rattle.sm_command_line.specs.Command.{Names}

-- equal choices
pub choice-same : {X : Type 0} (b : Bool) {x y z w : X} → x ≡ y → z ≡ w → (if b then x else z) ≡ (if b then y else w)
choice-same true first second = first
choice-same false first second = second

-- the rule, by a parser of these names
abbrev pub named_by : Rule → Names → Rule
named_by rule names = record rule { parser = Some (values.Names names) }

module _ (rule : Rule) (rest : List Rule) (p q : Names) where
  abbrev left : Rule
  left = named_by rule p

  abbrev right : Rule
  right = named_by rule q

  abbrev lefts : List Rule
  lefts = left ∷ rest

  abbrev rights : List Rule
  rights = right ∷ rest

  -- a search finds the first rule in both or in neither
  pub found-same : {X : Type 0} (f : Option Rule → X) (b : Bool) (o : Option Rule) → f (Some left) ≡ f (Some right)
      → f (cond b (Some left) o) ≡ f (cond b (Some right) o)
  found-same f true o first = first
  found-same f false o first = refl

  settled_rows-same : (pending : Option (Text × List Text)) (rows : List Row)
      → settled_rows lefts pending rows ≡ settled_rows rights pending rows
  settled_rows-same None rows = refl
  settled_rows-same (Some held) rows =
      found-same (λ o. used_by_id o held.1 rows) (bytes_eq rule.id held.0) (arg_by_id rest held.0) refl

  pub settled-same : (h : Held) → settled lefts h ≡ settled rights h
  settled-same h =
      let f : List Row → Held = λ rows. record h { rows = rows; pending = None } in
      ap f (settled_rows-same h.pending h.rows)

  pub reacted-same : (a : Rule) (vs : List Text) (h : Held) → reacted lefts a vs h ≡ reacted rights a vs h
  reacted-same a vs h =
      let f : Held → Held = λ s. record h { rows = used a vs s.rows; pending = None } in
      ap f (settled-same h)

  option_met-same : (a : Rule) (v : Option Text) (h : Held) → option_met lefts a v h ≡ option_met rights a v h
  option_met-same a (Some v) h =
      let f : Held → Held × Outcome = λ x. (x, done) in
      ap f (reacted-same a (v ∷ []) h)
  option_met-same a None h =
      let f : Held → Held × Outcome = λ s. (record s { pending = Some (a.id, []) }, waits a.id) in
      ap f (settled-same h)

  flag_met-same : (a : Rule) (v : Option Text) (h : Held) → flag_met lefts a v h ≡ flag_met rights a v h
  flag_met-same a (Some v) h = refl
  flag_met-same a None h =
      let f : Held → Held × Outcome = λ x. (x, done) in
      ap f (reacted-same a [] h)

  long_met-by : (o : Option Rule) (v : Option Text) (h : Held) → long_met lefts o v h ≡ long_met rights o v h
  long_met-by None v h = refl
  long_met-by (Some a) v h = choice-same (takes_values a) (option_met-same a v h) (flag_met-same a v h)

  long_met-same : (name : Text) (v : Option Text) (h : Held)
      → long_met lefts (arg_by_long lefts name) v h ≡ long_met rights (arg_by_long rights name) v h
  long_met-same name v h = long_met-by (arg_by_long lefts name) v h
      ∙ found-same (λ o. long_met rights o v h) (not (is_some rule.index) && has_long rule name)
      (arg_by_long rest name) refl

  short_met-by : (o : Option Rule) (text : Text) (h : Held) (f g : Held → Held × Outcome) → ((x : Held) → f x ≡ g x)
      → short_met lefts o text h f ≡ short_met rights o text h g
  short_met-by None text h f g same = refl
  short_met-by (Some a) text h f g same = choice-same (takes_values a) (option_met-same a (attached_value text) h)
      (ap f (reacted-same a [] h) ∙ same (reacted rights a [] h))

  short_met-same : (x : ℕ) (text : Text) (h : Held) (f g : Held → Held × Outcome) → ((x : Held) → f x ≡ g x)
      → short_met lefts (arg_by_short lefts x) text h f ≡ short_met rights (arg_by_short rights x) text h g
  short_met-same x text h f g same = short_met-by (arg_by_short lefts x) text h f g same
      ∙ found-same (λ o. short_met rights o text h g) (not (is_some rule.index) && has_short rule x)
      (arg_by_short rest x) refl

  bundle_step-same : (o : Option ℕ) (flags : Text) (skip : ℕ) (so_far : Outcome) (h : Held)
      (f g : Text → ℕ → Outcome → Held → Held × Outcome)
      → ((t : Text) (n : ℕ) (s : Outcome) (x : Held) → f t n s x ≡ g t n s x)
      → bundle_step lefts o flags skip so_far h f ≡ bundle_step rights o flags skip so_far h g
  bundle_step-same None flags skip so_far h f g same = refl
  bundle_step-same (Some x) flags zero so_far h f g same =
      let left_over : Text = drop (length (encode_utf8 x)) flags in
      short_met-same x left_over h (f left_over 0 done) (g left_over 0 done) (same left_over 0 done)
  bundle_step-same (Some x) flags (suc skip) so_far h f g same =
      same (drop (length (encode_utf8 x)) flags) skip so_far h

  bundle_met-same : (k : ℕ) (flags : Text) (skip : ℕ) (so_far : Outcome) (h : Held)
      → bundle_met lefts k flags skip so_far h ≡ bundle_met rights k flags skip so_far h
  unfolding bundle_met
  bundle_met-same zero flags skip so_far h = refl
  bundle_met-same (suc k) flags skip so_far h = bundle_step-same (slice_get (chars flags) 0) flags skip so_far h
      (bundle_met lefts k) (bundle_met rights k) (bundle_met-same k)

  plain_word-same : (waiting : Waiting) (word : Text) (h : Held)
      → plain_word lefts waiting word h ≡ plain_word rights waiting word h
  plain_word-same idle word h = refl
  plain_word-same (option id) word h =
      let f : Option Rule → Held × Step = λ o. ((option_word o id word h).0, next (option_word o id word h).1) in
      found-same f (bytes_eq rule.id id) (arg_by_id rest id) refl
  plain_word-same positional word h = refl

  after_flag-same : (waiting : Waiting) (word : Text) (h : Held) (outcome : Outcome)
      → after_flag lefts waiting word h outcome ≡ after_flag rights waiting word h outcome
  after_flag-same waiting word h done = refl
  after_flag-same waiting word h (waits id) = refl
  after_flag-same waiting word h plain = plain_word-same waiting word h
  after_flag-same waiting word h refused = plain_word-same waiting word h

  after_met-same : (waiting : Waiting) (word : Text) (x y : Held × Outcome) → x ≡ y
      → after_flag lefts waiting word x.0 x.1 ≡ after_flag rights waiting word y.0 y.1
  after_met-same waiting word x y same = after_flag-same waiting word x.0 x.1
      ∙ ap (λ (met : Held × Outcome). after_flag rights waiting word met.0 met.1) same

  short_or_plain-same : (waiting : Waiting) (word : Text) (o : Option Text) (h : Held)
      → short_or_plain lefts waiting word o h ≡ short_or_plain rights waiting word o h
  short_or_plain-same waiting word (Some flags) h =
      after_met-same waiting word (bundle lefts flags h) (bundle rights flags h)
      (bundle_met-same (length flags) flags h.skip plain (record h { skip = 0 }))
  short_or_plain-same waiting word None h = plain_word-same waiting word h

  long_or_other-same : (waiting : Waiting) (word : Text) (o : Option (Text × Option Text)) (h : Held)
      → long_or_other lefts waiting word o h ≡ long_or_other rights waiting word o h
  long_or_other-same waiting word (Some named) h = after_met-same waiting word
      (long_met lefts (arg_by_long lefts named.0) named.1 h) (long_met rights (arg_by_long rights named.0) named.1 h)
      (long_met-same named.0 named.1 h)
  long_or_other-same waiting word None h = short_or_plain-same waiting word (short_of word) h

  subcommand_or_other-same : (o : Option Text) (waiting : Waiting) (position : ℕ) (word : Text) (h : Held)
      → subcommand_or_other lefts o waiting position word h ≡ subcommand_or_other rights o waiting position word h
  subcommand_or_other-same (Some name) waiting position word h = refl
  subcommand_or_other-same None waiting position word h =
      choice-same (bytes_eq word (45 ∷ 45 ∷ [])) refl (long_or_other-same waiting word (long_of word) h)

  pub word_met-same : (names : walks.Names) (is_trailing : Bool) (waiting : Waiting) (position : ℕ) (word : Text)
      (h : Held)
      → word_met lefts names is_trailing waiting position word h
      ≡ word_met rights names is_trailing waiting position word h
  word_met-same names is_trailing waiting position word h = choice-same is_trailing refl
      (subcommand_or_other-same (subcommand_met names waiting word) waiting position word h)

  positional_held-same : (a : Rule) (word : Text) (h : Held)
      → positional_held lefts a word h ≡ positional_held rights a word h
  positional_held-same a word h =
      ap (pushed a.id word) (choice-same (is_pending a h.pending && takes_several a) refl (settled-same h))

  to_positional-by : (o : Option Rule) (word : Text) (w : Walk) (h : Held)
      → to_positional lefts o word w h ≡ to_positional rights o word w h
  to_positional-by None word w h = refl
  to_positional-by (Some a) word w h =
      let f : Held → Walk = λ x. record {
        held = x;
        waiting = if is_multiple a then positional else idle;
        position = next_position a w.position;
        is_trailing = w.is_trailing || a.trailing_var_arg;
        stopped = None;
      } in
      ap f (positional_held-same a word h)

  after_step-same : (word : Text) (w : Walk) (h : Held) (step : Step)
      → after_step lefts word w h step ≡ after_step rights word w h step
  after_step-same word w h (next waiting) = refl
  after_step-same word w h (trailing position) = refl
  after_step-same word w h (subcommand name) = refl
  after_step-same word w h value = to_positional-by (arg_by_index lefts w.position) word w h
      ∙ found-same (λ o. to_positional rights o word w h) (option_map_or (λ k. k == w.position) rule.index false)
      (arg_by_index rest w.position) refl

  walked_from-same : (names : walks.Names) (o : Option (Text × List Text)) (w : Walk) (word : Text)
      → walked_from lefts names o w word ≡ walked_from rights names o w word
  walked_from-same names (Some stop) w word = refl
  walked_from-same names None w word =
      let met = word_met lefts names w.is_trailing w.waiting w.position word w.held in
      after_step-same word w met.0 met.1
      ∙ ap (λ (m : Held × Step). after_step rights word w m.0 m.1)
      (word_met-same names w.is_trailing w.waiting w.position word w.held)

  pub walked-same : (names : walks.Names) (w : Walk) (word : Text)
      → walked lefts names w word ≡ walked rights names w word
  unfolding walked
  walked-same names w word = walked_from-same names w.stopped w word

  pub walk-same : (names : walks.Names) (words : List Text) (w : Walk)
      → fold (walked lefts names) w words ≡ fold (walked rights names) w words
  walk-same names [] w = refl
  walk-same names (word ∷ words) w = walk-same names words (walked lefts names w word)
      ∙ ap (λ (v : Walk). fold (walked rights names) v words) (walked-same names w word)

  pub finished-same : (h : Held) → finished lefts h ≡ finished rights h
  finished-same h = ap (λ (s : Held). fold with_default s.rows lefts) (settled-same h)

  pub rows_after-same : (names : walks.Names) (words : List Text)
      → rows_after lefts names words ≡ rows_after rights names words
  rows_after-same names words = finished-same (fold (walked lefts names) (walk_from nothing_held) words).held
      ∙ ap (λ (w : Walk). finished rights w.held) (walk-same names words (walk_from nothing_held))
