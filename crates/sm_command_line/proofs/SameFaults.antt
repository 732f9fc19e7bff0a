-- Two lists of rules that differ in the names of the first rule's parser alone, where the parsers accept the same
-- texts: the same is wrong with words by both.
use Rattle.std.proofs.Common.{◌≡◌, ◌∙◌, ◌+◌, ◌==◌, ◌&&◌, ◌||◌, ℕ, Bool, zero, suc, false, not, refl, ap, ap₂, List}
use Rattle.std.proofs.Common.{[], ◌∷◌, Option, Some, None, is_some, length, drop, if◌then◌else◌}
use Rattle.std.specs.Prelude.{encode_utf8, fold, min, slice_get}
use Rattle.std.specs.Option.{option_map_or}
use Rattle.std.specs.Str.{bytes_eq, chars}
use Rattle.clap.specs.Facts.{unwrap_or_range}
use Rattle.clap.specs.Faults.{action_fault, built_fault, bundle_fault, bundle_step_fault, check_fault, count_fault}
use Rattle.clap.specs.Faults.{default_fault, defaults_fault, entered_fault, flag_word_fault, flags_fault, level_fault}
use Rattle.clap.specs.Faults.{long_fault, option_fault, other_fault, positional_fault, react_fault, repeat_fault}
use Rattle.clap.specs.Faults.{settle_fault, short_fault, step_fault, stray_fault, turn_fault, use_fault, walk_fault}
use Rattle.clap.specs.Faults.{word_fault}
use Rattle.clap.specs.Kinds.{Kinds, or_else, range_kinds, request_kinds, value_kinds, values_kinds}
use Rattle.clap.specs.Lexer.{long_of, short_of}
use Rattle.clap.specs.Matches.{count_text}
use Rattle.clap.specs.Simple.{App, Shape, entered}
use Rattle.clap.specs.ValueTests.{accepts}
use Rattle.clap.specs.Walk.{Held, Row, Rule, Step, Text, Waiting, Walk, action_of, arg_by_id, arg_by_index}
use Rattle.clap.specs.Walk.{arg_by_long, arg_by_short, attached_value, count_of, finished, has_long, has_row}
use Rattle.clap.specs.Walk.{has_short, is_empty, is_pending, most_values, next, nothing_held, reacted, settled}
use Rattle.clap.specs.Walk.{subcommand, subcommand_met, takes_several, takes_values, trailing, value}
use Rattle.clap.specs.Walk.{values_or_missing, walk_from, walked, with_default, word_met}
use Rattle.clap.specs.Walk as walks
use Rattle.clap.specs.declared.builder.action.ArgAction.{ArgAction}
use Rattle.clap.specs.declared.builder.action.ArgAction.TheVariants.{Append, Count, Help, HelpLong, HelpShort, Set}
use Rattle.clap.specs.declared.builder.action.ArgAction.TheVariants.{SetFalse, SetTrue, Version}
use Rattle.clap.specs.declared.builder.value_parser.ValueParser.TheVariants as values
use Rattle.clap.specs.declared.error.kind.ErrorKind.TheVariants.{InvalidValue}
use Rattle.sm_command_line.specs.Command.{Names}
use Rattle.sm_command_line.proofs.SameWalk.{choice-same, finished-same, found-same, named_by, reacted-same, settled-same}
use Rattle.sm_command_line.proofs.SameWalk.{walk-same, walked-same, word_met-same}

module _ (rule : Rule) (rest : List Rule) (p q : Names)
    (accepted : (text : Text)
    → accepts rule.ignore_case (values.Names p) text ≡ accepts rule.ignore_case (values.Names q) text) where
  abbrev left : Rule
  left = named_by rule p

  abbrev right : Rule
  right = named_by rule q

  abbrev lefts : List Rule
  lefts = left ∷ rest

  abbrev rights : List Rule
  rights = right ∷ rest

  -- ---- one use of an option

  value_kinds-same : (text : Text)
      → value_kinds rule.ignore_case (values.Names p) text ≡ value_kinds rule.ignore_case (values.Names q) text
  value_kinds-same text =
      let f : Bool → Kinds = λ b. if b then [] else InvalidValue ∷ [] in
      ap f (accepted text)

  values_kinds-same : (vs : List Text)
      → values_kinds rule.ignore_case (values.Names p) vs ≡ values_kinds rule.ignore_case (values.Names q) vs
  values_kinds-same [] = refl
  values_kinds-same (v ∷ vs) = ap₂ or_else (value_kinds-same v) (values_kinds-same vs)

  count_fault-same : (vs : List Text) (rows : List Row) → count_fault left vs rows ≡ count_fault right vs rows
  count_fault-same [] rows = value_kinds-same (count_text (min (count_of rule.id rows + 1) 255))
  count_fault-same (v ∷ vs) rows = values_kinds-same (v ∷ vs)

  action_fault-same : (action : ArgAction) (again : Bool) (vs : List Text) (rows : List Row)
      → action_fault action again left vs rows ≡ action_fault action again right vs rows
  action_fault-same Set again vs rows = ap (or_else (repeat_fault again rule.id rows)) (values_kinds-same vs)
  action_fault-same SetTrue again vs rows = ap (or_else (repeat_fault again rule.id rows)) (values_kinds-same vs)
  action_fault-same SetFalse again vs rows = ap (or_else (repeat_fault again rule.id rows)) (values_kinds-same vs)
  action_fault-same Append again vs rows = values_kinds-same vs
  action_fault-same Count again vs rows = count_fault-same vs rows
  action_fault-same Help again vs rows = refl
  action_fault-same HelpShort again vs rows = refl
  action_fault-same HelpLong again vs rows = refl
  action_fault-same Version again vs rows = refl

  use_fault-same : (again : Bool) (vs : List Text) (rows : List Row)
      → use_fault again left vs rows ≡ use_fault again right vs rows
  use_fault-same again vs rows =
      ap (or_else (range_kinds (unwrap_or_range rule.range).start_inclusive (most_values rule) (length vs)))
      (action_fault-same (action_of rule) again (values_or_missing rule vs) rows)

  -- ---- the walk

  pending_fault-same : (again : Bool) (pending : Option (Text × List Text)) (rows : List Row)
      → option_map_or (λ x. option_map_or (λ a. use_fault again a x.1 rows) (arg_by_id lefts x.0) []) pending []
      ≡ option_map_or (λ x. option_map_or (λ a. use_fault again a x.1 rows) (arg_by_id rights x.0) []) pending []
  pending_fault-same again None rows = refl
  pending_fault-same again (Some held) rows = found-same rule rest p q
      (λ o. option_map_or (λ a. use_fault again a held.1 rows) o []) (bytes_eq rule.id held.0) (arg_by_id rest held.0)
      (use_fault-same again held.1 rows)

  settle_fault-same : (again : Bool) (h : Held) → settle_fault lefts again h ≡ settle_fault rights again h
  settle_fault-same again h = pending_fault-same again h.pending h.rows

  react_fault-same : (again : Bool) (a : Rule) (vs : List Text) (h : Held)
      → react_fault lefts again a vs h ≡ react_fault rights again a vs h
  react_fault-same again a vs h = ap₂ or_else (settle_fault-same again h)
      (ap (λ (s : Held). use_fault again a vs s.rows) (settled-same rule rest p q h))

  react_fault-first : (again : Bool) (vs : List Text) (h : Held)
      → react_fault rights again left vs h ≡ react_fault rights again right vs h
  react_fault-first again vs h =
      ap (or_else (settle_fault rights again h)) (use_fault-same again vs (settled rights h).rows)

  option_fault-same : (again : Bool) (a : Rule) (v : Option Text) (h : Held)
      → option_fault lefts again a v h ≡ option_fault rights again a v h
  option_fault-same again a (Some v) h = react_fault-same again a (v ∷ []) h
  option_fault-same again a None h = settle_fault-same again h

  option_fault-first : (again : Bool) (v : Option Text) (h : Held)
      → option_fault rights again left v h ≡ option_fault rights again right v h
  option_fault-first again (Some v) h = react_fault-first again (v ∷ []) h
  option_fault-first again None h = refl

  long_fault-by : (again : Bool) (o : Option Rule) (v : Option Text) (h : Held)
      → long_fault lefts again o v h ≡ long_fault rights again o v h
  long_fault-by again None v h = refl
  long_fault-by again (Some a) v h = choice-same (takes_values a) (option_fault-same again a v h)
      (choice-same (is_some v) refl (react_fault-same again a [] h))

  long_fault-first : (again : Bool) (v : Option Text) (h : Held)
      → long_fault rights again (Some left) v h ≡ long_fault rights again (Some right) v h
  long_fault-first again v h = choice-same (takes_values rule) (option_fault-first again v h)
      (choice-same (is_some v) refl (react_fault-first again [] h))

  long_fault-same : (again : Bool) (name : Text) (v : Option Text) (h : Held)
      → long_fault lefts again (arg_by_long lefts name) v h ≡ long_fault rights again (arg_by_long rights name) v h
  long_fault-same again name v h = long_fault-by again (arg_by_long lefts name) v h
      ∙ found-same rule rest p q (λ o. long_fault rights again o v h) (not (is_some rule.index) && has_long rule name)
      (arg_by_long rest name) (long_fault-first again v h)

  short_fault-by : (again : Bool) (o : Option Rule) (text : Text) (h : Held) (f g : Held → Kinds)
      → ((x : Held) → f x ≡ g x)
      → short_fault lefts again o text h f ≡ short_fault rights again o text h g
  short_fault-by again None text h f g same = refl
  short_fault-by again (Some a) text h f g same =
      choice-same (takes_values a) (option_fault-same again a (attached_value text) h)
      (ap₂ or_else (react_fault-same again a [] h)
      (ap f (reacted-same rule rest p q a [] h) ∙ same (reacted rights a [] h)))

  short_fault-first : (again : Bool) (text : Text) (h : Held) (g : Held → Kinds)
      → short_fault rights again (Some left) text h g ≡ short_fault rights again (Some right) text h g
  short_fault-first again text h g = choice-same (takes_values rule) (option_fault-first again (attached_value text) h)
      (ap (λ (kinds : Kinds). or_else kinds (g (reacted rights left [] h))) (react_fault-first again [] h))

  short_fault-same : (again : Bool) (x : ℕ) (text : Text) (h : Held) (f g : Held → Kinds) → ((y : Held) → f y ≡ g y)
      → short_fault lefts again (arg_by_short lefts x) text h f
      ≡ short_fault rights again (arg_by_short rights x) text h g
  short_fault-same again x text h f g same = short_fault-by again (arg_by_short lefts x) text h f g same
      ∙ found-same rule rest p q (λ o. short_fault rights again o text h g)
      (not (is_some rule.index) && has_short rule x)
      (arg_by_short rest x) (short_fault-first again text h g)

  bundle_step_fault-same : (again : Bool) (o : Option ℕ) (flags : Text) (skip : ℕ) (h : Held)
      (f g : Text → ℕ → Held → Kinds)
      → ((t : Text) (n : ℕ) (x : Held) → f t n x ≡ g t n x)
      → bundle_step_fault lefts again o flags skip h f ≡ bundle_step_fault rights again o flags skip h g
  bundle_step_fault-same again None flags skip h f g same = refl
  bundle_step_fault-same again (Some x) flags zero h f g same =
      let left_over : Text = drop (length (encode_utf8 x)) flags in
      short_fault-same again x left_over h (f left_over 0) (g left_over 0) (same left_over 0)
  bundle_step_fault-same again (Some x) flags (suc skip) h f g same = same (drop (length (encode_utf8 x)) flags) skip h

  flags_fault-same : (again : Bool) (k : ℕ) (flags : Text) (skip : ℕ) (h : Held)
      → flags_fault lefts again k flags skip h ≡ flags_fault rights again k flags skip h
  unfolding flags_fault
  flags_fault-same again zero flags skip h = refl
  flags_fault-same again (suc k) flags skip h = bundle_step_fault-same again (slice_get (chars flags) 0) flags skip h
      (flags_fault lefts again k) (flags_fault rights again k) (flags_fault-same again k)

  bundle_fault-any : (again : Bool) (o : Option Text) (h : Held)
      → option_map_or (λ flags. bundle_fault lefts again flags h) o []
      ≡ option_map_or (λ flags. bundle_fault rights again flags h) o []
  bundle_fault-any again None h = refl
  bundle_fault-any again (Some flags) h = flags_fault-same again (length flags) flags h.skip (record h { skip = 0 })

  flag_word_fault-same : (again : Bool) (o : Option (Text × Option Text)) (word : Text) (h : Held)
      → flag_word_fault lefts again o word h ≡ flag_word_fault rights again o word h
  flag_word_fault-same again (Some named) word h = long_fault-same again named.0 named.1 h
  flag_word_fault-same again None word h = bundle_fault-any again (short_of word) h

  -- ---- the command

  abbrev with_lefts : Shape → Shape
  with_lefts s = record s { rules = lefts }

  abbrev with_rights : Shape → Shape
  with_rights s = record s { rules = rights }

  other_fault-same : (s : Shape) (o : Option Text) (word : Text) (h : Held)
      → other_fault (with_lefts s) o word h ≡ other_fault (with_rights s) o word h
  other_fault-same s (Some name) word h = refl
  other_fault-same s None word h = choice-same (bytes_eq word (45 ∷ 45 ∷ [])) refl
      (flag_word_fault-same s.args_override_self (long_of word) word h)

  word_fault-same : (s : Shape) (names : walks.Names) (is_trailing : Bool) (waiting : Waiting) (word : Text) (h : Held)
      → word_fault (with_lefts s) names is_trailing waiting word h
      ≡ word_fault (with_rights s) names is_trailing waiting word h
  word_fault-same s names is_trailing waiting word h =
      choice-same is_trailing refl (other_fault-same s (subcommand_met names waiting word) word h)

  positional_fault-by : (again : Bool) (o : Option Rule) (h : Held) (stray : Kinds)
      → option_map_or (λ a. positional_fault lefts again a h) o stray
      ≡ option_map_or (λ a. positional_fault rights again a h) o stray
  positional_fault-by again None h stray = refl
  positional_fault-by again (Some a) h stray =
      choice-same (is_pending a h.pending && takes_several a) refl (settle_fault-same again h)

  step_fault-same : (s : Shape) (position : ℕ) (h : Held) (step : Step)
      → step_fault (with_lefts s) position h step ≡ step_fault (with_rights s) position h step
  step_fault-same s position h (next waiting) = refl
  step_fault-same s position h (trailing place) = refl
  step_fault-same s position h (subcommand name) = refl
  step_fault-same s position h value =
      positional_fault-by s.args_override_self (arg_by_index lefts position) h (stray_fault s)
      ∙ found-same rule rest p q
      (λ o. option_map_or (λ a. positional_fault rights s.args_override_self a h) o (stray_fault s))
      (option_map_or (λ k. k == position) rule.index false) (arg_by_index rest position) refl

  turn_fault-same : (s : Shape) (names : walks.Names) (w : Walk) (word : Text)
      → turn_fault (with_lefts s) names w word ≡ turn_fault (with_rights s) names w word
  turn_fault-same s names w word =
      let met = word_met lefts names w.is_trailing w.waiting w.position word w.held in
      choice-same (is_some w.stopped) refl (ap₂ or_else (word_fault-same s names w.is_trailing w.waiting word w.held)
      (step_fault-same s w.position met.0 met.1
      ∙ ap (λ (m : Held × Step). step_fault (with_rights s) w.position m.0 m.1)
      (word_met-same rule rest p q names w.is_trailing w.waiting w.position word w.held)))

  walk_fault-same : (s : Shape) (names : walks.Names) (words : List Text) (w : Walk)
      → walk_fault (with_lefts s) names w words ≡ walk_fault (with_rights s) names w words
  unfolding walk_fault
  walk_fault-same s names [] w = refl
  walk_fault-same s names (word ∷ words) w = ap₂ or_else (turn_fault-same s names w word)
      (walk_fault-same s names words (walked lefts names w word)
      ∙ ap (λ (v : Walk). walk_fault (with_rights s) names v words) (walked-same rule rest p q names w word))

  -- ---- after the walk

  default_fault-first : (rows : List Row) → default_fault rows left ≡ default_fault rows right
  default_fault-first rows = choice-same (has_row rule.id rows || is_empty rule.defaults) refl
      (ap (or_else (request_kinds (action_of rule))) (values_kinds-same rule.defaults))

  defaults_fault-same : (rows : List Row) → defaults_fault rows lefts ≡ defaults_fault rows rights
  unfolding defaults_fault
  defaults_fault-same rows =
      ap (λ (kinds : Kinds). or_else kinds (defaults_fault (with_default rows left) rest)) (default_fault-first rows)

  abbrev end_fault : Shape → Bool → Held → Kinds
  end_fault s has_subcommand end = or_else (settle_fault s.rules s.args_override_self end)
      (or_else (defaults_fault (settled s.rules end).rows s.rules)
      (check_fault s (finished s.rules end) has_subcommand))

  end_fault-same : (s : Shape) (has_subcommand : Bool) (end : Held)
      → end_fault (with_lefts s) has_subcommand end ≡ end_fault (with_rights s) has_subcommand end
  end_fault-same s has_subcommand end = ap₂ or_else (settle_fault-same s.args_override_self end)
      (ap₂ or_else (ap (λ (h : Held). defaults_fault h.rows lefts) (settled-same rule rest p q end)
      ∙ defaults_fault-same (settled rights end).rows)
      (ap (λ (rows : List Row). check_fault (with_lefts s) rows has_subcommand) (finished-same rule rest p q end)))

  level_fault-same : (s : Shape) (names : walks.Names) (h : Held) (words : List Text) (has_subcommand : Bool)
      (below : Kinds)
      → level_fault (with_lefts s) names h words has_subcommand below
      ≡ level_fault (with_rights s) names h words has_subcommand below
  level_fault-same s names h words has_subcommand below = ap₂ or_else (walk_fault-same s names words (walk_from h))
      (ap (or_else below) (end_fault-same s has_subcommand (fold (walked lefts names) (walk_from h) words).held
      ∙ ap (λ (w : Walk). end_fault (with_rights s) has_subcommand w.held)
      (walk-same rule rest p q names words (walk_from h))))

  -- a command without subcommands
  abbrev leaf : Shape → App
  leaf s = record { top = s; subs = [] }

  pub built_fault-same : (s : Shape) (words : List Text)
      → built_fault (leaf (with_lefts s)) nothing_held words ≡ built_fault (leaf (with_rights s)) nothing_held words
  built_fault-same s words =
      let stop = (fold (walked lefts []) (walk_from nothing_held) words).stopped in
      level_fault-same s [] nothing_held words (is_some (entered (leaf s) stop)) (entered_fault (leaf s) stop)
      ∙ ap (λ (w : Walk). level_fault (with_rights s) [] nothing_held words (is_some (entered (leaf s) w.stopped))
      (entered_fault (leaf s) w.stopped)) (walk-same rule rest p q [] words (walk_from nothing_held))
